-- The request that a handler serves ends.
use Rattle.std.proofs.Common.{◌≡◌, ◌<◌, ◌==◌, ℕ, Bool, true, false, List, [], ◌∷◌, Option, Some, None, refl, sym, ap, subst, ◌∙◌, inl, inr, length, take, slice_index_or, arith}
use Rattle.std.proofs.Math.Path.{fun_ext}
use Rattle.std.proofs.lemmas.Bool.{cases_eq, eq-eqb, ne_eqb}
use Rattle.std.proofs.lemmas.List.Elements.{All-head}
use Rattle.std.specs.Prelude.{IfSome, map, slice_get, if◌then◌else◌}
use Rattle.sc_model.specs.declared.cause.Cause.TheVariants as cause
use Rattle.sc_lockpass.specs.declared.wait_conditions.session.Release.TheVariants as release_at
use Rattle.sc_region.specs.declared.value.Value.{Value}
use Rattle.sc_handler.specs.declared.handler.Posting.{Posting}
use Rattle.sc_handler.specs.declared.handler.HandlerStage as coded_stage
use Rattle.sc_handler.specs.declared.handler.HandlerStage.TheVariants as stage
use Rattle.sc_handler.specs.InMemory.{reserves_at, service_of, stage_of}
use Rattle.sc_handler.specs.Handlers.{Answer, Replied, Refused, Service, State, put}
use Rattle.sc_handler.specs.Changes.{first_of, without_first}
use Rattle.sc_request.specs.Sessions.{fail, finish, release}
use Rattle.sc_request.specs.Settling.{ends}
use Rattle.sc_request.specs.Sound.{AreServed, IsPlaced, IsServed, may_take_over}

over_not : (st : coded_stage.HandlerStage) → may_take_over (stage_of [] [] st) ≡ true → reserves_at st ≡ false
over_not stage.Idle e = refl
over_not stage.Runs e = refl
over_not (stage.HasMade k) e = refl
over_not stage.Reserves e = cc
over_not (stage.Awaits k c) e = refl

pub stands_over : (ps : List Posting) → AreServed (map service_of ps) → IfSome (slice_get ps 0) (λ p. reserves_at p.over ≡ false)
stands_over [] e = tt
stands_over (p ∷ ps) e = over_not p.over (All-head IsServed (service_of p) (map service_of ps) e).over

-- the first of them with its node
pub first_taken : (ps : List Posting) → first_of (map service_of (take 1 ps)) ≡ first_of (map service_of ps)
first_taken [] = refl
first_taken (p ∷ ps) = refl

pub none_first : (ps : List Posting) → (0 < length ps → ⊥) → None ≡ first_of (map service_of ps)
none_first [] never = refl
none_first (p ∷ ps) never = absurd (never (omega arith))

pub one_first : (ps : List Posting) (p : Posting) → 0 < length ps → p ≡ slice_index_or ps 0 p → Some (service_of p) ≡ first_of (map service_of ps)
one_first [] p some is = absurd (omega (arith, some))
one_first (q ∷ qs) p some is = ap (λ (r : Posting). Some (service_of r)) is

pub put_same : (h : ℕ) (s : State) → put h (s.handlers h) s ≡ s
put_same h s = λ i. record { count = s.count; handlers = fun_ext (λ k. same_at k) i; rights = s.rights }
  where
    same_at : (k : ℕ) → (if k == h then s.handlers h else s.handlers k) ≡ s.handlers k
    same_at k = elim (cases_eq k h) [
      | inl is ↦ rw (is, eq-eqb h h refl) refl
      | inr apart ↦ rw (ne_eqb k h apart) refl
    ]

no_service : (v : Service) → None ≡ Some v → ⊥
no_service v e = cc

some_service : (v u : Service) → Some v ≡ Some u → v ≡ u
some_service v u e = cc

-- the request that ends is the one served last
pub ended_is : (refused : Bool) (vs : List Service) (h : ℕ) (v : Option Value) (ks : List ℕ) (s s1 s2 s3 : State) (p : Service) (a : Answer) →
    Some p ≡ first_of vs → s1 ≡ put h (without_first refused vs (s.handlers h)) s → s2 ≡ release release_at.Exit ks s1 →
    a ≡ (if refused then Refused else Replied v) → s3 ≡ finish p.posted a s2 → s3 ≡ ends h v ks refused vs s
ended_is refused [] h v ks s s1 s2 s3 p a is e f g i = absurd (no_service p (sym is))
ended_is true (u ∷ us) h v ks s s1 s2 s3 p a is e f g i =
    i ∙ ap (λ (z : State). finish p.posted a z) (f ∙ ap (λ (z : State). release release_at.Exit ks z) e)
    ∙ ap (λ (z : Answer). finish p.posted z (release release_at.Refusal ks (put h (without_first true (u ∷ us) (s.handlers h)) s))) g
    ∙ ap (λ (z : Service). finish z.posted Refused (release release_at.Refusal ks (put h (without_first true (u ∷ us) (s.handlers h)) s))) (some_service p u is)
ended_is false (u ∷ us) h v ks s s1 s2 s3 p a is e f g i =
    i ∙ ap (λ (z : State). finish p.posted a z) (f ∙ ap (λ (z : State). release release_at.Exit ks z) e)
    ∙ ap (λ (z : Answer). finish p.posted z (release release_at.Exit ks (put h (without_first false (u ∷ us) (s.handlers h)) s))) g
    ∙ ap (λ (z : Service). finish z.posted (Replied v) (release release_at.Exit ks (put h (without_first false (u ∷ us) (s.handlers h)) s))) (some_service p u is)

pub first_placed : (vs : List Service) (p : Service) → Some p ≡ first_of vs → AreServed vs → IsPlaced p.posted
first_placed [] p is e = absurd (no_service p (sym is))
first_placed (u ∷ us) p is e = subst (λ (z : Service). IsPlaced z.posted) (sym (some_service p u is)) (All-head IsServed u us e).placed

pub none_served : (vs : List Service) → None ≡ first_of vs → vs ≡ []
none_served [] e = refl
none_served (u ∷ us) e = absurd (no_service u e)

-- where it serves none, the handler fails
pub not_popped : (refused : Bool) (vs : List Service) (h : ℕ) (s s1 : State) → None ≡ first_of vs → s1 ≡ put h (without_first refused vs (s.handlers h)) s → s1 ≡ s
not_popped refused [] h s s1 none e = e ∙ put_same h s
not_popped refused (u ∷ us) h s s1 none e = absurd (no_service u none)

pub ended_none : (refused : Bool) (vs : List Service) (h : ℕ) (v : Option Value) (ks : List ℕ) (s s1 s2 : State) → None ≡ first_of vs →
    s1 ≡ put h (without_first refused vs (s.handlers h)) s → s2 ≡ fail h cause.BadCode s1 → s2 ≡ ends h v ks refused vs s
ended_none refused [] h v ks s s1 s2 none e f = f ∙ ap (λ (z : State). fail h cause.BadCode z) (e ∙ put_same h s)
ended_none refused (u ∷ us) h v ks s s1 s2 none e f = absurd (no_service u none)
