-- States in which the entries that handlers reserved for last are the same.
use Rattle.std.proofs.Common.{ℕ, ◌≡◌, ◌⊎◌, ◌==◌, ◌&&◌, zero, suc, Bool, true, false, List, [], ◌∷◌, Option, Some, None, Contains, refl, sym, ap, subst, ◌∙◌, inl, inr, arith}
use Rattle.std.proofs.lemmas.Bool.{eqb-true}
use Rattle.std.specs.Prelude.{if◌then◌else◌}
use Rattle.std.specs.List.{list_any}
use Rattle.sc_lockpass.specs.Rights.{is_among, is_handler}
use Rattle.sc_lockpass.specs.Passing.{Passed}
use Rattle.sc_lockpass.specs.wait_conditions.Reservations.{ends_session}
use Rattle.sc_lockpass.specs.declared.wait_conditions.mark.Marked.{Marked}
use Rattle.sc_lockpass.specs.declared.wait_conditions.session.Release.{Release}
use Rattle.sc_lockpass.specs.declared.wait_conditions.session.Release.TheVariants as release_at
use Rattle.sc_model.specs.declared.cause.Cause.{Cause}
use Rattle.sc_handler.specs.Handlers.{Posted, Answer, HandlerStage, Idle, Reserves, Service, service, Handler, State, put, with_stage}
use Rattle.sc_handler.specs.Changes.{session_ended, placed, answered, is_waited_by, requests_at, told, fallen, serves, counted_refusal}
use Rattle.sc_request.specs.Sessions.{release, passes, send, answer_to, return_rights, finish, fail}
use Rattle.sc_machine_laws.specs.settlements.Entries.{KeepsEntry, is_reserving, EntryStays}

-- ---- one handler

-- all that counts is as it was
pub record Same (x y : Handler) : Type 0 where
  pub stage : y.stage ≡ x.stage
  pub services : y.services ≡ x.services
  pub entry : y.entry ≡ x.entry

pub same_keeps : (x y : Handler) → Same x y → KeepsEntry x → KeepsEntry y
same_keeps x y e k = record {
  entered = λ ks mark is. e.entry ∙ k.entered ks mark (sym e.stage ∙ is);
  over = λ v i. k.over v (subst (λ (vs : List Service). Contains vs v) e.services i);
}

-- the entry stays
pub record Kept (x y : Handler) : Type 0 where
  pub keeps : KeepsEntry x → KeepsEntry y
  pub entry : y.entry ≡ x.entry

pub kept_same : (x : Handler) → Kept x x
kept_same x = record { keeps = λ k. k; entry = refl }

kept_stays : (x y z : Handler) → Kept x y → EntryStays y z → EntryStays x z
kept_stays x y z p q = record { keeps = λ k. q.keeps (p.keeps k); stays = by q.stays }
  where
    by : (z.entry ≡ y.entry) ⊎ ((is_reserving z.stage ≡ true) ⊎ (z.stage ≡ Idle)) → (z.entry ≡ x.entry) ⊎ ((is_reserving z.stage ≡ true) ⊎ (z.stage ≡ Idle))
    by (inl e) = inl (e ∙ p.entry)
    by (inr r) = inr r

pub stays_same : (x y z : Handler) → EntryStays x y → Same y z → EntryStays x z
stays_same x y z p q = record { keeps = λ k. same_keeps y z q (p.keeps k); stays = by p.stays }
  where
    by : (y.entry ≡ x.entry) ⊎ ((is_reserving y.stage ≡ true) ⊎ (y.stage ≡ Idle)) → (z.entry ≡ x.entry) ⊎ ((is_reserving z.stage ≡ true) ⊎ (z.stage ≡ Idle))
    by (inl e) = inl (q.entry ∙ e)
    by (inr (inl r)) = inr (inl (ap is_reserving q.stage ∙ r))
    by (inr (inr r)) = inr (inr (q.stage ∙ r))

pub of_kept : (x y : Handler) → Kept x y → EntryStays x y
of_kept x y p = record { keeps = p.keeps; stays = inl p.entry }

same : (x : Handler) → Same x x
same x = record { stage = refl; services = refl; entry = refl }

session_same : (b : Bool) (x : Handler) → Same x (session_ended b x)
session_same true x = record { stage = refl; services = refl; entry = refl }
session_same false x = record { stage = refl; services = refl; entry = refl }

told_same : (b : Bool) (x : Handler) → Same x (told b x)
told_same true x = record { stage = refl; services = refl; entry = refl }
told_same false x = record { stage = refl; services = refl; entry = refl }

placed_same : (b : Bool) (p : Posted) (x : Handler) → Same x (placed b p x)
placed_same true p x = record { stage = refl; services = refl; entry = refl }
placed_same false p x = record { stage = refl; services = refl; entry = refl }

pub refusal_same : (b : Bool) (x : Handler) → Same x (counted_refusal b x)
refusal_same true x = record { stage = refl; services = refl; entry = refl }
refusal_same false x = record { stage = refl; services = refl; entry = refl }

-- a stage at which nothing is reserved
pub plain : (x : Handler) (stage : HandlerStage) → is_reserving stage ≡ false → Kept x (record x { stage = stage })
plain x stage e = record { keeps = λ k. record { entered = λ ks mark is. no (sym e ∙ ap is_reserving is); over = k.over }; entry = refl }
  where
    no : {A : Type 0} → false ≡ true → A
    no e = cc

pub served : (x : Handler) (p : Posted) (stage : HandlerStage) → x.stage ≡ stage → is_reserving stage ≡ false → Kept x (serves p x)
served x p stage is e = record {
  keeps = λ k. record { entered = λ ks mark i. no (ap is_reserving i); over = λ v i. by k v i };
  entry = refl;
}
  where
    no : {A : Type 0} → false ≡ true → A
    no e = cc

    by : KeepsEntry x → (v : Service) → Contains (service p x.stage ∷ x.services) v → (ks : List ℕ) (mark : List Marked) → v.over ≡ Reserves ks mark → ⊥
    by k v (zero, l, i) ks mark j =
        let first : service p x.stage ≡ v = i in
        no (sym e ∙ ap is_reserving (sym is ∙ ap (λ (u : Service). u.over) first ∙ j))
    by k v (suc n, l, i) ks mark j = k.over v (n, omega (arith, l), i) ks mark j

-- ---- states

abbrev pub Stay : State → State → Type 0
Stay s t = (k : ℕ) → EntryStays (s.handlers k) (t.handlers k)

abbrev pub Keep : State → State → Type 0
Keep s t = (k : ℕ) → Kept (s.handlers k) (t.handlers k)

abbrev pub AreSame : State → State → Type 0
AreSame s t = (k : ℕ) → Same (s.handlers k) (t.handlers k)

pub stay : (s : State) → Stay s s
stay s k = of_kept (s.handlers k) (s.handlers k) (kept_same (s.handlers k))

pub then_stay : (s t u : State) → Keep s t → Stay t u → Stay s u
then_stay s t u p q k = kept_stays (s.handlers k) (t.handlers k) (u.handlers k) (p k) (q k)

pub then_same : (s t u : State) → Stay s t → AreSame t u → Stay s u
then_same s t u p q k = stays_same (s.handlers k) (t.handlers k) (u.handlers k) (p k) (q k)

all_same : (s : State) → AreSame s s
all_same s k = same (s.handlers k)

same_same : (s t u : State) → AreSame s t → AreSame t u → AreSame s u
same_same s t u p q k = record {
  stage = (q k).stage ∙ (p k).stage;
  services = (q k).services ∙ (p k).services;
  entry = (q k).entry ∙ (p k).entry;
}

put_with : (P : Handler → Handler → Type 0) → ((x : Handler) → P x x) → (h : ℕ) (x : Handler) (s : State) → P (s.handlers h) x → (k : ℕ) → P (s.handlers k) ((put h x s).handlers k)
put_with P none h x s p k = by (k == h) refl
  where
    by : (b : Bool) → (k == h) ≡ b → P (s.handlers k) (if b then x else s.handlers k)
    by true e = subst (λ (i : ℕ). P (s.handlers i) x) (sym (eqb-true k h e)) p
    by false e = none (s.handlers k)

pub put_stays : (h : ℕ) (x : Handler) (s : State) → EntryStays (s.handlers h) x → Stay s (put h x s)
put_stays h x s p = put_with EntryStays (λ y. of_kept y y (kept_same y)) h x s p

pub put_keeps : (h : ℕ) (x : Handler) (s : State) → Kept (s.handlers h) x → Keep s (put h x s)
put_keeps h x s p = put_with Kept kept_same h x s p

put_same : (h : ℕ) (x : Handler) (s : State) → Same (s.handlers h) x → AreSame s (put h x s)
put_same h x s p = put_with Same same h x s p

pub release_same : (how : Release) (ks : List ℕ) (s : State) → AreSame s (release how ks s)
release_same how ks s k = session_same (ends_session how && is_among k ks) (s.handlers k)

pub staged : (h : ℕ) (stage : HandlerStage) (s : State) → is_reserving stage ≡ false → Keep s (with_stage h stage s)
staged h stage s e = put_keeps h _ s (plain (s.handlers h) stage e)

pub passes_same : (b : Bool) (h k : ℕ) (s : State) → AreSame s (passes b h k s)
passes_same true h k s = all_same s
passes_same false h k s = all_same s

pub send_same : (b : Bool) (k : ℕ) (p : Posted) (s : State) → AreSame s (send b k p s)
send_same b k p s = put_same k _ s (placed_same b p (s.handlers k))

returned_same : (p : Option Passed) (s : State) → AreSame s (return_rights p s)
returned_same None s = all_same s
returned_same (Some p) s = all_same s

answer_same : (b : Bool) (p : Option ℕ) (a : Answer) (s : State) → AreSame s (answer_to b p a s)
answer_same true (Some p) a s = put_same p (answered a (s.handlers p)) s (record { stage = refl; services = refl; entry = refl })
answer_same true None a s = all_same s
answer_same false p a s = all_same s

pub finish_same : (p : Posted) (a : Answer) (s : State) → AreSame s (finish p a s)
finish_same p a s = same_same s (return_rights p.passed s) (finish p a s) (returned_same p.passed s) (answer_same p.request.is_waited p.request.poster a (return_rights p.passed s))

fallen_stays : (why : Cause) (x : Handler) → EntryStays x (fallen why x)
fallen_stays why x = record {
  keeps = λ k. record { entered = λ ks mark i. no (ap is_reserving i); over = λ v i. none v i };
  stays = inr (inr refl);
}
  where
    no : {A : Type 0} → false ≡ true → A
    no e = cc

    none : (v : Service) → Contains [] v → (ks : List ℕ) (mark : List Marked) → v.over ≡ Reserves ks mark → ⊥
    none v (i, l, e) ks mark j = omega (arith, l)

pub fail_stays : (h : ℕ) (why : Cause) (s : State) → Stay s (fail h why s)
fail_stays h why s k = by (k == h)
  where
    ended : Bool
    ended = ends_session release_at.Failure && is_handler h (s.rights.queue k)

    waits : Bool
    waits = list_any (is_waited_by k) (requests_at (s.handlers h))

    by : (b : Bool) → EntryStays (s.handlers k) (session_ended ended (if b then fallen why (s.handlers k) else told waits (s.handlers k)))
    by true = stays_same (s.handlers k) (fallen why (s.handlers k)) _ (fallen_stays why (s.handlers k)) (session_same ended (fallen why (s.handlers k)))
    by false = stays_same (s.handlers k) (told waits (s.handlers k)) _
        (stays_same (s.handlers k) (s.handlers k) _ (of_kept (s.handlers k) (s.handlers k) (kept_same (s.handlers k))) (told_same waits (s.handlers k)))
        (session_same ended (told waits (s.handlers k)))

pub if_stays : (b : Bool) (s t u : State) → Stay s t → Stay s u → Stay s (if b then t else u)
if_stays true s t u p q = p
if_stays false s t u p q = q
