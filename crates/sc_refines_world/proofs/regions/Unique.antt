-- Silent operations come to one visible operation.
use Rattle.std.proofs.Common.{◌≡◌, ℕ, zero, suc, Bool, true, false, List, Option, Some, None, refl, sym, ap, ◌∙◌}
use Rattle.std.specs.Prelude.{length, nat_lt, if◌then◌else◌}
use Rattle.std.specs.Option.{option_map}
use Rattle.sc_tree.specs.Plain.{System}
use Rattle.sc_model.specs.Invariants.{meets_invariant}
use Rattle.sc_model.specs.Limits.{max_objects}
use Rattle.sc_model.specs.Objects.{fresh_object}
use Rattle.sc_model.specs.Values.{Reference, Value}
use Rattle.sc_code.specs.declared.program.Image.{Image}
use Rattle.sc_code.specs.Machine.{Code, State, Act, Hop, Goes, Does, hop, hops, then_hop, does_with, creates_object, creates_here}
use Rattle.sc_code.specs.Operations.{CreationSite}
use Rattle.sc_acts.specs.declared.act.Act as told
use Rattle.sc_acts.specs.declared.act.Act.TheVariants as act
use Rattle.sc_acts.specs.declared.act.Calling.TheVariants as calling
use Rattle.sc_interp.specs.declared.hops.Hop as outcome
use Rattle.sc_interp.specs.declared.hops.Hop.TheVariants as hop_is
use Rattle.sc_interp.specs.Hopping.{IsVisible}
use Rattle.sc_interp.specs.Standing.{hopped, done, actuals, without}
use Rattle.sc_acts.specs.Tables.{name_at}

pub goes_same : (f g : State) → Goes f ≡ Goes g → f ≡ g
goes_same f g e = cc

pub does_goes : {A : Type 0} (a : Act) (f g : State) → Does a f ≡ Goes g → A
does_goes a f g e = cc

module _ (s : System) (c : Code) (me : Reference) (g h : State) (a : Act) (j : State) (x : Hop) (last : hop s c me g ≡ Does a j) (other : hop s c me h ≡ x)
    (shows : (k : State) → x ≡ Goes k → ⊥) where
  -- after none of them it is visible already
  at_once : (n : ℕ) (f : State) → hop s c me f ≡ Does a j → hops (suc n) s c me f ≡ Goes h → ⊥
  at_once n f is e = does_goes a j h (sym (ap (λ y. then_hop y (hops n s c me)) is) ∙ e)

  -- whatever so many and so many silent operations come to is the same
  pub one_visible : (m n : ℕ) (f : State) → hops m s c me f ≡ Goes g → hops n s c me f ≡ Goes h → x ≡ Does a j
  one_visible zero zero f d e = sym other ∙ ap (hop s c me) (goes_same h g (sym e ∙ d)) ∙ last
  one_visible zero (suc n) f d e = absurd (at_once n f (ap (hop s c me) (goes_same f g d) ∙ last) e)
  one_visible (suc m) zero f d e =
      elim (hop s c me f) as (λ y. hop s c me f ≡ y → then_hop y (hops m s c me) ≡ Goes g → x ≡ Does a j) [
        | Goes k ↦ λ is l. absurd (shows k (sym other ∙ ap (hop s c me) (goes_same h f (sym e)) ∙ is))
        | Does b k ↦ λ is l. does_goes b k g l
      ] refl d
  one_visible (suc m) (suc n) f d e =
      elim (hop s c me f) as (λ y. then_hop y (hops m s c me) ≡ Goes g → then_hop y (hops n s c me) ≡ Goes h → x ≡ Does a j) [
        | Goes k ↦ λ l r. one_visible m n k l r
        | Does b k ↦ λ l r. does_goes b k g l
      ] d e

-- ---- what is told is visible

abbrev IsShown : Hop → Type 0
IsShown x = (k : State) → x ≡ Goes k → ⊥

does_shown : (a : Act) (f : State) → IsShown (Does a f)
does_shown a f k e = does_goes a f k e

pub if_shown : (b : Bool) (x y : Hop) → IsShown x → IsShown y → IsShown (if b then x else y)
if_shown true x y l r = l
if_shown false x y l r = r

with_shown : (c : Code) (r : Reference) (a : Act) (f : State) → IsShown (does_with c r a f)
with_shown c r a f = if_shown (nat_lt (length f.values) c.depth) _ _ (λ k e. does_goes _ _ k e) (λ k e. does_goes _ _ k e)

object_shown : (s : System) (c : Code) (r : Reference) (procedure : Option (List ℕ)) (us : List Value) (f : State) → IsShown (creates_object s c r procedure us f)
object_shown s c r (Some x) us f = with_shown c r _ f
object_shown s c r None us f = if_shown (meets_invariant s (fresh_object s r.class)) _ _ (with_shown c r _ f) (λ k e. does_goes _ _ k e)

pub here_shown : (s : System) (c : Code) (me : Reference) (site : CreationSite) (us : List Value) (f : State) → IsShown (creates_here s c me site us f)
here_shown s c me site us f = if_shown (nat_lt (length f.objects) max_objects) _ _ (object_shown s c _ site.procedure us _) (λ k e. does_goes _ _ k e)

act_shown : (p : Image) (s : System) (c : Code) (me : Reference) (a : told.Act) (f : State) → IsShown (done p s c me a f)
act_shown p s c me (act.PrintInteger z) f = does_shown _ _
act_shown p s c me (act.PrintBoolean b) f = does_shown _ _
act_shown p s c me (act.PrintText k) f = does_shown _ _
act_shown p s c me (act.Until None) f = does_shown _ _
act_shown p s c me (act.Until (Some n)) f = does_shown _ _
act_shown p s c me (act.Enter calling.Unqualified r x n gives) f = does_shown _ _
act_shown p s c me (act.Enter calling.Qualified r x n gives) f = does_shown _ _
act_shown p s c me (act.Request q) f = does_shown _ _
act_shown p s c me (act.Create k x n) f =
    here_shown s c me (record { class = k; procedure = option_map (name_at p) x; count = n; passes = false }) (actuals n f.values) (without n f)
act_shown p s c me (act.CreateHandler q) f = does_shown _ _
act_shown p s c me act.Start f = does_shown _ _
act_shown p s c me (act.Refuse k) f = does_shown _ _
act_shown p s c me (act.Open first n) f = does_shown _ _
act_shown p s c me act.Leave f = does_shown _ _
act_shown p s c me act.Exit f = does_shown _ _

pub hop_shown : (p : Image) (s : System) (c : Code) (me : Reference) (o : outcome.Hop) (f : State) → IsVisible o → IsShown (hopped p s c me o f)
hop_shown p s c me hop_is.Passed f v = absurd v
hop_shown p s c me (hop_is.Failed why) f v = does_shown _ _
hop_shown p s c me (hop_is.Comes a) f v = act_shown p s c me a f
