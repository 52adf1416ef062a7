-- What one thread has goes under locks.
use Rattle.std.proofs.Common.{◌≡◌, ◌++◌, ◌∷◌, [], ℕ, zero, suc, List, Option, None, Some, length, slice_get, slice_set, refl, sym, ap, subst, ◌∙◌, inl, inr}
use Rattle.sc_code.specs.declared.program.Image.{Image}
use Rattle.sc_handler.specs.declared.logged.Log.{Log}
use Rattle.sc_handler.specs.declared.settlement.Settlement.{Settlement}
use Rattle.sc_handler.specs.Logged.{settlements_of}
use Rattle.sc_request.specs.Cores.{log_of}
use Rattle.sc_play.specs.Regions.{PlainRegion, new_region}
use Rattle.sc_worklog.specs.Replaying.{AreMade}
use Rattle.sc_plant.specs.declared.left.Left.{Left}
use Rattle.sc_plant.specs.Alone.{IsOnWay}
use Rattle.sc_recording.specs.Recorded.{settlements_for}
use Rattle.sc_plant.specs.Sharing.{AreFit, AreLogs, Fits, IsOnWayIn}
use Rattle.sc_recording.proofs.Comparisons.{kept, ours}
use Rattle.sc_plant.proofs.OnWay.{get_past, set_each}
use Rattle.sc_plant.proofs.Openings.{some_image}

-- ---- logs

pub none_logs : (ls : List Log) → ls ≡ [] → AreLogs ls []
none_logs ls none h l e = let bad : slice_get [] h ≡ Some l = ap (λ (ms : List Log). slice_get ms h) (sym none) ∙ e in cc

pub more_logs : (ls ms : List Log) (l : Log) → AreLogs ls [] → settlements_of l ≡ [] → ms ≡ ls ++ l ∷ [] → AreLogs ms []
more_logs ls ms l logs empty more h m e = elim (get_past ls l m h (ap (λ (xs : List Log). slice_get xs h) (sym more) ∙ e)) [
  | inl before ↦ logs h m before
  | inr last ↦ ap (λ (x : Log). settlements_of x) (sym last.1) ∙ empty
]

-- a settlement is added to the log of its handler
pub noted : (ls : List Log) (es : List Settlement) (e : Settlement) (l m : Log) → slice_get ls e.handler ≡ Some l →
    settlements_of m ≡ settlements_of l ++ e ∷ [] → AreLogs ls es → AreLogs (slice_set ls e.handler m) (es ++ e ∷ [])
noted ls es e l m at more logs =
    set_each (λ (k : ℕ) (x : Log). settlements_of x ≡ settlements_for k (es ++ e ∷ [])) ls e.handler l m at
    (more ∙ ap (λ (fs : List Settlement). fs ++ e ∷ []) (logs e.handler l at) ∙ sym (ours es e))
    (λ k x apart there. logs k x there ∙ sym (kept k es e apart))

-- which isn't there
pub unnoted : (ls : List Log) (es : List Settlement) (e : Settlement) → slice_get ls e.handler ≡ None → AreLogs ls es → AreLogs ls (es ++ e ∷ [])
unnoted ls es e none logs h l at =
    logs h l at
    ∙ sym (kept h es e (λ same. let bad : None ≡ Some l = sym none ∙ ap (λ (k : ℕ). slice_get ls k) (sym same) ∙ at in cc))

-- ---- regions

pub are_fit : (image : Option Image) (left : Left) (ls : List Log) → IsOnWayIn image left → AreLogs ls (log_of left.core) →
    AreFit image left.regions.items ls
are_fit image left ls on logs h x l here there =
    let own = on.way.regions h x here in
    record {
      handler = own.handler;
      program = on.named ∙ ap (λ (p : Image). Some p) (sym own.program);
      made = subst (λ (es : List Settlement). ∥ AreMade es (new_region x.store.program x.handler) x ∥₁) (sym (logs h l there)) own.made;
    }

get_more : {A : Type 0} (xs : List A) (x y : A) (k : ℕ) → slice_get xs k ≡ Some y → slice_get (xs ++ x ∷ []) k ≡ Some y
get_more [] x y k e = cc
get_more (z ∷ xs) x y zero e = e
get_more (z ∷ xs) x y (suc k) e = get_more xs x y k e

get_end : {A : Type 0} (xs : List A) (x : A) → slice_get (xs ++ x ∷ []) (length xs) ≡ Some x
get_end [] x = refl
get_end (z ∷ xs) x = get_end xs x

-- the last ones are taken
module _ (image : Option Image) (xs ys : List PlainRegion) (x : PlainRegion) (ls ms : List Log) (l : Log) (regions : ys ≡ xs ++ x ∷ [])
    (logs : ms ≡ ls ++ l ∷ []) (fit : AreFit image ys ms) where
  both : AreFit image (xs ++ x ∷ []) (ls ++ l ∷ [])
  both = subst (λ (zs : List PlainRegion). AreFit image zs (ls ++ l ∷ [])) regions (subst (AreFit image ys) logs fit)

  pub last_fits : (n : ℕ) → length xs ≡ n → length ls ≡ n → Fits image n x l
  last_fits n few few_logs =
      both n x l (ap (λ (k : ℕ). slice_get (xs ++ x ∷ []) k) (sym few) ∙ get_end xs x)
      (ap (λ (k : ℕ). slice_get (ls ++ l ∷ []) k) (sym few_logs) ∙ get_end ls l)

  pub rest_fit : AreFit image xs ls
  rest_fit h y m here there = both h y m (get_more xs x y h here) (get_more ls l m h there)

-- ---- the program of the types

pub way_of : (image : Option Image) (left : Left) (p : Image) → IsOnWayIn image left → image ≡ Some p → IsOnWay p left
way_of image left p on is = subst (λ (q : Image). IsOnWay q left) (some_image on.program p (sym on.named ∙ is)) on.way
