-- What a walk that adds faults has added: part by part, and at its end.
use Rattle.std.proofs.Common.{◌≡◌, ℕ, Bool, true, false, ◌+◌, ◌<◌, ◌≤◌, List, [], ◌∷◌, ◌++◌, length, drop, get_or, map, Result, Ok, Err, refl, ap, sym, ◌∙◌, append-nil, append_assoc}
use Rattle.std.specs.Prelude.{OnOk, is_ok, if◌then◌else◌}
use Rattle.std.specs.declared.alloc.AllocError.{AllocError}
use Rattle.sc_class.proofs.Anys.{at, drop_end}
use Rattle.sc_rules.specs.declared.fault.Fault.{Fault}
use Rattle.sc_faults.specs.FaultLists.{begins_with}
use Rattle.sc_faults.specs.Internal.Listing.{with_first, faults_of_each}

-- two lists one after the other
pub both : (old mid new fs gs : List Fault) → mid ≡ old ++ fs → new ≡ mid ++ gs → new ≡ old ++ (fs ++ gs)
both old mid new fs gs p q = q ∙ ap (λ ms. ms ++ gs) p ∙ append_assoc old fs gs

-- a part, and what is left
pub next : (total now new piece here left : List Fault) → here ≡ piece ++ left → total ≡ now ++ here → new ≡ now ++ piece →
    total ≡ new ++ left
next total now new piece here left e inv q =
    inv ∙ ap (λ fs. now ++ fs) e ∙ sym (append_assoc now piece left) ∙ ap (λ fs. fs ++ left) (sym q)

-- nothing is left
pub end : (total now left : List Fault) → left ≡ [] → total ≡ now ++ left → now ≡ total
end total now left e inv = sym (inv ∙ ap (λ fs. now ++ fs) e ∙ append-nil now)

pub nothing_added : (old new : List Fault) → new ≡ old → new ≡ old ++ []
nothing_added old new e = e ∙ sym (append-nil old)

-- where what is added is another name for a list
pub named : (old new fs gs : List Fault) → fs ≡ gs → new ≡ old ++ fs → new ≡ old ++ gs
named old new fs gs e p = p ∙ ap (λ fs. old ++ fs) e

pub named_if_ok : (r : Result Unit AllocError) (old new fs gs : List Fault) → fs ≡ gs → OnOk r (new ≡ old ++ fs) →
    OnOk r (new ≡ old ++ gs)
named_if_ok (Ok u) old new fs gs e p = named old new fs gs e p
named_if_ok (Err f) old new fs gs e p = tt

pub both_if_ok : (r : Result Unit AllocError) (old mid new fs gs : List Fault) → mid ≡ old ++ fs → OnOk r (new ≡ mid ++ gs) →
    OnOk r (new ≡ old ++ (fs ++ gs))
both_if_ok (Ok u) old mid new fs gs p q = both old mid new fs gs p q
both_if_ok (Err f) old mid new fs gs p q = tt

-- a list that was moved
pub appended : (r : Result Unit AllocError) (old fs new : List Fault) → new ≡ (if is_ok r then old ++ fs else old) →
    OnOk r (new ≡ old ++ fs)
appended (Ok u) old fs new e = e
appended (Err f) old fs new e = tt

-- a fault before these, or among them
pub first_there : (r : Result Unit AllocError) (f : Fault) (seen fs old new : List Fault) → seen ≡ fs → begins_with f seen ≡ true →
    OnOk r (new ≡ old ++ fs) → OnOk r (new ≡ old ++ with_first f fs)
first_there r f seen fs old new e b p =
    named_if_ok r old new fs (with_first f fs) (by (begins_with f fs) (sym (ap (begins_with f) e) ∙ b)) p
  where
    by : (b : Bool) → b ≡ true → fs ≡ (if b then fs else f ∷ fs)
    by true e = refl
    by false e = cc

pub first_missing : (r : Result Unit AllocError) (f : Fault) (seen fs old mid new : List Fault) → seen ≡ fs →
    begins_with f seen ≡ false → mid ≡ old ++ (f ∷ []) → OnOk r (new ≡ mid ++ fs) → OnOk r (new ≡ old ++ with_first f fs)
first_missing r f seen fs old mid new e b p q =
    named_if_ok r old new (f ∷ fs) (with_first f fs) (by (begins_with f fs) (sym (ap (begins_with f) e) ∙ b))
    (both_if_ok r old mid new (f ∷ []) fs p q)
  where
    by : (b : Bool) → b ≡ false → f ∷ fs ≡ (if b then fs else f ∷ fs)
    by true e = cc
    by false e = refl

-- where nothing was there
pub from_none : (start fs new : List Fault) → start ≡ [] → new ≡ start ++ fs → new ≡ fs
from_none start fs new e q = q ∙ ap (λ start. start ++ fs) e

-- ---- parts that are judged one after the other

module _ {A B : Type 0} (view : A → B) (list : B → List Fault) (xs : List A) (i : ℕ) where
  abbrev pub from : ℕ → List Fault
  from i = faults_of_each list (map view (drop i xs))

  pub each_next : (x : A) (total now new : List Fault) → i < length xs → x ≡ get_or xs i x → total ≡ now ++ from i →
      new ≡ now ++ list (view x) → total ≡ new ++ from (i + 1)
  each_next x total now new l g inv q =
      next total now new (list (view x)) (from i) (from (i + 1)) (ap (λ ys. faults_of_each list (map view ys)) (at xs i x l g)) inv q

  pub each_end : (total now : List Fault) → length xs ≤ i → total ≡ now ++ from i → now ≡ total
  each_end total now l inv = end total now (from i) (ap (λ ys. faults_of_each list (map view ys)) (drop_end xs i l)) inv
