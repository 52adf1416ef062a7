-- The faults that are listed where judging reports one: what holds of each, and which of them are there.
use Rattle.std.proofs.Common.{◌≡◌, ◌<◌, zero, suc, Bool, true, false, List, [], ◌∷◌, ◌++◌, length, Ok, Err, refl, sym, subst, arith}
use Rattle.std.specs.Prelude.{All, Any, Contains, if◌then◌else◌}
use Rattle.std.proofs.lemmas.List.Elements.{All-nil, All-cons, All-append}
use Rattle.sc_text.specs.declared.token.Span.{Span}
use Rattle.sc_class.proofs.Anys.{any_later, any_left, any_right}
use Rattle.sc_rules.specs.declared.rule.Rule.{Rule}
use Rattle.sc_rules.specs.declared.fault.Fault.{Fault}
use Rattle.sc_rules.specs.Names.{Entities}
use Rattle.sc_rules.specs.Judging.{Judged}
use Rattle.sc_rules.proofs.Refusals.{Tells, tells, Gave, gave, refuses}
use Rattle.sc_faults.specs.FaultLists.{begins_with}
use Rattle.sc_faults.specs.Internal.Listing.{faults_at, faults_of_each, where_known}

-- the rule of the fault fails at its place, as P says
abbrev pub Holds : (Rule → Span → Type 0) → Fault → Type 0
Holds P f = P f.rule f.span

pub all_more : (P Q : Rule → Span → Type 0) (fs : List Fault) → ((r : Rule) (p : Span) → P r p → Q r p) → All (Holds P) fs →
    All (Holds Q) fs
all_more P Q fs g h = λ k d l. g _ _ (h k d l)

pub joined : (P : Rule → Span → Type 0) (fs gs : List Fault) → All (Holds P) fs → All (Holds P) gs → All (Holds P) (fs ++ gs)
joined P fs gs h k = All-append (Holds P) fs gs h k

-- what holds of none is no fault
pub none_left : (P : Rule → Span → Type 0) (fs : List Fault) → ((r : Rule) (p : Span) → P r p → ⊥) → All (Holds P) fs →
    fs ≡ []
none_left P [] n h = refl
none_left P (f ∷ fs) n h = absurd (n f.rule f.span (h 0 f first))
  where
    first : 0 < length (f ∷ fs)
    first = omega arith

-- ---- a site and its operands

first_all : (P : Rule → Span → Type 0) (b : Bool) (f : Fault) (fs : List Fault) → P f.rule f.span → All (Holds P) fs →
    All (Holds P) (if b then fs else f ∷ fs)
first_all P true f fs t h = h
first_all P false f fs t h = All-cons (Holds P) f fs t h

pub at_all : {A : Type 0} (P : Rule → Span → Type 0) (j : Judged A) (fs : List Fault) → Tells P j → All (Holds P) fs →
    All (Holds P) (faults_at j fs)
at_all P (Ok x) fs t h = h
at_all P (Err f) fs (tells t) h = first_all P (begins_with f fs) f fs t h

-- the faults of operands are listed
pub at_any : {A : Type 0} (P : Rule → Span → Type 0) (j : Judged A) (fs : List Fault) → Any (Holds P) fs →
    Any (Holds P) (faults_at j fs)
at_any P (Ok x) fs a = a
at_any P (Err f) fs a = by (begins_with f fs)
  where
    by : (b : Bool) → Any (Holds P) (if b then fs else f ∷ fs)
    by true = a
    by false = any_later f fs a

-- what is listed where entities of this kind are known
pub known_all : (P : Rule → Span → Type 0) (Given : Entities → Type 0) (Q : Rule → Span → Type 0) (j : Judged Entities)
    (f : Entities → List Fault) → Gave Given Q j → ((m : Entities) → Given m → All (Holds P) (f m)) →
    All (Holds P) (where_known j f)
known_all P Given Q (Ok m) f (gave g) h = h m g
known_all P Given Q (Err e) f (refuses g) h = All-nil (Holds P)

pub known_any : (P : Rule → Span → Type 0) (j : Judged Entities) (m : Entities) (f : Entities → List Fault) → j ≡ Ok m →
    Any (Holds P) (f m) → Any (Holds P) (where_known j f)
known_any P j m f e a = subst (λ j. Any (Holds P) (where_known j f)) (sym e) a

-- ---- several parts

contains_first : {A : Type 0} (x : A) (xs : List A) → Contains (x ∷ xs) x
contains_first x xs = (0, omega arith, refl)

contains_later : {A : Type 0} (x y : A) (xs : List A) → Contains xs y → Contains (x ∷ xs) y
contains_later x y xs (k, l, e) = (suc k, more l, e)
  where
    more : k < length xs → suc k < suc (length xs)
    more l = omega arith

pub each_all : {A : Type 0} (P : Rule → Span → Type 0) (list : A → List Fault) (xs : List A) →
    ((x : A) → Contains xs x → All (Holds P) (list x)) → All (Holds P) (faults_of_each list xs)
each_all P list [] t = All-nil (Holds P)
each_all P list (x ∷ xs) t =
    joined P (list x) (faults_of_each list xs) (t x (contains_first x xs))
    (each_all P list xs (λ y c. t y (contains_later x y xs c)))

-- the fault of one of them
pub each_any : {A : Type 0} (P : Rule → Span → Type 0) (list : A → List Fault) (xs : List A) (x : A) → Contains xs x →
    Any (Holds P) (list x) → Any (Holds P) (faults_of_each list xs)
each_any P list [] x (k, l, e) a = absurd (omega (arith, l))
each_any P list (y ∷ ys) x (zero, l, e) a =
    any_left (list y) (faults_of_each list ys) (subst (λ z. Any (Holds P) (list z)) (sym e) a)
each_any P list (y ∷ ys) x (suc k, l, e) a =
    any_right (list y) (faults_of_each list ys) (each_any P list ys x (k, less l, e) a)
  where
    less : suc k < suc (length ys) → k < length ys
    less l = omega arith
