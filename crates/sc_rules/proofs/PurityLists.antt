-- Lists of effects: what stands in a list that is put together.
use Rattle.std.proofs.Common.{◌≡◌, Bool, true, false, List, [], ◌∷◌, Option, Some, None, refl, sym, subst}
use Rattle.std.specs.Prelude.{◌++◌}
use Rattle.std.specs.List.{flat_map, list_any}
use Rattle.sc_rules.specs.Names.{RoutineName}
use Rattle.sc_rules.specs.JudgingPurity.{Effect, side_effect, routine_call, side_effect_if, call_if_any, is_side_effect, Lists, first, later}

pub in_left : {A : Type 0} {x : A} {xs : List A} (ys : List A) → Lists x xs → Lists x (xs ++ ys)
in_left ys first = first
in_left ys (later p) = later (in_left ys p)

pub in_right : {A : Type 0} {x : A} (xs : List A) {ys : List A} → Lists x ys → Lists x (xs ++ ys)
in_right [] p = p
in_right (x ∷ xs) p = later (in_right xs p)

pub in_either : {A : Type 0} {x : A} {P : Type 0} (xs ys : List A) → Lists x (xs ++ ys) → (Lists x xs → P) →
    (Lists x ys → P) → P
in_either [] ys p f g = g p
in_either (x ∷ xs) ys first f g = f first
in_either (x ∷ xs) ys (later p) f g = in_either xs ys p (λ q. f (later q)) g

-- what passes the test is a side effect, and only that is listed
pub from_side_effect_if : (P : Effect → Type 0) (b : Bool) → (b ≡ true → P side_effect) → {d : Effect} →
    Lists d (side_effect_if b) → P d
from_side_effect_if P true f first = f refl
from_side_effect_if P true f (later p) = elim p [ ]
from_side_effect_if P false f p = elim p [ ]

pub in_side_effect_if : (b : Bool) → b ≡ true → Lists side_effect (side_effect_if b)
in_side_effect_if true e = first
in_side_effect_if false e = cc

pub from_call_if_any : (P : Effect → Type 0) (o : Option RoutineName) →
    ((f : RoutineName) → o ≡ Some f → P (routine_call f)) → {d : Effect} →
    Lists d (call_if_any o) → P d
from_call_if_any P None f p = elim p [ ]
from_call_if_any P (Some g) f first = f g refl
from_call_if_any P (Some g) f (later p) = elim p [ ]

pub in_call_if_any : (o : Option RoutineName) (f : RoutineName) → o ≡ Some f → Lists (routine_call f) (call_if_any o)
in_call_if_any o f e = subst (λ o. Lists (routine_call f) (call_if_any o)) (sym e) first

-- one of those that a list gives element by element
pub data AmongEach {A B : Type 0} (f : A → List B) (y : B) (xs : List A) : Type 0 where
  among : (x : A) → Lists x xs → Lists y (f x) → AmongEach f y xs

pub in_each : {A B : Type 0} (f : A → List B) {y : B} {x : A} {xs : List A} → Lists x xs → Lists y (f x) →
    Lists y (flat_map f xs)
in_each f (first {xs}) q = in_left (flat_map f xs) q
in_each f (later {y} p) q = in_right (f y) (in_each f p q)

pub from_each : {A B : Type 0} (f : A → List B) {y : B} (xs : List A) → Lists y (flat_map f xs) → AmongEach f y xs
from_each f [] p = elim p [ ]
from_each f {y} (x ∷ xs) p = in_either (f x) (flat_map f xs) p (λ q. among x first q)
    (λ q. later_among (from_each f xs q))
  where
    later_among : AmongEach f y xs → AmongEach f y (x ∷ xs)
    later_among (among z p q) = among z (later p) q

pub side_effect_listed : (ds : List Effect) → Lists side_effect ds → list_any is_side_effect ds ≡ true
side_effect_listed [] p = elim p [ ]
side_effect_listed (side_effect ∷ ds) p = refl
side_effect_listed (routine_call f ∷ ds) (later p) = side_effect_listed ds p

pub listed_side_effect : (ds : List Effect) → list_any is_side_effect ds ≡ true → Lists side_effect ds
listed_side_effect [] e = cc
listed_side_effect (side_effect ∷ ds) e = first
listed_side_effect (routine_call f ∷ ds) e = later (listed_side_effect ds e)
