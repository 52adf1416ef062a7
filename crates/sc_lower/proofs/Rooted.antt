-- The class that a system without faults is run from is one of its own.
use Rattle.std.proofs.Common.{◌≡◌, ◌<◌, ◌≤◌, ℕ, Bool, true, false, cond, List, Option, Some, None, length, refl, ap, ◌∙◌, arith}
use Rattle.std.proofs.lemmas.List.{length-map}
use Rattle.std.specs.Prelude.{◌||◌}
use Rattle.std.specs.Option.{option_map, option_map_or}
use Rattle.sc_tree.specs.Plain.{Class, System}
use Rattle.sc_class.specs.declared.identity.ClassId.{ClassId}
use Rattle.sc_class.specs.declared.identity.ClassId.TheVariants as class
use Rattle.sc_class.specs.declared.fault.ClassFault.TheVariants as fault
use Rattle.sc_class.specs.Names.{number_among}
use Rattle.sc_class.specs.ClassNames.{Root, class_names, class_named, is_any, is_none, is_integer, is_boolean, number_of}
use Rattle.sc_class.specs.Faults.ClassRules.{IsFaultless, creates_by, has_root, no_root}
use Rattle.sc_class.proofs.Ancestry.{number_in_names}
use Rattle.sc_class.proofs.NameLemmas.{number_below}
use Rattle.sc_lower.proofs.FittingExpressions.{classes_few}

rooted : (b : Bool) → (b ≡ false → ⊥) → b ≡ true
rooted true f = refl
rooted false f = absurd (f refl)

numbered : (s : System) (x : List ℕ) (o : Option ℕ) → option_map_or (creates_by s x) o false ≡ true → (k : ℕ) × (o ≡ Some k)
numbered s x None e = cc
numbered s x (Some k) e = (k, refl)

-- there is a class of the root's name
pub root_numbered : (s : System) (root : Root) → IsFaultless s root → (k : ℕ) × (number_of s root.class ≡ Some k)
root_numbered s root none = numbered s root.procedure (number_of s root.class) (rooted (has_root s root) (λ e. none fault.NoRoot (no_root e)))

-- a class that has a number is declared with it
pub number_names : (s : System) (x : List ℕ) (k : ℕ) → number_of s x ≡ Some k → class_named s x ≡ Some (class.Declared k)
number_names s x k = by (is_any x) (is_none x) (is_integer x) (is_boolean x)
  where
    among : Option ℕ
    among = number_among x (class_names s.classes)

    by : (a b c d : Bool) → cond (((a || b) || c) || d) None among ≡ Some k →
        cond a (Some class.Any) (cond b (Some class.None) (cond c (Some class.Integer) (cond d (Some class.Boolean) (option_map (λ k. class.Declared k) among)))) ≡ Some (class.Declared k)
    by true b c d e = cc
    by false true c d e = cc
    by false false true d e = cc
    by false false false true e = cc
    by false false false false e = ap (option_map (λ k. class.Declared k)) e

-- a class that has a number is one of the classes
number_within : (s : System) (x : List ℕ) (k : ℕ) → number_of s x ≡ Some k → k < length s.classes
number_within s x k e =
    let names = class_names s.classes in
    let l = number_below x names k (number_in_names x names k e) in
    omega (arith, l, length-map s.classes (λ (c : Class). c.name))

-- and in a system without faults there are at most 256
small_number : (k n : ℕ) → k < n → n ≤ 256 → k < 256
small_number k n l few = omega (arith, l, few)

-- what the root's class stands for has the number that it has, which is below 256
pub root_is : (s : System) (root : Root) → IsFaultless s root → (o : Option ClassId) → o ≡ class_named s root.class →
    (k : ℕ) × (o ≡ Some (class.Declared k)) × (number_of s root.class ≡ Some k) × (k < 256)
root_is s root none o e =
    let found = root_numbered s root none in (
      found.0,
      e ∙ number_names s root.class found.0 found.1,
      found.1,
      small_number found.0 (length s.classes) (number_within s root.class found.0 found.1) (classes_few s root none),
    )
