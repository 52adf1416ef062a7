-- The first of several places in the text, and of the names that are one text.
use Rattle.std.proofs.Common.{◌≡◌, ℕ, Bool, true, false, List, [], ◌∷◌, ◌++◌, Option, Some, None, refl, ap, sym, ◌∙◌, arith}
use Rattle.std.specs.Prelude.{bytes_eq, nat_lt, if◌then◌else◌}
use Rattle.std.proofs.lemmas.Bool.Decides.{nat_tests}
use Rattle.sc_text.specs.declared.token.Span.{Span}
use Rattle.sc_tree.specs.Plain.{Name}
use Rattle.sc_class.specs.Internal.Found.{first_place}
use Rattle.sc_class.specs.Internal.NameIndex.{place_among}

pub first_place-none : (a : Option Span) → first_place a None ≡ a
first_place-none None = refl
first_place-none (Some p) = refl

abbrev picked : Bool → Span → Span → Option Span
picked b p q = if b then Some q else Some p

three : (p q r : Span) (a b c : Bool) → nat_lt q.start p.start ≡ a → nat_lt r.start q.start ≡ b → nat_lt r.start p.start ≡ c →
    first_place (picked a p q) (Some r) ≡ first_place (Some p) (picked b q r)
three p q r true true true i j k = ap (λ x. picked x q r) j ∙ sym (ap (λ x. picked x p r) k)
three p q r true true false i j k = absurd (grind (arith, nat_tests))
three p q r true false c i j k = ap (λ x. picked x q r) j ∙ sym (ap (λ x. picked x p q) i)
three p q r false true c i j k = refl
three p q r false false true i j k = absurd (grind (arith, nat_tests))
three p q r false false false i j k = ap (λ x. picked x p r) k ∙ sym (ap (λ x. picked x p q) i)

pub first_place-assoc : (a b c : Option Span) → first_place (first_place a b) c ≡ first_place a (first_place b c)
first_place-assoc None b c = refl
first_place-assoc (Some p) None c = refl
first_place-assoc (Some p) (Some q) None = first_place-none (first_place (Some p) (Some q))
first_place-assoc (Some p) (Some q) (Some r) = three p q r (nat_lt q.start p.start) (nat_lt r.start q.start) (nat_lt r.start p.start) refl refl refl

-- ---- names

-- the place of a name, where it is this text
abbrev pub place_if : List ℕ → Name → Option Span
place_if x n = if bytes_eq n.text x then Some n.span else None

pub place-append : (x : List ℕ) (ns ms : List Name) → place_among x (ns ++ ms) ≡ first_place (place_among x ns) (place_among x ms)
place-append x [] ms = refl
place-append x (n ∷ ns) ms = ap (first_place (place_if x n)) (place-append x ns ms) ∙ sym (first_place-assoc (place_if x n) (place_among x ns) (place_among x ms))

pub place-one : (x : List ℕ) (ns : List Name) (n : Name) → place_among x (ns ++ n ∷ []) ≡ first_place (place_among x ns) (place_if x n)
place-one x ns n = place-append x ns (n ∷ []) ∙ ap (first_place (place_among x ns)) (first_place-none (place_if x n))
