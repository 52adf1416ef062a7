-- The entry at a number in the tables of a program.
use Rattle.std.specs.Prelude.{ℕ, List, [], Option, slice_get, unwrap_or}
use Rattle.std.specs.Option.{option_and_then}
use Rattle.sc_code.specs.declared.program.Image.{Image}
use Rattle.sc_code.specs.declared.program.ClassCode.{ClassCode}
use Rattle.sc_code.specs.declared.program.FeatureCode.{FeatureCode}
use Rattle.sc_code.specs.Programs.{pool_of}

-- what the name of the number is in the class at the number, by its table
abbrev pub version_in : Image → ℕ → ℕ → Option FeatureCode
version_in p k x =
    option_and_then (λ (c : ClassCode). option_and_then (λ (v : Option FeatureCode). v) (slice_get c.features.items x))
    (slice_get p.classes.items k)

-- the list of the number
abbrev pub listed : List (List ℕ) → ℕ → List ℕ
listed lists k = unwrap_or (slice_get lists k) []

abbrev pub name_at : Image → ℕ → List ℕ
name_at p x = listed (pool_of p.pool).names x

abbrev pub formals_at : Image → ℕ → List ℕ
formals_at p k = listed (pool_of p.pool).demands k
