-- What a record may replace.
use Rattle.std.proofs.Common.{◌≡◌, ℕ, List, Option, Some, None, ap, subst, take}
use Rattle.std.specs.Prelude.{IfSome}
use Rattle.sc_source.specs.Files.{IsLeftIn}
use Rattle.sc_serve.specs.Replaced.{begins_replaceable, heading_bytes, may_be_replaced}

-- the first bytes that a reader gives of a file say whether it may be replaced
pub beginning_says : {R : Type 0} (remaining : R → Option (List ℕ)) (replaced : Option R) (reader : R) (held : Option (List ℕ)) (beginning : List ℕ) →
    replaced ≡ Some reader → IfSome held (IsLeftIn remaining replaced) → IfSome (remaining reader) (λ bytes. beginning ≡ take heading_bytes bytes) →
    IfSome held (λ bytes. begins_replaceable beginning ≡ may_be_replaced bytes)
beginning_says remaining replaced reader None beginning is of_it read = tt
beginning_says remaining replaced reader (Some bytes) beginning is of_it read =
    let left : remaining reader ≡ Some bytes = subst (λ r. IsLeftIn remaining r bytes) is of_it in
    let told : beginning ≡ take heading_bytes bytes = subst (λ l. IfSome l (λ b. beginning ≡ take heading_bytes b)) left read in
    ap begins_replaceable told
