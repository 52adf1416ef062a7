-- What a slice lends at a number is what stands there.
use Rattle.std.proofs.Common.{◌≡◌, ℕ, List, Option, Some, None, length, refl, sym, ap, ◌∙◌}
use Rattle.std.proofs.lemmas.Option.{slice_get_past, slice_get_read}
use Rattle.std.specs.Borrow.{Bor}
use Rattle.std.specs.Option.{option_copied}
use Rattle.std.specs.Prelude.{slice_get}
use Rattle.std.specs.Slice.{IsGetResult}

pub lent : {A : Type 0} (xs : List A) (i : ℕ) (o : Option (Bor A)) → IsGetResult xs i i o → option_copied o ≡ slice_get xs i
lent xs i None g = sym (slice_get_past xs i g.3)
lent xs i (Some x) g = sym (slice_get_read xs (length xs) i x.now refl g.3.0 g.1)

-- the same where the list and what is lent of it are known by other names
pub lent_at : {A : Type 0} (xs ys : List A) (i : ℕ) (o p : Option (Bor A)) → IsGetResult xs i i o → xs ≡ ys → o ≡ p → slice_get ys i ≡ option_copied p
lent_at xs ys i o p g same is = ap (λ zs. slice_get zs i) (sym same) ∙ sym (lent xs i o g) ∙ ap option_copied is

-- so is a copy of what it lends
pub copied_at : {A : Type 0} (xs ys : List A) (i : ℕ) (o : Option (Bor A)) (r : Option A) → IsGetResult xs i i o → xs ≡ ys → r ≡ option_copied o → r ≡ slice_get ys i
copied_at xs ys i o r g same is = is ∙ lent xs i o g ∙ ap (λ zs. slice_get zs i) same
