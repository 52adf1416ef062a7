-- The largest of numbers that are found one after the other.
use Rattle.std.proofs.Common.{◌≡◌, ℕ, max, ap, ◌∙◌, arith}

pub max_assoc : (a b c : ℕ) → max (max a b) c ≡ max a (max b c)
max_assoc a b c = omega arith

pub max_zero : (a : ℕ) → max a 0 ≡ a
max_zero a = omega arith

-- of two
pub of_two : (a b r x y : ℕ) → r ≡ max a b → a ≡ x → b ≡ y → r ≡ max x y
of_two a b r x y e ea eb = e ∙ ap (λ a. max a b) ea ∙ ap (max x) eb

-- of three
pub of_three : (a b c p r x y z : ℕ) → p ≡ max a b → r ≡ max p c → a ≡ x → b ≡ y → c ≡ z → r ≡ max x (max y z)
of_three a b c p r x y z ep er ea eb ec =
    er ∙ ap (λ p. max p c) (of_two a b p x y ep ea eb) ∙ ap (max (max x y)) ec ∙ max_assoc x y z

-- of those so far and of those that are left, where the first of these is found
pub one_more : (a b r x rest total : ℕ) → r ≡ max a b → b ≡ x → max a (max x rest) ≡ total → max r rest ≡ total
one_more a b r x rest total e eb et = ap (λ r. max r rest) (e ∙ ap (max a) eb) ∙ max_assoc a x rest ∙ et
