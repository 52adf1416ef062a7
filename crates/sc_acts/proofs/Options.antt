-- What is so of optional values that are the same.
use Rattle.std.proofs.Common.{◌≡◌, Some, None}

pub some_same : {A : Type 0} (x y : A) → Some x ≡ Some y → x ≡ y
some_same x y e = cc

pub none_some : {A : Type 0} {B : Type 0} (x : A) → None ≡ Some x → B
none_some x e = cc
