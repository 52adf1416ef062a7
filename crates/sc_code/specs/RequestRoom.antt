-- Programs whose requests have room for all that they carry.
use Rattle.std.specs.Prelude.{◌≡◌, ◌≤◌, ◌<◌, ℕ, List, Some, length, slice_get}
use Rattle.sc_code.specs.declared.program.Image.{Image}
use Rattle.sc_code.specs.declared.site.CallSite.{CallSite}
use Rattle.sc_code.specs.declared.site.CreationSite.{CreationSite}
use Rattle.sc_code.specs.declared.site.Heads.{Heads}
use Rattle.sc_code.specs.Programs.{pool_of}

-- No name has two numbers.
abbrev pub AreDistinct : List (List ℕ) → Type 0
AreDistinct names =
    (j k : ℕ) (name : List ℕ) → slice_get names j ≡ Some name → slice_get names k ≡ Some name → j ≡ k

-- No call has more than 16 actuals.
abbrev pub CallsFit : List CallSite → Type 0
CallsFit calls = (number : ℕ) (site : CallSite) → slice_get calls number ≡ Some site → site.count < 17

-- No creation has more than 16 actuals, and each is of a class with a number below 256.
abbrev pub CreationsFit : List CreationSite → Type 0
CreationsFit creations =
    (number : ℕ) (site : CreationSite) → slice_get creations number ≡ Some site → (site.count < 17) × (site.class < 256)

-- No separate block has more than 16 heads.
abbrev pub BlocksFit : List Heads → Type 0
BlocksFit blocks = (number : ℕ) (heads : Heads) → slice_get blocks number ≡ Some heads → heads.count < 17

-- Requests have room for what the program names: no name has two numbers, there are at most 2^32 of them, and no
-- call, creation or separate block has more than 16 actuals or heads; creations are of classes with numbers below
-- 256.
pub record FitsRequests (p : Image) : Type 0 where
  pub distinct : AreDistinct (pool_of p.pool).names
  pub names : length (pool_of p.pool).names ≤ 4294967296
  pub calls : CallsFit (pool_of p.pool).calls
  pub creations : CreationsFit (pool_of p.pool).creations
  pub blocks : BlocksFit (pool_of p.pool).blocks
