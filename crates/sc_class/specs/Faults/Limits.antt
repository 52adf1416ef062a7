-- How many classes, features, formals, locals and names of a block there may be.
use Rattle.std.specs.Prelude.{◌≡◌, ◌<◌, ◌+◌, ℕ, Bool, true, false, length, ◌||◌, Any, nat_lt}
use Rattle.sc_tree.specs.Plain.{System, FeatureKind, Attribute, Routine, Instr, Assign, PrintText, CallRoutine, Create, If, Loop, Check, Block, Instrs, no_instrs, instr_then, Branches, no_branches, branch_then}
use Rattle.sc_class.specs.Tables.Features.{features}

abbrev pub max_classes : ℕ
max_classes = 256

-- inherited ones too
abbrev pub max_features : ℕ
max_features = 256

abbrev pub max_formals : ℕ
max_formals = 16

-- the names of blocks too
abbrev pub max_locals : ℕ
max_locals = 256

abbrev pub max_heads : ℕ
max_heads = 16

unfoldable mutual
  -- how many names the blocks of an instruction have
  pub block_names : Instr → ℕ
  block_names (Assign s v e) = 0
  block_names (PrintText s t) = 0
  block_names (CallRoutine s t n es) = 0
  block_names (Create s c) = 0
  block_names (If s e body branches other) = block_names_of body + branch_block_names branches + block_names_of other
  block_names (Loop s initial e body) = block_names_of initial + block_names_of body
  block_names (Check s clauses) = 0
  block_names (Block s heads body) = length heads + block_names_of body

  pub block_names_of : Instrs → ℕ
  block_names_of no_instrs = 0
  block_names_of (instr_then i is) = block_names i + block_names_of is

  pub branch_block_names : Branches → ℕ
  branch_block_names no_branches = 0
  branch_block_names (branch_then e body bs) = block_names_of body + branch_block_names bs

unfoldable mutual
  -- whether one of the blocks of an instruction has too many names
  pub has_wide_block : Instr → Bool
  has_wide_block (Assign s v e) = false
  has_wide_block (PrintText s t) = false
  has_wide_block (CallRoutine s t n es) = false
  has_wide_block (Create s c) = false
  has_wide_block (If s e body branches other) =
      has_wide_block_in body || branch_has_wide_block branches || has_wide_block_in other
  has_wide_block (Loop s initial e body) = has_wide_block_in initial || has_wide_block_in body
  has_wide_block (Check s clauses) = false
  has_wide_block (Block s heads body) = nat_lt max_heads (length heads) || has_wide_block_in body

  pub has_wide_block_in : Instrs → Bool
  has_wide_block_in no_instrs = false
  has_wide_block_in (instr_then i is) = has_wide_block i || has_wide_block_in is

  pub branch_has_wide_block : Branches → Bool
  branch_has_wide_block no_branches = false
  branch_has_wide_block (branch_then e body bs) = has_wide_block_in body || branch_has_wide_block bs

-- the routine has too many formals, locals, or names of a block
abbrev pub is_large : FeatureKind → Bool
is_large (Attribute t) = false
is_large (Routine r) =
    nat_lt max_formals (length r.formals) || nat_lt max_locals (length r.locals + block_names_of r.body)
    || has_wide_block_in r.body

-- the class at the number has too many features
abbrev pub has_many_features : System → ℕ → Bool
has_many_features s k = nat_lt max_features (length (features s k))

-- A limit is passed.
pub data PassesLimit (s : System) : Type 0 where
  many_classes : max_classes < length s.classes → PassesLimit s
  many_features : {k : ℕ} → k < length s.classes → max_features < length (features s k) → PassesLimit s
  large_routine : Any (λ c. Any (λ f. is_large f.kind ≡ true) c.features) s.classes → PassesLimit s

-- One of the first `n` classes has too many features, or none of them has.
abbrev pub TellsLargeClass : System → ℕ → Bool → Type 0
TellsLargeClass s n true = (k : ℕ) × (k < n) × (has_many_features s k ≡ true)
TellsLargeClass s n false = (k : ℕ) → k < n → has_many_features s k ≡ false
