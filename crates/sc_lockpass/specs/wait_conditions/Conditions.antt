-- The clauses of preconditions: which are waited for, and which clause decides.
use Rattle.std.specs.Prelude.{◌∷◌, ℕ, Bool, true, false, List, [], Option, Some, None, if◌then◌else◌}
use Rattle.std.specs.List.{list_any}
use Rattle.sc_lockpass.specs.Rights.{is_among}
use Rattle.sc_lockpass.specs.declared.wait_conditions.condition.ClauseKind.{ClauseKind}
use Rattle.sc_lockpass.specs.declared.wait_conditions.condition.ClauseKind.TheVariants.{WaitCondition, CorrectnessCondition}
use Rattle.sc_lockpass.specs.declared.wait_conditions.condition.ClauseResult.{ClauseResult}
use Rattle.sc_lockpass.specs.declared.wait_conditions.condition.EntryVerdict.{EntryVerdict}
use Rattle.sc_lockpass.specs.declared.wait_conditions.condition.EntryVerdict.TheVariants.{Start, Wait, Refuse}

-- the value lies on one of these handlers
abbrev pub lies_on_any : List ℕ → Option ℕ → Bool
lies_on_any ks None = false
lies_on_any ks (Some k) = is_among k ks

abbrev pub kind_where : Bool → ClauseKind
kind_where true = WaitCondition
kind_where false = CorrectnessCondition

-- A clause is a wait condition of an entry if it names, anywhere in its text, a formal whose value is an object of a
-- handler that this entry newly reserved. The values are those of the formals that it names.
abbrev pub clause_kind : List ℕ → List (Option ℕ) → ClauseKind
clause_kind reserved values = kind_where (list_any (lies_on_any reserved) values)

-- what comes of a false clause
abbrev pub verdict_of_false : ClauseKind → EntryVerdict
verdict_of_false WaitCondition = Wait
verdict_of_false CorrectnessCondition = Refuse

-- The first false clause decides. Where none is, the body starts.
abbrev pub verdict : List ClauseResult → EntryVerdict
verdict [] = Start
verdict (c ∷ cs) = if c.holds then verdict cs else verdict_of_false c.kind
