-- Instructions (ECMA-367, 8.17, 8.20 and 8.22 to 8.24) and the clauses of contracts (8.9).
use Rattle.std.specs.Prelude.{ℕ, Bool, true, false, List, [], ◌∷◌, ◌++◌, Option, Some, None, codes, length, map}
use Rattle.std.specs.Fmt.{signed_decimal}
use Rattle.sc_tree.specs.Plain as tree
use Rattle.sc_tree.specs.Plain.{System, Clause, Head, Name, Variable, Named, ResultVariable, CreationCall, Exprs, no_exprs, expr_then, Instr, Instrs, Branches, no_branches, branch_then}
use Rattle.sc_tree.specs.Properties.{is_print}
use Rattle.sc_rules.specs.CallRules.{count}
use Rattle.sc_rules.specs.Names.{Assignee, to_local, to_attribute}
use Rattle.sc_model.specs.declared.cause.Cause.{Cause}
use Rattle.sc_model.specs.Values.{Reference, Value, Integer, Boolean, Void, Attached, Operand, operand}
use Rattle.sc_model.specs.Environments.{assigned_to, block_bound}
use Rattle.sc_model.specs.Objects.{attributes_of, with_attributes}
use Rattle.sc_model.specs.Tasks.{Do, Forget, Eval, AssignTo, Print, Choose, Repeat, CallUnqualified, CallQualified, CreateBy, Open, Leave, evals, head_evals, checks}
use Rattle.sc_model.specs.Steps.{Point, Prints, Until, Refuses, Opens, Step, Goes, Does, fails, stuck, comes, forgets}

-- ---- assignment (8.22)

-- a local of the name, an attribute of Current, or a Result gets the value
abbrev pub assigns : Reference → Variable → Assignee → Value → Point → Step
assigns me (Named x) (to_local t) v p = Goes (record p { environment = assigned_to x.text v p.environment })
assigns me (Named x) (to_attribute t) v p =
    Goes (record p {
      objects = with_attributes me.number
          (assigned_to x.text v (attributes_of me.number p.objects)) p.objects;
    })
assigns me (ResultVariable q) (to_local (Some t)) v p = Goes (record p { result = Some (operand v t) })
assigns me x a v p = stuck p

-- ---- output

abbrev pub boolean_text : Bool → List ℕ
boolean_text true = codes "True"
boolean_text false = codes "False"

abbrev pub prints : Value → Point → Step
prints (Integer z) p = Does (Prints (signed_decimal z)) p
prints (Boolean b) p = Does (Prints (boolean_text b)) p
prints Void p = stuck p
prints (Attached r) p = stuck p

-- ---- conditional and loop (8.17)

-- the next condition, or the instructions under `else`
abbrev pub chooses_other : ℕ → Branches → Instrs → Point → Step
chooses_other depth no_branches other p = comes (Do other ∷ []) p
chooses_other depth (branch_then e body bs) other p = comes (Eval 0 e ∷ Choose depth body bs other ∷ []) p

-- what the condition has bound is known in the chosen part alone
abbrev pub chooses : ℕ → Value → Instrs → Branches → Instrs → Point → Step
chooses depth (Boolean true) body bs other p = comes (Do body ∷ Forget depth ∷ []) p
chooses depth (Boolean false) body bs other p = chooses_other depth bs other (forgets depth p)
chooses depth v body bs other p = stuck p

abbrev pub ends_loop : Value → tree.Expr → Instrs → Point → Step
ends_loop (Boolean true) e body p = Does Until p
ends_loop (Boolean false) e body p = Does Until (record p { tasks = Do body ∷ Repeat e body ∷ p.tasks })
ends_loop v e body p = stuck p

-- ---- clauses

-- one that is false fails so
abbrev pub tests : Cause → Value → Point → Step
tests why (Boolean true) p = Goes p
tests why (Boolean false) p = fails why p
tests why v p = stuck p

-- the first clause of a precondition that is false decides
abbrev pub required : Clause → Value → Point → Step
required k (Boolean true) p = Goes p
required k (Boolean false) p = Does (Refuses k) p
required k v p = stuck p

-- ---- separate blocks

-- the body, with the names of these heads
abbrev pub opens : List Name → Instrs → Option (List Operand × List Operand) → Point → Step
opens xs body None p = stuck p
opens xs body (Some (us, vs)) p =
    Does Opens (record p {
      environment = block_bound xs us p.environment;
      tasks = Do body ∷ Leave (length p.environment)
          ∷ p.tasks;
      values = vs;
    })

-- ---- an instruction begins

abbrev pub procedure_of : Option CreationCall → Option (List ℕ)
procedure_of None = None
procedure_of (Some k) = Some k.name.text

abbrev pub actuals_of : Option CreationCall → Exprs
actuals_of None = no_exprs
actuals_of (Some k) = k.actuals

-- `print` of a value, or a routine of Current
abbrev pub begins_routine : Bool → List ℕ → Exprs → Point → Step
begins_routine true x (expr_then e no_exprs) p = comes (Eval 0 e ∷ Print ∷ []) p
begins_routine true x es p = stuck p
begins_routine false x es p = comes (evals 0 es ++ CallUnqualified x (count es) ∷ []) p

abbrev pub begins : Instr → Point → Step
begins (tree.Assign q x e) p = comes (Eval 0 e ∷ AssignTo x ∷ []) p
begins (tree.PrintText q text) p = Does (Prints text) p
begins (tree.CallRoutine q tree.no_target x es) p = begins_routine (is_print x.text) x.text es p
begins (tree.CallRoutine q (tree.target a) x es) p =
    comes (Eval 0 a ∷ evals 0 es ++ CallQualified x.text (count es) ∷ []) p
begins (tree.Create q c) p =
    comes (evals 0 (actuals_of c.call) ++ CreateBy c.variable (procedure_of c.call) (count (actuals_of c.call)) ∷ []) p
begins (tree.If q e body bs other) p = comes (Eval 0 e ∷ Choose (length p.environment) body bs other ∷ []) p
begins (tree.Loop q initial e body) p = comes (Do initial ∷ Repeat e body ∷ []) p
begins (tree.Check q ks) p = comes (checks ks) p
begins (tree.Block q ds body) p = comes (head_evals ds ++ Open (map (λ (d : Head). d.name) ds) body ∷ []) p
