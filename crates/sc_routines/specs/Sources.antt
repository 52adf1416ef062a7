-- The routine that is lowered.
use Rattle.std.specs.Prelude.{map}
use Rattle.sc_tree.specs.Plain.{System}
use Rattle.sc_tree.specs.View.{clause_of, declaration_of, instrs_of, type_if_any}
use Rattle.sc_model.specs.Routines as model
use Rattle.sc_model.specs.Routines.{text_of}
use Rattle.sc_routines.specs.declared.routine.source.RoutineSource.{RoutineSource}

-- the routine with the contract that it keeps
abbrev pub source_in : System → RoutineSource → model.Routine
source_in s r = record {
  name = r.name.now;
  text = text_of s r.class (map declaration_of r.routine.now.formals.items) (type_if_any r.routine.now.result_type);
  locals = map declaration_of r.routine.now.locals.items;
  body = instrs_of r.routine.now.body.items;
  contract = text_of s r.contract_class (map declaration_of r.contract.now.formals.items)
      (type_if_any r.contract.now.result_type);
  require = map clause_of r.contract.now.precondition.items;
  ensure = map clause_of r.contract.now.postcondition.items;
}
