-- What may cross threads: regions, and all that they hold.
use denote.Param.Send.{IsSend, sendable}
use denote.RattleType.{RattleType}
use denote.Ref.{NamedLft}
use Rattle.std.proofs.Crossing.{crosses}
use Rattle.std.proofs.alloc.Global.TheSendSync as global
use Rattle.std.proofs.option.Option.TheSendSync as option
use Rattle.sc_formula.proofs.arithmetic.ArithmeticOperator.TheSendSync as arithmetic
use Rattle.sc_formula.proofs.comparison.Comparison.TheSendSync as comparison
use Rattle.sc_formula.proofs.connective.Connective.TheSendSync as connective
use Rattle.sc_formula.proofs.formula.Formula.TheLaws.TheKnot as formula
use Rattle.sc_formula.proofs.term.Term.TheLaws.TheKnot as term
use Rattle.sc_model.proofs.cause.Cause.TheSendSync as cause
use Rattle.sc_code.proofs.program.AttributeCode.TheSendSync as attribute
use Rattle.sc_code.proofs.program.ConstantPool.TheSendSync as constants
use Rattle.sc_code.proofs.program.RoutineCode.TheSendSync as routine
use Rattle.sc_code.proofs.program.FeatureCode.TheSendSync as version
use Rattle.sc_region.proofs.breakdown.Breakdown.TheSendSync as breakdown
use Rattle.sc_region.proofs.frame.Activation.TheSendSync as activation
use Rattle.sc_region.proofs.value.Reference.TheSendSync as reference
use Rattle.sc_region.proofs.value.Value.TheSendSync as value
use Rattle.sc_region.specs.contracts.store.Store as Store
use Rattle.sc_handler.proofs.logged.Log.TheSendSync as log
use Rattle.sc_play.specs.contracts.region.Region as Region
use Rattle.sc_worklog.specs.contracts.logged_region.LoggedRegion as Logged
use Rattle.sc_recording.specs.declared.of_program.OfProgram.{Ghosts}
use Rattle.sc_plant.specs.contracts.slot.Slot as Slot
use Rattle.std.proofs.marker.PhantomData.TheSendSync as phantom

ruleset parts = (
  global.the_field_send,
  option.the_field_send,
  option.the_field_sync,
  option.the_sync,
  arithmetic.the_field_sync,
  comparison.the_field_sync,
  connective.the_field_sync,
  cause.the_send,
  attribute.the_sync,
  constants.the_field_sync,
  routine.the_sync,
  version.the_sync,
  breakdown.the_field_send,
  activation.the_send,
  reference.the_send,
  value.the_send,
  crosses,
  formula.crosses,
  term.crosses,
  sendable,
)

pub store_send : (a : NamedLft) → IsSend (Store.the_row a)
store_send a = search parts depth 60 fits 20000

-- a field's row, which isn't the type's
region_field_send : (a : NamedLft) → IsSend (Region.the_field a).row
region_field_send a = let store = store_send a in search sendable depth 8

logged_field_send : (a : NamedLft) → IsSend (Logged.the_field a).row
logged_field_send a = let region = region_field_send a in search (log.the_field_send, sendable) depth 8

pub slot_send : (a : NamedLft) (T : RattleType) (g : Ghosts T.Denot) → IsSend (Slot.the_row a T g)
slot_send a T g = let logged = logged_field_send a in search (phantom.the_field_send, sendable) depth 8
