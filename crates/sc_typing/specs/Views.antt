-- What the code holds, as the definitions see it.
use Rattle.std.specs.Prelude.{List, [], ◌∷◌, Option, Some, None, Result, Ok, Err, map}
use Rattle.std.specs.Option.{option_map}
use Rattle.sc_tree.specs.Plain as plain
use Rattle.sc_tree.specs.View.{declaration_of}
use Rattle.sc_class.specs.declared.class_tables.feature_entry.FeatureEntry.{FeatureEntry}
use Rattle.sc_class.specs.View.{entry_of}
use Rattle.sc_class.specs.Tables.Features.{DeclaredFeature}
use Rattle.sc_rules.specs.declared.entity_types.entity_type.EntityType.{EntityType}
use Rattle.sc_rules.specs.declared.fault.Fault.{Fault}
use Rattle.sc_rules.specs.Names as names
use Rattle.sc_rules.specs.Typing as typing
use Rattle.sc_rules.specs.Judging as judging
use Rattle.sc_rules.specs.Types.{declared_type}
use Rattle.sc_typing.specs.Marks.{is_marked}
use Rattle.sc_class.specs.SystemIn.{system_in}
use Rattle.sc_typing.specs.declared.declarations.names.Entity.{Entity}
use Rattle.sc_typing.specs.declared.expressions.actuals.FormalType.{FormalType}
use Rattle.sc_typing.specs.declared.expressions.actuals.FormalType.TheVariants as formal
use Rattle.sc_typing.specs.declared.declarations.assignee.Assignee.{Assignee}
use Rattle.sc_typing.specs.declared.declarations.assignee.Assignee.TheVariants as assignee
use Rattle.sc_typing.specs.declared.routine_context.RoutineContext.{RoutineContext}
use Rattle.sc_typing.specs.declared.routine_context.Formals.{Formals}
use Rattle.sc_typing.specs.declared.routine_context.Formals.TheVariants.{Declared, Printed}
use Rattle.sc_typing.specs.declared.routine_context.Signature.{Signature}
use Rattle.sc_typing.specs.declared.routine_context.Meaning.{Meaning}
use Rattle.sc_typing.specs.declared.routine_context.Meaning.TheVariants as meaning
use Rattle.sc_typing.specs.declared.expressions.typing.Typing.{Typing}
use Rattle.sc_typing.specs.declared.expressions.typing.JudgedActual.{JudgedActual}

abbrev pub routine_in : RoutineContext → names.RoutineContext
routine_in h = record {
  system = system_in h.tables.now;
  class = h.class;
  formals = map declaration_of h.formals.now;
  result = h.result;
  pure = is_marked h.purity.now;
}

abbrev pub entity_of : Entity → names.Entity
entity_of e = names.entity e.name.now e.entity_type e.role

abbrev pub entry_if_any : Option FeatureEntry → Option DeclaredFeature
entry_if_any None = None
entry_if_any (Some e) = Some (entry_of e)

abbrev pub formals_in : plain.System → Formals → List names.FormalType
formals_in s (Declared ds) =
    map (λ (d : plain.Declaration). names.formal_type (declared_type s (map declaration_of ds.now) d.declared_type))
    (map declaration_of ds.now)
formals_in s Printed = names.of_expanded ∷ []

abbrev pub signature_in : plain.System → Signature → names.Signature
signature_in s g =
    record {
      target = g.target;
      formals = formals_in s g.formals;
      gives = g.gives;
      routine = option_map (λ e. names.routine_of (entry_of e)) g.routine;
      is_secret = g.is_secret;
    }

abbrev pub meaning_in : plain.System → Meaning → names.Meaning
meaning_in s meaning.Unknown = names.unknown
meaning_in s meaning.TargetUntyped = names.target_untyped
meaning_in s (meaning.Named g) = names.named (signature_in s g)

abbrev pub assignee_in : Assignee → names.Assignee
assignee_in assignee.Unknown = names.unknown_assignee
assignee_in assignee.NotAssignable = names.unassignable
assignee_in (assignee.Local t) = names.to_local t
assignee_in (assignee.Attribute t) = names.to_attribute t

abbrev pub formal_in : FormalType → names.FormalType
formal_in (formal.Typed t) = names.of_type t
formal_in formal.Untyped = names.of_none
formal_in formal.Expanded = names.of_expanded

abbrev pub formal_if_any : Option FormalType → Option names.FormalType
formal_if_any None = None
formal_if_any (Some f) = Some (formal_in f)

abbrev pub typing_of : Typing → typing.Typing
typing_of t = typing.typing t.entity_type t.is_separate

abbrev pub judged_in : Result Typing Fault → judging.Judged typing.Typing
judged_in (Ok t) = Ok (typing_of t)
judged_in (Err f) = Err f

-- an actual with what is found of it
abbrev pub actual_in : JudgedActual → judging.JudgedActual
actual_in f = (f.span, judged_in f.judged)

-- the types of actuals
abbrev pub types_in : List JudgedActual → List (Option EntityType)
types_in fs = judging.judged_types (map actual_in fs)
