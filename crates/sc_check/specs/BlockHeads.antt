-- Judging a head of a separate block.
use Rattle.std.specs.Prelude.{ℕ, Some, Ok}
use Rattle.sc_tree.specs.Plain.{Head}
use Rattle.sc_rules.specs.declared.rule.Rule.TheVariants.{ArgumentType}
use Rattle.sc_rules.specs.declared.position.Context.TheVariants as context
use Rattle.sc_rules.specs.declared.position.Position.TheVariants.{Plain}
use Rattle.sc_rules.specs.declared.position.Role.TheVariants as role
use Rattle.sc_rules.specs.TextRules.{separate_any}
use Rattle.sc_rules.specs.Positions.{span_of}
use Rattle.sc_rules.specs.Names.{RoutineContext, Entities, Entity, entity, block_type}
use Rattle.sc_rules.specs.Judging.{Judged, ◌>>=◌, required, judge}
use Rattle.sc_rules.specs.JudgingText.{conforms_if_any}

-- a head of a block, with this number of block names in scope in its body
abbrev pub judge_head : RoutineContext → Entities → ℕ → Head → Judged Entity
judge_head h n j d = do
  t ← judge h context.Body Plain n d.value
  _ ← required (conforms_if_any h.system t.type (Some separate_any)) ArgumentType (span_of d.value)
  Ok (entity d.name.text (block_type j t.type) role.Block)
