-- The lines of what a run leaves are a record's.
use Rattle.std.proofs.Common.{◌≡◌, ◌<◌, ◌==◌, ℕ, Bool, true, false, inl, inr, List, [], ◌∷◌, refl, sym, subst, arith}
use Rattle.std.specs.Coded.{le_prop}
use Rattle.std.proofs.Math.Logic.{∥∥₁_elim, ∥∥₁_map}
use Rattle.std.proofs.lemmas.Bool.{eq-eqb}
use Rattle.std.proofs.lemmas.List.Elements.{All-cons, All-head, All-map, All-nil, All-tail, All-weaker}
use Rattle.std.proofs.lemmas.Option.{slice_get_cases}
use Rattle.std.specs.List.{All}
use Rattle.std.specs.Prelude.{if◌then◌else◌}
use Rattle.sc_lockpass.specs.Versions.{most_handlers}
use Rattle.sc_lockpass.specs.declared.version.Version.{Version}
use Rattle.sc_audit.specs.declared.line.RecordLine.{RecordLine}
use Rattle.sc_code.specs.declared.program.Image.{Image}
use Rattle.sc_handler.specs.declared.settlement.Settlement.{Settlement}
use Rattle.sc_request.specs.Cores.{log_of}
use Rattle.sc_play.specs.Regions.{PlainRegion, new_region}
use Rattle.sc_worklog.specs.Replaying.{AreMade, Replays}
use Rattle.sc_worklog.proofs.ReplayedTurns.{entries_are_the_handlers, turns_replay}
use Rattle.sc_world.specs.Worlds.{max_handlers}
use Rattle.sc_plant.specs.declared.left.Left.{Left}
use Rattle.sc_recording.specs.Due.{AreBelow}
use Rattle.sc_plant.specs.Left.{IsRun, LinesAreARecord}
use Rattle.sc_recording.specs.Recorded.{line_of, settlements_for}

-- each is of one turn or more
abbrev AreSome : List Settlement → Type 0
AreSome es = All (λ e. 0 < e.turns) es

replayed_some : (p : Image) (h : ℕ) (es : List Settlement) (x : PlainRegion) → Replays p h es x → AreSome es
replayed_some p h es x r =
    All-weaker (λ (e : Settlement). (e.handler ≡ h) × (0 < e.turns)) (λ (e : Settlement). 0 < e.turns) (λ e both. both.1) es
    (entries_are_the_handlers p h es x r).0

-- those of each handler are
abbrev EachSome : List Settlement → Type 0
EachSome es = (h : ℕ) → h < max_handlers → ∥ AreSome (settlements_for h es) ∥₁

first_some : (e : Settlement) (es : List Settlement) (b : Bool) → b ≡ true → AreSome (if b then e ∷ es else es) → 0 < e.turns
first_some e es true is all = All-head (λ (d : Settlement). 0 < d.turns) e es all
first_some e es false is all = cc

rest_some : (e : Settlement) (es : List Settlement) (b : Bool) → AreSome (if b then e ∷ es else es) → AreSome es
rest_some e es true all = All-tail (λ (d : Settlement). 0 < d.turns) e es all
rest_some e es false all = all

all_some : (es : List Settlement) → AreBelow es → EachSome es → AreSome es
all_some [] below each = All-nil (λ (e : Settlement). 0 < e.turns)
all_some (e ∷ es) below each =
    All-cons (λ (d : Settlement). 0 < d.turns) e es
    (∥∥₁_elim (each e.handler (All-head (λ (d : Settlement). d.handler < max_handlers) e es below)) le_prop
    (λ (all : AreSome (settlements_for e.handler (e ∷ es))).
    first_some e (settlements_for e.handler es) (e.handler == e.handler) (eq-eqb e.handler e.handler refl) all))
    (all_some es (All-tail (λ (d : Settlement). d.handler < max_handlers) e es below)
    (λ h few. ∥∥₁_map (each h few) (λ (all : AreSome (settlements_for h (e ∷ es))). rest_some e (settlements_for h es) (e.handler == h) all)))

run_some : (p : Image) (limit : ℕ) (left : Left) → IsRun p limit left → EachSome (log_of left.core)
run_some p limit left run h few = elim (slice_get_cases left.regions.items h).1 [
  | inl at ↦
      let x = at.0 in
      let es = settlements_for h (log_of left.core) in
      ∥∥₁_map (run.made h x at.2) (λ (made : AreMade es (new_region p h) x). replayed_some p h es x (turns_replay p h es x made).0)
  | inr past ↦ absurd (omega (arith, few, past.0, run.left_is.count))
]

pub lines_are_a_record : LinesAreARecord
lines_are_a_record p limit left run few =
    let es = log_of left.core in
    record {
      handlers = subst (λ (v : Version). All (λ (line : RecordLine). line.handler < most_handlers v) left.lines.items) (sym run.left_is.version)
          (subst (All (λ (line : RecordLine). line.handler < max_handlers)) (sym run.left_is.lines)
          (All-map (λ (line : RecordLine). line.handler < max_handlers) line_of es run.left_is.below));
      some = subst (All (λ (line : RecordLine). 0 < line.turns)) (sym run.left_is.lines)
          (All-map (λ (line : RecordLine). 0 < line.turns) line_of es (all_some es run.left_is.below (run_some p limit left run)));
      few = run.over.lines;
      short = omega (arith, run.over.few, few);
    }
