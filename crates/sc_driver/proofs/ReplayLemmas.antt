-- Laws of replays.
use Rattle.std.proofs.Common.{◌≡◌, ◌+◌, ℕ, List, ◌∷◌, ◌++◌, replicate, Result, Ok, Err, IfOk, ap, sym, ◌∙◌, subst}
use Rattle.std.specs.List.{flat_map}
use Rattle.std.proofs.lemmas.List.{append_assoc, replicate-append-replicate}
use Rattle.std.proofs.lemmas.Grind.{flat_map-append}
use Rattle.sc_lockpass.specs.declared.version.Version.{Version}
use Rattle.sc_audit.specs.declared.line.RecordLine.{RecordLine}
use Rattle.sc_code.specs.declared.program.Image.{Image}
use Rattle.sc_model.specs.declared.status.Status.{Status}
use Rattle.sc_world.specs.Turning.{Runs}
use Rattle.sc_world.specs.Worlds.{PlainWorld, opened}
use Rattle.sc_driver.specs.declared.execution.RunReport.{RunReport}
use Rattle.sc_driver.specs.Execution.{EmptyReplayLeavesOpening, IsReplay, Leaves, LinesMayBeSplit, line_turns}

-- what is told of the world that the turns of the lines lead to
pub replayed : {E : Type 0} (p : Image) (v : Version) (lines : List RecordLine) (w : PlainWorld) (r : Result RunReport E) →
    Runs (flat_map line_turns lines) (opened p v) w → IfOk r (λ told. Leaves w told.report.items told.statuses.items) →
    IfOk r (λ told. IsReplay p v lines told.report.items told.statuses.items)
replayed p v lines w (Ok told) runs leaves = record { world = w; runs = runs; leaves = leaves }
replayed p v lines w (Err e) runs leaves = tt

-- a replay of other lines that stand for the same turns
same-turns : (p : Image) (v : Version) (xs ys : List RecordLine) (text : List ℕ) (statuses : List Status) →
    flat_map line_turns xs ≡ flat_map line_turns ys → IsReplay p v xs text statuses → IsReplay p v ys text statuses
same-turns p v xs ys text statuses same is =
    let runs = subst (λ (hs : List ℕ). Runs hs (opened p v) is.world) same is.runs in
    record { world = is.world; runs = runs; leaves = is.leaves }

pub empty-leaves : EmptyReplayLeavesOpening
empty-leaves p v text statuses is = subst (λ (w : PlainWorld). Leaves w text statuses) is.runs is.leaves

-- the turns of a line that is split, after and before others
split-turns : (before after : List RecordLine) (h m n : ℕ) →
    flat_map line_turns (before ++ record { handler = h; turns = m + n } ∷ after)
    ≡ flat_map line_turns (before ++ record { handler = h; turns = m } ∷ record { handler = h; turns = n } ∷ after)
split-turns before after h m n =
    let whole : List RecordLine = record { handler = h; turns = m + n } ∷ after in
    let parts : List RecordLine = record { handler = h; turns = m } ∷ record { handler = h; turns = n } ∷ after in
    let same : flat_map line_turns whole ≡ flat_map line_turns parts =
    ap (λ hs. hs ++ flat_map line_turns after) (sym (replicate-append-replicate m n h))
    ∙ append_assoc (replicate m h) (replicate n h) (flat_map line_turns after) in
    flat_map-append line_turns before whole ∙ ap (λ hs. flat_map line_turns before ++ hs) same ∙ sym (flat_map-append line_turns before parts)

pub lines-split : LinesMayBeSplit
lines-split p v before after h m n text statuses =
    let same = split-turns before after h m n in
    (same-turns p v _ _ text statuses same, same-turns p v _ _ text statuses (sym same))
