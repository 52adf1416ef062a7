-- Turns of lines, one line after the other.
use Rattle.std.proofs.Common.{◌≡◌, ◌<◌, ◌+◌, ℕ, List, [], ◌∷◌, ◌++◌, length, replicate, take, get_or, ap, sym, ◌∙◌, subst}
use Rattle.std.proofs.lemmas.List.{flat_map_more, take_more}
use Rattle.sc_audit.specs.declared.line.RecordLine.{RecordLine}
use Rattle.sc_world.specs.Turning.{Runs}
use Rattle.sc_world.specs.Worlds.{PlainWorld}
use Rattle.sc_driver.specs.Audits.{turns_of}

-- turns, and others after them
runs-join : (hs ks : List ℕ) (x y z : PlainWorld) → Runs hs x y → Runs ks y z → Runs (hs ++ ks) x z
runs-join [] ks x y z same runs = subst (λ (w : PlainWorld). Runs ks w z) same runs
runs-join (h ∷ hs) ks x y z first runs = (first.0, first.1, runs-join hs ks first.0 y z first.2 runs)

-- the turns of the line at a place, after those of the lines before it
pub lines-more : (lines : List RecordLine) (i : ℕ) (d : RecordLine) (x y z : PlainWorld) → i < length lines → Runs (turns_of (take i lines)) x y →
    Runs (replicate (get_or lines i d).turns (get_or lines i d).handler) y z → Runs (turns_of (take (i + 1) lines)) x z
lines-more lines i d x y z below runs turns =
    let line = get_or lines i d in
    let all : turns_of (take i lines) ++ replicate line.turns line.handler ≡ turns_of (take (i + 1) lines) =
    flat_map_more (λ (l : RecordLine). replicate l.turns l.handler) [] (take i lines) line ∙ ap turns_of (sym (take_more lines i d below)) in
    subst (λ (hs : List ℕ). Runs hs x z) all (runs-join (turns_of (take i lines)) (replicate line.turns line.handler) x y z runs turns)
