-- Lines, and their turns.
use Rattle.std.proofs.Common.{◌≡◌, ◌+◌, ◌<◌, ◌++◌, ◌∙◌, ℕ, List, [], ◌∷◌, get_or, length, replicate, take, refl, sym, ap, append_assoc, subst}
use Rattle.std.proofs.lemmas.List.{append-nil, flat_map_more, replicate-append-replicate, take_more}
use Rattle.std.proofs.lemmas.List.Concat.{flat_map-append}
use Rattle.sc_audit.specs.declared.line.RecordLine.{RecordLine}
use Rattle.sc_world.specs.Turning.{IsTurn, Runs}
use Rattle.sc_world.specs.Worlds.{PlainWorld}
use Rattle.sc_world.proofs.Runs.{runs-join, runs-more}
use Rattle.sc_search.specs.Found.{line_turns, turns_of}
use Rattle.sc_search.specs.Stops.{Moves}

pub pushed : (xs : List RecordLine) (x : RecordLine) → turns_of (xs ++ x ∷ []) ≡ turns_of xs ++ line_turns x
pushed xs x = flat_map-append line_turns xs (x ∷ []) ∙ ap (λ (ts : List ℕ). turns_of xs ++ ts) (append-nil (line_turns x))

-- one more turn
pub longer : (n h : ℕ) → replicate (n + 1) h ≡ replicate n h ++ h ∷ []
longer n h = sym (replicate-append-replicate n 1 h)

-- the last line goes on
pub goes_on : (before : List ℕ) (line last : List ℕ) (h : ℕ) → line ≡ last ++ h ∷ [] → before ++ line ≡ (before ++ last) ++ h ∷ []
goes_on before line last h e = ap (λ (ts : List ℕ). before ++ ts) e ∙ sym (append_assoc before last (h ∷ []))

-- ---- turns of lines, one line after the other

-- the turns of the line at a place, behind those of the lines before it
pub lines_more : (lines : List RecordLine) (i : ℕ) (d : RecordLine) (x y z : PlainWorld) → i < length lines → Runs (turns_of (take i lines)) x y →
    Runs (replicate (get_or lines i d).turns (get_or lines i d).handler) y z → Runs (turns_of (take (i + 1) lines)) x z
lines_more lines i d x y z below runs turns =
    let line = get_or lines i d in
    let all : turns_of (take i lines) ++ replicate line.turns line.handler ≡ turns_of (take (i + 1) lines) =
    flat_map_more line_turns [] (take i lines) line ∙ ap turns_of (sym (take_more lines i d below)) in
    subst (λ (hs : List ℕ). Runs hs x z) all (runs-join (turns_of (take i lines)) (replicate line.turns line.handler) x y z runs turns)

-- ---- movers

pub moves_none : (hs : List ℕ) (x : PlainWorld) → Moves hs hs x x
moves_none hs x = record { more = []; all = sym (append-nil hs); runs = refl }

pub moves_more : (bs hs ms : List ℕ) (h : ℕ) (x y z : PlainWorld) → Moves bs hs x y → IsTurn h y z → ms ≡ hs ++ h ∷ [] → Moves bs ms x z
moves_more bs hs ms h x y z m turn same = record {
  more = m.more ++ h ∷ [];
  all = same ∙ ap (λ (ts : List ℕ). ts ++ h ∷ []) m.all ∙ append_assoc bs m.more (h ∷ []);
  runs = runs-more m.more h x y z m.runs turn;
}

pub moves_on : (bs hs : List ℕ) (x y z : PlainWorld) → Runs bs x y → Moves bs hs y z → Runs hs x z
moves_on bs hs x y z runs m = subst (λ (ts : List ℕ). Runs ts x z) (sym m.all) (runs-join bs m.more x y z runs m.runs)

-- one more turn
pub leads_more : (hs ms : List ℕ) (h : ℕ) (x y z : PlainWorld) → ms ≡ hs ++ h ∷ [] → Runs hs x y → IsTurn h y z → Runs ms x z
leads_more hs ms h x y z same runs turn = subst (λ (ts : List ℕ). Runs ts x z) (sym same) (runs-more hs h x y z runs turn)
