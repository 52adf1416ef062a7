-- The files of a source text, one after the other.
use Rattle.std.proofs.Common.{◌≡◌, ℕ, ◌+◌, ◌-◌, ◌<◌, ◌≤◌, List, [], ◌∷◌, ◌++◌, length, take, drop, refl, ap, sym, arith, append_assoc, string_bytes, get_or, add-one, drop-cons}
use Rattle.std.proofs.lemmas.List.{length-take-le, take-append-le, drop-append-le}
use Rattle.std.proofs.Math.Seq.{take-append_seam, drop-append-add}
use Rattle.std.proofs.lemmas.Grind.{common_steps}
use Rattle.std.proofs.lemmas.Bool.Decides.{nat_tests}
use Rattle.sc_text.specs.Spelling.{max_source_bytes}
use Rattle.sc_source.specs.Source.{File, joined, line_feed, place_of, room_after}
use Rattle.sc_source.specs.Internal.Files.{files_in}
use Rattle.sc_source.specs.declared.source.SourceFile.{SourceFile}

-- where a text is its first n bytes, one byte and what follows, it has more than n bytes
pub text_has : (n x : ℕ) (text after : List ℕ) → take n text ++ (x ∷ after) ≡ text → n + 1 ≤ length text
text_has n x text after e = grind (arith, common_steps)

-- and what follows is the text behind them
pub text_after : (n x : ℕ) (text after : List ℕ) → take n text ++ (x ∷ after) ≡ text → after ≡ drop (n + 1) text
text_after n x text after e =
    let has : n + 1 ≤ length text = text_has n x text after e in
    let len : length (take n text) ≡ n = length-take-le n text (omega arith) in
    sym (rw (e, len) at (drop-append-add (take n text) (x ∷ after) 1))

pub joined-push : (fs : List File) (f : File) → joined (fs ++ f ∷ []) ≡ joined fs ++ (f.text ++ (line_feed ∷ []))
joined-push [] f = refl
joined-push (g ∷ gs) f = simp (joined-push gs f, append_assoc)

-- one more file that there is room for
pub short-push : (fs gs : List File) (f : File) → length f.text < room_after fs → gs ≡ fs ++ f ∷ [] →
    length (joined gs) ≤ max_source_bytes
short-push fs gs f room added =
    let text : joined gs ≡ joined fs ++ (f.text ++ (line_feed ∷ [])) = rw added (joined-push fs f) in
    let size : length (joined gs) ≡ length (joined fs) + (length f.text + 1) = rw text (grind (arith, common_steps)) in
    rw size (omega arith)

-- one more file at the end of the source text
pub files_in-push : (fs : List SourceFile) (text t : List ℕ) (f : SourceFile) →
    joined (files_in text fs) ≡ text → f.length ≡ length t →
    files_in (text ++ (t ++ (line_feed ∷ []))) (fs ++ f ∷ [])
    ≡ files_in text fs ++ record { name = string_bytes f.name; text = t } ∷ []
files_in-push [] text t f e l =
    let first : take f.length (text ++ (t ++ (line_feed ∷ []))) ≡ t = rw (← e, l) (take-append_seam t (line_feed ∷ [])) in
    ap (λ x. record { name = string_bytes f.name; text = x } ∷ []) first
files_in-push (g ∷ gs) text t f e l =
    let has : g.length + 1 ≤ length text = text_has g.length line_feed text (joined (files_in (drop (g.length + 1) text) gs)) e in
    let within : g.length ≤ length text = omega arith in
    let others = files_in-push gs (drop (g.length + 1) text) t f (text_after g.length line_feed text (joined (files_in (drop (g.length + 1) text) gs)) e) l in
    rw (take-append-le g.length text (t ++ (line_feed ∷ [])) within, drop-append-le (g.length + 1) text (t ++ (line_feed ∷ [])) has, others) refl

-- where the files begin with f, the text behind f and its line feed is that of the others
pub text-next : (text : List ℕ) (f : SourceFile) (fs : List SourceFile) →
    joined (files_in text (f ∷ fs)) ≡ text → joined (files_in (drop (f.length + 1) text) fs) ≡ drop (f.length + 1) text
text-next text f fs e = text_after f.length line_feed text (joined (files_in (drop (f.length + 1) text) fs)) e

-- and a place past them is a place in the others
pub place-next : (text : List ℕ) (f : SourceFile) (fs : List SourceFile) (offset : ℕ) →
    joined (files_in text (f ∷ fs)) ≡ text → f.length < offset →
    place_of (files_in text (f ∷ fs)) offset ≡ place_of (files_in (drop (f.length + 1) text) fs) (offset - (f.length + 1))
place-next text f fs offset e past =
    let has : f.length + 1 ≤ length text = text_has f.length line_feed text (joined (files_in (drop (f.length + 1) text) fs)) e in
    let len : length (take f.length text) ≡ f.length = length-take-le f.length text (omega arith) in
    rw len (grind (arith, nat_tests))

-- one file on: the file at i is f, and what is left of the text are the n bytes behind f and its line feed
pub files-next : (text : List ℕ) (items : List SourceFile) (i : ℕ) (f : SourceFile) (offset n : ℕ) →
    i < length items → f ≡ get_or items i f → f.length < offset → n ≡ length text - (f.length + 1) →
    joined (files_in text (drop i items)) ≡ text →
    (joined (files_in (take n (drop (f.length + 1) text)) (drop (i + 1) items)) ≡ take n (drop (f.length + 1) text))
    × (place_of (files_in (take n (drop (f.length + 1) text)) (drop (i + 1) items)) (offset - (f.length + 1))
    ≡ place_of (files_in text (drop i items)) offset)
files-next text items i f offset n below is past len e =
    let all : take n (drop (f.length + 1) text) ≡ drop (f.length + 1) text = grind (arith, common_steps) in
    let split : drop i items ≡ f ∷ drop (i + 1) items = rw (add-one, drop-cons items i f, ← is) refl in
    let left = rw split at e in
    rw (all, split) (text-next text f (drop (i + 1) items) left, sym (place-next text f (drop (i + 1) items) offset left past))

-- the files of a source text that has one file more
pub files-added : (fs all : List SourceFile) (text before whole t : List ℕ) (f : SourceFile) →
    joined (files_in text fs) ≡ text → f.length ≡ length t →
    whole ≡ before ++ (line_feed ∷ []) → before ≡ text ++ t → all ≡ fs ++ f ∷ [] →
    files_in whole all ≡ files_in text fs ++ record { name = string_bytes f.name; text = t } ∷ []
files-added fs all text before whole t f e len ended pushed listed =
    rw (ended, pushed, listed, append_assoc) (files_in-push fs text t f e len)

-- and it is their text
pub joined-added : (fs all : List SourceFile) (text before whole t : List ℕ) (f : SourceFile) →
    joined (files_in text fs) ≡ text → f.length ≡ length t →
    whole ≡ before ++ (line_feed ∷ []) → before ≡ text ++ t → all ≡ fs ++ f ∷ [] →
    joined (files_in whole all) ≡ whole
joined-added fs all text before whole t f e len ended pushed listed =
    rw (files-added fs all text before whole t f e len ended pushed listed, joined-push, e, ended, pushed, append_assoc) refl

-- and it isn't too long where there was room
pub short-added : (fs value : List File) (text before whole t : List ℕ) →
    joined fs ≡ text → fs ≡ value → length t < room_after value →
    whole ≡ before ++ (line_feed ∷ []) → before ≡ text ++ t → length whole ≤ max_source_bytes
short-added fs value text before whole t e viewed room ended pushed =
    let same : length (joined value) ≡ length text = rw (← viewed, e) refl in
    let size : length whole ≡ length text + (length t + 1) = rw (ended, pushed) (grind (arith, common_steps)) in
    rw size (omega arith)
