-- What was written of a text that is written part by part.
use Rattle.std.proofs.Common.{◌≡◌, ℕ, ◌+◌, ◌-◌, ◌^◌, ◌<◌, ◌≤◌, get_or, List, [], ◌∷◌, ◌++◌, Option, Result, Ok, Err, OnErr, OnOk, length, take, drop, set, decimal, refl, sym, ap, ◌∙◌, append_assoc, append-nil, take-append-drop, codes, arith}
use Rattle.std.specs.Io.KnownBytes.{Appends, Keeps}
use Rattle.std.proofs.KnownBytes.{Appends-kept, Appends-nil, Appends-trans}
use Rattle.std.proofs.lemmas.Fmt.{decimal_digit, length-decimal-le}
use Rattle.sc_lockpass.specs.declared.version.Version.TheVariants.{Two}
use Rattle.std.specs.List.{flat_map}
use Rattle.std.proofs.lemmas.List.{drop-set, take_all, take_more}
use Rattle.std.proofs.Math.ListN.{drop_of_length-le}
use Rattle.std.proofs.lemmas.Grind.{common_steps, flat_map-append}
use Rattle.sc_audit.specs.declared.line.RecordLine.{RecordLine}
use Rattle.sc_audit.specs.Records.{first_line, last_line, line_text, text_of}
use Rattle.sc_audit.specs.Writing.{Writes, WritesBeginning}

-- nothing is written yet
pub writes-none : (a : Option (List ℕ)) (bytes : List ℕ) → Writes a a bytes bytes
writes-none a bytes = record { written = []; parts = refl; appended = Appends-nil a }

-- one call more
pub writes-more : (a b c : Option (List ℕ)) (all rest : List ℕ) (n : ℕ) → Writes a b all rest → Appends b c (take n rest) →
    Writes a c all (drop n rest)
writes-more a b c all rest n so-far taken = record {
  written = so-far.written ++ take n rest;
  parts = so-far.parts ∙ ap (λ xs. so-far.written ++ xs) (sym (take-append-drop n rest)) ∙ sym (append_assoc so-far.written (take n rest) (drop n rest));
  appended = Appends-trans a b c _ _ so-far.appended taken;
}

-- what is left after one call
pub writes-call : (a b c : Option (List ℕ)) (all rest now : List ℕ) (n : ℕ) → n ≤ length rest → Writes a b all rest →
    Appends b c (take n rest) → now ≡ take (length rest - n) (drop n rest) → Writes a c all now
writes-call a b c all rest now n within so-far taken is =
    let left : take (length rest - n) (drop n rest) ≡ drop n rest = grind (arith, common_steps) in
    rw (is, left) (writes-more a b c all rest n so-far taken)

-- a call that failed
pub writes-kept : (a b c : Option (List ℕ)) (all rest now : List ℕ) → Writes a b all rest → Keeps b c → now ≡ rest → Writes a c all now
writes-kept a b c all rest now so-far kept is = record {
  written = so-far.written;
  parts = so-far.parts ∙ ap (λ xs. so-far.written ++ xs) (sym is);
  appended = Appends-kept a b c so-far.written so-far.appended kept;
}

-- nothing is left
pub writes-all : (a b : Option (List ℕ)) (all rest : List ℕ) → rest ≡ [] → Writes a b all rest → Appends a b all
writes-all a b all rest none so-far =
    let whole : all ≡ so-far.written = so-far.parts ∙ ap (λ xs. so-far.written ++ xs) none ∙ append-nil so-far.written in
    rw whole so-far.appended

-- the text goes on in what isn't written yet
pub writes-grown : (a b : Option (List ℕ)) (all block more now : List ℕ) → Writes a b all block → now ≡ block ++ more →
    Writes a b (all ++ more) now
writes-grown a b all block more now so-far grown = record {
  written = so-far.written;
  parts = ap (λ xs. xs ++ more) so-far.parts ∙ append_assoc so-far.written block more ∙ ap (λ xs. so-far.written ++ xs) (sym grown);
  appended = so-far.appended;
}

-- and part of what wasn't written is written now
pub writes-on : (a b c : Option (List ℕ)) (all block now : List ℕ) → Writes a b all block → Writes b c block now → Writes a c all now
writes-on a b c all block now so-far part = record {
  written = so-far.written ++ part.written;
  parts = so-far.parts ∙ ap (λ xs. so-far.written ++ xs) part.parts ∙ sym (append_assoc so-far.written part.written now);
  appended = Appends-trans a b c _ _ so-far.appended part.appended;
}

-- all of it is
pub writes-now : (a b : Option (List ℕ)) (block none : List ℕ) → none ≡ [] → Appends a b block → Writes a b block none
writes-now a b block none empty taken = record {
  written = block;
  parts = sym (append-nil block) ∙ ap (λ xs. block ++ xs) (sym empty);
  appended = taken;
}

-- an error tells a fact that holds anyway
pub told : {T E : Type 0} (r : Result T E) (P : Type 0) → P → OnErr r P
told (Ok x) P p = tt
told (Err e) P p = p

-- writing it failed
pub writes-part : (a b c : Option (List ℕ)) (all block whole more : List ℕ) → whole ≡ all ++ more → Writes a b all block →
    WritesBeginning b c block → WritesBeginning a c whole
writes-part a b c all block whole more goes-on so-far part = (
  part.0 ++ more,
  record {
    written = so-far.written ++ part.1.written;
    parts = goes-on ∙ ap (λ xs. xs ++ more) (so-far.parts ∙ ap (λ xs. so-far.written ++ xs) part.1.parts) ∙ simp append_assoc;
    appended = Appends-trans a b c _ _ so-far.appended part.1.appended;
  },
)

-- the first line of version 2
pub first_line-two : first_line Two ≡ codes "scoop record 2" ++ 10 ∷ []
first_line-two =
    let two = decimal_digit 2 (omega arith) in
    rw two refl

-- the text of one line more
pub lines-more : (lines : List RecordLine) (i : ℕ) (d : RecordLine) → i < length lines →
    first_line Two ++ flat_map line_text (take (i + 1) lines) ≡ (first_line Two ++ flat_map line_text (take i lines)) ++ line_text (get_or lines i d)
lines-more lines i d below =
    ap (λ ls. first_line Two ++ flat_map line_text ls) (take_more lines i d below)
    ∙ ap (λ bs. first_line Two ++ bs) (flat_map-append line_text (take i lines) (get_or lines i d ∷ []))
    ∙ ap (λ bs. first_line Two ++ (flat_map line_text (take i lines) ++ bs)) (append-nil (line_text (get_or lines i d)))
    ∙ sym (append_assoc (first_line Two) (flat_map line_text (take i lines)) (line_text (get_or lines i d)))

-- the lines so far and one more are written, but for the block
pub writes-line : (a b : Option (List ℕ)) (lines : List RecordLine) (i : ℕ) (d : RecordLine) (block now : List ℕ) → i < length lines →
    Writes a b (first_line Two ++ flat_map line_text (take i lines)) block → now ≡ block ++ line_text (get_or lines i d) →
    Writes a b (first_line Two ++ flat_map line_text (take (i + 1) lines)) now
writes-line a b lines i d block now below so-far grown =
    rw (lines-more lines i d below) (writes-grown a b _ block (line_text (get_or lines i d)) now so-far grown)

-- the lines so far are the beginning of the whole text
pub lines-begin : (lines : List RecordLine) (i : ℕ) →
    text_of Two lines ≡ (first_line Two ++ flat_map line_text (take i lines)) ++ (flat_map line_text (drop i lines) ++ last_line (length lines))
lines-begin lines i =
    let parts : flat_map line_text lines ≡ flat_map line_text (take i lines) ++ flat_map line_text (drop i lines) =
    ap (flat_map line_text) (sym (take-append-drop i lines)) ∙ flat_map-append line_text (take i lines) (drop i lines) in
    ap (λ bs. first_line Two ++ (bs ++ last_line (length lines))) parts ∙ simp append_assoc

-- all lines and the last one are the whole text
pub lines-all : (lines : List RecordLine) (i : ℕ) → length lines ≤ i →
    text_of Two lines ≡ (first_line Two ++ flat_map line_text (take i lines)) ++ last_line (length lines)
lines-all lines i past =
    let all : take i lines ≡ lines = take_all i lines past in
    ap (λ ls. first_line Two ++ (flat_map line_text ls ++ last_line (length lines))) (sym all)
    ∙ sym (append_assoc (first_line Two) (flat_map line_text (take i lines)) (last_line (length lines)))

-- no line is written yet, and the block is the first line
pub writes-first : (a : Option (List ℕ)) (lines : List RecordLine) (block : List ℕ) → block ≡ codes "scoop record 2" ++ 10 ∷ [] →
    Writes a a (first_line Two ++ flat_map line_text (take 0 lines)) block
writes-first a lines block is =
    let whole : first_line Two ++ [] ≡ block = append-nil (first_line Two) ∙ first_line-two ∙ sym is in
    rw whole (writes-none a block)

-- behind all lines the last one is written
pub written-last : {E : Type 0} (a b c : Option (List ℕ)) (lines : List RecordLine) (i : ℕ) (block now : List ℕ) (r : Result (Unit {0}) E) →
    length lines ≤ i → Writes a b (first_line Two ++ flat_map line_text (take i lines)) block → now ≡ block ++ last_line (length lines) →
    OnOk r (Appends b c now) → OnOk r (Appends a c (text_of Two lines))
written-last a b c lines i block now (Err e) past so-far is taken = tt
written-last a b c lines i block now (Ok x) past so-far is taken =
    let whole = lines-all lines i past in
    let grown = writes-grown a b _ block (last_line (length lines)) now so-far is in
    rw whole (writes-all a c _ [] refl (writes-on a b c _ now [] grown (writes-now b c now [] refl taken)))

-- or only a beginning of it
pub writes-rest : {E : Type 0} (a b c : Option (List ℕ)) (lines : List RecordLine) (i : ℕ) (block now : List ℕ) (r : Result (Unit {0}) E) →
    length lines ≤ i → Writes a b (first_line Two ++ flat_map line_text (take i lines)) block → now ≡ block ++ last_line (length lines) →
    OnErr r (WritesBeginning b c now) → OnErr r (WritesBeginning a c (text_of Two lines))
writes-rest a b c lines i block now (Ok x) past so-far is part = tt
writes-rest a b c lines i block now (Err e) past so-far is part =
    let grown = writes-grown a b _ block (last_line (length lines)) now so-far is in
    writes-part a b c _ now (text_of Two lines) [] (lines-all lines i past ∙ sym (append-nil _)) grown part

-- the text of a line whose numbers have one digit each
pub short_line : (h t : ℕ) → h < 10 → t < 10 →
    (48 + h) ∷ (32 ∷ ((48 + t) ∷ (10 ∷ []))) ≡ line_text (record { handler = h; turns = t })
short_line h t few short =
    let first = decimal_digit h few in
    let second = decimal_digit t short in
    rw (first, second) refl

-- a number of 64 bits has 20 digits at most
pub few_digits : (n : ℕ) → n < 2 ^ 64 → length (decimal n) ≤ 20
few_digits n small = length-decimal-le 20 n (omega arith) (omega arith) small

-- the text of a line that is written from its last byte on: the line feed, how many turns, the space and the handler's number
pub line_from_end : (line : RecordLine) (h t at : ℕ) (first second last : List ℕ) → h ≡ line.handler → t ≡ line.turns → length first ≡ 48 →
    1 ≤ at → at - 1 < length second → drop at second ≡ decimal t ++ drop 47 (set first 47 10) →
    last ≡ decimal h ++ drop (at - 1) (set second (at - 1) 32) → last ≡ line_text line
line_from_end line h t at first second last number turns long some within back front =
    let feed : drop 47 (set first 47 10) ≡ 10 ∷ [] =
    drop-set first 47 10 (omega (arith, long)) ∙ ap (λ xs. 10 ∷ xs) (drop_of_length-le first {i = 48} (omega (arith, long))) in
    let next : at - 1 + 1 ≡ at = omega arith in
    let space : drop (at - 1) (set second (at - 1) 32) ≡ 32 ∷ drop at second =
    drop-set second (at - 1) 32 within ∙ ap (λ i. 32 ∷ drop i second) next in
    front ∙ ap (λ xs. decimal h ++ xs) (space ∙ ap (λ xs. 32 ∷ xs) (back ∙ ap (λ xs. decimal t ++ xs) feed))
    ∙ ap (λ n. decimal n ++ (32 ∷ (decimal t ++ (10 ∷ [])))) number ∙ ap (λ n. decimal line.handler ++ (32 ∷ (decimal n ++ (10 ∷ [])))) turns
