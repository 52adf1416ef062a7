-- What the lengths of the parts of a text are.
use Rattle.std.proofs.Common.{◌≡◌, ℕ, zero, suc, ◌+◌, ◌-◌, ◌*◌, ◌≤◌, ◌<◌, Bool, true, false, List, [], ◌∷◌, ◌++◌, length, take, drop, get_or, Option, Some, None, refl, ap, sym, subst, ◌∙◌, append_assoc, append-nil, add-zero, arith}
use Rattle.std.specs.Prelude.{if◌then◌else◌, ◌&&◌, ◌==◌, Ok, Err, slice_index}
use Rattle.std.specs.List.{list_all, prefix_len}
use Rattle.std.proofs.lemmas.List.{at_drop_more, take_at, drop_at}
use Rattle.std.proofs.lemmas.Bool.Decides.{nat_tests}
use Rattle.sc_text.specs.declared.token.Span.{Span}
use Rattle.sc_text.specs.declared.fault.LexFault.TheVariants as fault
use Rattle.sc_text.specs.Characters.{begins_with, decimal_from, decimal, escape, is_digit, percent, quote}
use Rattle.sc_text.specs.Spelling.{span_at}
use Rattle.sc_text.specs.Reading.Lengths.{is_bare}
use Rattle.sc_text.specs.Reading.Front.{mark_ahead, number, marks_read, with_mark}
use Rattle.sc_text.proofs.Classes.{and_true, not_true}

-- ---- what goes on as long as it can

-- the first n characters pass, and then none follows that does
pub record IsPrefix (p : ℕ → Bool) (text : List ℕ) (n : ℕ) : Type 0 where
  pub front : List ℕ
  pub rest : List ℕ
  pub split : text ≡ front ++ rest
  pub count : length front ≡ n
  pub all : list_all p front ≡ true
  pub stops : begins_with p rest ≡ false

IsPrefix-more : (p : ℕ → Bool) (c : ℕ) (cs : List ℕ) (b : Bool) → p c ≡ b → IsPrefix p cs (prefix_len p cs) → IsPrefix p (c ∷ cs) (if b then 1 + prefix_len p cs else 0)
IsPrefix-more p c cs true e h = record {
  front = c ∷ h.front;
  rest = h.rest;
  split = ap (λ (l : List ℕ). c ∷ l) h.split;
  count = omega (arith, h.count);
  all = ap (λ (b : Bool). b && list_all p h.front) e ∙ h.all;
  stops = h.stops;
}
IsPrefix-more p c cs false e h = record { front = []; rest = c ∷ cs; split = refl; count = refl; all = refl; stops = e }

pub prefix_len-IsPrefix : (p : ℕ → Bool) (text : List ℕ) → IsPrefix p text (prefix_len p text)
prefix_len-IsPrefix p [] = record { front = []; rest = []; split = refl; count = refl; all = refl; stops = refl }
prefix_len-IsPrefix p (c ∷ cs) = IsPrefix-more p c cs (p c) refl (prefix_len-IsPrefix p cs)

prefix_len-stops : (p : ℕ → Bool) (rest : List ℕ) → begins_with p rest ≡ false → prefix_len p rest ≡ 0
prefix_len-stops p [] e = refl
prefix_len-stops p (c ∷ cs) e = ap (λ (b : Bool). if b then 1 + prefix_len p cs else 0) e

pub prefix_len-split : (p : ℕ → Bool) (front rest : List ℕ) → list_all p front ≡ true → begins_with p rest ≡ false → prefix_len p (front ++ rest) ≡ length front
prefix_len-split p [] rest all stops = prefix_len-stops p rest stops
prefix_len-split p (c ∷ cs) rest all stops =
    let h = and_true (p c) (list_all p cs) all in
    let more : prefix_len p (cs ++ rest) ≡ length cs = prefix_len-split p cs rest h.1 stops in
    ap (λ (b : Bool). if b then 1 + prefix_len p (cs ++ rest) else 0) h.0 ∙ omega (arith, more)

-- ---- integers

decimal_from-le_more : (n c : ℕ) (cs : List ℕ) (b : Bool) → ((m : ℕ) → m ≤ decimal_from m cs) → n ≤ decimal_from (if b then 10 * n + (c - 48) else n) cs
decimal_from-le_more n c cs true more = omega (arith, more (10 * n + (c - 48)))
decimal_from-le_more n c cs false more = more n

-- further digits make no number smaller
pub decimal_from-le : (n : ℕ) (cs : List ℕ) → n ≤ decimal_from n cs
decimal_from-le n [] = omega arith
decimal_from-le n (c ∷ cs) = decimal_from-le_more n c cs (is_digit c) (λ m. decimal_from-le m cs)

pub number_none : (cs : List ℕ) → 9223372036854775807 < decimal cs → None ≡ number cs
number_none cs h = grind (arith, nat_tests)

-- where one more digit makes the number too large, the whole is
pub number_too_large : (cs : List ℕ) (n i : ℕ) → i < length cs → is_digit (get_or cs i 0) ≡ true → decimal_from n (drop i cs) ≡ decimal cs →
    9223372036854775807 < 10 * n + (get_or cs i 0 - 48) → None ≡ number cs
number_too_large cs n i l d same large =
    let c : ℕ = get_or cs i 0 in
    let step : decimal_from n (drop i cs) ≡ decimal_from n (c ∷ drop (i + 1) cs) = at_drop_more (decimal_from n) cs i 0 l in
    let read : decimal_from n (c ∷ drop (i + 1) cs) ≡ decimal_from (10 * n + (c - 48)) (drop (i + 1) cs) = ap (λ (b : Bool). decimal_from (if b then 10 * n + (c - 48) else n) (drop (i + 1) cs)) d in
    number_none cs (omega (arith, decimal_from-le (10 * n + (c - 48)) (drop (i + 1) cs), same, step, read))

-- ---- manifest strings

bare_read : (found : List ℕ) (at : ℕ) (front rest : List ℕ) → list_all is_bare front ≡ true →
    marks_read false found at (front ++ rest) ≡ marks_read false (found ++ front) (at + length front) rest
bare_read found at [] rest all = ap (λ (f : List ℕ). marks_read false f at rest) (sym (append-nil found)) ∙ ap (λ (n : ℕ). marks_read false (found ++ []) n rest) (sym (add-zero at))
bare_read found at (c ∷ cs) rest all =
    let h = and_true (is_bare c) (list_all is_bare cs) all in
    let n : at + 1 + length cs ≡ at + suc (length cs) = omega arith in
    ap (λ (b : Bool). if b then marks_read true found at (cs ++ rest) else marks_read false (found ++ c ∷ []) (at + 1) (cs ++ rest)) (not_true (c == percent) h.0)
    ∙ bare_read (found ++ c ∷ []) (at + 1) cs rest h.1
    ∙ ap (λ (f : List ℕ). marks_read false f (at + 1 + length cs) rest) (append_assoc found (c ∷ []) cs)
    ∙ ap (λ (m : ℕ). marks_read false (found ++ c ∷ cs) m rest) n

run_read_at : (found : List ℕ) (at : ℕ) (text : List ℕ) (n : ℕ) → IsPrefix is_bare text n →
    marks_read false found at text ≡ marks_read false (found ++ take n text) (at + n) (drop n text)
run_read_at found at text n h =
    ap (marks_read false found at) h.split ∙ bare_read found at h.front h.rest h.all
    ∙ ap (λ (f : List ℕ). marks_read false (found ++ f) (at + length h.front) h.rest) (sym (take_at h.front h.rest n h.count) ∙ ap (take n) (sym h.split))
    ∙ ap (λ (r : List ℕ). marks_read false (found ++ take n text) (at + length h.front) r) (sym (drop_at h.front h.rest n h.count) ∙ ap (drop n) (sym h.split))
    ∙ ap (λ (m : ℕ). marks_read false (found ++ take n text) (at + m) (drop n text)) h.count

-- what stands before the first percent sign stands for itself
pub run_read : (found : List ℕ) (at : ℕ) (text : List ℕ) →
    marks_read false found at text ≡ marks_read false (found ++ take (prefix_len is_bare text) text) (at + prefix_len is_bare text) (drop (prefix_len is_bare text) text)
run_read found at text = run_read_at found at text (prefix_len is_bare text) (prefix_len-IsPrefix is_bare text)

-- the same, at what the code made of it
pub run_kept : (found found' run : List ℕ) (at n : ℕ) (text after : List ℕ) → n ≡ prefix_len is_bare text → run ≡ take n text → found' ≡ found ++ run → after ≡ drop n text →
    marks_read false found' (at + n) after ≡ marks_read false found at text
run_kept found found' run at n text after count r f a =
    ap (λ (l : List ℕ). marks_read false l (at + n) after) (f ∙ ap (λ (l : List ℕ). found ++ l) r)
    ∙ ap (marks_read false (found ++ take n text) (at + n)) a
    ∙ ap (λ (m : ℕ). marks_read false (found ++ take m text) (at + m) (drop m text)) count ∙ sym (run_read found at text)

-- at the end of the text
pub marks_end : (found : List ℕ) (at : ℕ) (text : List ℕ) → (length text == 0) ≡ true → marks_read false found at text ≡ Ok found
marks_end found at [] e = refl
marks_end found at (c ∷ cs) e = absurd (grind (arith, nat_tests))

some_left : (c : ℕ) (cs : List ℕ) → 0 < length (c ∷ cs)
some_left c cs = omega arith

refused_at : (found : List ℕ) (at n : ℕ) (text : List ℕ) → (length text == 0) ≡ false → n ≤ 0 → (n < length text → slice_index text n ≡ percent) → None ≡ mark_ahead text →
    marks_read false found at text ≡ Err (fault.BadEscape (span_at at 1))
refused_at found at n [] l z p m = absurd (grind (arith, nat_tests))
refused_at found at (suc n) (c ∷ cs) l z p m = absurd (omega arith)
refused_at found at zero (c ∷ []) l z p m =
    ap (λ (x : ℕ). if x == percent then marks_read true found at [] else marks_read false (found ++ c ∷ []) (at + 1) []) (p (some_left c []))
refused_at found at zero (c ∷ d ∷ cs) l z p m =
    ap (λ (x : ℕ). if x == percent then marks_read true found at (d ∷ cs) else marks_read false (found ++ c ∷ []) (at + 1) (d ∷ cs)) (p (some_left c (d ∷ cs)))
    ∙ ap (with_mark (fault.BadEscape (span_at at 1)) (λ v. marks_read false (found ++ v ∷ []) (at + 2) cs)) (sym m)

-- where a percent sign begins no mark, at what the code read of the text
pub mark_refused : (found : List ℕ) (at n : ℕ) (text bytes ahead : List ℕ) (span : Span) → (length text == 0) ≡ false → n ≤ 0 → bytes ≡ text → (n < length bytes → slice_index bytes n ≡ percent) →
    ahead ≡ text → None ≡ mark_ahead ahead → span ≡ span_at at 1 → marks_read false found at text ≡ Err (fault.BadEscape span)
mark_refused found at n text bytes ahead span l z b p a m s =
    refused_at found at n text l z (subst (λ (t : List ℕ). n < length t → slice_index t n ≡ percent) b p) (m ∙ ap mark_ahead a)
    ∙ ap (λ (x : Span). Err (fault.BadEscape x)) (sym s)

small_step : (b : Bool) (w v : ℕ) (o : Option ℕ) → (if b then Some w else o) ≡ Some v → w < 128 → (o ≡ Some v → v < 128) → v < 128
small_step true w v o e l more = let s : w ≡ v = cc in omega (arith, l, s)
small_step false w v o e l more = more e

-- what a mark stands for is one byte
escape_small : (d v : ℕ) → escape d ≡ Some v → v < 128
escape_small d v e =
    small_step (d == 78) 10 v _ e (omega arith) (λ e. small_step (d == 84) 9 v _ e (omega arith) (λ e. small_step (d == percent) 37 v _ e (omega arith)
    (λ e. small_step (d == quote) 34 v _ e (omega arith) (λ e. small_step (d == 39) 39 v _ e (omega arith) (λ e. cc)))))

ahead_small : (v : ℕ) (text : List ℕ) → Some v ≡ mark_ahead text → v < 128
ahead_small v [] e = cc
ahead_small v (c ∷ []) e = cc
ahead_small v (c ∷ d ∷ cs) e = escape_small d v (sym e)

kept_at : (found : List ℕ) (at n v : ℕ) (text : List ℕ) → (length text == 0) ≡ false → n ≤ 0 → (n < length text → slice_index text n ≡ percent) → Some v ≡ mark_ahead text →
    marks_read false (found ++ v ∷ []) (at + 2) (drop 2 text) ≡ marks_read false found at text
kept_at found at n v [] l z p m = absurd (grind (arith, nat_tests))
kept_at found at (suc n) v (c ∷ cs) l z p m = absurd (omega arith)
kept_at found at zero v (c ∷ []) l z p m = cc
kept_at found at zero v (c ∷ d ∷ cs) l z p m =
    ap (with_mark (fault.BadEscape (span_at at 1)) (λ w. marks_read false (found ++ w ∷ []) (at + 2) cs)) m
    ∙ sym (ap (λ (x : ℕ). if x == percent then marks_read true found at (d ∷ cs) else marks_read false (found ++ c ∷ []) (at + 1) (d ∷ cs)) (p (some_left c (d ∷ cs))))

-- where it begins the mark of this character, at what the code made of it
pub mark_kept : (found found' encoded : List ℕ) (at n v ch : ℕ) (text bytes ahead after : List ℕ) → (length text == 0) ≡ false → n ≤ 0 → bytes ≡ text → (n < length bytes → slice_index bytes n ≡ percent) →
    ahead ≡ text → Some v ≡ mark_ahead ahead → ch ≡ v → (ch < 128 → encoded ≡ ch ∷ []) → found' ≡ found ++ encoded → after ≡ drop 2 text →
    marks_read false found' (at + 2) after ≡ marks_read false found at text
mark_kept found found' encoded at n v ch text bytes ahead after l z b p a m s e f d =
    let small : ch < 128 = let o = ahead_small v ahead m in omega (arith, o, s) in
    ap (λ (vs : List ℕ). marks_read false vs (at + 2) after) (f ∙ ap (λ (x : List ℕ). found ++ x) (e small ∙ ap (λ (x : ℕ). x ∷ []) s))
    ∙ ap (marks_read false (found ++ v ∷ []) (at + 2)) d
    ∙ kept_at found at n v text l z (subst (λ (t : List ℕ). n < length t → slice_index t n ≡ percent) b p) (m ∙ ap mark_ahead a)
