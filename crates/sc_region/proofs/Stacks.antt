-- The topmost element, which is the last of a `Vec`, comes first in the model.
use Rattle.std.proofs.Common.{◌≡◌, ℕ, zero, suc, ◌+◌, ◌-◌, ◌<◌, ◌≤◌, List, [], ◌∷◌, ◌++◌, Option, Some, None, Bool, true, false, length, length-append, drop, take, get_or, refl, sym, ap, ◌∙◌, arith}
use Rattle.std.specs.Prelude.{◌||◌, ◌==◌, nat_lt, slice_get, slice_set}
use Rattle.std.specs.Option.{option_map, option_to_list, is_some, IsSome, IfSome}
use Rattle.std.proofs.lemmas.Option.{slice_get_past, slice_get_read}
use Rattle.std.proofs.lemmas.List.{length-take-le, take_more_set}
use Rattle.std.proofs.Math.Seq.{take-suc}
use Rattle.std.proofs.lemmas.Bool.Decides.{nat_tests}
use Rattle.std.specs.List.{list_any}
use Rattle.sc_region.specs.declared.value.Value.{Value}
use Rattle.sc_region.specs.declared.value.Reference.{Reference}
use Rattle.sc_region.specs.declared.frame.Activation.{Activation}
use Rattle.sc_region.specs.OperandList.{operands_onto, last}
use Rattle.sc_region.specs.Frames.{PlainFrame, activation_of, frame_with, frames_onto, is_current, top_current, top_activation}
use Rattle.sc_region.specs.Lending.{with_top_activation}

pub operands_push : (vs : List Value) (v : Value) (rest : List Value) → operands_onto (vs ++ v ∷ []) rest ≡ v ∷ operands_onto vs rest
operands_push [] v rest = refl
operands_push (w ∷ vs) v rest = operands_push vs v (w ∷ rest)

pub operands_length : (vs rest : List Value) → length (operands_onto vs rest) ≡ length vs + length rest
operands_length [] rest = omega arith
operands_length (v ∷ vs) rest = omega (arith, operands_length vs (v ∷ rest))

pub operands_last : (vs : List Value) (n : ℕ) (default : Value) (rest : List Value) → length vs ≡ suc n → last (operands_onto vs rest) ≡ Some (get_or vs n default)
operands_last [] n default rest e = absurd (omega arith)
operands_last (v ∷ []) zero default rest e = refl
operands_last (v ∷ w ∷ vs) zero default rest e = absurd (omega arith)
operands_last (v ∷ vs) (suc n) default rest e = operands_last vs n default (v ∷ rest) (omega arith)

-- the first so many of a list, the last one first
pub filled_length : (vs : List Value) (n : ℕ) → n ≤ length vs → length (operands_onto (take n vs) []) ≡ n
filled_length vs n l = omega (arith, operands_length (take n vs) [], length-take-le n vs l)

pub filled_push : (vs : List Value) (n : ℕ) (v : Value) → n < length vs → operands_onto (take (n + 1) (slice_set vs n v)) [] ≡ v ∷ operands_onto (take n vs) []
filled_push vs n v l = ap (λ ws. operands_onto ws []) (take_more_set vs n v l) ∙ operands_push (take n vs) v []

pub filled_pop : (vs : List Value) (n : ℕ) (d : Value) → n < length vs → operands_onto (take (n + 1) vs) [] ≡ get_or vs n d ∷ operands_onto (take n vs) []
filled_pop vs n d l =
    let next : n + 1 ≡ suc n = omega arith in
    ap (λ k. operands_onto (take k vs) []) next ∙ ap (λ ws. operands_onto ws []) (take-suc vs n d l) ∙ operands_push (take n vs) (get_or vs n d) []

-- ---- frames

-- one more routine above them
pub frames_above : (rs : List Reference) (ts : List Activation) (t : Activation) (rest : List PlainFrame) → length rs ≤ length ts → frames_onto rs (ts ++ t ∷ []) rest ≡ frames_onto rs ts rest
frames_above [] ts t rest l = refl
frames_above (r ∷ rs) [] t rest l = absurd (omega arith)
frames_above (r ∷ rs) (u ∷ ts) t rest l = frames_above rs ts t (frame_with r (activation_of u) ∷ rest) (omega arith)

-- another routine above them
pub frames_under : (rs : List Reference) (ts : List Activation) (n : ℕ) (t : Activation) (rest : List PlainFrame) → length rs ≤ n → frames_onto rs (slice_set ts n t) rest ≡ frames_onto rs ts rest
frames_under [] ts n t rest l = refl
frames_under (r ∷ rs) [] n t rest l = refl
frames_under (r ∷ rs) (u ∷ ts) zero t rest l = absurd (omega arith)
frames_under (r ∷ rs) (u ∷ ts) (suc n) t rest l = frames_under rs ts n t (frame_with r (activation_of u) ∷ rest) (omega arith)

-- one more frame, whose routine stands there
pub frames_push : (rs : List Reference) (ts : List Activation) (r : Reference) (t : Activation) (rest : List PlainFrame) → length rs < length ts →
    frames_onto (rs ++ r ∷ []) (slice_set ts (length rs) t) rest ≡ frame_with r (activation_of t) ∷ frames_onto rs ts rest
frames_push rs [] r t rest l = absurd (omega arith)
frames_push [] (u ∷ ts) r t rest l = refl
frames_push (q ∷ rs) (u ∷ ts) r t rest l = frames_push rs ts r t (frame_with q (activation_of u) ∷ rest) (omega arith)

pub frames_length : (rs : List Reference) (ts : List Activation) (rest : List PlainFrame) → length rs ≤ length ts → length (frames_onto rs ts rest) ≡ length rs + length rest
frames_length [] ts rest l = omega arith
frames_length (r ∷ rs) [] rest l = absurd (omega arith)
frames_length (r ∷ rs) (t ∷ ts) rest l = omega (arith, frames_length rs ts (frame_with r (activation_of t) ∷ rest) (omega arith))

-- ---- the topmost frame

pub frames_pop : (rs : List Reference) (ts : List Activation) (r : Reference) (rest : List PlainFrame) → length rs < length ts → drop 1 (frames_onto (rs ++ r ∷ []) ts rest) ≡ frames_onto rs ts rest
frames_pop rs [] r rest l = absurd (omega arith)
frames_pop [] (t ∷ ts) r rest l = refl
frames_pop (q ∷ rs) (t ∷ ts) r rest l = frames_pop rs ts r (frame_with q (activation_of t) ∷ rest) (omega arith)

pub frames_current : (rs : List Reference) (ts : List Activation) (r : Reference) (rest : List PlainFrame) → length rs < length ts → top_current (frames_onto (rs ++ r ∷ []) ts rest) ≡ Some r
frames_current rs [] r rest l = absurd (omega arith)
frames_current [] (t ∷ ts) r rest l = refl
frames_current (q ∷ rs) (t ∷ ts) r rest l = frames_current rs ts r (frame_with q (activation_of t) ∷ rest) (omega arith)

-- the object that the topmost frame runs on is the last
pub frames_last : (rs : List Reference) (ts : List Activation) (n : ℕ) (rest : List PlainFrame) → length rs ≡ suc n → length rs ≤ length ts → top_current (frames_onto rs ts rest) ≡ slice_get rs n
frames_last [] ts n rest e l = absurd (omega arith)
frames_last (r ∷ rs) [] n rest e l = absurd (omega arith)
frames_last (r ∷ []) (t ∷ ts) zero rest e l = refl
frames_last (r ∷ q ∷ rs) (t ∷ ts) zero rest e l = absurd (omega arith)
frames_last (r ∷ rs) (t ∷ ts) (suc n) rest e l = frames_last rs ts n (frame_with r (activation_of t) ∷ rest) (omega arith) (omega arith)

pub frames_top : (rs : List Reference) (ts : List Activation) (n : ℕ) (rest : List PlainFrame) → length rs ≡ suc n → length rs ≤ length ts → top_activation (frames_onto rs ts rest) ≡ option_map activation_of (slice_get ts n)
frames_top [] ts n rest e l = absurd (omega arith)
frames_top (r ∷ rs) [] n rest e l = absurd (omega arith)
frames_top (r ∷ []) (t ∷ ts) zero rest e l = refl
frames_top (r ∷ q ∷ rs) (t ∷ ts) zero rest e l = absurd (omega arith)
frames_top (r ∷ rs) (t ∷ ts) (suc n) rest e l = frames_top rs ts n (frame_with r (activation_of t) ∷ rest) (omega arith) (omega arith)

-- the object that the one under it runs on is the last but one
pub frames_below : (rs : List Reference) (ts : List Activation) (n : ℕ) (d : Reference) (rest : List PlainFrame) → length rs ≡ suc (suc n) → length rs ≤ length ts →
    top_current (drop 1 (frames_onto rs ts rest)) ≡ Some (get_or rs n d)
frames_below [] ts n d rest e l = absurd (omega arith)
frames_below (r ∷ rs) [] n d rest e l = absurd (omega arith)
frames_below (r ∷ []) (t ∷ ts) n d rest e l = absurd (omega arith)
frames_below (r ∷ q ∷ rs) (t ∷ []) n d rest e l = absurd (omega arith)
frames_below (r ∷ q ∷ []) (t ∷ u ∷ ts) zero d rest e l = refl
frames_below (r ∷ q ∷ p ∷ rs) (t ∷ u ∷ ts) zero d rest e l = absurd (omega arith)
frames_below (r ∷ q ∷ rs) (t ∷ u ∷ ts) (suc n) d rest e l = frames_below (q ∷ rs) (u ∷ ts) n d (frame_with r (activation_of t) ∷ rest) (omega arith) (omega arith)

-- there is none under one
pub none_below : (rs : List Reference) (ts : List Activation) → length rs < 2 → length rs ≤ length ts → top_current (drop 1 (frames_onto rs ts [])) ≡ None
none_below [] ts e l = refl
none_below (r ∷ []) [] e l = absurd (omega arith)
none_below (r ∷ []) (t ∷ ts) e l = refl
none_below (r ∷ q ∷ rs) ts e l = absurd (omega arith)

-- its routine stands otherwise
pub frames_set : (rs : List Reference) (ts : List Activation) (n : ℕ) (t : Activation) (rest : List PlainFrame) → length rs ≡ suc n → length rs ≤ length ts →
    frames_onto rs (slice_set ts n t) rest ≡ with_top_activation t (frames_onto rs ts rest)
frames_set [] ts n t rest e l = absurd (omega arith)
frames_set (r ∷ rs) [] n t rest e l = absurd (omega arith)
frames_set (r ∷ []) (u ∷ ts) zero t rest e l = refl
frames_set (r ∷ q ∷ rs) (u ∷ ts) zero t rest e l = absurd (omega arith)
frames_set (r ∷ rs) (u ∷ ts) (suc n) t rest e l = frames_set rs ts n t (frame_with r (activation_of u) ∷ rest) (omega arith) (omega arith)

-- ---- the topmost frame, wherever its place is where there is none

pub top_at : (rs : List Reference) (ts : List Activation) (n : ℕ) → length rs ≤ length ts → (length rs ≡ 0 → length ts ≤ n) → (0 < length rs → length rs ≡ n + 1) →
    option_map activation_of (slice_get ts n) ≡ top_activation (frames_onto rs ts [])
top_at [] ts n l none some = ap (option_map activation_of) (slice_get_past ts n (none refl))
top_at (r ∷ rs) ts n l none some = sym (frames_top (r ∷ rs) ts n [] (omega (arith, some (omega arith))) l)

pub set_at : (rs : List Reference) (ts : List Activation) (n : ℕ) (t : Activation) → length rs ≤ length ts → (0 < length rs → length rs ≡ n + 1) →
    frames_onto rs (slice_set ts n t) [] ≡ with_top_activation t (frames_onto rs ts [])
set_at [] ts n t l some = refl
set_at (r ∷ rs) ts n t l some = frames_set (r ∷ rs) ts n t [] (omega (arith, some (omega arith))) l

pub current_at : (rs : List Reference) (ts : List Activation) → length rs ≤ length ts → slice_get rs (length rs - 1) ≡ top_current (frames_onto rs ts [])
current_at [] ts l = refl
current_at (r ∷ rs) ts l = sym (frames_last (r ∷ rs) ts (length (r ∷ rs) - 1) [] (omega arith) l)

-- The last of these objects goes, and so does the topmost frame.
pub popped : (rs qs : List Reference) (ts : List Activation) (o : Option Reference) → rs ≡ qs ++ option_to_list o → (0 < length rs → IsSome o) → length rs ≤ length ts →
    (o ≡ top_current (frames_onto rs ts [])) × (frames_onto qs ts [] ≡ drop 1 (frames_onto rs ts []))
popped rs qs ts (Some r) e some l =
    let under : length qs < length ts = omega (arith, ap length e, length-append qs (r ∷ [])) in (
      sym (ap (λ l. top_current (frames_onto l ts [])) e ∙ frames_current qs ts r [] under),
      sym (ap (λ l. drop 1 (frames_onto l ts [])) e ∙ frames_pop qs ts r [] under),
    )
popped [] [] ts None e some l = (refl, refl)
popped [] (q ∷ qs) ts None e some l = let wrong : 0 ≡ suc (length (qs ++ [])) = ap length e in absurd (omega arith)
popped (r ∷ rs) qs ts None e some l = let wrong : false ≡ true = some (omega arith) in absurd (cc)

-- what is found at a place
pub found_at : {R A B : Type 0} (f : A → B) (now : R → A) (ts : List A) (n : ℕ) (o : Option R) → is_some o ≡ nat_lt n (length ts) → IfSome o (λ r. now r ≡ get_or ts n (now r)) →
    option_map (λ r. f (now r)) o ≡ option_map f (slice_get ts n)
found_at f now ts n None e is =
    let past : length ts ≤ n = grind (arith, nat_tests, e) in
    ap (option_map f) (sym (slice_get_past ts n past))
found_at f now ts n (Some r) e is =
    let here : n < length ts = grind (arith, nat_tests, e) in
    ap (option_map f) (sym (slice_get_read ts (length ts) n (now r) refl here is))

-- ---- the objects that frames run on

or_swap : (a b c : Bool) → a || (b || c) ≡ (b || a) || c
or_swap true true c = refl
or_swap true false c = refl
or_swap false true c = refl
or_swap false false c = refl

-- which objects are Current doesn't depend on the order
pub current_onto : (number : ℕ) (rs : List Reference) (ts : List Activation) (rest : List PlainFrame) → length rs ≤ length ts →
    is_current number (frames_onto rs ts rest) ≡ list_any (λ (r : Reference). r.number == number) rs || is_current number rest
current_onto number [] ts rest l = refl
current_onto number (r ∷ rs) [] rest l = absurd (omega arith)
current_onto number (r ∷ rs) (t ∷ ts) rest l =
    current_onto number rs ts (frame_with r (activation_of t) ∷ rest) (omega arith)
    ∙ or_swap (list_any (λ (q : Reference). q.number == number) rs) (r.number == number) (is_current number rest)

or_false : (b : Bool) → b || false ≡ b
or_false true = refl
or_false false = refl

pub current_alone : (number : ℕ) (rs : List Reference) (ts : List Activation) → length rs ≤ length ts → is_current number (frames_onto rs ts []) ≡ list_any (λ (r : Reference). r.number == number) rs
current_alone number rs ts l = current_onto number rs ts [] l ∙ or_false (list_any (λ (r : Reference). r.number == number) rs)
