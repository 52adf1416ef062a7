-- A token is still one before another rest of the text.
use Rattle.std.proofs.Common.{append-nil, ◌≡◌, ℕ, ◌+◌, Bool, true, false, IsTrue, if◌then◌else◌, ◌==◌, ◌&&◌, ◌||◌, not, List, [], ◌∷◌, ◌++◌, refl, ap, sym, ◌∙◌, subst, arith}
use Rattle.std.proofs.lemmas.Bool.Decides.{nat_tests}
use Rattle.sc_text.specs.Characters.{digit_follows, is_letter, is_digit, is_name_part, is_underscore, line_feed, space}
use Rattle.sc_text.specs.Kind.{Kind}
use Rattle.sc_text.specs.Spelling.{Lexeme, IsToken, name, reserved_word, integer, manifest_string, long, short, word, last_digit, digit}
use Rattle.sc_text.specs.Words.{goes_on, long_symbol}
use Rattle.sc_text.proofs.Classes.{eq_true, not_true, or_false}
use Rattle.sc_format.specs.declared.layout.Blank.TheVariants as blank
use Rattle.sc_format.specs.declared.layout.Lead.{Lead}
use Rattle.sc_format.specs.declared.layout.Lead.TheVariants as lead
use Rattle.sc_format.specs.declared.layout.State.{State}
use Rattle.sc_format.specs.declared.layout.Want.{Want}
use Rattle.sc_format.specs.declared.role.Role.{Role}
use Rattle.sc_format.specs.Formatted.{begins_apart, ends_token, is_lone, is_whole, joined, laid, lead_between, may_touch, wanted}
use Rattle.sc_format.specs.Gaps.{Remark, above_text, beside_text, gap_of, has_comment, has_line, inline_text, is_empty, is_line, laid_gap, line_start, tidied}
use Rattle.sc_format.specs.Layout.{after, line, role_of, want_of}
use Rattle.sc_format.proofs.Splits.{IsSplit, part, part-laid, tail}

-- ---- bytes

and-false : (a : Bool) → (a && false) ≡ false
and-false true = refl
and-false false = refl

goes_on-none : (a b : ℕ) (cs : List ℕ) → (b == 61) ≡ false → (b == 47) ≡ false → (b == 92) ≡ false → (b == 45) ≡ false → goes_on a (b ∷ cs) ≡ false
unfolding long_symbol
goes_on-none a b cs p q r s = simp (p, q, r, s, and-false)

part-underscore : (c : ℕ) → is_name_part c ≡ false → is_underscore c ≡ false
part-underscore c e = (or_false _ _ e).1

part-digit : (c : ℕ) → is_name_part c ≡ false → is_digit c ≡ false
part-digit c e = grind (arith, nat_tests)

part-letter : (c : ℕ) → is_name_part c ≡ false → is_letter c ≡ false
part-letter c e = grind (arith, nat_tests)

digit-none : (c : ℕ) (cs : List ℕ) → is_name_part c ≡ false → digit_follows (c ∷ cs) ≡ false
digit-none c cs e =
    ap (λ (b : Bool). if b then digit_follows cs else is_digit c) (part-underscore c e) ∙ part-digit c e

-- a byte that no token goes on with
pub token-before : {k : Kind} {w rest : List ℕ} (c : ℕ) (cs : List ℕ) → IsToken k w rest → IsTrue (ends_token c) → IsToken k w (c ∷ cs)
token-before c cs t e =
    let all = or_false _ _ (not_true _ e) in
    let equal = or_false _ _ all.1 in
    let slash = or_false _ _ equal.1 in
    let back = or_false _ _ slash.1 in
    at t all.0 (λ a. goes_on-none a c cs equal.0 slash.0 back.0 back.1)
  where
    at : {k : Kind} {w rest : List ℕ} → IsToken k w rest → is_name_part c ≡ false → ((a : ℕ) → goes_on a (c ∷ cs) ≡ false) → IsToken k w (c ∷ cs)
    at (name h stops e) n g = name h n e
    at (reserved_word h stops e) n g = reserved_word h n e
    at (integer h stops le) n g = integer h (digit-none c cs n) le
    at (manifest_string h) n g = manifest_string h
    at (long e) n g = long e
    at (short {a} e stops) n g = short e (g a)

-- ---- one byte that goes on with nothing

pub record IsEnd (c : ℕ) (after : List ℕ) : Type 0 where
  pub letter : is_letter c ≡ false
  pub digit : is_digit c ≡ false
  pub symbol : goes_on c after ≡ false

end-at : (c : ℕ) (after : List ℕ) → IsTrue (not (is_letter c || is_digit c)) → goes_on c after ≡ false → IsEnd c after
end-at c after e g = let parts = or_false _ _ (not_true _ e) in record { letter = parts.0; digit = parts.1; symbol = g }

or-parts : (a b : Bool) (P : Type 0) → (a ≡ true → P) → (b ≡ true → P) → (a || b) ≡ true → P
or-parts true b P f g e = f refl
or-parts false b P f g e = g e

whole-end : (c d : ℕ) (ds : List ℕ) → is_whole c ≡ true → IsEnd c (d ∷ ds)
unfolding long_symbol
whole-end c d ds =
    or-parts _ _ _ (λ e. subst (λ (x : ℕ). IsEnd x (d ∷ ds)) (sym (eq_true c 40 e)) (end-at 40 (d ∷ ds) refl refl))
    (or-parts _ _ _ (λ e. subst (λ (x : ℕ). IsEnd x (d ∷ ds)) (sym (eq_true c 123 e)) (end-at 123 (d ∷ ds) refl refl))
    (or-parts _ _ _ (λ e. subst (λ (x : ℕ). IsEnd x (d ∷ ds)) (sym (eq_true c 46 e)) (end-at 46 (d ∷ ds) refl refl))
    (or-parts _ _ _ (λ e. subst (λ (x : ℕ). IsEnd x (d ∷ ds)) (sym (eq_true c 63 e)) (end-at 63 (d ∷ ds) refl refl))
    (λ e. subst (λ (x : ℕ). IsEnd x (d ∷ ds)) (sym (eq_true c 33 e)) (end-at 33 (d ∷ ds) refl refl)))))

letter-facts : (d : ℕ) → is_letter d ≡ true → ((d == 61) ≡ false) × ((d == 47) ≡ false) × ((d == 92) ≡ false) × ((d == 45) ≡ false)
letter-facts d e = (grind (arith, nat_tests), grind (arith, nat_tests), grind (arith, nat_tests), grind (arith, nat_tests))

and-split : (a b : Bool) → (a && b) ≡ true → (a ≡ true) × (b ≡ true)
and-split true b e = (refl, e)
and-split false b e = let f : false ≡ true = e in cc

lone-end : (c d : ℕ) (ds : List ℕ) → (is_whole c || (c == 60 && is_letter d)) ≡ true → IsEnd c (d ∷ ds)
lone-end c d ds =
    or-parts (is_whole c) (c == 60 && is_letter d) (IsEnd c (d ∷ ds)) (whole-end c d ds)
    (λ e. let both = and-split (c == 60) (is_letter d) e in
    let f = letter-facts d both.1 in
    subst (λ (x : ℕ). IsEnd x (d ∷ ds)) (sym (eq_true c 60 both.0)) (end-at 60 (d ∷ ds) refl (goes_on-none 60 d ds f.0 f.1 f.2 f.3)))

first-is : (c d : ℕ) (cs ds : List ℕ) (x : List ℕ) → x ≡ c ∷ cs → x ≡ d ∷ ds → c ≡ d
first-is c d cs ds x p q = cc

contradiction : {A : Type 0} (f : ℕ → Bool) (c d : ℕ) → c ≡ d → IsTrue (f c) → f d ≡ false → A
contradiction f c d e t n = let u : true ≡ false = sym t ∙ ap f e ∙ n in absurd (let v : ⊥ = cc in v)

pub lone-before : {k : Kind} {w rest : List ℕ} (c : ℕ) (after : List ℕ) → IsToken k w rest → w ≡ c ∷ [] → IsEnd c after → IsToken k w after
lone-before c after (name (word {c = d} {cs = ds} first all) stops e) p f = contradiction is_letter d c (first-is d c ds [] (d ∷ ds) refl p) first f.letter
lone-before c after (reserved_word (word {c = d} {cs = ds} first all) stops e) p f = contradiction is_letter d c (first-is d c ds [] (d ∷ ds) refl p) first f.letter
lone-before c after (integer (last_digit {d} h) stops le) p f = contradiction is_digit d c (first-is d c [] [] (d ∷ []) refl p) h f.digit
lone-before c after (integer (digit {d} us {ds} h all i) stops le) p f = contradiction is_digit d c (first-is d c (us ++ ds) [] (d ∷ (us ++ ds)) refl p) h f.digit
lone-before c after (manifest_string h) p f = manifest_string h
lone-before c after (long e) p f = long e
lone-before c after (short {a} e stops) p f = short e (ap (λ (x : ℕ). goes_on x after) (first-is a c [] [] (a ∷ []) refl p) ∙ f.symbol)

lone-touch : {k : Kind} {w rest : List ℕ} (v x later after : List ℕ) → w ≡ v → is_lone v later ≡ true → IsToken k w rest → IsToken k w (later ++ after)
lone-touch [] x later after p e t = let f : false ≡ true = e in absurd (let v : ⊥ = cc in v)
lone-touch (c ∷ []) x [] after p e t = let f : false ≡ true = e in absurd (let v : ⊥ = cc in v)
lone-touch (c ∷ []) x (d ∷ ds) after p e t = lone-before c (d ∷ (ds ++ after)) t p (lone-end c d (ds ++ after) e)
lone-touch (c ∷ b ∷ cs) x later after p e t = let f : false ≡ true = e in absurd (let v : ⊥ = cc in v)

apart-touch : {k : Kind} {w rest : List ℕ} (later after : List ℕ) → begins_apart later ≡ true → IsToken k w rest → IsToken k w (later ++ after)
apart-touch [] after e t = let f : false ≡ true = e in absurd (let v : ⊥ = cc in v)
apart-touch (c ∷ cs) after e t = token-before c (cs ++ after) t e

touch : {k : Kind} {w rest : List ℕ} (later after : List ℕ) → may_touch w later ≡ true → IsToken k w rest → IsToken k w (later ++ after)
touch {k} {w} {rest} later after e t =
    or-parts (begins_apart later) (is_lone w later) (IsToken k w (later ++ after)) (λ a. apart-touch later after a t)
    (λ l. lone-touch w [] later after refl l t) e

-- ---- before a gap

after-last : {k : Kind} {w rest : List ℕ} (v : Want) (b apart : Bool) (after : List ℕ) → IsToken k w rest → (is_line v.lead ≡ true → b ≡ true) →
    (v.lead ≡ lead.Close → IsToken k w after) → IsToken k w ((if b then line_start v.indent apart else inline_text v.lead) ++ after)
after-last v true apart after t lines close = token-before line_feed _ t refl
after-last {k} {w} v false apart after t lines close = at v.lead lines close
  where
    at : (l : Lead) → (is_line l ≡ true → false ≡ true) → (l ≡ lead.Close → IsToken k w after) → IsToken k w (inline_text l ++ after)
    at lead.Line lines close = let f = lines refl in absurd (let u : ⊥ = cc in u)
    at lead.Close lines close = close refl
    at lead.Apart lines close = token-before space after t refl

after-above : {k : Kind} {w rest : List ℕ} (n : ℕ) (rs : List Remark) (last after : List ℕ) → IsToken k w rest → IsToken k w (last ++ after) →
    IsToken k w ((above_text n rs ++ last) ++ after)
after-above n [] last after t u = u
after-above n (r ∷ rs) last after t u = token-before line_feed _ t refl

after-beside : {k : Kind} {w rest : List ℕ} (cs gs after : List ℕ) → IsToken k w rest → IsToken k w (gs ++ after) → IsToken k w ((beside_text cs ++ gs) ++ after)
after-beside [] gs after t u = u
after-beside (c ∷ cs) gs after t u = token-before space _ t refl

or-left : (a b : Bool) → a ≡ true → (a || b) ≡ true
or-left true b e = refl
or-left false b e = let f : false ≡ true = e in cc

pub before-gap : {k : Kind} {w rest : List ℕ} (v : Want) (text after : List ℕ) → IsToken k w rest → (v.lead ≡ lead.Close → IsToken k w after) →
    IsToken k w (laid_gap v text ++ after)
before-gap v text after t close =
    let g = tidied v (gap_of text) in
    after-beside g.beside _ after t (after-above v.indent g.above _ after t
    (after-last v (has_line v g) g.is_apart after t (λ e. or-left (is_line v.lead) (has_comment g) e) close))

-- ---- before what is laid

token-some : {k : Kind} {w rest : List ℕ} → IsToken k w rest → is_empty w ≡ false
token-some (name (word first all) stops e) = refl
token-some (reserved_word (word first all) stops e) = refl
token-some (integer (last_digit h) stops le) = refl
token-some (integer (digit us h all i) stops le) = refl
token-some (manifest_string h) = refl
token-some (long e) = refl
token-some (short e stops) = refl

between-close : (l : Lead) (touches : Bool) → lead_between l touches ≡ lead.Close → touches ≡ true
between-close lead.Line touches e = cc
between-close lead.Apart touches e = cc
between-close lead.Close true e = refl
between-close lead.Close false e = cc

wanted-close : (s : State) (r : Role) (before later : List ℕ) → is_empty before ≡ false → (wanted s r before later).lead ≡ lead.Close → may_touch before later ≡ true
wanted-close s r before later some e =
    between-close (want_of s r).lead (may_touch before later)
    (sym (ap (λ (b : Bool). (let v : Want = if b then line 0 blank.Start else joined (want_of s r) before later in v).lead) some) ∙ e)

pub follows : {place : ℕ} {text : List ℕ} {ts : List Lexeme} → IsSplit place text ts → (from : ℕ) → from ≡ place + 1 → (s : State) (k : Kind) (w rest : List ℕ) →
    IsToken k w rest → IsToken k w (laid text from ts s w)
follows (tail {place} {g} i) from e s k w rest t =
    subst (λ (x : List ℕ). IsToken k w x) (append-nil (laid_gap (line 0 blank.Never) g))
    (before-gap (line 0 blank.Never) g [] t (λ c. let f : lead.Line ≡ lead.Close = c in absurd (let u : ⊥ = cc in u)))
follows (part {place} {text} g v left l at next {ts} p q r i j h) from e s k w rest t =
    let more = laid left (next + 1) ts (after s (role_of l)) v in
    subst (λ (x : List ℕ). IsToken k w x)
    (sym (part-laid from text g v left l at next ts s w p (omega (arith, e, q)) r))
    (before-gap (wanted s (role_of l) w v) g (v ++ more) t
    (λ c. touch v more (wanted-close s (role_of l) w v (token-some t) c) t))
