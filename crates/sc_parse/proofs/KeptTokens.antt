-- The tokens that places depend on: without those that separate or group, and without the words of parts that may be
-- empty. Beside each stands
-- where the parenthesis that follows it at once is closed.
use Rattle.std.proofs.Common.{◌≡◌, ℕ, zero, suc, Bool, true, false, List, [], ◌∷◌, refl, ap, sym, ◌∙◌}
use Rattle.std.specs.Prelude.{if◌then◌else◌}
use Rattle.sc_text.specs.Kind.{Kind, TERMINAL}
use Rattle.sc_text.specs.Spelling.{Lexeme}
use Rattle.sc_text.specs.declared.token.Span.{Span}
use Rattle.sc_text.specs.declared.token.Terminal.{Terminal}
use Rattle.sc_text.specs.declared.token.Terminal.TheVariants as terminal
use Rattle.sc_tree.specs.Bare.{nowhere}
use Rattle.sc_tree.proofs.ReadingSteps.{choose_true, choose_false}
use Rattle.sc_parse.specs.Places.{Point, begin, begin_of, IsToken, IsWord, AreWords, no_word, word}

-- ---- parentheses

pub data Side : Type 0 where
  opens : Side
  closes : Side
  neither : Side

abbrev pub side_of : Terminal → Side
side_of terminal.OpenParenthesis = opens
side_of terminal.CloseParenthesis = closes
side_of _ = neither

abbrev pub side : Kind → Side
side (TERMINAL m) = side_of m
side _ = neither

abbrev pub close_by : ℕ → Side → ℕ → (ℕ → ℕ) → ℕ
close_by n opens end next = next (suc n)
close_by zero closes end next = end
close_by (suc n) closes end next = next n
close_by n neither end next = next n

-- where the parenthesis is closed that so many others stand in
abbrev pub close : ℕ → List Lexeme → ℕ
close n [] = 0
close n (t ∷ ts) = close_by n (side t.kind) t.span.end (λ m. close m ts)

abbrev pub group_by : Side → List Lexeme → ℕ
group_by opens ts = close 0 ts
group_by closes ts = 0
group_by neither ts = 0

-- where the parenthesis is closed that stands here
abbrev pub group : List Lexeme → ℕ
group [] = 0
group (t ∷ ts) = group_by (side t.kind) ts

-- Parentheses between the points are closed there.
pub record Balanced (p q : Point) : Type 0 where
  pub same : (n : ℕ) → close n p.rest ≡ close n q.rest

pub token_balanced : (k : Kind) {s : Span} {p q : Point} → IsToken k s p q → side k ≡ neither → Balanced p q
token_balanced k {s} {p} {q} t e = record { same = λ n. ap (close n) t.next ∙ ap (λ (d : Side). close_by n d s.end (λ (m : ℕ). close m q.rest)) e }

pub word_balanced : (m : Terminal) {p q : Point} → IsWord m p q → side_of m ≡ neither → Balanced p q
word_balanced m w e = token_balanced (TERMINAL m) w.1 e

pub then_balanced : {p q r : Point} → Balanced p q → Balanced q r → Balanced p r
then_balanced b c = record { same = λ n. b.same n ∙ c.same n }

pub none_balanced : {p : Point} → Balanced p p
none_balanced = record { same = λ n. refl }

pub opened : {p q : Point} → IsWord terminal.OpenParenthesis p q → (n : ℕ) → close n p.rest ≡ close (suc n) q.rest
opened w n = ap (close n) w.1.next

pub closed : {p q : Point} → IsWord terminal.CloseParenthesis p q → (n : ℕ) → close (suc n) p.rest ≡ close n q.rest
closed w n = ap (close (suc n)) w.1.next

pub in_parentheses : {p q r u : Point} → IsWord terminal.OpenParenthesis p q → Balanced q r →
    IsWord terminal.CloseParenthesis r u → Balanced p u
in_parentheses o b c = record { same = λ n. opened o n ∙ b.same (suc n) ∙ closed c n }

-- what stands in parentheses ends where they are closed
pub group_is : {p q r u : Point} → IsWord terminal.OpenParenthesis p q → Balanced q r →
    IsWord terminal.CloseParenthesis r u → group p.rest ≡ u.last.end
group_is o b c = ap group o.1.next ∙ b.same 0 ∙ ap (close 0) c.1.next ∙ ap (λ (s : Span). s.end) (sym c.1.last)

-- ---- the tokens that are kept

abbrev pub leaves_out : Terminal → Bool
leaves_out terminal.OpenParenthesis = true
leaves_out terminal.CloseParenthesis = true
leaves_out terminal.Comma = true
leaves_out terminal.Semicolon = true
leaves_out terminal.Is = true
leaves_out terminal.Else = true
leaves_out terminal.Require = true
leaves_out terminal.Ensure = true
leaves_out terminal.Local = true
leaves_out terminal.Inherit = true
leaves_out _ = false

abbrev pub is_left_out : Kind → Bool
is_left_out (TERMINAL m) = leaves_out m
is_left_out _ = false

pub record Kept : Type 0 where
  pub kind : Kind
  pub span : Span
  pub group : ℕ

abbrev pub kept : List Lexeme → List Kept
kept [] = []
kept (t ∷ ts) = if is_left_out t.kind then kept ts else record { kind = t.kind; span = t.span; group = group ts } ∷ kept ts

-- the kept tokens behind a point
abbrev pub ahead : Point → List Kept
ahead p = kept p.rest

pub kept_token : (k : Kind) {s : Span} {p q : Point} → IsToken k s p q → is_left_out k ≡ false →
    ahead p ≡ record { kind = k; span = s; group = group q.rest } ∷ ahead q
kept_token k t e = ap kept t.next ∙ choose_false (is_left_out k) _ _ e

pub left_out : (k : Kind) {s : Span} {p q : Point} → IsToken k s p q → is_left_out k ≡ true → ahead p ≡ ahead q
left_out k t e = ap kept t.next ∙ choose_true (is_left_out k) _ _ e

pub kept_word : (m : Terminal) {p q : Point} (w : IsWord m p q) → leaves_out m ≡ false →
    ahead p ≡ record { kind = TERMINAL m; span = w.0; group = group q.rest } ∷ ahead q
kept_word m w e = kept_token (TERMINAL m) w.1 e

pub word_left_out : (m : Terminal) {p q : Point} → IsWord m p q → leaves_out m ≡ true → ahead p ≡ ahead q
word_left_out m w e = left_out (TERMINAL m) w.1 e

-- ---- looks at them

abbrev pub first : List Kept → Span
first [] = nowhere
first (k ∷ ks) = k.span

abbrev pub first_group : List Kept → ℕ
first_group [] = 0
first_group (k ∷ ks) = k.group

abbrev pub rest : List Kept → List Kept
rest [] = []
rest (k ∷ ks) = ks

pub rest_token : (k : Kind) {s : Span} {p q : Point} → IsToken k s p q → is_left_out k ≡ false →
    rest (ahead p) ≡ ahead q
rest_token k t e = ap rest (kept_token k t e)

pub rest_word : (m : Terminal) {p q : Point} → IsWord m p q → leaves_out m ≡ false → rest (ahead p) ≡ ahead q
rest_word m w e = rest_token (TERMINAL m) w.1 e

pub first_token : (k : Kind) {s : Span} {p q : Point} → IsToken k s p q → is_left_out k ≡ false → first (ahead p) ≡ s
first_token k t e = ap first (kept_token k t e)

pub group_token : (k : Kind) {s : Span} {p q : Point} → IsToken k s p q → is_left_out k ≡ false →
    first_group (ahead p) ≡ group q.rest
group_token k t e = ap first_group (kept_token k t e)

-- a part begins where its first token does
pub begins_with : (k : Kind) {s : Span} {p q : Point} → IsToken k s p q → is_left_out k ≡ false →
    begin p ≡ (first (ahead p)).start
begins_with k {s} {p} {q} t e = ap (λ (ts : List Lexeme). begin_of ts p.last.end) t.next
    ∙ ap (λ (s : Span). s.start) (sym (first_token k t e))

pub begins_with_word : (m : Terminal) {p q : Point} → IsWord m p q → leaves_out m ≡ false →
    begin p ≡ (first (ahead p)).start
begins_with_word m w e = begins_with (TERMINAL m) w.1 e

-- the last token ends where it does among those that are kept
pub ends_with : (k : Kind) {s : Span} {p q : Point} → IsToken k s p q → is_left_out k ≡ false →
    q.last.end ≡ (first (ahead p)).end
ends_with k {s} {p} {q} t e = ap (λ (s : Span). s.end) (t.last ∙ sym (first_token k t e))

pub span_is : {s : Span} {m n : ℕ} → s.start ≡ m → s.end ≡ n → s ≡ record { start = m; end = n }
span_is {s} {m} {n} a b = rw (sym a, sym b) refl

-- ---- words one after the other

abbrev pub past_words : List Terminal → List Kept → List Kept
past_words [] ks = ks
past_words (m ∷ ms) ks = past_words ms (if leaves_out m then ks else rest ks)

past_word : (m : Terminal) {p q : Point} (b : Bool) → leaves_out m ≡ b → IsWord m p q →
    (if b then ahead p else rest (ahead p)) ≡ ahead q
past_word m true e w = word_left_out m w e
past_word m false e w = rest_word m w e

pub past_words_is : {ms : List Terminal} {p q : Point} → AreWords ms p q → past_words ms (ahead p) ≡ ahead q
past_words_is no_word = refl
past_words_is (word {m} {ms} w ws) = ap (past_words ms) (past_word m (leaves_out m) refl w) ∙ past_words_is ws
