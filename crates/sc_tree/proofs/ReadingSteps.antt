-- Reading in steps: what holds of an answer, and how much room an answer needs.
use Rattle.std.proofs.Common.{◌∷◌, ◌≡◌, ℕ, ◌≤◌, ◌<◌, max, Bool, true, false, List, ◌++◌, Result, Ok, Err, refl, ap, sym, ◌∙◌, append_assoc, arith, rules}
use Rattle.std.specs.Prelude.{nat_le, if◌then◌else◌}
use Rattle.sc_text.specs.Kind.{Kind}
use Rattle.sc_tree.specs.Internal.Reading.{Fault, Deep, Read, ◌>>=◌}

-- ---- tests

pub choose_true : {A : Type 0} (b : Bool) (x y : A) → b ≡ true → (if b then x else y) ≡ x
choose_true b x y e = rw e refl

pub choose_false : {A : Type 0} (b : Bool) (x y : A) → b ≡ false → (if b then x else y) ≡ y
choose_false b x y e = rw e refl

pub le_true : (m n : ℕ) → m ≤ n → nat_le m n ≡ true
le_true m n h = search (rules, h)

pub le_false : (m n : ℕ) → n < m → nat_le m n ≡ false
le_false m n h = grind arith

pub not_both : {b : Bool} → b ≡ true → b ≡ false → ⊥
not_both e d = let q : true ≡ false = sym e ∙ d in cc

-- ---- what is read, where reading gives something

-- It holds of what is read, if anything is.
pub data Holds {A : Type 0} (P : A → Type 0) : Result A Fault → Type 0 where
  holds : {x : A} → P x → Holds P (Ok x)
  nothing : {e : Fault} → Holds P (Err e)

pub holds_then : {A B : Type 0} {P : A → Type 0} {Q : B → Type 0} {a : Result A Fault} (f : A → Result B Fault) →
    Holds P a → ((x : A) → P x → Holds Q (f x)) → Holds Q (a >>= f)
holds_then f (holds {x} p) more = more x p
holds_then f nothing more = nothing

pub holds_if : {A : Type 0} {P : A → Type 0} (b : Bool) (x y : Result A Fault) →
    (b ≡ true → Holds P x) → (b ≡ false → Holds P y) → Holds P (if b then x else y)
holds_if true x y when_true when_false = when_true refl
holds_if false x y when_true when_false = when_false refl

pub holds_also : {A : Type 0} {P Q : A → Type 0} {a : Result A Fault} → Holds P a → ((x : A) → P x → Q x) → Holds Q a
holds_also (holds {x} p) more = holds (more x p)
holds_also nothing more = nothing

-- the tokens begin with ones that spell what was read
pub record Spelled {A : Type 0} (Is : A → List Kind → ℕ → Type 0) (ts : List Kind) (x : A × ℕ × List Kind) : Type 0 where
  pub tokens : List Kind
  pub same : ts ≡ tokens ++ x.2
  pub is : Is x.0 tokens x.1

-- the same, where nothing is nested
pub record Begins {A : Type 0} (Is : A → List Kind → Type 0) (ts : List Kind) (x : A × List Kind) : Type 0 where
  pub tokens : List Kind
  pub same : ts ≡ tokens ++ x.1
  pub is : Is x.0 tokens

-- ones that spell what was added to what had been found
pub record Added {A : Type 0} (join : A → A → A) (Is : A → List Kind → ℕ → Type 0) (found : A) (high : ℕ) (ts : List Kind) (x : A × ℕ × List Kind) : Type 0 where
  pub more : A
  pub tokens : List Kind
  pub nesting : ℕ
  pub same : ts ≡ tokens ++ x.2
  pub is : Is more tokens nesting
  pub joined : x.0 ≡ join found more
  pub highest : x.1 ≡ max high nesting

-- two stretches of tokens, one after the other
pub through : (ts c r d rest : List Kind) → ts ≡ c ++ r → r ≡ d ++ rest → ts ≡ (c ++ d) ++ rest
through ts c r d rest e q = e ∙ ap (λ (r : List Kind). c ++ r) q ∙ sym (append_assoc c d rest)

-- one stretch of tokens behind a word and before another, as it is read
pub behind_word : (c cs r : List Kind) (k : Kind) → (c ++ k ∷ cs) ++ r ≡ c ++ k ∷ (cs ++ r)
behind_word c cs r k = append_assoc c (k ∷ cs) r

pub between : (c s cs r : List Kind) → (c ++ (s ++ cs)) ++ r ≡ c ++ (s ++ (cs ++ r))
between c s cs r = simp append_assoc

-- ---- how much room is needed

-- what is read with this room, where that much is needed
pub data Comes {A : Type 0} (room need : ℕ) (x : A × ℕ × List Kind) (a : Read A) : Type 0 where
  fits : need ≤ room → a ≡ Ok x → Comes room need x a
  deep : room < need → a ≡ Err Deep → Comes room need x a

pub bind_ok : {A B : Type 0} (a : Result A Fault) (x : A) (f : A → Result B Fault) → a ≡ Ok x → (a >>= f) ≡ f x
bind_ok a x f e = ap (λ b. b >>= f) e

pub bind_err : {A B : Type 0} (a : Result A Fault) (d : Fault) (f : A → Result B Fault) → a ≡ Err d → (a >>= f) ≡ Err d
bind_err a d f e = ap (λ b. b >>= f) e

-- one answer, and what goes on from it
pub both : {A B : Type 0} (n ga gb : ℕ) (x : A × ℕ × List Kind) (y : B × ℕ × List Kind) (a : Read A) (f : A × ℕ × List Kind → Read B) →
    Comes n ga x a → (ga ≤ n → Comes n gb y (f x)) → Comes n (max ga gb) y (a >>= f)
both n ga gb x y a f (fits p e) more = go (more p)
  where
    go : Comes n gb y (f x) → Comes n (max ga gb) y (a >>= f)
    go (fits q d) = fits (omega arith) (bind_ok a x f e ∙ d)
    go (deep q d) = deep (omega arith) (bind_ok a x f e ∙ d)
both n ga gb x y a f (deep p e) more = deep (omega arith) (bind_err a Deep f e)

-- an answer that is certain, and what goes on from it
pub surely : {A B : Type 0} (n g : ℕ) (x : A) (y : B × ℕ × List Kind) (a : Result A Fault) (f : A → Read B) → a ≡ Ok x → Comes n g y (f x) → Comes n g y (a >>= f)
surely n g x y a f e (fits q d) = fits q (bind_ok a x f e ∙ d)
surely n g x y a f e (deep q d) = deep q (bind_ok a x f e ∙ d)

-- one answer, and what is certain from there
pub lastly : {A B : Type 0} (n g : ℕ) (x : A × ℕ × List Kind) (y : B × ℕ × List Kind) (a : Read A) (f : A × ℕ × List Kind → Read B) → Comes n g x a → f x ≡ Ok y → Comes n g y (a >>= f)
lastly n g x y a f (fits p e) d = fits p (bind_ok a x f e ∙ d)
lastly n g x y a f (deep p e) d = deep p (bind_err a Deep f e)

pub where_true : {A : Type 0} (n g : ℕ) (x : A × ℕ × List Kind) (b : Bool) (p q : Read A) → b ≡ true → Comes n g x p → Comes n g x (if b then p else q)
where_true n g x b p q e (fits h d) = fits h (choose_true b p q e ∙ d)
where_true n g x b p q e (deep h d) = deep h (choose_true b p q e ∙ d)

pub where_false : {A : Type 0} (n g : ℕ) (x : A × ℕ × List Kind) (b : Bool) (p q : Read A) → b ≡ false → Comes n g x q → Comes n g x (if b then p else q)
where_false n g x b p q e (fits h d) = fits h (choose_false b p q e ∙ d)
where_false n g x b p q e (deep h d) = deep h (choose_false b p q e ∙ d)

-- the same answer, told in other words
pub along : {A : Type 0} (n g g' : ℕ) (x y : A × ℕ × List Kind) (a b : Read A) → g ≡ g' → x ≡ y → b ≡ a → Comes n g x a → Comes n g' y b
along n g g' x y a b w v e (fits p d) = fits (omega (arith, w)) (e ∙ d ∙ ap Ok v)
along n g g' x y a b w v e (deep p d) = deep (omega (arith, w)) (e ∙ d)

-- the same, where what was read and what is left are plainly the same
pub needs : {A : Type 0} (n g g' h h' : ℕ) (x : A) (r : List Kind) (a : Read A) → g ≡ g' → h ≡ h' → Comes n g (x, h, r) a → Comes n g' (x, h', r) a
needs n g g' h h' x r a w v c = along n g g' (x, h, r) (x, h', r) a a w (ap (λ (h : ℕ). (x, h, r)) v) refl c

abbrev pub reads : {B : Type 0} → B → ℕ → List Kind → B × ℕ × List Kind
reads y m r = (y, m, r)

pub same_reads : {B : Type 0} (y' y : B) (m' m : ℕ) (r : List Kind) → y' ≡ y → m' ≡ m → reads y' m' r ≡ reads y m r
same_reads y' y m' m r v w = ap (λ (y : _). reads y m' r) v ∙ ap (λ (m : ℕ). reads y m r) w

pub nested_max : (a b c : ℕ) → max (max a b) c ≡ max a (max b c)
nested_max a b c = omega arith

-- A list grows by one part, and then by the rest of them: `y'` and `y` are the whole list, told in two ways.
pub grown : {A B : Type 0} (n high g h gs hs need : ℕ) (x : A) (y' y : B) (r' r : List Kind) (a : Read A) (f : A × ℕ × List Kind → Read B) (b : Read B) →
    b ≡ (a >>= f) → y' ≡ y → max g gs ≡ need → Comes n g (x, h, r') a → (g ≤ n → Comes n gs (y', max (max high h) hs, r) (f (x, h, r'))) → Comes n need (y, max high (max h hs), r) b
grown n high g h gs hs need x y' y r' r a f b e v w c more =
    along n (max g gs) need (y', max (max high h) hs, r) (y, max high (max h hs), r) _ b w (same_reads y' y (max (max high h) hs) (max high (max h hs)) r v (nested_max high h hs)) e (both n g gs (x, h, r') (y', max (max high h) hs, r) a f c more)
