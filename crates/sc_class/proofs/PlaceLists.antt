-- What lists have, as something is added to them.
use Rattle.std.proofs.Common.{◌≡◌, ◌<◌, ◌≤◌, ◌+◌, ◌==◌, ◌&&◌, ◌||◌, ℕ, Bool, true, false, cond, List, [], ◌∷◌, ◌++◌, length, take, get_or, map, Option, Some, None, Ok, Err, refl, ap, sym, subst, ◌∙◌, ◌⊎◌, inl, inr, arith}
use Rattle.std.specs.Prelude.{Any, OnOk, Result, if◌then◌else◌}
use Rattle.std.specs.HashSet.{HashSet, contains_by}
use Rattle.std.proofs.lemmas.List.{append_assoc, map-append, take_more}
use Rattle.std.proofs.lemmas.List.Folds.{Any-from_list_any, list_any-append}
use Rattle.sc_text.specs.declared.token.Span.{Span}
use Rattle.sc_class.specs.Internal.Found.{FindsFirst, FindsOnly, first_placed}
use Rattle.sc_class.specs.Internal.Places.{AreKeys, IsOf, is_same_place, is_placed, inserted, union, if_any, Has, Lists, Gains}
use Rattle.sc_class.proofs.Anys.{any_none, any_first, any_later, any_more, any_split, any_left, any_right, any_parts, any_only, map_seen, take_end}
use Rattle.sc_class.proofs.SearchLemmas.{only_one, first_same, first_either}

-- ---- lists of one thing or another

module _ {X : Type 0} where
  pub nothing : (P : X → Type 0) → ((x : X) → P x → ⊥) → Lists P []
  nothing P none = record { each_is = λ x a. absurd (any_none a); each_listed = λ x p. absurd (none x p) }

  pub one : (P : X → Type 0) (x : X) → P x → ((y : X) → P y → y ≡ x) → Lists P (x ∷ [])
  one P x p all = record {
    each_is = λ y a. subst P (any_only {P = λ z. z ≡ y} x a) p;
    each_listed = λ y q. any_first {P = λ z. z ≡ y} x [] (sym (all y q));
  }

  pub same : (P R : X → Type 0) (a : List X) → ((x : X) → P x → R x) → ((x : X) → R x → P x) → Lists P a → Lists R a
  same P R a f g l = record { each_is = λ x h. f x (l.each_is x h); each_listed = λ x r. l.each_listed x (g x r) }

  pub both : (P Q R : X → Type 0) (a b : List X) → ((x : X) → P x → R x) → ((x : X) → Q x → R x) → ((x : X) → R x → P x ⊎ Q x) → Lists P a → Lists Q b → Lists R (a ++ b)
  both P Q R a b f g h l m = record { each_is = λ x c. is x (any_parts {P = λ z. z ≡ x} a b c); each_listed = λ x r. listed x (h x r) }
    where
      is : (x : X) → Has a x ⊎ Has b x → R x
      is x (inl c) = f x (l.each_is x c)
      is x (inr c) = g x (m.each_is x c)

      listed : (x : X) → P x ⊎ Q x → Has (a ++ b) x
      listed x (inl p) = any_left {P = λ z. z ≡ x} a b (l.each_listed x p)
      listed x (inr q) = any_right {P = λ z. z ≡ x} a b (m.each_listed x q)

  pub either_of : (P Q : X → Type 0) (a b : List X) → Lists P a → Lists Q b → Lists (λ x. P x ⊎ Q x) (a ++ b)
  either_of P Q a b l m = both P Q (λ x. P x ⊎ Q x) a b (λ x p. inl p) (λ x q. inr q) (λ x r. r) l m

  pub only : (P : X → Type 0) (o : Option X) → FindsOnly P o → Lists P (if_any o)
  only P None f = nothing P f
  only P (Some x) f = one P x f.0 f.1

  pub first_listed : (start : X → ℕ) {P : X → Type 0} {xs : List X} (o : Option X) → Lists P xs → FindsFirst start (Has xs) o → FindsFirst start P o
  first_listed start {P} {xs} o l f = first_same start {P = Has xs} {Q = P} o (λ x h. l.each_is x h) (λ x p. l.each_listed x p) f

  -- ---- what is gained

  pub gains_none : {P : X → Type 0} (xs : List X) → ((x : X) → P x → ⊥) → Gains P xs xs
  gains_none xs none = record { each_is = λ x h. inl h; keeps = λ x h. h; each_listed = λ x p. absurd (none x p) }

  pub gains_both : {P Q R : X → Type 0} {a b c : List X} → ((x : X) → P x → R x) → ((x : X) → Q x → R x) → ((x : X) → R x → P x ⊎ Q x) → Gains P a b → Gains Q b c → Gains R a c
  gains_both {P} {Q} {R} {a} {b} {c} f g h l m = record {
    each_is = λ x k. is x (m.each_is x k);
    keeps = λ x k. m.keeps x (l.keeps x k);
    each_listed = λ x r. listed x (h x r);
  }
    where
      before : (x : X) → Has a x ⊎ P x → Has a x ⊎ R x
      before x (inl k) = inl k
      before x (inr p) = inr (f x p)

      is : (x : X) → Has b x ⊎ Q x → Has a x ⊎ R x
      is x (inl k) = before x (l.each_is x k)
      is x (inr q) = inr (g x q)

      listed : (x : X) → P x ⊎ Q x → Has c x
      listed x (inl p) = m.keeps x (l.each_listed x p)
      listed x (inr q) = m.each_listed x q

  pub gains_same : {P R : X → Type 0} {a b : List X} → ((x : X) → P x → R x) → ((x : X) → R x → P x) → Gains P a b → Gains R a b
  gains_same {P} {R} {a} {b} f g l = record {
    each_is = λ x k. is x (l.each_is x k);
    keeps = l.keeps;
    each_listed = λ x r. l.each_listed x (g x r);
  }
    where
      is : (x : X) → Has a x ⊎ P x → Has a x ⊎ R x
      is x (inl k) = inl k
      is x (inr p) = inr (f x p)

  pub gains_append : {P : X → Type 0} (a b c : List X) → Lists P b → c ≡ a ++ b → Gains P a c
  gains_append {P} a b c l e = subst (Gains P a) (sym e) (record {
    each_is = λ x h. is x (any_parts {P = λ z. z ≡ x} a b h);
    keeps = λ x h. any_left {P = λ z. z ≡ x} a b h;
    each_listed = λ x p. any_right {P = λ z. z ≡ x} a b (l.each_listed x p);
  })
    where
      is : (x : X) → Has a x ⊎ Has b x → Has a x ⊎ P x
      is x (inl h) = inl h
      is x (inr h) = inr (l.each_is x h)

  pub lists_gained : {P : X → Type 0} (a b : List X) → a ≡ [] → Gains P a b → Lists P b
  lists_gained {P} a b e l = record { each_is = λ x h. is x (l.each_is x h); each_listed = l.each_listed }
    where
      is : (x : X) → Has a x ⊎ P x → P x
      is x (inl h) = absurd (any_none (subst (λ xs. Has xs x) e h))
      is x (inr p) = p

-- what is gained of an option, where it is the only one of these
pub gains_only : {X : Type 0} {P : X → Type 0} {a b : List X} (o : Option X) → FindsOnly P o → Gains (λ x. o ≡ Some x) a b → Gains P a b
gains_only {X} {P} None f l = gains_same (λ x e. cc) (λ x p. absurd (f x p)) l
gains_only {X} {P} (Some y) f l = gains_same (λ x e. subst P (of x e) f.0) (λ x p. ap (λ (z : X). Some z) (sym (f.1 x p))) l
  where
    of : (x : X) → Some y ≡ Some x → y ≡ x
    of x e = cc

-- ---- what is mapped

pub mapped : {X Y : Type 0} {P : X → Type 0} (f : X → Y) (xs : List X) → Lists P xs → Lists (IsOf f P) (map f xs)
mapped {X} {Y} {P} f [] l = nothing (IsOf f P) (λ y r. any_none (l.each_listed r.0 r.2))
mapped {X} {Y} {P} f (x ∷ xs) l =
    both (λ y. y ≡ f x) (λ y. (z : X) × (y ≡ f z) × Has xs z) (IsOf f P) (f x ∷ []) (map f xs) (λ y e. (x, e, l.each_is x (any_first {P = λ z. z ≡ x} x xs refl)))
    (λ y r. (r.0, r.1, l.each_is r.0 (any_later {P = λ z. z ≡ r.0} x xs r.2))) (λ y r. parts y r (any_split {P = λ z. z ≡ r.0} x xs (l.each_listed r.0 r.2))) (one (λ y. y ≡ f x) (f x) refl (λ y e. e))
    (mapped {P = Has xs} f xs (record { each_is = λ z h. h; each_listed = λ z h. h }))
  where
    parts : (y : Y) (r : IsOf f P y) → (x ≡ r.0) ⊎ Has xs r.0 → (y ≡ f x) ⊎ ((z : X) × (y ≡ f z) × Has xs z)
    parts y r (inl e) = inl (r.1 ∙ sym (ap f e))
    parts y r (inr h) = inr (r.0, r.1, h)

-- what there is where a call has succeeded
pub on_ok : {A E P Q : Type 0} (r : Result A E) → (P → Q) → OnOk r P → OnOk r Q
on_ok (Ok x) f p = f p
on_ok (Err e) f p = tt

-- ---- places, each once

same_is : (p q : Span) → is_same_place p q ≡ true → p ≡ q
same_is p q e = grind arith

is_same : (p : Span) → is_same_place p p ≡ true
is_same p = grind arith

placed_has : (p : Span) (ps : List Span) → is_placed p ps ≡ true → Has ps p
placed_has p ps e = any_more ps (λ q i. sym (same_is p q i)) (Any-from_list_any (is_same_place p) ps e)

inserted_gains : (ps : List Span) (p : Span) → Gains (λ q. q ≡ p) ps (inserted ps p)
inserted_gains ps p = by (is_placed p ps) refl
  where
    by : (b : Bool) → is_placed p ps ≡ b → Gains (λ q. q ≡ p) ps (if b then ps else ps ++ p ∷ [])
    by true e = record { each_is = λ q h. inl h; keeps = λ q h. h; each_listed = λ q i. subst (Has ps) (sym i) (placed_has p ps e) }
    by false e = gains_append ps (p ∷ []) (ps ++ p ∷ []) (one (λ q. q ≡ p) p refl (λ q i. i)) refl

union_gains : (ps qs : List Span) → Gains (Has qs) ps (union ps qs)
unfolding union
union_gains ps [] = gains_none ps (λ q h. any_none h)
union_gains ps (q ∷ qs) =
    gains_both {P = λ p. p ≡ q} {Q = Has qs} {R = Has (q ∷ qs)} (λ p e. any_first {P = λ r. r ≡ p} q qs (sym e)) (λ p h. any_later {P = λ r. r ≡ p} q qs h) (λ p h. parts p (any_split {P = λ r. r ≡ p} q qs h))
    (inserted_gains ps q) (union_gains (inserted ps q) qs)
  where
    parts : (p : Span) → (q ≡ p) ⊎ Has qs p → (p ≡ q) ⊎ Has qs p
    parts p (inl e) = inl (sym e)
    parts p (inr h) = inr h

pub union_none : (ps : List Span) → union ps [] ≡ ps
unfolding union
union_none ps = refl

pub union_one : (ps : List Span) (p : Span) → union ps (p ∷ []) ≡ inserted ps p
unfolding union
union_one ps p = refl

pub union_append : (ps qs rs : List Span) → union ps (qs ++ rs) ≡ union (union ps qs) rs
unfolding union
union_append ps [] rs = refl
union_append ps (q ∷ qs) rs = union_append (inserted ps q) qs rs

pub gains_union : {P : Span → Type 0} (a b c : List Span) → Lists P b → c ≡ union a b → Gains P a c
gains_union {P} a b c l e = subst (Gains P a) (sym e) (gains_same {P = Has b} {R = P} (λ x h. l.each_is x h) (λ x p. l.each_listed x p) (union_gains a b))

-- ---- what stands in one of several parts

-- in one of the first k
abbrev pub Among : {A B X : Type 0} → (B → X → Type 0) → (A → B) → List A → ℕ → X → Type 0
Among P f xs k p = Any (λ x. P x p) (map f (take k xs))

module _ {A B X : Type 0} (P : B → X → Type 0) (f : A → B) (xs : List A) where
  pub gains_begin : (old : List X) → Gains (Among P f xs 0) old old
  gains_begin old = gains_none old (λ p a. any_none a)

  pub gains_more : (k : ℕ) (x : A) (old now next : List X) → k < length xs → x ≡ get_or xs k x → Gains (Among P f xs k) old now → Gains (P (f x)) now next → Gains (Among P f xs (k + 1)) old next
  gains_more k x old now next l g h i =
      subst (λ ys. Gains (λ p. Any (λ x. P x p) ys) old next) (sym (map_seen f xs k x l g))
      (gains_both (λ p. any_left (map f (take k xs)) (f x ∷ [])) (λ p y. any_right (map f (take k xs)) (f x ∷ []) (any_first (f x) [] y)) (λ p r. parts p (any_parts (map f (take k xs)) (f x ∷ []) r)) h i)
    where
      parts : (p : X) → Any (λ x. P x p) (map f (take k xs)) ⊎ Any (λ x. P x p) (f x ∷ []) → Any (λ x. P x p) (map f (take k xs)) ⊎ P (f x) p
      parts p (inl a) = inl a
      parts p (inr a) = inr (any_only (f x) a)

  pub gains_all : (k : ℕ) (old now : List X) → length xs ≤ k → Gains (Among P f xs k) old now → Gains (λ p. Any (λ x. P x p) (map f xs)) old now
  gains_all k old now l h = subst (λ ys. Gains (λ p. Any (λ x. P x p) (map f ys)) old now) (take_end xs k l) h

-- ---- places by their keys

abbrev same_pair : ℕ × ℕ → ℕ × ℕ → Bool
same_pair j k = j.0 == k.0 && j.1 == k.1

pub keys_more : {S : Type 0} (keys keys' : HashSet (ℕ × ℕ) S) (ps ps' : List Span) (p : Span) → AreKeys keys ps →
    ((k : ℕ × ℕ) → contains_by (same_pair k) keys' ≡ cond (same_pair (p.start, p.end) k) true (contains_by (same_pair k) keys)) → ps' ≡ ps ++ p ∷ [] → AreKeys keys' ps'
keys_more keys keys' ps ps' p are new e q =
    new (q.start, q.end) ∙ ap (cond (is_same_place p q) true) (are q) ∙ by (is_same_place p q) (is_placed q ps) ∙ ap (λ b. is_placed q ps || (b || false)) (turned p q)
    ∙ sym (list_any-append (is_same_place q) ps (p ∷ [])) ∙ sym (ap (is_placed q) e)
  where
    turned : (p q : Span) → is_same_place p q ≡ is_same_place q p
    turned p q = grind arith

    by : (a b : Bool) → cond a true b ≡ (b || (a || false))
    by true true = refl
    by true false = refl
    by false true = refl
    by false false = refl

-- ---- the first of a list in the text

module _ {X : Type 0} (start : X → ℕ) (xs : List X) where
  pub first_begin : FindsFirst start (Has (take 0 xs)) None
  first_begin x h = any_none h

  pub first_more : (k : ℕ) (d : X) (found next : Option X) → k < length xs → next ≡ first_placed start found (Some (get_or xs k d)) → FindsFirst start (Has (take k xs)) found → FindsFirst start (Has (take (k + 1) xs)) next
  first_more k d found next l e h =
      subst (FindsFirst start (Has (take (k + 1) xs))) (sym e)
      (subst (λ ys. FindsFirst start (Has ys) (first_placed start found (Some x))) (sym (take_more xs k d l))
      (first_either start {P = Has (take k xs)} {Q = λ y. x ≡ y} {R = Has (take k xs ++ x ∷ [])} found (Some x) (λ y a. any_left {P = λ z. z ≡ y} (take k xs) (x ∷ []) a)
      (λ y q. any_right {P = λ z. z ≡ y} (take k xs) (x ∷ []) (any_first {P = λ z. z ≡ y} x [] q)) (λ y r. parts y (any_parts {P = λ z. z ≡ y} (take k xs) (x ∷ []) r)) h (only_one start {P = λ y. x ≡ y} x refl (λ y q. sym q))))
    where
      x : X
      x = get_or xs k d

      parts : (y : X) → Has (take k xs) y ⊎ Has (x ∷ []) y → Has (take k xs) y ⊎ (x ≡ y)
      parts y (inl a) = inl a
      parts y (inr a) = inr (any_only {P = λ z. z ≡ y} x a)

  pub first_all : (k : ℕ) (found : Option X) → length xs ≤ k → FindsFirst start (Has (take k xs)) found → FindsFirst start (Has xs) found
  first_all k found l h = subst (λ ys. FindsFirst start (Has ys) found) (take_end xs k l) h

-- ---- a list that is mapped

pub pushed_more : {A B : Type 0} (f : A → B) (xs : List A) (k : ℕ) (d : A) (start now next : List B) → k < length xs → now ≡ start ++ map f (take k xs) → next ≡ now ++ f (get_or xs k d) ∷ [] → next ≡ start ++ map f (take (k + 1) xs)
pushed_more f xs k d start now next l was e =
    e ∙ ap (λ ys. ys ++ f (get_or xs k d) ∷ []) was ∙ append_assoc start (map f (take k xs)) (f (get_or xs k d) ∷ []) ∙ ap (λ ys. start ++ ys) (sym (map-append f (take k xs) (get_or xs k d ∷ [])))
    ∙ ap (λ ys. start ++ map f ys) (sym (take_more xs k d l))

pub pushed_all : {A B : Type 0} (f : A → B) (xs : List A) (k : ℕ) (start now : List B) → length xs ≤ k → now ≡ start ++ map f (take k xs) → now ≡ start ++ map f xs
pushed_all f xs k start now l was = was ∙ ap (λ ys. start ++ map f ys) (take_end xs k l)
