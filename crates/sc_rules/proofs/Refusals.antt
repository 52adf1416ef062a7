-- Judging part by part: when the whole is refused, and what a refusal tells.
use Rattle.std.proofs.Common.{◌≡◌, ◌<◌, zero, suc, Bool, true, false, List, [], ◌∷◌, length, Ok, Err, refl, ap, sym, subst, arith}
use Rattle.std.specs.Prelude.{Any, if◌then◌else◌}
use Rattle.sc_text.specs.declared.token.Span.{Span}
use Rattle.sc_rules.specs.declared.rule.Rule.{Rule}
use Rattle.sc_rules.specs.declared.fault.Fault.{Fault}
use Rattle.sc_rules.specs.Judging.{Judged, ◌>>=◌, required, judge_each}

pub bind_ok : {A B : Type 0} {x : A} (f : A → Judged B) {m : Judged A} → m ≡ Ok x → (m >>= f) ≡ f x
bind_ok f e = ap (λ j. j >>= f) e

abbrev pub Refused : {A : Type 0} → Judged A → Type 0
Refused (Ok x) = ⊥
Refused (Err e) = Unit {0}

-- what comes first is refused
pub stops : {A B : Type 0} (m : Judged A) (f : A → Judged B) → Refused m → Refused (m >>= f)
stops (Ok x) f r = absurd r
stops (Err e) f r = tt

-- what comes behind is refused, whatever comes first
pub stops_behind : {A B : Type 0} (m : Judged A) (f : A → Judged B) → ((x : A) → Refused (f x)) → Refused (m >>= f)
stops_behind (Ok x) f r = r x
stops_behind (Err e) f r = tt

-- what comes first gives this, and what comes behind is refused
pub stops_at : {A B : Type 0} (m : Judged A) (f : A → Judged B) (x : A) → m ≡ Ok x → Refused (f x) → Refused (m >>= f)
stops_at m f x e r = subst Refused (sym (bind_ok f e)) r

pub unmet : (b : Bool) (r : Rule) (p : Span) → b ≡ false → Refused (required b r p)
unmet b r p e = subst (λ b. Refused (required b r p)) (sym e) tt

-- one of several is refused
pub refused_each : {A : Type 0} (judge : A → Judged (Unit {0})) (xs : List A) → Any (λ x. Refused (judge x)) xs →
    Refused (judge_each judge xs)
refused_each judge [] (k, x, l, e, r) = absurd (omega (arith, l))
refused_each judge (y ∷ ys) (zero, x, l, e, r) = stops (judge y) (λ u. judge_each judge ys)
    (subst (λ x. Refused (judge x)) (sym e) r)
refused_each judge (y ∷ ys) (suc k, x, l, e, r) = stops_behind (judge y) (λ u. judge_each judge ys)
    (λ u. refused_each judge ys (k, x, less l, e, r))
  where
    less : suc k < suc (length ys) → k < length ys
    less l = omega arith

-- a refusal's rule fails at its place, as P says
pub data Tells {A : Type 0} (P : Rule → Span → Type 0) : Judged A → Type 0 where
  passes : {x : A} → Tells P (Ok x)
  tells : {f : Fault} → P f.rule f.span → Tells P (Err f)

pub tells_more : {A : Type 0} {P Q : Rule → Span → Type 0} {j : Judged A} → ((r : Rule) (p : Span) → P r p → Q r p) →
    Tells P j → Tells Q j
tells_more f passes = passes
tells_more f (tells {f = e} t) = tells (f e.rule e.span t)

pub tells_then : {A B : Type 0} {P : Rule → Span → Type 0} {i : Judged A} (f : A → Judged B) → Tells P i →
    ((x : A) → Tells P (f x)) → Tells P (i >>= f)
tells_then f (passes {x}) t = t x
tells_then f (tells s) t = tells s

-- what a judged part tells: what it gives is so, or its rule fails at its place
pub data Gave {A : Type 0} (Q : A → Type 0) (P : Rule → Span → Type 0) : Judged A → Type 0 where
  gave : {x : A} → Q x → Gave Q P (Ok x)
  refuses : {f : Fault} → P f.rule f.span → Gave Q P (Err f)

pub gave_then : {A B : Type 0} {Q : A → Type 0} {R : B → Type 0} {P : Rule → Span → Type 0} {i : Judged A}
    (f : A → Judged B) → Gave Q P i →
    ((x : A) → Q x → Gave R P (f x)) → Gave R P (i >>= f)
gave_then f (gave {x} q) t = t x q
gave_then f (refuses p) t = refuses p

pub gave_more : {A : Type 0} {Q : A → Type 0} {P S : Rule → Span → Type 0} {i : Judged A} →
    ((r : Rule) (p : Span) → P r p → S r p) → Gave Q P i → Gave Q S i
gave_more f (gave q) = gave q
gave_more f (refuses {f = e} p) = refuses (f e.rule e.span p)

-- a test: it holds, or its rule fails
pub gave_required : (P : Rule → Span → Type 0) (b : Bool) (r : Rule) (p : Span) → (b ≡ false → P r p) →
    Gave (λ (u : Unit {0}). b ≡ true) P (required b r p)
gave_required P true r p f = gave refl
gave_required P false r p f = refuses (f refl)

pub gave_map : {A : Type 0} {Q R : A → Type 0} {P : Rule → Span → Type 0} {i : Judged A} → ((x : A) → Q x → R x) →
    Gave Q P i → Gave R P i
gave_map f (gave {x} q) = gave (f x q)
gave_map f (refuses p) = refuses p

pub gave_if : {A : Type 0} {Q : A → Type 0} {P : Rule → Span → Type 0} (b : Bool) (i j : Judged A) →
    (b ≡ true → Gave Q P i) → (b ≡ false → Gave Q P j) →
    Gave Q P (if b then i else j)
gave_if true i j f g = f refl
gave_if false i j f g = g refl

pub tells_gave : {A : Type 0} {Q : A → Type 0} {P : Rule → Span → Type 0} {i : Judged A} → Gave Q P i → Tells P i
tells_gave (gave q) = passes
tells_gave (refuses p) = tells p

pub any_first : {A : Type 0} {P : A → Type 0} (x : A) (xs : List A) → P x → Any P (x ∷ xs)
any_first x xs p = (0, x, omega arith, refl, p)

pub any_later : {A : Type 0} {P : A → Type 0} (y : A) (xs : List A) → Any P xs → Any P (y ∷ xs)
any_later y xs (k, x, l, e, p) = (suc k, x, more l, e, p)
  where
    more : k < length xs → suc k < suc (length xs)
    more l = omega arith

pub tells_each : {A : Type 0} (P : A → Rule → Span → Type 0) (judge : A → Judged (Unit {0})) →
    ((x : A) → Tells (P x) (judge x)) → (xs : List A) →
    Tells (λ r p. Any (λ x. P x r p) xs) (judge_each judge xs)
tells_each P judge t [] = passes
tells_each P judge t (x ∷ xs) = tells_then (λ u. judge_each judge xs) (tells_more (λ r p f. any_first x xs f) (t x))
    (λ u. tells_more (λ r p f. any_later x xs f) (tells_each P judge t xs))
