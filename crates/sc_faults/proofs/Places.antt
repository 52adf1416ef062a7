-- Where judging refuses at a place, one of the faults that are listed is there.
use Rattle.std.proofs.Common.{◌≡◌, ℕ, Bool, true, false, List, [], ◌∷◌, Ok, Err, refl, ap, sym, subst, ◌∙◌, arith}
use Rattle.std.specs.Prelude.{Any, ◌&&◌, ◌==◌, if◌then◌else◌}
use Rattle.sc_text.specs.declared.token.Span.{Span}
use Rattle.sc_class.proofs.Anys.{any_first}
use Rattle.sc_rules.specs.declared.rule.Rule.{Rule}
use Rattle.sc_rules.specs.declared.fault.Fault.{Fault}
use Rattle.sc_rules.specs.RuleText.{code_of}
use Rattle.sc_rules.specs.Judging.{Judged, ◌>>=◌, required}
use Rattle.sc_rules.specs.JudgingSystem.{is_same_span}
use Rattle.sc_rules.proofs.Refusals.{Refused, bind_ok, Tells, passes, tells}
use Rattle.std.specs.Prelude.{bytes_eq}
use Rattle.sc_faults.specs.FaultLists.{is_same_fault}
use Rattle.sc_faults.specs.Internal.Listing.{faults_at}
use Rattle.sc_faults.proofs.ReportedFaults.{Holds}

abbrev pub At : Span → Rule → Span → Type 0
At p r q = q ≡ p

-- judging refuses at the place
abbrev pub There : {A : Type 0} → Span → Judged A → Type 0
There p (Ok x) = ⊥
There p (Err f) = f.span ≡ p

pub same_number : (m n : ℕ) → (m == n) ≡ true → m ≡ n
same_number m n e = grind arith

first_true : (b c : Bool) → (b && c) ≡ true → b ≡ true
first_true true c e = refl
first_true false c e = cc

second_true : (b c : Bool) → (b && c) ≡ true → c ≡ true
second_true true c e = e
second_true false c e = cc

abbrev span : ℕ → ℕ → Span
span i j = record { start = i; end = j }

pub same_place : (p q : Span) → is_same_span p q ≡ true → p ≡ q
same_place p q e =
    ap (λ i. span i p.end) (same_number p.start q.start (first_true (p.start == q.start) (p.end == q.end) e))
    ∙ ap (λ j. span q.start j) (same_number p.end q.end (second_true (p.start == q.start) (p.end == q.end) e))

pub at_place : {A : Type 0} (j : Judged A) (fs : List Fault) (p : Span) → There p j → Any (Holds (At p)) (faults_at j fs)
at_place (Ok x) fs p r = absurd r
at_place (Err f) [] p r = any_first f [] r
at_place (Err f) (g ∷ gs) p r = by (is_same_fault f g) refl
  where
    by : (b : Bool) → is_same_fault f g ≡ b → Any (Holds (At p)) (if b then g ∷ gs else f ∷ (g ∷ gs))
    by true e =
        any_first g gs (sym (same_place f.span g.span (first_true (is_same_span f.span g.span) (bytes_eq (code_of f.rule) (code_of g.rule)) e)) ∙ r)
    by false e = any_first f (g ∷ gs) r

-- ---- judging part by part

pub there_first : {A B : Type 0} (p : Span) (m : Judged A) (f : A → Judged B) → There p m → There p (m >>= f)
there_first p (Ok x) f r = absurd r
there_first p (Err e) f r = r

pub there_next : {A B : Type 0} (p : Span) (m : Judged A) (f : A → Judged B) (x : A) → m ≡ Ok x → There p (f x) → There p (m >>= f)
there_next p m f x e r = subst (There p) (sym (bind_ok f e)) r

pub there_required : (b : Bool) (r : Rule) (p : Span) → b ≡ false → There p (required b r p)
there_required b r p e = subst (λ b. There p (required b r p)) (sym e) refl

-- a test, and what comes after it, are refused there
pub there_either : {B : Type 0} (b : Bool) (r : Rule) (p : Span) (j : Judged B) → There p j → There p (required b r p >>= λ u. j)
there_either true r p j t = t
there_either false r p j t = refl

pub there_after : {A B : Type 0} (p : Span) (m : Judged A) (f : A → Judged B) → Tells (At p) m → ((x : A) → There p (f x)) →
    There p (m >>= f)
there_after p m f (passes {x}) t = t x
there_after p m f (tells e) t = e

pub there_if_true : {A : Type 0} (p : Span) (b : Bool) (i j : Judged A) → b ≡ true → There p i → There p (if b then i else j)
there_if_true p true i j e t = t
there_if_true p false i j e t = cc

pub there_if_false : {A : Type 0} (p : Span) (b : Bool) (i j : Judged A) → b ≡ false → There p j → There p (if b then i else j)
there_if_false p true i j e t = cc
there_if_false p false i j e t = t

-- what is told of a refusal has its place
pub there_told : {A : Type 0} (p : Span) (j : Judged A) → Tells (At p) j → Refused j → There p j
there_told p j passes r = absurd r
there_told p j (tells e) r = e
