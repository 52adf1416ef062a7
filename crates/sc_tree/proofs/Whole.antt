-- The laws of whole systems.
use Rattle.std.proofs.Common.{◌≡◌, ℕ, ◌≤◌, ◌<◌, max, List, [], ◌∷◌, length, Result, Ok, Err, refl, ap, sym, ◌∙◌, subst, append-nil, arith}
use Rattle.sc_text.specs.Kind.{Kind}
use Rattle.sc_tree.specs.Plain.{Class, System}
use Rattle.sc_tree.specs.Grammar.{IsClasses, IsSystem}
use Rattle.sc_tree.specs.Internal.Reading.{Fault, Wrong, Deep, Read, ◌>>=◌, classes_from, whole, system}
use Rattle.sc_tree.proofs.ReadingSteps.{holds, Spelled, Comes, fits, deep, bind_ok, bind_err}
use Rattle.sc_tree.proofs.SoundExpressions.{Sound}
use Rattle.sc_tree.proofs.SoundClasses.{sound_classes}
use Rattle.sc_tree.proofs.CompleteClasses.{complete_classes}

-- what reading a system comes to, where the tokens spell one
pub data Answers (n h : ℕ) (s : System) (a : Result System Fault) : Type 0 where
  answers : h ≤ n → a ≡ Ok s → Answers n h s a
  answers_deep : n < h → a ≡ Err Deep → Answers n h s a

pub complete_system : {s : System} {ts : List Kind} {h : ℕ} → IsSystem s ts h → (n : ℕ) → Answers n h s (system n ts)
unfolding system
complete_system {s} {ts} {h} d n = go (complete_classes d n)
  where
    go : Comes n h (s.classes, h, []) (classes_from n (length ts) [] 0 ts) → Answers n h s (classes_from n (length ts) [] 0 ts >>= whole)
    go (fits p e) = answers p (bind_ok _ _ whole e)
    go (deep p e) = answers_deep p (bind_err _ _ whole e)

ok_same : {A : Type 0} (a : Result A Fault) (x y : A) → a ≡ Ok x → a ≡ Ok y → x ≡ y
ok_same a x y e d = cc

abbrev of_classes : List Class → System
of_classes xs = record { classes = xs }

-- What is read is spelled by the tokens, and is not nested deeper than asked.
pub system_ok : (n : ℕ) (ts : List Kind) (s : System) → system n ts ≡ Ok s → (h : ℕ) × (h ≤ n) × IsSystem s ts h
unfolding system
system_ok n ts s e = go (classes_from n (length ts) [] 0 ts) refl (sound_classes n ts) e
  where
    at : (xs : List Class) (h : ℕ) → classes_from n (length ts) [] 0 ts ≡ Ok (xs, h, []) → Spelled IsClasses ts (xs, h, []) → (h : ℕ) × (h ≤ n) × IsClasses xs ts h
    at xs h q p = let d : IsClasses xs ts h = subst (λ (c : List Kind). IsClasses xs c h) (sym (p.same ∙ append-nil p.tokens)) p.is in by_room (complete_classes d n) d
      where
        by_room : Comes n h (xs, h, []) (classes_from n (length ts) [] 0 ts) → IsClasses xs ts h → (h : ℕ) × (h ≤ n) × IsClasses xs ts h
        by_room (fits l _) d = (h, l, d)
        by_room (deep l r) d = cc

    go : (a : Read (List Class)) → classes_from n (length ts) [] 0 ts ≡ a → Sound IsClasses ts a → (a >>= whole) ≡ Ok s → (h : ℕ) × (h ≤ n) × IsSystem s ts h
    go (Err x) q p e = cc
    go (Ok (xs, h, [])) q (holds p) e = subst (λ (s : System). (h : ℕ) × (h ≤ n) × IsSystem s ts h) (ok_same (Ok s) _ _ (sym e) refl) (at xs h q p)
    go (Ok (xs, h, k ∷ r)) q p e = cc

-- Where reading finds the tokens wrong, they spell no system.
pub system_wrong : (n : ℕ) (ts : List Kind) → system n ts ≡ Err Wrong → (s : System) (h : ℕ) → IsSystem s ts h → ⊥
system_wrong n ts e s h d = go (complete_system d n)
  where
    go : Answers n h s (system n ts) → ⊥
    go (answers p q) = let r : Ok s ≡ Err Wrong = sym q ∙ e in cc
    go (answers_deep p q) = let r : Err Deep ≡ Err Wrong = sym q ∙ e in cc

-- Where reading finds the tokens too deep, they spell no system that is nested as little as asked.
pub system_deep : (n : ℕ) (ts : List Kind) → system n ts ≡ Err Deep → (s : System) (h : ℕ) → h ≤ n → IsSystem s ts h → ⊥
system_deep n ts e s h b d = go (complete_system d n)
  where
    go : Answers n h s (system n ts) → ⊥
    go (answers p q) = let r : Ok s ≡ Err Deep = sym q ∙ e in cc
    go (answers_deep p q) = absurd (omega arith)

-- No list of tokens spells two systems, or one system at two nestings.
one_answer : (ts : List Kind) (s t : System) (g h : ℕ) → IsSystem s ts g → IsSystem t ts h → (s ≡ t) × (g ≡ h)
one_answer ts s t g h d e = go (complete_classes d (max g h)) (complete_classes e (max g h))
  where
    same : (x y : List Class × ℕ × List Kind) → classes_from (max g h) (length ts) [] 0 ts ≡ Ok x → classes_from (max g h) (length ts) [] 0 ts ≡ Ok y → (x.0 ≡ y.0) × (x.1 ≡ y.1)
    same x y e d = let q = ok_same _ x y e d in (ap (λ (x : List Class × ℕ × List Kind). x.0) q, ap (λ (x : List Class × ℕ × List Kind). x.1) q)

    go : Comes (max g h) g (s.classes, g, []) (classes_from (max g h) (length ts) [] 0 ts) → Comes (max g h) h (t.classes, h, []) (classes_from (max g h) (length ts) [] 0 ts) → (s ≡ t) × (g ≡ h)
    go (fits p q) (fits p' q') = let e = same (s.classes, g, []) (t.classes, h, []) q q' in (ap of_classes e.0, e.1)
    go (deep p q) c = absurd (omega arith)
    go (fits p q) (deep p' q') = absurd (omega arith)

pub one_system : (ts : List Kind) (s t : System) (g h : ℕ) → IsSystem s ts g → IsSystem t ts h → s ≡ t
one_system ts s t g h d e = (one_answer ts s t g h d e).0

pub one_nesting : (ts : List Kind) (s t : System) (g h : ℕ) → IsSystem s ts g → IsSystem t ts h → g ≡ h
one_nesting ts s t g h d e = (one_answer ts s t g h d e).1
