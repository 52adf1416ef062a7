-- The order of the parts of a routine and of a class.
use Rattle.std.proofs.Common.{◌≡◌, ℕ, ◌≤◌, ◌<◌, Bool, true, false, List, [], ◌∷◌, refl, ap, arith}
use Rattle.sc_text.specs.Kind.{Kind, NAME, INTEGER, STRING, TERMINAL}
use Rattle.sc_text.specs.declared.token.Terminal.{Terminal}
use Rattle.sc_text.specs.declared.token.Terminal.TheVariants as terminal
use Rattle.sc_tree.specs.Internal.Reading.{same_terminal, sees, name_ahead}
use Rattle.sc_tree.proofs.Looks.{same_is}
use Rattle.sc_tree.proofs.CompleteAssertions.{ClausesEnd, clauses_end_by}

-- The first token is a word that ranks above the number.
pub data Behind (rank : Terminal → ℕ) (k : ℕ) : List Kind → Type 0 where
  behind : (m : Terminal) (r : List Kind) → k < rank m → Behind rank k (TERMINAL m ∷ r)

pub later : {rank : Terminal → ℕ} {k : ℕ} {ts : List Kind} (j : ℕ) → j ≤ k → Behind rank k ts → Behind rank j ts
later j l (behind m r h) = behind m r (omega arith)

pub unseen : {rank : Terminal → ℕ} {k : ℕ} {ts : List Kind} → Behind rank k ts → (m : Terminal) → rank m ≤ k → sees m ts ≡ false
unseen {rank} {k} (behind o r h) m l = go (same_terminal o m) refl
  where
    go : (b : Bool) → same_terminal o m ≡ b → b ≡ false
    go true e = let q : rank o ≡ rank m = ap rank (same_is o m e) in absurd (omega (arith, q, h, l))
    go false e = refl

pub unnamed : {rank : Terminal → ℕ} {k : ℕ} {ts : List Kind} → Behind rank k ts → name_ahead ts ≡ false
unnamed (behind m r h) = refl

-- the order of a routine's parts
abbrev pub routine_rank : Terminal → ℕ
routine_rank terminal.OpenParenthesis = 1
routine_rank terminal.Colon = 2
routine_rank terminal.Is = 3
routine_rank terminal.Require = 4
routine_rank terminal.Local = 5
routine_rank terminal.Do = 6
routine_rank terminal.Ensure = 7
routine_rank terminal.End = 8
routine_rank _ = 0

-- the order of a class's parts
abbrev pub class_rank : Terminal → ℕ
class_rank terminal.Inherit = 1
class_rank terminal.Create = 2
class_rank terminal.Feature = 3
class_rank terminal.Invariant = 4
class_rank terminal.Note = 5
class_rank terminal.Indexing = 5
class_rank terminal.End = 6
class_rank _ = 0

pub routine_ends_clauses : (m : Terminal) (r : List Kind) → 4 < routine_rank m → ClausesEnd (TERMINAL m ∷ r)
unfolding same_terminal
routine_ends_clauses terminal.Local r h = clauses_end_by terminal.Local r refl refl refl
routine_ends_clauses terminal.Do r h = clauses_end_by terminal.Do r refl refl refl
routine_ends_clauses terminal.Ensure r h = clauses_end_by terminal.Ensure r refl refl refl
routine_ends_clauses terminal.End r h = clauses_end_by terminal.End r refl refl refl
routine_ends_clauses _ r h = absurd (omega arith)

pub class_ends_clauses : (m : Terminal) (r : List Kind) → 4 < class_rank m → ClausesEnd (TERMINAL m ∷ r)
unfolding same_terminal
class_ends_clauses terminal.Note r h = clauses_end_by terminal.Note r refl refl refl
class_ends_clauses terminal.Indexing r h = clauses_end_by terminal.Indexing r refl refl refl
class_ends_clauses terminal.End r h = clauses_end_by terminal.End r refl refl refl
class_ends_clauses _ r h = absurd (omega arith)

pub named_unseen : (m : Terminal) (ts : List Kind) → name_ahead ts ≡ true → sees m ts ≡ false
named_unseen m [] e = refl
named_unseen m (NAME x ∷ r) e = refl
named_unseen m (INTEGER n ∷ r) e = refl
named_unseen m (STRING s ∷ r) e = refl
named_unseen m (TERMINAL o ∷ r) e = cc
