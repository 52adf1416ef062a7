-- The texts in which the tasks of a routine stand, and which of its names they declare and forget.
use Rattle.std.proofs.Common.{arith, ◌≡◌, ◌≤◌, ◌+◌, ℕ, List, [], ◌∷◌, ◌++◌, refl}
use Rattle.std.specs.Prelude.{length}
use Rattle.sc_tree.specs.Plain as tree
use Rattle.sc_tree.specs.Plain.{Clause, Head, Exprs, no_exprs, expr_then}
use Rattle.sc_model.specs.Routines.{Routine, Text}
use Rattle.sc_model.specs.Olds.{olds_in, olds_of_clauses}
use Rattle.sc_model.specs.Tasks.{Task, Do, In, Declare, Forget, Choose, Leave, evals, head_evals, checks, requires, keeps_olds, ensures, tasks_of}

-- ---- tasks

-- In this text the task declares the locals of the routine alone, and forgets none of its formals.
abbrev pub IsOf : Routine → Text → Task → Type 0
IsOf r t (Declare ls) = (t.formals ≡ r.text.formals) × (ls ≡ r.locals)
IsOf r t (Forget depth) = length r.text.formals ≤ depth
IsOf r t (Choose depth body bs other) = length r.text.formals ≤ depth
IsOf r t (Leave depth) = length r.text.formals ≤ depth
IsOf r t task = Unit {0}

abbrev pub text_behind : Text → Task → Text
text_behind t (In u) = u
text_behind t task = t

-- so does each of these
abbrev pub AreOf : Routine → Text → List Task → Type 0
AreOf r t [] = Unit {0}
AreOf r t (x ∷ ts) = IsOf r t x × AreOf r (text_behind t x) ts

module _ (r : Routine) (t : Text) where
  pub evals_then : (i : ℕ) (es : Exprs) (c : Task) (ts : List Task) → AreOf r t (c ∷ ts) → AreOf r t ((evals i es ++ c ∷ []) ++ ts)
  evals_then i no_exprs c ts l = l
  evals_then i (expr_then e es) c ts l = (tt, evals_then (i + olds_in e) es c ts l)

  pub heads_then : (ds : List Head) (c : Task) (ts : List Task) → AreOf r t (c ∷ ts) → AreOf r t ((head_evals ds ++ c ∷ []) ++ ts)
  heads_then [] c ts l = l
  heads_then (d ∷ ds) c ts l = (tt, heads_then ds c ts l)

  pub checks_then : (ks : List Clause) (ts : List Task) → AreOf r t ts → AreOf r t (checks ks ++ ts)
  checks_then [] ts l = l
  checks_then (k ∷ ks) ts l = (tt, (tt, checks_then ks ts l))

  olds_then : (es : List tree.Expr) (ts : List Task) → AreOf r t ts → AreOf r t (keeps_olds es ++ ts)
  olds_then [] ts l = l
  olds_then (e ∷ es) ts l = (tt, (tt, olds_then es ts l))

  requires_then : (ks : List Clause) (es : List tree.Expr) (ts : List Task) → AreOf r t ts → AreOf r t ((requires ks ++ keeps_olds es) ++ ts)
  requires_then [] es ts l = olds_then es ts l
  requires_then (k ∷ ks) es ts l = (tt, olds_then es ts l)

  ensures_are : (i : ℕ) (ks : List Clause) → AreOf r t (ensures i ks)
  ensures_are i [] = tt
  ensures_are i (k ∷ ks) = (tt, (tt, ensures_are (i + olds_in k.condition) ks))

-- all of the routine
pub routine_is : (r : Routine) (t : Text) → AreOf r t (tasks_of r)
routine_is r t = requires_then r t r.require (olds_of_clauses r.ensure)
    (In r.text ∷ Declare r.locals ∷ Do r.body ∷ Forget (length r.text.formals) ∷ In r.contract ∷ ensures 0 r.ensure)
    (tt, ((refl, refl), (tt, (omega arith, (tt, ensures_are r r.contract 0 r.ensure)))))
