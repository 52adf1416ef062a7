-- Tasks of expressions, and tasks without a precondition or a block to leave.
use Rattle.std.proofs.Common.{◌≡◌, ℕ, ◌+◌, true, false, List, [], ◌∷◌, ◌++◌, refl, sym, ◌∙◌, arith}
use Rattle.sc_tree.specs.Plain.{Head, Clause, Exprs, no_exprs, expr_then}
use Rattle.sc_model.specs.Environments.{Binding, block_values}
use Rattle.sc_machine_laws.specs.states.Stands.{names_in}
use Rattle.sc_machine_laws.proofs.states.links.BlockNames.{IsTidy}
use Rattle.sc_model.specs.Olds.{olds_in}
use Rattle.sc_model.specs.Tasks.{Forget, Task, Choose, Leave, evals, head_evals, checks}
use Rattle.sc_machine_laws.proofs.states.links.Points.{IsCalm, IsPhased, is_body, is_require, leaves, with_leave}

-- ---- tasks

pub no_require : {A : Type 0} → false ≡ true → A
no_require e = cc

-- tasks of expressions
abbrev pub AreLight : List Task → Type 0
AreLight [] = Unit {0}
AreLight (t ∷ ts) = (is_body t ≡ false) × (is_require t ≡ false) × AreLight ts

-- no precondition, and no block to leave
abbrev pub AreQuiet : List Task → Type 0
AreQuiet [] = Unit {0}
AreQuiet (t ∷ ts) = (is_require t ≡ false) × ((n : ℕ) → with_leave t n ≡ n) × AreQuiet ts

pub not_leave : (t : Task) (n : ℕ) → is_body t ≡ false → with_leave t n ≡ n
not_leave (Leave depth) n e = no_require (sym e)
not_leave t n e = refl

pub light_append : (xs ys : List Task) → AreLight xs → AreLight ys → AreLight (xs ++ ys)
light_append [] ys a b = b
light_append (x ∷ xs) ys a b = (a.0, a.1, light_append xs ys a.2 b)

pub light_leaves : (ts rest : List Task) → AreLight ts → leaves (ts ++ rest) ≡ leaves rest
light_leaves [] rest is = refl
light_leaves (t ∷ ts) rest is = not_leave t (leaves (ts ++ rest)) is.0 ∙ light_leaves ts rest is.2

pub light_phased : (ts rest : List Task) → AreLight ts → IsPhased rest → IsPhased (ts ++ rest)
light_phased [] rest is all = all
light_phased (t ∷ ts) rest is all = ((λ e. no_require (sym is.0 ∙ e)), (λ e. no_require (sym is.1 ∙ e)), light_phased ts rest is.2 all)

pub quiet_calm : (ts rest : List Task) → AreQuiet ts → IsCalm rest → IsCalm (ts ++ rest)
quiet_calm [] rest is calm = calm
quiet_calm (t ∷ ts) rest is calm = (is.0, quiet_calm ts rest is.2 calm)

pub quiet_leaves : (ts rest : List Task) → AreQuiet ts → leaves (ts ++ rest) ≡ leaves rest
quiet_leaves [] rest is = refl
quiet_leaves (t ∷ ts) rest is = is.1 (leaves (ts ++ rest)) ∙ quiet_leaves ts rest is.2

pub quiet_phased : (ts rest : List Task) → AreQuiet ts → IsCalm rest → IsPhased rest → IsPhased (ts ++ rest)
quiet_phased [] rest is calm all = all
quiet_phased (t ∷ ts) rest is calm all = ((λ e. quiet_calm ts rest is.2 calm), (λ e. no_require (sym is.0 ∙ e)), quiet_phased ts rest is.2 calm all)

pub evals_light : (i : ℕ) (es : Exprs) → AreLight (evals i es)
evals_light i no_exprs = tt
evals_light i (expr_then e es) = (refl, refl, evals_light (i + olds_in e) es)

pub heads_light : (ds : List Head) → AreLight (head_evals ds)
heads_light [] = tt
heads_light (d ∷ ds) = (refl, refl, heads_light ds)

pub checks_light : (ks : List Clause) → AreLight (checks ks)
checks_light [] = tt
checks_light (k ∷ ks) = (refl, refl, (refl, refl, checks_light ks))

pub plain_names : (t : Task) (ts : List Task) (bs : List Binding) (i : ℕ) → is_body t ≡ false → names_in (t ∷ ts) bs i ≡ names_in ts bs i
plain_names (Leave depth) ts bs i e = no_require (sym e)
plain_names t ts bs i e = refl

pub plain_tidy : (t : Task) (ts : List Task) (bs : List Binding) → is_body t ≡ false → IsTidy ts bs → IsTidy (t ∷ ts) bs
plain_tidy (Leave depth) ts bs e is = no_require (sym e)
plain_tidy (Forget depth) ts bs e is = no_require (sym e)
plain_tidy (Choose depth body _ other) ts bs e is = no_require (sym e)
plain_tidy t ts bs e is = (tt, is)

pub light_names : (ts rest : List Task) (bs : List Binding) (i : ℕ) → AreLight ts → names_in (ts ++ rest) bs i ≡ names_in rest bs i
light_names [] rest bs i is = refl
light_names (t ∷ ts) rest bs i is = plain_names t (ts ++ rest) bs i is.0 ∙ light_names ts rest bs i is.2

pub light_tidy : (ts rest : List Task) (bs : List Binding) → AreLight ts → IsTidy rest bs → IsTidy (ts ++ rest) bs
light_tidy [] rest bs is all = all
light_tidy (t ∷ ts) rest bs is all = plain_tidy t (ts ++ rest) bs is.0 (light_tidy ts rest bs is.2 all)

-- no name is known where no block is to be left
pub left_none : (ts : List Task) (bs : List Binding) → leaves ts ≡ 0 → IsTidy ts bs → block_values bs ≡ []
left_none [] bs e is = is
left_none (Leave depth ∷ ts) bs e is = absurd (omega (arith, e))
left_none (t ∷ ts) bs e is = left_none ts bs e is.1
