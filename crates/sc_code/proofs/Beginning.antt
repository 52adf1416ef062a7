-- A routine's code stands for the routine as it begins.
use Rattle.std.proofs.Common.{◌≡◌, ℕ, suc, ◌+◌, List, [], ◌∷◌, ◌++◌, length, max, take, refl, sym, ap, ◌∙◌, subst, arith, length-append, append_assoc}
use Rattle.sc_tree.specs.Plain.{System, Declaration, Clause, Expr}
use Rattle.sc_rules.specs.declared.entity_types.entity_type.EntityType.{EntityType}
use Rattle.sc_rules.specs.Names.{Entities, formal_entities}
use Rattle.sc_model.specs.declared.cause.Cause.TheVariants as cause
use Rattle.sc_model.specs.Values.{Operand}
use Rattle.sc_model.specs.Environments.{Binding, scope_of}
use Rattle.sc_model.specs.Routines.{Text, Routine}
use Rattle.sc_model.specs.Olds.{olds_in, olds_of_clauses}
use Rattle.sc_model.specs.Tasks as task
use Rattle.sc_model.specs.Tasks.{Task, tasks_of, keeps_olds, ensures}
use Rattle.sc_code.specs.Operations as op
use Rattle.sc_code.specs.Operations.{Operation}
use Rattle.sc_code.specs.Places.{with_old}
use Rattle.sc_code.specs.Emitted.{expr_code, expr_depth, clauses_depth, checks_depth, require_code, olds_code, olds_depth, declare_code, ensure_code, setting, formals_of, locals_of, olds_of_routine, body_code, closing_code, routine_code}
use Rattle.sc_code.specs.Typed.{AreClauses, AreOlds, no_old, more_olds, AreEnsured, no_ensured, more_ensured}
use Rattle.sc_code.specs.Stands as stand
use Rattle.sc_code.specs.Stands.{Run, Known, Has, Is, Room, StandsFor, setting_in, types_of, known_at, Stands, told}
use Rattle.sc_code.specs.Lowered.{IsTypedRoutine, run_of, LoweredStands}
use Rattle.sc_code.proofs.Hops.{has_front, has_back, has_on, has_all}
use Rattle.sc_code.proofs.Codes.{type_is}
use Rattle.sc_code.proofs.Slots.{first_names}

formals_length : (s : System) (all : List Declaration) (i : ℕ) (ds : List Declaration) → length (formal_entities s all i ds) ≡ length ds
formals_length s all i [] = refl
formals_length s all i (d ∷ ds) = ap (λ n. suc n) (formals_length s all (i + 1) ds)

declare_length : (k : ℕ) (bs : List Binding) → length (declare_code k bs) ≡ length bs
declare_length k [] = refl
declare_length k (b ∷ bs) = ap (λ n. suc n) (declare_length (suc k) bs)

append_none : (o : List EntityType) → o ++ [] ≡ o
append_none [] = refl
append_none (t ∷ o) = ap (λ l. t ∷ l) (append_none o)

-- the postcondition, and the exit
ensures_stand : (g : Run) (t : Text) (n : Entities) (o : List EntityType) (i p : ℕ) (ks : List Clause) → Has g p (ensure_code (setting_in g t o) n i ks ++ op.Exit ∷ [])
    → AreEnsured (setting_in g t o) n i ks → Room g [] (clauses_depth (setting_in g t o) n i ks) → StandsFor g p (Known t n o []) (ensures i ks)
ensures_stand g t n o i p [] has no_ensured room = stand.exits has.0
ensures_stand g t n o i p (k ∷ ks) has (more_ensured a b) room =
    let h = setting_in g t o in
    let first = expr_code h n i k.condition in
    let x = op.Expect cause.Postcondition in
    let rest = ensure_code h n (i + olds_in k.condition) ks in
    let has' = subst (Has g p) (append_assoc first (x ∷ rest) (op.Exit ∷ [])) has in
    let back = has_back g.code.operations p first (x ∷ (rest ++ op.Exit ∷ [])) has' in
    stand.evaluates (has_front g.code.operations p first (x ∷ (rest ++ op.Exit ∷ [])) has') a (omega (arith, room))
    (stand.ensures back.0 (ensures_stand g t n o (i + olds_in k.condition) (p + length first + 1) ks back.1 b (omega (arith, room))))

olds_stand : (g : Run) (t : Text) (n : Entities) (o us : List EntityType) (p : ℕ) (es : List Expr) (k : List Task) → Has g p (olds_code (setting_in g t o) n es)
    → AreOlds (setting_in g t o) n es us → Room g [] (olds_depth (setting_in g t o) n es)
    → StandsFor g (p + length (olds_code (setting_in g t o) n es)) (Known t n (o ++ us) []) k → StandsFor g p (Known t n o []) (keeps_olds es ++ k)
olds_stand g t n o us p [] k has no_old room st =
    subst (λ q. StandsFor g q (Known t n o []) k) (let e : p + 0 ≡ p = omega arith in e) (subst (λ l. StandsFor g (p + 0) (Known t n l []) k) (append_none o) st)
olds_stand g t n o us p (e ∷ es) k has (more_olds {t = u} {ts = vs} a b) room st =
    let h = setting_in g t o in
    let first = expr_code h n 0 e in
    let is = type_is h n 0 e u a in
    let h' = setting_in g t (o ++ u ∷ []) in
    let rest = olds_code h' n es in
    let has' = subst (λ w. Has g p (first ++ op.KeepOld ∷ olds_code (with_old h w) n es)) is has in
    let room' = subst (λ w. Room g [] (max (expr_depth h n 0 e) (olds_depth (with_old h w) n es))) is room in
    let st' = subst (λ w. StandsFor g (p + length (first ++ op.KeepOld ∷ olds_code (with_old h w) n es)) (Known t n (o ++ u ∷ vs) []) k) is st in
    let back = has_back g.code.operations p first (op.KeepOld ∷ rest) has' in
    let e1 : p + length (first ++ op.KeepOld ∷ rest) ≡ p + length first + 1 + length rest = omega (arith, length-append first (op.KeepOld ∷ rest)) in
    let st1 = subst (λ m. StandsFor g m (Known t n (o ++ u ∷ vs) []) k) e1 st' in
    let st2 = subst (λ l. StandsFor g (p + length first + 1 + length rest) (Known t n l []) k) (sym (append_assoc o (u ∷ []) vs)) st1 in
    stand.evaluates (has_front g.code.operations p first (op.KeepOld ∷ rest) has') a (omega (arith, room'))
    (stand.keeps_old back.0 refl (olds_stand g t n (o ++ u ∷ []) vs (p + length first + 1) es k back.1 b (omega (arith, room')) st2))

require_stands : (g : Run) (t : Text) (n : Entities) (p : ℕ) (ks : List Clause) (k : List Task) → Has g p (require_code (setting_in g t []) n ks)
    → AreClauses (setting_in g t []) n ks → Room g [] (checks_depth (setting_in g t []) n ks)
    → StandsFor g (p + length (require_code (setting_in g t []) n ks)) (Known t n [] []) k → StandsFor g p (Known t n [] []) (task.requires ks ++ k)
require_stands g t n p [] k has a room st = subst (λ q. StandsFor g q (Known t n [] []) k) (let e : p + 0 ≡ p = omega arith in e) st
require_stands g t n p (c ∷ ks) k has a room st = stand.requires has a room st

routine_stands : (s : System) (r : Routine) → IsTypedRoutine s r → StandsFor (run_of s r) 0 (Known r.contract (formals_of s r) [] []) (tasks_of r)
routine_stands s r typed =
    let g = run_of s r in
    let n = formals_of s r in
    let bs = locals_of s r in
    let es = olds_of_clauses r.ensure in
    let o = olds_of_routine s r in
    let first = require_code (setting s r r.contract []) n r.require in
    let second = olds_code (setting s r r.contract []) n es in
    let third = declare_code (length n) bs in
    let fourth = body_code s r in
    let fifth = closing_code s r in
    let last : List Operation = op.Exit ∷ [] in
    let code = has_all (routine_code s r) [] in
    let behind = third ++ (fourth ++ (fifth ++ last)) in
    let both = has_front g.code.operations 0 (first ++ second) behind code in
    let q1 = 0 + length first in
    let q2 = q1 + length second in
    let e2 : 0 + length (first ++ second) ≡ q2 = omega (arith, length-append first second) in
    let at2 = has_on g.code.operations _ _ behind e2 (has_back g.code.operations 0 (first ++ second) behind code) in
    let e3 : q2 + length third ≡ q2 + length bs = omega (arith, declare_length (length n) bs) in
    let q3 = q2 + length bs in
    let at3 = has_on g.code.operations _ _ (fourth ++ (fifth ++ last)) e3 (has_back g.code.operations q2 third (fourth ++ (fifth ++ last)) at2) in
    let q4 = q3 + length fourth in
    let at4 = has_back g.code.operations q3 fourth (fifth ++ last) at3 in
    let kept : take (length r.text.formals) (n ++ scope_of bs) ≡ n =
    ap (λ d. take d (n ++ scope_of bs)) (sym (formals_length s r.text.formals 0 r.text.formals)) ∙ first_names n (scope_of bs) in
    let ending : StandsFor g q4 (Known r.contract n o []) (ensures 0 r.ensure) =
    ensures_stand g r.contract n o 0 q4 r.ensure at4 typed.postcondition (omega arith) in
    let forgotten : StandsFor g q4 (Known r.text (n ++ scope_of bs) o []) (task.Forget (length r.text.formals) ∷ task.In r.contract ∷ ensures 0 r.ensure) =
    stand.forgets (stand.enters_text (subst (λ m. StandsFor g q4 (Known r.contract m o []) (ensures 0 r.ensure)) (sym kept) ending)) in
    let rest : List Task = task.In r.text ∷ task.Declare r.locals ∷ task.Do r.body ∷ task.Forget (length r.text.formals) ∷ task.In r.contract ∷ ensures 0 r.ensure in
    subst (StandsFor g 0 (Known r.contract n [] [])) (sym (append_assoc (task.requires r.require) (keeps_olds es) rest))
    (require_stands g r.contract n 0 r.require (keeps_olds es ++ rest) (has_front g.code.operations 0 first second both) typed.precondition (omega arith)
    (olds_stand g r.contract n [] o q1 es rest (has_back g.code.operations 0 first second both) typed.olds (omega arith)
    (stand.enters_text
    (stand.declares {locals = r.locals} (has_front g.code.operations q2 third (fourth ++ (fifth ++ last)) at2) (omega arith)
    (stand.does refl (has_front g.code.operations q3 fourth (fifth ++ last) at3) typed.body (omega arith) (omega arith) forgotten)))))

pub lowered_stands : LoweredStands
lowered_stands s r p tail typed b =
    let g = run_of s r in
    let at_text = subst (λ t. StandsFor g 0 (Known t (formals_of s r) [] []) (tasks_of r)) (sym b.text) (routine_stands s r typed) in
    let at_names = subst (λ n. StandsFor g 0 (Known p.text n [] []) (tasks_of r)) (sym b.names) at_text in
    let at_olds = subst (λ (o : List Operand). StandsFor g 0 (Known p.text (scope_of p.environment) (types_of o) []) (tasks_of r)) (sym b.olds) at_names in
    let at_values = subst (λ (v : List Operand). StandsFor g 0 (Known p.text (scope_of p.environment) (types_of p.olds) (types_of v)) (tasks_of r)) (sym b.values) at_olds in
    let at_tasks = subst (λ k. StandsFor g 0 (known_at p) k) (sym b.tasks) at_values in
    record { tells = told at_tasks; has_slots = b.slots; has_result = b.result }
