-- What follows of judging a routine, or a clause of an invariant, from what is ensured of its parts.
use Rattle.std.proofs.Common.{◌≡◌, ℕ, Bool, List, [], ◌++◌, length, take, map, None, Result, Ok, refl, ap, sym, ◌∙◌}
use Rattle.std.proofs.lemmas.List.{length-map, take-map}
use Rattle.sc_text.specs.declared.token.Span.{Span}
use Rattle.sc_tree.specs.declared.declaration.Declaration.{Declaration}
use Rattle.sc_tree.specs.declared.instruction.Clause.{Clause}
use Rattle.sc_tree.specs.declared.instruction.Instr.{Instr}
use Rattle.sc_tree.specs.declared.system.Routine.{Routine}
use Rattle.sc_tree.specs.Plain as plain
use Rattle.sc_tree.specs.Plain.{System, Instrs}
use Rattle.sc_tree.specs.View.{clause_of, declaration_of, expr_of, instrs_of, routine_of, tag_of, type_if_any}
use Rattle.sc_rules.specs.declared.position.Context.TheVariants as context
use Rattle.sc_rules.specs.Names.{RoutineName, RoutineContext, Entities, routine_context, formals_known, locals_known}
use Rattle.sc_rules.specs.SystemRules.{may_be_formula, clause_span}
use Rattle.sc_rules.specs.Judging.{Judged, ◌>>=◌, judge_each}
use Rattle.sc_rules.specs.JudgingText.{judge_clause, judge_instrs}
use Rattle.sc_rules.specs.JudgingSystem.{judge_declarations, judge_result_type, judge_feature, judge_invariant, judge_form}
use Rattle.sc_typing.specs.declared.fault.CheckFault.{CheckFault}
use Rattle.sc_typing.specs.declared.declarations.names.Entity.{Entity}
use Rattle.sc_typing.specs.Views.{entity_of}
use Rattle.sc_typing.specs.Judges.{Passes, Faults}
use Rattle.sc_check.specs.Internal.Parts.{JudgesForm, judge_text}
use Rattle.sc_check.proofs.Behind.{had_back}
use Rattle.sc_typing.proofs.Steps.{faults_along, faults_first, passes_along}

-- what was known is had back by cutting off what came behind it
pub had_out : (es fs gs : List Entity) (j : ℕ) (o : Entities) → j ≡ length es → map entity_of fs ≡ map entity_of es ++ o → gs ≡ take j fs →
    map entity_of gs ≡ map entity_of es
had_out es fs gs j o jq q t =
    ap (map entity_of) t ∙ sym (take-map entity_of j fs) ∙ ap (take j) q
    ∙ ap (λ k. take k (map entity_of es ++ o)) (jq ∙ sym (length-map es entity_of)) ∙ had_back (map entity_of es) (map entity_of es ++ o) (o, refl)

module _ (h : RoutineContext) (pre : List plain.Clause) (locals : List plain.Declaration) (is : Instrs) (post : List plain.Clause) (n m : Entities)
    (nq : n ≡ formals_known h.system h.formals) (pq : judge_each (judge_clause h context.Require n) pre ≡ Ok tt)
    (lq : judge_declarations h.system h.formals locals ≡ Ok tt) (mq : m ≡ n ++ locals_known h.system h.formals locals) where
  -- behind the body, and behind the precondition, where these names are known
  abbrev ended : Entities → Judged (Unit {0})
  ended n = judge_each (judge_clause h context.Ensure n) post

  abbrev behind : Entities → Judged (Unit {0})
  behind n = judge_declarations h.system h.formals locals >>= λ u. judge_instrs h (n ++ locals_known h.system h.formals locals) is >>= λ u. ended n

  at_body : judge_text h pre locals is post ≡ judge_instrs h m is >>= λ u. ended n
  at_body =
      sym (ap (λ n. judge_each (judge_clause h context.Require n) pre >>= λ u. behind n) nq)
      ∙ ap (λ j. j >>= λ u. behind n) pq
      ∙ ap (λ j. j >>= λ u. judge_instrs h (n ++ locals_known h.system h.formals locals) is >>= λ u. ended n) lq
      ∙ ap (λ m. judge_instrs h m is >>= λ u. ended n) (sym mq)

  pub body_fails : (e : CheckFault) → Faults (judge_instrs h m is) e → Faults (judge_text h pre locals is post) e
  body_fails e f =
      faults_along (judge_text h pre locals is post) (judge_instrs h m is >>= λ u. ended n) e at_body
      (faults_first (judge_instrs h m is) (λ u. ended n) e f)

  pub text_passes : (v : Entities) (r : Result Unit CheckFault) → v ≡ n → judge_instrs h m is ≡ Ok tt →
      Passes (judge_each (judge_clause h context.Ensure v) post) r → Passes (judge_text h pre locals is post) r
  text_passes v r vq iq p =
      passes_along (judge_text h pre locals is post) (ended v) r (at_body ∙ ap (λ j. j >>= λ u. ended n) iq ∙ ap ended (sym vq)) p

module _ (s : System) (pure : RoutineName → Bool) (k : ℕ) (r : Routine) (h : RoutineContext)
    (first second third locals : List Declaration) (pre post : List Clause) (is : List Instr)
    (q1 : first ≡ r.formals.items) (q2 : second ≡ r.formals.items) (q3 : third ≡ r.formals.items)
    (pq : pre ≡ r.precondition.items) (lq : locals ≡ r.locals.items) (iq : is ≡ r.body.items) (oq : post ≡ r.postcondition.items) where
  abbrev text : Judged (Unit {0})
  text = judge_text h (map clause_of pre) (map declaration_of locals) (instrs_of is) (map clause_of post)

  abbrev formals : List plain.Declaration
  formals = map declaration_of r.formals.items

  abbrev routine : RoutineContext
  routine = routine_context s pure k formals (type_if_any r.result_type)

  -- with this body, and the routine's postcondition
  abbrev with_body : RoutineContext → List plain.Clause → List plain.Declaration → List Instr → Judged (Unit {0})
  with_body h cs ds is = judge_text h cs ds (instrs_of is) (map clause_of r.postcondition.items)

  abbrev text_in : RoutineContext → Judged (Unit {0})
  text_in h = with_body h (map clause_of r.precondition.items) (map declaration_of r.locals.items) r.body.items

  at_text : h ≡ routine_context s pure k (map declaration_of third) (type_if_any r.result_type) → text_in routine ≡ text
  at_text hq =
      sym (ap text_in (hq ∙ ap (λ (ds : List Declaration). routine_context s pure k (map declaration_of ds) (type_if_any r.result_type)) q3))
      ∙ sym (ap (λ (cs : List Clause). with_body h (map clause_of cs) (map declaration_of r.locals.items) r.body.items) pq)
      ∙ sym (ap (λ (ds : List Declaration). with_body h (map clause_of pre) (map declaration_of ds) r.body.items) lq)
      ∙ sym (ap (with_body h (map clause_of pre) (map declaration_of locals)) iq)
      ∙ sym (ap (λ (cs : List Clause). judge_text h (map clause_of pre) (map declaration_of locals) (instrs_of is) (map clause_of cs)) oq)

  typed : judge_declarations s (map declaration_of first) (map declaration_of second) ≡ Ok tt → judge_declarations s formals formals ≡ Ok tt
  typed dq =
      sym (ap (λ (ds : List Declaration). judge_declarations s (map declaration_of ds) formals) q1)
      ∙ sym (ap (λ (ds : List Declaration). judge_declarations s (map declaration_of first) (map declaration_of ds)) q2) ∙ dq

  -- a routine passes as its text does, where its types pass
  pub routine_passes : judge_declarations s (map declaration_of first) (map declaration_of second) ≡ Ok tt →
      judge_result_type s (type_if_any r.result_type) ≡ Ok tt → h ≡ routine_context s pure k (map declaration_of third) (type_if_any r.result_type) →
      (t : Result Unit CheckFault) → Passes text t → Passes (judge_feature s pure k (plain.Routine (routine_of r))) t
  routine_passes dq rq hq t p =
      passes_along (judge_feature s pure k (plain.Routine (routine_of r))) text t
      (ap (λ j. j >>= λ u. judge_result_type s (type_if_any r.result_type) >>= λ u. text_in routine) (typed dq)
      ∙ ap (λ j. j >>= λ u. text_in routine) rq ∙ at_text hq) p

-- a clause of an invariant passes as its form does
module _ (s : System) (pure : RoutineName → Bool) (k : ℕ) (c : Clause) (b : Bool) (p : Span) (h : RoutineContext) (judged result : Result Unit CheckFault)
    (bq : b ≡ may_be_formula s k (expr_of c.condition)) (pq : p ≡ clause_span (tag_of c.tag) (expr_of c.condition)) (hq : h ≡ routine_context s pure k [] None) where
  abbrev clause : RoutineContext → Judged (Unit {0})
  clause h = judge_clause h context.Invariant [] (clause_of c)

  pub invariant_passes : Passes (clause h) judged → JudgesForm b p judged result → Passes (judge_invariant s pure k (clause_of c)) result
  unfolding clause_of
  invariant_passes j f =
      passes_along (judge_invariant s pure k (clause_of c)) (judge_form b p (clause h)) result
      (sym (ap (λ b. judge_form b p (clause h)) bq
      ∙ ap (λ p. judge_form (may_be_formula s k (expr_of c.condition)) p (clause h)) pq
      ∙ ap (λ h. judge_form (may_be_formula s k (expr_of c.condition)) (clause_span (tag_of c.tag) (expr_of c.condition)) (clause h)) hq))
      (f (clause h) j)
