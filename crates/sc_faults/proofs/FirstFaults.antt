-- What is listed of a part: nothing if judging passes it, and else the fault that judging reports, before all others.
use Rattle.std.proofs.Common.{◌≡◌, ℕ, ◌+◌, Bool, true, false, List, [], ◌∷◌, ◌++◌, Option, Some as Present, None, Ok, Err, refl, sym, subst, arith}
use Rattle.std.specs.Prelude.{not, ◌&&◌, ◌==◌, if◌then◌else◌, bytes_eq}
use Rattle.std.proofs.lemmas.Slice.Eq.{bytes_eq-Decides}
use Rattle.sc_text.specs.declared.token.Span.{Span}
use Rattle.sc_tree.specs.Plain.{System, Class, Feature, FeatureKind, Attribute, Routine, Declaration, DeclaredType, Clause, Name, Head, Expr, Instr, Assign, PrintText, CallRoutine, Create, If, Loop, Check, Block, Instrs, no_instrs, instr_then, Branches, no_branches, branch_then}
use Rattle.sc_rules.specs.declared.rule.Rule.TheVariants.{ArgumentType, InvariantForm}
use Rattle.sc_rules.specs.declared.fault.Fault.{Fault}
use Rattle.sc_rules.specs.declared.position.Context.{Context}
use Rattle.sc_rules.specs.declared.position.Context.TheVariants as context
use Rattle.sc_rules.specs.declared.position.Position.{Position}
use Rattle.sc_rules.specs.declared.position.Position.TheVariants.{Plain, Condition}
use Rattle.sc_rules.specs.declared.position.Role.TheVariants as role
use Rattle.sc_rules.specs.Positions.{span_of}
use Rattle.sc_rules.specs.RuleText.{code_of}
use Rattle.sc_rules.specs.Names.{RoutineName, RoutineContext, Entities, entity, blocks, block_type, context_of, formals_known, known_in_body}
use Rattle.sc_rules.specs.Typing.{Typing, Gives}
use Rattle.sc_rules.specs.Sites.{expression, instruction}
use Rattle.sc_rules.specs.SystemRules.{invariant_context, may_be_formula, clause_span}
use Rattle.sc_rules.specs.TextRules.{separate_any, Fails}
use Rattle.sc_rules.specs.Judging.{Judged, ◌>>=◌, fault, required, judge_each, judge, judge_given, judge_type}
use Rattle.sc_rules.specs.JudgingText.{conforms_if_any, judge_condition, judge_clause, judge_heads, judge_instr, judge_instrs, judge_branches}
use Rattle.sc_rules.specs.JudgingSystem.{is_late, is_same_span, judge_result_type, judge_form, judge_feature, judge_creator, judge_invariant, judge_class, judge_classes, judge_system}
use Rattle.sc_rules.proofs.Refusals.{Refused, stops, Gave, refuses}
use Rattle.sc_rules.proofs.Sound.{told_given}
use Rattle.sc_rules.proofs.TextComplete.{refused}
use Rattle.sc_faults.specs.FaultLists.{is_same_fault, begins_with}
use Rattle.sc_faults.specs.Internal.Listing.{with_first, faults_at, faults_of_each, where_known, judge_tag, faults_in, faults_in_instr, faults_of, faults_of_condition, faults_of_clause, faults_of_head, judge_reserved, faults_of_simple, faults_of_instr, faults_of_instrs, faults_of_branches, faults_of_type, faults_of_types, faults_of_type_if_any, faults_of_kind, faults_of_creator, faults_of_form, faults_of_invariant, faults_of_class, faults_of_classes, faults_of_system}
use Rattle.sc_faults.proofs.ReportedFaults.{none_left}
use Rattle.sc_faults.proofs.TypeFaults.{no_tag_fault}
use Rattle.sc_faults.proofs.ExpressionFaults.{none_within}
use Rattle.sc_faults.proofs.InstructionFaults.{simple_in}

abbrev pub Fits : {A : Type 0} → Judged A → List Fault → Type 0
Fits (Ok x) fs = fs ≡ []
Fits (Err f) fs = begins_with f fs ≡ true

-- ---- a site and its operands

same_number : (m n : ℕ) → m ≡ n → (m == n) ≡ true
same_number m n e = grind arith

both_true : (b c : Bool) → b ≡ true → c ≡ true → b && c ≡ true
both_true true true e i = refl
both_true true false e i = i
both_true false c e i = e

same_itself : (f : Fault) → is_same_fault f f ≡ true
same_itself f =
    both_true (f.span.start == f.span.start && f.span.end == f.span.end) (bytes_eq (code_of f.rule) (code_of f.rule))
    (both_true (f.span.start == f.span.start) (f.span.end == f.span.end) (same_number f.span.start f.span.start refl)
    (same_number f.span.end f.span.end refl))
    ((bytes_eq-Decides (code_of f.rule) (code_of f.rule)).1 refl)

begins : (f : Fault) (fs : List Fault) → begins_with f (with_first f fs) ≡ true
begins f fs = by (begins_with f fs) refl
  where
    by : (b : Bool) → begins_with f fs ≡ b → begins_with f (if b then fs else f ∷ fs) ≡ true
    by true e = e
    by false e = same_itself f

begins_more : (f : Fault) (fs gs : List Fault) → begins_with f fs ≡ true → begins_with f (fs ++ gs) ≡ true
begins_more f [] gs e = cc
begins_more f (g ∷ fs) gs e = e

site_fits : {A : Type 0} (j : Judged A) (fs : List Fault) → ((x : A) → j ≡ Ok x → fs ≡ []) → Fits j (faults_at j fs)
site_fits (Ok x) fs n = n x refl
site_fits (Err f) fs n = begins f fs

-- where the first part of judging passes, nothing is listed
passed : {A B : Type 0} (m : Judged A) (f : A → Judged B) (fs : List Fault) (x : B) → Fits m fs → (m >>= f) ≡ Ok x → fs ≡ []
passed (Ok y) f fs x e q = e
passed (Err g) f fs x e q = cc

passed_twice : {A B C : Type 0} (m : Judged A) (f : A → Judged B) (g : B → Judged C) (fs : List Fault) (x : C) → Fits m fs →
    ((m >>= f) >>= g) ≡ Ok x → fs ≡ []
passed_twice (Ok y) f g fs x e q = e
passed_twice (Err h) f g fs x e q = cc

pub expression_fits : (h : RoutineContext) (c : Context) (k : Position) (n : Entities) (e : Expr) →
    Fits (judge h c k n e) (faults_of h c k n e)
expression_fits h c k n e = site_fits (judge h c k n e) (faults_in h c k n e) (λ t j. none_within h c k n e t j)

condition_fits : (h : RoutineContext) (c : Context) (k : Position) (n : Entities) (e : Expr) →
    Fits (judge_condition h c k n e) (faults_of_condition h c k n e)
condition_fits h c k n e =
    site_fits (judge_condition h c k n e) (faults_of h c k n e)
    (λ u q. passed (judge h c k n e) _ (faults_of h c k n e) u (expression_fits h c k n e) q)

simple_fits : (h : RoutineContext) (n : Entities) (i : Instr) → Fits (judge_instr h n i) (faults_of_simple h n i)
simple_fits h n i =
    site_fits (judge_instr h n i) (faults_in_instr h n i)
    (λ u q. none_left (Fails h (instruction n i)) (faults_in_instr h n i)
    (λ r p f. subst (λ (j : Judged (Unit {0})). Refused j) q (refused f)) (simple_in h n i))

-- ---- one after the other

both_fit : {A B : Type 0} (m : Judged A) (j : Judged B) (fs gs : List Fault) → Fits m fs → Fits j gs →
    Fits (m >>= λ u. j) (fs ++ gs)
both_fit (Ok u) j fs gs e i = subst (λ fs. Fits j (fs ++ gs)) (sym e) i
both_fit (Err f) j fs gs e i = begins_more f fs gs e

each_fits : {A : Type 0} (judge : A → Judged (Unit {0})) (list : A → List Fault) (xs : List A) →
    ((x : A) → Fits (judge x) (list x)) → Fits (judge_each judge xs) (faults_of_each list xs)
each_fits judge list [] g = refl
each_fits judge list (x ∷ xs) g =
    both_fit (judge x) (judge_each judge xs) (list x) (faults_of_each list xs) (g x) (each_fits judge list xs g)

-- ---- instructions

-- where a condition is not refused, what it gives is known
given_refused : (h : RoutineContext) (n : Entities) (e : Expr) → Refused (judge_given h context.Body n e) →
    Refused (judge_condition h context.Body Condition n e)
given_refused h n e r = by (judge_given h context.Body n e) (told_given h context.Body n e) r
  where
    by : (j : Judged Entities) → Gave (Gives h context.Body n e) (Fails h (expression context.Body Condition n e)) j →
        Refused j → Refused (judge_condition h context.Body Condition n e)
    by (Ok m) g r = absurd r
    by (Err f) (refuses g) r = stops (judge h context.Body Condition n e) _ (refused g)

-- a condition, the instructions under it, and what comes after them
branch_fits : (h : RoutineContext) (c : Judged (Unit {0})) (cs : List Fault) (g : Judged Entities) (body : Instrs)
    (rest : Judged (Unit {0})) (gs : List Fault) → Fits c cs → (Refused g → Refused c) →
    ((m : Entities) → Fits (judge_instrs h m body) (faults_of_instrs h m body)) → Fits rest gs →
    Fits (c >>= λ u. g >>= λ m. judge_instrs h m body >>= λ u. rest) ((cs ++ where_known g (λ m. faults_of_instrs h m body)) ++ gs)
branch_fits h (Ok u) cs (Ok m) body rest gs e w f k =
    subst (λ cs. Fits (judge_instrs h m body >>= λ u. rest) ((cs ++ faults_of_instrs h m body) ++ gs)) (sym e)
    (both_fit (judge_instrs h m body) rest (faults_of_instrs h m body) gs (f m) k)
branch_fits h (Ok u) cs (Err i) body rest gs e w f k = absurd (w tt)
branch_fits h (Err i) cs g body rest gs e w f k =
    begins_more i (cs ++ where_known g (λ m. faults_of_instrs h m body)) gs
    (begins_more i cs (where_known g (λ m. faults_of_instrs h m body)) e)

-- the heads of a block, and the instructions under them
block_fits : (h : RoutineContext) (n m : Entities) (ds : List Head) (body : Instrs) →
    ((o : Entities) → Fits (judge_instrs h o body) (faults_of_instrs h o body)) →
    Fits (judge_heads h n m ds >>= λ o. judge_instrs h o body)
    (faults_of_each (faults_of_head h n) ds ++ where_known (judge_reserved h n m ds) (λ m. faults_of_instrs h m body))
block_fits h n m [] body f = f m
block_fits h n m (d ∷ ds) body f =
    by (judge h context.Body Plain n d.value) (expression_fits h context.Body Plain n d.value) (λ t. block_fits h n (known t) ds body f)
  where
    known : Typing → Entities
    known t = m ++ entity d.name.text (block_type (blocks m) t.type) role.Block ∷ []

    fitting : Typing → Bool
    fitting t = conforms_if_any h.system t.type (Present separate_any)

    operands : List Fault
    operands = faults_of h context.Body Plain n d.value

    later : List Fault
    later = faults_of_each (faults_of_head h n) ds

    inner : Judged Entities → List Fault
    inner j = where_known j (λ m. faults_of_instrs h m body)

    reported : (e : Fault) (j : Judged Entities) → begins_with e ((with_first e operands ++ later) ++ inner j) ≡ true
    reported e j =
        begins_more e (with_first e operands ++ later) (inner j) (begins_more e (with_first e operands) later (begins e operands))

    further : (t : Typing) (b : Bool) → operands ≡ [] →
        Fits (judge_heads h n (known t) ds >>= λ o. judge_instrs h o body) (later ++ inner (judge_reserved h n (known t) ds)) →
        Fits ((required b ArgumentType (span_of d.value) >>= λ u. judge_heads h n (known t) ds) >>= λ o. judge_instrs h o body)
        ((faults_at {A = Unit {0}} ((required b ArgumentType (span_of d.value) >>= λ u. Ok
        (entity d.name.text (block_type 0 t.type) role.Block)) >>= λ e. Ok tt) operands
        ++ later) ++ inner (judge_reserved h n (known t) ds))
    further t true e g =
        subst (λ fs. Fits (judge_heads h n (known t) ds >>= λ o. judge_instrs h o body) ((fs ++ later) ++ inner (judge_reserved h n (known t) ds)))
        (sym e) g
    further t false e g = reported (record { rule = ArgumentType; span = span_of d.value }) (judge_reserved h n (known t) ds)

    by : (j : Judged Typing) → Fits j operands →
        ((t : Typing) → Fits (judge_heads h n (known t) ds >>= λ o. judge_instrs h o body) (later ++ inner (judge_reserved h n (known t) ds))) →
        Fits ((j >>= λ t. required (fitting t) ArgumentType (span_of d.value) >>= λ u. judge_heads h n (known t) ds) >>= λ o. judge_instrs h o body)
        ((faults_at {A = Unit {0}} ((j >>= λ t. required (fitting t) ArgumentType (span_of d.value) >>= λ u. Ok
        (entity d.name.text (block_type 0 t.type) role.Block)) >>= λ e. Ok tt) operands
        ++ later) ++ inner (j >>= λ t. judge_reserved h n (known t) ds))
    by (Ok t) e g = further t (fitting t) e (g t)
    by (Err e) i g = reported e (Err e)

mutual
  unfolding faults_of_instr judge_instr

  pub instr_fits : (h : RoutineContext) (n : Entities) (i : Instr) → Fits (judge_instr h n i) (faults_of_instr h n i)
  instr_fits h n (Assign p v e) = simple_fits h n (Assign p v e)
  instr_fits h n (PrintText p x) = simple_fits h n (PrintText p x)
  instr_fits h n (CallRoutine p a x es) = simple_fits h n (CallRoutine p a x es)
  instr_fits h n (Create p creation) = simple_fits h n (Create p creation)
  instr_fits h n (If p e body bs other) =
      branch_fits h (judge_condition h context.Body Condition n e) (faults_of_condition h context.Body Condition n e)
      (judge_given h context.Body n e) body (judge_branches h n bs >>= λ u. judge_instrs h n other)
      (faults_of_branches h n bs ++ faults_of_instrs h n other) (condition_fits h context.Body Condition n e) (given_refused h n e)
      (λ m. instrs_fits h m body)
      (both_fit (judge_branches h n bs) (judge_instrs h n other) (faults_of_branches h n bs) (faults_of_instrs h n other)
      (branches_fits h n bs) (instrs_fits h n other))
  instr_fits h n (Loop p initial until body) =
      both_fit (judge_instrs h n initial) (judge_condition h context.Body Plain n until >>= λ u. judge_instrs h n body)
      (faults_of_instrs h n initial) (faults_of_condition h context.Body Plain n until ++ faults_of_instrs h n body)
      (instrs_fits h n initial)
      (both_fit (judge_condition h context.Body Plain n until) (judge_instrs h n body)
      (faults_of_condition h context.Body Plain n until) (faults_of_instrs h n body) (condition_fits h context.Body Plain n until)
      (instrs_fits h n body))
  instr_fits h n (Check p ks) =
      each_fits (judge_clause h context.Check n) (faults_of_clause h context.Check n) ks
      (λ k. condition_fits h context.Check Plain n k.condition)
  instr_fits h n (Block p heads body) = block_fits h n n heads body (λ m. instrs_fits h m body)

  pub instrs_fits : (h : RoutineContext) (n : Entities) (is : Instrs) → Fits (judge_instrs h n is) (faults_of_instrs h n is)
  instrs_fits h n no_instrs = refl
  instrs_fits h n (instr_then i is) =
      both_fit (judge_instr h n i) (judge_instrs h n is) (faults_of_instr h n i) (faults_of_instrs h n is) (instr_fits h n i)
      (instrs_fits h n is)

  pub branches_fits : (h : RoutineContext) (n : Entities) (bs : Branches) → Fits (judge_branches h n bs) (faults_of_branches h n bs)
  branches_fits h n no_branches = refl
  branches_fits h n (branch_then e body bs) =
      branch_fits h (judge_condition h context.Body Condition n e) (faults_of_condition h context.Body Condition n e)
      (judge_given h context.Body n e) body (judge_branches h n bs) (faults_of_branches h n bs)
      (condition_fits h context.Body Condition n e) (given_refused h n e) (λ m. instrs_fits h m body) (branches_fits h n bs)

-- ---- features

pub either_refused : (b : Bool) (f g : Fault) → Refused {A = Unit {0}} (if b then Err f else Err g)
either_refused true f g = tt
either_refused false f g = tt

pub form_refused : (b : Bool) (p : Span) (j : Judged (Unit {0})) → Refused j → Refused (judge_form b p j)
form_refused b p (Ok u) r = absurd r
form_refused b p (Err f) r = either_refused (not b && (is_same_span f.span p && is_late f.rule))
    (fault InvariantForm p) f

type_fits : (s : System) (formals : List Declaration) (d : DeclaredType) → Fits (judge_type s formals d) (faults_of_type s formals d)
type_fits s formals d = site_fits (judge_type s formals d) (faults_at (judge_tag formals d) []) (λ u q. no_tag_fault s formals d u q)

result_fits : (s : System) (o : Option DeclaredType) → Fits (judge_result_type s o) (faults_of_type_if_any s [] o)
result_fits s None = refl
result_fits s (Present d) = type_fits s [] d

types_fit : (s : System) (formals ds : List Declaration) →
    Fits (judge_each (λ (d : Declaration). judge_type s formals d.declared_type) ds) (faults_of_types s formals ds)
types_fit s formals ds =
    each_fits (λ (d : Declaration). judge_type s formals d.declared_type) (λ (d : Declaration). faults_of_type s formals d.declared_type) ds
    (λ (d : Declaration). type_fits s formals d.declared_type)

clauses_fit : (h : RoutineContext) (c : Context) (n : Entities) (is : List Clause) →
    Fits (judge_each (judge_clause h c n) is) (faults_of_each (faults_of_clause h c n) is)
clauses_fit h c n is =
    each_fits (judge_clause h c n) (faults_of_clause h c n) is (λ i. condition_fits h c Plain n i.condition)

module _ (s : System) (pure : RoutineName → Bool) (k : ℕ) where
  kind_fits : (f : FeatureKind) → Fits (judge_feature s pure k f) (faults_of_kind s pure k f)
  kind_fits (Attribute d) = type_fits s [] d
  kind_fits (Routine routine) =
      let h : RoutineContext = context_of s pure k routine in
      let n : Entities = formals_known s routine.formals in
      both_fit _ _ _ _ (types_fit s routine.formals routine.formals)
      (both_fit _ _ _ _ (result_fits s routine.result_type)
      (both_fit _ _ _ _ (clauses_fit h context.Require n routine.precondition)
      (both_fit _ _ _ _ (types_fit s routine.formals routine.locals)
      (both_fit _ _ _ _ (instrs_fits h (known_in_body s routine) routine.body)
      (clauses_fit h context.Ensure n routine.postcondition)))))

  creator_fits : (x : Name) → Fits (judge_creator s k x) (faults_of_creator s k x)
  creator_fits x = site_fits (judge_creator s k x) [] (λ u q. refl)

  -- a clause whose expression is refused has no form that passes
  formed : (b : Bool) (p : Span) (j : Judged Typing) (g : Typing → Judged (Unit {0})) (fs : List Fault) (u : Unit {0}) → Fits j fs →
      judge_form b p (j >>= g) ≡ Ok u → fs ≡ []
  formed b p (Ok t) g fs u e q = e
  formed b p (Err f) g fs u e q = absurd (subst (λ (j : Judged (Unit {0})). Refused j) q (form_refused b p (Err f) tt))

  -- and nothing is listed of the form of a clause that passes
  form_fits : (j : Judged (Unit {0})) (fs : List Fault) (b : Bool) (p : Span) → Fits j fs → Fits j (fs ++ faults_of_form j b p)
  form_fits (Ok u) fs b p e = subst (λ fs. fs ++ [] ≡ []) (sym e) refl
  form_fits (Err f) fs b p e = begins_more f fs (faults_of_form (Err f) b p) e

  invariant_fits : (i : Clause) → Fits (judge_invariant s pure k i) (faults_of_invariant s pure k i)
  invariant_fits i =
      let h : RoutineContext = invariant_context s pure k in
      let operands : List Fault = faults_of h context.Invariant Plain [] i.condition in
      form_fits (judge_invariant s pure k i) (faults_at (judge_invariant s pure k i) operands) (may_be_formula s k i.condition)
      (clause_span i.tag i.condition)
      (site_fits (judge_invariant s pure k i) operands
      (λ u q. formed (may_be_formula s k i.condition) (clause_span i.tag i.condition) (judge h context.Invariant Plain [] i.condition) _
      operands u (expression_fits h context.Invariant Plain [] i.condition) q))

  class_fits : (c : Class) → Fits (judge_class s pure k c) (faults_of_class s pure k c)
  class_fits c =
      both_fit _ _ _ _ (each_fits (judge_creator s k) (faults_of_creator s k) c.creators creator_fits)
      (both_fit _ _ _ _
      (each_fits (λ (f : Feature). judge_feature s pure k f.kind) (λ (f : Feature). faults_of_kind s pure k f.kind) c.features
      (λ (f : Feature). kind_fits f.kind))
      (each_fits (judge_invariant s pure k) (faults_of_invariant s pure k) c.invariant invariant_fits))

classes_fit : (s : System) (pure : RoutineName → Bool) (k : ℕ) (cs : List Class) →
    Fits (judge_classes s pure k cs) (faults_of_classes s pure k cs)
classes_fit s pure k [] = refl
classes_fit s pure k (c ∷ cs) =
    both_fit (judge_class s pure k c) (judge_classes s pure (k + 1) cs) (faults_of_class s pure k c) (faults_of_classes s pure (k + 1) cs)
    (class_fits s pure k c) (classes_fit s pure (k + 1) cs)

pub first_listed : (s : System) (pure : RoutineName → Bool) (faults : List Fault) (f : Fault) → faults ≡ faults_of_system s pure →
    judge_system s pure ≡ Err f → begins_with f faults ≡ true
first_listed s pure faults f e q =
    subst (λ faults. begins_with f faults ≡ true) (sym e)
    (subst (λ (j : Judged (Unit {0})). Fits j (faults_of_system s pure)) q (classes_fit s pure 0 s.classes))
