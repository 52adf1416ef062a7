-- The faults that are listed of instructions: each is one of them.
use Rattle.std.proofs.Common.{◌≡◌, Bool, true, false, List, [], ◌∷◌, ◌++◌, Option, Some as Present, None, Ok, Err, refl, sym, subst}
use Rattle.std.specs.Prelude.{All, Contains, not}
use Rattle.std.proofs.lemmas.List.Elements.{All-nil}
use Rattle.sc_text.specs.declared.token.Span.{Span}
use Rattle.sc_tree.specs.Plain.{Clause, Head, Variable, CreationCall, Expr, Target, no_target, target, Exprs, Instr, Assign, PrintText, CallRoutine, Create, If, Name, Conditional, if_instr, Loop, Iteration, loop_instr, Check, Block, SeparateBlock, block_instr, Instrs, no_instrs, instr_then, Branches, no_branches, branch_then}
use Rattle.sc_rules.specs.declared.entity_types.entity_type.EntityType.{EntityType}
use Rattle.sc_rules.specs.entity_types.Conformance.{conforms}
use Rattle.sc_rules.specs.declared.rule.Rule.{Rule}
use Rattle.sc_rules.specs.declared.rule.Rule.TheVariants.{ArgumentType, NotCreation, CreationTag}
use Rattle.sc_rules.specs.declared.fault.Fault.{Fault}
use Rattle.sc_rules.specs.declared.position.Context.TheVariants as context
use Rattle.sc_rules.specs.declared.position.Context.{Context}
use Rattle.sc_rules.specs.declared.position.Position.{Position}
use Rattle.sc_rules.specs.declared.position.Position.TheVariants.{Plain, Condition, Source}
use Rattle.sc_rules.specs.declared.position.Role.TheVariants as role
use Rattle.sc_rules.specs.declared.position.Use.TheVariants.{Instruction}
use Rattle.sc_rules.specs.Positions.{span_of}
use Rattle.sc_rules.specs.Names.{RoutineContext, Entities, Entity, entity, blocks, block_type, Meaning, unknown, target_untyped, named, qualified_meaning, assignee, assignee_type, variable_span}
use Rattle.sc_rules.specs.Typing.{Typing, typing, HasType, Gives}
use Rattle.sc_rules.specs.Sites.{expression, instruction, instructions, branches, Reserves, no_more, one_more, source_part, call_target_part, call_actual_part, creation_actual_part, condition_part, then_part, elseif_part, else_part, from_part, until_part, loop_part, check_part, head_part, block_part, first_part, others_part, branch_condition_part, branch_part, later_branches_part, itself}
use Rattle.sc_rules.specs.CallRules.{count, AtName}
use Rattle.sc_rules.specs.TextRules.{separate_any, is_tagged, is_made_by, creation_argument, at_procedure, not_listed, tagged, InstructionFails, call_instruction, creation, if_condition, until_condition, check_clause, head, at_instruction, at_branch, Fails, fails}
use Rattle.sc_rules.specs.Judging.{Judged, ◌>>=◌, required, formals_of, target_of, judge, judge_given}
use Rattle.sc_rules.specs.JudgingText.{conforms_if_any, is_made_by_if_any, is_untagged, creation_meaning, judge_condition, judge_instr}
use Rattle.sc_rules.specs.JudgingPurity.{receiver_type}
use Rattle.sc_rules.proofs.Refusals.{Tells, passes, tells, tells_more, tells_then, Gave, gave, refuses, tells_gave}
use Rattle.sc_rules.proofs.Sound.{MeantFails, by_actuals, by_name, told_name, told as told_expression, told_given}
use Rattle.sc_rules.proofs.ToldActuals.{up, TargetFails, in_target, at_target, ActualsFail, in_actual, mismatch, passed_reference}
use Rattle.sc_rules.proofs.TextSound.{tells_required, ConditionFails, in_condition, of_condition, tells_condition, tells_instr}
use Rattle.sc_faults.specs.Internal.Listing.{faults_at, faults_of_each, where_known, judge_passed_to, meant, faults_in_actuals, judge_made, faults_in_creation, created_type, faults_in_instr, faults_of, faults_of_condition, faults_of_clause, judge_value, faults_of_head, judge_reserved, faults_of_simple, faults_of_instr, faults_of_instrs, faults_of_branches}
use Rattle.sc_faults.proofs.ReportedFaults.{Holds, all_more, joined, at_all, known_all, each_all}
use Rattle.sc_faults.proofs.CallFaults.{untyped_fails, call_all}
use Rattle.sc_faults.proofs.ExpressionFaults.{expression_all, target_in, actuals_in}

-- ---- each is one of them

at : {h : RoutineContext} {n : Entities} {i : Instr} (r : Rule) (p : Span) → InstructionFails h n i r p →
    Fails h (instruction n i) r p
at r p f = fails itself (at_instruction f)

if_fails : (h : RoutineContext) (n : Entities) (s : Span) (c : Conditional) (r : Rule) (p : Span) →
    ConditionFails h context.Body Condition n c.condition r p → Fails h (instruction n (if_instr s c)) r p
if_fails h n s c r p (in_condition f) = up condition_part r p f
if_fails h n s c r p (of_condition f) = at r p (if_condition f)

until_fails : (h : RoutineContext) (n : Entities) (s : Span) (l : Iteration) (r : Rule) (p : Span) →
    ConditionFails h context.Body Plain n l.until r p → Fails h (instruction n (loop_instr s l)) r p
until_fails h n s l r p (in_condition f) = up until_part r p f
until_fails h n s l r p (of_condition f) = at r p (until_condition f)

check_fails : (h : RoutineContext) (n : Entities) (s : Span) (ks : List Clause) (c : Clause) → Contains ks c →
    (r : Rule) (p : Span) → ConditionFails h context.Check Plain n c.condition r p →
    Fails h (instruction n (Check s ks)) r p
check_fails h n s ks c i r p (in_condition f) = up (check_part i) r p f
check_fails h n s ks c i r p (of_condition f) = at r p (check_clause i f)

branch_fails : (h : RoutineContext) (n : Entities) (e : Expr) (body : Instrs) (bs : Branches) (r : Rule) (p : Span) →
    ConditionFails h context.Body Condition n e r p → Fails h (branches n (branch_then e body bs)) r p
branch_fails h n e body bs r p (in_condition f) = up branch_condition_part r p f
branch_fails h n e body bs r p (of_condition f) = fails itself (at_branch f)

-- a head, where it is one of a block
module _ (h : RoutineContext) (n : Entities) (s : Span) (b : SeparateBlock) (d : Head) (i : Contains b.heads d) where
  abbrev InBlock : Rule → Span → Type 0
  InBlock = Fails h (instruction n (block_instr s b))

  abbrev after_value : Bool → Entity → Judged (Unit {0})
  after_value b e = (required b ArgumentType (span_of d.value) >>= λ u. Ok e) >>= λ e. Ok tt

  head_reports : (b : Bool) (e : Entity) → (b ≡ false → InBlock ArgumentType (span_of d.value)) →
      Tells InBlock (after_value b e)
  head_reports true e f = passes
  head_reports false e f = tells (f refl)

  typed_reports : (o : Option EntityType) (b : Bool) (e : Entity) → HasType h context.Body Plain n d.value (typing o b) →
      Tells InBlock (after_value (conforms_if_any h.system o (Present separate_any)) e)
  typed_reports None b e t = passes
  typed_reports (Present a) b e t =
      head_reports (conforms h.system a separate_any) e (λ c. at ArgumentType (span_of d.value) (head i t c))

  abbrev judged_value : Judged Typing → Judged (Unit {0})
  judged_value j =
      (j >>= λ t. required (conforms_if_any h.system t.type (Present separate_any)) ArgumentType (span_of d.value) >>= λ u.
      Ok (entity d.name.text (block_type 0 t.type) role.Block)) >>= λ e. Ok tt

  judged_reports : (j : Judged Typing) →
      Gave (HasType h context.Body Plain n d.value) (Fails h (expression context.Body Plain n d.value)) j →
      Tells InBlock (judged_value j)
  judged_reports (Ok t) (gave g) =
      typed_reports t.type t.is_separate (entity d.name.text (block_type 0 t.type) role.Block) g
  judged_reports (Err f) (refuses r) = tells (up (head_part i) f.rule f.span r)

  value_reports : Tells InBlock (judge_value h n d)
  value_reports = judged_reports (judge h context.Body Plain n d.value) (told_expression h context.Body Plain n d.value)

  head_all : All (Holds InBlock) (faults_of_head h n d)
  head_all =
      at_all InBlock (judge_value h n d) (faults_of h context.Body Plain n d.value) value_reports
      (expression_all h context.Body Plain n d.value InBlock (λ r q f. up (head_part i) r q f))

-- the heads give these entities, if their values have types
reserves : (h : RoutineContext) (n m : Entities) (ds : List Head) →
    Gave (Reserves h n m ds) (λ r p. Unit {0}) (judge_reserved h n m ds)
reserves h n m [] = gave no_more
reserves h n m (d ∷ ds) =
    by (judge h context.Body Plain n d.value) (told_expression h context.Body Plain n d.value) (λ t. reserves h n (known t) ds)
  where
    known : Typing → Entities
    known t = m ++ entity d.name.text (block_type (blocks m) t.type) role.Block ∷ []

    further : (t : Typing) (j : Judged Entities) → HasType h context.Body Plain n d.value t →
        Gave (Reserves h n (known t) ds) (λ r p. Unit {0}) j → Gave (Reserves h n m (d ∷ ds)) (λ r p. Unit {0}) j
    further t (Ok o) i (gave g) = gave (one_more i g)
    further t (Err f) i (refuses g) = refuses g

    by : (j : Judged Typing) →
        Gave (HasType h context.Body Plain n d.value) (Fails h (expression context.Body Plain n d.value)) j →
        ((t : Typing) → Gave (Reserves h n (known t) ds) (λ r p. Unit {0}) (judge_reserved h n (known t) ds)) →
        Gave (Reserves h n m (d ∷ ds)) (λ r p. Unit {0}) (j >>= λ t. judge_reserved h n (known t) ds)
    by (Ok t) (gave i) f = further t (judge_reserved h n (known t) ds) i (f t)
    by (Err f) (refuses i) g = refuses tt

-- a condition
condition_all : (h : RoutineContext) (c : Context) (k : Position) (n : Entities) (e : Expr) (P : Rule → Span → Type 0) →
    ((r : Rule) (p : Span) → ConditionFails h c k n e r p → P r p) → All (Holds P) (faults_of_condition h c k n e)
condition_all h c k n e P g =
    at_all P (judge_condition h c k n e) (faults_of h c k n e) (tells_more g (tells_condition h c k n e))
    (expression_all h c k n e P (λ r p f. g r p (in_condition f)))

receiver_up : {h : RoutineContext} {n : Entities} {s : Span} (a : Target) {x : Name} {es : Exprs} (r : Rule) (p : Span) →
    TargetFails h context.Body n a r p → Fails h (instruction n (CallRoutine s a x es)) r p
receiver_up no_target r p f = elim (f) [ ]
receiver_up (target a) r p (in_target f) = up call_target_part r p f
receiver_up (target a) {x} {es} r p (at_target f) = at r p (call_instruction (f Instruction x es))

command_all : (h : RoutineContext) (n : Entities) (s : Span) (a : Target) (x : Name) (es : Exprs) →
    All (Holds (Fails h (instruction n (CallRoutine s a x es)))) (faults_in_instr h n (CallRoutine s a x es))
command_all h n s a x es =
    let c : Context = context.Body in
    call_all h c n Instruction a x es (Fails h (instruction n (CallRoutine s a x es))) (λ r q f. receiver_up a r q f)
    (λ r q f. at r q (call_instruction f)) (λ e i r q f. up (call_actual_part i) r q f) (target_in h c n a)
    (actuals_in h c n (receiver_type h c n a) es (target_of h (meant h c n a x)) (formals_of (meant h c n a x)) es)

-- ---- creations

module _ (h : RoutineContext) (n : Entities) (s : Span) (v : Variable) (k : CreationCall) where
  abbrev here_made : Instr
  here_made = Create s (record { variable = v; call = Present k })

  abbrev InMade : Rule → Span → Type 0
  InMade = Fails h (instruction n here_made)

  is_true : (b : Bool) → not b ≡ false → b ≡ true
  is_true true e = refl
  is_true false e = cc

  untagged : (t : Option EntityType) → assignee_type (assignee h n v) ≡ t → Tells InMade (required (is_untagged t) CreationTag (variable_span v))
  untagged None i = passes
  untagged (Present t) i =
      tells_required InMade (not (is_tagged t.tag)) CreationTag (variable_span v)
      (λ e. at CreationTag (variable_span v) (creation i (tagged (is_true (is_tagged t.tag) e))))

  listed : (t : Option EntityType) → assignee_type (assignee h n v) ≡ t →
      Tells InMade (required (is_made_by_if_any h.system t k.name) NotCreation k.name.span)
  listed None i = passes
  listed (Present t) i =
      tells_required InMade (is_made_by h.system t.class k.name) NotCreation k.name.span
      (λ e. at NotCreation k.name.span (creation i (not_listed e)))

  meant_made : (t : EntityType) (m : Meaning) → qualified_meaning h t k.name.text ≡ m → assignee_type (assignee h n v) ≡ Present t →
      (r : Rule) (p : Span) → MeantFails h context.Body n Instruction no_target m k.name.span k.actuals (Present t) r p → InMade r p
  meant_made t m e i r p (by_actuals (in_actual a f)) = up (creation_actual_part refl a) r p f
  meant_made t unknown e i r p (by_actuals (mismatch f)) = elim f [ ]
  meant_made t target_untyped e i r p (by_actuals (mismatch f)) = elim f [ ]
  meant_made t (named g) e i r p (by_actuals (mismatch f)) = at r p (creation i (creation_argument e f))
  meant_made t m e i r p (by_actuals (passed_reference q f a d x)) = cc
  meant_made t m e i r p (by_name (q, f)) =
      subst (λ p. InMade r p) (sym q)
      (at r k.name.span (creation i (at_procedure (subst (λ m. AtName h context.Body no_target Instruction m (count k.actuals) r) (sym e) f))))

  meant_fails : (t : Option EntityType) → assignee_type (assignee h n v) ≡ t → (r : Rule) (p : Span) →
      MeantFails h context.Body n Instruction no_target (creation_meaning h t k.name) k.name.span k.actuals t r p → InMade r p
  meant_fails None i r p f = untyped_fails InMade (λ e a r p g. up (creation_actual_part refl a) r p g) r p f
  meant_fails (Present t) i r p f = meant_made t (qualified_meaning h t k.name.text) refl i r p f

  made_all : (t : Option EntityType) → assignee_type (assignee h n v) ≡ t →
      All (Holds InMade) (faults_in_creation h n (variable_span v) t (Present k))
  made_all t i =
      let c : Context = context.Body in
      let m : Meaning = creation_meaning h t k.name in
      let actuals : List Fault = faults_in_actuals h c n (judge_passed_to h c n t m k.actuals) (formals_of m) k.actuals in
      let named : Judged (Unit {0}) = judge_made h t m k.name (count k.actuals) in
      joined InMade (faults_at (required (is_untagged t) CreationTag (variable_span v)) []) (actuals ++ faults_at named [])
      (at_all InMade (required (is_untagged t) CreationTag (variable_span v)) [] (untagged t i) (All-nil (Holds InMade)))
      (joined InMade actuals (faults_at named [])
      (all_more (ActualsFail h c n t k.actuals (target_of h m) (formals_of m) k.actuals) InMade actuals
      (λ q p f. meant_fails t i q p (by_actuals f)) (actuals_in h c n t k.actuals (target_of h m) (formals_of m) k.actuals))
      (at_all InMade named []
      (tells_then _
      (tells_then _ (tells_more (λ q p f. meant_fails t i q p (by_name f))
      (tells_gave (told_name h c Instruction no_target m (count k.actuals) k.name.span))) (λ u. passes))
      (λ u. listed t i))
      (All-nil (Holds InMade))))

create_all : (h : RoutineContext) (n : Entities) (s : Span) (v : Variable) (o : Option CreationCall) →
    All (Holds (Fails h (instruction n (Create s (record { variable = v; call = o })))))
    (faults_in_creation h n (variable_span v) (created_type h n v) o)
create_all h n s v None = All-nil (Holds (Fails h (instruction n (Create s (record { variable = v; call = None })))))
create_all h n s v (Present k) = made_all h n s v k (created_type h n v) refl

-- an instruction that holds no others
pub simple_in : (h : RoutineContext) (n : Entities) (i : Instr) → All (Holds (Fails h (instruction n i))) (faults_in_instr h n i)
simple_in h n (Assign p v e) =
    expression_all h context.Body Source n e (Fails h (instruction n (Assign p v e))) (λ r q f. up source_part r q f)
simple_in h n (PrintText p x) = All-nil (Holds (Fails h (instruction n (PrintText p x))))
simple_in h n (CallRoutine p a x es) = command_all h n p a x es
simple_in h n (Create p v) = create_all h n p v.variable v.call
simple_in h n (If p e body bs other) = All-nil (Holds (Fails h (instruction n (If p e body bs other))))
simple_in h n (Loop p initial until body) = All-nil (Holds (Fails h (instruction n (Loop p initial until body))))
simple_in h n (Check p ks) = All-nil (Holds (Fails h (instruction n (Check p ks))))
simple_in h n (Block p heads body) = All-nil (Holds (Fails h (instruction n (Block p heads body))))

simple_all : (h : RoutineContext) (n : Entities) (i : Instr) →
    All (Holds (Fails h (instruction n i))) (faults_of_simple h n i)
simple_all h n i =
    at_all (Fails h (instruction n i)) (judge_instr h n i) (faults_in_instr h n i) (tells_instr h n i) (simple_in h n i)

mutual
  unfolding faults_of_instr

  pub instr_all : (h : RoutineContext) (n : Entities) (i : Instr) →
      All (Holds (Fails h (instruction n i))) (faults_of_instr h n i)
  instr_all h n (Assign p v e) = simple_all h n (Assign p v e)
  instr_all h n (PrintText p x) = simple_all h n (PrintText p x)
  instr_all h n (CallRoutine p a x es) = simple_all h n (CallRoutine p a x es)
  instr_all h n (Create p v) = simple_all h n (Create p v)
  instr_all h n (If p e body bs other) =
      let c : Conditional = record { condition = e; body = body; branches = bs; other = other } in
      let P : Rule → Span → Type 0 = Fails h (instruction n (If p e body bs other)) in
      joined P (faults_of_condition h context.Body Condition n e ++ where_known (judge_given h context.Body n e) (λ m. faults_of_instrs h m body))
      (faults_of_branches h n bs ++ faults_of_instrs h n other)
      (joined P (faults_of_condition h context.Body Condition n e) (where_known (judge_given h context.Body n e) (λ m. faults_of_instrs h m body))
      (condition_all h context.Body Condition n e P (if_fails h n p c))
      (known_all P (Gives h context.Body n e) (Fails h (expression context.Body Condition n e)) (judge_given h context.Body n e)
      (λ m. faults_of_instrs h m body) (told_given h context.Body n e)
      (λ m g. all_more (Fails h (instructions m body)) P (faults_of_instrs h m body) (λ r q f. up (then_part {s = p} {choice = c} g) r q f)
      (instrs_all h m body))))
      (joined P (faults_of_branches h n bs) (faults_of_instrs h n other)
      (all_more (Fails h (branches n bs)) P (faults_of_branches h n bs) (λ r q f. up (elseif_part {s = p} {choice = c}) r q f) (branches_all h n bs))
      (all_more (Fails h (instructions n other)) P (faults_of_instrs h n other) (λ r q f. up (else_part {s = p} {choice = c}) r q f)
      (instrs_all h n other)))
  instr_all h n (Loop p initial until body) =
      let l : Iteration = record { initial = initial; until = until; body = body } in
      let P : Rule → Span → Type 0 = Fails h (instruction n (Loop p initial until body)) in
      joined P (faults_of_instrs h n initial) (faults_of_condition h context.Body Plain n until ++ faults_of_instrs h n body)
      (all_more (Fails h (instructions n initial)) P (faults_of_instrs h n initial) (λ r q f. up (from_part {s = p} {loop = l}) r q f)
      (instrs_all h n initial))
      (joined P (faults_of_condition h context.Body Plain n until) (faults_of_instrs h n body)
      (condition_all h context.Body Plain n until P (until_fails h n p l))
      (all_more (Fails h (instructions n body)) P (faults_of_instrs h n body) (λ r q f. up (loop_part {s = p} {loop = l}) r q f)
      (instrs_all h n body)))
  instr_all h n (Check p ks) =
      let P : Rule → Span → Type 0 = Fails h (instruction n (Check p ks)) in
      each_all P (faults_of_clause h context.Check n) ks
      (λ c i. condition_all h context.Check Plain n c.condition P (check_fails h n p ks c i))
  instr_all h n (Block p heads body) =
      let b : SeparateBlock = record { heads = heads; body = body } in
      let P : Rule → Span → Type 0 = Fails h (instruction n (Block p heads body)) in
      joined P (faults_of_each (faults_of_head h n) heads) (where_known (judge_reserved h n n heads) (λ m. faults_of_instrs h m body))
      (each_all P (faults_of_head h n) heads (λ d i. head_all h n p b d i))
      (known_all P (Reserves h n n heads) (λ r p. Unit {0}) (judge_reserved h n n heads) (λ m. faults_of_instrs h m body) (reserves h n n heads)
      (λ m g. all_more (Fails h (instructions m body)) P (faults_of_instrs h m body) (λ r q f. up (block_part {s = p} {block = b} g) r q f)
      (instrs_all h m body)))

  pub instrs_all : (h : RoutineContext) (n : Entities) (is : Instrs) →
      All (Holds (Fails h (instructions n is))) (faults_of_instrs h n is)
  instrs_all h n no_instrs = All-nil (Holds (Fails h (instructions n no_instrs)))
  instrs_all h n (instr_then i is) =
      let P : Rule → Span → Type 0 = Fails h (instructions n (instr_then i is)) in
      joined P (faults_of_instr h n i) (faults_of_instrs h n is)
      (all_more (Fails h (instruction n i)) P (faults_of_instr h n i) (λ r q f. up first_part r q f) (instr_all h n i))
      (all_more (Fails h (instructions n is)) P (faults_of_instrs h n is) (λ r q f. up others_part r q f) (instrs_all h n is))

  pub branches_all : (h : RoutineContext) (n : Entities) (bs : Branches) →
      All (Holds (Fails h (branches n bs))) (faults_of_branches h n bs)
  branches_all h n no_branches = All-nil (Holds (Fails h (branches n no_branches)))
  branches_all h n (branch_then e body bs) =
      let P : Rule → Span → Type 0 = Fails h (branches n (branch_then e body bs)) in
      joined P (faults_of_condition h context.Body Condition n e ++ where_known (judge_given h context.Body n e) (λ m. faults_of_instrs h m body))
      (faults_of_branches h n bs)
      (joined P (faults_of_condition h context.Body Condition n e) (where_known (judge_given h context.Body n e) (λ m. faults_of_instrs h m body))
      (condition_all h context.Body Condition n e P (branch_fails h n e body bs))
      (known_all P (Gives h context.Body n e) (Fails h (expression context.Body Condition n e)) (judge_given h context.Body n e)
      (λ m. faults_of_instrs h m body) (told_given h context.Body n e)
      (λ m g. all_more (Fails h (instructions m body)) P (faults_of_instrs h m body) (λ r q f. up (branch_part g) r q f) (instrs_all h m body))))
      (all_more (Fails h (branches n bs)) P (faults_of_branches h n bs) (λ r q f. up later_branches_part r q f) (branches_all h n bs))
