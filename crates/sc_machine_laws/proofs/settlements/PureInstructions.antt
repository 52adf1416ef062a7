-- In a function that contracts may call, each instruction, clause, assignment and test goes on as the rules say.
use Rattle.std.proofs.Common.{ℕ, ◌≡◌, ◌⊎◌, Bool, true, false, List, [], ◌∷◌, ◌++◌, Option, Some, None, refl, sym, ap, subst, ◌∙◌, inl, inr}
use Rattle.std.specs.Prelude.{is_some, length, Contains}
use Rattle.sc_text.specs.declared.token.Span.{Span}
use Rattle.sc_tree.specs.Plain as tree
use Rattle.sc_tree.specs.Plain.{System, Branches, Clause, DeclaredType, Expr, Exprs, Instr, Instrs, Name, Target, Variable, no_branches, branch_then}
use Rattle.sc_rules.specs.declared.entity_types.entity_type.EntityType.{EntityType}
use Rattle.sc_rules.specs.entity_types.Conformance.{boolean}
use Rattle.sc_rules.specs.declared.position.Context.{Context}
use Rattle.sc_rules.specs.declared.position.Context.TheVariants as context
use Rattle.sc_rules.specs.declared.position.Position.{Position}
use Rattle.sc_rules.specs.declared.position.Position.TheVariants.{Plain, Source, Condition}
use Rattle.sc_rules.specs.declared.position.Role.TheVariants as role
use Rattle.sc_rules.specs.declared.position.Use.TheVariants.{Instruction}
use Rattle.sc_rules.specs.Laws.{are_typed}
use Rattle.sc_rules.specs.Names.{RoutineName, Assignee, Entities, Signature, entity, meaning_of, named, test_type, to_attribute, to_local, unassignable, unknown_assignee}
use Rattle.sc_rules.specs.Purity as purity
use Rattle.sc_rules.specs.Sites as site
use Rattle.sc_rules.specs.Sites.{Part, Site, branches, expression, instruction, instructions}
use Rattle.sc_rules.specs.SystemLaws as laws
use Rattle.sc_rules.specs.SystemLaws.{MayBeCalled}
use Rattle.sc_rules.specs.Typing as typing
use Rattle.sc_rules.specs.Typing.{Gives, HasReceiver, HasType, Typing, typing, types}
use Rattle.sc_rules.proofs.CallLaws.{calls_stand_lem}
use Rattle.sc_rules.proofs.EachTyped.{each_is_typed_lem}
use Rattle.sc_rules.proofs.WellFormed.{further}
use Rattle.sc_model.specs.declared.cause.Cause.{Cause}
use Rattle.sc_model.specs.Values.{Reference, Value, Integer, Boolean, Void, Attached, Operand, operand}
use Rattle.sc_model.specs.Environments.{bind, handler_named}
use Rattle.sc_model.specs.ObjectTests.{binds, binds_if, is_tested}
use Rattle.sc_model.specs.Routines.{Routine, Text, place_in}
use Rattle.sc_model.specs.Tasks.{Task, AssignTo, Choose, Do, EndLoop, Eval, Repeat, Require, Required, checks}
use Rattle.sc_model.specs.Steps.{Point, Step, comes}
use Rattle.sc_model.specs.Instructions.{assigns, begins, chooses_other, ends_loop, required, tests}
use Rattle.sc_model.specs.Moves.{performs}
use Rattle.sc_machine_laws.specs.states.Typed.{Extends, context_in}
use Rattle.sc_machine_laws.proofs.states.Assigned.{scope_assigned}
use Rattle.sc_machine_laws.proofs.states.Blocks.{scope_length}
use Rattle.sc_machine_laws.proofs.states.Choices.{given_there, part_stands}
use Rattle.sc_machine_laws.proofs.states.Environments.{extends_itself}
use Rattle.sc_machine_laws.proofs.states.Free.{gives_extend}
use Rattle.sc_machine_laws.proofs.states.Tests.{scope_append}
use Rattle.sc_machine_laws.proofs.states.MachineFrames.{contains_first, contains_later}
use Rattle.sc_machine_laws.specs.settlements.Calm.{InBody, IsCalm, in_body, at, after, InPure, PureStep}
use Rattle.sc_machine_laws.specs.settlements.Calm as calm
use Rattle.sc_machine_laws.proofs.settlements.PureRuns.{IsAt, PureRun, comes_fine, stands_at}

no : {A : Type 0} → false ≡ true → A
no e = cc

module _ (s : System) (pure : RoutineName → Bool) (r : Routine) (me : Reference) (z : PureRun s pure r me) where
  abbrev Fine : Step → Type 0
  Fine st = PureStep s pure r st

  module _ (t : Text) (own : (t ≡ r.text) ⊎ (t ≡ r.contract)) (n : Entities) (typed_n : are_typed n ≡ true) where
    abbrev Left : List Task → List EntityType → Type 0
    Left k vs = InPure s pure r k (at t n vs)

    -- ---- instructions

    module _ (in_own : t ≡ r.text) where
      typed_source : {a : Site} → InBody s pure r t a → (c : Context) (q : Position) (e : Expr) → Part (context_in s pure t) a (expression c q n e) →
          (u : EntityType) × (w : Bool) × HasType (context_in s pure t) c q n e (typing (Some u) w)
      typed_source w c q e part = each_is_typed_lem s pure z.run.well_formed z.run.purity (context_in s pure t) c q n e (part_stands (z.stands t in_own _ w) part)

      pub part_body : {a b : Site} → InBody s pure r t a → Part (context_in s pure t) a b → InBody s pure r t b
      part_body w part = further w (site.inside part site.itself)

      body_calm : {a : Site} {c : Context} {q : Position} {m : Entities} {e : Expr} → InBody s pure r t a → Part (context_in s pure t) a (expression c q m e) → IsCalm s pure r t c q m e
      body_calm w part = in_body in_own (part_body w part)

      checks_left : (ks : List Clause) → ((k : Clause) → Contains ks k → IsCalm s pure r t context.Check Plain n k.condition ×
          ((u : EntityType) × (w : Bool) × HasType (context_in s pure t) context.Check Plain n k.condition (typing (Some u) w))) → (rest : List Task) → Left rest [] → Left (checks ks ++ rest) []
      checks_left [] f rest d = d
      checks_left (k ∷ ks) f rest d =
          let c = f k (contains_first k ks) in
          calm.eval context.Check Plain refl c.0 c.1.2 (calm.checked (checks_left ks (λ q i. f q (contains_later k ks q i)) rest d))

      no_procedure : (q : Span) (a : Target) (x : Name) (es : Exprs) → InBody s pure r t (instruction n (tree.CallRoutine q a x es)) → ⊥
      no_procedure q a x es w = by (calls_stand_lem s pure z.run.well_formed z.run.purity (context_in s pure t) (instruction n (tree.CallRoutine q a x es)) Instruction context.Body n a x es
          (z.stands t in_own _ w) laws.as_instruction)
        where
          none_given : (g : Option (Option EntityType)) → is_some g ≡ false → g ≡ None
          none_given None e = refl
          none_given (Some o) e = no (sym e)

          by : (y : Typing) × (g : Signature) × HasReceiver (context_in s pure t) context.Body n a y ×
              (meaning_of (context_in s pure t) n a y.type x ≡ named g) × MayBeCalled (context_in s pure t) context.Body Instruction a es g → ⊥
          by (y, g, d, m, may) = z.quiet t in_own _ w (purity.calls_procedure (purity.calls purity.as_instruction d m) (none_given g.gives may.used_as_it_is))

      pub begins_fine : (i : Instr) (p : Point) → IsAt s pure r me z t own n typed_n [] p → InBody s pure r t (instruction n i) → Left p.tasks [] → Fine (begins i p)
      begins_fine (tree.Assign q x e) p b w k =
          let d = typed_source w context.Body Source e site.source_part in
          comes_fine s pure r me z t own n typed_n (Eval 0 e ∷ AssignTo x ∷ []) [] p b (calm.eval context.Body Source refl (body_calm w site.source_part) d.2 (calm.assign k))
      begins_fine (tree.PrintText q text) p b w k = absurd (z.quiet t in_own _ w purity.prints)
      begins_fine (tree.CallRoutine q a x es) p b w k = absurd (no_procedure q a x es w)
      begins_fine (tree.Create q c) p b w k = absurd (z.quiet t in_own _ w purity.creates)
      begins_fine (tree.If q e body bs other) p b w k = of_names (given_there s pure r me z.run t context.Body n e (z.stands t in_own _ w) site.condition_part)
        where
          of_names : (m : Entities) × Gives (context_in s pure t) context.Body n e m → Fine (comes (Eval 0 e ∷ Choose (length p.environment) body bs other ∷ []) p)
          of_names (m, g) =
              let d = typed_source w context.Body Condition e site.condition_part in
              comes_fine s pure r me z t own n typed_n (Eval 0 e ∷ Choose (length p.environment) body bs other ∷ []) [] p b
              (calm.condition context.Body (body_calm w site.condition_part) d.2 g
              (calm.choose in_own (scope_length p.environment ∙ ap length b.names_are) (gives_extend g) (part_body w (site.then_part g)) (part_body w site.elseif_part)
              (part_body w site.else_part) k))
      begins_fine (tree.Loop q initial e body) p b w k =
          comes_fine s pure r me z t own n typed_n (Do initial ∷ Repeat e body ∷ []) [] p b (calm.body in_own (part_body w site.from_part) (calm.repeat in_own w k))
      begins_fine (tree.Check q ks) p b w k = comes_fine s pure r me z t own n typed_n (checks ks) [] p b
          (checks_left ks (λ c i. (body_calm w (site.check_part i), typed_source w context.Check Plain c.condition (site.check_part i))) p.tasks k)
      begins_fine (tree.Block q ds body) p b w k = absurd (z.quiet t in_own _ w purity.opens)

      pub other_fine : (depth : ℕ) (bs : Branches) (other : Instrs) (p : Point) → IsAt s pure r me z t own n typed_n [] p → depth ≡ length n →
          InBody s pure r t (branches n bs) → InBody s pure r t (instructions n other) →
          Left p.tasks [] → Fine (chooses_other depth bs other p)
      other_fine depth no_branches other p b d w v k = comes_fine s pure r me z t own n typed_n (Do other ∷ []) [] p b (calm.body in_own v k)
      other_fine depth (branch_then e body bs) other p b d w v k = of_names (given_there s pure r me z.run t context.Body n e (z.stands t in_own _ w) site.branch_condition_part)
        where
          of_names : (m : Entities) × Gives (context_in s pure t) context.Body n e m → Fine (comes (Eval 0 e ∷ Choose depth body bs other ∷ []) p)
          of_names (m, g) =
              let c = typed_source w context.Body Condition e site.branch_condition_part in
              comes_fine s pure r me z t own n typed_n (Eval 0 e ∷ Choose depth body bs other ∷ []) [] p b
              (calm.condition context.Body (body_calm w site.branch_condition_part) c.2 g
              (calm.choose in_own d (gives_extend g) (part_body w (site.branch_part g)) (part_body w site.later_branches_part) v k))

      pub repeat_fine : (q : Span) (initial : Instrs) (e : Expr) (is : Instrs) (p : Point) → IsAt s pure r me z t own n typed_n [] p →
          InBody s pure r t (instruction n (tree.Loop q initial e is)) → Left p.tasks [] →
          Fine (comes (Eval 0 e ∷ EndLoop e is ∷ []) p)
      repeat_fine q initial e is p b w k =
          let d = typed_source w context.Body Plain e site.until_part in
          comes_fine s pure r me z t own n typed_n (Eval 0 e ∷ EndLoop e is ∷ []) [] p b (calm.eval context.Body Plain refl (body_calm w site.until_part) d.2 (calm.end_loop in_own w k))

      pub end_fine : (q : Span) (initial : Instrs) (e : Expr) (is : Instrs) (v : Value) (p : Point) → IsAt s pure r me z t own n typed_n [] p →
          InBody s pure r t (instruction n (tree.Loop q initial e is)) → Left p.tasks [] →
          Fine (ends_loop v e is p)
      end_fine q initial e is (Boolean true) p b w k = stands_at s pure r me z t own n typed_n [] [] p b k
      end_fine q initial e is (Boolean false) p b w k = inl (record {
        text = t;
        names = n;
        types = [];
        text_is = b.text_is;
        names_are = b.names_are;
        left = calm.body in_own (part_body w site.loop_part) (calm.repeat in_own w k);
        types_are = b.types_are;
      })
      end_fine q initial e is (Integer y) p b w k = tt
      end_fine q initial e is Void p b w k = tt
      end_fine q initial e is (Attached o) p b w k = tt

    -- ---- clauses

    pub tests_fine : (why : Cause) (v : Value) (p : Point) → IsAt s pure r me z t own n typed_n [] p → Left p.tasks [] → Fine (tests why v p)
    tests_fine why (Boolean true) p b k = stands_at s pure r me z t own n typed_n [] [] p b k
    tests_fine why (Boolean false) p b k = tt
    tests_fine why (Integer y) p b k = tt
    tests_fine why Void p b k = tt
    tests_fine why (Attached o) p b k = tt

    pub required_fine : (q : Clause) (v : Value) (p : Point) → IsAt s pure r me z t own n typed_n [] p → Left p.tasks [] → Fine (required q v p)
    required_fine q (Boolean true) p b k = stands_at s pure r me z t own n typed_n [] [] p b k
    required_fine q (Boolean false) p b k = tt
    required_fine q (Integer y) p b k = tt
    required_fine q Void p b k = tt
    required_fine q (Attached o) p b k = tt

    pub require_fine : (ks : List Clause) (p : Point) → IsAt s pure r me z t own n typed_n [] p →
        ((q : Clause) → Contains ks q → IsCalm s pure r t context.Require Plain n q.condition ×
        ((a : EntityType) × (w : Bool) × HasType (context_in s pure t) context.Require Plain n q.condition (typing (Some a) w))) → Left p.tasks [] → Fine (performs s me (Require ks) [] p)
    require_fine [] p b all k = stands_at s pure r me z t own n typed_n [] [] p b k
    require_fine (q ∷ ks) p b all k =
        let c = all q (contains_first q ks) in
        comes_fine s pure r me z t own n typed_n (Eval 0 q.condition ∷ Required q ∷ Require ks ∷ []) [] p b
        (calm.eval context.Require Plain refl c.0 c.1.2 (calm.required (calm.require (λ q' i. all q' (contains_later q ks q' i)) k)))

    -- ---- assignments and tests

    pub assigns_fine : (x : Variable) (o : Assignee) (v : Value) (p : Point) → IsAt s pure r me z t own n typed_n [] p → Left p.tasks [] → Fine (assigns me x o v p)
    assigns_fine (tree.Named x) (to_local u) v p b k = inl (record {
      text = t;
      names = n;
      types = [];
      text_is = b.text_is;
      names_are = scope_assigned x.text v p.environment ∙ b.names_are;
      left = k;
      types_are = b.types_are;
    })
    assigns_fine (tree.Named x) (to_attribute u) v p b k = inl (record {
      text = t;
      names = n;
      types = [];
      text_is = b.text_is;
      names_are = b.names_are;
      left = k;
      types_are = b.types_are;
    })
    assigns_fine (tree.ResultVariable q) (to_local (Some u)) v p b k = inl (record {
      text = t;
      names = n;
      types = [];
      text_is = b.text_is;
      names_are = b.names_are;
      left = k;
      types_are = b.types_are;
    })
    assigns_fine (tree.Named x) unknown_assignee v p b k = tt
    assigns_fine (tree.Named x) unassignable v p b k = tt
    assigns_fine (tree.ResultVariable q) unknown_assignee v p b k = tt
    assigns_fine (tree.ResultVariable q) unassignable v p b k = tt
    assigns_fine (tree.ResultVariable q) (to_local None) v p b k = tt
    assigns_fine (tree.ResultVariable q) (to_attribute u) v p b k = tt

    pub binds_fine : (d : Option DeclaredType) (x : List ℕ) (u : Operand) (a b' : EntityType) (vs : List EntityType) (p : Point) → IsAt s pure r me z t own n typed_n vs p →
        u.type ≡ a →
        test_type (place_in s t) d (Some a) ≡ Some b' → InPure s pure r p.tasks (after t n (n ++ entity x (Some b') role.Test ∷ []) vs) →
        Fine (binds s me.handler d x u.value (test_type (place_in s p.text) d (Some u.type)) p)
    binds_fine d x u a b' vs p b same is k =
        subst (λ o. Fine (binds s me.handler d x u.value o p)) (sym (ap (λ (w : Text). test_type (place_in s w) d (Some u.type)) b.text_is ∙ ap (λ (w : EntityType). test_type (place_in s t) d (Some w)) same ∙ is))
        (by (is_tested s me.handler (handler_named p.environment) u.value d b'))
      where
        by : (c : Bool) → Fine (binds_if c x u.value b' p)
        by true = inr (
          refl,
          record {
            text = t;
            low = n;
            high = n ++ entity x (Some b') role.Test ∷ [];
            types = vs;
            value = operand (Boolean true) boolean;
            others = p.values;
            text_is = b.text_is;
            values_are = refl;
            came = record {
              held = λ e. scope_append p.environment (bind x b' role.Test u.value) ∙ ap (λ (ns : Entities). ns ++ entity x (Some b') role.Test ∷ []) b.names_are;
              denied = λ f. absurd (f refl);
            };
            left = k;
            types_are = b.types_are;
          },
        )
        by false = inr (
          refl,
          record {
            text = t;
            low = n;
            high = n ++ entity x (Some b') role.Test ∷ [];
            types = vs;
            value = operand (Boolean false) boolean;
            others = p.values;
            text_is = b.text_is;
            values_are = refl;
            came = record { held = λ e. cc; denied = λ f. subst (Extends n) (sym b.names_are) (extends_itself n) };
            left = k;
            types_are = b.types_are;
          },
        )
