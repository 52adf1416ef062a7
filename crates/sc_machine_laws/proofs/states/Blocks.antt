-- Separate blocks: their names are bound to the values of the heads.
use Rattle.std.specs.List.{list_all}
use Rattle.std.specs.Option.{option_and_then}
use Rattle.std.specs.Prelude.{if◌then◌else◌, length, slice_get}
use Rattle.std.proofs.Common.{◌+◌, ◌++◌, Bool, List, Some, [], ap, arith, false, inl, refl, subst, suc, sym, true, ℕ, ◌∙◌, ◌∷◌, ◌≡◌}
use Rattle.sc_tree.specs.Plain.{Instrs, Name, System}
use Rattle.sc_rules.specs.declared.entity_types.entity_type.EntityType.{EntityType}
use Rattle.sc_rules.specs.declared.entity_types.tag.Reserved.TheVariants.{BlockName}
use Rattle.sc_rules.specs.declared.entity_types.tag.Tag.TheVariants as tag
use Rattle.sc_rules.specs.Names.{Entities, RoutineName, block_type, blocks, entity, is_block}
use Rattle.sc_rules.specs.Sites.{instructions}
use Rattle.sc_rules.specs.SystemLaws.{Stands}
use Rattle.sc_rules.specs.declared.position.Role.TheVariants as role
use Rattle.sc_model.specs.Environments.{Binding, bind, block_bound, block_values, handler_named, scope_of}
use Rattle.sc_model.specs.Fits.{Fits, OperandFits}
use Rattle.sc_model.specs.Instructions.{opens}
use Rattle.sc_model.specs.Moves.{performs}
use Rattle.sc_model.specs.Routines.{Routine}
use Rattle.sc_model.specs.Steps.{Point, popped}
use Rattle.sc_model.specs.Tasks.{Do, Leave, Open}
use Rattle.sc_model.specs.Values.{Attached, Boolean, Integer, Operand, Reference, Value, Void, handler_of}
use Rattle.sc_machine_laws.specs.states.Points.{Each, EnvironmentFits, OldsFit, types_of}
use Rattle.sc_machine_laws.specs.states.ValueSteps.{StandsSo, StepFits}
use Rattle.sc_machine_laws.specs.states.Typed as typed
use Rattle.sc_machine_laws.specs.states.Typed.{Extends, IsTyped, Opens, ScopeStands, at, context_in, stacked}
use Rattle.sc_machine_laws.proofs.states.Environments.{blocks_append, environment_more, extends_by, extends_further, extends_itself, olds_more, operands_more}
use Rattle.sc_machine_laws.proofs.states.Lists.{both, last_is}
use Rattle.sc_machine_laws.proofs.states.Scopes.{scope_opens}
use Rattle.sc_machine_laws.proofs.states.Stacks.{Popped, no_operands, popped_by}
use Rattle.sc_machine_laws.proofs.states.RoutinePoints.{AllFit, BaseOf, TasksTyped, goes}
use Rattle.sc_machine_laws.proofs.states.Tests.{scope_append}

-- as many names of blocks are known as have values
blocks_known : (bs : List Binding) → blocks (scope_of bs) ≡ length (block_values bs)
blocks_known [] = refl
blocks_known (b ∷ bs) = by (is_block b.role) (blocks_known bs)
  where
    by : (c : Bool) → blocks (scope_of bs) ≡ length (block_values bs) →
        (if c then blocks (scope_of bs) + 1 else blocks (scope_of bs)) ≡ length (if c then b.value ∷ block_values bs else block_values bs)
    by true e = ap (λ n. n + 1) e ∙ omega arith
    by false e = e

-- the last block's name has its value's handler
block_named : (bs : List Binding) (x : List ℕ) (t : EntityType) (v : Value) → handler_named (bs ++ bind x t role.Block v ∷ []) (BlockName (blocks (scope_of bs))) ≡ handler_of v
block_named bs x t v =
    ap (λ vs. option_and_then handler_of (slice_get vs (blocks (scope_of bs)))) (blocks_append bs (bind x t role.Block v ∷ []))
    ∙ ap (λ j. option_and_then handler_of (slice_get (block_values bs ++ v ∷ []) j)) (blocks_known bs)
    ∙ ap (option_and_then handler_of) (last_is (block_values bs) v)

-- the type of a block's name
abbrev block_typed : ℕ → EntityType → EntityType
block_typed j t = record { attached = true; tag = tag.With (BlockName j); class = t.class }

head_fits : (s : System) (me : ℕ) (bs : List Binding) (x : List ℕ) (v : Value) (a : EntityType) → a.attached ≡ true → Fits s me (handler_named bs) v a →
    Fits s me (handler_named (bs ++ bind x (block_typed (blocks (scope_of bs)) a) role.Block v ∷ [])) v (block_typed (blocks (scope_of bs)) a)
head_fits s me bs x (Integer z) a e f = f
head_fits s me bs x (Boolean b) a e f = f
head_fits s me bs x Void a e f = let q : true ≡ false = sym e ∙ f.0 in cc
head_fits s me bs x (Attached r) a e f = (f.0, block_named bs x (block_typed (blocks (scope_of bs)) a) (Attached r))

-- what a block's body knows is what is known before it, and more
pub opens_more : {m o : Entities} {xs : List Name} {as' : List EntityType} → Opens m xs as' o → Extends m o
opens_more {m} typed.no_more = extends_itself m
opens_more {m} {o} (typed.one_more {x} {t = a} d) =
    extends_further m (m ++ entity x.text (block_type (blocks m) (Some a)) role.Block ∷ []) o (extends_by m (entity x.text (block_type (blocks m) (Some a)) role.Block) refl) (opens_more d)

pub opens_many : {m o : Entities} {xs : List Name} {as' : List EntityType} → Opens m xs as' o → length xs ≡ length as'
opens_many typed.no_more = refl
opens_many (typed.one_more d) = ap suc (opens_many d)

pub scope_length : (bs : List Binding) → length bs ≡ length (scope_of bs)
scope_length [] = refl
scope_length (b ∷ bs) = ap suc (scope_length bs)

-- The names are bound to values that fit, and are known as the rules say.
pub record BlockBound (s : System) (me : ℕ) (xs : List Name) (us : List Operand) (bs : List Binding) (olds : List Operand) (o : Entities) : Type 0 where
  pub known : scope_of (block_bound xs us bs) ≡ o
  pub fit : EnvironmentFits s me (block_bound xs us bs)
  pub olds_fit : OldsFit s me (block_bound xs us bs) olds

pub block_fits : (s : System) (me : ℕ) (olds : List Operand) {m o : Entities} {xs : List Name} {as' : List EntityType} → Opens m xs as' o → list_all (λ (t : EntityType). t.attached) as' ≡ true →
    (us : List Operand) (bs : List Binding) → scope_of bs ≡ m → types_of us ≡ as' → EnvironmentFits s me bs → OldsFit s me bs olds → Each (OperandFits s me bs) us → BlockBound s me xs us bs olds o
block_fits s me olds typed.no_more w [] bs e f env kept fits = record { known = e; fit = env; olds_fit = kept }
block_fits s me olds typed.no_more w (u ∷ us) bs e f env kept fits = cc
block_fits s me olds (typed.one_more d) w [] bs e f env kept fits = cc
block_fits s me olds {m} {o} (typed.one_more {x} {xs} {t = a} {ts = as'} d) w (u ∷ us) bs e f env kept fits =
    of_rest (block_fits s me olds d attached_are.1 us (bs ++ b ∷ []) known_is rest_is
    (environment_more s me bs b env (λ e. cc) (inl (head_fits s me bs x.text u.value u.type (ap (λ (t : EntityType). t.attached) first_is ∙ attached_are.0) fits.0)))
    (olds_more s me bs b olds kept) (operands_more s me bs (b ∷ []) us fits.1))
  where
    b : Binding
    b = bind x.text (block_typed (blocks (scope_of bs)) u.type) role.Block u.value

    attached_are : (a.attached ≡ true) × (list_all (λ (t : EntityType). t.attached) as' ≡ true)
    attached_are = both a.attached (list_all (λ (t : EntityType). t.attached) as') w

    of_rest : BlockBound s me xs us (bs ++ b ∷ []) olds o → BlockBound s me (x ∷ xs) (u ∷ us) bs olds o
    of_rest z = record { known = z.known; fit = z.fit; olds_fit = z.olds_fit }

    first_is : u.type ≡ a
    first_is = cc

    rest_is : types_of us ≡ as'
    rest_is = cc

    known_is : scope_of (bs ++ b ∷ []) ≡ m ++ entity x.text (block_type (blocks m) (Some a)) role.Block ∷ []
    known_is = scope_append bs b ∙ ap (λ m. m ++ entity x.text (block_type (blocks m) (Some u.type)) role.Block ∷ []) e
        ∙ ap (λ a. m ++ entity x.text (block_type (blocks m) (Some a)) role.Block ∷ []) first_is

module _ (s : System) (pure : RoutineName → Bool) (r : Routine) (me : Reference) (p : Point) (b : BaseOf s r me p) where
  -- A separate block opens: its names are known and bound to what fits them.
  pub open_step : (xs : List Name) (is : Instrs) (as' : List EntityType) (m : Entities) → p.text ≡ r.text → Opens (scope_of p.environment) xs as' m →
      list_all (λ (t : EntityType). t.attached) as' ≡ true → Stands s pure (context_in s pure p.text) (instructions m is) → types_of p.values ≡ stacked as' [] →
      TasksTyped s pure r p p.tasks [] → AllFit s me p p.values → StepFits s pure r me (performs s me (Open xs is) p.values p)
  open_step xs is as' m own d w st v k fs = of_popped (popped_by (OperandFits s me.handler p.environment) as' [] (length xs) p.values (opens_many d) v)
    where
      of_bound : (us : List Operand) → BlockBound s me.handler xs us p.environment p.olds m →
          StandsSo s pure r me [] (record p { environment = block_bound xs us p.environment; tasks = Do is ∷ Leave (length p.environment) ∷ p.tasks; values = [] })
      of_bound us z = goes s pure r me (record p { environment = block_bound xs us p.environment })
          (record { text_is = b.text_is; scope_stands = subst (ScopeStands r.text.formals) (sym z.known) (scope_opens r.text.formals d b.scope_stands); names_fit = z.fit; result_fits = b.result_fits; olds_fit = z.olds_fit; store = b.store }) [] (Do is ∷ Leave (length p.environment) ∷ p.tasks) []
          (subst (λ n. IsTyped s pure r (Do is ∷ Leave (length p.environment) ∷ p.tasks) (at p.text n (types_of p.olds) [])) (sym z.known)
          (typed.body own st (typed.leave_block own (scope_length p.environment) (opens_more d) k))) tt

      of_popped : Popped (OperandFits s me.handler p.environment) as' [] (length xs) p.values → StepFits s pure r me (opens xs is (popped (length xs) [] p.values) p)
      of_popped z =
          subst (λ o. StepFits s pure r me (opens xs is o p)) (sym z.popped_is)
          (subst (λ vs. StepFits s pure r me (opens xs is (Some (z.actuals, vs)) p)) (sym (no_operands z.below z.below_types))
          (of_bound z.actuals (block_fits s me.handler p.olds d w z.actuals p.environment refl z.actual_types b.names_fit b.olds_fit (z.each fs).0)))
