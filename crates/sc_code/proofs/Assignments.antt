-- Assignments and creations.
use Rattle.std.proofs.Common.{◌≡◌, ◌<◌, ℕ, zero, suc, ◌+◌, List, [], ◌∷◌, ◌++◌, Option, Some, None, true, false, length, refl, sym, ap, ◌∙◌, subst, arith}
use Rattle.std.specs.Prelude.{if◌then◌else◌, nat_lt, slice_get, slice_set}
use Rattle.std.specs.Option.{option_map}
use Rattle.std.proofs.lemmas.Bool.{lt-ltb}
use Rattle.sc_text.specs.declared.token.Span.{Span}
use Rattle.sc_tree.specs.Plain.{Name, Variable, Named, ResultVariable}
use Rattle.sc_class.specs.declared.identity.ClassId.TheVariants as class
use Rattle.sc_rules.specs.declared.entity_types.tag.Tag.TheVariants as tag
use Rattle.sc_rules.specs.declared.entity_types.entity_type.EntityType.{EntityType}
use Rattle.sc_rules.specs.Names.{to_local, to_attribute, assignee, assignee_of_result, attached, qualified_meaning}
use Rattle.sc_model.specs.declared.cause.Cause.TheVariants as cause
use Rattle.sc_model.specs.Values.{Reference, Value, Attached, Operand, operand, values_of}
use Rattle.sc_model.specs.Environments.{assigned_to, scope_of}
use Rattle.sc_model.specs.Objects.{fresh_object, attributes_of, with_attributes}
use Rattle.sc_model.specs.Invariants.{meets_invariant}
use Rattle.sc_model.specs.Limits.{max_objects}
use Rattle.sc_model.specs.Routines.{place_in}
use Rattle.sc_model.specs.Steps as model
use Rattle.sc_model.specs.Steps.{Point, Creation}
use Rattle.sc_model.specs.Creations.{assigned_at, formals_meant, creation_passes, creates_object, creates_here, creates_at, creates_as, creates}
use Rattle.sc_model.specs.Instructions.{assigns}
use Rattle.sc_model.specs.Tasks as task
use Rattle.sc_model.specs.Tasks.{Task}
use Rattle.sc_code.specs.Operations as op
use Rattle.sc_code.specs.Operations.{Operation, CreationSite, StoreSlot, StoreAttribute, StoreResult}
use Rattle.sc_code.specs.Places.{slot_named, with_type}
use Rattle.sc_code.specs.Emitted as emitted
use Rattle.sc_code.specs.Machine as machine
use Rattle.sc_code.specs.Machine.{State, Act, into, stuck, does, fails}
use Rattle.sc_code.specs.Stands as stand
use Rattle.sc_code.specs.Stands.{Run, Known, Is, Room, StandsFor, types_popped, types_of, values_in, state_at, setting_in, assigned_type_of, Leads, Follows}
use Rattle.sc_code.proofs.Hops.{length_values, length_types, stands, on, goes, shows, failed}
use Rattle.sc_code.proofs.Names.{known_slot, assigned_slot}
use Rattle.sc_code.proofs.Codes.{types_both, values_both, types_of_popped, values_of_popped}
use Rattle.sc_code.proofs.Operands.{under}
use Rattle.sc_code.proofs.Calls.{first_of, second_of, passes_is, awaited}

abbrev type_at : Option Operand → Option EntityType
type_at o = option_map (λ (u : Operand). u.type) o

has_slot : (vs : List Value) (i : ℕ) (v : Value) → slice_get vs i ≡ Some v → i < length vs
has_slot [] i v e = absurd (cc)
has_slot (x ∷ vs) zero v e = omega arith
has_slot (x ∷ vs) (suc i) v e = omega (arith, has_slot vs i v e)

-- the point whose current object has the attribute's new value
abbrev stored : Reference → List ℕ → Value → Point → Point
stored me x v p = record p { objects = with_attributes me.number (assigned_to x v (attributes_of me.number p.objects)) p.objects }

one_more : (g : Run) (ts : List EntityType) (t : EntityType) → Room g ts 1 → Room g (with_type (Some t) ts) 0
one_more g ts t room = omega (arith, room)

module _ (g : Run) (me : Reference) (pc : ℕ) (tail : List Value) where
  pub assigns_slot_follows : (p : Point) (u : Operand) (x : Name) (i : ℕ) (w : EntityType) (o : Option EntityType)
      → assignee (place_in g.system p.text) (scope_of p.environment) (Named x) ≡ to_local (Some w) → slot_named x.text (scope_of p.environment) ≡ Some (i, o)
      → Is g pc (StoreSlot i) → StandsFor g (pc + 1) (Known p.text (scope_of p.environment) (types_of p.olds) (types_of p.values)) p.tasks
      → length p.environment + length tail ≡ g.slots → type_at p.result ≡ g.result
      → Follows g me pc tail (under u p) (assigns me (Named x) (assigned_at g.system (Named x) p) u.value p)
  assigns_slot_follows p u x i w o a b is st l r =
      let bs = p.environment in
      let bound = known_slot x.text bs i o b in
      let new = assigned_slot x.text u.value bs i o b in
      let q = record p { environment = assigned_to x.text u.value bs } in
      let slots = values_in bs ++ tail in
      let fits : i < length slots = has_slot slots i bound.binding.value (bound.stands tail) in
      let st' = subst (λ n. StandsFor g (pc + 1) (Known p.text n (types_of p.olds) (types_of p.values)) p.tasks) (sym new.names) st in
      subst (Follows g me pc tail (under u p)) (sym (ap (λ z. assigns me (Named x) z u.value p) a))
      (goes g me pc (pc + 1 + 0) (StoreSlot i) tail tail (under u p) q is
      (ap (λ c. if c then into g.code (pc + 1 + 0) (record (state_at pc tail p) { slots = slice_set slots i u.value }) else stuck (state_at pc tail p)) (lt-ltb i (length slots) fits)
      ∙ ap (λ (s : List Value). into g.code (pc + 1 + 0) (record (state_at pc tail p) { slots = s })) (sym (new.slots tail)))
      (stands g me (pc + 1 + 0) tail q (on g me (pc + 1 + 0) (pc + 1) _ p.tasks (omega arith) st') (omega (arith, new.count, l)) r))

  pub assigns_attribute_follows : (p : Point) (u : Operand) (x : Name) (w : EntityType)
      → assignee (place_in g.system p.text) (scope_of p.environment) (Named x) ≡ to_attribute (Some w)
      → Is g pc (StoreAttribute x.text) → StandsFor g (pc + 1) (Known p.text (scope_of p.environment) (types_of p.olds) (types_of p.values)) p.tasks
      → length p.environment + length tail ≡ g.slots → type_at p.result ≡ g.result
      → Follows g me pc tail (under u p) (assigns me (Named x) (assigned_at g.system (Named x) p) u.value p)
  assigns_attribute_follows p u x w a is st l r =
      subst (Follows g me pc tail (under u p)) (sym (ap (λ z. assigns me (Named x) z u.value p) a))
      (goes g me pc (pc + 1 + 0) (StoreAttribute x.text) tail tail (under u p) (stored me x.text u.value p) is refl
      (stands g me (pc + 1 + 0) tail (stored me x.text u.value p) (on g me (pc + 1 + 0) (pc + 1) _ p.tasks (omega arith) st) l r))

  pub assigns_result_follows : (p : Point) (u : Operand) (q : Span) (w : EntityType) → p.text.result ≡ Some (Some w) → g.result ≡ Some w
      → Is g pc StoreResult → StandsFor g (pc + 1) (Known p.text (scope_of p.environment) (types_of p.olds) (types_of p.values)) p.tasks
      → length p.environment + length tail ≡ g.slots → type_at p.result ≡ g.result
      → Follows g me pc tail (under u p) (assigns me (ResultVariable q) (assigned_at g.system (ResultVariable q) p) u.value p)
  assigns_result_follows p u q w a b is st l r =
      let next = record p { result = Some (operand u.value w) } in
      subst (Follows g me pc tail (under u p)) (sym (ap (λ z. assigns me (ResultVariable q) (assignee_of_result z) u.value p) a))
      (goes g me pc (pc + 1 + 0) StoreResult tail tail (under u p) next is refl
      (stands g me (pc + 1 + 0) tail next (on g me (pc + 1 + 0) (pc + 1) _ p.tasks (omega arith) st) l (sym b)))

  -- ---- creations

  -- the reference is one more operand after the visible operation
  shown_with : (o : Operation) (rf : Reference) (act : Act) (a : model.Act) (p q : Point) (u : EntityType) → Is g pc o
      → machine.hop_at g.system g.code me o (state_at pc tail p) ≡ machine.does_with g.code rf act (state_at pc tail q) → Room g (types_of q.values) 1
      → stand.Seen p.environment q.environment a act
      → (((to : ℕ) × (rest : List Value) × (state_at (pc + 1) tail (under (operand (Attached rf) (attached u)) q) ≡ state_at to rest (under (operand (Attached rf) (attached u)) q))
      × stand.Stands g to rest (under (operand (Attached rf) (attached u)) q)) → Leads g a (under (operand (Attached rf) (attached u)) q) (state_at (pc + 1) tail (under (operand (Attached rf) (attached u)) q)))
      → StandsFor g (pc + 1) (Known q.text (scope_of q.environment) (types_of q.olds) (attached u ∷ types_of q.values)) q.tasks
      → length q.environment + length tail ≡ g.slots → type_at q.result ≡ g.result
      → Follows g me pc tail p (model.Does a (under (operand (Attached rf) (attached u)) q))
  shown_with o rf act a p q u is e room seen leads st l r =
      let next = under (operand (Attached rf) (attached u)) q in
      let below : length (values_of q.values) < g.code.depth = omega (arith, room, length_values q.values, length_types q.values) in
      shows g me pc o act tail p (state_at (pc + 1) tail next) a next is
      (e ∙ ap (λ b. if b then does act (state_at pc tail next) else stuck (state_at pc tail q)) (lt-ltb _ _ below)) seen
      (leads (pc + 1, tail, refl, stands g me (pc + 1) tail next st l r))

  object_follows : (p q : Point) (o : Operation) (rf : Reference) (u : EntityType) (x : Option (List ℕ)) (us : List Operand) → Is g pc o
      → machine.hop_at g.system g.code me o (state_at pc tail p) ≡ machine.creates_object g.system g.code rf x (values_of us) (state_at pc tail q) → Room g (types_of q.values) 1
      → StandsFor g (pc + 1) (Known q.text (scope_of q.environment) (types_of q.olds) (attached u ∷ types_of q.values)) q.tasks
      → length q.environment + length tail ≡ g.slots → type_at q.result ≡ g.result
      → Follows g me pc tail p (creates_object g.system rf u x us q)
  object_follows p q o rf u (Some x) us is e room st l r =
      shown_with o rf (machine.Enters Creation rf x (values_of us) false) (model.Enters Creation rf x us None) p q u is e room refl (λ z. z) st l r
  object_follows p q o rf u None us is e room st l r =
      elim (meets_invariant g.system (fresh_object g.system rf.class)) as (λ b. machine.hop_at g.system g.code me o (state_at pc tail p)
      ≡ (if b then machine.does_with g.code rf machine.Creates (state_at pc tail q) else fails cause.Invariant (state_at pc tail q))
      → Follows g me pc tail p (if b then model.Does model.Creates (under (operand (Attached rf) (attached u)) q) else model.fails cause.Invariant q)) [
        | true ↦ λ i. shown_with o rf machine.Creates model.Creates p q u is i room refl (λ z. z) st l r
        | false ↦ λ i. failed g me pc o cause.Invariant tail p q (state_at pc tail q) is i refl
      ] e

  here_follows : (p q : Point) (m c : ℕ) (u : EntityType) (x : Option (List ℕ)) (us : List Operand)
      → Is g pc (op.Create (record { class = m; procedure = x; count = c; passes = false }))
      → machine.hop_at g.system g.code me (op.Create (record { class = m; procedure = x; count = c; passes = false })) (state_at pc tail p)
      ≡ machine.creates_here g.system g.code me (record { class = m; procedure = x; count = c; passes = false }) (values_of us) (state_at pc tail q)
      → Room g (types_of q.values) 1
      → StandsFor g (pc + 1) (Known q.text (scope_of q.environment) (types_of q.olds) (attached u ∷ types_of q.values)) q.tasks
      → length q.environment + length tail ≡ g.slots → type_at q.result ≡ g.result
      → Follows g me pc tail p (creates_here g.system me m u x us q)
  here_follows p q m c u x us is e room st l r =
      let site : CreationSite = record { class = m; procedure = x; count = c; passes = false } in
      let rf : Reference = record { handler = me.handler; number = length q.objects + 1; class = m } in
      let q' = record q { objects = q.objects ++ fresh_object g.system m ∷ [] } in
      elim (nat_lt (length q.objects) max_objects) as (λ b. machine.hop_at g.system g.code me (op.Create site) (state_at pc tail p)
      ≡ (if b then machine.creates_object g.system g.code rf x (values_of us) (state_at pc tail q') else fails cause.TooManyObjects (state_at pc tail q))
      → Follows g me pc tail p (if b then creates_object g.system rf u x us q' else model.fails cause.TooManyObjects q)) [
        | true ↦ λ i. object_follows p q' (op.Create site) rf u x us is i room st l r
        | false ↦ λ i. failed g me pc (op.Create site) cause.TooManyObjects tail p q (state_at pc tail q) is i refl
      ] e

  pub creates_follows : (p : Point) (vs : List Operand) (v : Variable) (x : Option (List ℕ)) (c m : ℕ) (us ws : List EntityType) (u : EntityType)
      → assigned_type_of g p.text (scope_of p.environment) v ≡ Some u → u.tag ≡ tag.Own → u.class ≡ class.Declared m
      → types_popped c [] (types_of vs) ≡ Some (us, ws) → Is g pc (op.Create (record { class = m; procedure = x; count = c; passes = false })) → Room g ws 1
      → StandsFor g (pc + 1) (Known p.text (scope_of p.environment) (types_of p.olds) (attached u ∷ ws)) (task.AssignTo v ∷ p.tasks)
      → length p.environment + length tail ≡ g.slots → type_at p.result ≡ g.result
      → Follows g me pc tail (record p { values = vs }) (creates g.system me v x (model.popped c [] vs) (record p { values = vs }))
  creates_follows p vs v x c m us ws u a b d pop is room st l r =
      let site : CreationSite = record { class = m; procedure = x; count = c; passes = false } in
      elim (model.popped c [] vs) as (λ o. model.popped c [] vs ≡ o → Follows g me pc tail (record p { values = vs }) (creates g.system me v x o (record p { values = vs }))) [
        | None ↦ λ here. absurd (let h : types_both None ≡ Some (us, ws) = sym (ap types_both here) ∙ sym (types_of_popped c [] vs) ∙ pop in cc)
        | Some ab ↦ λ here.
            let q = record p { tasks = task.AssignTo v ∷ p.tasks; values = ab.1 } in
            let both : Some (types_of ab.0, types_of ab.1) ≡ Some (us, ws) = sym (ap types_both here) ∙ sym (types_of_popped c [] vs) ∙ pop in
            let second : ws ≡ types_of ab.1 = ap second_of (sym both) in
            let popped_is : machine.popped c [] (values_of vs) ≡ Some (values_of ab.0, values_of ab.1) = values_of_popped c [] vs ∙ ap values_both here in
            let is_model = ap (λ t. creates_as g.system me x t ab.0 q) a ∙ ap (λ h. creates_at g.system me x u h u.class ab.0 q) b ∙ ap (λ k. creates_at g.system me x u tag.Own k ab.0 q) d in
            subst (Follows g me pc tail (record p { values = vs })) (sym is_model)
            (here_follows (record p { values = vs }) q m c u x ab.0 is
            (ap (λ o. machine.creates g.system g.code me site o (state_at pc tail (record p { values = vs }))) popped_is)
            (subst (λ w. Room g w 1) second room)
            (subst (λ w. StandsFor g (pc + 1) (Known p.text (scope_of p.environment) (types_of p.olds) (attached u ∷ w)) (task.AssignTo v ∷ p.tasks)) second st) l r)
      ] refl

  passes_same : (p : Point) (u : EntityType) (x : Option (List ℕ)) (a : List Operand) → emitted.creation_passes (setting_in g p.text (types_of p.olds)) u x (types_of a) ≡ creation_passes g.system p.text u x a
  passes_same p u None a = refl
  passes_same p u (Some x) a = sym (passes_is (formals_meant (qualified_meaning (place_in g.system p.text) u x)) a)

  pub creates_handler_follows : (p : Point) (vs : List Operand) (v : Variable) (x : Option (List ℕ)) (c m : ℕ) (us ws : List EntityType) (u : EntityType)
      → assigned_type_of g p.text (scope_of p.environment) v ≡ Some u → u.tag ≡ tag.Any → u.class ≡ class.Declared m
      → types_popped c [] (types_of vs) ≡ Some (us, ws)
      → Is g pc (op.CreateHandler (record { class = m; procedure = x; count = c; passes = emitted.creation_passes (setting_in g p.text (types_of p.olds)) u x us })) → Room g ws 1
      → StandsFor g (pc + 1) (Known p.text (scope_of p.environment) (types_of p.olds) (attached u ∷ ws)) (task.AssignTo v ∷ p.tasks)
      → length p.environment + length tail ≡ g.slots → type_at p.result ≡ g.result
      → Follows g me pc tail (record p { values = vs }) (creates g.system me v x (model.popped c [] vs) (record p { values = vs }))
  creates_handler_follows p vs v x c m us ws u a b d pop is room st l r =
      let passing = emitted.creation_passes (setting_in g p.text (types_of p.olds)) u x us in
      let site : CreationSite = record { class = m; procedure = x; count = c; passes = passing } in
      elim (model.popped c [] vs) as (λ o. model.popped c [] vs ≡ o → Follows g me pc tail (record p { values = vs }) (creates g.system me v x o (record p { values = vs }))) [
        | None ↦ λ here. absurd (let h : types_both None ≡ Some (us, ws) = sym (ap types_both here) ∙ sym (types_of_popped c [] vs) ∙ pop in cc)
        | Some ab ↦ λ here.
            let q = record p { tasks = task.AssignTo v ∷ p.tasks; values = ab.1 } in
            let both : Some (types_of ab.0, types_of ab.1) ≡ Some (us, ws) = sym (ap types_both here) ∙ sym (types_of_popped c [] vs) ∙ pop in
            let first : us ≡ types_of ab.0 = ap first_of (sym both) in
            let second : ws ≡ types_of ab.1 = ap second_of (sym both) in
            let popped_is : machine.popped c [] (values_of vs) ≡ Some (values_of ab.0, values_of ab.1) = values_of_popped c [] vs ∙ ap values_both here in
            let passes_now : passing ≡ creation_passes g.system p.text u x ab.0 = ap (emitted.creation_passes (setting_in g p.text (types_of p.olds)) u x) first ∙ passes_same p u x ab.0 in
            let is_model = ap (λ t. creates_as g.system me x t ab.0 q) a ∙ ap (λ h. creates_at g.system me x u h u.class ab.0 q) b ∙ ap (λ k. creates_at g.system me x u tag.Any k ab.0 q) d in
            subst (Follows g me pc tail (record p { values = vs })) (sym is_model)
            (awaited g me pc tail (op.CreateHandler site) (machine.CreatesHandler m x (values_of ab.0) (creation_passes g.system p.text u x ab.0))
            (model.CreatesHandler m x ab.0 (attached u) (creation_passes g.system p.text u x ab.0)) (record p { values = vs }) q (Some (attached u)) is
            (ap (λ o. machine.creates_handler g.code site o (state_at pc tail (record p { values = vs }))) popped_is
            ∙ ap (λ y. machine.awaits g.code true (machine.CreatesHandler m x (values_of ab.0) y) (state_at pc tail q)) passes_now)
            (one_more g (types_of ab.1) (attached u) (subst (λ w. Room g w 1) second room)) refl (λ z. z)
            (subst (λ w. StandsFor g (pc + 1) (Known p.text (scope_of p.environment) (types_of p.olds) (attached u ∷ w)) (task.AssignTo v ∷ p.tasks)) second st) l r)
      ] refl
