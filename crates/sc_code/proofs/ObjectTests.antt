-- Object tests.
use Rattle.std.proofs.Common.{◌≡◌, ◌<◌, ℕ, ◌+◌, List, [], ◌∷◌, ◌++◌, Option, Some, Bool, true, false, length, refl, sym, ap, ◌∙◌, subst, arith, length-append}
use Rattle.std.specs.Prelude.{if◌then◌else◌, slice_set}
use Rattle.std.specs.Option.{option_map}
use Rattle.std.proofs.lemmas.Bool.{lt-ltb}
use Rattle.sc_tree.specs.Plain.{DeclaredType}
use Rattle.sc_rules.specs.declared.entity_types.entity_type.EntityType.{EntityType}
use Rattle.sc_rules.specs.entity_types.Conformance.{boolean}
use Rattle.sc_rules.specs.declared.position.Role.TheVariants as role
use Rattle.sc_rules.specs.Names.{Entities, test_type}
use Rattle.sc_model.specs.Values.{Reference, Value, Boolean, Operand, operand}
use Rattle.sc_model.specs.Environments.{bind, scope_of, handler_named}
use Rattle.sc_model.specs.Routines.{place_in}
use Rattle.sc_model.specs.Steps.{Point}
use Rattle.sc_model.specs.ObjectTests.{is_tested, binds, binds_if}
use Rattle.sc_code.specs.Operations.{Test}
use Rattle.sc_code.specs.Places.{with_test}
use Rattle.sc_code.specs.Emitted.{tested}
use Rattle.sc_code.specs.Machine as machine
use Rattle.sc_code.specs.Machine.{into, stuck}
use Rattle.sc_code.specs.Stands.{Run, Judged, Is, Begins, StandsFor, setting_in, types_of, values_in, state_at, judged, Follows}
use Rattle.sc_code.proofs.Hops.{goes}
use Rattle.sc_code.proofs.Operands.{under}
use Rattle.sc_code.proofs.Slots.{scope_length, values_length, scope_append, written_next, test_is}

module _ (g : Run) (me : Reference) (pc : ℕ) where
  bound : (c : Bool) (tail : List Value) (p : Point) (u : Operand) (d : Option DeclaredType) (x : List ℕ) (w : EntityType) (low : Entities)
      → Is g pc (Test (tested (setting_in g p.text (types_of p.olds)) (scope_of p.environment) d) (length (scope_of p.environment)))
      → machine.is_tested g.system me.handler (values_in p.environment ++ tail) u.value (tested (setting_in g p.text (types_of p.olds)) (scope_of p.environment) d) ≡ c
      → length (scope_of p.environment) < g.slots → Begins low (scope_of p.environment)
      → StandsFor g (pc + 1) (Judged p.text low (with_test x (Some w) (scope_of p.environment)) (types_of p.olds) (types_of p.values)) p.tasks
      → length p.environment + length tail ≡ g.slots → option_map (λ (u : Operand). u.type) p.result ≡ g.result
      → Follows g me pc tail (under u p) (binds_if c x u.value w p)
  bound false tail p u d x w low is e below b st l r =
      let k = length (scope_of p.environment) in
      let t = tested (setting_in g p.text (types_of p.olds)) (scope_of p.environment) d in
      let next = under (operand (Boolean false) boolean) p in
      let st' = subst (λ m. StandsFor g m (Judged p.text low (with_test x (Some w) (scope_of p.environment)) (types_of p.olds) (types_of p.values)) p.tasks) (let e : pc + 1 ≡ pc + 1 + 0 = omega arith in e) st in
      goes g me pc (pc + 1 + 0) (Test t k) tail tail (under u p) next is
      (ap (λ c. machine.binds_if c g.code k u.value (state_at pc tail p)) e)
      (record { tells = judged (operand (Boolean false) boolean) p.values low (with_test x (Some w) (scope_of p.environment)) refl b st'; has_slots = l; has_result = r })
  bound true [] p u d x w low is e below b st l r = absurd (omega (arith, scope_length p.environment, l, below))
  bound true (y ∷ rest) p u d x w low is e below b st l r =
      let bs = p.environment in
      let k = length (scope_of bs) in
      let t = tested (setting_in g p.text (types_of p.olds)) (scope_of bs) d in
      let v = bind x w role.Test u.value in
      let next = under (operand (Boolean true) boolean) (record p { environment = bs ++ v ∷ [] }) in
      let there = under (operand (Boolean true) boolean) p in
      let high = with_test x (Some w) (scope_of bs) in
      let st' = subst (λ m. StandsFor g m (Judged p.text low high (types_of p.olds) (types_of p.values)) p.tasks) (let e : pc + 1 ≡ pc + 1 + 0 = omega arith in e) st in
      let fits : k < length (values_in bs ++ y ∷ rest) = omega (arith, length-append (values_in bs) (y ∷ rest), values_length bs, scope_length bs) in
      let l' : length (bs ++ v ∷ []) + length rest ≡ g.slots = omega (arith, length-append bs (v ∷ []), l) in
      goes g me pc (pc + 1 + 0) (Test t k) (y ∷ rest) rest (under u p) next is
      (ap (λ c. machine.binds_if c g.code k u.value (state_at pc (y ∷ rest) p)) e
      ∙ ap (λ c. if c then into g.code (pc + 1 + 0) (record (state_at pc (y ∷ rest) there) { slots = slice_set (values_in bs ++ y ∷ rest) k u.value }) else stuck (state_at pc (y ∷ rest) there)) (lt-ltb k _ fits)
      ∙ ap (λ (s : List Value). into g.code (pc + 1 + 0) (record (state_at pc (y ∷ rest) there) { slots = s })) (written_next bs v y rest))
      (record { tells = judged (operand (Boolean true) boolean) p.values low high refl (scope_append bs (v ∷ [])) st'; has_slots = l'; has_result = r })

  pub bind_follows : (tail : List Value) (p : Point) (u : Operand) (d : Option DeclaredType) (x : List ℕ) (w : EntityType) (low : Entities)
      → Is g pc (Test (tested (setting_in g p.text (types_of p.olds)) (scope_of p.environment) d) (length (scope_of p.environment)))
      → test_type (place_in g.system p.text) d (Some u.type) ≡ Some w → length (scope_of p.environment) < g.slots → Begins low (scope_of p.environment)
      → StandsFor g (pc + 1) (Judged p.text low (with_test x (Some w) (scope_of p.environment)) (types_of p.olds) (types_of p.values)) p.tasks
      → length p.environment + length tail ≡ g.slots → option_map (λ (u : Operand). u.type) p.result ≡ g.result
      → Follows g me pc tail (under u p) (binds g.system me.handler d x u.value (test_type (place_in g.system p.text) d (Some u.type)) p)
  bind_follows tail p u d x w low is e below b st l r =
      let same = test_is (setting_in g p.text (types_of p.olds)) me.handler p.environment tail u.value d (Some u.type) w e in
      subst (Follows g me pc tail (under u p)) (sym (ap (λ t. binds g.system me.handler d x u.value t p) e))
      (bound (is_tested g.system me.handler (handler_named p.environment) u.value d w) tail p u d x w low is same below b st l r)
