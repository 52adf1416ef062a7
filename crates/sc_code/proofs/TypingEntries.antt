-- Where a routine is entered it begins, and what a place stands for doesn't depend on the objects.
use Rattle.std.proofs.Common.{◌≡◌, ℕ, ◌+◌, List, [], ◌∷◌, Option, Some, None, refl, sym, ap, ◌∙◌}
use Rattle.std.specs.Option.{option_map}
use Rattle.sc_tree.specs.Plain.{System, Declaration}
use Rattle.sc_class.proofs.Items.{some_is}
use Rattle.sc_rules.specs.declared.entity_types.entity_type.EntityType.{EntityType}
use Rattle.sc_rules.specs.declared.position.Role.TheVariants as role
use Rattle.sc_rules.specs.Types.{declared_type}
use Rattle.sc_rules.specs.Names.{entity, reserved, formal_entities}
use Rattle.sc_model.specs.Values.{Value, Operand}
use Rattle.sc_model.specs.Environments.{Binding, bind, scope_of, with_binding, formals_bound}
use Rattle.sc_model.specs.Entries.{result_of}
use Rattle.sc_code.specs.Places.{known_type}
use Rattle.sc_code.specs.Stands.{Tells, told, judged}
use Rattle.sc_code.specs.Lowered.{EntriesBegin, ObjectsMayChange}

-- formals that are bound are known
bound_names : (s : System) (all : List Declaration) (i : ℕ) (ds : List Declaration) (vs : List Value) (bs : List Binding) →
    formals_bound s all i ds vs ≡ Some bs → scope_of bs ≡ formal_entities s all i ds
bound_names s all i [] [] bs e = ap scope_of (sym (some_is [] bs e))
bound_names s all i [] (v ∷ vs) bs e = cc
bound_names s all i (d ∷ ds) [] bs e = cc
bound_names s all i (d ∷ ds) (v ∷ vs) bs e =
    by (declared_type s all d.declared_type) (formals_bound s all (i + 1) ds vs) (bound_names s all (i + 1) ds vs) e
  where
    by : (o : Option EntityType) (q : Option (List Binding)) → ((cs : List Binding) → q ≡ Some cs → scope_of cs ≡ formal_entities s all (i + 1) ds) →
        with_binding o d.name.text i v q ≡ Some bs →
        scope_of bs ≡ entity d.name.text (option_map (reserved i) o) role.Formal ∷ formal_entities s all (i + 1) ds
    by None q f e = cc
    by (Some t) None f e = cc
    by (Some t) (Some cs) f e =
        ap scope_of (sym (some_is (bind d.name.text (reserved i t) role.Formal v ∷ cs) bs e))
        ∙ ap (λ n. entity d.name.text (Some (reserved i t)) role.Formal ∷ n) (f cs refl)

result_is : (o : Option (Option EntityType)) → option_map (λ (u : Operand). u.type) (result_of o) ≡ known_type o
result_is None = refl
result_is (Some None) = refl
result_is (Some (Some t)) = refl

pub entries_begin : EntriesBegin
entries_begin s r me o vs bs os tail e l = record {
  text = refl;
  names = bound_names s r.text.formals 0 r.text.formals vs bs e;
  result = result_is r.text.result;
  olds = refl;
  tasks = refl;
  values = refl;
  slots = l;
}

pub objects_may_change : ObjectsMayChange
objects_may_change g place tail p os st = record { tells = tells_still st.tells; has_slots = st.has_slots; has_result = st.has_result }
  where
    tells_still : Tells g place p → Tells g place (record p { objects = os })
    tells_still (told a) = told a
    tells_still (judged u us low high e j a) = judged u us low high e j a
