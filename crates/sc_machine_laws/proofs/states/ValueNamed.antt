-- The handler that a tag names is that of an attached separate formal, or of a name of an open separate block.
use Rattle.std.specs.Option.{option_and_then, option_map}
use Rattle.std.specs.Prelude.{Contains, filter, if◌then◌else◌, map, not, slice_get}
use Rattle.std.proofs.Common.{◌&&◌, Bool, List, None, Option, Some, [], ap, false, inl, inr, refl, subst, suc, sym, true, zero, ℕ, ◌∙◌, ◌∷◌, ◌≡◌, ◌⊎◌}
use Rattle.std.proofs.lemmas.Option.{slice_get-map}
use Rattle.sc_tree.specs.Plain.{Declaration, System}
use Rattle.sc_class.specs.Tables.Conformance.{class_conforms, is_expanded}
use Rattle.sc_class.specs.declared.identity.ClassId.{ClassId}
use Rattle.sc_class.specs.declared.identity.ClassId.TheVariants as class
use Rattle.sc_rules.specs.declared.entity_types.tag.Reserved.{Reserved}
use Rattle.sc_rules.specs.declared.entity_types.tag.Reserved.TheVariants.{BlockName, Formal}
use Rattle.sc_rules.specs.declared.entity_types.tag.Tag.TheVariants as tag
use Rattle.sc_rules.specs.Names.{Entity}
use Rattle.sc_rules.specs.Types.{is_foreign}
use Rattle.sc_machine_laws.proofs.states.MachineFrames.{contains_first, contains_later}
use Rattle.sc_model.specs.Environments.{Binding, block_values, formal_handler, handler_named, is_formal, is_separate_formal, known_of, scope_of, separate_formals}
use Rattle.sc_model.specs.Fits.{BindingFits}
use Rattle.sc_model.specs.Values.{Attached, Boolean, Integer, Value, Void, handler_of}
use Rattle.sc_machine_laws.specs.states.Points.{EnvironmentFits}
use Rattle.sc_machine_laws.specs.states.ValueSteps.{IsNamed, by_block, by_formal}
use Rattle.sc_machine_laws.specs.states.Typed.{ScopeStands, is_lent, names_formal}
use Rattle.sc_machine_laws.proofs.states.Environments.{all_fit}
use Rattle.sc_machine_laws.proofs.states.Lists.{both, each_at}

contains_at : {A : Type 0} (xs : List A) (i : ℕ) (x : A) → slice_get xs i ≡ Some x → Contains xs x
contains_at [] i x e = cc
contains_at (y ∷ xs) zero x e = let q : y ≡ x = cc in subst (Contains (y ∷ xs)) q (contains_first y xs)
contains_at (y ∷ xs) (suc i) x e = contains_later y xs x (contains_at xs i x e)

formal_among : (bs : List Binding) (i : ℕ) (b : Binding) → slice_get bs i ≡ Some b → is_separate_formal b ≡ true → Contains (separate_formals bs) b.value
formal_among [] i b e f = cc
formal_among (c ∷ bs) zero b e f = let q : c ≡ b = cc in at (is_separate_formal c) (ap is_separate_formal q ∙ f) (ap (λ (b : Binding). b.value) q)
  where
    at : (m : Bool) → m ≡ true → c.value ≡ b.value → Contains (map (λ (b : Binding). b.value) (if m then c ∷ filter is_separate_formal bs else filter is_separate_formal bs)) b.value
    at true e q = subst (Contains (c.value ∷ separate_formals bs)) q (contains_first c.value (separate_formals bs))
    at false e q = cc
formal_among (c ∷ bs) (suc i) b e f = at (is_separate_formal c) (formal_among bs i b e f)
  where
    at : (m : Bool) → Contains (separate_formals bs) b.value → Contains (map (λ (b : Binding). b.value) (if m then c ∷ filter is_separate_formal bs else filter is_separate_formal bs)) b.value
    at true k = contains_later c.value (separate_formals bs) b.value k
    at false k = k

reference_class : (s : System) (k : ℕ) (c : ClassId) → class_conforms s (class.Declared k) c ≡ true → is_expanded c ≡ false
reference_class s k class.Integer e = cc
reference_class s k class.Boolean e = cc
reference_class s k class.Any e = refl
reference_class s k class.None e = refl
reference_class s k (class.Declared j) e = refl

lies_somewhere : (s : System) (h : ℕ) (bs : List Binding) (b : Binding) (k : ℕ) → BindingFits s h bs b → handler_of b.value ≡ Some k → is_expanded b.type.class ≡ false
lies_somewhere s h bs b k fits e = by b.value fits e
  where
    none : {A : Type 0} → None ≡ Some k → A
    none e = cc

    by : (v : Value) → BindingFits s h bs (record b { value = v }) → handler_of v ≡ Some k → is_expanded b.type.class ≡ false
    by (Attached r) (inl f) e = reference_class s r.class b.type.class f.0
    by (Attached r) (inr f) e = f.1.1
    by (Integer z) f e = none e
    by (Boolean z) f e = none e
    by Void f e = none e

pub handler_is_named : (s : System) (h : ℕ) (formals : List Declaration) (bs : List Binding) → EnvironmentFits s h bs → ScopeStands formals (scope_of bs) →
    (y : Reserved) → names_formal formals (tag.With y) ≡ true → (k : ℕ) → handler_named bs y ≡ Some k → IsNamed bs k
handler_is_named s h formals bs fits stands (BlockName j) named k e = by (slice_get (block_values bs) j) refl e
  where
    by : (o : Option Value) → slice_get (block_values bs) j ≡ o → option_and_then handler_of o ≡ Some k → IsNamed bs k
    by None i e = cc
    by (Some v) i e = by_block (contains_at (block_values bs) j v i) e
handler_is_named s h formals bs fits stands (Formal i) named k e = by (slice_get bs i) refl e
  where
    lent : (b : Binding) → slice_get bs i ≡ Some b → (is_formal b.role && (b.type.attached && is_foreign b.type.tag)) ≡ true
    lent b at = sym (ap is_lent (slice_get-map known_of bs i ∙ ap (option_map known_of) at)) ∙ stands.formals_are i named

    of_formal : (b : Binding) → slice_get bs i ≡ Some b → (m : Bool) → is_formal b.role ≡ m → (if m then handler_of b.value else None) ≡ Some k → IsNamed bs k
    of_formal b at false r e = cc
    of_formal b at true r e =
        let p = both (is_formal b.role) (b.type.attached && is_foreign b.type.tag) (lent b at) in
        let q = both b.type.attached (is_foreign b.type.tag) p.1 in
        by_formal (formal_among bs i b at (is_one b.type.attached (is_foreign b.type.tag) (is_expanded b.type.class) r q.0 q.1
        (lies_somewhere s h bs b k (each_at (BindingFits s h bs) bs i b (all_fit s h bs fits) at) e))) e
      where
        is_one : (a c d : Bool) → is_formal b.role ≡ true → a ≡ true → c ≡ true → d ≡ false → (is_formal b.role && a && c && not d) ≡ true
        is_one true true false r e f g = ap (λ (m : Bool). m && true && true && true) r
        is_one false c d r e f g = cc
        is_one true false d r e f g = cc
        is_one true true true r e f g = cc

    by : (o : Option Binding) → slice_get bs i ≡ o → option_and_then formal_handler o ≡ Some k → IsNamed bs k
    by None at e = cc
    by (Some b) at e = of_formal b at (is_formal b.role) refl e
