-- Calls of routines and features.
use Rattle.std.proofs.Common.{◌≡◌, ◌<◌, ℕ, ◌+◌, List, [], ◌∷◌, Option, Some, None, Bool, true, false, ◌==◌, length, refl, sym, ap, ◌∙◌, subst, arith}
use Rattle.std.specs.Prelude.{if◌then◌else◌, is_some, ◌||◌}
use Rattle.std.specs.Option.{option_map}
use Rattle.std.proofs.lemmas.Bool.{lt-ltb}
use Rattle.sc_tree.specs.Plain as tree
use Rattle.sc_tree.specs.Plain.{FeatureKind}
use Rattle.sc_class.specs.declared.identity.ClassId.TheVariants as class
use Rattle.sc_class.specs.Tables.Features.{DeclaredFeature, feature_named}
use Rattle.sc_rules.specs.declared.entity_types.tag.Tag.{Tag}
use Rattle.sc_rules.specs.declared.entity_types.tag.Tag.TheVariants as tag
use Rattle.sc_rules.specs.declared.entity_types.entity_type.EntityType.{EntityType}
use Rattle.sc_rules.specs.Names.{FormalType, Signature, current, signature_of}
use Rattle.sc_model.specs.declared.cause.Cause.TheVariants as cause
use Rattle.sc_model.specs.Values.{Reference, Value, Integer, Boolean, Void, Attached, Operand, operand, values_of}
use Rattle.sc_model.specs.Environments.{Binding, binding_named, scope_of}
use Rattle.sc_model.specs.Objects.{Object, object_numbered}
use Rattle.sc_model.specs.Routines.{place_in, version_of}
use Rattle.sc_model.specs.Steps as model
use Rattle.sc_model.specs.Steps.{Point, Unqualified, Qualified}
use Rattle.sc_model.specs.Calls.{given_by, passes_one, passes_rights, enters_unqualified, calls_own, calls_unqualified, calls_kind, calls_version, requests, calls_object, calls_on, calls_qualified}
use Rattle.sc_code.specs.Operations.{Operation, CallRoutine, CallFeature}
use Rattle.sc_code.specs.Places.{with_type}
use Rattle.sc_code.specs.Emitted.{gives_of, types_pass, is_own, site_of}
use Rattle.sc_code.specs.Machine as machine
use Rattle.sc_code.specs.Machine.{Code, State, Act, Enters, Requests, Hop, Does, awaits, does, stuck, fails, read}
use Rattle.sc_code.specs.Stands as stand
use Rattle.sc_code.specs.Stands.{Run, Known, Is, Room, StandsFor, types_popped, types_of, state_at, StandsWith, Seen, Leads, Follows}
use Rattle.sc_code.proofs.Hops.{length_values, length_types, stands, shows, failed, replaced}
use Rattle.sc_code.proofs.Codes.{types_both, values_both, types_of_popped, values_of_popped}
use Rattle.sc_code.proofs.Expressions.{attribute_is}

abbrev type_at : Option Operand → Option EntityType
type_at o = option_map (λ (u : Operand). u.type) o

abbrev attached_of : Option EntityType → Option Bool
attached_of r = option_map (λ (t : EntityType). t.attached) r

abbrev pub first_of : Option (List EntityType × List EntityType) → List EntityType
first_of None = []
first_of (Some r) = r.0

abbrev pub second_of : Option (List EntityType × List EntityType) → List EntityType
second_of None = []
second_of (Some r) = r.1

gives_is : (o : Option (Option EntityType)) (r : Option EntityType) → given_by o ≡ Some r → gives_of o ≡ attached_of r
gives_is None r e = let same : r ≡ None = cc in ap attached_of (sym same)
gives_is (Some None) r e = absurd (cc)
gives_is (Some (Some t)) r e = let same : r ≡ Some t = cc in ap attached_of (sym same)

some_is : (r : Option EntityType) → is_some (attached_of r) ≡ is_some r
some_is None = refl
some_is (Some t) = refl

pub passes_is : (fs : List FormalType) (us : List Operand) → passes_rights fs us ≡ types_pass fs (types_of us)
passes_is [] us = refl
passes_is (f ∷ fs) [] = refl
passes_is (f ∷ fs) (u ∷ us) = ap (λ b. passes_one f u.type || b) (passes_is fs us)

-- what a call that gives this reads
abbrev reads_given : Option EntityType → Option Binding → Point → model.Step
reads_given None b q = model.stuck q
reads_given (Some t) b q = model.reads_attribute b t q

module _ (g : Run) (me : Reference) (pc : ℕ) (tail : List Value) where
  -- where the code goes on with what a call gives
  pub stands_with : (r : Option EntityType) (q : Point) → StandsFor g (pc + 1) (Known q.text (scope_of q.environment) (types_of q.olds) (with_type r (types_of q.values))) q.tasks
      → length q.environment + length tail ≡ g.slots → type_at q.result ≡ g.result → StandsWith g (pc + 1) tail r q
  stands_with None q st l r = stands g me (pc + 1) tail q st l r
  stands_with (Some t) q st l r = λ v. stands g me (pc + 1) tail (record q { values = operand v t ∷ q.values }) st l r

  pub awaits_is : (r : Option EntityType) (act : Act) (q : Point) → Room g (with_type r (types_of q.values)) 0
      → awaits g.code (is_some r) act (state_at pc tail q) ≡ does act (state_at pc tail q)
  awaits_is None act q room = refl
  awaits_is (Some t) act q room =
      let below : length (values_of q.values) < g.code.depth = omega (arith, room, length_values q.values, length_types q.values) in
      ap (λ b. if b then does act (state_at pc tail q) else stuck (state_at pc tail q)) (lt-ltb _ _ below)

  -- a visible operation that gives a value of the type, if there is one
  pub awaited : (o : Operation) (act : Act) (a : model.Act) (p q : Point) (r : Option EntityType) → Is g pc o
      → machine.hop_at g.system g.code me o (state_at pc tail p) ≡ awaits g.code (is_some r) act (state_at pc tail q) → Room g (with_type r (types_of q.values)) 0
      → Seen p.environment q.environment a act
      → (((to : ℕ) × (rest : List Value) × (state_at (pc + 1) tail q ≡ state_at to rest q) × StandsWith g to rest r q) → Leads g a q (state_at (pc + 1) tail q))
      → StandsFor g (pc + 1) (Known q.text (scope_of q.environment) (types_of q.olds) (with_type r (types_of q.values))) q.tasks
      → length q.environment + length tail ≡ g.slots → type_at q.result ≡ g.result → Follows g me pc tail p (model.Does a q)
  awaited o act a p q t is e room seen leads st l r =
      shows g me pc o act tail p (state_at (pc + 1) tail q) a q is (e ∙ awaits_is t act q room) seen (leads (pc + 1, tail, refl, stands_with t q st l r))

  -- ---- unqualified calls

  pub calls_routine_follows : (p : Point) (vs : List Operand) (x : List ℕ) (c : ℕ) (us ws : List EntityType) (f : DeclaredFeature) (t : Option EntityType)
      → feature_named g.system (class.Declared p.text.class) x ≡ Some f → given_by (signature_of g.system (current (place_in g.system p.text)) f).gives ≡ Some t
      → types_popped c [] (types_of vs) ≡ Some (us, ws)
      → Is g pc (CallRoutine (site_of x c (current (place_in g.system p.text)) us (signature_of g.system (current (place_in g.system p.text)) f)))
      → Room g (with_type t ws) 0 → StandsFor g (pc + 1) (Known p.text (scope_of p.environment) (types_of p.olds) (with_type t ws)) p.tasks
      → length p.environment + length tail ≡ g.slots → type_at p.result ≡ g.result
      → Follows g me pc tail (record p { values = vs }) (calls_unqualified g.system me x (model.popped c [] vs) (record p { values = vs }))
  calls_routine_follows p vs x c us ws f t b e pop is room st l r =
      let sig : Signature = signature_of g.system (current (place_in g.system p.text)) f in
      let site = site_of x c (current (place_in g.system p.text)) us sig in
      elim (model.popped c [] vs) as (λ o. model.popped c [] vs ≡ o → Follows g me pc tail (record p { values = vs }) (calls_unqualified g.system me x o (record p { values = vs }))) [
        | None ↦ λ here. absurd (let h : types_both None ≡ Some (us, ws) = sym (ap types_both here) ∙ sym (types_of_popped c [] vs) ∙ pop in cc)
        | Some ab ↦ λ here.
            let q = record p { values = ab.1 } in
            let both : Some (types_of ab.0, types_of ab.1) ≡ Some (us, ws) = sym (ap types_both here) ∙ sym (types_of_popped c [] vs) ∙ pop in
            let second : ws ≡ types_of ab.1 = ap second_of (sym both) in
            let act = Enters Unqualified me x (values_of ab.0) (is_some t) in
            let is_model = ap (λ o. calls_own g.system me x o ab.0 q) b ∙ ap (λ o. enters_unqualified me x ab.0 o q) e in
            let popped_is : machine.popped c [] (values_of vs) ≡ Some (values_of ab.0, values_of ab.1) = values_of_popped c [] vs ∙ ap values_both here in
            let given : is_some site.gives ≡ is_some t = ap is_some (gives_is sig.gives t e) ∙ some_is t in
            subst (Follows g me pc tail (record p { values = vs })) (sym is_model)
            (awaited (CallRoutine site) act (model.Enters Unqualified me x ab.0 t) (record p { values = vs }) q t is
            (ap (λ o. machine.calls_routine g.code me site o (state_at pc tail (record p { values = vs }))) popped_is
            ∙ ap (λ y. awaits g.code y (Enters Unqualified me x (values_of ab.0) y) (state_at pc tail q)) given)
            (subst (λ w. Room g (with_type t w) 0) second room) refl (λ z. z)
            (subst (λ w. StandsFor g (pc + 1) (Known p.text (scope_of p.environment) (types_of p.olds) (with_type t w)) p.tasks) second st) l r)
      ] refl

  -- ---- qualified calls

  -- an attribute of the object is read
  reads_follow : (p q : Point) (x : List ℕ) (c : ℕ) (us : List EntityType) (u : EntityType) (sig : Signature) (t : Option EntityType) (b : Option Binding)
      → gives_of sig.gives ≡ attached_of t → Is g pc (CallFeature (site_of x c u us sig))
      → machine.hop_at g.system g.code me (CallFeature (site_of x c u us sig)) (state_at pc tail p) ≡ machine.reads_attribute g.code (gives_of sig.gives) b (state_at pc tail q)
      → StandsFor g (pc + 1) (Known q.text (scope_of q.environment) (types_of q.olds) (with_type t (types_of q.values))) q.tasks
      → length q.environment + length tail ≡ g.slots → type_at q.result ≡ g.result
      → Follows g me pc tail p (reads_given t b q)
  reads_follow p q x c us u sig None b gives is e st l r =
      failed g me pc (CallFeature (site_of x c u us sig)) cause.BadCode tail p q (state_at pc tail q) is (e ∙ ap (λ o. machine.reads_attribute g.code o b (state_at pc tail q)) gives) refl
  reads_follow p q x c us u sig (Some t) b gives is e st l r =
      subst (Follows g me pc tail p) (sym (attribute_is b t q))
      (replaced g me (read t.attached (option_map (λ (b : Binding). b.value) b)) t pc (CallFeature (site_of x c u us sig)) tail p q is
      (e ∙ ap (λ o. machine.reads_attribute g.code o b (state_at pc tail q)) gives) st l r)

  -- a version of the object's class
  kind_follows : (p q : Point) (x : List ℕ) (c : ℕ) (us : List EntityType) (u : EntityType) (sig : Signature) (t : Option EntityType) (rf : Reference) (a : List Operand) (o : Object) (k : FeatureKind)
      → gives_of sig.gives ≡ attached_of t → Is g pc (CallFeature (site_of x c u us sig))
      → machine.hop_at g.system g.code me (CallFeature (site_of x c u us sig)) (state_at pc tail p) ≡ machine.calls_kind g.code rf (site_of x c u us sig) (values_of a) o k (state_at pc tail q)
      → Room g (with_type t (types_of q.values)) 0
      → StandsFor g (pc + 1) (Known q.text (scope_of q.environment) (types_of q.olds) (with_type t (types_of q.values))) q.tasks
      → length q.environment + length tail ≡ g.slots → type_at q.result ≡ g.result
      → Follows g me pc tail p (calls_kind rf x a t o k q)
  kind_follows p q x c us u sig None rf a o (tree.Attribute d) gives is e room st l r = reads_follow p q x c us u sig None (binding_named x o.attributes) gives is e st l r
  kind_follows p q x c us u sig (Some t) rf a o (tree.Attribute d) gives is e room st l r = reads_follow p q x c us u sig (Some t) (binding_named x o.attributes) gives is e st l r
  kind_follows p q x c us u sig t rf a o (tree.Routine d) gives is e room st l r =
      let given : is_some (gives_of sig.gives) ≡ is_some t = ap is_some gives ∙ some_is t in
      awaited (CallFeature (site_of x c u us sig)) (Enters Qualified rf x (values_of a) (is_some t)) (model.Enters Qualified rf x a t) p q t is
      (e ∙ ap (λ y. awaits g.code y (Enters Qualified rf x (values_of a) y) (state_at pc tail q)) given) room refl (λ z. z) st l r

  version_follows : (p q : Point) (x : List ℕ) (c : ℕ) (us : List EntityType) (u : EntityType) (sig : Signature) (t : Option EntityType) (rf : Reference) (a : List Operand) (o : Option Object) (f : Option DeclaredFeature)
      → gives_of sig.gives ≡ attached_of t → Is g pc (CallFeature (site_of x c u us sig))
      → machine.hop_at g.system g.code me (CallFeature (site_of x c u us sig)) (state_at pc tail p) ≡ machine.calls_version g.code rf (site_of x c u us sig) (values_of a) o f (state_at pc tail q)
      → Room g (with_type t (types_of q.values)) 0
      → StandsFor g (pc + 1) (Known q.text (scope_of q.environment) (types_of q.olds) (with_type t (types_of q.values))) q.tasks
      → length q.environment + length tail ≡ g.slots → type_at q.result ≡ g.result
      → Follows g me pc tail p (calls_version rf x a t o f q)
  version_follows p q x c us u sig t rf a (Some o) (Some f) gives is e room st l r = kind_follows p q x c us u sig t rf a o f.feature.kind gives is e room st l r
  version_follows p q x c us u sig t rf a (Some o) None gives is e room st l r = failed g me pc (CallFeature (site_of x c u us sig)) cause.BadCode tail p q (state_at pc tail q) is e refl
  version_follows p q x c us u sig t rf a None f gives is e room st l r = failed g me pc (CallFeature (site_of x c u us sig)) cause.BadCode tail p q (state_at pc tail q) is e refl

  -- a request to another handler
  asked : (p q : Point) (x : List ℕ) (c : ℕ) (us : List EntityType) (u : EntityType) (sig : Signature) (t : Option EntityType) (rf : Reference) (a : List Operand)
      → gives_of sig.gives ≡ attached_of t → types_pass sig.formals us ≡ passes_rights sig.formals a → Is g pc (CallFeature (site_of x c u us sig))
      → machine.hop_at g.system g.code me (CallFeature (site_of x c u us sig)) (state_at pc tail p)
      ≡ awaits g.code (is_some (gives_of sig.gives)) (Requests rf x (values_of a) (is_some (gives_of sig.gives)) (types_pass sig.formals us)) (state_at pc tail q)
      → Room g (with_type t (types_of q.values)) 0
      → StandsFor g (pc + 1) (Known q.text (scope_of q.environment) (types_of q.olds) (with_type t (types_of q.values))) q.tasks
      → length q.environment + length tail ≡ g.slots → type_at q.result ≡ g.result
      → Follows g me pc tail p (model.Does (model.Requests rf x a t (passes_rights sig.formals a)) q)
  asked p q x c us u sig t rf a gives pass is e room st l r =
      let given : is_some (gives_of sig.gives) ≡ is_some t = ap is_some gives ∙ some_is t in
      awaited (CallFeature (site_of x c u us sig)) (Requests rf x (values_of a) (is_some t) (passes_rights sig.formals a)) (model.Requests rf x a t (passes_rights sig.formals a)) p q t is
      (e ∙ ap (λ y. awaits g.code y (Requests rf x (values_of a) y (types_pass sig.formals us)) (state_at pc tail q)) given
      ∙ ap (λ y. awaits g.code (is_some t) (Requests rf x (values_of a) (is_some t) y) (state_at pc tail q)) pass) room refl (λ z. z) st l r

  requests_follow : (p q : Point) (x : List ℕ) (c : ℕ) (us : List EntityType) (u : EntityType) (sig : Signature) (t : Option EntityType) (rf : Reference) (a : List Operand) (h : Tag)
      → gives_of sig.gives ≡ attached_of t → types_pass sig.formals us ≡ passes_rights sig.formals a → Is g pc (CallFeature (site_of x c u us sig))
      → machine.hop_at g.system g.code me (CallFeature (site_of x c u us sig)) (state_at pc tail p)
      ≡ (if is_own h then fails cause.ForeignObject (state_at pc tail q) else awaits g.code (is_some (gives_of sig.gives)) (Requests rf x (values_of a) (is_some (gives_of sig.gives)) (types_pass sig.formals us)) (state_at pc tail q))
      → Room g (with_type t (types_of q.values)) 0
      → StandsFor g (pc + 1) (Known q.text (scope_of q.environment) (types_of q.olds) (with_type t (types_of q.values))) q.tasks
      → length q.environment + length tail ≡ g.slots → type_at q.result ≡ g.result
      → Follows g me pc tail p (requests rf h x a t (passes_rights sig.formals a) q)
  requests_follow p q x c us u sig t rf a tag.Own gives pass is e room st l r = failed g me pc (CallFeature (site_of x c u us sig)) cause.ForeignObject tail p q (state_at pc tail q) is e refl
  requests_follow p q x c us u sig t rf a (tag.With y) gives pass is e room st l r = asked p q x c us u sig t rf a gives pass is e room st l r
  requests_follow p q x c us u sig t rf a tag.Any gives pass is e room st l r = asked p q x c us u sig t rf a gives pass is e room st l r
  requests_follow p q x c us u sig t rf a tag.None gives pass is e room st l r = asked p q x c us u sig t rf a gives pass is e room st l r

  on_follows : (p q : Point) (x : List ℕ) (c : ℕ) (us : List EntityType) (u : EntityType) (f : DeclaredFeature) (t : Option EntityType) (v : Value) (a : List Operand)
      → given_by (signature_of g.system u f).gives ≡ Some t → us ≡ types_of a → Is g pc (CallFeature (site_of x c u us (signature_of g.system u f)))
      → machine.hop_at g.system g.code me (CallFeature (site_of x c u us (signature_of g.system u f))) (state_at pc tail p)
      ≡ machine.calls_on g.system g.code me (site_of x c u us (signature_of g.system u f)) v (values_of a) (state_at pc tail q)
      → Room g (with_type t (types_of q.values)) 0
      → StandsFor g (pc + 1) (Known q.text (scope_of q.environment) (types_of q.olds) (with_type t (types_of q.values))) q.tasks
      → length q.environment + length tail ≡ g.slots → type_at q.result ≡ g.result
      → Follows g me pc tail p (calls_on g.system me x v u (Some f) a q)
  on_follows p q x c us u f t Void a gives types is e room st l r = failed g me pc (CallFeature (site_of x c u us (signature_of g.system u f))) cause.VoidTarget tail p q (state_at pc tail q) is e refl
  on_follows p q x c us u f t (Integer z) a gives types is e room st l r = failed g me pc (CallFeature (site_of x c u us (signature_of g.system u f))) cause.BadCode tail p q (state_at pc tail q) is e refl
  on_follows p q x c us u f t (Boolean b) a gives types is e room st l r = failed g me pc (CallFeature (site_of x c u us (signature_of g.system u f))) cause.BadCode tail p q (state_at pc tail q) is e refl
  on_follows p q x c us u f t (Attached rf) a gives types is e room st l r =
      let sig : Signature = signature_of g.system u f in
      let site = site_of x c u us sig in
      let o = object_numbered rf.number q.objects in
      let v = version_of g.system rf.class x in
      let given = gives_is sig.gives t gives in
      let pass : types_pass sig.formals us ≡ passes_rights sig.formals a = ap (types_pass sig.formals) types ∙ sym (passes_is sig.formals a) in
      subst (Follows g me pc tail p) (sym (ap (λ o. calls_object g.system me rf u x a sig o q) gives))
      (elim (rf.handler == me.handler) as (λ b. machine.hop_at g.system g.code me (CallFeature site) (state_at pc tail p)
      ≡ (if b then machine.calls_version g.code rf site (values_of a) o v (state_at pc tail q) else machine.requests g.code rf site (values_of a) (state_at pc tail q))
      → Follows g me pc tail p (if b then calls_version rf x a t o v q else requests rf u.tag x a t (passes_rights sig.formals a) q)) [
        | true ↦ λ i. version_follows p q x c us u sig t rf a o v given is i room st l r
        | false ↦ λ i. requests_follow p q x c us u sig t rf a u.tag given pass is i room st l r
      ] e)

  -- the target lies under its actuals
  targeted : (p : Point) (vs : List Operand) (x : List ℕ) (c : ℕ) (us ws : List EntityType) (u : EntityType) (f : DeclaredFeature) (t : Option EntityType) (a bs : List Operand)
      → us ≡ types_of a → u ∷ ws ≡ types_of bs → feature_named g.system u.class x ≡ Some f → given_by (signature_of g.system u f).gives ≡ Some t
      → Is g pc (CallFeature (site_of x c u us (signature_of g.system u f))) → machine.popped c [] (values_of vs) ≡ Some (values_of a, values_of bs)
      → Room g (with_type t ws) 0 → StandsFor g (pc + 1) (Known p.text (scope_of p.environment) (types_of p.olds) (with_type t ws)) p.tasks
      → length p.environment + length tail ≡ g.slots → type_at p.result ≡ g.result
      → Follows g me pc tail (record p { values = vs }) (calls_qualified g.system me x (Some (a, bs)) (record p { values = vs }))
  targeted p vs x c us ws u f t a [] types under b e is pop room st l r = absurd (cc)
  targeted p vs x c us ws u f t a (v ∷ bs) types under b e is pop room st l r =
      let q = record p { values = bs } in
      let same : v.type ≡ u = cc in
      let rest : ws ≡ types_of bs = ap stand.others under in
      let site = site_of x c u us (signature_of g.system u f) in
      let is_model = ap (λ (w : EntityType). calls_on g.system me x v.value w (feature_named g.system w.class x) a q) same ∙ ap (λ o. calls_on g.system me x v.value u o a q) b in
      subst (Follows g me pc tail (record p { values = vs })) (sym is_model)
      (on_follows (record p { values = vs }) q x c us u f t v.value a e types is
      (ap (λ o. machine.calls_feature g.system g.code me site o (state_at pc tail (record p { values = vs }))) pop)
      (subst (λ w. Room g (with_type t w) 0) rest room)
      (subst (λ w. StandsFor g (pc + 1) (Known p.text (scope_of p.environment) (types_of p.olds) (with_type t w)) p.tasks) rest st) l r)

  pub calls_feature_follows : (p : Point) (vs : List Operand) (x : List ℕ) (c : ℕ) (us ws : List EntityType) (u : EntityType) (f : DeclaredFeature) (t : Option EntityType)
      → types_popped c [] (types_of vs) ≡ Some (us, u ∷ ws) → feature_named g.system u.class x ≡ Some f → given_by (signature_of g.system u f).gives ≡ Some t
      → Is g pc (CallFeature (site_of x c u us (signature_of g.system u f)))
      → Room g (with_type t ws) 0 → StandsFor g (pc + 1) (Known p.text (scope_of p.environment) (types_of p.olds) (with_type t ws)) p.tasks
      → length p.environment + length tail ≡ g.slots → type_at p.result ≡ g.result
      → Follows g me pc tail (record p { values = vs }) (calls_qualified g.system me x (model.popped c [] vs) (record p { values = vs }))
  calls_feature_follows p vs x c us ws u f t pop b e is room st l r =
      elim (model.popped c [] vs) as (λ o. model.popped c [] vs ≡ o → Follows g me pc tail (record p { values = vs }) (calls_qualified g.system me x o (record p { values = vs }))) [
        | None ↦ λ here. absurd (let h : types_both None ≡ Some (us, u ∷ ws) = sym (ap types_both here) ∙ sym (types_of_popped c [] vs) ∙ pop in cc)
        | Some ab ↦ λ here.
            let both : Some (types_of ab.0, types_of ab.1) ≡ Some (us, u ∷ ws) = sym (ap types_both here) ∙ sym (types_of_popped c [] vs) ∙ pop in
            targeted p vs x c us ws u f t ab.0 ab.1 (ap first_of (sym both)) (ap second_of (sym both)) b e is
            (values_of_popped c [] vs ∙ ap values_both here) room st l r
      ] refl
