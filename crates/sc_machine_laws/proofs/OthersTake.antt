-- What comes of a clause's request as it is taken: it runs, or its poster is answered, or is told that it won't be.
use Rattle.std.proofs.Common.{ℕ, ◌≡◌, ◌≢◌, ◌<◌, ◌==◌, Bool, true, false, List, [], ◌∷◌, Option, Some, None, refl, sym, ap, subst, ◌∙◌, inl}
use Rattle.std.proofs.lemmas.List.Elements.{Contains-append_left}
use Rattle.std.specs.Prelude.{Contains, if◌then◌else◌, length, nat_lt}
use Rattle.std.specs.Option.{option_and_then}
use Rattle.sc_tree.specs.Plain as tree
use Rattle.sc_tree.specs.Plain.{System, DeclaredType, FeatureKind}
use Rattle.sc_class.specs.Tables.Features.{DeclaredFeature, named_among, features}
use Rattle.sc_rules.specs.declared.entity_types.entity_type.EntityType.{EntityType}
use Rattle.sc_rules.specs.Names.{RoutineName}
use Rattle.sc_rules.specs.Types.{declared_type}
use Rattle.sc_model.specs.declared.cause.Cause.{Cause}
use Rattle.sc_model.specs.declared.cause.Cause.TheVariants as cause
use Rattle.sc_model.specs.Entries.{entry, enters, enters_bound}
use Rattle.sc_model.specs.Environments.{Binding, binding_named, formals_bound}
use Rattle.sc_model.specs.Exits.{is_unset_value}
use Rattle.sc_model.specs.Failures.{fails_with, requests_at}
use Rattle.sc_model.specs.Handlers.{Request, Requested, Frame, Handler, World, put, with_stack}
use Rattle.sc_model.specs.Limits.{max_frames}
use Rattle.sc_model.specs.Objects.{Object, object_numbered}
use Rattle.sc_model.specs.Routines.{Routine, routine_named, routine_of, version_of}
use Rattle.sc_model.specs.Takes.{replies, takes, takes_kind, takes_version}
use Rattle.sc_model.specs.Values.{Reference, Operand, values_of}
use Rattle.sc_machine_laws.specs.states.Fitting.{HandlerFits, IsThere, ObjectFits, RequestFits, WorldFits}
use Rattle.sc_machine_laws.specs.states.Fitting as fitting
use Rattle.sc_machine_laws.specs.states.Places.{is_routine}
use Rattle.sc_machine_laws.proofs.states.Attributes.{Attribute, attribute_found}
use Rattle.sc_machine_laws.proofs.states.Calls.{numbered_fits}
use Rattle.sc_machine_laws.proofs.states.Lists.{each_in}
use Rattle.sc_machine_laws.proofs.states.MachineFrames.{contains_first}
use Rattle.sc_machine_laws.specs.settlements.Calm.{name_of}
use Rattle.sc_machine_laws.specs.settlements.Clauses.{RunsPureIfRoutine}
use Rattle.sc_machine_laws.specs.Evaluating.{Answers}
use Rattle.sc_machine_laws.specs.Following.{AreBound, bound_in, clause_request, objects_of}
use Rattle.sc_machine_laws.proofs.OthersStack.{OnStack, is_it, routine_name}
use Rattle.sc_machine_laws.proofs.OthersRun.{Comes, Left, On, either, finish_over, on, over, lost}
use Rattle.sc_machine_laws.proofs.OthersWorlds.{fails_told, put_other, put_own}

-- ---- attributes

-- What is asked for of an attribute has its declared type.
abbrev pub IsTypedAt : System → List Object → Reference → List ℕ → Type 0
IsTypedAt s objects o x = (b : Object) (f : DeclaredFeature) (d : DeclaredType) (t : EntityType) (a : Binding) →
    object_numbered o.number objects ≡ Some b →
    version_of s o.class x ≡ Some f → f.feature.kind ≡ tree.Attribute d → declared_type s [] d ≡ Some t →
    binding_named x b.attributes ≡ Some a → a.type ≡ t

same_one : {A : Type 0} {a b : A} → Some a ≡ Some b → a ≡ b
same_one e = cc

nothing_numbered : {A : Type 0} (n : ℕ) (b : Object) (os : List Object) → os ≡ [] → object_numbered n os ≡ Some b → A
nothing_numbered n b os e f = by (n == 0) (sym (ap (λ (os : List Object). object_numbered n os) e) ∙ f)
  where
    by : {A : Type 0} → (c : Bool) → (if c then None else None) ≡ Some b → A
    by true e = cc
    by false e = cc

-- In a state that is reached so is each request for one.
pub typed_at : (s : System) (pure : RoutineName → Bool) (w : World) → WorldFits s pure w → (g : ℕ) → g < w.count →
    (q : Request) → Contains (requests_at (w.handlers g)) q →
    (x : List ℕ) → IsTypedAt s (w.handlers g).objects q.target x
typed_at s pure w fits g here q i x b f d t a b_is f_is kind t_is a_is = by fit.target_is_there
  where
    fit : RequestFits s w g q
    fit = each_in (RequestFits s w g) (requests_at (w.handlers g)) q (fits g here).requests_fit i

    found : Attribute s g x t b → a.type ≡ t
    found z = let same : a ≡ z.binding = same_one (sym a_is ∙ z.is_there) in
        ap (λ (a : Binding). a.type) same ∙ z.type_is

    of_class : b.class ≡ q.target.class → a.type ≡ t
    of_class e = found (attribute_found s g x d t b f
        (numbered_fits (ObjectFits s w g) (w.handlers g).objects q.target.number b
        (fits g here).objects_fit b_is).attributes_fit
        (ap (λ (k : ℕ). named_among x (features s k)) e ∙ f_is) kind t_is)

    by : IsThere w q.target → a.type ≡ t
    by (fitting.is_made {o = c} l j e) =
        of_class (ap (λ (b : Object). b.class)
        (same_one (sym b_is ∙ ap (λ (k : ℕ). object_numbered q.target.number (objects_of w k))
        (sym fit.is_here) ∙ j)) ∙ e)
    by (fitting.is_due l none qs t_is e one) =
        nothing_numbered q.target.number b (w.handlers g).objects (ap (objects_of w) (sym fit.is_here) ∙ none) b_is

-- ---- a request is taken

-- What is bound as a routine is entered are its formals.
abbrev pub BindsAtEntry : System → Reference → Type 0
BindsAtEntry s o = (r : Routine) (x : List ℕ) (bs : List Binding) (q : Request) → routine_named s o.class x ≡ Some r →
    AreBound s r bs → bound_in (entry o r (Requested q) bs) ≡ bs

module _ (s : System) (pure : RoutineName → Bool) (g h : ℕ) (apart : h ≢ g) (o : Reference) (x : List ℕ)
    (us : List Operand) (below : List Frame) (w : World) where
  abbrev asks : Request
  asks = clause_request h o x us

  abbrev C : World → Type 0
  C v = Comes s pure g h apart o x us below w v

  module _ (mine : o.handler ≡ g) (before : Left s pure g h apart o x us below w w)
      (runs : RunsPureIfRoutine s pure o x)
      (binds : BindsAtEntry s o) (typed : IsTypedAt s (w.handlers g).objects o x) where
    fails : (why : Cause) → C (fails_with g why (asks ∷ []) w)
    fails why = lost (inl (fails_told g h apart why (asks ∷ []) w asks
        (Contains-append_left (asks ∷ []) (requests_at (w.handlers g)) asks (contains_first asks []))
        refl refl before.failure_is))

    -- a routine is entered
    entered : (r : Routine) (bs : List Binding) → pure (name_of r) ≡ true → routine_named s o.class x ≡ Some r →
        formals_bound s r.text.formals 0 r.text.formals (values_of us) ≡ Some bs →
        On s pure g h apart o x us below w (with_stack g (entry o r (Requested asks) bs ∷ below) w)
    entered r bs p i e =
        let f : Frame = entry o r (Requested asks) bs in
        let y : Handler = record (w.handlers g) { stack = f ∷ below } in
        let own : (put g y w).handlers g ≡ y = put_own g h apart y w in
        let other : (put g y w).handlers h ≡ w.handlers h = put_other g h apart y w in
        record {
          stack_is = subst (λ (k : Handler). OnStack s pure asks o x us below k.stack) (sym own) (is_it (record {
            is_pure = p;
            origin_is = refl;
            is_for = record {
              current_is = refl;
              routine_is = i;
              bound_is = e
                  ∙ ap Some (sym (binds r x bs asks i (values_of us, e)));
            };
          }));
          objects_are = ap (λ (k : Handler). k.objects) own;
          queue_is = ap (λ (k : Handler). k.queue) own;
          top_is = refl;
          answer_is = ap (λ (k : Handler). k.answer) other ∙ before.answer_is;
          failure_is = ap (λ (k : Handler). k.failure) other ∙ before.failure_is;
        }

    enters_comes : (r : Option Routine) →
        ((z : Routine) → r ≡ Some z → (pure (name_of z) ≡ true) × (routine_named s o.class x ≡ Some z)) →
        C (enters s g o r (Requested asks) below (asks ∷ []) (values_of us) w)
    enters_comes None tells = fails cause.BadCode
    enters_comes (Some r) tells = bound (formals_bound s r.text.formals 0 r.text.formals (values_of us)) refl
      where
        bound : (b : Option (List Binding)) → formals_bound s r.text.formals 0 r.text.formals (values_of us) ≡ b →
            C (enters_bound g o r (Requested asks) below (asks ∷ []) b w)
        bound None e = fails cause.BadCode
        bound (Some bs) e = either s pure g h apart o x us below w (nat_lt (length below) max_frames) _ _
            (λ i. on (entered r bs (tells r refl).0 (tells r refl).1 e)) (λ i. fails cause.StackFull)

    -- an attribute is read
    replies_comes : (b : Object) (f : DeclaredFeature) (d : DeclaredType) →
        object_numbered o.number (w.handlers g).objects ≡ Some b → version_of s o.class x ≡ Some f →
        f.feature.kind ≡ tree.Attribute d → (t : Option EntityType) (a : Option Binding) → declared_type s [] d ≡ t →
        binding_named x b.attributes ≡ a →
        C (replies g asks t a w)
    replies_comes b f d b_is f_is kind (Some t) (Some a) t_is a_is =
        either s pure g h apart o x us below w (is_unset_value a.value t) _ _
        (λ e. fails cause.UnsetEntity)
        (λ e. over (finish_over s pure g h apart o x us below w a.value w before
        (Answers.attribute refl (ap (λ (k : ℕ). object_numbered o.number (objects_of w k)) mine ∙ b_is) f_is kind a_is
        (ap (is_unset_value a.value) (typed b f d t a b_is f_is kind t_is a_is) ∙ e))))
    replies_comes b f d b_is f_is kind (Some t) None t_is a_is = fails cause.BadCode
    replies_comes b f d b_is f_is kind None a t_is a_is = fails cause.BadCode

    version_comes : (b : Option Object) (f : Option DeclaredFeature) →
        object_numbered o.number (w.handlers g).objects ≡ b → version_of s o.class x ≡ f →
        C (takes_version s g asks x below b f w)
    version_comes (Some b) (Some f) b_is f_is = kind f.feature.kind refl
      where
        kind : (k : FeatureKind) → f.feature.kind ≡ k → C (takes_kind s g asks x below b f k w)
        kind (tree.Attribute d) e = replies_comes b f d b_is f_is e (declared_type s [] d)
            (binding_named x b.attributes) refl refl
        kind (tree.Routine c) e = enters_comes (routine_of s f) (λ r i. (
          ap pure (routine_name s f r i) ∙ runs f f_is (ap is_routine e),
          ap (option_and_then (routine_of s)) f_is ∙ i,
        ))
    version_comes (Some b) None b_is f_is = fails cause.BadCode
    version_comes None f b_is f_is = fails cause.BadCode

    pub takes_comes : C (takes s g asks below w)
    takes_comes = either s pure g h apart o x us below w (o.handler == g) _ _
        (λ e. version_comes (object_numbered o.number (w.handlers g).objects) (version_of s o.class x) refl refl)
        (λ e. fails cause.ForeignObject)
