-- What a turn leaves of another handler, and how an answer comes there.
use Rattle.std.proofs.Common.{◌≡◌, ◌≢◌, ◌⊎◌, ⊎_elim, inl, inr, ℕ, ◌≤◌, ◌==◌, ◌&&◌, ◌||◌, not, Bool, true, false, List, [], ◌∷◌, ◌++◌, Option, Some, None, length, refl, sym, ap, ◌∙◌, subst, arith}
use Rattle.std.specs.Prelude.{if◌then◌else◌, nat_lt, is_some}
use Rattle.std.specs.List.{list_any}
use Rattle.std.specs.Option.{option_map}
use Rattle.std.proofs.lemmas.Bool.{eq-eqb, eqb-true, ne_eqb}
use Rattle.sc_tree.specs.Plain as tree
use Rattle.sc_tree.specs.Plain.{System, FeatureKind, DeclaredType}
use Rattle.sc_class.specs.Tables.Features.{DeclaredFeature}
use Rattle.sc_rules.specs.declared.entity_types.entity_type.EntityType.{EntityType}
use Rattle.sc_rules.specs.Types.{declared_type}
use Rattle.sc_lockpass.specs.Rights.{Rights, is_handler}
use Rattle.sc_lockpass.specs.Passing.{Passed}
use Rattle.sc_lockpass.specs.wait_conditions.Reservations.{ends_session, reserve_fails}
use Rattle.sc_lockpass.specs.declared.wait_conditions.condition.EntryVerdict.{EntryVerdict}
use Rattle.sc_lockpass.specs.declared.wait_conditions.condition.EntryVerdict.TheVariants as verdict
use Rattle.sc_lockpass.specs.declared.wait_conditions.session.Release.TheVariants as release_at
use Rattle.sc_model.specs.declared.cause.Cause.{Cause}
use Rattle.sc_model.specs.declared.cause.Cause.TheVariants as cause
use Rattle.sc_model.specs.Values.{Reference, Value, Operand}
use Rattle.sc_model.specs.Environments.{Binding, binding_named, formals_bound}
use Rattle.sc_model.specs.Objects.{Object, object_numbered, fresh_object}
use Rattle.sc_model.specs.Invariants.{meets_invariant}
use Rattle.sc_model.specs.Routines.{Routine, routine_named, routine_of, version_of}
use Rattle.sc_model.specs.Limits.{max_frames}
use Rattle.sc_model.specs.Handlers.{Errand, Calls, Makes, Request, Answer, Reply, Failed, Refused, Origin, Called, Requested, Frame, Handler, World, put, with_stack}
use Rattle.sc_model.specs.Sessions.{session_ended, standing_in}
use Rattle.sc_model.specs.Answers.{heard, answered, answer_to, return_rights, finish}
use Rattle.sc_model.specs.Failures.{is_waited_by, requests_at, told, fallen, fails_with, fail}
use Rattle.sc_model.specs.Entries.{entry, enters_bound, enters, reserves_if}
use Rattle.sc_model.specs.Preconditions.{waits_again, is_creation, object_meets, counted_refusal, refuses, correctness_fails, false_clause}
use Rattle.sc_model.specs.Exits.{is_unset_value, is_unset, is_untested, handed, handed_as, leaves_to, exits, leaves_block}
use Rattle.sc_model.specs.Takes.{replies, takes_kind, takes_version, takes_creation, with_new_object, takes_errand, released_if, takes_answer}
use Rattle.sc_machine_laws.proofs.RestingHandlers.{Rests, Same, ended_answer, ended_rests, fallen_dead, put_at, put_queue, put_same, release_same, reserve_same, rests_again, rests_same, same_again, stack_same, still, told_rests}

-- ---- what may answer

-- how the answer comes of the handler that was so
pub data Heard (g k : ℕ) (Why : Request → Answer → Type 0) (x : Handler) (v : World) : Type 0 where
  same : (v.handlers k).answer ≡ x.answer → Heard g k Why x v
  told_so : is_some (v.handlers g).failure ≡ true → (v.handlers k).answer ≡ heard Failed x.failure x.answer →
      Heard g k Why x v
  ended : {r : Request} {a : Answer} → r.is_waited ≡ true → r.poster ≡ Some k → Why r a →
      (v.handlers k).answer ≡ heard a x.failure x.answer
      → Heard g k Why x v

module _ (g k : ℕ) (ne : k ≢ g) (Why : Request → Answer → Type 0) where
  pub record Comes (w v : World) : Type 0 where
    pub rests : Rests (w.handlers k) (v.handlers k)
    pub heard : Heard g k Why (w.handlers k) v
    pub count : w.count ≤ v.count
    pub own : ((v.handlers g).queue ≡ (w.handlers g).queue) ⊎ (is_some (v.handlers g).failure ≡ true)

  pub same_comes : {w v : World} → Same g k ne w v → Comes w v
  same_comes s = record { rests = s.rests; heard = same s.answer; count = s.count; own = inl s.own }

  pub heard_after : {u w v : World} → Same g k ne u w → Heard g k Why (w.handlers k) v → Heard g k Why (u.handlers k) v
  heard_after s (same e) = same (e ∙ s.answer)
  heard_after {w} s (told_so dead e) =
      told_so dead (e ∙ ap (λ o. heard Failed o (w.handlers k).answer) s.rests.failure ∙ ap (heard Failed _) s.answer)
  heard_after {w} s (ended {r} {a} waited poster why e) =
      ended waited poster why (e ∙ ap (λ o. heard a o (w.handlers k).answer) s.rests.failure ∙ ap (heard a _) s.answer)

  pub comes_after : {u w v : World} → Same g k ne u w → Comes w v → Comes u v
  comes_after s c = record {
    rests = rests_again s.rests c.rests;
    heard = heard_after s c.heard;
    count = let l = s.count in let m = c.count in omega (arith, l, m);
    own = ⊎_elim (λ e. inl (e ∙ s.own)) (λ d. inr d) c.own;
  }

  pub if_comes : (w : World) (b : Bool) (x y : World) → (b ≡ true → Comes w x) → (b ≡ false → Comes w y) →
      Comes w (if b then x else y)
  if_comes w true x y p q = p refl
  if_comes w false x y p q = q refl

  fails_comes : (why : Cause) (taken : List Request) (w : World) → Comes w (fails_with g why taken w)
  fails_comes why taken w = record {
    rests = subst (Rests (w.handlers k)) (sym here)
        (rests_again (told_rests (list_any (is_waited_by k) (taken ++ requests_at (w.handlers g))) (w.handlers k))
        (ended_rests (ends_session release_at.Failure && is_handler g (w.rights.queue k))
        (told (list_any (is_waited_by k) (taken ++ requests_at (w.handlers g))) (w.handlers k))));
    heard = hears (list_any (is_waited_by k) (taken ++ requests_at (w.handlers g))) refl;
    count = omega arith;
    own = inr dead;
  }
    where
      here : (fails_with g why taken w).handlers k ≡ session_ended
          (ends_session release_at.Failure && is_handler g (w.rights.queue k))
          (told (list_any (is_waited_by k) (taken ++ requests_at (w.handlers g))) (w.handlers k))
      here = ap (λ (b : Bool). session_ended (ends_session release_at.Failure && is_handler g (w.rights.queue k))
          (if b then fallen why (w.handlers k) else told
          (list_any (is_waited_by k) (taken ++ requests_at (w.handlers g))) (w.handlers k))) (ne_eqb k g ne)

      dead : is_some ((fails_with g why taken w).handlers g).failure ≡ true
      dead = ap (λ (b : Bool). is_some
          (session_ended (ends_session release_at.Failure && is_handler g (w.rights.queue g))
          (if b then fallen why (w.handlers g) else told
          (list_any (is_waited_by g) (taken ++ requests_at (w.handlers g))) (w.handlers g))).failure) (eq-eqb g g refl)
          ∙ fallen_dead (ends_session release_at.Failure && is_handler g (w.rights.queue g)) why (w.handlers g)

      hears : (d : Bool) → (list_any (is_waited_by k) (taken ++ requests_at (w.handlers g))) ≡ d →
          Heard g k Why (w.handlers k) (fails_with g why taken w)
      hears true e = told_so dead
          (ap (λ (y : Handler). y.answer) here
          ∙ ended_answer (ends_session release_at.Failure && is_handler g (w.rights.queue k))
          (told (list_any (is_waited_by k) (taken ++ requests_at (w.handlers g))) (w.handlers k))
          ∙ ap (λ (d : Bool). (told d (w.handlers k)).answer) e)
      hears false e = same (ap (λ (y : Handler). y.answer) here
          ∙ ended_answer (ends_session release_at.Failure && is_handler g (w.rights.queue k))
          (told (list_any (is_waited_by k) (taken ++ requests_at (w.handlers g))) (w.handlers k))
          ∙ ap (λ (d : Bool). (told d (w.handlers k)).answer) e)

  pub fail_comes : (why : Cause) (w : World) → Comes w (fail g why w)
  fail_comes why w = fails_comes why [] w

  -- the poster j of the request is answered
  answer_comes : (r : Request) (a : Answer) (j : ℕ) (w : World) → r.is_waited ≡ true → r.poster ≡ Some j → Why r a
      → Comes w (put j (answered a (w.handlers j)) w)
  answer_comes r a j w waited poster why = by (put_at j k (answered a) w)
    where
      own : ((put j (answered a (w.handlers j)) w).handlers g).queue ≡ (w.handlers g).queue
      own = put_queue j g (answered a) w (λ x. refl)

      by : ((k ≡ j) × ((put j (answered a (w.handlers j)) w).handlers k ≡ answered a (w.handlers k)))
          ⊎ ((put j (answered a (w.handlers j)) w).handlers k ≡ w.handlers k) →
          Comes w (put j (answered a (w.handlers j)) w)
      by (inl (e, here)) = record {
        rests = subst (Rests (w.handlers k)) (sym here)
            (record { objects = refl; stack = refl; failure = refl; queue = refl; callback = refl });
        heard = ended waited (poster ∙ ap Some (sym e)) why (ap (λ (y : Handler). y.answer) here);
        count = omega arith;
        own = inl own;
      }
      by (inr e) = record {
        rests = rests_same (w.handlers k) ((put j (answered a (w.handlers j)) w).handlers k) e;
        heard = same (ap (λ (y : Handler). y.answer) e);
        count = omega arith;
        own = inl own;
      }

  finish_comes : (r : Request) (a : Answer) (w : World) → Why r a → Comes w (finish r a w)
  finish_comes r a w why = by r.is_waited r.poster refl refl r.passed
    where
      on_rights : (x : Rights) (v : World) → Comes (record w { rights = x }) v → Comes w v
      on_rights x v c = record { rests = c.rests; heard = c.heard; count = c.count; own = c.own }

      by : (b : Bool) (p : Option ℕ) → r.is_waited ≡ b → r.poster ≡ p → (o : Option Passed) →
          Comes w (answer_to b p a (return_rights o w))
      by true (Some j) waited poster None = answer_comes r a j w waited poster why
      by true (Some j) waited poster (Some x) = on_rights (return_rights (Some x) w).rights
          (answer_to true (Some j) a (return_rights (Some x) w))
          (answer_comes r a j (return_rights (Some x) w) waited poster why)
      by true None waited poster None = same_comes (still g k ne w)
      by true None waited poster (Some x) = on_rights (return_rights (Some x) w).rights (return_rights (Some x) w)
          (same_comes (still g k ne (return_rights (Some x) w)))
      by false p waited poster None = same_comes (still g k ne w)
      by false p waited poster (Some x) = on_rights (return_rights (Some x) w).rights (return_rights (Some x) w)
          (same_comes (still g k ne (return_rights (Some x) w)))

  -- ---- entering

  bound_comes : (me : Reference) (r : Routine) (o : Origin) (below : List Frame) (taken : List Request)
      (bs : Option (List Binding)) (w : World)
      → Comes w (enters_bound g me r o below taken bs w)
  bound_comes me r o below taken None w = fails_comes cause.BadCode taken w
  bound_comes me r o below taken (Some bs) w = if_comes w (nat_lt (length below) max_frames) _ _
      (λ e. same_comes (stack_same g k ne (entry me r o bs ∷ below) w)) (λ e. fails_comes cause.StackFull taken w)

  pub enters_comes : (s : System) (me : Reference) (r : Option Routine) (o : Origin) (below : List Frame)
      (taken : List Request) (vs : List Value)
      (w : World) → Comes w (enters s g me r o below taken vs w)
  enters_comes s me None o below taken vs w = fails_comes cause.BadCode taken w
  enters_comes s me (Some r) o below taken vs w = bound_comes me r o below taken
      (formals_bound s r.text.formals 0 r.text.formals vs) w

  pub reserves_comes : (b : Bool) (ks : List ℕ) (f : Frame) (below : List Frame) (w : World) →
      Comes w (reserves_if b g ks f below w)
  reserves_comes false ks f below w = same_comes (still g k ne w)
  reserves_comes true ks f below w = if_comes w (reserve_fails (standing_in w) w.rights ks) _ _
      (λ e. fail_comes cause.SupplierFailed w)
      (λ e. same_comes (same_again g k ne (stack_same g k ne (f ∷ below) w)
      (reserve_same g k ne ks (with_stack g (f ∷ below) w))))

  -- ---- preconditions

  waits_again_comes : (f : Frame) (below : List Frame) (w : World) → Comes w (waits_again g f below w)
  waits_again_comes f below w =
      same_comes (same_again g k ne (stack_same g k ne _ w)
      (release_same g k ne release_at.FalseWaitCondition f.reserved _))

  counted_queue : (b : Bool) (x : Handler) (below : List Frame) →
      (counted_refusal b (record x { stack = below })).queue ≡ x.queue
  counted_queue true x below = refl
  counted_queue false x below = refl

  refuses_comes : (s : System) (r : Request) (f : Frame) (below : List Frame) (w : World) → Why r Refused →
      Comes w (refuses s g r f below w)
  refuses_comes s r f below w why =
      if_comes w (is_creation r.errand && not
      (object_meets s (object_numbered f.current.number (w.handlers g).objects))) _ _
      (λ e. fail_comes cause.Invariant w)
      (λ e. comes_after (same_again g k ne
      (put_same g k ne (counted_refusal r.is_waited (record (w.handlers g) { stack = below })) w
      (counted_queue r.is_waited (w.handlers g) below))
      (release_same g k ne release_at.Refusal f.reserved _)) (finish_comes r Refused _ why))

  correctness_comes : (s : System) (o : Origin) (f : Frame) (below : List Frame) (w : World) →
      ((r : Request) → o ≡ Requested r → Why r Refused)
      → Comes w (correctness_fails s g o f below w)
  correctness_comes s (Called c) f below w why = fail_comes cause.Precondition w
  correctness_comes s (Requested r) f below w why = refuses_comes s r f below w (why r refl)

  pub clause_comes : (v : EntryVerdict) (s : System) (f : Frame) (below : List Frame) (w : World) →
      ((r : Request) → f.origin ≡ Requested r → Why r Refused)
      → Comes w (false_clause v s g f below w)
  clause_comes verdict.Wait s f below w why = waits_again_comes f below w
  clause_comes verdict.Refuse s f below w why = correctness_comes s f.origin f below w why
  clause_comes verdict.Start s f below w why = fail_comes cause.BadCode w

  -- ---- exits

  leaves_comes : (o : Origin) (ks : List ℕ) (v : Option Value) (below : List Frame) (w : World) →
      ((r : Request) → o ≡ Requested r → Why r (Reply v))
      → Comes w (leaves_to g o ks v below w)
  leaves_comes (Called c) ks v below w why =
      same_comes (same_again g k ne (stack_same g k ne (handed v below) w) (release_same g k ne release_at.Exit ks _))
  leaves_comes (Requested r) ks v below w why =
      comes_after (same_again g k ne (stack_same g k ne below w) (release_same g k ne release_at.Exit ks _))
      (finish_comes r (Reply v) _ (why r refl))

  pub exits_comes : (s : System) (f : Frame) (below : List Frame) (w : World)
      → ((r : Request) → f.origin ≡ Requested r → Why r (Reply (option_map (λ (u : Operand). u.value) f.result))) →
      Comes w (exits s g f below w)
  exits_comes s f below w why = if_comes w (is_unset f.result) _ _ (λ e. fail_comes cause.UnsetEntity w)
      (λ e. if_comes w (is_untested f.origin || object_meets s
      (object_numbered f.current.number (w.handlers g).objects)) _ _
      (λ i. leaves_comes f.origin f.reserved (option_map (λ (u : Operand). u.value) f.result) below w why)
      (λ i. fail_comes cause.Invariant w))

  pub block_comes : (kss : List (List ℕ)) (f : Frame) (below : List Frame) (w : World) →
      Comes w (leaves_block g kss f below w)
  block_comes [] f below w = fail_comes cause.BadCode w
  block_comes (ks ∷ kss) f below w =
      same_comes (same_again g k ne (stack_same g k ne (record f { blocks = kss } ∷ below) w)
      (release_same g k ne release_at.Leave ks _))

  -- ---- taking

  replies_comes : (r : Request) (t : Option EntityType) (b : Option Binding) (w : World)
      → ((x : EntityType) (y : Binding) → t ≡ Some x → b ≡ Some y → is_unset_value y.value x ≡ false →
      Why r (Reply (Some y.value)))
      → Comes w (replies g r t b w)
  replies_comes r (Some t) (Some b) w why = if_comes w (is_unset_value b.value t) _ _
      (λ e. fails_comes cause.UnsetEntity (r ∷ []) w)
      (λ e. finish_comes r (Reply (Some b.value)) w (why t b refl refl e))
  replies_comes r (Some t) None w why = fails_comes cause.BadCode (r ∷ []) w
  replies_comes r None b w why = fails_comes cause.BadCode (r ∷ []) w

  kind_comes : (s : System) (r : Request) (x : List ℕ) (below : List Frame) (o : Object) (f : DeclaredFeature)
      (c : FeatureKind) (w : World)
      → ((d : DeclaredType) (t : EntityType) (y : Binding) → c ≡ tree.Attribute d → declared_type s [] d ≡ Some t →
      binding_named x o.attributes ≡ Some y
      → is_unset_value y.value t ≡ false → Why r (Reply (Some y.value)))
      → Comes w (takes_kind s g r x below o f c w)
  kind_comes s r x below o f (tree.Attribute d) w why = replies_comes r (declared_type s [] d)
      (binding_named x o.attributes) w (λ t y i j set. why d t y refl i j set)
  kind_comes s r x below o f (tree.Routine c) w why = enters_comes s r.target (routine_of s f) (Requested r) below
      (r ∷ []) r.actuals w

  version_comes : (s : System) (r : Request) (x : List ℕ) (below : List Frame) (o : Option Object)
      (f : Option DeclaredFeature) (w : World)
      → ((p : Object) (q : DeclaredFeature) (d : DeclaredType) (t : EntityType) (y : Binding) → o ≡ Some p →
      f ≡ Some q → q.feature.kind ≡ tree.Attribute d
      → declared_type s [] d ≡ Some t → binding_named x p.attributes ≡ Some y → is_unset_value y.value t ≡ false →
      Why r (Reply (Some y.value)))
      → Comes w (takes_version s g r x below o f w)
  version_comes s r x below (Some o) (Some f) w why = kind_comes s r x below o f f.feature.kind w
      (λ d t y i j l set. why o f d t y refl refl i j l set)
  version_comes s r x below (Some o) None w why = fails_comes cause.BadCode (r ∷ []) w
  version_comes s r x below None f w why = fails_comes cause.BadCode (r ∷ []) w

  creation_comes : (s : System) (r : Request) (c : Option (List ℕ)) (below : List Frame) (w : World) →
      (c ≡ None → Why r (Reply None))
      → Comes w (takes_creation s g r c below w)
  creation_comes s r (Some x) below w why = enters_comes s r.target (routine_named s r.target.class x)
      (Requested r) below (r ∷ []) r.actuals w
  creation_comes s r None below w why = if_comes w (meets_invariant s (fresh_object s r.target.class)) _ _
      (λ e. finish_comes r (Reply None) w (why refl))
      (λ e. fails_comes cause.Invariant (r ∷ []) w)

  -- what answers at once
  pub record AtOnce (s : System) (w : World) (r : Request) (e : Errand) : Type 0 where
    pub attribute : (x : List ℕ) (p : Object) (q : DeclaredFeature) (d : DeclaredType) (t : EntityType) (y : Binding) →
        e ≡ Calls x → r.target.handler ≡ g
        → object_numbered r.target.number (w.handlers g).objects ≡ Some p → version_of s r.target.class x ≡ Some q →
        q.feature.kind ≡ tree.Attribute d
        → declared_type s [] d ≡ Some t → binding_named x p.attributes ≡ Some y → is_unset_value y.value t ≡ false →
        Why r (Reply (Some y.value))
    pub made : e ≡ Makes None → Why r (Reply None)

  pub errand_comes : (s : System) (r : Request) (e : Errand) (below : List Frame) (w : World) → AtOnce s w r e →
      Comes w (takes_errand s g r e below w)
  errand_comes s r (Makes c) below w why =
      comes_after (put_same g k ne
      (record (w.handlers g) { objects = (w.handlers g).objects ++ fresh_object s r.target.class ∷ [] }) w refl)
      (creation_comes s r c below (with_new_object s g r.target.class w) (λ e. why.made (ap Makes e)))
  errand_comes s r (Calls x) below w why = if_comes w (r.target.handler == g) _ _
      (λ e. version_comes s r x below (object_numbered r.target.number (w.handlers g).objects)
      (version_of s r.target.class x) w
      (λ p q d t y i j l m n set. why.attribute x p q d t y refl (eqb-true r.target.handler g e) i j l m n set))
      (λ e. fails_comes cause.ForeignObject (r ∷ []) w)

  released_if_comes : (b : Bool) (j : ℕ) (w : World) → Same g k ne w (released_if b j w)
  released_if_comes false j w = still g k ne w
  released_if_comes true j w = release_same g k ne release_at.Creation (j ∷ []) w

  pub takes_answer_comes : (a : Answer) (j : ℕ) (t : Option EntityType) (b : Bool) (f : Frame)
      (below : List Frame) (w : World)
      → Comes w (takes_answer g a j t b f below w)
  takes_answer_comes (Reply v) j t b f below w = same_comes (same_again g k ne
      (put_same g k ne (record (w.handlers g) { stack = handed_as t v f ∷ below; answer = None }) w refl)
      (released_if_comes b j _))
  takes_answer_comes Failed j t b f below w = fail_comes cause.SupplierFailed w
  takes_answer_comes Refused j t b f below w = fail_comes cause.Precondition w
