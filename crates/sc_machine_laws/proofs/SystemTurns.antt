-- Each turn of an accepted system keeps what is kept of the handlers that have not failed.
use Rattle.std.proofs.Common.{ℕ, ◌≡◌, ◌⊎◌, inl, inr, ◌<◌, ◌==◌, ◌+◌, Bool, true, false, List, [], ◌∷◌, ◌++◌, Option, Some, None, length, refl, sym, ap, subst, ◌∙◌}
use Rattle.std.proofs.lemmas.Bool.{eq-eqb, ltb-true}
use Rattle.std.specs.Prelude.{if◌then◌else◌, nat_lt}
use Rattle.sc_tree.specs.Plain as tree
use Rattle.sc_tree.specs.Plain.{System, Clause, FeatureKind}
use Rattle.sc_class.specs.ClassNames.{Root}
use Rattle.sc_class.specs.Faults.ClassRules.{IsFaultless}
use Rattle.sc_class.specs.Tables.Features.{DeclaredFeature, feature_named}
use Rattle.sc_class.specs.declared.identity.ClassId.TheVariants as class
use Rattle.sc_rules.specs.declared.entity_types.entity_type.EntityType.{EntityType}
use Rattle.sc_rules.specs.Names.{RoutineName}
use Rattle.sc_rules.specs.Purity.{IsPurity}
use Rattle.sc_rules.specs.SystemRules.{WellFormed}
use Rattle.sc_rules.specs.Types.{declared_type}
use Rattle.sc_rules.specs.Versions.{IsVersion, Version}
use Rattle.sc_rules.proofs.PureHeirs.{versions_stay_pure}
use Rattle.sc_rules.proofs.PurityLaws.{pure_is_closed}
use Rattle.sc_lockpass.specs.wait_conditions.Reservations.{reserve_fails}
use Rattle.sc_lockpass.specs.declared.wait_conditions.session.Release.TheVariants as release_at
use Rattle.sc_model.specs.declared.cause.Cause.{Cause}
use Rattle.sc_model.specs.declared.cause.Cause.TheVariants as cause
use Rattle.sc_model.specs.Values.{Reference, Operand}
use Rattle.sc_model.specs.Environments.{Binding, binding_named}
use Rattle.sc_model.specs.Objects.{Object, object_numbered, fresh_object}
use Rattle.sc_model.specs.Invariants.{meets_invariant}
use Rattle.sc_model.specs.Routines.{Routine, Text, version_of, routine_named, routine_of}
use Rattle.sc_model.specs.Tasks.{tasks_of}
use Rattle.sc_model.specs.Steps.{Unqualified, Act, Enters, Refuses, Step, Goes, Does}
use Rattle.sc_model.specs.Moves.{moves}
use Rattle.sc_model.specs.Handlers.{Errand, Calls, Makes, Request, Answer, Reply, Failed, Refused, Requested, Stage, Runs, Reserves, ReservesBlock, InCall, Awaits, Frame, Handler, World, point_of, put}
use Rattle.sc_model.specs.Sessions.{standing_in}
use Rattle.sc_model.specs.Entries.{entry, entry_needs, block_needs, may_reserve, reserves_if}
use Rattle.sc_model.specs.Preconditions.{is_creation}
use Rattle.sc_model.specs.Exits.{is_unset_value, handed_as}
use Rattle.sc_model.specs.Takes.{replies, takes_kind, takes_version, takes_creation, with_new_object, takes_errand, takes, takes_next, released_if, takes_answer}
use Rattle.sc_model.specs.Turns.{settles, waits, goes_on, turn_with, turn}
use Rattle.sc_machine_laws.specs.states.Fitting.{WorldFits, FrameFits}
use Rattle.sc_machine_laws.specs.states.Points.{Each}
use Rattle.sc_machine_laws.specs.states.ValueSteps.{ActFits, StepFits}
use Rattle.sc_machine_laws.proofs.states.Frames.{running_frames_move}
use Rattle.sc_machine_laws.proofs.states.Routines.{is_run}
use Rattle.sc_machine_laws.proofs.states.RoutinePoints.{in_text}
use Rattle.sc_machine_laws.proofs.Modes.{IsVersionOf, IsWildAs, StandsAs, name_of, routine_begins, routine_found, version_found}
use Rattle.sc_machine_laws.proofs.Moves.{CallsSo, StepMoves, turn_moves}
use Rattle.sc_machine_laws.proofs.FreeNames.{CallsPure, is_routine}
use Rattle.sc_machine_laws.proofs.Stacks.{AllCalls, CallsIfAny, Good, GoodAt, MakesFirst, Stands, add_new, calls_alone, handed_as_good, push, push_new, requested_linked, retop}
use Rattle.sc_machine_laws.proofs.GoodHandlers.{AllGood, Others, either, enters_all, fails_all, finish_all, others_put, put_all, release_all, stack_all, with_own}
use Rattle.sc_machine_laws.proofs.Turns.{acts_now}

same_some : {A : Type 0} {x y : A} → Some x ≡ Some y → x ≡ y
same_some e = cc

-- a version of an attribute is one
same_kinds : (s : System) (m k : FeatureKind) → IsVersion s m k → is_routine m ≡ true → is_routine k ≡ true
same_kinds s (tree.Attribute d) k is e = cc
same_kinds s (tree.Routine c) (tree.Routine d) is e = refl
same_kinds s (tree.Routine c) (tree.Attribute d) is e = elim is [ ]

module _ (s : System) (root : Root) (pure : RoutineName → Bool) (faultless : IsFaultless s root) (well : WellFormed s) (tells : IsPurity s pure) where
  begin : (k : ℕ) (x : List ℕ) (q : Routine) → routine_named s k x ≡ Some q → StandsAs s pure q q.contract.class (tasks_of q)
  begin k x q e = routine_begins s root pure faultless well tells k x q (routine_found s k x q e)

  -- What is called by a name of pure functions alone is one.
  called_pure : (r : Routine) (me : Reference) → routine_named s me.class r.name ≡ Some r → (t : Text) → (t ≡ r.text) ⊎ (t ≡ r.contract) → (x : List ℕ) →
      CallsPure s pure t.class x → (g : DeclaredFeature) → feature_named s (class.Declared t.class) x ≡ Some g → (q : Routine) → routine_named s me.class x ≡ Some q →
      pure (name_of q) ≡ true
  called_pure r me is t text x c g there q found =
      let run = is_run s root pure faultless well tells r me is in
      let heir = (in_text s pure r me run t text).heir in
      let v : IsVersionOf s me.class x q = routine_found s me.class x q found in
      let u : Version s me.class x g.feature.kind = run.heirs me.class t.class x g heir there in
      let same : u.feature ≡ v.feature = same_some (sym u.is_there ∙ v.is_version) in
      let routine : is_routine g.feature.kind ≡ true =
      same_kinds s u.feature.feature.kind g.feature.kind u.fits (ap (λ (d : DeclaredFeature). is_routine d.feature.kind) same ∙ v.is_one) in
      ap pure v.has_name
      ∙ versions_stay_pure s pure (pure_is_closed s pure tells) me.class t.class x g v.feature heir there v.is_version (c g there routine)

  -- ---- a request is taken

  module _ (h : ℕ) where
    replies_all : (r : Request) (t : Option EntityType) (b : Option Binding) (v : World) → AllGood s pure h v → AllGood s pure h (replies h r t b v)
    replies_all r (Some t) (Some b) v g = either s pure (AllGood s pure h) (is_unset_value b.value t) _ _
        (λ i. fails_all s pure h cause.UnsetEntity (r ∷ []) v (λ k n. g k)) (λ i. finish_all s pure h r (Reply (Some b.value)) v g)
    replies_all r (Some t) None v g = fails_all s pure h cause.BadCode (r ∷ []) v (λ k n. g k)
    replies_all r None b v g = fails_all s pure h cause.BadCode (r ∷ []) v (λ k n. g k)

    module _ (r : Request) (below : List Frame) (v : World) (x : Handler) (own_is : v.handlers h ≡ x) (others : Others s pure h v)
        (good : GoodAt s pure x.objects below x.queue x.callback) (stack_is : x.stack ≡ below) (calls : AllCalls x.queue)
        (new : is_creation r.errand ≡ true → (x.objects ≡ []) × (r.target.number ≡ 1)) where
      own_good : Good s pure x
      own_good n = subst (λ (st : List Frame). GoodAt s pure x.objects st x.queue x.callback) (sym stack_is) good

      all_good : AllGood s pure h v
      all_good = with_own s pure h v others (subst (Good s pure) (sym own_is) own_good)

      version_all : (y : List ℕ) (o : Option Object) (f : Option DeclaredFeature) → version_of s r.target.class y ≡ f → AllGood s pure h (takes_version s h r y below o f v)
      version_all y (Some o) (Some f) e = by f.feature.kind
        where
          entered : (q : Routine) (bs : List Binding) → routine_of s f ≡ Some q → GoodAt s pure x.objects (entry r.target q (Requested r) bs ∷ below) x.queue x.callback
          entered q bs i = push s pure x.queue x.callback x.objects (entry r.target q (Requested r) bs) below
              (routine_begins s root pure faultless well tells r.target.class y q (version_found s r.target.class y f q e i))
              (requested_linked s pure r r.target.number (name_of q) below) calls good

          by : (k : FeatureKind) → AllGood s pure h (takes_kind s h r y below o f k v)
          by (tree.Attribute d) = replies_all r (declared_type s [] d) (binding_named y o.attributes) v all_good
          by (tree.Routine c) = enters_all s pure h r.target (routine_of s f) (Requested r) below (r ∷ []) r.actuals v x own_is others (λ q bs i n. entered q bs i)
      version_all y (Some o) None e = fails_all s pure h cause.BadCode (r ∷ []) v others
      version_all y None f e = fails_all s pure h cause.BadCode (r ∷ []) v others

      -- an object is made
      module _ (one : is_creation r.errand ≡ true) where
        abbrev made : Handler
        made = record x { objects = x.objects ++ fresh_object s r.target.class ∷ [] }

        abbrev made_in : World
        made_in = with_new_object s h r.target.class v

        made_is : made_in.handlers h ≡ made
        made_is = ap (λ (b : Bool). if b then record (v.handlers h) { objects = (v.handlers h).objects ++ fresh_object s r.target.class ∷ [] } else v.handlers h) (eq-eqb h h refl)
            ∙ ap (λ (y : Handler). record y { objects = y.objects ++ fresh_object s r.target.class ∷ [] }) own_is

        made_others : Others s pure h made_in
        made_others = others_put s pure h (record (v.handlers h) { objects = (v.handlers h).objects ++ fresh_object s r.target.class ∷ [] }) v others

        first_one : r.target.number ≡ length x.objects + 1
        first_one = let z = new one in z.1 ∙ sym (ap (λ (os : List Object). length os + 1) z.0)

        creation_all : (k : Option (List ℕ)) → AllGood s pure h (takes_creation s h r k below made_in)
        creation_all (Some y) = enters_all s pure h r.target (routine_named s r.target.class y) (Requested r) below (r ∷ []) r.actuals made_in made made_is made_others
            (λ q bs i n. push_new s pure x.queue x.callback x.objects (fresh_object s r.target.class) (entry r.target q (Requested r) bs) below
            (begin r.target.class y q i) (requested_linked s pure r r.target.number (name_of q) below) calls first_one one good)
        creation_all None = either s pure (AllGood s pure h) (meets_invariant s (fresh_object s r.target.class)) _ _
            (λ e. finish_all s pure h r (Reply None) made_in (with_own s pure h made_in made_others (subst (Good s pure) (sym made_is) (λ n. tested e))))
            (λ e. fails_all s pure h cause.Invariant (r ∷ []) made_in made_others)
          where
            tested : meets_invariant s (fresh_object s r.target.class) ≡ true →
                GoodAt s pure (x.objects ++ fresh_object s r.target.class ∷ []) x.stack x.queue x.callback
            tested e = subst (λ (st : List Frame). GoodAt s pure (x.objects ++ fresh_object s r.target.class ∷ []) st x.queue x.callback) (sym stack_is)
                (add_new s pure x.queue x.callback x.objects r.target.class below calls e good)

      takes_all : AllGood s pure h (takes s h r below v)
      takes_all = by r.errand refl
        where
          by : (c : Errand) → r.errand ≡ c → AllGood s pure h (takes_errand s h r c below v)
          by (Makes k) e = creation_all (ap is_creation e) k
          by (Calls y) e = either s pure (AllGood s pure h) (r.target.handler == h) _ _
              (λ i. version_all y (object_numbered r.target.number (v.handlers h).objects) (version_of s r.target.class y) refl)
              (λ i. fails_all s pure h cause.ForeignObject (r ∷ []) v others)

  -- ---- a turn

  module _ (most h : ℕ) (w : World) (fits : WorldFits s pure w) (here : h < w.count) (all : (k : ℕ) → Good s pure (w.handlers k)) (stands : (w.handlers h).failure ≡ None) where
    others_now : Others s pure h w
    others_now k n = all k

    module _ (f : Frame) (below : List Frame) (at : (w.handlers h).stack ≡ f ∷ below) where
      abbrev Now : List Frame → Type 0
      Now st = GoodAt s pure (w.handlers h).objects st (w.handlers h).queue (w.handlers h).callback

      good_now : Now (f ∷ below)
      good_now = subst (λ (st : List Frame). Now st) at (all h stands)

      frame : FrameFits s pure w h f
      frame = (subst (Each (FrameFits s pure w h)) at (fits h here).frames_fit).0

      settles_all : f.stage ≡ Runs → AllGood s pure h (settles most s h (moves s f.current (point_of f (w.handlers h).objects)) f below w)
      settles_all r = by (moves s f.current (point_of f (w.handlers h).objects)) (turn_moves s pure f (w.handlers h).objects good_now.stand.0)
          (running_frames_move s root pure faultless well tells w fits h here f below at r)
        where
          by : (st : Step) → StepMoves s pure f (w.handlers h).objects st → StepFits s pure f.routine f.current st → AllGood s pure h (settles most s h st f below w)
          by (Goes p) m z = all
          by (Does a p) m z = acts_now s pure h w here all f below good_now p begin most a m pure_called begins_again
            where
              pure_called : (o : Reference) (x : List ℕ) (us : List Operand) (gives : Option EntityType) (q : Routine) → a ≡ Enters Unqualified o x us gives → o ≡ f.current →
                  CallsSo s pure f (w.handlers h).objects x p → routine_named s o.class x ≡ Some q → (pure (name_of q) ≡ true) ⊎ IsWildAs pure f.routine p.text.class p.tasks
              pure_called o x us gives q i j (inr k) e = inr k
              pure_called o x us gives q i j (inl k) e =
                  let y : ActFits s pure f.routine f.current (Enters Unqualified o x us gives) p = subst (λ (a : Act). ActFits s pure f.routine f.current a p) i z in
                  inl (called_pure f.routine f.current frame.is_version p.text y.3.0.text_is x k.0 k.1.0 k.1.1 q (ap (λ (o : Reference). routine_named s o.class x) (sym j) ∙ e))

              begins_again : (k : Clause) → a ≡ Refuses k → StandsAs s pure f.routine p.text.class (tasks_of f.routine)
              begins_again k i =
                  let y : ActFits s pure f.routine f.current (Refuses k) p = subst (λ (a : Act). ActFits s pure f.routine f.current a p) i z in
                  subst (λ (t : Text). StandsAs s pure f.routine t.class (tasks_of f.routine)) (sym y.0.0) (begin f.current.class f.routine.name f.routine frame.is_version)

      -- another stage, or what it reserved
      restaged : (g : Frame) → Stands s pure g → g.origin ≡ f.origin → g.current ≡ f.current → g.routine ≡ f.routine → g.text ≡ f.text → g.tasks ≡ f.tasks → Now (g ∷ below)
      restaged g z a b c d e = retop s pure (w.handlers h).queue (w.handlers h).callback (w.handlers h).objects f g below z
          (rw (a, b, c) good_now.links.0) (λ n k. rw (a, b, c, d, e) k) good_now

      reserves_all : (b : Bool) (ks : List ℕ) (g : Frame) → Now (g ∷ below) → AllGood s pure h (reserves_if b h ks g below w)
      reserves_all true ks g y = either s pure (AllGood s pure h) (reserve_fails (standing_in w) w.rights ks) _ _
          (λ i. fails_all s pure h cause.SupplierFailed [] w others_now)
          (λ i k. stack_all s pure h (g ∷ below) w (w.handlers h) refl others_now (λ n. y) k)
      reserves_all false ks g y = all

      answer_all : (a : Answer) (k : ℕ) (gives : Option EntityType) (c : Bool) → AllGood s pure h (takes_answer h a k gives c f below w)
      answer_all (Reply x) k gives c = by c
        where
          handed_on : AllGood s pure h (put h (record (w.handlers h) { stack = handed_as gives x f ∷ below; answer = None }) w)
          handed_on = put_all s pure h (record (w.handlers h) { stack = handed_as gives x f ∷ below; answer = None }) w others_now
              (λ n. handed_as_good s pure (w.handlers h).queue (w.handlers h).callback (w.handlers h).objects gives x f below good_now)

          by : (b : Bool) → AllGood s pure h (released_if b k (put h (record (w.handlers h) { stack = handed_as gives x f ∷ below; answer = None }) w))
          by true = release_all s pure h release_at.Creation (k ∷ []) (put h (record (w.handlers h) { stack = handed_as gives x f ∷ below; answer = None }) w) handed_on
          by false = handed_on
      answer_all Failed k gives c = fails_all s pure h cause.SupplierFailed [] w others_now
      answer_all Refused k gives c = fails_all s pure h cause.Precondition [] w others_now

      callback_all : (r : Request) → (w.handlers h).callback ≡ Some r →
          AllGood s pure h (takes s h r (f ∷ below) (put h (record (w.handlers h) { callback = None }) w))
      callback_all r e = takes_all h r (f ∷ below) (put h (record (w.handlers h) { callback = None }) w) (record (w.handlers h) { callback = None })
          (ap (λ (b : Bool). if b then record (w.handlers h) { callback = None } else w.handlers h) (eq-eqb h h refl))
          (others_put s pure h (record (w.handlers h) { callback = None }) w others_now)
          (record { stand = good_now.stand; links = good_now.links; meet = good_now.meet; first = good_now.first; calls = tt }) at
          (calls_alone s pure (w.handlers h).queue (w.handlers h).callback (w.handlers h).objects f below good_now)
          (λ i. none_made (subst CallsIfAny e good_now.calls) i)
        where
          none_made : is_creation r.errand ≡ false → is_creation r.errand ≡ true → ((w.handlers h).objects ≡ []) × (r.target.number ≡ 1)
          none_made a b = let no : false ≡ true = sym a ∙ b in cc

      goes_all : (st : Stage) → f.stage ≡ st → AllGood s pure h (goes_on most s h st f below w)
      goes_all Runs i = settles_all i
      goes_all Reserves i = reserves_all (may_reserve (entry_needs h f w) f.mark w) (entry_needs h f w) (record f { stage = Runs; reserved = entry_needs h f w })
          (restaged (record f { stage = Runs; reserved = entry_needs h f w }) good_now.stand.0 refl refl refl refl refl)
      goes_all ReservesBlock i = reserves_all (may_reserve (block_needs h f w) [] w) (block_needs h f w) (record f { stage = Runs; blocks = block_needs h f w ∷ f.blocks })
          (restaged (record f { stage = Runs; blocks = block_needs h f w ∷ f.blocks }) good_now.stand.0 refl refl refl refl refl)
      goes_all (InCall gives) i = fails_all s pure h cause.BadCode [] w others_now
      goes_all (Awaits k gives c) i = by (w.handlers h).callback (w.handlers h).answer refl
        where
          by : (r : Option Request) (a : Option Answer) → (w.handlers h).callback ≡ r → AllGood s pure h (waits s h r a k gives c f below w)
          by (Some r) a e = callback_all r e
          by None (Some a) e = answer_all a k gives c
          by None None e = all

    next_all : (rs : List Request) → (w.handlers h).queue ≡ rs → (w.handlers h).stack ≡ [] → AllGood s pure h (takes_next s h rs w)
    next_all [] e at = all
    next_all (r ∷ rs) e at = by (subst (MakesFirst (w.handlers h).objects (w.handlers h).stack) e now.first)
      where
        now : GoodAt s pure (w.handlers h).objects (w.handlers h).stack (w.handlers h).queue (w.handlers h).callback
        now = all h stands

        taken : AllCalls rs → (is_creation r.errand ≡ true → ((w.handlers h).objects ≡ []) × (r.target.number ≡ 1)) →
            AllGood s pure h (takes s h r [] (put h (record (w.handlers h) { queue = rs }) w))
        taken c new = takes_all h r [] (put h (record (w.handlers h) { queue = rs }) w) (record (w.handlers h) { queue = rs })
            (ap (λ (b : Bool). if b then record (w.handlers h) { queue = rs } else w.handlers h) (eq-eqb h h refl))
            (others_put s pure h (record (w.handlers h) { queue = rs }) w others_now)
            (subst (λ (st : List Frame). GoodAt s pure (w.handlers h).objects st rs (w.handlers h).callback) at
            (record { stand = now.stand; links = now.links; meet = now.meet; first = inl c; calls = now.calls })) at c new

        none_made : is_creation r.errand ≡ false → is_creation r.errand ≡ true → ((w.handlers h).objects ≡ []) × (r.target.number ≡ 1)
        none_made a b = let no : false ≡ true = sym a ∙ b in cc

        by : MakesFirst (w.handlers h).objects (w.handlers h).stack (r ∷ rs) → AllGood s pure h (takes s h r [] (put h (record (w.handlers h) { queue = rs }) w))
        by (inl c) = taken c.1 (none_made c.0)
        by (inr d) = taken d.1.1.1 (λ i. (d.0, d.1.1.0))

  -- Each turn keeps it.
  pub turn_all : (most h : ℕ) (w : World) → WorldFits s pure w → ((k : ℕ) → Good s pure (w.handlers k)) → AllGood s pure h (turn most s h w)
  turn_all most h w fits all = by (nat_lt h w.count) refl
    where
      there : h < w.count → (why : Option Cause) (st : List Frame) → (w.handlers h).failure ≡ why → (w.handlers h).stack ≡ st → AllGood s pure h (turn_with most s h why st w)
      there here (Some why) st e at = all
      there here None [] e at = next_all most h w fits here all e (w.handlers h).queue refl at
      there here None (f ∷ below) e at = goes_all most h w fits here all e f below at f.stage refl

      by : (b : Bool) → nat_lt h w.count ≡ b → AllGood s pure h (if b then turn_with most s h (w.handlers h).failure (w.handlers h).stack w else w)
      by true l = there (ltb-true h w.count l) (w.handlers h).failure (w.handlers h).stack refl refl
      by false l = all
