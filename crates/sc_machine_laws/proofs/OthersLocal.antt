-- Where a frame stands beside an evaluation over the objects of some handlers, it stands so over the same objects of
-- them.
use Rattle.std.proofs.Common.{ℕ, ◌≡◌, List, [], ◌∷◌, Option, Some, None, sym, subst}
use Rattle.sc_tree.specs.Plain.{System, Clause}
use Rattle.sc_rules.specs.declared.entity_types.entity_type.EntityType.{EntityType}
use Rattle.sc_model.specs.Clauses.{body_point}
use Rattle.sc_model.specs.Entries.{result_of}
use Rattle.sc_model.specs.Environments.{Binding}
use Rattle.sc_model.specs.Handlers.{Stage, Runs, Reserves, ReservesBlock, InCall, Awaits, Frame, point_of}
use Rattle.sc_model.specs.Objects.{Object}
use Rattle.sc_model.specs.Routines.{Routine}
use Rattle.sc_model.specs.Steps.{Act, Enters, Point}
use Rattle.sc_model.specs.Tasks.{Task, Required}
use Rattle.sc_model.specs.Values.{Reference, Operand}
use Rattle.sc_machine_laws.specs.Evaluating.{EndsTrue, Reaches, clause_point}
use Rattle.sc_machine_laws.specs.ClauseLaws.{EndsTrueLocally, ReachesLocally}
use Rattle.sc_machine_laws.specs.Following.{Own, AboveIsFor, ClauseDone, ClausesAt, FollowsPure, HasDone, Hold, IsAt, PureAt, PureCalls, behind_body, behind_clause, between_point, bound_in, clause_of, start_of}
use Rattle.sc_machine_laws.specs.Following as following

module _ (reaches_locally : ReachesLocally) (ends_locally : EndsTrueLocally) (s : System) where
  module _ (M : ℕ → Type 0) (O N : ℕ → List Object) (same : (k : ℕ) → M k → O k ≡ N k) (me : Reference) where
    at_local : (start : Point) (ts : List Task) (p : Point) → IsAt s M O me start ts p → IsAt s M N me start ts p
    at_local start ts p z = record {
      at = z.at;
      reaches = reaches_locally s M O N same me start z.at z.reaches;
      stands = z.stands;
      without_old = z.without_old;
    }

    done_local : (start : Point) (ts : List Task) (a : Act) (p : Point) → HasDone s M O me start ts a p →
        HasDone s M N me start ts a p
    done_local start ts a p z = record {
      before = z.before;
      after = z.after;
      reaches = reaches_locally s M O N same me start z.before z.reaches;
      step_is = z.step_is;
      stands = z.stands;
      without_old = z.without_old;
    }

    module _ (here : O me.handler ≡ N me.handler) (r : Routine) (bs : List Binding) where
      holds_local : (ks : List Clause) → Hold s M O me r bs ks → Hold s M N me r bs ks
      holds_local [] z = tt
      holds_local (k ∷ ks) z = (
        subst (λ (os : List Object). EndsTrue s M N me (clause_point os r.contract bs (result_of r.text.result) k)) here
            (ends_locally s M O N same me (clause_of O me r bs k) z.0),
        holds_local ks z.1,
      )

      pub clauses_local : (p : Point) → ClausesAt s M O me r bs p → ClausesAt s M N me r bs p
      clauses_local p (following.between done ks e h i) = following.between done ks e (holds_local done h)
          (subst (λ (os : List Object). p ≡ record {
            objects = os;
            text = r.contract;
            environment = bs;
            result = result_of r.text.result;
            olds = [];
            tasks = behind_clause r ks;
            values = [];
          }) here i)
      clauses_local p (ClausesAt.inside done ks k e h i a) = ClausesAt.inside done ks k e (holds_local done h) i
          (subst (λ (os : List Object). IsAt s M N me (clause_point os r.contract bs (result_of r.text.result) k)
          (Required k ∷ behind_clause r ks) p) here
          (at_local (clause_of O me r bs k) (Required k ∷ behind_clause r ks) p a))

      pub clause_done_local : (a : Act) (p : Point) → ClauseDone s M O me r bs a p → ClauseDone s M N me r bs a p
      clause_done_local a p (ClauseDone.inside done ks k e h i d) = ClauseDone.inside done ks k e (holds_local done h) i
          (subst (λ (os : List Object). HasDone s M N me (clause_point os r.contract bs (result_of r.text.result) k)
          (Required k ∷ behind_clause r ks) a p) here
          (done_local (clause_of O me r bs k) (Required k ∷ behind_clause r ks) a p d))

  -- ---- pure functions

  module _ (O N : ℕ → List Object) (me : Reference) (here : O me.handler ≡ N me.handler) where
    own : (k : ℕ) → Own me.handler k → O k ≡ N k
    own k e = subst (λ (j : ℕ). O j ≡ N j) (sym e) here

    during_local : (r : Routine) (bs : List Binding) (p : Point) →
        IsAt s (Own me.handler) O me (start_of s O me r bs) (behind_body r) p →
        IsAt s (Own me.handler) N me (start_of s N me r bs) (behind_body r) p
    during_local r bs p z = subst
        (λ (os : List Object). IsAt s (Own me.handler) N me (body_point s r os bs) (behind_body r) p) here
        (at_local (Own me.handler) O N own me (start_of s O me r bs) (behind_body r) p z)

    pub pure_local : (r : Routine) (bs : List Binding) (p : Point) → PureAt s O me r bs p → PureAt s N me r bs p
    pure_local r bs p (PureAt.before ts a b c d) = PureAt.before ts a b c d
    pure_local r bs p (PureAt.during z) = PureAt.during (during_local r bs p z)
    pure_local r bs p (PureAt.behind {e} z a b c) = PureAt.behind
        (subst (λ (os : List Object). Reaches s (Own me.handler) N me (body_point s r os bs) e) here
        (reaches_locally s (Own me.handler) O N own me (start_of s O me r bs) e z)) a b c

    pub calls_local : (r : Routine) (bs : List Binding) (t : EntityType)
        (For : Reference → List ℕ → List Operand → Type 0) (p : Point) →
        PureCalls s O me r bs t For p → PureCalls s N me r bs t For p
    calls_local r bs t For p (PureCalls.before ts a b c d) = PureCalls.before ts a b c d
    calls_local r bs t For p (PureCalls.during {c} {o} {x} {us} i z j) = PureCalls.during i
        (subst (λ (os : List Object). HasDone s (Own me.handler) N me (body_point s r os bs) (behind_body r)
        (Enters c o x us (Some t)) p) here
        (done_local (Own me.handler) O N own me (start_of s O me r bs) (behind_body r)
        (Enters c o x us (Some t)) p z)) j
    calls_local r bs t For p (PureCalls.behind {e} z a b c) = PureCalls.behind
        (subst (λ (os : List Object). Reaches s (Own me.handler) N me (body_point s r os bs) e) here
        (reaches_locally s (Own me.handler) O N own me (start_of s O me r bs) e z)) a b c

  -- So does the frame of a pure function, whose handler's objects are the same.
  pub follows_local : (O N : ℕ → List Object) (above : Option Frame) (f : Frame) →
      O f.current.handler ≡ N f.current.handler → (st : Stage) →
      FollowsPure s O above f st → FollowsPure s N above f st
  follows_local O N above f here Runs z =
      subst (λ (os : List Object). PureAt s N f.current f.routine (bound_in f) (point_of f os)) here
      (pure_local O N f.current here f.routine (bound_in f) (point_of f (O f.current.handler)) z)
  follows_local O N above f here (InCall (Some t)) z =
      subst (λ (os : List Object). PureCalls s N f.current f.routine (bound_in f) t (AboveIsFor s above)
      (point_of f os)) here
      (calls_local O N f.current here f.routine (bound_in f) t (AboveIsFor s above)
      (point_of f (O f.current.handler)) z)
  follows_local O N above f here (InCall None) z = z
  follows_local O N above f here Reserves z = z
  follows_local O N above f here ReservesBlock z = z
  follows_local O N above f here (Awaits k t c) z = z
