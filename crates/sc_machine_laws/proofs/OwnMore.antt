-- A frame that stands in its precondition stands so too where more handlers may be asked, and its request stands at the
-- target.
use Rattle.std.proofs.Common.{ℕ, Bool, List, [], ◌∷◌, sym, subst}
use Rattle.std.proofs.lemmas.List.Elements.{Contains-push}
use Rattle.std.specs.Prelude.{Contains}
use Rattle.sc_tree.specs.Plain.{System, Clause}
use Rattle.sc_rules.specs.Names.{RoutineName}
use Rattle.sc_model.specs.Environments.{Binding}
use Rattle.sc_model.specs.Failures.{requests_at}
use Rattle.sc_model.specs.Handlers.{Request, Frame, World}
use Rattle.sc_model.specs.Objects.{Object}
use Rattle.sc_model.specs.Routines.{Routine}
use Rattle.sc_model.specs.Steps.{Act, Point}
use Rattle.sc_model.specs.Tasks.{Task, Required}
use Rattle.sc_model.specs.Values.{Reference, Operand}
use Rattle.sc_machine_laws.specs.ClauseLaws.{ReachesMore, EndsTrueMore}
use Rattle.sc_machine_laws.proofs.StandingRequests.{begun_on}
use Rattle.sc_machine_laws.specs.Following.{behind_clause, clause_of, Hold, HasDone, ClauseDone, clause_request, RequestStands}
use Rattle.sc_machine_laws.specs.Following as following
use Rattle.sc_machine_laws.proofs.OthersWorlds.{as_callback, began_on, in_queue, on_stack_of}

-- ---- more may be asked

module _ (reaches_more : ReachesMore) (ends_true_more : EndsTrueMore) (s : System) (M N : ℕ → Type 0)
    (more : (k : ℕ) → M k → N k)
    (O : ℕ → List Object) (me : Reference) (r : Routine) (bs : List Binding) where
  holds_more : (ks : List Clause) → Hold s M O me r bs ks → Hold s N O me r bs ks
  holds_more [] z = tt
  holds_more (k ∷ ks) z = (ends_true_more s M N O more me (clause_of O me r bs k) z.0, holds_more ks z.1)

  has_done_more : (k : Clause) (ts : List Task) (a : Act) (p : Point) →
      HasDone s M O me (clause_of O me r bs k) ts a p →
      HasDone s N O me (clause_of O me r bs k) ts a p
  has_done_more k ts a p z = record {
    before = z.before;
    after = z.after;
    reaches = reaches_more s M N O more me (clause_of O me r bs k) z.before z.reaches;
    step_is = z.step_is;
    stands = z.stands;
    without_old = z.without_old;
  }

  pub clause_done_more : (a : Act) (p : Point) → ClauseDone s M O me r bs a p → ClauseDone s N O me r bs a p
  clause_done_more a p (following.inside done ks k e holds olds z) =
      following.inside done ks k e (holds_more done holds) olds
      (has_done_more k (Required k ∷ behind_clause r ks) a p z)

-- ---- the request stands there

pub stands_at : (s : System) (pure : RoutineName → Bool) (w : World) (h : ℕ) (asked : List ℕ) (o : Reference)
    (x : List ℕ) (us : List Operand) →
    RequestStands s pure w h asked o x us → Contains (requests_at (w.handlers o.handler)) (clause_request h o x us)
stands_at s pure w h asked o x us (following.queued qs e r n) =
    in_queue (w.handlers o.handler) (clause_request h o x us)
    (subst (λ (rs : List Request). Contains rs (clause_request h o x us)) (sym e)
    (Contains-push qs (clause_request h o x us)))
stands_at s pure w h asked o x us (following.called_back e r) =
    as_callback (w.handlers o.handler) (clause_request h o x us) e
stands_at s pure w h asked o x us (following.runs fs below c e i p b f r) =
    on_stack_of (w.handlers o.handler) (clause_request h o x us)
    (subst (λ (st : List Frame). Contains (begun_on st) (clause_request h o x us)) (sym e)
    (began_on fs c below (clause_request h o x us) b))
