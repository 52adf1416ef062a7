-- Where routines begin beside an evaluation by the definition, how the values of calls take them on, and what functions
-- answer.
use Rattle.std.proofs.Common.{ℕ, suc, ◌+◌, ◌≡◌, Bool, true, List, [], ◌∷◌, ◌++◌, Option, Some, None, refl, sym, ap, subst, ◌∙◌}
use Rattle.std.specs.Prelude.{length, take}
use Rattle.sc_tree.specs.Plain as tree
use Rattle.sc_tree.specs.Plain.{System, Clause, Declaration, FeatureKind}
use Rattle.sc_rules.specs.declared.entity_types.entity_type.EntityType.{EntityType}
use Rattle.sc_rules.specs.declared.position.Role.TheVariants as role
use Rattle.sc_rules.specs.Names.{reserved}
use Rattle.sc_rules.specs.Types.{declared_type}
use Rattle.sc_model.specs.Entries.{entry}
use Rattle.sc_model.specs.Environments.{Binding, bind, formals_bound, with_binding}
use Rattle.sc_model.specs.Handlers.{point_of}
use Rattle.sc_model.specs.Objects.{Object}
use Rattle.sc_model.specs.Olds.{olds_of_clauses}
use Rattle.sc_model.specs.Routines.{Routine}
use Rattle.sc_model.specs.Steps.{Calling, Point, Enters, Requests}
use Rattle.sc_model.specs.Tasks.{Task, requires, keeps_olds}
use Rattle.sc_model.specs.Values.{Reference, Value, Operand}
use Rattle.sc_machine_laws.proofs.Modes.{IsVersionOf, routine_found}
use Rattle.sc_machine_laws.proofs.FreeNames.{is_routine}
use Rattle.sc_machine_laws.specs.Evaluating.{Answers, routine, enters, requests}
use Rattle.sc_machine_laws.specs.ClauseLaws.{TextsAreWithoutTests}
use Rattle.sc_machine_laws.proofs.TrueClauses.{given}
use Rattle.sc_machine_laws.specs.Following.{AreBound, ClausesAt, ClauseDone, HasDone, IsAt, Own, PureAt, PureCalls, behind_clause, between_point, body_tasks, bound_in, start_of}
use Rattle.sc_machine_laws.specs.Following as at
use Rattle.sc_machine_laws.specs.Points.{ClauseGoesOn, ClauseGoesOnAnswered, EntryFollows, EntryIsBetween, PureAnswers, PureCallsMore, PureGoesOn}

-- ---- calls that give a value

module _ (s : System) (M : ℕ → Type 0) (O : ℕ → List Object) (me : Reference) (start : Point) (ts : List Task) where
  -- what a call has given takes the evaluation on
  pub entered_on : (p : Point) (c : Calling) (o : Reference) (x : List ℕ) (us : List Operand)
      (t : EntityType) (v : Value) →
      HasDone s M O me start ts (Enters c o x us (Some t)) p → Answers s M O o x us v →
      IsAt s M O me start ts (given v t p)
  entered_on p c o x us t v d a = record {
    at = given v t d.after;
    reaches = enters d.reaches d.step_is a;
    stands = ap (given v t) d.stands;
    without_old = d.without_old;
  }

  pub requested_on : (p : Point) (o : Reference) (x : List ℕ) (us : List Operand) (t : EntityType)
      (passing : Bool) (v : Value) →
      HasDone s M O me start ts (Requests o x us (Some t) passing) p → Answers s M O o x us v →
      IsAt s M O me start ts (given v t p)
  requested_on p o x us t passing v d a = record {
    at = given v t d.after;
    reaches = requests d.reaches d.step_is a;
    stands = ap (given v t) d.stands;
    without_old = d.without_old;
  }

pub clause_goes_on : ClauseGoesOn
clause_goes_on s M O me r bs p c o x us t v (at.inside done ks k e holds none d) a =
    at.inside done ks k e holds none (entered_on s M O me _ _ p c o x us t v d a)

pub clause_goes_on_answered : ClauseGoesOnAnswered
clause_goes_on_answered s M O me r bs p o x us t passing v (at.inside done ks k e holds none d) a =
    at.inside done ks k e holds none (requested_on s M O me _ _ p o x us t passing v d a)

pub pure_calls_more : PureCallsMore
pure_calls_more s O me r bs p t For Such more (at.before ts e of_contract names result) =
    at.before ts e of_contract names result
pure_calls_more s O me r bs p t For Such more (at.during {c} {o} {x} {us} own d for) = at.during own d (more o x us for)
pure_calls_more s O me r bs p t For Such more (at.behind reaches none result of_contract) =
    at.behind reaches none result of_contract

pub pure_goes_on : PureGoesOn
pure_goes_on s O me r bs p t For v (at.before ts e of_contract names result) answers =
    at.before ts e of_contract names result
pure_goes_on s O me r bs p t For v (at.during {c} {o} {x} {us} own d for) answers =
    at.during (entered_on s (Own me.handler) O me _ _ p c o x us t v d (answers o x us for))
pure_goes_on s O me r bs p t For v (at.behind reaches none result of_contract) answers =
    at.behind reaches none result of_contract

-- ---- answers

is_a_routine : (k : FeatureKind) → is_routine k ≡ true → (c : tree.RoutineDeclaration) × (k ≡ tree.Routine c)
is_a_routine (tree.Routine c) e = (c, refl)
is_a_routine (tree.Attribute d) e = cc

pub pure_answers : PureAnswers
pure_answers s O o x us r bs b p u named there bound run result set = by (routine_found s o.class x r named)
  where
    by : IsVersionOf s o.class x r → Answers s (Own o.handler) O o x us u.value
    by v =
        let kind = is_a_routine v.feature.feature.kind v.is_one in
        routine refl there v.is_version kind.1 v.is_routine_of bound run.reaches run.tasks_are
        (sym run.result_is ∙ result) set

-- ---- entries

-- there are as many as formals
pub bound_length : (s : System) (all : List Declaration) (i : ℕ) (ds : List Declaration) (vs : List Value)
    (bs : List Binding) →
    formals_bound s all i ds vs ≡ Some bs → length bs ≡ length ds
bound_length s all i [] [] bs e = let none : [] ≡ bs = cc in ap length (sym none)
bound_length s all i [] (v ∷ vs) bs e = cc
bound_length s all i (d ∷ ds) [] bs e = cc
bound_length s all i (d ∷ ds) (v ∷ vs) bs e =
    by (declared_type s all d.declared_type) (formals_bound s all (i + 1) ds vs)
    (λ cs j. bound_length s all (i + 1) ds vs cs j) e
  where
    by : (o : Option EntityType) (rest : Option (List Binding)) →
        ((cs : List Binding) → rest ≡ Some cs → length cs ≡ length ds) →
        with_binding o d.name.text i v rest ≡ Some bs → length bs ≡ suc (length ds)
    by None rest others e = cc
    by (Some t) None others e = cc
    by (Some t) (Some cs) others e =
        let same : bind d.name.text (reserved i t) role.Formal v ∷ cs ≡ bs = cc in ap length (sym same)
        ∙ ap suc (others cs refl)

pub take_all : {A : Type 0} (xs : List A) → take (length xs) xs ≡ xs
take_all [] = refl
take_all (x ∷ xs) = ap (λ ys. x ∷ ys) (take_all xs)

pub takes_bound : (s : System) (r : Routine) (bs : List Binding) → AreBound s r bs →
    take (length r.text.formals) bs ≡ bs
takes_bound s r bs (vs, e) =
    subst (λ (n : ℕ). take n bs ≡ bs) (bound_length s r.text.formals 0 r.text.formals vs bs e) (take_all bs)

module _ (without_tests : TextsAreWithoutTests) where
  pub entry_follows : EntryFollows
  entry_follows s root faultless well O me x r named bs bound o = (
    at.before (requires r.require ++ keeps_olds (olds_of_clauses r.ensure)) refl
        (without_tests s root faultless well me.class x r named).before refl refl,
    takes_bound s r bs bound,
  )

pub entry_is_between : EntryIsBetween
entry_is_between O me r bs o some = by r.require refl
  where
    by : (ks : List Clause) → r.require ≡ ks →
        point_of (entry me r o bs) (O me.handler) ≡ between_point O me r bs r.require
    by [] e = absurd (some e)
    by (k ∷ ks) e = ap (λ (ts : List Task). record (between_point O me r bs r.require) { tasks = ts })
        (ap (λ (ks : List Clause). (requires ks ++ keeps_olds (olds_of_clauses r.ensure)) ++ body_tasks r) e
        ∙ ap (λ (ks : List Clause). behind_clause r ks) (sym e))
