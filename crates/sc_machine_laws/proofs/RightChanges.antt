-- Each part of a turn takes no right from another handler.
use Rattle.std.proofs.Common.{◌≡◌, ℕ, ◌==◌, ◌&&◌, ◌||◌, not, Bool, true, false, List, [], ◌∷◌, ◌++◌, Option, Some, None, length, refl, sym, ap, ◌∙◌, subst}
use Rattle.std.specs.Prelude.{if◌then◌else◌, nat_lt, is_some, Contains}
use Rattle.std.specs.List.{list_all}
use Rattle.std.specs.Option.{option_map, is_none}
use Rattle.std.proofs.lemmas.Bool.{eq-eqb, eqb-true, ne_eqb}
use Rattle.sc_tree.specs.Plain as tree
use Rattle.sc_tree.specs.Plain.{System, FeatureKind}
use Rattle.sc_class.specs.Tables.Features.{DeclaredFeature}
use Rattle.sc_rules.specs.declared.entity_types.entity_type.EntityType.{EntityType}
use Rattle.sc_rules.specs.Types.{declared_type}
use Rattle.sc_lockpass.specs.Rights.{Rights, held, is_among}
use Rattle.sc_lockpass.specs.Passing.{Passed, give_back}
use Rattle.sc_lockpass.specs.wait_conditions.Reservations as reservations
use Rattle.sc_lockpass.specs.wait_conditions.Reservations.{may_be_reserved, mark_allows, reserve_fails}
use Rattle.sc_lockpass.specs.declared.wait_conditions.mark.Marked.{Marked}
use Rattle.sc_lockpass.specs.declared.wait_conditions.condition.EntryVerdict.{EntryVerdict}
use Rattle.sc_lockpass.specs.declared.wait_conditions.condition.EntryVerdict.TheVariants as verdict
use Rattle.sc_model.specs.Values.{Reference, Value, Operand, values_of}
use Rattle.sc_model.specs.Environments.{Binding, binding_named, formals_bound}
use Rattle.sc_model.specs.Objects.{Object, object_numbered, fresh_object}
use Rattle.sc_model.specs.Invariants.{meets_invariant}
use Rattle.sc_model.specs.Routines.{Routine, routine_named, routine_of, version_of}
use Rattle.sc_model.specs.Limits.{max_frames, max_queue}
use Rattle.sc_model.specs.Steps.{Act, Prints, Until, Creates, CreatesHandler, Enters, Requests, Starts, Refuses, Opens, Leaves, Exits, Fails}
use Rattle.sc_model.specs.Handlers.{Errand, Calls, Makes, Request, Answer, Reply, Failed, Refused, Origin, Called, Requested, InCall, Frame, World, put}
use Rattle.sc_model.specs.Sessions.{standing_in}
use Rattle.sc_model.specs.Answers.{answer_to, return_rights, finish}
use Rattle.sc_model.specs.Entries.{enters_bound, enters, reserves_if, may_reserve}
use Rattle.sc_model.specs.Asking.{passes, is_callback, asks, request, created, creates_handler}
use Rattle.sc_model.specs.Preconditions.{verdict_on, is_creation, object_meets, refuses, correctness_fails, false_clause}
use Rattle.sc_model.specs.Exits.{is_unset_value, is_unset, is_untested, leaves_to, exits, leaves_block}
use Rattle.sc_model.specs.Takes.{replies, takes_kind, takes_version, takes_creation, takes_errand, takes_answer}
use Rattle.sc_model.specs.Turns.{effect}
use Rattle.sc_machine_laws.proofs.states.Rights.{not_some}
use Rattle.sc_machine_laws.proofs.states.Waits.{true_false}
use Rattle.sc_machine_laws.proofs.states.MachineFrames.{contains_first, contains_later}
use Rattle.sc_machine_laws.proofs.Held.{IsHere}
use Rattle.sc_machine_laws.proofs.KeptRights.{Kept, all_among, and_left, and_right, kept_again, kept_lost, kept_passed, kept_released, kept_released_returned, kept_reserved, kept_returned, kept_same, none_is, or_right}

module _ (g : ℕ) where
  -- ---- what changes rights

  if_kept : (r : Rights) (b : Bool) (x y : World) → (b ≡ true → Kept g r x.rights) → (b ≡ false → Kept g r y.rights) →
      Kept g r (if b then x else y).rights
  if_kept r true x y p q = p refl
  if_kept r false x y p q = q refl

  -- the end of a request, with what was released before
  finish_kept : (r : Rights) (q : Request) (a : Answer) (w : World) → (q.passed ≡ None → Kept g r w.rights)
      → ((p : Passed) → q.passed ≡ Some p → Kept g r (give_back p w.rights)) → Kept g r (finish q a w).rights
  finish_kept r q a w plain back = answers q.is_waited q.poster (return_rights q.passed w) (by q.passed refl)
    where
      by : (o : Option Passed) → q.passed ≡ o → Kept g r (return_rights o w).rights
      by None e = plain e
      by (Some p) e = back p e

      answers : (b : Bool) (p : Option ℕ) (v : World) → Kept g r v.rights → Kept g r (answer_to b p a v).rights
      answers true (Some p) v is = is
      answers true None v is = is
      answers false p v is = is

  enters_kept : (s : System) (me : Reference) (r : Option Routine) (o : Origin) (below : List Frame)
      (taken : List Request) (vs : List Value)
      (w : World) → Kept g w.rights (enters s g me r o below taken vs w).rights
  enters_kept s me None o below taken vs w = kept_lost g w.rights
  enters_kept s me (Some r) o below taken vs w = by (formals_bound s r.text.formals 0 r.text.formals vs)
    where
      by : (bs : Option (List Binding)) → Kept g w.rights (enters_bound g me r o below taken bs w).rights
      by None = kept_lost g w.rights
      by (Some bs) = if_kept w.rights (nat_lt (length below) max_frames) _ _ (λ e. kept_same g w.rights)
          (λ e. kept_lost g w.rights)

  pub reserves_kept : (b : Bool) (ks : List ℕ) (mark : List Marked) (f : Frame) (below : List Frame) (w : World) →
      may_reserve ks mark w ≡ b
      → Kept g w.rights (reserves_if b g ks f below w).rights
  reserves_kept false ks mark f below w may = kept_same g w.rights
  reserves_kept true ks mark f below w may = if_kept w.rights (reserve_fails (standing_in w) w.rights ks) _ _
      (λ e. kept_lost g w.rights)
      (λ e. kept_reserved g ks w.rights (λ k i. none_is (w.rights.queue k)
      (and_right (reservations.is_idle (standing_in w k) && not (standing_in w k).has_requests)
      (is_none (w.rights.queue k))
      (all_among (λ j. may_be_reserved (standing_in w j) (w.rights.queue j)) ks k
      (and_left (list_all (λ j. may_be_reserved (standing_in w j) (w.rights.queue j)) ks)
      (mark_allows (λ j. (standing_in w j).sessions) mark)
      (or_right (reserve_fails (standing_in w) w.rights ks)
      (reservations.may_reserve (standing_in w) w.rights ks mark) may e)) i))))

  -- ---- requests and creations

  passes_kept : (b : Bool) (j : ℕ) (w : World) → Kept g w.rights (passes b g j w).rights
  passes_kept true j w = kept_passed g j w.rights
  passes_kept false j w = kept_same g w.rights

  request_kept : (r : Reference) (x : List ℕ) (us : List Operand) (t : Option EntityType) (passing : Bool) (f : Frame)
      (below : List Frame)
      (w : World) → Kept g w.rights (request g r x us t passing f below w).rights
  request_kept r x us t passing f below w =
      if_kept w.rights (not (held w.rights g r.handler)) _ _ (λ e. kept_lost g w.rights)
      (λ e. if_kept w.rights (is_some (w.handlers r.handler).failure) _ _ (λ i. kept_lost g w.rights)
      (λ i. if_kept w.rights (not (is_callback g r.handler w) && not
      (nat_lt (length (w.handlers r.handler).queue) max_queue)) _ _ (λ j. kept_lost g w.rights)
      (λ j. asked passing)))
    where
      asked : (b : Bool) → Kept g w.rights
          (asks g r x us t b (passing || is_some t || is_callback g r.handler w) f below w).rights
      asked true = kept_passed g r.handler w.rights
      asked false = kept_same g w.rights

  -- the new handler is nobody's before
  created_kept : (class : ℕ) (procedure : Option (List ℕ)) (us : List Operand) (t : EntityType) (passing : Bool)
      (f : Frame) (below : List Frame)
      (w : World) → w.rights.queue w.count ≡ None → w.rights.top w.count ≡ None
      → Kept g w.rights (created g (record { handler = w.count; number = 1; class = class }) procedure us t passing f
      below w).rights
  created_kept class procedure us t passing f below w queue top = by passing
    where
      new_kept : Kept g w.rights (record {
        queue = λ j. if j == w.count then Some g else w.rights.queue j;
        top = λ j. if j == w.count then None else w.rights.top j;
      })
      new_kept = record {
        queue = λ h k ne e. ap (λ (b : Bool). if b then Some g else w.rights.queue k)
            (ne_eqb k w.count (λ i. not_some h (sym queue ∙ ap w.rights.queue (sym i) ∙ e))) ∙ e;
        top = λ h k ne other e. ap (λ (b : Bool). if b then None else w.rights.top k)
            (ne_eqb k w.count (λ i. not_some h (sym top ∙ ap w.rights.top (sym i) ∙ e))) ∙ e;
      }

      mine : (k : ℕ) → is_among k (w.count ∷ []) ≡ true → (if k == w.count then Some g else w.rights.queue k) ≡ Some g
      mine k e = one (w.count == k) refl e
        where
          one : (b : Bool) → (w.count == k) ≡ b → (b || false) ≡ true →
              (if k == w.count then Some g else w.rights.queue k) ≡ Some g
          one true i e = ap (λ (c : Bool). if c then Some g else w.rights.queue k)
              (eq-eqb k w.count (sym (eqb-true w.count k i)))
          one false i e = true_false (sym e)

      by : (b : Bool) → Kept g w.rights
          (created g (record { handler = w.count; number = 1; class = class }) procedure us t b f below w).rights
      by true = kept_again new_kept (kept_passed g w.count _)
      by false = kept_again new_kept (kept_released g (w.count ∷ []) _ mine)

  creates_kept : (most class : ℕ) (procedure : Option (List ℕ)) (us : List Operand) (t : EntityType) (passing : Bool)
      (f : Frame) (below : List Frame)
      (w : World) → w.rights.queue w.count ≡ None → w.rights.top w.count ≡ None
      → Kept g w.rights (creates_handler most g class procedure us t passing f below w).rights
  creates_kept most class procedure us t passing f below w queue top = if_kept w.rights (nat_lt w.count most) _ _
      (λ e. created_kept class procedure us t passing f below w queue top) (λ e. kept_lost g w.rights)

  -- ---- a routine that ends, or is refused

  -- what is said of the topmost frame
  pub record Own (r : Rights) (f : Frame) : Type 0 where
    pub reserved : (ks : List ℕ) → Contains (f.reserved ∷ f.blocks) ks → (k : ℕ) → is_among k ks ≡ true → r.queue k ≡ Some g
    pub passed : (q : Request) (p : Passed) → f.origin ≡ Requested q → q.passed ≡ Some p → IsHere r g p

  first_mine : (r : Rights) (f : Frame) → Own r f → (k : ℕ) → is_among k f.reserved ≡ true → r.queue k ≡ Some g
  first_mine r f own k e = own.reserved f.reserved (contains_first f.reserved f.blocks) k e

  refuses_kept : (s : System) (q : Request) (f : Frame) (below : List Frame) (w : World) → f.origin ≡ Requested q →
      Own w.rights f
      → Kept g w.rights (refuses s g q f below w).rights
  refuses_kept s q f below w begun own =
      if_kept w.rights (is_creation q.errand && not
      (object_meets s (object_numbered f.current.number (w.handlers g).objects))) _ _
      (λ e. kept_lost g w.rights)
      (λ e. finish_kept w.rights q Refused _ (λ i. kept_released g f.reserved w.rights (first_mine w.rights f own))
      (λ p i. kept_released_returned g f.reserved p w.rights (first_mine w.rights f own) (own.passed q p begun i)))

  correctness_kept : (s : System) (o : Origin) (f : Frame) (below : List Frame) (w : World) → f.origin ≡ o →
      Own w.rights f
      → Kept g w.rights (correctness_fails s g o f below w).rights
  correctness_kept s (Called c) f below w e own = kept_lost g w.rights
  correctness_kept s (Requested q) f below w e own = refuses_kept s q f below w e own

  clause_kept : (v : EntryVerdict) (s : System) (f : Frame) (below : List Frame) (w : World) → Own w.rights f →
      Kept g w.rights (false_clause v s g f below w).rights
  clause_kept verdict.Wait s f below w own = kept_released g f.reserved w.rights (first_mine w.rights f own)
  clause_kept verdict.Refuse s f below w own = correctness_kept s f.origin f below w refl own
  clause_kept verdict.Start s f below w own = kept_lost g w.rights

  leaves_kept : (o : Origin) (f : Frame) (v : Option Value) (below : List Frame) (w : World) → f.origin ≡ o →
      Own w.rights f
      → Kept g w.rights (leaves_to g o f.reserved v below w).rights
  leaves_kept (Called c) f v below w e own = kept_released g f.reserved w.rights (first_mine w.rights f own)
  leaves_kept (Requested q) f v below w e own = finish_kept w.rights q (Reply v) _
      (λ i. kept_released g f.reserved w.rights (first_mine w.rights f own))
      (λ p i. kept_released_returned g f.reserved p w.rights (first_mine w.rights f own) (own.passed q p e i))

  exits_kept : (s : System) (f : Frame) (below : List Frame) (w : World) → Own w.rights f →
      Kept g w.rights (exits s g f below w).rights
  exits_kept s f below w own = if_kept w.rights (is_unset f.result) _ _ (λ e. kept_lost g w.rights)
      (λ e. if_kept w.rights (is_untested f.origin || object_meets s
      (object_numbered f.current.number (w.handlers g).objects)) _ _
      (λ i. leaves_kept f.origin f (option_map (λ (u : Operand). u.value) f.result) below w refl own)
      (λ i. kept_lost g w.rights))

  block_kept : (kss : List (List ℕ)) (f : Frame) (below : List Frame) (w : World) → f.blocks ≡ kss → Own w.rights f
      → Kept g w.rights (leaves_block g kss f below w).rights
  block_kept [] f below w e own = kept_lost g w.rights
  block_kept (ks ∷ kss) f below w e own = kept_released g ks w.rights (own.reserved ks
      (contains_later f.reserved f.blocks ks (subst (λ l. Contains l ks) (sym e) (contains_first ks kss))))

  -- ---- taking

  -- what was passed with the request is here
  abbrev pub Given : Rights → Request → Type 0
  Given r q = (p : Passed) → q.passed ≡ Some p → IsHere r g p

  ends_kept : (q : Request) (a : Answer) (w : World) → Given w.rights q → Kept g w.rights (finish q a w).rights
  ends_kept q a w given = finish_kept w.rights q a w (λ e. kept_same g w.rights)
      (λ p e. kept_returned g p w.rights (given p e))

  replies_kept : (q : Request) (t : Option EntityType) (b : Option Binding) (w : World) → Given w.rights q →
      Kept g w.rights (replies g q t b w).rights
  replies_kept q (Some t) (Some b) w given = if_kept w.rights (is_unset_value b.value t) _ _ (λ e. kept_lost g w.rights)
      (λ e. ends_kept q (Reply (Some b.value)) w given)
  replies_kept q (Some t) None w given = kept_lost g w.rights
  replies_kept q None b w given = kept_lost g w.rights

  kind_kept : (s : System) (q : Request) (x : List ℕ) (below : List Frame) (o : Object) (f : DeclaredFeature)
      (c : FeatureKind) (w : World)
      → Given w.rights q → Kept g w.rights (takes_kind s g q x below o f c w).rights
  kind_kept s q x below o f (tree.Attribute d) w given = replies_kept q (declared_type s [] d)
      (binding_named x o.attributes) w given
  kind_kept s q x below o f (tree.Routine c) w given = enters_kept s q.target (routine_of s f) (Requested q) below
      (q ∷ []) q.actuals w

  version_kept : (s : System) (q : Request) (x : List ℕ) (below : List Frame) (o : Option Object)
      (f : Option DeclaredFeature) (w : World)
      → Given w.rights q → Kept g w.rights (takes_version s g q x below o f w).rights
  version_kept s q x below (Some o) (Some f) w given = kind_kept s q x below o f f.feature.kind w given
  version_kept s q x below (Some o) None w given = kept_lost g w.rights
  version_kept s q x below None f w given = kept_lost g w.rights

  creation_kept : (s : System) (q : Request) (c : Option (List ℕ)) (below : List Frame) (w : World) → Given w.rights q
      → Kept g w.rights (takes_creation s g q c below w).rights
  creation_kept s q (Some x) below w given = enters_kept s q.target (routine_named s q.target.class x)
      (Requested q) below (q ∷ []) q.actuals w
  creation_kept s q None below w given = if_kept w.rights (meets_invariant s (fresh_object s q.target.class)) _ _
      (λ e. ends_kept q (Reply None) w given)
      (λ e. kept_lost g w.rights)

  pub errand_kept : (s : System) (q : Request) (e : Errand) (below : List Frame) (w : World) → Given w.rights q →
      Kept g w.rights (takes_errand s g q e below w).rights
  errand_kept s q (Makes c) below w given = creation_kept s q c below
      (put g (record (w.handlers g) { objects = (w.handlers g).objects ++ fresh_object s q.target.class ∷ [] }) w) given
  errand_kept s q (Calls x) below w given = if_kept w.rights (q.target.handler == g) _ _
      (λ e. version_kept s q x below (object_numbered q.target.number (w.handlers g).objects)
      (version_of s q.target.class x) w given)
      (λ e. kept_lost g w.rights)

  pub takes_answer_kept : (a : Answer) (j : ℕ) (t : Option EntityType) (b : Bool) (f : Frame)
      (below : List Frame) (w : World)
      → ((v : Option Value) → a ≡ Reply v → b ≡ true → w.rights.queue j ≡ Some g) →
      Kept g w.rights (takes_answer g a j t b f below w).rights
  takes_answer_kept (Reply v) j t false f below w mine = kept_same g w.rights
  takes_answer_kept (Reply v) j t true f below w mine = kept_released g (j ∷ []) w.rights (λ k e. one k (j == k) refl e)
    where
      one : (k : ℕ) (b : Bool) → (j == k) ≡ b → (b || false) ≡ true → w.rights.queue k ≡ Some g
      one k true i e = ap w.rights.queue (sym (eqb-true j k i)) ∙ mine v refl refl
      one k false i e = true_false (sym e)
  takes_answer_kept Failed j t b f below w mine = kept_lost g w.rights
  takes_answer_kept Refused j t b f below w mine = kept_lost g w.rights

  -- ---- a turn

  pub effect_kept : (most : ℕ) (s : System) (a : Act) (f : Frame) (below : List Frame) (w : World) → Own w.rights f →
      w.rights.queue w.count ≡ None
      → w.rights.top w.count ≡ None → Kept g w.rights (effect most s g a f below w).rights
  effect_kept most s (Prints text) f below w own queue top = kept_same g w.rights
  effect_kept most s Until f below w own queue top = kept_same g w.rights
  effect_kept most s Creates f below w own queue top = kept_same g w.rights
  effect_kept most s Starts f below w own queue top = kept_same g w.rights
  effect_kept most s (CreatesHandler class procedure us t passing) f below w own queue top =
      creates_kept most class procedure us t passing f below w queue top
  effect_kept most s (Enters c me x us gives) f below w own queue top =
      enters_kept s me (routine_named s me.class x) (Called c) (record f { stage = InCall gives } ∷ below) []
      (values_of us) w
  effect_kept most s (Requests r x us gives passing) f below w own queue top =
      request_kept r x us gives passing f below w
  effect_kept most s (Refuses c) f below w own queue top = clause_kept (verdict_on f c) s f below w own
  effect_kept most s Opens f below w own queue top = kept_same g w.rights
  effect_kept most s Leaves f below w own queue top = block_kept f.blocks f below w refl own
  effect_kept most s Exits f below w own queue top = exits_kept s f below w own
  effect_kept most s (Fails why) f below w own queue top = kept_lost g w.rights
