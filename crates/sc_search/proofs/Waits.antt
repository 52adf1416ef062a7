-- Handlers that wait for good.
use Rattle.std.proofs.Common.{◌≡◌, ◌↔◌, ◌<◌, ◌≤◌, ◌^◌, ◌+◌, ◌++◌, ◌∙◌, ◌||◌, inl, inr, ℕ, zero, suc, Bool, true, false, List, [], ◌∷◌, Option, Some, None, Result, Ok, Err, get_or, is_some, length, slice_get, take, refl, sym, ap, subst, arith}
use Rattle.std.specs.List.{list_any}
use Rattle.std.specs.Prelude.{IfNone, IfOk, IfSome, nat_lt, if◌then◌else◌}
use Rattle.std.proofs.lemmas.Bool.{cases_lt}
use Rattle.std.proofs.lemmas.List.FromFn.{get_or-map-range_with_len}
use Rattle.std.proofs.lemmas.List.{get_or_past, take_more}
use Rattle.std.proofs.lemmas.Option.{get_or_from_slice_get, slice_get_within}
use Rattle.sc_lockpass.specs.Versions.{most_handlers}
use Rattle.sc_lockpass.specs.declared.version.Version.{Version}
use Rattle.sc_model.specs.declared.cause.Cause.{Cause}
use Rattle.sc_model.specs.declared.status.Status.{Status}
use Rattle.sc_model.specs.declared.status.Status.TheVariants.{Free}
use Rattle.sc_code.specs.declared.program.Image.{Image}
use Rattle.sc_region.specs.declared.job.Job.{Job}
use Rattle.sc_orders.specs.declared.edges.Edge.{Edge}
use Rattle.sc_orders.specs.Edges.{Along, AreWithin, Here, Leads}
use Rattle.sc_orders.specs.Orders.{AreEdges, EdgesTell}
use Rattle.sc_orders.specs.Orders as orders
use Rattle.sc_orders.proofs.Orders.{edges_tell, leads_join}
use Rattle.sc_handler.specs.Handlers.{HandlerStage, State}
use Rattle.sc_handler.specs.Picking.{job_of, job_with, status_with}
use Rattle.sc_request.specs.Logs.{pick_for, status_in}
use Rattle.sc_world.specs.Kept.{IsOf, KeptAlikeReadAlike, OpeningsAreOf, PlainKept, RunsStayOf, kept}
use Rattle.sc_world.specs.Reports.{statuses}
use Rattle.sc_world.specs.Turning.{IsTurn, TurnsUnder}
use Rattle.sc_world.specs.Worlds.{PlainWorld, opened}
use Rattle.sc_world.proofs.Runs.{runs-more}
use Rattle.sc_search.specs.declared.aims.Aim.{Aim}
use Rattle.sc_search.specs.declared.aims.Aim.TheVariants as aim
use Rattle.sc_search.specs.declared.judging.Kind.{Kind}
use Rattle.sc_search.specs.declared.judging.Kind.TheVariants as kind
use Rattle.sc_search.specs.Aims.{AreStuck, IsMet, is_of, some_is}
use Rattle.sc_search.specs.Joined.{GoesOn, IsJoinedTurn}
use Rattle.sc_search.specs.Steps.{IsExplored}
use Rattle.sc_search.specs.Stops.{AreReached}
use Rattle.sc_search.specs.Views.{Met}
use Rattle.sc_search.specs.Waiting.{AreMoving, HasStuck, IsAnewTurn, IsLed, IsLeft, IsPlayed, IsSought, MayMove, SomeWaits, column, has_status, seeks_stuck}
use Rattle.sc_search.proofs.KeptStates.{same_some}
use Rattle.sc_search.proofs.TriedTurns.{none_past, plays_joined}

-- ---- columns

-- the row of a state, and what stands in a column for it
column_at : (k : Kind) (h : ℕ) (rows : List (List Status)) (i : ℕ) (ss : List Status) →
    slice_get rows i ≡ Some ss → get_or (column k h rows) i false ≡ is_of k (get_or ss h Free)
column_at k h [] i ss at = cc
column_at k h (r ∷ rows) zero ss at = ap (λ (xs : List Status). is_of k (get_or xs h Free)) (same_some r ss at)
column_at k h (r ∷ rows) (suc i) ss at = column_at k h rows i ss at

within_column : (k : Kind) (h : ℕ) (rows : List (List Status)) (i : ℕ) → get_or (column k h rows) i false ≡ true → i < length rows
within_column k h [] i e = cc
within_column k h (r ∷ rows) zero e = omega arith
within_column k h (r ∷ rows) (suc i) e = let more = within_column k h rows i e in omega (arith, more)

-- ---- states that are explored

module _ (alike : KeptAlikeReadAlike) (open_of : OpeningsAreOf) (stay : RunsStayOf) (p : Image) (v : Version) where
  of_program : (w : PlainWorld) → IsPlayed p v w → IsOf p (most_handlers v) w
  of_program w played = stay p (most_handlers v) played.0 (opened p v) w (open_of p v) played.1

  same_statuses : (w u : PlainWorld) → IsPlayed p v w → IsPlayed p v u → kept w ≡ kept u → statuses w ≡ statuses u
  same_statuses w u played its same = (alike p (most_handlers v) w u (record { of = of_program w played; its = of_program u its; same = same })).statuses

  -- a turn that is joined with no other
  single : (h : ℕ) (w u : PlainWorld) → IsJoinedTurn 0 h w u → IsTurn h w u
  single h w u t = subst (IsTurn h w) (sym (by t.on.handlers t.on.few t.on.goes_on)) t.turn
    where
      by : (hs : List ℕ) → length hs ≤ 0 → GoesOn hs t.next u → u ≡ t.next
      by [] few same = same
      by (g ∷ gs) few on = absurd (omega (arith, few))

  -- turns that follow at once, each in a world that is played anew
  anew_on : (hs : List ℕ) (w u : PlainWorld) → IsPlayed p v w → GoesOn hs w u → orders.Leads (IsAnewTurn p v) hs w u
  anew_on [] w u played same = same
  anew_on (h ∷ hs) w u played on =
      let next : IsPlayed p v on.1 = (played.0 ++ h ∷ [], runs-more played.0 h (opened p v) w on.1 played.1 on.2) in
      (on.1, record { before = w; played = played; alike = refl; turn = on.2 }, anew_on hs on.1 u next on.3)

  -- a turn that is joined with others
  anew_joined : (joined h : ℕ) (before after w : PlainWorld) → IsPlayed p v before → kept before ≡ kept w → IsJoinedTurn joined h before after →
      (hs : List ℕ) × orders.Leads (IsAnewTurn p v) hs w after
  anew_joined joined h before after w played alike t =
      let next : IsPlayed p v t.next = (played.0 ++ h ∷ [], runs-more played.0 h (opened p v) before t.next played.1 t.turn) in
      (h ∷ t.on.handlers, (t.next, record { before = before; played = played; alike = alike; turn = t.turn }, anew_on t.on.handlers t.next after next t.on.goes_on))

  module _ (a : Aim) (joined : ℕ) (x : Met) (os : List (List ℕ)) (rows : List (List Status)) (turns : ℕ) (explored : IsExplored p v joined x)
      (reached : AreReached p v a x.states os (rows) turns) where
    -- the world was played, and is in the state of the number
    abbrev InState : ℕ → PlainWorld → Type 0
    InState i w = IsPlayed p v w × (slice_get x.states i ≡ Some (kept w))

    told : (k : Kind) (h i : ℕ) (w : PlainWorld) → InState i w → get_or (column k h rows) i false ≡ has_status k h w
    told k h i w is_in =
        let r = reached.each i (kept w) is_in.1 in
        column_at k h rows i (statuses r.world) r.told_is
        ∙ ap (λ (ss : List Status). is_of k (get_or ss h Free)) (same_statuses r.world w (r.order, r.runs) is_in.0 r.kept_is)

    -- ---- if turns are joined with no others

    are_edges : IsExplored p v 0 x → AreEdges (IsAnewTurn p v) InState x.edges
    are_edges singly = record {
      each = λ place e at w is_in.
          let t = singly.turns place e at in
          record {
            handler = t.handler;
            world = t.after;
            turn = record {
              before = t.before;
              played = t.played;
              alike = same_some (kept t.before) (kept w) (sym t.from ∙ is_in.1);
              turn = single t.handler t.before t.after t.turn;
            };
            is_in = (plays_joined p v 0 t.handler t.before t.after t.played t.turn, t.to);
          };
      all = λ i w is_in h.
          let t = singly.along i (kept w) is_in.1 h in
          let before : IsPlayed p v t.tried.before = (t.tried.stands_in.handlers, t.tried.stands_in.runs) in
          record {
            world = t.tried.after;
            number = t.tried.among.number;
            turn = record {
              before = t.tried.before;
              played = before;
              alike = t.tried.stands_in.kept;
              turn = single h t.tried.before t.tried.after t.tried.turn;
            };
            is_in = (plays_joined p v 0 h t.tried.before t.tried.after before t.tried.turn, t.tried.among.stands);
            edge = elim t.edge [
              | inl none ↦ inl none.0
              | inr is ↦ inr is.has
            ];
          };
    }

    tell : IsExplored p v 0 x → (h i : ℕ) (w : PlainWorld) → InState i w →
        EdgesTell (IsAnewTurn p v) (has_status kind.IsBusy) h w (Leads x.edges (column kind.IsBusy h rows) i)
    tell singly h i w is_in =
        edges_tell (IsAnewTurn p v) InState (has_status kind.IsBusy) x.edges (are_edges singly) h (column kind.IsBusy h rows) (told kind.IsBusy h) i w is_in

    -- a handler that waits where no edges lead on waits for good,
    pub left_is_stuck : IsExplored p v 0 x → (h number : ℕ) → IsLeft x.edges rows h number → HasStuck p v x.states number
    left_is_stuck singly h number left = record {
      there =
          let below = within_column kind.IsWaiting h rows number left.waits in
          omega (arith, below, reached.rows);
      waits = λ w played at. (
        h,
        record {
          waits_now = sym (told kind.IsWaiting h number w (played, at)) ∙ left.waits;
          never = (tell singly h number w (played, at)).never left.left;
        },
      );
    }

    -- ---- if they may be joined

    -- edges are turns
    may_lead : (h i : ℕ) → Leads x.edges (column kind.IsBusy h rows) i → (w : PlainWorld) → InState i w → MayMove p v h w
    may_lead h i (Here state e) w is_in = record { handlers = []; world = w; leads = refl; turn = sym (told kind.IsBusy h i w is_in) ∙ e }
    may_lead h i (Along place e at rest) w is_in =
        let t = explored.turns place e at in
        let on = anew_joined joined t.handler t.before t.after w t.played (same_some (kept t.before) (kept w) (sym t.from ∙ is_in.1)) t.turn in
        let more = may_lead h e.to rest t.after (plays_joined p v joined t.handler t.before t.after t.played t.turn, t.to) in
        record {
          handlers = on.0 ++ more.handlers;
          world = more.world;
          leads = leads_join (IsAnewTurn p v) on.0 more.handlers w t.after more.world on.1 more.leads;
          turn = more.turn;
        }

    -- so where edges lead on from wherever one waits, none waits for good.
    pub led_are_moving : ((h number : ℕ) → IsLed x.edges rows h number) → AreMoving p v a x.states
    led_are_moving led seeks i k at =
        let r = reached.each i k at in
        let is_in : InState i r.world = ((r.order, r.runs), at ∙ ap (λ (m : PlainKept). Some m) (sym r.kept_is)) in
        record {
          world = r.world;
          played = is_in.0;
          kept_is = r.kept_is;
          moves = λ h waits. may_lead h i (led h i (told kind.IsWaiting h i r.world is_in ∙ waits)) r.world is_in;
        }

    pub edges_within : AreWithin x.edges (length rows)
    edges_within place e at =
        let t = explored.turns place e at in
        let from = slice_get_within x.states e.from (kept t.before) t.from in
        let to = slice_get_within x.states e.to (kept t.after) t.to in
        (omega (arith, from, reached.rows), omega (arith, to, reached.rows))

    pub rows_few : length rows < 2 ^ 32
    rows_few = omega (arith, explored.few, reached.rows)

-- ---- where no handler has a turn

some_where : (P : Status → Bool) (ss : List Status) → P Free ≡ false → list_any P ss ≡ true → (h : ℕ) × (P (get_or ss h Free) ≡ true)
some_where P [] not_free e = cc
some_where P (s ∷ ss) not_free e = by (P s) refl (λ more. some_where P ss not_free more)
  where
    by : (b : Bool) → P s ≡ b → (list_any P ss ≡ true → (h : ℕ) × (P (get_or ss h Free) ≡ true)) → (h : ℕ) × (P (get_or (s ∷ ss) h Free) ≡ true)
    by true is rest = (0, is)
    by false isnt rest =
        let more = rest (subst (λ (c : Bool). (c || list_any P ss) ≡ true) isnt e) in
        (suc more.0, more.1)

none_where : (P : Status → Bool) (ss : List Status) (h : ℕ) → P Free ≡ false → list_any P ss ≡ false → P (get_or ss h Free) ≡ false
none_where P [] h not_free none = not_free
none_where P (s ∷ ss) zero not_free none = first_false (P s) (list_any P ss) none
  where
    first_false : (b c : Bool) → (b || c) ≡ false → b ≡ false
    first_false true c e = e
    first_false false c e = refl
none_where P (s ∷ ss) (suc h) not_free none = none_where P ss h not_free (rest_false (P s) (list_any P ss) none)
  where
    rest_false : (b c : Bool) → (b || c) ≡ false → c ≡ false
    rest_false true c e = let no : true ≡ false = e in cc
    rest_false false c e = e

module _ (p : Image) (v : Version) (a : Aim) (w : PlainWorld) where
  -- one that has failed has no job
  dead : (h : ℕ) (s : State) (why : Cause) → (s.handlers h).failure ≡ Some why → job_of h s ≡ None
  dead h s why e = ap (λ (f : Option Cause). if nat_lt h s.count then job_with h f (s.handlers h) s else None) e ∙ by (nat_lt h s.count) None
    where
      by : (b : Bool) (j : Option Job) → (if b then j else j) ≡ j
      by true j = refl
      by false j = refl

  no_job_by : (why : Option Cause) (o : Bool) (j : Option Job) (stage : HandlerStage) → is_of kind.IsBusy (status_with why (o || is_some j) stage) ≡ false →
      ((c : Cause) → why ≡ Some c → j ≡ None) → (if o then None else j) ≡ None
  no_job_by None true j stage idle dead = let no : true ≡ false = idle in cc
  no_job_by None false None stage idle dead = refl
  no_job_by None false (Some j) stage idle dead = let no : true ≡ false = idle in cc
  no_job_by (Some c) true j stage idle dead = refl
  no_job_by (Some c) false j stage idle dead = dead c refl

  -- one whose status isn't busy has none
  pub idle_job : (h : ℕ) → is_of kind.IsBusy (get_or (statuses w) h Free) ≡ false → pick_for h w.center ≡ None
  idle_job h none = elim (cases_lt h w.center.state.count) [
    | inl few ↦
        let at : get_or (statuses w) h Free ≡ status_in h w.center =
        get_or-map-range_with_len (λ (k : ℕ). status_in k w.center) 0 w.center.state.count h h Free few (omega arith) in
        let idle : is_of kind.IsBusy (status_in h w.center) ≡ false = sym (ap (is_of kind.IsBusy) at) ∙ none in
        no_job_by (w.center.state.handlers h).failure (is_some (w.center.out h)) (job_of h w.center.state) (w.center.state.handlers h).stage idle
        (λ c e. dead h w.center.state c e)
    | inr past ↦ none_past p v a h w.center (omega (arith, past))
  ]

module _ (p : Image) (v : Version) (a : Aim) (w : PlainWorld) (none : some_is kind.IsBusy (statuses w) ≡ false) where
  no_job : (h : ℕ) → pick_for h w.center ≡ None
  no_job h = idle_job p v a w h (none_where (is_of kind.IsBusy) (statuses w) h refl none)

  stays_there : (played : IsPlayed p v w) (hs : List ℕ) → orders.Leads (IsAnewTurn p v) hs w w
  stays_there played [] = refl
  stays_there played (h ∷ hs) = (
    w,
    record { before = w; played = played; alike = refl; turn = subst (λ (o : Option Job). TurnsUnder h o w w) (sym (no_job h)) refl },
    stays_there played hs,
  )

-- where none has a turn, one that waits waits for good
pub ended_waits : (p : Image) (v : Version) (a : Aim) (w : PlainWorld) → IsPlayed p v w → AreStuck (statuses w) → SomeWaits p v w
ended_waits p v a w played stuck =
    let one = some_where (is_of kind.IsWaiting) (statuses w) refl stuck.waits in (
      one.0,
      record {
        waits_now = one.1;
        never = λ hs. (w, stays_there p v a w stuck.idle played hs, none_where (is_of kind.IsBusy) (statuses w) one.0 refl stuck.idle);
      },
    )

pub met_sought : (p : Image) (v : Version) (a : Aim) (w : PlainWorld) → IsPlayed p v w → IsMet a w → IsSought p v a w
met_sought p v aim.Stuck w played met = ended_waits p v aim.Stuck w played met
met_sought p v aim.Fails w played met = met
met_sought p v aim.Refused w played met = met
met_sought p v aim.Any w played (inl stuck) = inl (ended_waits p v aim.Any w played stuck)
met_sought p v aim.Any w played (inr other) = inr other

pub waits_sought : (p : Image) (v : Version) (a : Aim) (w : PlainWorld) → seeks_stuck a ≡ true → SomeWaits p v w → IsSought p v a w
waits_sought p v aim.Stuck w seeks waits = waits
waits_sought p v aim.Fails w seeks waits = let no : false ≡ true = seeks in cc
waits_sought p v aim.Refused w seeks waits = let no : false ≡ true = seeks in cc
waits_sought p v aim.Any w seeks waits = inl waits

-- ---- what is computed

column_append : (k : Kind) (h : ℕ) (xs ys : List (List Status)) → column k h (xs ++ ys) ≡ column k h xs ++ column k h ys
column_append k h [] ys = refl
column_append k h (r ∷ xs) ys = ap (λ (bs : List Bool). is_of k (get_or r h Free) ∷ bs) (column_append k h xs ys)

pub column_more : (k : Kind) (h : ℕ) (rows : List (List Status)) (i : ℕ) (row : List Status) → slice_get rows i ≡ Some row →
    column k h (take i rows) ++ is_of k (get_or row h Free) ∷ [] ≡ column k h (take (i + 1) rows)
column_more k h rows i row at =
    ap (λ (r : List Status). column k h (take i rows) ++ is_of k (get_or r h Free) ∷ []) (sym (get_or_from_slice_get rows i row row at))
    ∙ sym (ap (λ (rs : List (List Status)). column k h rs) (take_more rows i row (slice_get_within rows i row at)) ∙ column_append k h (take i rows) (get_or rows i row ∷ []))

-- a handler that no row has doesn't wait
pub none_waits_past : (h : ℕ) (rows : List (List Status)) → ((i : ℕ) (r : List Status) → slice_get rows i ≡ Some r → length r ≤ h) → (number : ℕ) →
    get_or (column kind.IsWaiting h rows) number false ≡ true → ⊥
none_waits_past h [] few number e = let no : false ≡ true = e in cc
none_waits_past h (r ∷ rows) few zero e =
    let free : get_or r h Free ≡ Free = get_or_past r h Free (few 0 r refl) in
    let no : false ≡ true = sym (ap (is_of kind.IsWaiting) free) ∙ e in
    cc
none_waits_past h (r ∷ rows) few (suc number) e = none_waits_past h rows (λ i s at. few (suc i) s at) number e

-- the first one that is left, or that none is
pub is_left : (edges : List Edge) (rows : List (List Status)) (h number : ℕ) (waiting busy moves : List Bool) → waiting ≡ column kind.IsWaiting h rows →
    busy ≡ column kind.IsBusy h rows → ((state : ℕ) → (get_or moves state false ≡ true) ↔ Leads edges busy state) → get_or waiting number false ≡ true →
    get_or moves number false ≡ false → IsLeft edges rows h number
is_left edges rows h number waiting busy moves same_waiting same_busy tell waits none = record {
  waits = subst (λ (bs : List Bool). get_or bs number false ≡ true) same_waiting waits;
  left = λ leads.
      let is : get_or moves number false ≡ true = (tell number).1 (subst (λ (bs : List Bool). Leads edges bs number) (sym same_busy) leads) in
      let no : true ≡ false = sym is ∙ none in
      cc;
}

pub are_led : (edges : List Edge) (rows : List (List Status)) (h : ℕ) (waiting busy moves : List Bool) → waiting ≡ column kind.IsWaiting h rows →
    busy ≡ column kind.IsBusy h rows → ((state : ℕ) → (get_or moves state false ≡ true) ↔ Leads edges busy state) →
    ((number : ℕ) → get_or waiting number false ≡ true → get_or moves number false ≡ true) → (number : ℕ) → IsLed edges rows h number
are_led edges rows h waiting busy moves same_waiting same_busy tell all number waits =
    subst (λ (bs : List Bool). Leads edges bs number) same_busy
    ((tell number).0 (all number (subst (λ (bs : List Bool). get_or bs number false ≡ true) (sym same_waiting) waits)))

pub none_from : {X A : Type 0} (o : Option X) → (o ≡ None → A) → IfNone o A
none_from None from = from refl
none_from (Some x) from = tt

pub some_on : {X : Type 0} {P Q : X → Type 0} (o : Option X) → ((x : X) → P x → Q x) → IfSome o P → IfSome o Q
some_on None on is = tt
some_on (Some x) on is = on x is

pub none_on : {X A B : Type 0} (o : Option X) → (A → B) → IfNone o A → IfNone o B
none_on None on is = on is
none_on (Some x) on is = tt

pub ok_some_on : {X E : Type 0} {P Q : X → Type 0} (r : Result (Option X) E) → ((x : X) → P x → Q x) → IfOk r (λ o. IfSome o P) → IfOk r (λ o. IfSome o Q)
ok_some_on (Ok o) on is = some_on o on is
ok_some_on (Err e) on is = tt
