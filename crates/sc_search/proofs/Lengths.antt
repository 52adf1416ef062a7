-- How long orders of joined turns are.
use Rattle.std.proofs.Common.{◌≡◌, ◌⊎◌, ◌≤◌, ◌<◌, ◌+◌, ◌++◌, ◌∷◌, [], ◌∙◌, inl, inr, ℕ, zero, suc, List, Option, Some, None, is_some, length, get_or, slice_get, true, false, Bool, refl, sym, ap, subst, arith}
use Rattle.std.specs.Prelude.{if◌then◌else◌, nat_lt}
use Rattle.std.proofs.lemmas.Bool.{ltb-true}
use Rattle.std.proofs.lemmas.Option.{get_or_from_slice_get}
use Rattle.sc_lockpass.specs.Versions.{most_handlers}
use Rattle.sc_lockpass.specs.declared.version.Version.{Version}
use Rattle.sc_model.specs.declared.status.Status.{Status}
use Rattle.sc_code.specs.declared.program.Image.{Image}
use Rattle.sc_region.specs.declared.job.Job.{Job}
use Rattle.sc_orders.specs.declared.edges.Edge.{Edge}
use Rattle.sc_orders.specs.declared.length.Length as coded
use Rattle.sc_orders.specs.declared.length.Length.TheVariants as edges
use Rattle.sc_orders.specs.Ways.{AreAtMost, Go, IsWay, SaysLength, Stay}
use Rattle.sc_orders.proofs.Ways.{way_more}
use Rattle.sc_request.specs.Logs.{pick_for}
use Rattle.sc_world.specs.Kept.{KeptAlikeReadAlike, OpeningsAreOf, PlainKept, RunsStayOf, kept}
use Rattle.sc_world.specs.declared.configuration.Turned.{Turned}
use Rattle.sc_world.specs.declared.configuration.Turned.TheVariants.{Moved, Nothing}
use Rattle.sc_world.specs.Turning.{Runs, turned_by}
use Rattle.sc_world.specs.Worlds.{PlainWorld, opened}
use Rattle.sc_search.specs.declared.aims.Aim.{Aim}
use Rattle.sc_search.specs.declared.verdict.Length.{Length}
use Rattle.sc_search.specs.declared.verdict.Length.TheVariants.{AtMost, Endless, Unknown}
use Rattle.sc_search.specs.Lengths as orders
use Rattle.sc_search.specs.Lengths.{Ends, GoOn, IsLength, IsStep, Steps, length_from}
use Rattle.sc_search.specs.Steps.{IsEdge, IsExplored, IsTriedAlong}
use Rattle.sc_search.specs.Stops.{AreReached}
use Rattle.sc_search.specs.Views.{Met}
use Rattle.sc_search.specs.Waiting.{IsPlayed}
use Rattle.sc_search.proofs.KeptStates.{same_some}
use Rattle.sc_search.proofs.Reasons.{there_is}
use Rattle.sc_search.proofs.TriedTurns.{plays_joined}

-- whether there was a turn
pub moved : (o : Option Job) (t : Turned) → t ≡ turned_by o → (t ≡ Nothing → ⊥) → is_some o ≡ true
moved None t e other = absurd (other e)
moved (Some j) t e other = refl

pub still : (o : Option Job) (t : Turned) → t ≡ turned_by o → t ≡ Nothing → o ≡ None
still None t e is = refl
still (Some j) t e is = let no : Nothing ≡ Moved = sym is ∙ e in cc

module _ (alike : KeptAlikeReadAlike) (open_of : OpeningsAreOf) (stay : RunsStayOf) (p : Image) (v : Version) where
  same_job : (h : ℕ) (w u : PlainWorld) → IsPlayed p v w → IsPlayed p v u → kept w ≡ kept u → pick_for h w.center ≡ pick_for h u.center
  same_job h w u one other same =
      (alike p (most_handlers v) w u (record {
        of = stay p (most_handlers v) one.0 (opened p v) w (open_of p v) one.1;
        its = stay p (most_handlers v) other.0 (opened p v) u (open_of p v) other.1;
        same = same;
      })).jobs h

  module _ (joined : ℕ) (x : Met) (explored : IsExplored p v joined x) where
    -- the world was played, and is in the state of the number
    abbrev InState : ℕ → PlainWorld → Type 0
    InState i w = IsPlayed p v w × (slice_get x.states i ≡ Some (kept w))

    -- where so many turns were made before
    record EndsAfter (before most : ℕ) (handlers : List ℕ) (w : PlainWorld) : Type 0 where
      made : List ℕ
      next : ℕ
      rest : List ℕ
      all : handlers ≡ made ++ next ∷ rest
      turns : ℕ
      few : before + turns ≤ most
      world : PlainWorld
      steps : Steps p v joined world made turns w
      none : pick_for next world.center ≡ None

    counted : (n e sum bound : ℕ) → bound < 4294967295 → sum + e ≤ bound → (n ≤ e) ⊎ (e ≡ 4294967295) → n ≤ e
    counted n e sum bound small within (inl few) = few
    counted n e sum bound small within (inr most) = absurd (omega (arith, small, within, most))

    has_some : (o : Option Job) → (o ≡ None) ⊎ (is_some o ≡ true)
    has_some None = inl refl
    has_some (Some j) = inr refl

    one_more : (h next : ℕ) (hs made rest : List ℕ) → hs ≡ made ++ next ∷ rest → h ∷ hs ≡ (h ∷ made) ++ next ∷ rest
    one_more h next hs made rest same = ap (λ (ks : List ℕ). h ∷ ks) same

    -- one of the handlers finds no job
    ends : (most : ℕ) → most < 4294967295 → AreAtMost 0 x.edges most → (hs : List ℕ) (i count sum before : ℕ) (w : PlainWorld) → IsWay x.edges i 0 count sum → InState i w →
        before ≤ sum → most < count + length hs → EndsAfter before most hs w
    ends most small all [] i count sum before w way is_in few many = absurd (let bound = all i count sum way in omega (arith, bound.0, bound.1, many))
    ends most small all (h ∷ hs) i count sum before w way is_in few many =
        let t : IsTriedAlong p v joined x i (kept w) h = explored.along i (kept w) is_in.1 h in
        let gs = t.tried.stands_in.handlers in
        let start : IsPlayed p v t.tried.before = (gs, t.tried.stands_in.runs) in
        let same : pick_for h t.tried.before.center ≡ pick_for h w.center = same_job h t.tried.before w start is_in.0 t.tried.stands_in.kept in
        let here : pick_for h w.center ≡ None → EndsAfter before most (h ∷ hs) w = λ none. record {
          made = [];
          next = h;
          rest = hs;
          all = refl;
          turns = 0;
          few = let bound = all i count sum way in omega (arith, bound.0, few);
          world = w;
          steps = orders.Stay;
          none = none;
        } in
        elim t.edge [
          | inl none ↦ here (sym same ∙ none.1)
          | inr is ↦ elim (has_some (pick_for h w.center)) [
            | inl none ↦ here none
            | inr job ↦
                let e : Edge = is.has.edge in
                let n = 1 + length t.tried.turn.on.handlers in
                let longer = way_more x.edges i 0 count sum is.has.place e is.has.at is.has.from_is way in
                let to = t.tried.among.number in
                let next : IsWay x.edges to 0 longer.count longer.turns = subst (λ (m : ℕ). IsWay x.edges m 0 longer.count longer.turns) is.has.to_is longer.way in
                let bound = all to longer.count longer.turns next in
                let sums : longer.turns ≡ sum + e.turns = longer.sum in
                let fits : n ≤ e.turns = counted n e.turns sum most small (omega (arith, bound.0, sums)) is.counts in
                let played : IsPlayed p v t.tried.after = plays_joined p v joined h t.tried.before t.tried.after start t.tried.turn in
                let rest = ends most small all hs to longer.count longer.turns (before + n) t.tried.after next (played, t.tried.among.stands) (omega (arith, few, fits, sums))
                (omega (arith, longer.many, many)) in
                let step : IsStep p v joined h n w t.tried.after =
                record { has_job = job; before = t.tried.before; played = start; alike = t.tried.stands_in.kept; turn = t.tried.turn; count = refl } in
                record {
                  made = h ∷ rest.made;
                  next = rest.next;
                  rest = rest.rest;
                  all = one_more h rest.next hs rest.made rest.rest rest.all;
                  turns = n + rest.turns;
                  few = let f = rest.few in omega (arith, f);
                  world = rest.world;
                  steps = orders.Go h rest.made n rest.turns w t.tried.after step rest.steps;
                  none = rest.none;
                }
          ]
        ]

    -- steps go along edges
    record Goes (count : ℕ) (w : PlainWorld) : Type 0 where
      handlers : List ℕ
      turns : ℕ
      many : count ≤ turns
      world : PlainWorld
      steps : Steps p v joined world handlers turns w

    goes : (to from count sum : ℕ) → IsWay x.edges to from count sum → (w : PlainWorld) → InState from w → Goes count w
    goes to from count sum Stay w is_in = record { handlers = []; turns = 0; many = omega arith; world = w; steps = orders.Stay }
    goes to from count sum (Go place e fewer more at rest) w is_in =
        let t : IsEdge p v joined x.states e = explored.turns place e at in
        let same : kept t.before ≡ kept w = same_some (kept t.before) (kept w) (sym t.from ∙ is_in.1) in
        let job : is_some (pick_for t.handler w.center) ≡ true =
        ap (λ (j : Option Job). is_some j) (sym (same_job t.handler t.before w t.played is_in.0 same)) ∙ t.has_job in
        let played : IsPlayed p v t.after = plays_joined p v joined t.handler t.before t.after t.played t.turn in
        let others = goes to e.to fewer more rest t.after (played, t.to) in
        let n = 1 + length t.turn.on.handlers in
        let step : IsStep p v joined t.handler n w t.after =
        record { has_job = job; before = t.before; played = t.played; alike = same; turn = t.turn; count = refl } in
        record {
          handlers = t.handler ∷ others.handlers;
          turns = n + others.turns;
          many = let m = others.many in omega (arith, m);
          world = others.world;
          steps = orders.Go t.handler others.handlers n others.turns w t.after step others.steps;
        }

    -- the opening is in the first state
    opens : (a : Aim) (os : List (List ℕ)) (ts : List (List Status)) (turns : ℕ) → AreReached p v a x.states os ts turns → 0 < length x.states →
        ((order : List ℕ) → slice_get os 0 ≡ Some order → order ≡ []) → InState 0 (opened p v)
    opens a os ts turns reached some first =
        let k = there_is x.states 0 some in
        let r = reached.each 0 k.0 k.1 in
        let none : r.world ≡ opened p v = subst (λ (hs : List ℕ). Runs hs (opened p v) r.world) (first r.order r.stands) r.runs in
        (([], refl), k.1 ∙ ap (λ (m : PlainKept). Some m) (sym r.kept_is ∙ ap kept none))

    pub is_length : (a : Aim) (os : List (List ℕ)) (ts : List (List Status)) (turns : ℕ) (l : coded.Length) → AreReached p v a x.states os ts turns → 0 < length x.states →
        ((order : List ℕ) → slice_get os 0 ≡ Some order → order ≡ []) → SaysLength 0 x.edges l → IsLength p v joined (length_from l)
    is_length a os ts turns (edges.AtMost most) reached some first says = by (nat_lt most 4294967295) refl
      where
        by : (b : Bool) → nat_lt most 4294967295 ≡ b → IsLength p v joined (if b then AtMost most else Unknown)
        by false e = tt
        by true e = λ hs many.
            let so = ends most (ltb-true most 4294967295 e) says hs 0 0 0 0 (opened p v) Stay (opens a os ts turns reached some first) (omega arith) (omega (arith, many)) in
            record {
              before = so.made;
              next = so.next;
              rest = so.rest;
              all = so.all;
              turns = so.turns;
              few = let f = so.few in omega (arith, f);
              world = so.world;
              steps = so.steps;
              none = so.none;
            }
    is_length a os ts turns edges.Endless reached some first says = λ least.
        let l = says least in
        let g = goes l.to 0 l.count l.turns l.way (opened p v) (opens a os ts turns reached some first) in
        record { handlers = g.handlers; turns = g.turns; many = let m = g.many in omega (arith, l.many, m); world = g.world; steps = g.steps }
    is_length a os ts turns edges.Unknown reached some first says = tt

-- ---- what is passed on

pub none_first : (os : List (List ℕ)) (items order : List ℕ) → items ≡ get_or os 0 [] → length items ≡ 0 → slice_get os 0 ≡ Some order → order ≡ []
none_first os items order is none at = by order (ap length (sym (is ∙ get_or_from_slice_get os 0 order [] at)) ∙ none)
  where
    by : (xs : List ℕ) → length xs ≡ 0 → xs ≡ []
    by [] e = refl
    by (y ∷ ys) e = absurd (omega (arith, e))

pub says_none : (n : ℕ) (es fs : List Edge) (l : coded.Length) → n ≡ 0 → es ≡ fs → SaysLength n es l → SaysLength 0 fs l
says_none n es fs l none same says = subst (λ (gs : List Edge). SaysLength 0 gs l) same (subst (λ (m : ℕ). SaysLength m es l) none says)
