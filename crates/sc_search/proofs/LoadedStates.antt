-- States that are kept of a loaded world.
use Rattle.std.proofs.Common.{◌≡◌, ◌≤◌, ◌<◌, ◌+◌, ◌++◌, ◌∷◌, [], ◌∙◌, inr, ℕ, List, Option, Some, None, get_or, length, slice_get, refl, sym, ap, subst, arith}
use Rattle.std.proofs.lemmas.List.{append-nil, length-map}
use Rattle.std.proofs.lemmas.List.FromFn.{length-map-range_with_len}
use Rattle.sc_lockpass.specs.Versions.{most_handlers}
use Rattle.sc_lockpass.specs.declared.version.Version.{Version}
use Rattle.sc_model.specs.declared.status.Status.{Status}
use Rattle.sc_code.specs.declared.program.Image.{Image}
use Rattle.sc_request.specs.Logs.{status_in}
use Rattle.sc_states.specs.RowViews.{rows_of}
use Rattle.sc_states.specs.Views as plain
use Rattle.sc_world.specs.Kept.{IsOf, KeptAlikeReadAlike, KeptAlikeTurnAlike, OpeningsAreOf, PlainKept, RunsStayOf, kept}
use Rattle.sc_world.specs.Reports.{statuses}
use Rattle.sc_world.specs.Worlds.{PlainWorld, opened}
use Rattle.sc_search.specs.declared.aims.Aim.{Aim}
use Rattle.sc_search.specs.declared.store.Store.{Store}
use Rattle.sc_search.specs.Aims.{IsMet}
use Rattle.sc_search.specs.Steps.{AddsEdge, Keeps}
use Rattle.sc_search.specs.Stops.{AreReached, Moves}
use Rattle.sc_search.specs.Stored.{Grows, IsAlikeAfter, IsFrom, IsStored, order_after}
use Rattle.sc_search.specs.Tuples.{state_by}
use Rattle.sc_search.specs.Views.{Met, contents_in, orders_in, parts_in, states_in, statuses_in, tuples_in}
use Rattle.sc_search.proofs.KeptStates.{get_last, met_alike, same_some}
use Rattle.sc_search.proofs.Loaded.{after_turns, same_statuses}
use Rattle.sc_search.proofs.Orders.{order_join, order_long}
use Rattle.sc_search.proofs.Reasons.{reached_again, reached_new, there_is}
use Rattle.sc_search.proofs.Stores.{state_at, states_stay}

module _ (p : Image) (v : Version) (a : Aim) where
  -- the tables grow
  pub reached_grown : (x y : Store) (turns : ℕ) → Grows p x y → IsStored p x → AreReached p v a (states_in x) (orders_in x) (statuses_in x) turns →
      AreReached p v a (states_in y) (orders_in y) (statuses_in y) turns
  reached_grown x y turns g s so =
      subst (λ (ks : List PlainKept). AreReached p v a ks (orders_in y) (statuses_in y) turns) (sym (states_stay p x y g s))
      (subst (λ (os : List (List ℕ)). AreReached p v a (states_in x) os (statuses_in y) turns) (sym (orders_same x y g))
      (subst (λ (ts : List (List Status)). AreReached p v a (states_in x) (orders_in x) ts turns) (sym (statuses_same x y g)) so))
    where
      orders_same : (x y : Store) → Grows p x y → orders_in y ≡ orders_in x
      orders_same x y g = ap plain.orders_of g.states

      statuses_same : (x y : Store) → Grows p x y → statuses_in y ≡ statuses_in x
      statuses_same x y g = ap rows_of g.statuses

  -- the turns of a way were played
  pub reached_after : (ks : List PlainKept) (os : List (List ℕ)) (ts : List (List Status)) (turns more : ℕ) (parent : Option ℕ) (way : List ℕ) (w : PlainWorld) →
      IsAlikeAfter p v (order_after os parent way) w → more ≤ turns + length way → AreReached p v a ks os ts turns → AreReached p v a ks os ts more
  reached_after ks os ts turns more parent way w after le so =
      reached_again p v a ks os ts turns more (order_after os parent way) after.world after.runs (omega (arith, le, order_long os parent way)) so

  -- a handler has a row of a state
  pub row_few : (s : Store) (turns number : ℕ) (row : List Status) → IsStored p s → AreReached p v a (states_in s) (orders_in s) (statuses_in s) turns →
      number < length (states_in s) → slice_get (statuses_in s) number ≡ Some row → length row ≤ 512
  row_few s turns number row stored so there at =
      let k = there_is (states_in s) number there in
      let r = so.each number k.0 k.1 in
      let t = there_is (tuples_in s) number (omega (arith, there, length-map (tuples_in s) (state_by (contents_in s) (parts_in s)))) in
      let is = stored.numbered number t.0 t.1 in
      let same : kept r.world ≡ state_by (contents_in s) (parts_in s) t.0 =
      r.kept_is ∙ same_some k.0 (state_by (contents_in s) (parts_in s) t.0) (sym k.1 ∙ state_at s number t.0 t.1) in
      let count : r.world.center.state.count ≡ get_or t.0 0 0 = ap (λ (z : PlainKept). z.state.count) same in
      let long : length (statuses r.world) ≡ r.world.center.state.count =
      length-map-range_with_len (λ (h : ℕ). status_in h r.world.center) 0 r.world.center.state.count in
      let row_is : statuses r.world ≡ row = same_some (statuses r.world) row (sym r.told_is ∙ at) in
      omega (arith, ap (λ (ss : List Status). length ss) row_is, long, count, is.count)

  module _ (open_of : OpeningsAreOf) (stay_of : RunsStayOf) (alike_read : KeptAlikeReadAlike) where
    -- the state of the world is kept
    pub reached_kept : (ks ls : List PlainKept) (os ms : List (List ℕ)) (ts us : List (List Status)) (turns : ℕ) (order : List ℕ) (w : PlainWorld) →
        IsOf p (most_handlers v) w → IsAlikeAfter p v order w → (IsMet a w → ⊥) → ls ≡ ks ++ kept w ∷ [] → ms ≡ os ++ order ∷ [] →
        us ≡ ts ++ statuses w ∷ [] → AreReached p v a ks os ts turns → AreReached p v a ls ms us turns
    reached_kept ks ls os ms ts us turns order w of after unmet states orders told so =
        let same = same_statuses open_of stay_of p v alike_read order w of after in
        reached_new p v a ks ls os ms ts us turns turns order after.world after.runs
        (λ met. unmet (met_alike a after.world w after.alike same met)) (omega arith)
        (states ∙ ap (λ (k : PlainKept). ks ++ k ∷ []) (sym after.alike)) orders
        (told ∙ ap (λ (ss : List Status). ts ++ ss ∷ []) (sym same)) so

  module _ (open_of : OpeningsAreOf) (stay_of : RunsStayOf) (alike_turn : KeptAlikeTurnAlike) where
    -- movers led on
    pub after_movers : (os : List (List ℕ)) (parent : Option ℕ) (turns all : List ℕ) (w x : PlainWorld) → IsOf p (most_handlers v) w →
        IsAlikeAfter p v (order_after os parent turns) w → Moves turns all w x → IsAlikeAfter p v (order_after os parent all) x
    after_movers os parent turns all w x of after m =
        subst (λ (hs : List ℕ). IsAlikeAfter p v hs x) (sym (order_join os parent turns m.more all m.all))
        (after_turns open_of stay_of p v alike_turn (order_after os parent turns) m.more w x of after m.runs)

-- ---- where a way begins

pub from_there : (ks : List PlainKept) (parent : Option ℕ) (number : ℕ) → parent ≡ Some number → IsFrom ks parent → number < length ks
from_there ks parent number is from = subst (λ (o : Option ℕ). IsFrom ks o) is from

module _ (p : Image) (v : Version) where
  pub after_start : (os : List (List ℕ)) (parent : Option ℕ) (number : ℕ) (w : PlainWorld) → parent ≡ Some number → IsAlikeAfter p v (get_or os number []) w →
      IsAlikeAfter p v (order_after os parent []) w
  after_start os parent number w is after =
      subst (λ (o : Option ℕ). IsAlikeAfter p v (order_after os o []) w) (sym is)
      (subst (λ (hs : List ℕ). IsAlikeAfter p v hs w) (sym (append-nil (get_or os number []))) after)

  pub after_none : (os : List (List ℕ)) (parent : Option ℕ) (w : PlainWorld) → parent ≡ None → w ≡ opened p v → IsAlikeAfter p v (order_after os parent []) w
  after_none os parent w is same =
      subst (λ (o : Option ℕ). IsAlikeAfter p v (order_after os o []) w) (sym is) (record { world = opened p v; runs = refl; alike = ap kept (sym same) })

-- ---- what is kept

pub met_same : (x y : Met) → x.states ≡ y.states → x.edges ≡ y.edges → x ≡ y
met_same x y states edges = λ i. record { states = states i; edges = edges i }

-- what was kept before is the same
pub keeps_since : (a : Aim) (w : PlainWorld) (parent : Option ℕ) (turns : ℕ) (x y z : Met) → y.states ≡ x.states → y.edges ≡ x.edges → Keeps a w parent turns y z →
    Keeps a w parent turns x z
keeps_since a w parent turns x y z states edges k = subst (λ (m : Met). Keeps a w parent turns m z) (met_same y x states edges) k

-- the state is that of the world
pub keeps_pushed : (a : Aim) (w : PlainWorld) (parent : Option ℕ) (turns : ℕ) (x y : Met) (k : PlainKept) (number : ℕ) → (IsMet a w → ⊥) → y.states ≡ x.states ++ k ∷ [] →
    k ≡ kept w → number ≡ length x.states → AddsEdge parent number turns x.edges y.edges → Keeps a w parent turns x y
keeps_pushed a w parent turns x y k number unmet more same last edge = record {
  among = record {
    number = number;
    stands =
        subst (λ (ks : List PlainKept). slice_get ks number ≡ Some (kept w)) (sym (more ∙ ap (λ (z : PlainKept). x.states ++ z ∷ []) same))
        (subst (λ (n : ℕ). slice_get (x.states ++ kept w ∷ []) n ≡ Some (kept w)) (sym last) (get_last x.states (kept w)));
  };
  grows = inr (more ∙ ap (λ (z : PlainKept). x.states ++ z ∷ []) same);
  edge = edge;
  unmet = unmet;
}
