-- What is kept of states.
use Rattle.std.proofs.Common.{◌≡◌, ◌↔◌, ◌≤◌, ◌+◌, ◌++◌, ◌∷◌, [], ◌∙◌, inl, inr, ℕ, Bool, IsTrue, List, Option, Some, None, get_or, length, map, slice_get, refl, sym, ap, subst, arith, length-append}
use Rattle.std.specs.Option.{option_map}
use Rattle.std.proofs.lemmas.List.{length-map, map-append}
use Rattle.std.proofs.lemmas.Option.{slice_get-map}
use Rattle.sc_interning.specs.declared.table.Table.{Table}
use Rattle.sc_interning.specs.Tables.{values_of}
use Rattle.sc_states.specs.declared.states.States.{States}
use Rattle.sc_states.specs.Views as plain
use Rattle.sc_code.specs.declared.program.Image.{Image}
use Rattle.sc_play.specs.Contents.{Contents, contents_at, contents_of, new_contents}
use Rattle.sc_play.specs.Contents as play
use Rattle.sc_play.specs.Regions.{PlainRegion}
use Rattle.sc_world.specs.declared.loading.Numbers.{Numbers}
use Rattle.sc_world.specs.declared.loading.Tables.{Tables}
use Rattle.sc_request.specs.declared.parts.Part.{Part}
use Rattle.sc_world.specs.Loading.{AreNewFrom, IsLoadable, WorldsAreKeptByNumbers, kept_by, kept_with}
use Rattle.sc_request.specs.Parts.{AreWithin, PlainPart, means, new_part, part_at, part_of}
use Rattle.sc_world.specs.Kept.{IsOf, kept}
use Rattle.sc_world.specs.Worlds.{PlainWorld}
use Rattle.sc_search.specs.declared.store.Store.{Store}
use Rattle.sc_search.specs.Numbering.{AddsNumbers, AreNumbers, Stays, half, part_numbers, region_numbers}
use Rattle.sc_search.specs.Stored.{Grows, IsBacked, IsStored}
use Rattle.sc_search.specs.Tuples.{IsNumbered, state_by}
use Rattle.sc_search.specs.Views.{contents_in, parts_in, states_in, tuples_in}
use Rattle.sc_search.proofs.KeptStates.{get_either, same_some}
use Rattle.sc_search.proofs.Numbers.{count_of, first_of_tuple, half_of, length_means, map_same, means_stay, numbers_mean, numbers_within, parts_long, regions_long, second_of_tuple, stays_pushed, stays_same, tuple_long, within_up}

-- ---- what is added

numbered_up : (tuple : List ℕ) (a b c d : ℕ) → a ≤ c → b ≤ d → IsNumbered tuple a b → IsNumbered tuple c d
numbered_up tuple a b c d up more is = record {
  whole = is.whole;
  few = is.few;
  count = is.count;
  within_regions = within_up (region_numbers tuple) a c up is.within_regions;
  within_parts = within_up (part_numbers tuple) b d more is.within_parts;
}

module _ (p : Image) where
  pub grows_none : (x : Store) → Grows p x x
  grows_none x = record { states = refl; statuses = refl; contents = λ i y at. at; parts = λ i y at. at; stored = λ s. s }

  pub grows_all : (x y z : Store) → Grows p x y → Grows p y z → Grows p x z
  grows_all x y z f g = record {
    states = g.states ∙ f.states;
    statuses = g.statuses ∙ f.statuses;
    contents = λ i c at. g.contents i c (f.contents i c at);
    parts = λ i q at. g.parts i q (f.parts i q at);
    stored = λ s. g.stored (f.stored s);
  }

  still_numbered : (x y : Store) → y.states ≡ x.states → length (values_of x.regions) ≤ length (values_of y.regions) → length (values_of x.parts) ≤ length (values_of y.parts) →
      IsStored p x → (i : ℕ) (tuple : List ℕ) → slice_get (tuples_in y) i ≡ Some tuple → IsNumbered tuple (length (values_of y.regions)) (length (values_of y.parts))
  still_numbered x y states regions parts s i tuple at =
      numbered_up tuple (length (values_of x.regions)) (length (values_of x.parts)) (length (values_of y.regions)) (length (values_of y.parts)) regions parts
      (s.numbered i tuple (subst (λ (ss : States). slice_get (plain.tuples_of ss) i ≡ Some tuple) states at))

  -- a region
  pub grows_region : (x y : Store) (r : PlainRegion) → y.states ≡ x.states → y.statuses ≡ x.statuses → y.parts ≡ x.parts →
      values_of y.regions ≡ values_of x.regions ++ r ∷ [] → r.store.program ≡ p → Grows p x y
  grows_region x y r states statuses parts more program = record {
    states = states;
    statuses = statuses;
    contents = stays_pushed contents_of (values_of x.regions) (values_of y.regions) r more;
    parts = stays_same (parts_in x) (parts_in y) (ap (λ (t : Table Part). map part_of (values_of t)) parts);
    stored = λ s. record {
      programs = λ i z at. elim (get_either (values_of x.regions) r i z (subst (λ (xs : List PlainRegion). slice_get xs i ≡ Some z) more at)) [
        | inl before ↦ s.programs i z before
        | inr last ↦ ap (λ (u : PlainRegion). u.store.program) last ∙ program
      ];
      numbered =
          let long : length (values_of y.regions) ≡ length (values_of x.regions) + 1 = ap (λ (xs : List PlainRegion). length xs) more ∙ length-append (values_of x.regions) (r ∷ []) in
          let same : length (values_of y.parts) ≡ length (values_of x.parts) = ap (λ (t : Table Part). length (values_of t)) parts in
          still_numbered x y states (omega (arith, long)) (omega (arith, same)) s;
    };
  }

  -- a part
  pub grows_part : (x y : Store) (q : Part) → y.states ≡ x.states → y.statuses ≡ x.statuses → y.regions ≡ x.regions →
      values_of y.parts ≡ values_of x.parts ++ q ∷ [] → Grows p x y
  grows_part x y q states statuses regions more = record {
    states = states;
    statuses = statuses;
    contents = stays_same (contents_in x) (contents_in y) (ap (λ (t : Table PlainRegion). map contents_of (values_of t)) regions);
    parts = stays_pushed part_of (values_of x.parts) (values_of y.parts) q more;
    stored = λ s. record {
      programs = λ i z at. s.programs i z (subst (λ (t : Table PlainRegion). slice_get (values_of t) i ≡ Some z) regions at);
      numbered =
          let long : length (values_of y.parts) ≡ length (values_of x.parts) + 1 = ap (λ (xs : List Part). length xs) more ∙ length-append (values_of x.parts) (q ∷ []) in
          let same : length (values_of y.regions) ≡ length (values_of x.regions) = ap (λ (t : Table PlainRegion). length (values_of t)) regions in
          still_numbered x y states (omega (arith, same)) (omega (arith, long)) s;
    };
  }

  -- the states stay
  state_stays : (x y : Store) (tuple : List ℕ) → Grows p x y → IsNumbered tuple (length (values_of x.regions)) (length (values_of x.parts)) →
      state_by (contents_in y) (parts_in y) tuple ≡ state_by (contents_in x) (parts_in x) tuple
  state_stays x y tuple g is =
      let regions : means (contents_in y) (new_contents 0) (region_numbers tuple) ≡ means (contents_in x) (new_contents 0) (region_numbers tuple) =
      means_stay (contents_in x) (contents_in y) (new_contents 0) (region_numbers tuple) g.contents
      (λ k d below. let w = is.within_regions k d below in omega (arith, w, length-map (values_of x.regions) contents_of)) in
      let parts : means (parts_in y) new_part (part_numbers tuple) ≡ means (parts_in x) new_part (part_numbers tuple) =
      means_stay (parts_in x) (parts_in y) new_part (part_numbers tuple) g.parts
      (λ k d below. let w = is.within_parts k d below in omega (arith, w, length-map (values_of x.parts) part_of)) in
      ap (λ (qs : List PlainPart). kept_with (get_or tuple 0 0) qs (means (contents_in y) (new_contents 0) (region_numbers tuple))) parts
      ∙ ap (λ (xs : List Contents). kept_with (get_or tuple 0 0) (means (parts_in x) new_part (part_numbers tuple)) xs) regions

  pub states_stay : (x y : Store) → Grows p x y → IsStored p x → states_in y ≡ states_in x
  states_stay x y g s =
      ap (λ (ss : States). map (state_by (contents_in y) (parts_in y)) (plain.tuples_of ss)) g.states
      ∙ map_same (state_by (contents_in y) (parts_in y)) (state_by (contents_in x) (parts_in x)) (tuples_in x)
      (λ i tuple at. state_stays x y tuple g (s.numbered i tuple at))

-- ---- the tuple of a world

numbers_stay : {X : Type 0} (values more : List X) (at : ℕ → X) (count : ℕ) (numbers : List ℕ) → Stays values more → AreNumbers values at count numbers → AreNumbers more at count numbers
numbers_stay values more at count numbers stay are = record { count_is = are.count_is; each = λ h n e. stay n (at h) (are.each h n e) }

module _ (w : PlainWorld) (n : ℕ) (before : List Contents) (x y : Store) (first tuple last : List ℕ)
    (regions : AddsNumbers before (contents_at w.regions) n (w.center.state.count ∷ []) first) (stay : Stays before (contents_in y))
    (parts : AddsNumbers (parts_in y) (λ h. part_at h w.center.state) n first tuple) where
  all : tuple ≡ (w.center.state.count ∷ [] ++ regions.numbers) ++ parts.numbers
  all = parts.all ∙ ap (λ (xs : List ℕ). xs ++ parts.numbers) regions.all

  are : AreNumbers (contents_in y) (contents_at w.regions) n regions.numbers
  are = numbers_stay before (contents_in y) (contents_at w.regions) n regions.numbers stay regions.are

  pub tuple_kept : WorldsAreKeptByNumbers → AreNewFrom n w → state_by (contents_in y) (parts_in y) tuple ≡ kept w
  tuple_kept law new =
      let count : get_or tuple 0 0 ≡ w.center.state.count = count_of tuple regions.numbers parts.numbers w.center.state.count n all regions.are.count_is parts.are.count_is in
      let one : region_numbers tuple ≡ regions.numbers = first_of_tuple tuple regions.numbers parts.numbers w.center.state.count n all regions.are.count_is parts.are.count_is in
      let two : part_numbers tuple ≡ parts.numbers = second_of_tuple tuple regions.numbers parts.numbers w.center.state.count n all regions.are.count_is parts.are.count_is in
      let qs : List PlainPart = means (parts_in y) new_part parts.numbers in
      let xs : List Contents = means (contents_in y) (new_contents 0) regions.numbers in
      ap (λ (k : ℕ). kept_with k (means (parts_in y) new_part (part_numbers tuple)) (means (contents_in y) (new_contents 0) (region_numbers tuple))) count
      ∙ ap (λ (ns : List ℕ). kept_with w.center.state.count (means (parts_in y) new_part ns) (means (contents_in y) (new_contents 0) (region_numbers tuple))) two
      ∙ ap (λ (ns : List ℕ). kept_with w.center.state.count qs (means (contents_in y) (new_contents 0) ns)) one
      ∙ sym (law n w qs xs new (length_means (parts_in y) new_part parts.numbers ∙ parts.are.count_is)
      (length_means (contents_in y) (new_contents 0) regions.numbers ∙ regions.are.count_is)
      (λ h below. (
        numbers_mean (parts_in y) new_part (λ k. part_at k w.center.state) n parts.numbers h parts.are below,
        numbers_mean (contents_in y) (new_contents 0) (contents_at w.regions) n regions.numbers h are below,
      )))

  pub tuple_numbered : n ≤ 512 → w.center.state.count ≤ n → IsNumbered tuple (length (values_of y.regions)) (length (values_of y.parts))
  tuple_numbered few below =
      let count : get_or tuple 0 0 ≡ w.center.state.count = count_of tuple regions.numbers parts.numbers w.center.state.count n all regions.are.count_is parts.are.count_is in
      let h : half tuple ≡ n = half_of tuple regions.numbers parts.numbers w.center.state.count n all regions.are.count_is parts.are.count_is in
      let long : length tuple ≡ 1 + n + n = tuple_long tuple regions.numbers parts.numbers w.center.state.count n all regions.are.count_is parts.are.count_is in
      let one : region_numbers tuple ≡ regions.numbers = first_of_tuple tuple regions.numbers parts.numbers w.center.state.count n all regions.are.count_is parts.are.count_is in
      let two : part_numbers tuple ≡ parts.numbers = second_of_tuple tuple regions.numbers parts.numbers w.center.state.count n all regions.are.count_is parts.are.count_is in
      record {
        whole = omega (arith, h, long);
        few = omega (arith, h, few);
        count = omega (arith, count, below, few);
        within_regions =
            subst (λ (ns : List ℕ). AreWithin ns (length (values_of y.regions))) (sym one)
            (within_up regions.numbers (length (contents_in y)) (length (values_of y.regions)) (omega (arith, length-map (values_of y.regions) contents_of))
            (numbers_within (contents_in y) (contents_at w.regions) n regions.numbers are));
        within_parts =
            subst (λ (ns : List ℕ). AreWithin ns (length (values_of y.parts))) (sym two)
            (within_up parts.numbers (length (parts_in y)) (length (values_of y.parts)) (omega (arith, length-map (values_of y.parts) part_of))
            (numbers_within (parts_in y) (λ k. part_at k w.center.state) n parts.numbers parts.are));
      }

-- ---- a tuple that is loaded

-- the state at the place of a tuple
pub state_at : (s : Store) (number : ℕ) (tuple : List ℕ) → slice_get (tuples_in s) number ≡ Some tuple →
    slice_get (states_in s) number ≡ Some (state_by (contents_in s) (parts_in s) tuple)
state_at s number tuple at =
    slice_get-map (state_by (contents_in s) (parts_in s)) (tuples_in s) number ∙ ap (option_map (state_by (contents_in s) (parts_in s))) at

-- what is loaded is the state
pub by_numbers : (s : Store) (tables : Tables) (numbers : Numbers) (tuple : List ℕ) → tables.regions.now ≡ values_of s.regions → tables.parts.now ≡ values_of s.parts →
    numbers.count ≡ get_or tuple 0 0 → numbers.regions.now ≡ region_numbers tuple → numbers.parts.now ≡ part_numbers tuple →
    kept_by tables numbers ≡ state_by (contents_in s) (parts_in s) tuple
by_numbers s tables numbers tuple regions parts count one two =
    ap (λ (k : ℕ). kept_with k (means (map part_of tables.parts.now) new_part numbers.parts.now) (means (map contents_of tables.regions.now) (new_contents 0) numbers.regions.now)) count
    ∙ ap (λ (qs : List Part). kept_with (get_or tuple 0 0) (means (map part_of qs) new_part numbers.parts.now) (means (map contents_of tables.regions.now) (new_contents 0) numbers.regions.now)) parts
    ∙ ap (λ (ns : List ℕ). kept_with (get_or tuple 0 0) (means (parts_in s) new_part ns) (means (map contents_of tables.regions.now) (new_contents 0) numbers.regions.now)) two
    ∙ ap (λ (xs : List PlainRegion). kept_with (get_or tuple 0 0) (means (parts_in s) new_part (part_numbers tuple)) (means (map contents_of xs) (new_contents 0) numbers.regions.now)) regions
    ∙ ap (λ (ns : List ℕ). kept_with (get_or tuple 0 0) (means (parts_in s) new_part (part_numbers tuple)) (means (contents_in s) (new_contents 0) ns)) one

pub loadable : (p : Image) (most : ℕ) (old : PlainWorld) (s : Store) (tables : Tables) (numbers : Numbers) (number : ℕ) (tuple : List ℕ) →
    tables.regions.now ≡ values_of s.regions → tables.parts.now ≡ values_of s.parts → numbers.count ≡ get_or tuple 0 0 →
    numbers.regions.now ≡ region_numbers tuple → numbers.parts.now ≡ part_numbers tuple → slice_get (tuples_in s) number ≡ Some tuple →
    IsStored p s → IsOf p most old → IsBacked p most (states_in s) number → IsLoadable old tables numbers
loadable p most old s tables numbers number tuple regions parts count one two at stored of backed =
    let is = stored.numbered number tuple at in
    record {
      program = p;
      most = most;
      of = of;
      programs = λ i x e. stored.programs i x (subst (λ (xs : List PlainRegion). slice_get xs i ≡ Some x) regions e);
      regions_within =
          subst (λ (ns : List ℕ). AreWithin ns (length tables.regions.now)) (sym one)
          (subst (λ (xs : List PlainRegion). AreWithin (region_numbers tuple) (length xs)) (sym regions) is.within_regions);
      parts_within =
          subst (λ (ns : List ℕ). AreWithin ns (length tables.parts.now)) (sym two)
          (subst (λ (xs : List Part). AreWithin (part_numbers tuple) (length xs)) (sym parts) is.within_parts);
      few = omega (arith, ap (λ (ns : List ℕ). length ns) one, regions_long tuple is.whole, is.few);
      as_many = ap (λ (ns : List ℕ). length ns) two ∙ parts_long tuple is.whole ∙ sym (regions_long tuple is.whole) ∙ sym (ap (λ (ns : List ℕ). length ns) one);
      world = backed.world;
      its = backed.its;
      linked = backed.linked;
      kept_is =
          same_some (kept backed.world) (state_by (contents_in s) (parts_in s) tuple) (sym backed.stands ∙ state_at s number tuple at)
          ∙ sym (by_numbers s tables numbers tuple regions parts count one two);
    }

-- a state that is pushed
pub states_pushed : (x y : Store) (tuple : List ℕ) → y.regions ≡ x.regions → y.parts ≡ x.parts → tuples_in y ≡ tuples_in x ++ tuple ∷ [] →
    states_in y ≡ states_in x ++ state_by (contents_in x) (parts_in x) tuple ∷ []
states_pushed x y tuple regions parts more =
    ap (λ (t : Table PlainRegion). map (state_by (map contents_of (values_of t)) (parts_in y)) (tuples_in y)) regions
    ∙ ap (λ (t : Table Part). map (state_by (contents_in x) (map part_of (values_of t))) (tuples_in y)) parts
    ∙ ap (map (state_by (contents_in x) (parts_in x))) more
    ∙ map-append (state_by (contents_in x) (parts_in x)) (tuples_in x) (tuple ∷ [])

pub stored_pushed : (p : Image) (x y : Store) (tuple : List ℕ) → y.regions ≡ x.regions → y.parts ≡ x.parts → tuples_in y ≡ tuples_in x ++ tuple ∷ [] →
    IsNumbered tuple (length (values_of x.regions)) (length (values_of x.parts)) → IsStored p x → IsStored p y
stored_pushed p x y tuple regions parts more is s = record {
  programs = λ i z at. s.programs i z (subst (λ (t : Table PlainRegion). slice_get (values_of t) i ≡ Some z) regions at);
  numbered = λ i t at.
      subst (λ (r : Table PlainRegion). IsNumbered t (length (values_of r)) (length (values_of y.parts))) (sym regions)
      (subst (λ (q : Table Part). IsNumbered t (length (values_of x.regions)) (length (values_of q))) (sym parts)
      (elim (get_either (tuples_in x) tuple i t (subst (λ (ts : List (List ℕ)). slice_get ts i ≡ Some t) more at)) [
        | inl before ↦ s.numbered i t before
        | inr last ↦ subst (λ (u : List ℕ). IsNumbered u (length (values_of x.regions)) (length (values_of x.parts))) (sym last) is
      ]));
}

-- nothing is kept yet
pub stored_none : (p : Image) (s : Store) → values_of s.regions ≡ [] → tuples_in s ≡ [] → IsStored p s
stored_none p s regions tuples = record {
  programs = λ i x at. let no : None ≡ Some x = subst (λ (xs : List PlainRegion). slice_get xs i ≡ Some x) regions at in cc;
  numbered = λ i tuple at. let no : None ≡ Some tuple = subst (λ (ts : List (List ℕ)). slice_get ts i ≡ Some tuple) tuples at in cc;
}

-- ---- what is looked for

-- the value of the number is what is looked for
pub fits_value : {X Y : Type 0} (f : X → Y) (xs : List X) (n : ℕ) (x : X) (y : Y) (b : Bool) → slice_get xs n ≡ Some x → (IsTrue b ↔ f x ≡ y) →
    IsTrue b ↔ slice_get (map f xs) n ≡ Some y
fits_value f xs n x y b at is =
    let here : slice_get (map f xs) n ≡ Some (f x) = slice_get-map f xs n ∙ ap (option_map f) at in
    (λ t. here ∙ ap (λ z. Some z) (is.0 t), λ e. is.1 (same_some (f x) y (sym here ∙ e)))

-- the region of a handler, by what it holds
pub region_at : (o : Option PlainRegion) (r : PlainRegion) (xs : List PlainRegion) (h : ℕ) → o ≡ slice_get xs h → o ≡ Some r →
    (slice_get xs h ≡ Some r) × (contents_of r ≡ contents_at xs h)
region_at o r xs h same is =
    let at : slice_get xs h ≡ Some r = sym same ∙ is in
    (at, sym (ap (play.contents_in h) at))
