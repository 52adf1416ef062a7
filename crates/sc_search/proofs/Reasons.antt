-- What a search has played, and why it stops.
use Rattle.std.proofs.Common.{◌≡◌, ◌⊎◌, ◌<◌, ◌≤◌, ◌+◌, ◌*◌, ◌++◌, ◌∙◌, ◌↔◌, inl, inr, ℕ, zero, suc, Bool, true, false, IsTrue, List, [], ◌∷◌, Option, Some, None, Result, Ok, Err, length, length-append, slice_get, refl, sym, ap, subst, arith}
use Rattle.std.specs.Prelude.{IfOk, IfSome}
use Rattle.std.proofs.lemmas.List.Sums.{sum_by_push}
use Rattle.std.proofs.lemmas.Option.{slice_get_within}
use Rattle.sc_lockpass.specs.declared.version.Version.{Version}
use Rattle.sc_model.specs.declared.status.Status.{Status}
use Rattle.sc_code.specs.declared.program.Image.{Image}
use Rattle.sc_handler.specs.Handlers.{State}
use Rattle.sc_request.specs.Logs.{Center}
use Rattle.sc_world.specs.Kept.{PlainKept, kept}
use Rattle.sc_world.specs.Reports.{statuses}
use Rattle.sc_world.specs.Turning.{Runs}
use Rattle.sc_world.specs.Worlds.{PlainWorld, opened}
use Rattle.sc_search.specs.declared.aims.Aim.{Aim}
use Rattle.sc_search.specs.declared.aims.Aim.TheVariants as aim
use Rattle.sc_search.specs.declared.limits.Limits.{Limits}
use Rattle.sc_search.specs.declared.progress.Stop.{Stop}
use Rattle.sc_search.specs.declared.progress.Stop.TheVariants as stop
use Rattle.sc_search.specs.declared.verdict.Finding.{Finding}
use Rattle.sc_search.specs.declared.verdict.Finding.TheVariants as finding
use Rattle.sc_search.specs.declared.verdict.GivenUp.{GivenUp}
use Rattle.sc_search.specs.declared.verdict.Reason.{Reason}
use Rattle.sc_search.specs.declared.verdict.Reason.TheVariants as reason
use Rattle.sc_search.specs.declared.verdict.Verdict.{Verdict}
use Rattle.sc_search.specs.Aims.{AreStuck, HasFailed, HasRefused, IsMet, IsMetBy, TellsRefusal, tells_failure}
use Rattle.sc_search.specs.Limits.{ArePlayed, AreTwo, HasReason, IsOrder, IsUsedUp, IsWhy, PassGivesUp, SaysWhy, has_given_up, turns_a_state}
use Rattle.sc_search.specs.Steps.{IsLedTo}
use Rattle.sc_search.specs.Stops.{AreReached, ChoiceStopsFor, HasStopped, IsOrdered, IsReached, MeetsAfter, MissesAfter, StopsFor, goes_on, is_undecided}
use Rattle.sc_search.proofs.KeptStates.{get_before, get_either, get_last, of_world}

-- ---- lists

pub there_is : {X : Type 0} (xs : List X) (i : ℕ) → i < length xs → (x : X) × (slice_get xs i ≡ Some x)
there_is [] i below = absurd (omega (arith, below))
there_is (x ∷ xs) zero below = (x, refl)
there_is (x ∷ xs) (suc i) below = there_is xs i (omega (arith, below))

-- where what stands in a list stands in the other, at its place, there is as much in that
pub still_there : {X : Type 0} (xs ys : List X) (i : ℕ) → ((j : ℕ) (x : X) → slice_get xs j ≡ Some x → slice_get ys j ≡ Some x) → i < length xs → i < length ys
still_there xs ys i stay below = let x = there_is xs i below in slice_get_within ys i x.0 (stay i x.0 x.1)

-- what stands in the longer list stood before, or is the last one, at its place
get_split : {X : Type 0} (xs : List X) (x : X) (i : ℕ) (k : X) → slice_get (xs ++ x ∷ []) i ≡ Some k → (slice_get xs i ≡ Some k) ⊎ ((i ≡ length xs) × (k ≡ x))
get_split [] x zero k e = inr (refl, cc)
get_split [] x (suc i) k e = cc
get_split (y ∷ xs) x zero k e = inl e
get_split (y ∷ xs) x (suc i) k e = elim (get_split xs x i k e) [
  | inl before ↦ inl before
  | inr last ↦ inr (ap (λ (n : ℕ). suc n) last.0, last.1)
]

-- ---- what is met

pub tells : (a : Aim) (ss : List Status) → tells_failure a ss ≡ true → HasFailed ss
tells aim.Stuck ss e = cc
tells aim.Fails ss e = e
tells aim.Refused ss e = cc
tells aim.Any ss e = e

pub refuses : (a : Aim) (s : State) → TellsRefusal a s → HasRefused s
refuses aim.Stuck s never = absurd never
refuses aim.Fails s never = absurd never
refuses aim.Refused s refused = refused
refuses aim.Any s refused = refused

pub stuck_else : (a : Aim) (ss : List Status) (s : State) → IsMetBy a ss s → tells_failure a ss ≡ false → (TellsRefusal a s → ⊥) → AreStuck ss
stuck_else aim.Stuck ss s met e no_refusal = met
stuck_else aim.Fails ss s met e no_refusal = let no : true ≡ false = sym met ∙ e in cc
stuck_else aim.Refused ss s met e no_refusal = absurd (no_refusal met)
stuck_else aim.Any ss s (inl stuck) e no_refusal = stuck
stuck_else aim.Any ss s (inr (inl failed)) e no_refusal = let no : true ≡ false = sym failed ∙ e in cc
stuck_else aim.Any ss s (inr (inr refused)) e no_refusal = absurd (no_refusal refused)

pub met_by : (a : Aim) (b : Bool) (ss : List Status) (c : Center) (w : PlainWorld) → (IsTrue b ↔ IsMetBy a ss c.state) → b ≡ true → ss ≡ statuses w → c ≡ w.center → IsMet a w
met_by a b ss c w tells met same center = (of_world a b ss c w tells same center).0 met

module _ (p : Image) (v : Version) (a : Aim) where
  -- ---- what is played

  pub reached_none : AreReached p v a [] [] [] 0
  reached_none = record {
    each = λ number k at. cc;
    count = refl;
    rows = refl;
    played = record { orders = []; each = λ i order at. cc; many = omega arith };
  }

  pub played_more : (turns more : ℕ) (order : List ℕ) (w : PlainWorld) → Runs order (opened p v) w → more ≤ turns + length order → ArePlayed p v turns → ArePlayed p v more
  played_more turns more order w runs le played = record {
    orders = played.orders ++ order ∷ [];
    each = λ i o at. elim (get_either played.orders order i o at) [
      | inl before ↦ played.each i o before
      | inr last ↦ subst (λ (x : List ℕ). IsOrder p v x) (sym last) (record { world = w; runs = runs })
    ];
    many = omega (arith, le, played.many, sum_by_push (λ (x : List ℕ). length x) played.orders order);
  }

  -- the state was met before
  pub reached_again : (ks : List PlainKept) (os : List (List ℕ)) (ts : List (List Status)) (turns more : ℕ) (order : List ℕ) (w : PlainWorld) → Runs order (opened p v) w →
      more ≤ turns + length order → AreReached p v a ks os ts turns → AreReached p v a ks os ts more
  reached_again ks os ts turns more order w runs le so = record {
    each = so.each;
    count = so.count;
    rows = so.rows;
    played = played_more turns more order w runs le so.played;
  }

  -- it is met now
  pub reached_new : (ks ls : List PlainKept) (os ms : List (List ℕ)) (ts us : List (List Status)) (turns more : ℕ) (order : List ℕ) (w : PlainWorld) →
      Runs order (opened p v) w → (IsMet a w → ⊥) → more ≤ turns + length order → ls ≡ ks ++ kept w ∷ [] → ms ≡ os ++ order ∷ [] →
      us ≡ ts ++ statuses w ∷ [] → AreReached p v a ks os ts turns → AreReached p v a ls ms us more
  reached_new ks ls os ms ts us turns more order w runs unmet le states orders told so = record {
    each = λ i k at. one i k (get_split ks (kept w) i k (subst (λ (xs : List PlainKept). slice_get xs i ≡ Some k) states at));
    count = omega (
      arith,
      ap (λ (xs : List PlainKept). length xs) states,
      ap (λ (xs : List (List ℕ)). length xs) orders,
      so.count,
      length-append ks (kept w ∷ []),
      length-append os (order ∷ []),
    );
    rows = omega (
      arith,
      ap (λ (xs : List PlainKept). length xs) states,
      ap (λ (xs : List (List Status)). length xs) told,
      so.rows,
      length-append ks (kept w ∷ []),
      length-append ts (statuses w ∷ []),
    );
    played = played_more turns more order w runs le so.played;
  }
    where
      one : (i : ℕ) (k : PlainKept) → (slice_get ks i ≡ Some k) ⊎ ((i ≡ length ks) × (k ≡ kept w)) → IsReached p v a ms us i k
      one i k (inl before) =
          let r = so.each i k before in
          record {
            order = r.order;
            stands = subst (λ (xs : List (List ℕ)). slice_get xs i ≡ Some r.order) (sym orders) (get_before os order i r.order r.stands);
            world = r.world;
            runs = r.runs;
            kept_is = r.kept_is;
            told_is = subst (λ (xs : List (List Status)). slice_get xs i ≡ Some (statuses r.world)) (sym told) (get_before ts (statuses w) i (statuses r.world) r.told_is);
            unmet = r.unmet;
          }
      one i k (inr last) = record {
        order = order;
        stands =
            subst (λ (xs : List (List ℕ)). slice_get xs i ≡ Some order) (sym orders)
            (subst (λ (j : ℕ). slice_get (os ++ order ∷ []) j ≡ Some order) (so.count ∙ sym last.0) (get_last os order));
        world = w;
        runs = runs;
        kept_is = sym last.1;
        told_is =
            subst (λ (xs : List (List Status)). slice_get xs i ≡ Some (statuses w)) (sym told)
            (subst (λ (j : ℕ). slice_get (ts ++ statuses w ∷ []) j ≡ Some (statuses w)) (so.rows ∙ sym last.0) (get_last ts (statuses w)));
        unmet = unmet;
      }

  -- ---- why it stops

  -- as many states are met as may be
  pub full : (ks : List PlainKept) (os : List (List ℕ)) (ts : List (List Status)) (turns : ℕ) (limits : Limits) (g : GivenUp) →
      AreReached p v a ks os ts turns → limits.states ≤ length ks →
      g.reason ≡ reason.States → g.states ≡ length ks → PassGivesUp p v a limits g
  full ks os ts turns limits g so many why states =
      subst (λ (r : Reason). IsUsedUp p v a limits r g.states g.turns g.bytes) (sym why) (
        omega (arith, many, states),
        record {
          states = ks;
          many = omega (arith, states);
          unmet = λ i k at.
              let r = so.each i k at in
              record { world = r.world; stands_in = record { handlers = r.order; runs = r.runs; kept = r.kept_is }; unmet = r.unmet };
        },
      )

  -- what is kept of these states takes more than it may
  pub past : (ks : List PlainKept) (os : List (List ℕ)) (ts : List (List Status)) (turns : ℕ) (limits : Limits) (g : GivenUp) →
      AreReached p v a ks os ts turns → limits.bytes < g.bytes →
      g.reason ≡ reason.Bytes → g.states ≡ length ks → PassGivesUp p v a limits g
  past ks os ts turns limits g so many why states =
      subst (λ (r : Reason). IsUsedUp p v a limits r g.states g.turns g.bytes) (sym why) (
        many,
        record {
          states = ks;
          many = omega (arith, states);
          unmet = λ i k at.
              let r = so.each i k at in
              record { world = r.world; stands_in = record { handlers = r.order; runs = r.runs; kept = r.kept_is }; unmet = r.unmet };
        },
      )

  -- as many turns are played as may be
  pub played_out : (turns : ℕ) (limits : Limits) (g : GivenUp) → ArePlayed p v turns → turns_a_state * limits.states ≤ turns → g.reason ≡ reason.Turns →
      g.turns ≡ turns → PassGivesUp p v a limits g
  played_out turns limits g played many why same =
      subst (λ (r : Reason). IsUsedUp p v a limits r g.states g.turns g.bytes) (sym why) (
        omega (arith, many, same),
        record { orders = played.orders; each = played.each; many = omega (arith, played.many, same) },
      )

  -- an order leads to two worlds
  pub two_worlds : (limits : Limits) (g : GivenUp) → g.reason ≡ reason.Worlds → AreTwo p v → PassGivesUp p v a limits g
  two_worlds limits g why two = subst (λ (r : Reason). IsUsedUp p v a limits r g.states g.turns g.bytes) (sym why) two

  -- turns lead to a world in a state, and to one that isn't
  pub lost : (ks : List PlainKept) (number : ℕ) (path : List ℕ) (w : PlainWorld) → IsLedTo p v ks number path → Runs path (opened p v) w →
      (slice_get ks number ≡ Some (kept w) → ⊥) → AreTwo p v
  lost ks number path w led runs apart = record {
    order = path;
    one = led.0;
    other = w;
    leads_to_one = led.1.runs;
    leads_to_other = runs;
    differ = λ e. apart (led.1.stands ∙ ap (λ (x : PlainWorld). Some (kept x)) e);
  }

  pub led : (ks : List PlainKept) (os : List (List ℕ)) (ts : List (List Status)) (turns number : ℕ) (path : List ℕ) → AreReached p v a ks os ts turns → number < length ks →
      ((order : List ℕ) → slice_get os number ≡ Some order → path ≡ order) → IsLedTo p v ks number path
  led ks os ts turns number path so there same =
      let k = there_is ks number there in
      let r = so.each number k.0 k.1 in (
        r.world,
        record {
          runs = subst (λ (hs : List ℕ). Runs hs (opened p v) r.world) (sym (same r.order r.stands)) r.runs;
          stands = k.1 ∙ ap (λ (x : PlainKept). Some x) (sym r.kept_is);
        },
      )

  -- turns lead to a world that shows what is looked for, and to one that doesn't
  pub differs : (turns : List ℕ) → MeetsAfter p v a turns → MissesAfter p v a turns → AreTwo p v
  differs turns m n = record {
    order = turns;
    one = m.world;
    other = n.world;
    leads_to_one = m.runs;
    leads_to_other = n.runs;
    differ = λ e. n.unmet (subst (λ (w : PlainWorld). IsMet a w) e m.met);
  }

  -- ---- what it says then

  -- a pass gave up
  pub says_cut : (limits : Limits) (b : Bool) (g : GivenUp) → PassGivesUp p v a limits g → SaysWhy p v a limits b finding.Undecided (Some g)
  says_cut limits b g up = inl up

  pub says_ordered : (limits : Limits) (b : Bool) (f : Finding) → IsOrdered f → SaysWhy p v a limits b f None
  says_ordered limits b finding.Nothing never = absurd never
  says_ordered limits b (finding.Stuck order) is = refl
  says_ordered limits b (finding.Fails order) is = refl
  says_ordered limits b (finding.Refused order) is = refl
  says_ordered limits b finding.Undecided never = absurd never

  -- nothing is found, and the search is whole
  pub says_none : (limits : Limits) (b : Bool) (f : Finding) (why : Option GivenUp) → f ≡ finding.Nothing → b ≡ true → why ≡ None → SaysWhy p v a limits b f why
  says_none limits b f why nothing whole none =
      subst (λ (g : Finding). SaysWhy p v a limits b g why) (sym nothing) (subst (λ (c : Bool). SaysWhy p v a limits c finding.Nothing why) (sym whole) none)

  -- a search that isn't whole says what one says that may be whole
  pub says_part : (limits : Limits) (b : Bool) (f : Finding) (why : Option GivenUp) → (b ≡ true → ⊥) → SaysWhy p v a limits false f why → SaysWhy p v a limits b f why
  says_part limits true f why part is = absurd (part refl)
  says_part limits false f why part is = is

  pub undecided_why : (limits : Limits) (b : Bool) (f : Finding) (why : Option GivenUp) → is_undecided f ≡ true → SaysWhy p v a limits b f why →
      HasReason p v a limits why
  undecided_why limits b finding.Nothing why e is = cc
  undecided_why limits b (finding.Stuck order) why e is = cc
  undecided_why limits b (finding.Fails order) why e is = cc
  undecided_why limits b (finding.Refused order) why e is = cc
  undecided_why limits b finding.Undecided why e is = is

  -- turns led to what is looked for, and don't lead there again
  pub says_worlds : (limits : Limits) (turns : List ℕ) (g : GivenUp) → g.reason ≡ reason.Worlds → MissesAfter p v a turns → MeetsAfter p v a turns →
      SaysWhy p v a limits false finding.Undecided (Some g)
  says_worlds limits turns g why n m = inl (two_worlds limits g why (differs turns m n))

  -- one that has given up says why another one did, and one that hasn't says nothing
  pub says_other : (limits : Limits) (b : Bool) (f : Finding) (why said : Option GivenUp) → HasReason p v a limits why → (has_given_up b f ≡ true → said ≡ why) →
      (has_given_up b f ≡ false → said ≡ None) → SaysWhy p v a limits b f said
  says_other limits b f why said is up none = by (has_given_up b f) refl
    where
      by : (c : Bool) → has_given_up b f ≡ c → IsWhy p v a limits (has_given_up b f) said
      by true e =
          subst (λ (d : Bool). IsWhy p v a limits d said) (sym e) (subst (λ (w : Option GivenUp). HasReason p v a limits w) (sym (up e)) is)
      by false e = subst (λ (d : Bool). IsWhy p v a limits d said) (sym e) (none e)

  -- a search over choices after which none over all turns follows
  pub has_stopped : (limits : Limits) (s : Option Stop) → IfSome s (ChoiceStopsFor p v a limits) → goes_on s ≡ false → HasStopped p v a limits s
  has_stopped limits None is e = cc
  has_stopped limits (Some (stop.Met turns)) is e = is
  has_stopped limits (Some (stop.Cut why)) is e = is
  has_stopped limits (Some stop.Endless) is e = cc

  pub choice_stops : (limits : Limits) (s : Option Stop) → IfSome s (StopsFor p v a limits) → IfSome s (ChoiceStopsFor p v a limits)
  choice_stops limits None is = tt
  choice_stops limits (Some (stop.Met turns)) is = is
  choice_stops limits (Some (stop.Cut why)) is = is
  choice_stops limits (Some stop.Endless) is = absurd is

  -- where it has stopped it isn't whole
  pub not_none : (limits : Limits) (s : Option Stop) → HasStopped p v a limits s → s ≡ None → ⊥
  not_none limits None is e = is
  not_none limits (Some s) is e = cc

  -- the verdict of a search over all turns
  pub whole_says : (limits : Limits) (s : Option Stop) (d : Verdict) → IfSome s (StopsFor p v a limits) →
      (s ≡ None → (d.finding ≡ finding.Nothing) × (d.is_whole ≡ true) × (d.why ≡ None)) →
      (HasStopped p v a limits s → SaysWhy p v a limits d.is_whole d.finding d.why) → SaysWhy p v a limits d.is_whole d.finding d.why
  whole_says limits None d is done why = let n = done refl in says_none limits d.is_whole d.finding d.why n.0 n.1 n.2
  whole_says limits (Some s) d is done why = why is

  pub whole_verdict : {E : Type 0} (r : Result Verdict E) (s : Option Stop) (limits : Limits) → IfSome s (StopsFor p v a limits) →
      (s ≡ None → IfOk r (λ d. (d.finding ≡ finding.Nothing) × (d.is_whole ≡ true) × (d.why ≡ None))) →
      IfOk r (λ d. (l : Limits) → HasStopped p v a l s → SaysWhy p v a l d.is_whole d.finding d.why) → IfOk r (λ d. SaysWhy p v a limits d.is_whole d.finding d.why)
  whole_verdict (Ok d) s limits is done why = whole_says limits s d is done (why limits)
  whole_verdict (Err e) s limits is done why = tt
