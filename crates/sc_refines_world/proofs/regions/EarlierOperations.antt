-- Silent operations that were done before.
use Rattle.std.proofs.Common.{◌≡◌, ℕ, zero, suc, List, [], ◌∷◌, Some, refl, sym, ap, ◌∙◌, subst}
use Rattle.std.specs.Option.{option_map}
use Rattle.sc_tree.specs.Plain.{System}
use Rattle.sc_model.specs.Values.{Reference}
use Rattle.sc_code.specs.Machine.{Code, State, Hop, Goes, Does, hop, hops, then_hop}
use Rattle.sc_region.specs.declared.frame.Stage.TheVariants as stage
use Rattle.sc_region.specs.declared.job.Want.{Want}
use Rattle.sc_region.specs.Frames.{PlainActivation, PlainFrame, top_activation, top_current}
use Rattle.sc_region.specs.Stores.{PlainStore}
use Rattle.sc_interp.specs.declared.hops.Hop as outcome
use Rattle.sc_interp.specs.Hopping.{ComesTo, LeadsTo, state_in}
use Rattle.sc_interp.specs.Playing.{Remains}
use Rattle.sc_interp.specs.Standing.{hopped}
use Rattle.sc_interp.specs.Values.{reference_of}
use Rattle.sc_interp.proofs.SilentMoves.{remains_after, runs_on, top_of}
use Rattle.sc_acts.proofs.Options.{none_some}
use Rattle.sc_play.specs.Turns.{GoesOn, TurnIn, TurnMade}
use Rattle.sc_refines_world.specs.regions.Acting.{SilentOperationsJoin, TopRuns}
use Rattle.sc_refines_world.specs.regions.Placed.{TurnsJoin}
use Rattle.sc_refines_world.proofs.regions.Unique.{does_goes, goes_same}

-- so many operations, and then others
hops_join : (s : System) (c : Code) (me : Reference) (n : ℕ) (f g : State) (x : Hop) → hops n s c me f ≡ Goes g → (k : ℕ) → hops k s c me g ≡ x → (j : ℕ) × (hops j s c me f ≡ x)
hops_join s c me zero f g x e k i = (k, ap (hops k s c me) (goes_same f g e) ∙ i)
hops_join s c me (suc n) f g x e k i =
    elim (hop s c me f) as (λ y. hop s c me f ≡ y → then_hop y (hops n s c me) ≡ Goes g → (j : ℕ) × (hops j s c me f ≡ x)) [
      | Goes u ↦ λ is d. let j = hops_join s c me n u g x d k i in (suc j.0, ap (λ y. then_hop y (hops j.0 s c me)) is ∙ j.1)
      | Does a u ↦ λ is d. does_goes a u g d
    ] refl e

comes_joined : (o : outcome.Hop) (y z w : PlainStore) → LeadsTo y z → Remains y z → ComesTo o z w → ComesTo o y w
comes_joined o y z w leads remains comes s c me a d runs top =
    let b = top_of y.frames z.frames a runs.top remains.current in
    let l = leads s c me a b.0 runs b.1 in
    let later = comes s c me b.0 d (runs_on y z s c me a b.0 remains runs b.1) top in
    let j = hops_join s c (reference_of me) l.0 (state_in s y a) (state_in s z b.0) (Goes later.1) l.1 later.0 later.2 in (
      j.0,
      later.1,
      j.1,
      later.3 ∙ ap (λ p. hopped p s c (reference_of me) o (state_in s w d)) remains.program,
      later.4,
    )

top_runs : (y z : PlainStore) → Remains y z → TopRuns z → TopRuns y
top_runs y z remains runs = by y.frames z.frames refl refl
  where
    by : (fs gs : List PlainFrame) → y.frames ≡ fs → z.frames ≡ gs → TopRuns y
    by fs [] ey ez = none_some stage.Runs (sym (ap (λ hs. option_map (λ (a : PlainActivation). a.stage) (top_activation hs)) ez) ∙ runs)
    by [] (g ∷ gs) ey ez = none_some g.current (sym (ap top_current ey) ∙ sym remains.current ∙ ap top_current ez)
    by (f ∷ fs) (g ∷ gs) ey ez =
        let same = (remains.stays f.activation g.activation (ap top_activation ey) (ap top_activation ez)).stage in
        ap (λ hs. option_map (λ (a : PlainActivation). a.stage) (top_activation hs)) ey
        ∙ ap (λ st. Some st) (sym same)
        ∙ sym (ap (λ hs. option_map (λ (a : PlainActivation). a.stage) (top_activation hs)) ez)
        ∙ runs

pub silent_operations_join : SilentOperationsJoin
silent_operations_join o y z w leads remains comes = record {
  runs = top_runs y z remains comes.runs;
  comes = comes_joined o y z w leads remains comes.comes;
  remains = remains_after y z w remains comes.remains;
}

-- ---- turns

top_still : (y z : PlainStore) → Remains y z → TopRuns y → TopRuns z
top_still y z remains runs = by y.frames z.frames refl refl
  where
    by : (fs gs : List PlainFrame) → y.frames ≡ fs → z.frames ≡ gs → TopRuns z
    by [] gs ey ez = none_some stage.Runs (sym (ap (λ hs. option_map (λ (a : PlainActivation). a.stage) (top_activation hs)) ey) ∙ runs)
    by (f ∷ fs) [] ey ez = none_some f.current (sym (ap top_current ez) ∙ remains.current ∙ ap top_current ey)
    by (f ∷ fs) (g ∷ gs) ey ez =
        let same = (remains.stays f.activation g.activation (ap top_activation ey) (ap top_activation ez)).stage in
        ap (λ hs. option_map (λ (a : PlainActivation). a.stage) (top_activation hs)) ez
        ∙ ap (λ st. Some st) same
        ∙ sym (ap (λ hs. option_map (λ (a : PlainActivation). a.stage) (top_activation hs)) ey)
        ∙ runs

goes_joined : (h : ℕ) (y a z : PlainStore) (w : Want) → LeadsTo y a → Remains y a → TopRuns a → GoesOn h a z w → GoesOn h y z w
goes_joined h y a z w leads remains runs g =
    let j = silent_operations_join g.operation y a g.before leads remains (record { runs = runs; comes = g.comes; remains = g.remains }) in
    record { operation = g.operation; before = g.before; comes = j.comes; remains = j.remains; told = g.told; does = g.does; want = g.want }

pub turns_join : TurnsJoin
turns_join h y a z w leads remains runs =
    let there = top_still y a remains runs in (
      λ t. subst (λ o. TurnIn o h y z w) (sym runs) (goes_joined h y a z w leads remains there (subst (λ o. TurnIn o h a z w) there t)),
      λ k t. subst (λ o. TurnMade o h y z w) (sym runs) (goes_joined h y a z w leads remains there (subst (λ o. TurnMade o h a z w) there t)),
    )
