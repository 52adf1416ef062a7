-- A handler of which no frame evaluates goes on with its topmost frame.
use Rattle.std.proofs.Common.{ℕ, ◌≡◌, ◌<◌, Bool, List, [], ◌∷◌, Option, Some, None, refl, sym, ap, subst, ◌∙◌, inl}
use Rattle.sc_tree.specs.Plain.{System}
use Rattle.sc_rules.specs.declared.entity_types.entity_type.EntityType.{EntityType}
use Rattle.sc_rules.specs.Names.{RoutineName}
use Rattle.sc_model.specs.declared.cause.Cause.TheVariants as cause
use Rattle.sc_model.specs.Moves.{moves}
use Rattle.sc_model.specs.Handlers.{Request, Answer, Stage, Runs, Reserves, ReservesBlock, InCall, Awaits, Frame, Handler, World, point_of, put}
use Rattle.sc_model.specs.Entries.{entry_needs, block_needs, may_reserve}
use Rattle.sc_model.specs.Takes.{takes}
use Rattle.sc_model.specs.Turns.{waits, goes_on}
use Rattle.sc_machine_laws.specs.states.Headline.{is_awaiting}
use Rattle.sc_machine_laws.specs.settlements.Entries.{HasStarted}
use Rattle.sc_machine_laws.proofs.states.links.Looks.{m_put-own}
use Rattle.sc_machine_laws.proofs.settlements.CalmSteps.{moves_calm}
use Rattle.sc_machine_laws.proofs.OwnWorlds.{IsNoReply}
use Rattle.sc_machine_laws.proofs.OwnKept.{IsPlain, AllPlain, plain_kept}
use Rattle.sc_machine_laws.proofs.OwnCalm.{IsCalm, runs_started}
use Rattle.sc_machine_laws.proofs.OwnPlain.{takes_good, stays, answer_good, settles_good, reserves_good, fails_good}

module _ (s : System) (pure : RoutineName → Bool) (h : ℕ) (w : World)
    (f : Frame) (below : List Frame) (at : (w.handlers h).stack ≡ f ∷ below)
    (is : IsPlain pure (w.handlers h).answer f) (more : AllPlain pure (w.handlers h).answer below) where
  abbrev Good : World → Type 0
  Good v = IsCalm s pure (v.handlers h).answer (v.handlers h).stack

  callback_good : (r : Request) →
      Good (takes s h r (f ∷ below) (put h (record (w.handlers h) { callback = None }) w))
  callback_good r =
      let x : Handler = record (w.handlers h) { callback = None } in
      takes_good s pure h r (f ∷ below) (put h x w) (ap (λ (y : Handler). y.stack) (m_put-own h x w) ∙ at)
      (plain_kept pure (w.handlers h).answer ((put h x w).handlers h).answer (f ∷ below)
      (λ n. subst (λ (y : Handler). IsNoReply y.answer) (sym (m_put-own h x w)) n) (is, more))

  waits_good : (k : ℕ) (gives : Option EntityType) (c : Bool) (r : Option Request) (a : Option Answer) →
      (w.handlers h).answer ≡ a → Good (waits s h r a k gives c f below w)
  waits_good k gives c (Some r) a e = callback_good r
  waits_good k gives c None (Some a) e = answer_good s pure h w a k gives c f below e is more
  waits_good k gives c None None e = stays s pure h w (f ∷ below) at (is, more)

  pub goes_good : (most : ℕ) (st : Stage) → h < w.count → f.stage ≡ st → Good (goes_on most s h st f below w)
  goes_good most Runs here e =
      let i : HasStarted f.tasks = runs_started pure (w.handlers h).answer f (ap is_awaiting e) is in
      settles_good s pure h w most (moves s f.current (point_of f (w.handlers h).objects)) f below here at
      (moves_calm s f.current (point_of f (w.handlers h).objects) i) i is.1 more
  goes_good most Reserves here e = reserves_good s pure h w (may_reserve (entry_needs h f w) f.mark w) (entry_needs h f w)
      (record f { stage = Runs; reserved = entry_needs h f w }) f below at is
      (inl (runs_started pure (w.handlers h).answer f (ap is_awaiting e) is), is.1) more
  goes_good most ReservesBlock here e =
      reserves_good s pure h w (may_reserve (block_needs h f w) [] w) (block_needs h f w)
      (record f { stage = Runs; blocks = block_needs h f w ∷ f.blocks }) f below at is
      (inl (runs_started pure (w.handlers h).answer f (ap is_awaiting e) is), is.1) more
  goes_good most (InCall gives) here e = fails_good s pure h cause.BadCode [] w
  goes_good most (Awaits k gives c) here e = waits_good k gives c (w.handlers h).callback (w.handlers h).answer refl
