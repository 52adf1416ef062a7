-- Turns in worlds that are played anew.
use Rattle.std.proofs.Common.{◌≡◌, ◌∙◌, ℕ, List, [], ◌∷◌, refl, sym}
use Rattle.sc_lockpass.specs.Versions.{most_handlers}
use Rattle.sc_lockpass.specs.declared.version.Version.{Version}
use Rattle.sc_code.specs.declared.program.Image.{Image}
use Rattle.sc_world.specs.Kept.{AreKeptAlike, IsOf, KeptAlikeTurnAlike, OpeningsAreOf, RunsStayOf, TurnsTo, kept}
use Rattle.sc_world.specs.Turning.{IsTurn, Runs}
use Rattle.sc_world.specs.Worlds.{PlainWorld, opened}
use Rattle.sc_refines_world.specs.Anew.{AnewRunsAsMachine, IsPlayed, RunsAnew}
use Rattle.sc_refines_world.specs.Refining.{WorldRunsAsMachine}

module _ (turn_alike : KeptAlikeTurnAlike) (open_of : OpeningsAreOf) (stay : RunsStayOf) (p : Image) (v : Version) where
  is_of : (w : PlainWorld) → IsPlayed p v w → IsOf p (most_handlers v) w
  is_of w played = stay p (most_handlers v) played.0 (opened p v) w (open_of p v) played.1

  stays_of : (h : ℕ) (w u : PlainWorld) → IsOf p (most_handlers v) w → IsTurn h w u → IsOf p (most_handlers v) u
  stays_of h w u of turn = stay p (most_handlers v) (h ∷ []) w u of (u, turn, refl)

  -- From a world that is kept alike the same turns lead to one that is kept alike with the last world.
  pub follows : (hs : List ℕ) (x w y : PlainWorld) → AreKeptAlike p (most_handlers v) w x → RunsAnew p v hs x y →
      (z : PlainWorld) × Runs hs w z × AreKeptAlike p (most_handlers v) z y
  follows [] x w y alike runs = (w, refl, record { of = alike.of; its = is_of y runs.0; same = alike.same ∙ sym runs.1 })
  follows (h ∷ hs) x w y alike runs =
      let u = runs.0 in
      let z = runs.1 in
      let u_of = is_of u runs.2 in
      let next : TurnsTo h w (kept z) =
      turn_alike p (most_handlers v) u w (record { of = u_of; its = alike.of; same = runs.3 ∙ sym alike.same }) h z runs.4 in
      let still : AreKeptAlike p (most_handlers v) next.after z =
      record { of = stays_of h w next.after alike.of next.turn; its = stays_of h u z u_of runs.4; same = next.kept } in
      let rest = follows hs z next.after y still runs.5 in
      (rest.0, (next.after, next.turn, rest.1), rest.2)

pub anew_runs_as_machine : WorldRunsAsMachine → KeptAlikeTurnAlike → OpeningsAreOf → RunsStayOf → AnewRunsAsMachine
anew_runs_as_machine runs_as turn_alike open_of stay s root faultless well p v hs y program fits runs =
    let of = open_of p v in
    let there = follows turn_alike open_of stay p v hs (opened p v) (opened p v) y (record { of = of; its = of; same = refl }) runs in
    record {
      world = there.0;
      stands = runs_as s root faultless well p v hs there.0 program fits there.1;
      alike = there.2;
    }
