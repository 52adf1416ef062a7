-- Stores that silent operations lead to, where memory was refused.
use Rattle.std.proofs.Common.{◌≡◌, Bool, true, false, Option, Some, None, refl, sym, ap, ◌∙◌}
use Rattle.std.specs.Option.{option_map}
use Rattle.sc_region.specs.declared.frame.Stage.{Stage}
use Rattle.sc_region.specs.declared.frame.Stage.TheVariants as stage
use Rattle.sc_region.specs.Frames.{PlainActivation, top_activation}
use Rattle.sc_region.specs.Stores.{PlainStore}
use Rattle.sc_interp.specs.Playing.{Remains}
use Rattle.sc_interp.proofs.SilentMoves.{remains_after, top_of}
use Rattle.sc_interp.proofs.Onward.{leads_on}
use Rattle.sc_acts.proofs.Options.{none_some}
use Rattle.sc_play.specs.Answering.{top_stage}
use Rattle.sc_play.specs.Turns.{IsAhead, StopsFirst}

-- the topmost routine stands at the stage at which it stood
stays_at : (x y : PlainStore) (o : Option PlainActivation) → Remains x y → top_activation x.frames ≡ o → top_stage x ≡ Some stage.Runs → top_stage y ≡ Some stage.Runs
stays_at x y None k e r = none_some stage.Runs (ap (option_map (λ (b : PlainActivation). b.stage)) (sym e) ∙ r)
stays_at x y (Some a) k e r =
    let m = top_of x.frames y.frames a e k.current in
    let same = k.stays a m.0 e m.1 in
    ap (option_map (λ (b : PlainActivation). b.stage)) m.1 ∙ ap (λ (s : Stage). Some s) same.stage
    ∙ ap (option_map (λ (b : PlainActivation). b.stage)) (sym e) ∙ r

pub goes_on_there : (x y : PlainStore) → IsAhead x y → top_stage y ≡ Some stage.Runs
goes_on_there x y a = stays_at x y (top_activation x.frames) a.remains refl a.runs

-- one behind another
ahead_then : (x y z : PlainStore) → IsAhead x y → IsAhead y z → IsAhead x z
ahead_then x y z p q = record { runs = p.runs; leads = leads_on x y z p.leads p.remains q.leads; remains = remains_after x y z p.remains q.remains }

pub stops_then : (b : Bool) (x y z : PlainStore) → StopsFirst b x y → StopsFirst b y z → StopsFirst b x z
stops_then false x y z p q = q ∙ p
stops_then true x y z p q = ahead_then x y z p q
