-- What a call on an object of another handler asks, where it may be made and where it may not.
use Rattle.std.proofs.Common.{◌≡◌, ℕ, ◌+◌, Bool, true, false, Option, Some, None, refl, sym, ap, subst}
use Rattle.std.proofs.lemmas.List.{drop-drop}
use Rattle.std.specs.Prelude.{is_some, if◌then◌else◌}
use Rattle.sc_model.specs.declared.cause.Cause.TheVariants as cause
use Rattle.sc_region.specs.declared.job.Request.{Request}
use Rattle.sc_region.specs.declared.job.Want.TheVariants as want
use Rattle.sc_region.specs.Calls.{next_place, on_top, past}
use Rattle.sc_region.specs.Frames.{PlainActivation}
use Rattle.sc_region.specs.Stores.{PlainStore, failed}
use Rattle.sc_acts.specs.Creating.{without_last}
use Rattle.sc_acts.specs.declared.act.RemoteCall.{RemoteCall}
use Rattle.sc_acts.specs.Requesting.{asks_sending, asks_sent, sending, sent}

asks_by : (r : Request) (b : Bool) (passes : Bool) → r.is_waited ≡ b →
    (if b then want.Ask (record r { is_waited = b }) passes else want.Post (record r { is_waited = b })) ≡ asks_sent r passes
asks_by r b passes e =
    subst (λ (b : Bool). (if b then want.Ask (record r { is_waited = b }) passes else want.Post (record r { is_waited = b })) ≡ asks_sent r passes) e refl

-- it is waited for
pub asks_waited : (r : Request) (passes : Bool) → r.is_waited ≡ true → want.Ask (record r { is_waited = true }) passes ≡ asks_sent r passes
asks_waited r passes e = asks_by r true passes e

-- or posted
pub asks_posted : (r : Request) (passes : Bool) → r.is_waited ≡ false → want.Post (record r { is_waited = false }) ≡ asks_sent r passes
asks_posted r passes e = asks_by r false passes e

-- the target goes with the actuals
pub past_more : (n : ℕ) (a : PlainActivation) → past (n + 1) a ≡ without_last (past n a)
past_more n a =
    ap (λ vs. record a { place = next_place a.place; operands = record a.operands { values = vs } }) (sym (drop-drop 1 n a.operands.values))

-- it may be made
pub sent_some : (o : Option Request) (c : RemoteCall) (x : PlainStore) → is_some o ≡ true → on_top (sending c) x ≡ sent o c x
sent_some None c x e = cc
sent_some (Some r) c x e = refl

-- or not
pub sent_none : (o : Option Request) (c : RemoteCall) (x : PlainStore) → is_some o ≡ false → failed cause.BadCode x ≡ sent o c x
sent_none None c x e = refl
sent_none (Some r) c x e = cc

pub asks_none : (o : Option Request) (passes : Bool) → is_some o ≡ false → want.Fail cause.BadCode ≡ asks_sending o passes
asks_none None passes e = refl
asks_none (Some r) passes e = cc
