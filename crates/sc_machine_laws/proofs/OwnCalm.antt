-- A handler of which no frame evaluates, but the topmost one may be entered.
use Rattle.std.proofs.Common.{ℕ, ◌≡◌, Bool, true, false, List, ◌∷◌, Option, Some, sym, ◌∙◌, inl, inr}
use Rattle.sc_tree.specs.Plain.{System}
use Rattle.sc_rules.specs.Names.{RoutineName}
use Rattle.sc_model.specs.Values.{Reference, Value}
use Rattle.sc_model.specs.Environments.{Binding}
use Rattle.sc_model.specs.Routines.{Routine, routine_named}
use Rattle.sc_model.specs.Handlers.{Answer, Reply, Origin, Frame}
use Rattle.sc_model.specs.Entries.{entry}
use Rattle.sc_machine_laws.specs.states.Headline.{is_awaiting}
use Rattle.sc_machine_laws.specs.settlements.Entries.{HasStarted}
use Rattle.sc_machine_laws.specs.Following.{AreBound}
use Rattle.sc_machine_laws.proofs.OwnWorlds.{IsNoReply}
use Rattle.sc_machine_laws.proofs.OwnKept.{IsPlain, AllPlain, plain_kept}

-- The routine is entered, for a call or a request.
pub record IsEntry (s : System) (f : Frame) : Type 0 where
  pub current : Reference
  pub routine : Routine
  pub origin : Origin
  pub bindings : List Binding
  pub name : List ℕ
  pub is_named : routine_named s current.class name ≡ Some routine
  pub are_bound : AreBound s routine bindings
  pub frame_is : f ≡ entry current routine origin bindings

-- No frame evaluates, but the topmost one may be entered.
pub data IsCalm (s : System) (pure : RoutineName → Bool) (a : Option Answer) : List Frame → Type 0 where
  plain : {st : List Frame} → AllPlain pure a st → IsCalm s pure a st
  entered : {f : Frame} {below : List Frame} → IsEntry s f → AllPlain pure a below → IsCalm s pure a (f ∷ below)

pub calm_kept : (s : System) (pure : RoutineName → Bool) (a b : Option Answer) (st : List Frame) →
    (IsNoReply a → IsNoReply b) → IsCalm s pure a st →
    IsCalm s pure b st
calm_kept s pure a b st n (plain z) = plain (plain_kept pure a b st n z)
calm_kept s pure a b _ n (entered {f} {below} e z) = entered e (plain_kept pure a b below n z)

-- it does something else than to wait
pub runs_started : (pure : RoutineName → Bool) (a : Option Answer) (f : Frame) → is_awaiting f.stage ≡ false →
    IsPlain pure a f → HasStarted f.tasks
runs_started pure a f e (inl i, p) = i
runs_started pure a f e (inr i, p) = let both : true ≡ false = sym i.0 ∙ e in cc

pub reply_none : (v : Option Value) (A : Type 0) → IsNoReply (Some (Reply v)) → A
reply_none v A (inl e) = cc
reply_none v A (inr e) = cc
