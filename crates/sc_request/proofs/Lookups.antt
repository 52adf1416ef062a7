-- What is read of a handler that is looked up in the table.
use Rattle.std.proofs.Common.{◌≡◌, ◌∙◌, ℕ, Bool, true, false, List, [], Option, None, refl, ap, sym, length, get_or}
use Rattle.std.proofs.lemmas.Bool.{ltb-true}
use Rattle.std.proofs.lemmas.Option.{slice_get_read}
use Rattle.std.specs.Prelude.{nat_lt, slice_get}
use Rattle.sc_lockpass.specs.Rights.{Rights}
use Rattle.sc_lockpass.specs.declared.wait_conditions.mark.Marked.{Marked}
use Rattle.sc_handler.specs.declared.handler.HandlerStage as coded_stage
use Rattle.sc_handler.specs.declared.handler.HandlerStage.TheVariants as stage
use Rattle.sc_handler.specs.declared.handler.Handler as coded
use Rattle.sc_handler.specs.InMemory.{stage_of}
use Rattle.sc_request.specs.Places.{awaited}
use Rattle.sc_request.specs.Tables.{handler_in}
use Rattle.sc_request.specs.Waiting.{is_put_off, needed_at}

-- the stage of the handler that is found at the number
pub stage_found : (xs ys : List coded.Handler) (h : ℕ) (x : coded.Handler) → xs ≡ ys → true ≡ nat_lt h (length xs) → x ≡ get_or xs h x →
    (handler_in (slice_get ys h)).stage ≡ stage_of x.entry.items x.mark x.stage
stage_found xs ys h x e l g =
    ap (λ (o : Option coded.Handler). (handler_in o).stage)
    (ap (λ (zs : List coded.Handler). slice_get zs h) (sym e) ∙ slice_get_read xs (length xs) h x refl (ltb-true h (length xs) (sym l)) g)

-- ---- stages other than a reserve step, or than waiting for an answer

module _ (entry : List ℕ) (mark : List Marked) where
  pub none_put_off : (f : ℕ → ℕ) (st : coded_stage.HandlerStage) → (st ≡ stage.Reserves → ⊥) → is_put_off f (stage_of entry mark st) ≡ false
  none_put_off f stage.Idle apart = refl
  none_put_off f stage.Runs apart = refl
  none_put_off f (stage.HasMade k) apart = refl
  none_put_off f stage.Reserves apart = absurd (apart refl)
  none_put_off f (stage.Awaits k c) apart = refl

  pub none_needed : (h : ℕ) (r : Rights) (st : coded_stage.HandlerStage) → (st ≡ stage.Reserves → ⊥) → needed_at h r (stage_of entry mark st) ≡ []
  none_needed h r stage.Idle apart = refl
  none_needed h r stage.Runs apart = refl
  none_needed h r (stage.HasMade k) apart = refl
  none_needed h r stage.Reserves apart = absurd (apart refl)
  none_needed h r (stage.Awaits k c) apart = refl

  pub none_awaited : (st : coded_stage.HandlerStage) → ((k : ℕ) (c : Bool) → st ≡ stage.Awaits k c → ⊥) → awaited (stage_of entry mark st) ≡ None
  none_awaited stage.Idle apart = refl
  none_awaited stage.Runs apart = refl
  none_awaited (stage.HasMade k) apart = refl
  none_awaited stage.Reserves apart = refl
  none_awaited (stage.Awaits k c) apart = absurd (apart k c refl)
