-- What a silent operation comes to, which passes or fails.
use Rattle.std.proofs.Common.{◌≡◌, ℕ, ◌+◌, Option, Some, IfSome, sym, subst}
use Rattle.std.specs.Prelude.{Result, Ok, Err}
use Rattle.sc_model.specs.declared.cause.Cause.{Cause}
use Rattle.sc_code.specs.declared.operation.Operation as coded
use Rattle.sc_code.specs.Machine.{Code, State, Hop}
use Rattle.sc_region.specs.declared.value.Reference as reference
use Rattle.sc_region.specs.Frames.{PlainActivation, top_current}
use Rattle.sc_region.specs.Stores.{PlainStore}
use Rattle.sc_interp.specs.declared.hops.Hop as outcome
use Rattle.sc_interp.specs.declared.hops.Hop.TheVariants as told
use Rattle.sc_interp.specs.Hopping.{IsNext, NextIs}
use Rattle.sc_interp.specs.Hopping as hopping
use Rattle.sc_interp.specs.Playing.{Plays, Remains}
use Rattle.sc_interp.specs.Standing.{Passes, stepped}
use Rattle.sc_interp.specs.Told.{IsDone}
use Rattle.sc_interp.proofs.SilentMoves.{next_plays, passes_more, remains_after}

pub done_stepped : (step : Result Unit Cause) (h : outcome.Hop) → h ≡ stepped step → IsDone h
done_stepped (Ok done) h e = subst (λ (o : outcome.Hop). IsDone o) (sym e) tt
done_stepped (Err why) h e = subst (λ (o : outcome.Hop). IsDone o) (sym e) tt

pub passes_stepped : (count : ℕ) (does : Code → State → Hop) (step : Result Unit Cause) (h : outcome.Hop) (a b : PlainActivation) → h ≡ stepped step →
    Passes count does (stepped step) a b → Passes count does h a b
passes_stepped count does step h a b e next = subst (λ (o : outcome.Hop). Passes count does o a b) (sym e) next

-- ---- the next operation of the topmost routine

pub next_step : (me : reference.Reference) (n : ℕ) (o : coded.Operation) (r : Option (Result Unit Cause)) (step : Result Unit Cause) (x y : PlainStore) → top_current x.frames ≡ Some me →
    IsNext x (Some (n, o)) → r ≡ Some step → IfSome r (λ step. Plays me n o (stepped step) x y) → NextIs (stepped step) x y
next_step me n o r step x y here is e plays =
    next_plays me n o (stepped step) x y here is (subst (λ (q : Option (Result Unit Cause)). IfSome q (λ step. Plays me n o (stepped step) x y)) e plays)

-- it is another operation, and nothing has changed yet
pub next_other : (me : reference.Reference) (n : ℕ) (o : coded.Operation) (h : outcome.Hop) (x y z : PlainStore) → y ≡ x → top_current x.frames ≡ Some me →
    IsNext x (Some (n, o)) → Plays me n o h y z → NextIs h x z
next_other me n o h x y z same here is plays = next_plays me n o h x z here is (subst (λ (w : PlainStore). Plays me n o h w z) same plays)

pub remains_other : (x y z : PlainStore) → y ≡ x → Remains y z → Remains x z
remains_other x y z same k = subst (λ (w : PlainStore). Remains w z) same k

-- ---- one after another

pub passes_on : (n : ℕ) (x y z w : PlainStore) → w ≡ z → hopping.Passes n x y → Remains x y → NextIs told.Passed y z → hopping.Passes (n + 1) x w
passes_on n x y z w same before k next = subst (λ (v : PlainStore). hopping.Passes (n + 1) x v) (sym same) (passes_more n x y z before k next)

pub remains_on : (x y z w : PlainStore) → w ≡ z → Remains x y → Remains y z → Remains x w
remains_on x y z w same k l = subst (λ (v : PlainStore). Remains x v) (sym same) (remains_after x y z k l)
