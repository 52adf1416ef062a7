-- What makes a half of a handler a region's, and what keeps it so.
use Rattle.std.proofs.Common.{◌≡◌, inl, if◌then◌else◌, ℕ, suc, Bool, true, false, List, [], ◌∷◌, Some, None, length, refl, sym, ap, subst, ◌∙◌}
use Rattle.sc_lockpass.specs.declared.wait_conditions.mark.Marked.{Marked}
use Rattle.sc_lockpass.specs.declared.wait_conditions.session.Release.{Release}
use Rattle.sc_model.specs.declared.cause.Cause.{Cause}
use Rattle.sc_model.specs.Values.{Operand}
use Rattle.sc_model.specs.Handlers as machine
use Rattle.sc_model.specs.Handlers.{Request, Answer, Stage, Runs, Reserves, ReservesBlock, InCall, Awaits, Frame, Handler, World}
use Rattle.sc_model.specs.Sessions.{release}
use Rattle.sc_model.specs.Answers.{finish}
use Rattle.sc_model.specs.Failures.{fallen, fails_with}
use Rattle.sc_handler.specs.Handlers as core
use Rattle.sc_refines_world.specs.regions.RegionTurns.{Half, failed}
use Rattle.sc_refines_world.specs.regions.RegionHalves.{unpassed, IsStageFor, IsToldOf, IsHalfOfFrame, AreHalvesOf, IsRegionHalf}
use Rattle.sc_refines_world.proofs.regions.Alike.{IsAlike, own, fails_alike, release_alike, finish_alike}

pub some_none : {A B : Type 0} (x : A) → Some x ≡ None → B
some_none x e = cc

pub none_some : {A B : Type 0} (x : A) → None ≡ Some x → B
none_some x e = cc

pub by_test : {A : Type 0} (P : A → Type 0) (b : Bool) (x y : A) → (b ≡ true → P x) → (b ≡ false → P y) → P (if b then x else y)
by_test P true x y p q = p refl
by_test P false x y p q = q refl

-- ---- halves

-- The region's half of a handler stays that of one that it sees alike.
pub half_alike : (h : ℕ) (t : core.HandlerStage) (y z : Handler) (x : Half) → IsAlike y z → IsRegionHalf h y t x → IsRegionHalf h z t x
half_alike h t y z x a e = record {
  objects = e.objects ∙ sym a.objects;
  output = e.output ∙ sym a.output;
  stands = λ lives.
      let both = e.stands (sym a.failure ∙ lives) in
      (both.0, subst (λ (fs : List Frame). AreHalvesOf h t fs x.stack) (sym a.stack) both.1);
  failure = λ why is. a.failure ∙ e.failure why is;
}

pub stands_on : (h : ℕ) (t : core.HandlerStage) (y : Handler) (x : Half) → x.objects ≡ y.objects → x.output ≡ y.output → x.failure ≡ None →
    AreHalvesOf h t y.stack x.stack → IsRegionHalf h y t x
stands_on h t y x objects output lives halves =
    record { objects = objects; output = output; stands = λ e. (lives, halves); failure = λ why is. none_some why (sym lives ∙ is) }

pub put_half : (h : ℕ) (t : core.HandlerStage) (z : Handler) (w : World) (x : Half) → IsRegionHalf h z t x → IsRegionHalf h ((machine.put h z w).handlers h) t x
put_half h t z w x e = subst (λ (y : Handler). IsRegionHalf h y t x) (sym (own h z w)) e

-- the handler has other frames
pub stack_half : (h : ℕ) (t : core.HandlerStage) (fs : List Frame) (w : World) (x : Half) → x.objects ≡ (w.handlers h).objects → x.output ≡ (w.handlers h).output →
    x.failure ≡ None → AreHalvesOf h t fs x.stack → IsRegionHalf h ((machine.with_stack h fs w).handlers h) t x
stack_half h t fs w x objects output lives halves =
    put_half h t (record (w.handlers h) { stack = fs }) w x (stands_on h t (record (w.handlers h) { stack = fs }) x objects output lives halves)

pub released_half : (h : ℕ) (t : core.HandlerStage) (how : Release) (ks : List ℕ) (w : World) (x : Half) → IsRegionHalf h (w.handlers h) t x →
    IsRegionHalf h ((release how ks w).handlers h) t x
released_half h t how ks w x e = half_alike h t (w.handlers h) _ x (release_alike how ks w h) e

pub finished_half : (h : ℕ) (t : core.HandlerStage) (r : Request) (a : Answer) (w : World) (x : Half) → IsRegionHalf h (w.handlers h) t x →
    IsRegionHalf h ((finish r a w).handlers h) t x
finished_half h t r a w x e = half_alike h t (w.handlers h) _ x (finish_alike r a w h) e

-- ---- failures

-- Both fail.
pub fail_both : (h : ℕ) (t : core.HandlerStage) (why : Cause) (taken : List Request) (w : World) (x : Half) → x.objects ≡ (w.handlers h).objects →
    x.output ≡ (w.handlers h).output → IsRegionHalf h ((fails_with h why taken w).handlers h) t (failed why x)
fail_both h t why taken w x objects output =
    half_alike h t (fallen why (w.handlers h)) _ (failed why x) (fails_alike h why taken w)
    (record { objects = objects; output = output; stands = λ e. some_none why e; failure = λ cause is. is })

-- The core finds a failure that the region isn't told.
pub fails_alone : (h : ℕ) (t : core.HandlerStage) (why : Cause) (taken : List Request) (w : World) (x : Half) → x.objects ≡ (w.handlers h).objects →
    x.output ≡ (w.handlers h).output → x.failure ≡ None → IsRegionHalf h ((fails_with h why taken w).handlers h) t x
fails_alone h t why taken w x objects output lives =
    half_alike h t (fallen why (w.handlers h)) _ x (fails_alike h why taken w)
    (record { objects = objects; output = output; stands = λ e. some_none why e; failure = λ cause is. none_some cause (sym lives ∙ is) })

-- ---- stages of the core

-- The handler goes on with nothing to be told.
abbrev pub IsCalm : core.HandlerStage → Type 0
IsCalm core.Idle = Unit {0}
IsCalm core.Runs = Unit {0}
IsCalm (core.HasMade k) = ⊥
IsCalm (core.Reserves ks mark) = Unit {0}
IsCalm (core.Awaits k is_creation) = Unit {0}

told_calm : (stage : Stage) (t : core.HandlerStage) (us vs : List Operand) → IsCalm t → IsToldOf stage core.Runs us vs → IsToldOf stage t us vs
told_calm Runs core.Idle us vs c e = e
told_calm Runs core.Runs us vs c e = e
told_calm Runs (core.HasMade k) us vs c e = absurd c
told_calm Runs (core.Reserves ks mark) us vs c e = e
told_calm Runs (core.Awaits k b) us vs c e = e
told_calm Reserves t us vs c e = e
told_calm ReservesBlock t us vs c e = e
told_calm (InCall gives) t us vs c e = e
told_calm (Awaits k gives true) t us vs c e = e
told_calm (Awaits k gives false) t us vs c e = e

calm_told : (stage : Stage) (t : core.HandlerStage) (us vs : List Operand) → IsCalm t → IsToldOf stage t us vs → IsToldOf stage core.Runs us vs
calm_told Runs core.Idle us vs c e = e
calm_told Runs core.Runs us vs c e = e
calm_told Runs (core.HasMade k) us vs c e = absurd c
calm_told Runs (core.Reserves ks mark) us vs c e = e
calm_told Runs (core.Awaits k b) us vs c e = e
calm_told Reserves t us vs c e = e
calm_told ReservesBlock t us vs c e = e
calm_told (InCall gives) t us vs c e = e
calm_told (Awaits k gives true) t us vs c e = e
calm_told (Awaits k gives false) t us vs c e = e

halves_calm : (h : ℕ) (t : core.HandlerStage) (fs gs : List Frame) → IsCalm t → AreHalvesOf h core.Runs fs gs → AreHalvesOf h t fs gs
halves_calm h t [] [] c e = e
halves_calm h t [] (g ∷ gs) c e = absurd e
halves_calm h t (f ∷ fs) [] c e = absurd e
halves_calm h t (f ∷ fs) (g ∷ gs) c e =
    (record { same = e.0.same; origin = e.0.origin; stands = e.0.stands; values = told_calm f.stage t f.values g.values c e.0.values }, e.1)

pub calm_halves : (h : ℕ) (t : core.HandlerStage) (fs gs : List Frame) → IsCalm t → AreHalvesOf h t fs gs → AreHalvesOf h core.Runs fs gs
calm_halves h t [] [] c e = e
calm_halves h t [] (g ∷ gs) c e = absurd e
calm_halves h t (f ∷ fs) [] c e = absurd e
calm_halves h t (f ∷ fs) (g ∷ gs) c e =
    (record { same = e.0.same; origin = e.0.origin; stands = e.0.stands; values = calm_told f.stage t f.values g.values c e.0.values }, e.1)

-- Where the core has nothing to tell, how it stands is nothing to the region.
pub half_calm : (h : ℕ) (y : Handler) (t : core.HandlerStage) (x : Half) → IsCalm t → IsRegionHalf h y core.Runs x → IsRegionHalf h y t x
half_calm h y t x c e = record {
  objects = e.objects;
  output = e.output;
  stands = λ lives. let both = e.stands lives in (both.0, halves_calm h t y.stack x.stack c both.1);
  failure = e.failure;
}

-- Nor is it where the handler has failed.
pub half_fallen : (h : ℕ) (y : Handler) (t t' : core.HandlerStage) (x : Half) (why : Cause) → y.failure ≡ Some why → IsRegionHalf h y t x → IsRegionHalf h y t' x
half_fallen h y t t' x why fell e =
    record { objects = e.objects; output = e.output; stands = λ lives. some_none why (sym fell ∙ lives); failure = e.failure }

-- ---- the half of a handler that stands

abbrev pub half_at : Handler → List Frame → Half
half_at y gs = record { objects = y.objects; stack = gs; output = y.output; failure = None }

pub half_is : (h : ℕ) (t : core.HandlerStage) (y : Handler) (x : Half) → y.failure ≡ None → IsRegionHalf h y t x → x ≡ half_at y x.stack
half_is h t y x lives e = λ i. record { objects = e.objects i; stack = x.stack; output = e.output i; failure = (e.stands lives).0 i }

-- ---- frames

-- the frame without what the core knows, with this mark
abbrev pub view : Frame → List Marked → Frame
view f m = record f { origin = unpassed f.origin; mark = m }

-- a stage that the region has as it is
abbrev pub IsOwn : Stage → Type 0
IsOwn Runs = Unit {0}
IsOwn Reserves = Unit {0}
IsOwn ReservesBlock = Unit {0}
IsOwn (InCall gives) = Unit {0}
IsOwn (Awaits k gives true) = ⊥
IsOwn (Awaits k gives false) = Unit {0}

own_stage : (h : ℕ) (stage : Stage) → IsOwn stage → IsStageFor h stage stage
own_stage h Runs o = refl
own_stage h Reserves o = refl
own_stage h ReservesBlock o = refl
own_stage h (InCall gives) o = refl
own_stage h (Awaits k gives true) o = absurd o
own_stage h (Awaits k gives false) o = inl refl

own_told : (stage : Stage) (us : List Operand) → IsOwn stage → IsToldOf stage core.Runs us us
own_told Runs us o = refl
own_told Reserves us o = refl
own_told ReservesBlock us o = refl
own_told (InCall gives) us o = refl
own_told (Awaits k gives true) us o = absurd o
own_told (Awaits k gives false) us o = refl

pub view_half : (h : ℕ) (f : Frame) (m : List Marked) → IsOwn f.stage → IsHalfOfFrame h core.Runs f (view f m)
view_half h f m o = record { same = refl; origin = refl; stands = own_stage h f.stage o; values = own_told f.stage f.values o }

pub runs_own : (f : Frame) → f.stage ≡ Runs → IsOwn f.stage
runs_own f is = subst IsOwn (sym is) tt

-- what the region has of a frame, by its stage and its values
pub seen : (h : ℕ) (t : core.HandlerStage) (f g : Frame) (stage : Stage) (us vs : List Operand) → IsHalfOfFrame h t f g → g.stage ≡ stage → us ≡ vs →
    record g { values = us } ≡ record f { origin = unpassed f.origin; stage = stage; values = vs; mark = g.mark }
seen h t f g stage us vs e is values =
    λ i. record (sym e.same i) { origin = e.origin i; stage = is i; values = values i; mark = g.mark }

pub same_length : (h : ℕ) (t : core.HandlerStage) (fs gs : List Frame) → AreHalvesOf h t fs gs → length fs ≡ length gs
same_length h t [] [] e = refl
same_length h t [] (g ∷ gs) e = absurd e
same_length h t (f ∷ fs) [] e = absurd e
same_length h t (f ∷ fs) (g ∷ gs) e = ap suc (same_length h core.Runs fs gs e.1)
