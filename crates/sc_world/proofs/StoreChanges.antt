-- What changes of a store leave of the requests that it serves.
use Rattle.std.proofs.Common.{◌≡◌, ◌<◌, ◌+◌, ◌-◌, ℕ, Bool, true, false, List, [], ◌∷◌, Option, Some, None, length, drop, refl, sym, ap, subst, ◌∙◌}
use Rattle.std.specs.Prelude.{◌&&◌, ◌==◌, nat_lt, if◌then◌else◌}
use Rattle.sc_model.specs.declared.cause.Cause.{Cause}
use Rattle.sc_model.specs.declared.cause.Cause.TheVariants as cause
use Rattle.sc_code.specs.declared.program.RoutineCode.{RoutineCode}
use Rattle.sc_region.specs.declared.frame.Origin.{Origin}
use Rattle.sc_region.specs.declared.value.Reference.{Reference}
use Rattle.sc_region.specs.declared.value.Value.{Value}
use Rattle.sc_region.specs.Classes.{object_breaks, routine_at}
use Rattle.sc_region.specs.Frames.{PlainActivation, PlainFrame, top_activation, top_current}
use Rattle.sc_region.specs.Objects.{object_numbered}
use Rattle.sc_region.specs.Stores.{PlainStore, born, born_for, entered, entered_at, entry, failed, is_settled, left, left_to, max_frames, settled, with_new}
use Rattle.sc_interp.specs.Playing.{Remains}
use Rattle.sc_region.specs.Calls.{on_top, top_frame}
use Rattle.sc_world.specs.Requests.Serving.{Serve, served}

-- It serves so many, unless it has failed.
abbrev pub Serving : ℕ → PlainStore → Type 0
Serving n x = x.failure ≡ None → Serve x.frames n

pub some_none : {A B : Type 0} (x : A) → Some x ≡ None → B
some_none x e = cc

pub none_some : {A B : Type 0} (x : A) → None ≡ Some x → B
none_some x e = cc

pub failed_serves : (n : ℕ) (why : Cause) (x : PlainStore) → Serving n (failed why x)
failed_serves n why x e = some_none why e

pub if_serves : (b : Bool) (n : ℕ) (x y : PlainStore) → Serving n x → Serving n y → Serving n (if b then x else y)
if_serves true n x y p q = p
if_serves false n x y p q = q

pub so_many : (m n : ℕ) (x : PlainStore) → m ≡ n → Serving m x → Serving n x
so_many m n x same s e = subst (Serve x.frames) same (s e)

-- ---- the topmost routine

top_serve : (f : PlainActivation → PlainActivation) (fs : List PlainFrame) (n : ℕ) → ((a : PlainActivation) → (f a).origin ≡ a.origin) → Serve fs n →
    Serve (top_frame f fs) n
top_serve f [] n same s = s
top_serve f (t ∷ below) n same s = (s.0, subst (λ (o : Origin). Serve below (n - served o)) (sym (same t.activation)) s.1)

-- it began as before
pub on_top_serves : (f : PlainActivation → PlainActivation) (n : ℕ) (x : PlainStore) → ((a : PlainActivation) → (f a).origin ≡ a.origin) → Serving n x →
    Serving n (on_top f x)
on_top_serves f n x same s e = top_serve f x.frames n same (s e)

-- where there is a routine a request is served
pub some_served : (fs : List PlainFrame) (a : PlainActivation) (n : ℕ) → top_activation fs ≡ Some a → Serve fs n → 0 < n
some_served [] a n e s = none_some a e
some_served (f ∷ below) a n e s = s.0

remains_served : (fs gs : List PlainFrame) (x y : PlainStore) (n : ℕ) → x.frames ≡ fs → y.frames ≡ gs → Remains x y → Serve fs n → Serve gs n
remains_served [] [] x y n ex ey r s = s
remains_served [] (g ∷ gs) x y n ex ey r s = some_none g.current (sym (ap top_current ey) ∙ r.current ∙ ap top_current ex)
remains_served (f ∷ fs) [] x y n ex ey r s = none_some f.current (sym (ap top_current ey) ∙ r.current ∙ ap top_current ex)
remains_served (f ∷ fs) (g ∷ gs) x y n ex ey r s =
    let origin = (r.stays f.activation g.activation (ap top_activation ex) (ap top_activation ey)).origin in
    let below : gs ≡ fs = sym (ap (λ (hs : List PlainFrame). drop 1 hs) ey) ∙ r.below ∙ ap (λ (hs : List PlainFrame). drop 1 hs) ex in (
      s.0,
      subst (λ (hs : List PlainFrame). Serve hs (n - served g.activation.origin)) (sym below)
          (subst (λ (o : Origin). Serve fs (n - served o)) (sym origin) s.1),
    )

-- silent operations leave what is served
pub remains_serves : (n : ℕ) (x y : PlainStore) → Remains x y → Serving n x → Serving n y
remains_serves n x y r s e = remains_served x.frames y.frames x y n refl refl r (s (sym r.failure ∙ e))

-- ---- frames come

pushed : (n m : ℕ) (f : PlainFrame) (x : PlainStore) → (x.failure ≡ None → 0 < m) → m - served f.activation.origin ≡ n → Serving n x →
    Serving m (record x { frames = f ∷ x.frames })
pushed n m f x some less s e = (some e, subst (Serve x.frames) (sym less) (s e))

pub entered_at_serves : (n m count : ℕ) (me : Reference) (routine : ℕ) (r : Option RoutineCode) (o : Origin) (us : List Value) (x : PlainStore) →
    (x.failure ≡ None → 0 < m) → m - served o ≡ n → Serving n x → Serving m (entered_at count me routine r o us x)
entered_at_serves n m count me routine None o us x some less s = failed_serves m cause.BadCode x
entered_at_serves n m count me routine (Some r) o us x some less s =
    let y : PlainStore = record x { frames = entry me routine r o us ∷ x.frames } in
    if_serves (length us == r.formals) m (if nat_lt count max_frames then y else failed cause.StackFull x) (failed cause.BadCode x)
    (if_serves (nat_lt count max_frames) m y (failed cause.StackFull x) (pushed n m (entry me routine r o us) x some less s) (failed_serves m cause.StackFull x))
    (failed_serves m cause.BadCode x)

pub entered_serves : (n m : ℕ) (me : Reference) (routine : ℕ) (o : Origin) (us : List Value) (x : PlainStore) → (x.failure ≡ None → 0 < m) →
    m - served o ≡ n → Serving n x → Serving m (entered me routine o us x)
entered_serves n m me routine o us x some less s =
    entered_at_serves n m (length x.frames) me routine (routine_at x.program routine) o us x some less s

-- ---- frames go, and objects come

settled_serves : (n number : ℕ) (x : PlainStore) → Serving n x → Serving n (settled number x)
settled_serves n number x s =
    if_serves (is_settled number x && object_breaks x.program (object_numbered number x.objects)) n (failed cause.Invariant x) x
    (failed_serves n cause.Invariant x) s

pub left_serves : (n : ℕ) (f : PlainFrame) (below : List PlainFrame) (x : PlainStore) → x.frames ≡ f ∷ below → Serving n x →
    Serving (n - served f.activation.origin) (left x)
left_serves n f below x e s =
    subst (λ (fs : List PlainFrame). Serving (n - served f.activation.origin) (left_to fs x)) (sym e)
    (settled_serves (n - served f.activation.origin) f.current.number (record x { frames = below })
    (λ stands. (subst (λ (fs : List PlainFrame). Serve fs n) e (s stands)).1))

pub born_serves : (n class : ℕ) (x : PlainStore) → Serving n x → Serving n (born class x)
born_serves n class x s = settled_serves n (length x.objects + 1) (with_new class x) s

pub born_for_serves : (n m : ℕ) (me : Reference) (routine : ℕ) (o : Origin) (us : List Value) (x : PlainStore) → (x.failure ≡ None → 0 < m) →
    m - served o ≡ n → Serving n x → Serving m (born_for me routine o us x)
born_for_serves n m me routine o us x some less s =
    settled_serves m (length x.objects + 1) (entered me routine o us (with_new me.class x))
    (entered_serves n m me routine o us (with_new me.class x) some less s)
