-- The tables of a core where one handler is changed.
use Rattle.std.proofs.Common.{◌≡◌, ◌==◌, ℕ, false, List, [], Option, Some, refl, sym, ap, ◌∙◌, inl, inr, slice_set}
use Rattle.std.proofs.Math.Path.{fun_ext}
use Rattle.std.proofs.lemmas.Bool.{cases_eq, eq-eqb, ne_eqb}
use Rattle.std.specs.Prelude.{slice_get, slice_index, if◌then◌else◌}
use Rattle.std.specs.Option.{option_and_then}
use Rattle.sc_lockpass.specs.Tables.{Table}
use Rattle.sc_region.specs.declared.job.Job.{Job}
use Rattle.sc_handler.specs.declared.handler.Handler as coded
use Rattle.sc_handler.specs.declared.handler.HandlerStage as coded_stage
use Rattle.sc_handler.specs.declared.handler.HandlerStage.TheVariants as stage
use Rattle.sc_handler.specs.InMemory.{reserves_at, handler_with, stage_of}
use Rattle.sc_handler.specs.Handlers.{Handler, put, Reserves}
use Rattle.sc_request.specs.Tables.{handler_in, handler_at, state_of, out_at}
use Rattle.arrayvec.specs.ArrayVec.{ArrayVec}
use Rattle.sc_lockpass.specs.declared.wait_conditions.mark.Marked.{Marked}
use Rattle.sc_request.proofs.Outs.{get_same, get_other, kept_at}

-- the handler of the number, where it is this one
pub handler_is : (xs : List coded.Handler) (sessions : List ℕ) (h : ℕ) (x : coded.Handler) → slice_get xs h ≡ Some x →
    handler_at xs sessions h ≡ handler_with (slice_index sessions h) x
handler_is xs sessions h x e = ap (λ (o : Option coded.Handler). record (handler_in o) { sessions = slice_index sessions h }) e

one_changed : (xs : List coded.Handler) (sessions : List ℕ) (h k : ℕ) (x y : coded.Handler) (f : Handler → Handler) → slice_get xs h ≡ Some x →
    ((n : ℕ) → handler_with n y ≡ f (handler_with n x)) →
    handler_at (slice_set xs h y) sessions k ≡ (if k == h then f (handler_at xs sessions h) else handler_at xs sessions k)
one_changed xs sessions h k x y f e same = elim (cases_eq k h) [
  | inl is ↦ rw (is, eq-eqb h h refl) (handler_is (slice_set xs h y) sessions h y (get_same xs h x y e) ∙ same (slice_index sessions h) ∙ ap f (sym (handler_is xs sessions h x e)))
  | inr apart ↦ rw (ne_eqb k h apart) (ap (λ (o : Option coded.Handler). record (handler_in o) { sessions = slice_index sessions k }) (get_other xs h k y apart))
]

-- one handler becomes what the function makes of it
pub changed : (count : ℕ) (xs : List coded.Handler) (sessions : List ℕ) (t : Table) (h : ℕ) (x y : coded.Handler) (f : Handler → Handler) →
    slice_get xs h ≡ Some x → ((n : ℕ) → handler_with n y ≡ f (handler_with n x)) →
    state_of count (slice_set xs h y) sessions t ≡ put h (f ((state_of count xs sessions t).handlers h)) (state_of count xs sessions t)
changed count xs sessions t h x y f e same = λ i. record {
  count = count;
  handlers = fun_ext (λ k. one_changed xs sessions h k x y f e same) i;
  rights = (state_of count xs sessions t).rights;
}

abbrev out_in : Option coded.Handler → Option Job
out_in o = option_and_then (λ (x : coded.Handler). x.out) o

pub outs_kept : (xs : List coded.Handler) (h : ℕ) (x y : coded.Handler) → slice_get xs h ≡ Some x → y.out ≡ x.out → out_at (slice_set xs h y) ≡ out_at xs
outs_kept xs h x y e same = fun_ext (λ k. kept_at out_in xs h k x y e same)

-- a stage that isn't a reserve step has neither an entry nor a mark
pub stands : (st : coded_stage.HandlerStage) (x : coded.Handler) → reserves_at st ≡ false →
    (n : ℕ) → handler_with n (record x { stage = st }) ≡ record (handler_with n x) { stage = stage_of [] [] st }
stands stage.Idle x e n = refl
stands stage.Runs x e n = refl
stands (stage.HasMade k) x e n = refl
stands stage.Reserves x e n = cc
stands (stage.Awaits k is_creation) x e n = refl

pub reserves_next : (x : coded.Handler) (entry other : ArrayVec ℕ) (mark : List Marked) → other ≡ entry → mark ≡ [] →
    (n : ℕ) → handler_with n (record x { stage = stage.Reserves; entry = other; mark = mark }) ≡
    record (handler_with n x) { stage = Reserves entry.items []; entry = entry.items }
reserves_next x entry other mark e f n =
    ap (λ (es : ArrayVec ℕ). handler_with n (record x { stage = stage.Reserves; entry = es; mark = mark })) e
    ∙ ap (λ (m : List Marked). handler_with n (record x { stage = stage.Reserves; entry = entry; mark = m })) f
