-- Jobs and wants of a region, what `play` does, and that a region's turn asks what the machine's turn asks.
use Rattle.std.specs.Prelude.{◌≡◌, ◌<◌, ◌≤◌, ℕ, zero, suc, List, [], ◌∷◌, ◌++◌, All, Option, Some, None, length, slice_get, bytes_eq, if◌then◌else◌}
use Rattle.std.specs.Option.{option_map}
use Rattle.sc_tree.specs.Plain.{System}
use Rattle.sc_class.specs.ClassNames.{Root}
use Rattle.sc_class.specs.Faults.ClassRules.{IsFaultless}
use Rattle.sc_rules.specs.SystemRules.{WellFormed}
use Rattle.sc_model.specs.declared.cause.Cause.{Cause}
use Rattle.sc_model.specs.Handlers as machine
use Rattle.sc_model.specs.Handlers.{World}
use Rattle.sc_model.specs.Failures.{to_list}
use Rattle.sc_model.specs.Settled.{SettledObjectsMeet}
use Rattle.sc_model.specs.Turns as model
use Rattle.sc_code.specs.declared.program.Image.{Image}
use Rattle.sc_code.specs.Programs.{IsProgramOf, pool_of}
use Rattle.sc_region.specs.Stores.{PlainStore}
use Rattle.sc_region.specs.declared.job.Errand.{Errand}
use Rattle.sc_region.specs.declared.job.Errand.TheVariants as errand
use Rattle.sc_region.specs.declared.job.Request.{Request}
use Rattle.sc_region.specs.declared.job.Job.{Job}
use Rattle.sc_region.specs.declared.job.Job.TheVariants as job
use Rattle.sc_region.specs.declared.job.Want.{Want}
use Rattle.sc_region.specs.declared.job.Want.TheVariants as want
use Rattle.sc_handler.specs.Handlers as core
use Rattle.sc_handler.specs.Picking.{job_of}
use Rattle.sc_request.specs.Halves.{IsHalfOf}
use Rattle.sc_request.specs.Asked.{Numbering, asked, asks_errand, asks_on}
use Rattle.sc_interp.specs.Values.{reference_of, value_of, values_of}
use Rattle.sc_refines_world.specs.regions.RegionTurns.{Half, new_half, Task, Takes, Replied, SupplierFailed, WasRefused, Granted, Made, GoesOn, Misfits, told_frames, taken_turn, turn, played}
use Rattle.sc_refines_world.specs.regions.RegionHalves.{IsRegionOf, IsRegionHalf}

-- ---- names by number

-- the number of the first name in the list that is `x`
abbrev pub number_among : List ℕ → List (List ℕ) → ℕ
number_among x [] = zero
number_among x (y ∷ ys) = if bytes_eq y x then zero else suc (number_among x ys)

-- Features and creation procedures are numbered by their names.
abbrev pub numbering_by : List (List ℕ) → Numbering
numbering_by names = record { feature = λ class x. number_among x names; procedure = λ class x. number_among x names }

abbrev pub errand_in : List (List ℕ) → Errand → Option machine.Errand
errand_in names (errand.Calls k) = option_map machine.Calls (slice_get names k)
errand_in names (errand.Makes None) = Some (machine.Makes None)
errand_in names (errand.Makes (Some k)) = option_map (λ x. machine.Makes (Some x)) (slice_get names k)

abbrev pub request_with : Request → machine.Errand → machine.Request
request_with r e =
    record {
      poster = r.poster;
      target = reference_of r.target;
      errand = e;
      actuals = values_of r.actuals.items;
      is_waited = r.is_waited;
      passed = None;
    }

abbrev pub taking : Request → Option machine.Errand → Task
taking r None = Misfits
taking r (Some e) = Takes (request_with r e)

-- the job, with the names that have its numbers
abbrev pub task_of : List (List ℕ) → Job → Task
task_of names (job.Take r) = taking r (errand_in names r.errand)
task_of names (job.Reply v) = Replied (option_map value_of v)
task_of names job.Failed = SupplierFailed
task_of names job.Refused = WasRefused
task_of names (job.Granted ks) = Granted ks.items
task_of names (job.Made k) = Made k
task_of names job.Go = GoesOn

-- ---- wants

abbrev pub unless_failed : Option Cause → Want → Want
unless_failed (Some why) w = want.Fail why
unless_failed None w = w

abbrev pub asks_beginning : Numbering → System → ℕ → Task → Half → Want
asks_beginning n s h (Takes r) x = asks_errand s h r r.errand (length x.stack) x.objects
asks_beginning n s h (Made k) x = asks_on n s h (told_frames k x.stack) x.objects
asks_beginning n s h GoesOn x = asks_on n s h x.stack x.objects
asks_beginning n s h job x = want.Continue

-- what the first turn under the job asks of the core
abbrev pub first_want : Numbering → System → ℕ → Task → Half → Want
first_want n s h job x = unless_failed (taken_turn s h job x).failure (asks_beginning n s h job x)

-- what a further turn asks
abbrev pub next_want : Numbering → System → ℕ → Half → Want
next_want n s h x = unless_failed (turn s h x).failure (asks_on n s h x.stack x.objects)

-- what the last of the turns asks, if this number of turns is made under the job
abbrev pub want_after : Numbering → System → ℕ → Task → ℕ → Half → Want
want_after n s h job zero x = want.Continue
want_after n s h job (suc zero) x = first_want n s h job x
want_after n s h job (suc (suc k)) x = next_want n s h (played s h job (suc k) x)

-- ---- what `play` does

-- This number of turns under the job, at most `limit`, leads from the half `x` to `y`, and the last turn asks `w`.
-- No turn before it asks anything: so none is skipped, and if there is memory, the turns end early only at a step
-- that needs the core.
pub record MakesTurns (n : Numbering) (s : System) (h : ℕ) (job : Task) (limit : ℕ) (turns : ℕ) (w : Want)
    (x y : Half) : Type 0 where
  pub some : 0 < turns
  pub few : turns ≤ limit
  pub state : y ≡ played s h job turns x
  pub asks : w ≡ want_after n s h job turns x
  pub none_skipped : (k : ℕ) → 0 < k → k < turns → want_after n s h job k x ≡ want.Continue

-- A log of jobs, with their turns and wants, leads from the half `x` to `y`.
abbrev pub Replays : Numbering → List (List ℕ) → System → ℕ → List (Job × ℕ × Want) → Half → Half → Type 0
Replays n names s h [] x y = x ≡ y
Replays n names s h (e ∷ es) x y =
    (e.2 ≡ want_after n s h (task_of names e.0) e.1 x) × Replays n names s h es (played s h (task_of names e.0) e.1 x) y

-- ---- stores

-- `p` is the program of the system, which has no fault and is well formed.
pub record IsProgramFor (s : System) (p : Image) : Type 0 where
  pub root : Root
  pub faultless : IsFaultless s root
  pub well_formed : WellFormed s
  pub program : IsProgramOf s root p

abbrev pub names_of : PlainStore → List (List ℕ)
names_of x = (pool_of x.program.pool).names

-- What `play` does to a store: whatever half `x` stands for, `y` stands for that half after this number of turns, and
-- the last turn asks `w`.
abbrev pub PlaysOn : ℕ → Job → ℕ → ℕ → Want → PlainStore → PlainStore → Type 0
PlaysOn h j limit turns w x y = (s : System) (a : Half) → IsProgramFor s x.program → IsRegionOf s a x →
    (let b : Half = played s h (task_of (names_of x) j) turns a in
    IsRegionOf s b y × MakesTurns (numbering_by (names_of x)) s h (task_of (names_of x) j) limit turns w a b)

-- The log replays from the half of a handler that was asked for nothing yet to a half that the store stands for.
abbrev pub ReplaysTo : ℕ → List (Job × ℕ × Want) → PlainStore → Type 0
ReplaysTo h log x = (s : System) → IsProgramFor s x.program →
    (a : Half) × Replays (numbering_by (names_of x)) (names_of x) s h log new_half a × IsRegionOf s a x

-- ---- the machine's turn

-- the half after the first turn under the job that the core gives, if it gives one
abbrev pub taken_if : System → ℕ → List (List ℕ) → Option Job → Half → Half
taken_if s h names None x = x
taken_if s h names (Some j) x = taken_turn s h (task_of names j) x

-- The name in the errand, if there is one, has a number.
abbrev pub IsNamed : List (List ℕ) → machine.Errand → Type 0
IsNamed names (machine.Calls x) = slice_get names (number_among x names) ≡ Some x
IsNamed names (machine.Makes None) = Unit {0}
IsNamed names (machine.Makes (Some x)) = slice_get names (number_among x names) ≡ Some x

abbrev pub AreNamed : List (List ℕ) → machine.Handler → Type 0
AreNamed names y = All (λ (r : machine.Request). IsNamed names r.errand) (y.queue ++ to_list y.callback)

-- If core and region are the machine's halves, the region's turn asks what the machine's turn asks.
abbrev pub RegionsAsk : Type 0
RegionsAsk =
    (most : ℕ) (names : List (List ℕ)) (s : System) (h : ℕ) (w : World) (c : core.State) (x : Half) (j : Job) →
    IsHalfOf (numbering_by names) w c →
    IsRegionHalf h (w.handlers h) (c.handlers h).stage x → job_of h c ≡ Some j → AreNamed names (w.handlers h) →
    SettledObjectsMeet s (model.turn most s h w) →
    first_want (numbering_by names) s h (task_of names j) x ≡ asked (numbering_by names) s h j (w.handlers h)
