-- States that are put into a configuration.
use Rattle.std.specs.Prelude.{◌≡◌, ◌<◌, ◌≤◌, ℕ, List, Option, Some, None, length, map, slice_get}
use Rattle.sc_code.specs.declared.program.Image.{Image}
use Rattle.sc_play.specs.Contents.{Contents, contents_at, contents_of, new_contents}
use Rattle.sc_play.specs.Regions.{PlainRegion}
use Rattle.sc_request.specs.Parts.{AreWithin, PlainPart, means, new_part, part_at, parts_in, state_with}
use Rattle.sc_world.specs.declared.loading.Numbers.{Numbers}
use Rattle.sc_world.specs.declared.loading.Tables.{Tables}
use Rattle.sc_world.specs.Free.{IsLinked}
use Rattle.sc_world.specs.Kept.{IsOf, PlainKept, kept}
use Rattle.sc_world.specs.Worlds.{PlainWorld}

-- ---- what is kept, handler by handler

-- what is held at a place, and nothing yet past all
abbrev pub held_in : ℕ → Option Contents → Contents
held_in h None = new_contents h
held_in h (Some x) = x

-- what is kept of so many handlers with these parts and regions, where all past them are new
abbrev pub kept_with : ℕ → List PlainPart → List Contents → PlainKept
kept_with count ps xs = record { state = state_with count ps; regions = λ h. held_in h (slice_get xs h) }

-- From this number on no handler was asked for anything, or is held.
abbrev pub AreNewFrom : ℕ → PlainWorld → Type 0
AreNewFrom n w =
    (h : ℕ) → n ≤ h → (part_at h w.center.state ≡ new_part) × (contents_at w.regions h ≡ new_contents h)

-- Where all from a number on are new, the parts and the regions below it are all that is kept.
abbrev pub WorldsAreKeptByNumbers : Type 0
WorldsAreKeptByNumbers =
    (n : ℕ) (w : PlainWorld) (ps : List PlainPart) (xs : List Contents) →
    AreNewFrom n w → length ps ≡ n → length xs ≡ n →
    ((h : ℕ) → h < n →
    (slice_get ps h ≡ Some (part_at h w.center.state)) × (slice_get xs h ≡ Some (contents_at w.regions h))) →
    kept w ≡ kept_with w.center.state.count ps xs

-- ---- numbers

-- what the regions of these numbers hold
abbrev pub contents_by : List PlainRegion → List ℕ → List Contents
contents_by table numbers = means (map contents_of table) (new_contents 0) numbers

-- what the numbers stand for, by the tables
abbrev pub kept_by : Tables → Numbers → PlainKept
kept_by t n = kept_with n.count (parts_in t.parts.now n.parts.now) (contents_by t.regions.now n.regions.now)

-- All of the regions are of the program.
abbrev pub AreOf : Image → List PlainRegion → Type 0
AreOf p xs = (h : ℕ) (x : PlainRegion) → slice_get xs h ≡ Some x → x.store.program ≡ p

-- The numbers stand for what is kept of a world of the program that the world in memory is of, and the regions in the
-- table are: one in which each handler serves in the core what its region serves.
pub record IsLoadable (old : PlainWorld) (t : Tables) (n : Numbers) : Type 0 where
  pub program : Image
  pub most : ℕ
  pub of : IsOf program most old
  pub programs : AreOf program t.regions.now
  pub regions_within : AreWithin n.regions.now (length t.regions.now)
  pub parts_within : AreWithin n.parts.now (length t.parts.now)
  pub few : length n.regions.now ≤ 512
  pub as_many : length n.parts.now ≡ length n.regions.now
  pub world : PlainWorld
  pub its : IsOf program most world
  pub linked : IsLinked world
  pub kept_is : kept world ≡ kept_by t n

-- ---- what is put in the place of a region

-- The change makes the first region hold what the second one does: there is none if it does already, and a copy else.
abbrev pub LeadsTo : Option PlainRegion → PlainRegion → PlainRegion → Type 0
LeadsTo None x y = contents_of x ≡ contents_of y
LeadsTo (Some z) x y = z ≡ y

-- what the place of a handler holds after a change, or where there is none: a new region then
abbrev pub contents_after : ℕ → List PlainRegion → Option (Option PlainRegion) → Contents
contents_after h xs None = new_contents h
contents_after h xs (Some None) = contents_at xs h
contents_after h xs (Some (Some x)) = contents_of x

-- All regions that are put in the place of others are of the program.
abbrev pub ChangesAreOf : Image → List (Option PlainRegion) → Type 0
ChangesAreOf p changes = (h : ℕ) (x : PlainRegion) → slice_get changes h ≡ Some (Some x) → x.store.program ≡ p
