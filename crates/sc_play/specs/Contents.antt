-- What regions hold.
use Rattle.std.specs.Prelude.{ℕ, Bool, false, List, [], Option, Some, None, slice_get}
use Rattle.sc_model.specs.declared.cause.Cause.{Cause}
use Rattle.sc_region.specs.Objects.{PlainObject}
use Rattle.sc_region.specs.Frames.{PlainFrame}
use Rattle.sc_play.specs.Regions.{PlainRegion}

-- what a region holds, whatever its program is
pub record Contents : Type 0 where
  pub handler : ℕ
  pub objects : List PlainObject
  pub frames : List PlainFrame  -- the topmost first
  pub output : List ℕ
  pub failure : Option Cause  -- it has ended so
  pub is_told : Bool  -- A job whose turn was refused memory has told the creator of a handler its number.

abbrev pub contents_of : PlainRegion → Contents
contents_of x = record {
  handler = x.handler;
  objects = x.store.objects;
  frames = x.store.frames;
  output = x.store.output;
  failure = x.store.failure;
  is_told = x.is_told;
}

-- what the region of a handler holds that was asked for nothing yet
abbrev pub new_contents : ℕ → Contents
new_contents h = record {
  handler = h;
  objects = [];
  frames = [];
  output = [];
  failure = None;
  is_told = false;
}

-- what the region of a handler holds, which is new where there is none
abbrev pub contents_in : ℕ → Option PlainRegion → Contents
contents_in h None = new_contents h
contents_in h (Some x) = contents_of x

abbrev pub contents_at : List PlainRegion → ℕ → Contents
contents_at xs h = contents_in h (slice_get xs h)
