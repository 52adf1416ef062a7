-- Routines that call others of the same handler.
use Rattle.std.specs.Prelude.{◌≡◌, ◌≤◌, ℕ, zero, suc, ◌+◌, Bool, List, [], ◌∷◌, drop, min}
use Rattle.sc_code.specs.declared.program.RoutineCode.{RoutineCode}
use Rattle.sc_region.specs.declared.frame.OwnCall.{OwnCall}
use Rattle.sc_region.specs.declared.frame.Stage.TheVariants as stage
use Rattle.sc_region.specs.declared.value.Reference.{Reference}
use Rattle.sc_region.specs.declared.value.Value.{Value}
use Rattle.sc_region.specs.Frames.{PlainActivation, PlainFrame}
use Rattle.sc_region.specs.Stores.{PlainStore, entered, entry}

-- ---- operands

-- the last so many values, in the order of the text, before those given
abbrev pub taken : ℕ → List Value → List Value → List Value
taken zero us vs = us
taken (suc n) us [] = us
taken (suc n) us (v ∷ vs) = taken n (v ∷ us) vs

abbrev pub last_values : ℕ → List Value → List Value
last_values n vs = taken n [] vs

-- the operands of the topmost routine
abbrev pub top_operands : List PlainFrame → List Value
top_operands [] = []
top_operands (f ∷ below) = f.activation.operands.values

-- ---- the topmost routine

abbrev pub top_frame : (PlainActivation → PlainActivation) → List PlainFrame → List PlainFrame
top_frame f [] = []
top_frame f (t ∷ below) = record t { activation = f t.activation } ∷ below

-- the topmost routine stands so, if there is one
abbrev pub on_top : (PlainActivation → PlainActivation) → PlainStore → PlainStore
on_top f x = record x { frames = top_frame f x.frames }

-- the place after this one; after the last that a number can say it is that one
abbrev pub next_place : ℕ → ℕ
next_place place = min (place + 1) 18446744073709551615

-- so many operands are gone, and the next operation comes
abbrev pub past : ℕ → PlainActivation → PlainActivation
past n a = record a { place = next_place a.place; operands = record a.operands { values = drop n a.operands.values } }

-- it is in a call that took so many operands
abbrev pub in_call : ℕ → Bool → PlainActivation → PlainActivation
in_call n gives a = record (past n a) { stage = stage.InCall gives }

-- ---- the call

-- The routine comes onto the others; its actuals are operands of the topmost one, which is in the call now.
abbrev pub called_on : Reference → ℕ → RoutineCode → OwnCall → List PlainFrame → List PlainFrame
called_on me routine r k fs =
    entry me routine r k.origin (last_values k.actuals (top_operands fs)) ∷ top_frame (in_call k.operands k.gives) fs

-- the routine of the number is called on this object
abbrev pub calls : Reference → ℕ → OwnCall → PlainStore → PlainStore
calls me routine k x =
    entered me routine k.origin (last_values k.actuals (top_operands x.frames)) (on_top (in_call k.operands k.gives) x)

-- ---- where a routine begins

-- The routine takes so many actuals and reserves nothing, and nothing is reserved where the other one stood.
pub record BeginsPlainly (r : RoutineCode) (n : ℕ) (a : PlainActivation) : Type 0 where
  pub formals : n ≡ r.formals
  pub few : n ≤ r.slots
  pub free : r.separate_formals.items ≡ []
  pub reserved : a.reserved ≡ []
  pub blocks : a.blocks ≡ []
