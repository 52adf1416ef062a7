-- What parsing promises: the tree that the tokens spell by the grammar, or why there is none.
use Rattle.std.specs.Prelude.{ℕ, ◌≤◌, ◌≡◌, List, Result, Ok, Err}
use Rattle.sc_text.specs.Kind.{Kind}
use Rattle.sc_tree.specs.declared.system.System.{System}
use Rattle.sc_tree.specs.Plain as plain
use Rattle.sc_tree.specs.Bare.{bare_system}
use Rattle.sc_tree.specs.View.{system_of}
use Rattle.sc_tree.specs.Grammar.Classes.{IsSystem}
use Rattle.sc_parse.specs.declared.fault.ParseFault.{ParseFault}
use Rattle.sc_parse.specs.declared.fault.ParseFault.TheVariants as fault

-- There is no tree of the tokens, or none that is nested at most so deep, as the fault says.
abbrev pub RefusesWithin : ℕ → List Kind → ParseFault → Type 0
RefusesWithin room ts (fault.NotInGrammar span) = (t : plain.System) (h : ℕ) → IsSystem t ts h → ⊥
RefusesWithin room ts (fault.TooDeep span) = (t : plain.System) (h : ℕ) → h ≤ room → IsSystem t ts h → ⊥
RefusesWithin room ts fault.OutOfMemory = Unit {0}

-- The tokens spell the tree, nested at most so deep, or the fault is true of them.
abbrev pub ParsesWithin : ℕ → List Kind → Result System ParseFault → Type 0
ParsesWithin room ts (Ok s) = (h : ℕ) × (h ≤ room) × IsSystem (bare_system (system_of s)) ts h
ParsesWithin room ts (Err e) = RefusesWithin room ts e

-- There is no tree of the tokens, or none that is nested at most 64 deep, as the fault says.
abbrev pub Refuses : List Kind → ParseFault → Type 0
Refuses ts e = RefusesWithin 64 ts e

-- The tokens spell the tree, nested at most 64 deep, or the fault is true of them.
abbrev pub Parses : List Kind → Result System ParseFault → Type 0
Parses ts r = ParsesWithin 64 ts r

-- This tree is answered, unless memory ran out. Trees are compared without places.
abbrev pub IsParsedTo : plain.System → Result System ParseFault → Type 0
IsParsedTo t (Ok s) = bare_system (system_of s) ≡ t
IsParsedTo t (Err e) = e ≡ fault.OutOfMemory
