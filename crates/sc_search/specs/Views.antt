-- The states that a search has met, in the order in which it met them, the turns that led to each, its statuses, and
-- the edges between them.
use Rattle.std.specs.Prelude.{ℕ, List, [], map}
use Rattle.sc_interning.specs.Tables.{values_of}
use Rattle.sc_states.specs.RowViews.{rows_of}
use Rattle.sc_states.specs.Views as plain
use Rattle.sc_model.specs.declared.status.Status.{Status}
use Rattle.sc_orders.specs.declared.edges.Edge.{Edge}
use Rattle.sc_play.specs.Contents.{Contents, contents_of}
use Rattle.sc_request.specs.Parts.{PlainPart, part_of}
use Rattle.sc_world.specs.Kept.{PlainKept}
use Rattle.sc_search.specs.declared.progress.Progress as coded_progress
use Rattle.sc_search.specs.declared.store.Store as coded_store
use Rattle.sc_search.specs.Tuples.{state_by}

-- what the numbers of regions and parts stand for
abbrev pub contents_in : coded_store.Store → List Contents
contents_in s = map contents_of (values_of s.regions)

abbrev pub parts_in : coded_store.Store → List PlainPart
parts_in s = map part_of (values_of s.parts)

abbrev pub tuples_in : coded_store.Store → List (List ℕ)
tuples_in s = plain.tuples_of s.states

abbrev pub states_in : coded_store.Store → List PlainKept
states_in s = map (state_by (contents_in s) (parts_in s)) (tuples_in s)

abbrev pub orders_in : coded_store.Store → List (List ℕ)
orders_in s = plain.orders_of s.states

abbrev pub statuses_in : coded_store.Store → List (List Status)
statuses_in s = rows_of s.statuses

abbrev pub states_of : coded_progress.Progress → List PlainKept
states_of p = states_in p.store

abbrev pub orders_of : coded_progress.Progress → List (List ℕ)
orders_of p = orders_in p.store

abbrev pub statuses_of : coded_progress.Progress → List (List Status)
statuses_of p = statuses_in p.store

-- states and edges
pub record Met : Type 0 where
  pub states : List PlainKept
  pub edges : List Edge

-- nothing yet
abbrev pub nothing_met : Met
nothing_met = record { states = []; edges = [] }

abbrev pub met_of : coded_progress.Progress → Met
met_of p = record { states = states_of p; edges = p.edges.items }
