-- Tables that grow at their ends.
use Rattle.std.specs.Prelude.{◌≡◌, ℕ, Some, map, slice_get, string_bytes}
use Rattle.std.specs.Option.{option_and_then}
use Rattle.sc_lower.specs.declared.link_tables.Linker.{Linker}
use Rattle.sc_code.specs.Operations.{CallSite, CreationSite}
use Rattle.sc_code.specs.View.{Pool, call_of, creation_of}
use Rattle.sc_code.specs.Programs.{lists_of}
use Rattle.sc_lower.specs.Growing.{Extends}

-- the tables of a linker
abbrev pub pool_in : Linker → Pool
pool_in l = record {
  names = l.names;
  texts = map string_bytes l.texts.items;
  calls = l.calls.items;
  creations = l.creations.items;
  tests = l.tests.items;
  demands = lists_of l.demands.items;
  blocks = l.blocks.items;
}

-- What stands in the first tables stands in the second at the same number.
pub record Grows (p q : Pool) : Type 0 where
  pub names : Extends p.names q.names
  pub texts : Extends p.texts q.texts
  pub calls : Extends p.calls q.calls
  pub creations : Extends p.creations q.creations
  pub tests : Extends p.tests q.tests
  pub demands : Extends p.demands q.demands
  pub blocks : Extends p.blocks q.blocks

-- The call of this number in the tables is that of the site,
abbrev pub IsCallAt : ℕ → Pool → CallSite → Type 0
IsCallAt number p site = option_and_then (call_of p) (slice_get p.calls number) ≡ Some site

-- or the creation.
abbrev pub IsCreationAt : ℕ → Pool → CreationSite → Type 0
IsCreationAt number p site = option_and_then (creation_of p) (slice_get p.creations number) ≡ Some site
