use Rattle.std.proofs.Common.{◌≡◌, drop, map}
use Rattle.std.specs.Prelude.{bytes_eq}
use Rattle.std.specs.List.{list_any}
use Rattle.sc_warnings.proofs.sites.is_among.Given as goal

abbrev pub invariant-loop-known : goal.invariant-loop-known
invariant-loop-known l =
    list_any (bytes_eq l.name) (map (λ name. name.now) (drop l.known-index l.names)) ≡ list_any (bytes_eq l.name) (map (λ name. name.now) l.names)
