use Rattle.std.proofs.Common.{◌≡◌, ◌++◌, drop}
use Rattle.sc_tree.specs.Canonical.Layout.{manifest}
use Rattle.sc_tree.proofs.print.Printer.manifest.Given as goal

abbrev pub invariant-loop-byte : goal.invariant-loop-byte
invariant-loop-byte l =
    (l.self.text.items ++ manifest (drop l.byte-index l.text) ≡ l.initial.self.text.items ++ manifest l.text) × (l.self.is_apart ≡ l.initial.self.is_apart)
