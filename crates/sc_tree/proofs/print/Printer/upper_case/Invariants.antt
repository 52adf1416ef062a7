use Rattle.std.proofs.Common.{◌≡◌, ◌++◌, map, take}
use Rattle.std.specs.Char.{to_ascii_uppercase}
use Rattle.sc_tree.proofs.print.Printer.upper_case.Given as goal

abbrev pub invariant-loop-byte : goal.invariant-loop-byte
invariant-loop-byte l =
    (l.self.text.items ≡ l.initial.self.text.items ++ map to_ascii_uppercase (take l.byte-index l.text)) × (l.self.is_apart ≡ l.initial.self.is_apart)
