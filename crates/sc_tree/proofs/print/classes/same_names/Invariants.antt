use Rattle.std.proofs.Common.{◌≡◌, drop, length, map}
use Rattle.sc_tree.specs.Canonical.Classes.{same_names}
use Rattle.sc_tree.specs.View.{name_of}
use Rattle.sc_tree.proofs.print.classes.same_names.Given as goal

abbrev pub invariant-loop-name : goal.invariant-loop-name
invariant-loop-name l =
    same_names (map name_of (drop (length l.yielded) l.names)) (map name_of (drop (length l.yielded) l.others)) ≡ same_names (map name_of l.names) (map name_of l.others)
