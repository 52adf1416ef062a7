-- The canonical text of a tree: one text for all that spell it.
use Rattle.std.specs.Prelude.{ℕ, List}
use Rattle.sc_text.specs.Kind.{Kind}
use Rattle.sc_tree.specs.Plain.{System}
use Rattle.sc_tree.specs.Canonical.Layout.{tokens_of_lines, text_of_lines}
use Rattle.sc_tree.specs.Canonical.Classes.{classes_lines}
pub mod Terminals
pub mod Layout
pub mod Expressions
pub mod Instructions
pub mod Classes

unfoldable pub canonical_text : System → List ℕ
canonical_text s = text_of_lines (classes_lines s.classes)

unfoldable pub canonical_tokens : System → List Kind
canonical_tokens s = tokens_of_lines (classes_lines s.classes)
