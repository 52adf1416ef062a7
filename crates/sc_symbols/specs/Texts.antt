-- The names of a source text.
use Rattle.std.specs.Prelude.{ℕ, List}
use Rattle.sc_tree.specs.Plain.{System}
use Rattle.sc_class.specs.ClassNames.{Root}
use Rattle.sc_class.specs.Faults.ClassRules.{IsFaultless}
use Rattle.sc_frontend.specs.Texts.{IsRead}
use Rattle.sc_symbols.specs.declared.symbol.Mention.{Mention}
use Rattle.sc_symbols.specs.Mentions.{AreMentions}

-- Nothing is at fault in the classes of the system, and these are its names.
pub record AreNamesOf (system : System) (root : Root) (ms : List Mention) : Type 0 where
  pub faultless : IsFaultless system root
  pub are_mentions : AreMentions system ms

-- The text spells a system whose names are these.
pub record AreNamesIn (text : List ℕ) (root : Root) (ms : List Mention) : Type 0 where
  pub system : System
  pub read : IsRead text system
  pub names : AreNamesOf system root ms
