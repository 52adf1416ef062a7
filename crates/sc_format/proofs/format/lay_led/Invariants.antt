use Rattle.std.proofs.Common.{◌≡◌, ◌-◌, ◌≤◌, ◌++◌, [], drop, length}
use Rattle.sc_text.specs.Spelling.{StandInOrder, lexemes_of}
use Rattle.sc_format.specs.Formatted.{laid}
use Rattle.sc_format.specs.Layout.{start}
use Rattle.sc_format.proofs.format.lay_led.Given as goal

abbrev pub invariant-loop-token : goal.invariant-loop-token
invariant-loop-token l = record {
  within : l.from ≤ length l.source;
  order : StandInOrder (drop 1 l.source) (l.from - 1) (lexemes_of (drop l.token-index l.tokens));
  same :
      l.output.items ++ laid (drop l.from l.source) l.from (lexemes_of (drop l.token-index l.tokens)) l.state l.before
      ≡ laid l.source 0 (lexemes_of l.tokens) start [];
}
