use Rattle.std.proofs.Common.{◌≡◌, drop, map}
use Rattle.std.specs.List.{list_any}
use Rattle.std.specs.Str.{bytes_eq}
use Rattle.sc_arguments.proofs.arguments.words.is_among.Given as goal

-- the words that are left have it if all have it
abbrev pub invariant-loop-option : goal.invariant-loop-option
invariant-loop-option l =
    list_any (bytes_eq l.word) (map (λ option. option.now) l.options)
    ≡ list_any (bytes_eq l.word) (map (λ option. option.now) (drop l.option-index l.options))
