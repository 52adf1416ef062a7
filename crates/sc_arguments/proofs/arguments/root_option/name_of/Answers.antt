use Rattle.std.proofs.Common.{◌∙◌, sym}
use Rattle.sc_text.specs.Spelling.{lexemes_of}
use Rattle.sc_arguments.proofs.RootLemmas.{name-found, name-spells, sole-is_name}
use Rattle.sc_arguments.proofs.arguments.root_option.name_of.Goals as goal

-- a name spells its one token, so that no fault but want of memory is answered
pub returns-in_default : goal.returns-in_default
returns-in_default c =
    record {
      named = tt;
      complete = λ is short. absurd (c.in_default.not-OutOfMemory (c.in-Err.ensures.complete _ short (name-spells _ is)));
    }

pub returns-in-Some-clause-named : goal.returns-in-Some-clause-named
returns-in-Some-clause-named c =
    let sole = sym (rw c.as_slice.ensures.value at c.in-Some.ensures) in
    let (is, lower) = sole-is_name c.args.text.now c.in-Some.name.now (lexemes_of c.in-Ok.tokens.items) c.in-Ok.ensures.slices sole in
    (is, c.in_ok-from_str-in-Some.ensures.ok ∙ lower)

pub returns-clause-complete : goal.returns-clause-complete
returns-clause-complete c = λ is short.
    let tokens = c.in-Ok.ensures.complete _ short (name-spells _ is) in
    let found = name-found c.args.text.now (lexemes_of c.in-Ok.tokens.items) tokens in
    let none = rw c.as_slice.ensures.value at c.in-None.ensures in
    cc (none ∙ found)
