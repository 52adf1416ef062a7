use Rattle.std.proofs.Common.{rules, ◌+◌, ◌∷◌, [], ◌++◌, List, arith, ap, sym, subst, ◌∙◌, is_ok}
use Rattle.std.proofs.ResultArms.{chosen}
use Rattle.std.proofs.lemmas.List.{map_push}
use Rattle.std.proofs.lemmas.Result.{err_from_is_err_and}
use Rattle.sc_text.specs.declared.token.Span.{Span}
use Rattle.sc_text.specs.Spelling.{Lexeme, lexeme_of, lexemes_of}
use Rattle.sc_text.specs.Reading.Answers.{front_of}
use Rattle.sc_text.proofs.Whole.{IsRead, Goes, nothing_read, step_gap, step_token, refused_by, all_read, spelled_in_order, one_spelling_lem, spelled_not_refused, white_front}
use Rattle.sc_text.proofs.lexer.lex.Goals as goal
use Rattle.sc_text.proofs.lexer.lex.Goals.{In-Gap, In-Token, Then-is_white_space}

gap_goes : (c : In-Gap) → Goes c.args.text.now (lexemes_of c.loop-place.tokens.items) c.loop-place.place c.in-Gap.length
gap_goes c = step_gap _ _ _ _ c.loop-place-test.true (c.in_ok-length.ensures ∙ ap front_of c.in-Gap.is) c.loop-place.invariant

white_goes : (c : Then-is_white_space) → Goes c.args.text.now (lexemes_of c.loop-place.tokens.items) c.loop-place.place 1
white_goes c =
    step_gap _ _ _ _ c.loop-place-test.true (white_front c.args.text.now c.loop-place.place c.loop-place-test.true (search rules)) c.loop-place.invariant

token_goes : (c : In-Token) → Goes c.args.text.now (lexemes_of c.loop-place.tokens.items ++ lexeme_of (record { kind = c.in-Token.kind; span = record { start = c.loop-place.place; end = c.loop-place.place + c.in-Token.length } }) ∷ []) c.loop-place.place c.in-Token.length
token_goes c = step_token _ _ _ _ _ c.loop-place-test.true (c.in_ok-length.ensures ∙ ap front_of c.in-Token.is) c.loop-place.invariant

pub loop-place-init : goal.loop-place-init
loop-place-init c = subst (λ (ts : List Lexeme). IsRead c.args.text.now ts 0) (ap lexemes_of (sym c.new-tokens.ensures.items)) (nothing_read c.args.text.now)

pub overflow_add-place : goal.overflow_add-place
overflow_add-place c = let h = (white_goes c).read in omega (arith, h.within)

pub loop-place-preserved-then-is_white_space : goal.loop-place-preserved-then-is_white_space
loop-place-preserved-then-is_white_space c = (white_goes c).read

pub overflow_add-place-in-Gap : goal.overflow_add-place-in-Gap
overflow_add-place-in-Gap c = let h = (gap_goes c).read in omega (arith, h.within)

pub loop-place-preserved-in-Gap : goal.loop-place-preserved-in-Gap
loop-place-preserved-in-Gap c = (gap_goes c).read

pub loop-place-smaller-in-Gap : goal.loop-place-smaller-in-Gap
loop-place-smaller-in-Gap c = let h = gap_goes c in omega (arith, h.some, h.read.within)

pub overflow_add-place-in-Token : goal.overflow_add-place-in-Token
overflow_add-place-in-Token c = let h = (token_goes (goal.at.overflow_add-place-in-Token c).In-Token).read in omega (arith, h.within)

pub loop-place-preserved : goal.loop-place-preserved
loop-place-preserved c =
    let h = token_goes (goal.at.loop-place-preserved c).In-Token in
    let pushed = chosen _ _ _ _ c.push.ensures.items (ap is_ok c.in_ok-push-in-Token.was) in
    subst (λ (ts : List Lexeme). IsRead c.args.text.now ts (c.loop-place.place + c.in-Token.length)) (sym (ap lexemes_of pushed ∙ map_push lexeme_of _ _ ∙ ap (λ (s : Span). lexemes_of c.loop-place.tokens.items ++ lexeme_of (record { kind = c.in-Token.kind; span = s }) ∷ []) c.span_at-span.ensures)) h.read

pub span_at-span-requires : goal.span_at-span-requires
span_at-span-requires c = let h = (token_goes c).read in omega (arith, h.within, c.if-text-gt-MAX_SOURCE_BYTES.false)

pub loop-place-smaller : goal.loop-place-smaller
loop-place-smaller c = let h = token_goes (goal.at.loop-place-smaller c).In-Token in omega (arith, h.some, h.read.within)

pub returns-clause-slices : goal.returns-clause-slices
returns-clause-slices c = spelled_in_order _ _ (all_read _ _ _ c.loop-place-test.false c.loop-place.invariant)

pub returns-clause-complete : goal.returns-clause-complete
returns-clause-complete c = λ ts le h. one_spelling_lem _ _ ts (all_read _ _ _ c.loop-place-test.false c.loop-place.invariant) h

pub returns-in_err-length-clause-refused : goal.returns-in_err-length-clause-refused
returns-in_err-length-clause-refused c =
    let p = err_from_is_err_and c.from_residual-in_err-length.result c.from_residual-in_err-length.ensures.1 in
    rw (p.1, p.2) (refused_by _ _ _ _ c.loop-place-test.true c.loop-place.invariant c.in_err-length.ensures)

pub returns-in_err-length-clause-complete : goal.returns-in_err-length-clause-complete
returns-in_err-length-clause-complete c = λ ts le h.
    let p = err_from_is_err_and c.from_residual-in_err-length.result c.from_residual-in_err-length.ensures.1 in
    rw (p.1, p.2) (spelled_not_refused _ ts _ h le (refused_by _ _ _ _ c.loop-place-test.true c.loop-place.invariant c.in_err-length.ensures))
