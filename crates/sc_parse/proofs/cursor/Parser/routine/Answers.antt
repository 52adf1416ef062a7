use Rattle.std.proofs.Common.{◌≡◌, ℕ, max, List, [], ◌∷◌, Ok, refl, ◌∙◌}
use Rattle.sc_parse.specs.Reading.Looks.{Ahead}
use Rattle.sc_tree.specs.declared.system.FeatureKind.TheVariants as kind
use Rattle.sc_tree.specs.declared.system.Routine.{Routine}
use Rattle.sc_tree.specs.Plain as plain
use Rattle.sc_parse.specs.Reading.Classes as spec
use Rattle.sc_tree.specs.View.{kind_of}
use Rattle.sc_tree.proofs.ReadingSteps.{bind_ok}
use Rattle.std.proofs.lemmas.Result.{err_from_is_err_and}
use Rattle.sc_parse.specs.Reading.Reads.{ahead, clauses_in, declarations_in, instrs_in, name_in, names_in, type_if_any_in, features_in, feature_with, opening_ahead, closing_ahead}
use Rattle.sc_parse.proofs.Faults.{Fails-along, Fails-bind}
use Rattle.sc_parse.proofs.Lists.{Gives-made}
use Rattle.sc_parse.proofs.Parts.{routine_is, routine_with, after_opening}
use Rattle.sc_parse.proofs.cursor.Parser.routine.Goals as goal

routine_read : (room : ℕ) (es : List plain.Name) (x : plain.Name) (r : Routine) (ts body rest : Ahead) (g h : ℕ) (fs : List plain.Feature) →
    opening_ahead room ts ≡ Ok ((clauses_in r.precondition, declarations_in r.locals), g, body) →
    closing_ahead room body ≡ Ok ((instrs_in r.body, clauses_in r.postcondition), h, rest) → fs ≡ feature_with es x (kind.Routine r) ∷ [] →
    spec.routine room es x (declarations_in r.formals) (type_if_any_in r.result_type) ts ≡ Ok (fs, max g h, rest)
unfolding kind_of
routine_read room es x r ts body rest g h fs o d e =
    let formals = declarations_in r.formals in
    let result = type_if_any_in r.result_type in
    rw e
    (routine_is room es x formals result ts ∙ bind_ok _ _ (after_opening room es x formals result) o
    ∙ bind_ok _ _ (routine_with es x formals result ((clauses_in r.precondition, declarations_in r.locals), g, body)) d)

pub returns-in_err-opening : goal.returns-in_err-opening
returns-in_err-opening c =
    let es = names_in c.args.exports.now.value in
    let x = name_in c.args.name in
    let formals = declarations_in c.args.formals in
    let result = type_if_any_in c.args.result_type in
    let p = err_from_is_err_and c.from_residual.result c.from_residual.ensures.1 in
    rw (p.1, p.2)
    (Fails-along _ _ c.in_err-opening.field-0.0 (routine_is c.args.room es x formals result (ahead c.args.self.now))
    (Fails-bind _ (after_opening c.args.room es x formals result) c.in_err-opening.field-0.0 c.in_err-opening.ensures))

pub returns-in_err-closing : goal.returns-in_err-closing
returns-in_err-closing c =
    let es = names_in c.args.exports.now.value in
    let x = name_in c.args.name in
    let formals = declarations_in c.args.formals in
    let result = type_if_any_in c.args.result_type in
    let p = err_from_is_err_and c.from_residual-in_err-closing.result c.from_residual-in_err-closing.ensures.1 in
    rw (p.1, p.2)
    (Fails-along _ _ c.in_err-closing.field-0.0
    (routine_is c.args.room es x formals result (ahead c.args.self.now) ∙ bind_ok _ _ (after_opening c.args.room es x formals result) c.in_ok-opening.ensures.1)
    (Fails-bind _ _ c.in_err-closing.field-0.0 c.in_err-closing.ensures))

pub returns : goal.returns
returns c =
    Gives-made features_in _ c.one_feature.result _ _ _ c.one_feature.ensures
    (routine_read c.args.room _ _ _ (ahead c.args.self.now) _ _ _ _ _ c.in_ok-opening.ensures.1 c.in_ok-closing.ensures.1 refl)
