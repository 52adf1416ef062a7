use Rattle.std.proofs.Common.{ap, subst, sym, ◌∙◌, max, map}
use Rattle.std.proofs.lemmas.List.{map-append}
use Rattle.std.proofs.lemmas.Result.{err_from_is_err_and}
use Rattle.sc_tree.specs.View.{feature_of}
use Rattle.sc_parse.specs.Reading.Reads.{ahead, features_in, names_in}
use Rattle.sc_parse.specs.Reading.Sections.{AddsExported}
use Rattle.sc_parse.proofs.SectionLemmas.{adds_none, adds_more, declared_exported}
use Rattle.sc_parse.proofs.Faults.{Fails-along}
use Rattle.sc_parse.proofs.Lists.{features_begin, features_none, features_fail, features_more, features_end}
use Rattle.sc_parse.proofs.cursor.Parser.section.Goals as goal

pub loop-turn-init : goal.loop-turn-init
loop-turn-init c = record { read = λ high. (high, features_begin _ _ _ _ _); added = adds_none (names_in c.args.exports.now.value) c.args.earlier.items }

pub returns-then-not-sees_name-clause-read : goal.returns-then-not-sees_name-clause-read
returns-then-not-sees_name-clause-read c =
    λ high. let q = c.loop-turn.invariant.read high in (
      q.0,
      sym q.1 ∙ features_none c.args.room (names_in c.args.exports.now.value) _ c.loop-turn._turn (features_in c.loop-turn.found) q.0 (ahead c.loop-turn.self) _
          c.loop-turn-test.true c.sees_name.ensures c.if-not-sees_name.true,
    )

pub returns-in_err-features-clause-read : goal.returns-in_err-features-clause-read
returns-in_err-features-clause-read c =
    λ high. let q = c.loop-turn.invariant.read high in
    let p = err_from_is_err_and c.from_residual.result c.from_residual.ensures.1 in
    rw (p.1, p.2)
    (Fails-along _ _ c.in_err-features.field-0.0 (sym q.1)
    (features_fail c.args.room (names_in c.args.exports.now.value) _ c.loop-turn._turn (features_in c.loop-turn.found) q.0 (ahead c.loop-turn.self) _
    c.in_err-features.field-0.0 c.loop-turn-test.true c.sees_name.ensures c.if-not-sees_name.false c.in_err-features.ensures))

pub loop-turn-preserved : goal.loop-turn-preserved
loop-turn-preserved c = record {
  read =
      λ high. let q = c.loop-turn.invariant.read high in (
        max q.0 c.in_ok-features.ensures.0,
        features_more c.args.room (names_in c.args.exports.now.value) _ c.loop-turn._turn (features_in c.loop-turn.found) q.0 (ahead c.loop-turn.self) _ _ _ _ _ _
            c.loop-turn-test.true c.sees_name.ensures c.if-not-sees_name.false c.in_ok-features.ensures.1
            (ap (λ (fs : _). map feature_of fs) c.in_ok-append.ensures.items ∙ map-append feature_of _ _) c.skip_semicolons.ensures
            ∙ q.1,
      );
  added =
      subst (AddsExported (names_in c.args.exports.now.value) c.args.earlier.items) (sym c.in_ok-append.ensures.items)
      (adds_more (names_in c.args.exports.now.value) _ _ _ c.loop-turn.invariant.added
      (declared_exported (names_in c.args.exports.now.value) c.args.room _ _ _ _ c.in_ok-features.ensures.1));
}

pub returns-clause-read : goal.returns-clause-read
returns-clause-read c =
    λ high. let q = c.loop-turn.invariant.read high in (
      q.0,
      sym q.1 ∙ features_end c.args.room (names_in c.args.exports.now.value) _ c.loop-turn._turn (features_in c.loop-turn.found) q.0 (ahead c.loop-turn.self)
          c.loop-turn-test.false,
    )
