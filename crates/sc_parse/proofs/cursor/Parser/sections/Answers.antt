use Rattle.std.proofs.Common.{◌≡◌, ◌-◌, ◌+◌, List, length, Ok, arith, ap, sym, ◌∙◌, map}
use Rattle.std.specs.declared.vec.Vec.{Vec}
use Rattle.std.specs.declared.alloc.Global.{Global}
use Rattle.std.proofs.lemmas.Result.{err_from_is_err_and}
use Rattle.sc_tree.specs.declared.expression.Name.{Name}
use Rattle.sc_tree.specs.Plain as plain
use Rattle.sc_tree.specs.View.{feature_of}
use Rattle.sc_parse.specs.Reading.Looks.{Ahead, Taken}
use Rattle.sc_parse.specs.Reading.Reads.{ahead, features_in, names_in}
use Rattle.sc_tree.specs.Sections.{share_lists}
use Rattle.sc_parse.specs.Reading.Classes as spec
use Rattle.sc_parse.specs.Reading.Sections.{begun_at}
use Rattle.sc_parse.proofs.SectionLemmas.{features_begun, lists_shared}
use Rattle.sc_parse.proofs.Faults.{Fails-along}
use Rattle.sc_parse.proofs.Lists.{sections_begin, sections_none, sections_end, exports_fail, sections_fail, sections_more}
use Rattle.sc_parse.proofs.cursor.Parser.sections.Goals as goal

-- the list that was read, as it is shared
as_shared : (r : Taken (List plain.Name)) (v w : Vec Name Global) (s : Ahead) → r ≡ Ok (names_in v, s) → w ≡ v → r ≡ Ok (names_in w, s)
as_shared r v w s e q = rw q e

pub loop-turn-init : goal.loop-turn-init
loop-turn-init c = record {
  read = (0, sections_begin _ _ _ (ap (λ (fs : _). map feature_of fs) c.new-found.ensures.items));
  shared = ap share_lists c.new-found.ensures.items;
}

pub returns-then-not-sees-clause-read : goal.returns-then-not-sees-clause-read
returns-then-not-sees-clause-read c =
    let q = c.loop-turn.invariant.read in (
      q.0,
      sym q.1 ∙ sections_none c.args.room _ c.loop-turn._turn (features_in c.loop-turn.found) q.0 (ahead c.loop-turn.self) _ c.loop-turn-test.true c.sees.ensures c.if-not-sees.true,
    )

pub returns-in_err-exports-clause-read : goal.returns-in_err-exports-clause-read
returns-in_err-exports-clause-read c =
    let q = c.loop-turn.invariant.read in
    let p = err_from_is_err_and c.from_residual.result c.from_residual.ensures.1 in
    rw (p.1, p.2)
    (Fails-along _ _ c.in_err-exports.field-0.0 (sym q.1)
    (exports_fail c.args.room _ c.loop-turn._turn (features_in c.loop-turn.found) q.0 (ahead c.loop-turn.self) _ _
    c.in_err-exports.field-0.0 c.loop-turn-test.true c.sees.ensures c.if-not-sees.false c.take.ensures.past c.in_err-exports.ensures))

pub returns-in_err-found-clause-read : goal.returns-in_err-found-clause-read
returns-in_err-found-clause-read c =
    let q = c.loop-turn.invariant.read in
    let p = err_from_is_err_and c.from_residual-in_err-found.result c.from_residual-in_err-found.ensures.1 in
    rw (p.1, p.2)
    (Fails-along _ _ c.in_err-found.field-0.0 (sym q.1)
    (sections_fail c.args.room _ c.loop-turn._turn (features_in c.loop-turn.found) q.0 (ahead c.loop-turn.self) _ _ _ _
    c.in_err-found.field-0.0 c.loop-turn-test.true c.sees.ensures c.if-not-sees.false c.take.ensures.past
    (as_shared _ c.in_ok-exports.exports _ _ c.in_ok-exports.ensures c.in_ok-shared.ensures.ok) (c.in_err-found.ensures.read q.0)))

pub loop-turn-preserved : goal.loop-turn-preserved
loop-turn-preserved c =
    let q = c.loop-turn.invariant.read in
    let r = c.in_ok-found.ensures.read q.0 in
    let number : c.len-number.result ≡ length c.loop-turn.found.items = omega (arith, c.len-number.ensures, c.loop-turn.found.ok.0) in record {
      read = (
        r.0,
        ap (λ fs. spec.sections_from c.args.room (length c.args.self.now.rest.now - (c.loop-turn._turn + 1)) fs r.0 (ahead c.section.new.self))
            (ap (λ (fs : _). map feature_of fs) c.begin_section.ensures ∙ features_begun _ _)
            ∙ sections_more c.args.room _ c.loop-turn._turn (features_in c.loop-turn.found) q.0 (ahead c.loop-turn.self) _ _ _ _ _ _ _
            c.loop-turn-test.true c.sees.ensures c.if-not-sees.false c.take.ensures.past
            (as_shared _ c.in_ok-exports.exports _ _ c.in_ok-exports.ensures c.in_ok-shared.ensures.ok) r.1 ∙ q.1,
      );
      shared =
          ap share_lists c.begin_section.ensures ∙ ap (λ n. share_lists (begun_at n c.in_ok-found.found.items)) number
          ∙ lists_shared (names_in c.in_ok-shared.shared.value) c.loop-turn.found.items c.in_ok-found.found.items c.loop-turn.invariant.shared c.in_ok-found.ensures.added;
    }

pub returns-clause-read : goal.returns-clause-read
returns-clause-read c =
    let q = c.loop-turn.invariant.read in
    (q.0, sym q.1 ∙ sections_end c.args.room _ c.loop-turn._turn (features_in c.loop-turn.found) q.0 (ahead c.loop-turn.self) c.loop-turn-test.false)
