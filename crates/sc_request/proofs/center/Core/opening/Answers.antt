use Rattle.std.proofs.Common.{◌≡◌, suc, List, ◌∙◌, ap, length, subst, sym, arith}
use Rattle.std.proofs.lemmas.List.{length-replicate}
use Rattle.std.specs.Prelude.{◌-◌, vec_len}
use Rattle.sc_lockpass.specs.Versions.{most_handlers}
use Rattle.sc_region.specs.declared.job.Request.{Request}
use Rattle.sc_handler.specs.declared.handler.Handler as coded
use Rattle.sc_handler.specs.InMemory.{fresh}
use Rattle.sc_request.specs.Candidates.{AreReserving, HasGrantsBelow, HasOutsBelow}
use Rattle.sc_request.specs.Tables.{handler_at, out_total}
use Rattle.sc_request.specs.Logs.{opened}
use Rattle.sc_request.proofs.OpeningTables.{none_out_yet, opens_center, opening_grants, opening_outs, opening_reserving, opening_sound, opening_tried}
use Rattle.sc_request.proofs.Waiters.{opening_crowds}
use Rattle.sc_request.proofs.center.Core.opening.Goals as goal

pub returns-clause-center : goal.returns-clause-center
returns-clause-center c =
    opens_center c.in_ok-handlers.handlers.items c.in_ok-vec.field-0.items c.new.result 511 512 (most_handlers c.args.version) c.most_handlers.result c.root_request.result
    c.in_ok-handlers.ensures (c.in_ok-vec.ensures.items_if_clones_equal (λ y e. e)) c.new.ensures.rights c.most_handlers.ensures
    ∙ ap (λ (r : Request). opened (most_handlers c.args.version) r) c.root_request.ensures

pub invariant_of-result-2 : goal.invariant_of-result-2
invariant_of-result-2 c =
    let xs = c.in_ok-handlers.handlers.items in
    let r = c.root_request.result in
    let most = most_handlers c.new.result.version in
    let is = c.in_ok-handlers.ensures in
    record {
      counted = sym (ap (λ (ys : List coded.Handler). out_total ys) is ∙ none_out_yet 511 r);
      there = subst (λ (ys : List coded.Handler). HasOutsBelow most ys) (sym is) (opening_outs most 511 r);
      grants = subst (λ (ys : List coded.Handler). HasGrantsBelow most ys) (sym is) (opening_grants most 511 r);
      sound = opening_sound (vec_len c.new-2.result.entries) (vec_len c.new-2.result.entries) xs c.in_ok-vec.field-0.items c.new.result 511 512 r is
          (c.in_ok-vec.ensures.items_if_clones_equal (λ y e. e)) c.new.ensures.rights (ap (λ (q : Request). q.poster) c.root_request.ensures);
      tried = opening_tried c.insert.new.self.words xs c.in_ok-vec.field-0.items c.new.result (c.most_handlers.result - 1) (c.insert.ensures 0);
      waiting = subst (λ (ys : List coded.Handler). AreReserving c.new-4.result.words (handler_at ys c.in_ok-vec.field-0.items)) (sym is)
          (opening_reserving c.new-4.result.words c.in_ok-vec.field-0.items 511 r);
      crowded = opening_crowds c.in_ok-with_capacity.field-0.items 1 (handler_at xs c.in_ok-vec.field-0.items) c.in_ok-with_capacity.ensures.items;
    }

pub invariant_of-result-clause-places : goal.invariant_of-result-clause-places
invariant_of-result-clause-places c =
    let own = c.in_ok-handlers.handlers.ok.0 in
    let many : length c.in_ok-handlers.handlers.items ≡ 512 = ap (λ (xs : List coded.Handler). length xs) c.in_ok-handlers.ensures ∙ ap suc (length-replicate 511 fresh) in
    omega (arith, own, many)
