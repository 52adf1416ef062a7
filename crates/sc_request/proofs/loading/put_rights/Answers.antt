use Rattle.std.proofs.Common.{◌≡◌, ◌∙◌, ◌<◌, ℕ, Some, ap, length, sym, arith}
use Rattle.std.proofs.lemmas.List.Elements.{All-get_or}
use Rattle.std.proofs.lemmas.Option.{slice_get-get_or}
use Rattle.std.specs.Prelude.{get_or, slice_get}
use Rattle.sc_lockpass.specs.Rights.{Rights}
use Rattle.sc_lockpass.specs.Tables.{rights_of}
use Rattle.sc_request.specs.Parts.{PlainPart, part_in, parts_in}
use Rattle.sc_request.proofs.LoadedCores.{other_at, part_there, put_at, rights_whole}
use Rattle.sc_request.proofs.loading.put_rights.Goals as goal

pub loop-place-init : goal.loop-place-init
loop-place-init c = record {
  version = c.free_from.ensures.version;
  queue = λ k few. absurd (omega (arith, few));
  top = λ k few. absurd (omega (arith, few));
  queue_past = λ k far. c.free_from.ensures.queue k far;
  top_past = λ k far. c.free_from.ensures.top k far;
}

pub loop-place-preserved : goal.loop-place-preserved
loop-place-preserved c =
    let l = c.loop-place in
    let T = c.args.parts.now in
    let ns = c.args.numbers.now in
    let n = l.place in
    let below : n < length ns = c.loop-place-test.true in
    let number = get_or ns n 0 in
    let p = get_or T number c.index-parts-numbers.result in
    let e : slice_get ns n ≡ Some number = slice_get-get_or ns n 0 below in
    let within : number < length T = All-get_or (λ (m : ℕ). m < length T) ns n 0 below c.requires.within in
    let f : slice_get T number ≡ Some p = slice_get-get_or T number c.index-parts-numbers.result within in
    let there = part_there T ns n number p e f in
    record {
      version = c.set_holders.ensures.version ∙ l.invariant.version;
      queue = λ k few. ap (λ (r : Rights). r.queue k) c.set_holders.ensures.rights
          ∙ put_at (rights_of l.rights).queue (λ j. (part_in (slice_get (parts_in T ns) j)).queue) n p.holders.queue (sym (ap (λ (q : PlainPart). q.queue) there)) l.invariant.queue k few;
      top = λ k few. ap (λ (r : Rights). r.top k) c.set_holders.ensures.rights
          ∙ put_at (rights_of l.rights).top (λ j. (part_in (slice_get (parts_in T ns) j)).top) n p.holders.top (sym (ap (λ (q : PlainPart). q.top) there)) l.invariant.top k few;
      queue_past = λ k far. ap (λ (r : Rights). r.queue k) c.set_holders.ensures.rights
          ∙ other_at (rights_of l.rights).queue n p.holders.queue k (λ same. omega (arith, below, far, same)) (l.invariant.queue_past k far);
      top_past = λ k far. ap (λ (r : Rights). r.top k) c.set_holders.ensures.rights
          ∙ other_at (rights_of l.rights).top n p.holders.top k (λ same. omega (arith, below, far, same)) (l.invariant.top_past k far);
    }

pub returns-clause-rights : goal.returns-clause-rights
returns-clause-rights c =
    let l = c.loop-place in
    let all = c.loop-place-test.false in
    rights_whole c.args.parts.now c.args.numbers.now (rights_of l.rights) l.place all l.invariant.queue l.invariant.top
    (λ k far. l.invariant.queue_past k (omega (arith, all, far))) (λ k far. l.invariant.top_past k (omega (arith, all, far)))
