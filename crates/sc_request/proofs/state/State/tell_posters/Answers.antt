use Rattle.std.proofs.Common.{List, ◌∙◌, ap, subst, sym, map}
use Rattle.std.proofs.lemmas.List.Elements.{All-head, All-tail}
use Rattle.sc_handler.specs.declared.handler.Posting.{Posting}
use Rattle.sc_handler.specs.InMemory.{posting_of}
use Rattle.sc_request.specs.Places.{plain, tells}
use Rattle.sc_request.specs.Sound.{ArePlaced, IsPlaced}
use Rattle.sc_request.proofs.Fallen.{tells_next}
use Rattle.sc_request.proofs.state.State.tell_posters.Goals as goal

pub answer_to-requires : goal.answer_to-requires
answer_to-requires c =
    let p = c.in-Some.posting in
    let rest = c.pop_front.new.self in
    (All-head IsPlaced (posting_of p) (map posting_of rest) (subst (λ (ps : List Posting). ArePlaced (map posting_of ps)) c.in-Some.ensures.items c.loop-posting.invariant.placed)).poster

pub loop-posting-preserved-in-Some : goal.loop-posting-preserved-in-Some
loop-posting-preserved-in-Some c =
    let l = c.loop-posting in
    let p = c.in-Some.posting in
    let rest = c.pop_front.new.self in
    record {
      told = tells_next (posting_of p) (map posting_of rest) (plain l.self) (plain c.answer_to.new.self) c.answer_to.ensures.plain
          ∙ ap (λ (ps : List Posting). tells (map posting_of ps) (plain l.self)) (sym c.in-Some.ensures.items) ∙ l.invariant.told;
      placed = All-tail IsPlaced (posting_of p) (map posting_of rest) (subst (λ (ps : List Posting). ArePlaced (map posting_of ps)) c.in-Some.ensures.items l.invariant.placed);
      outs = c.answer_to.ensures.outs ∙ l.invariant.outs;
      version = c.answer_to.ensures.version ∙ l.invariant.version;
    }

pub loop-posting-preserved : goal.loop-posting-preserved
loop-posting-preserved c =
    let l = c.loop-posting in
    let p = c.in-Some.posting in
    let rest = c.pop_front.new.self in
    record {
      told = tells_next (posting_of p) (map posting_of rest) (plain l.self) (plain c.answer_to.new.self) c.answer_to.ensures.plain
          ∙ ap (λ (ps : List Posting). tells (map posting_of ps) (plain l.self)) (sym c.in-Some.ensures.items) ∙ l.invariant.told;
      placed = All-tail IsPlaced (posting_of p) (map posting_of rest) (subst (λ (ps : List Posting). ArePlaced (map posting_of ps)) c.in-Some.ensures.items l.invariant.placed);
      outs = c.answer_to.ensures.outs ∙ l.invariant.outs;
      version = c.answer_to.ensures.version ∙ l.invariant.version;
    }

pub returns-clause-plain : goal.returns-clause-plain
returns-clause-plain c =
    let l = c.loop-posting in
    let none = rw c.in_default.is at c.pop_front.ensures.cases in
    sym (ap (λ (ps : List Posting). tells (map posting_of ps) (plain l.self)) none.0) ∙ l.invariant.told
