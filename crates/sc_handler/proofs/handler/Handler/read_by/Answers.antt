use Rattle.std.proofs.Common.{refl, slice_index}
use Rattle.sc_handler.specs.declared.handler.Handler as coded
use Rattle.sc_handler.proofs.ReadAlike.{copied}
use Rattle.sc_handler.proofs.handler.Handler.read_by.Goals as goal

pub returns-clause-handler : goal.returns-clause-handler
returns-clause-handler c =
    let x = c.args.self.now in
    let y : coded.Handler = record {
      stage = x.stage;
      entry = c.copy_handlers.result;
      mark = c.read_by.result;
      services = c.in_ok-copy_postings.field-0;
      queue = c.in_ok-copy_postings-2.field-0;
      callback = c.in_ok-copy_postings-3.field-0;
      answer = x.answer;
      failure = x.failure;
      refused = x.refused;
      out = c.new.result;
    } in
    copied (slice_index c.args.sessions.now) x y refl c.copy_handlers.ensures c.read_by.ensures c.in_ok-copy_postings.ensures
    c.in_ok-copy_postings-2.ensures c.in_ok-copy_postings-3.ensures refl refl refl
