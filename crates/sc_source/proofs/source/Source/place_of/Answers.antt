use Rattle.std.proofs.Common.{◌∙◌, ◌+◌, ◌-◌, length, refl}
use Rattle.sc_source.proofs.SourceLemmas.{files-next}
use Rattle.sc_source.proofs.source.Source.place_of.Goals as goal

pub loop-file-preserved : goal.loop-file-preserved
loop-file-preserved c =
    let next = files-next c.loop-file.rest.now c.deref-file-items.result.now c.loop-file.file-index c.file-item.result c.loop-file.offset
    (length c.loop-file.rest.now - (c.file-item.result.length + 1))
    c.loop-file-test.true c.file-item.is c.if-offset-file.false refl c.loop-file.invariant.text in
    record { text = next.0; place = next.1 ∙ c.loop-file.invariant.place }
