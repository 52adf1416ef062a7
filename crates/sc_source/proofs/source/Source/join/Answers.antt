use Rattle.std.proofs.Common.{◌≡◌, ℕ, List, length, map, take, Bor, ap, ◌∙◌, arith}
use Rattle.std.proofs.lemmas.List.{take_all}
use Rattle.std.specs.Io.KnownBytes.{IsAtEnd}
use Rattle.sc_source.specs.Joining.{names_for}
use Rattle.sc_source.proofs.JoiningLemmas.{ended-more, fault-at, fault-of-sound, joined-more, named-more, told-length, told-now, unread-more}
use Rattle.sc_source.proofs.source.Source.join.Goals as goal

pub loop-file-preserved : goal.loop-file-preserved
loop-file-preserved g c = record {
  joined = λ files told.
      let at = told-now g.R.Read.remaining c.args.readers.now c.loop-file.readers files c.loop-file.file c.index-readers-file.result
      told (omega arith) c.loop-file.auto.readers c.loop-file.invariant.unread in
      joined-more files c.loop-file.file c.loop-file.source c.read_file.new.self _ _ at.0 at.1
      (c.loop-file.invariant.joined files told) c.in_default.ensures.ok;
  ended = ended-more (λ reader. IsAtEnd (g.R.Read.remaining reader)) c.loop-file.readers c.loop-file.file c.read_file.new.reader
      (omega arith) c.loop-file.invariant.ended c.in_default.ensures.end;
  named = named-more (map (λ (name : Bor (List ℕ)). name.now) c.args.names.now) c.loop-file.file c.loop-file.source c.read_file.new.self
      c.name_at-name.result.now c.loop-file.invariant.named c.name_at-name.ensures c.in_default.ensures.named;
  unread = unread-more c.args.readers.now c.loop-file.readers c.loop-file.file c.read_file.new.reader c.loop-file.invariant.unread;
}

pub returns-in-Err-clause-answer : goal.returns-in-Err-clause-answer
returns-in-Err-clause-answer g c = λ files told.
    let at = told-now g.R.Read.remaining c.args.readers.now c.loop-file.readers files c.loop-file.file c.index-readers-file.result
    told (omega arith) c.loop-file.auto.readers c.loop-file.invariant.unread in
    fault-at files c.loop-file.file c.loop-file.source _ c.in-Err.fault at.0 at.1 (c.loop-file.invariant.joined files told) c.in-Err.ensures.err

pub returns-in-Err-clause-fits : goal.returns-in-Err-clause-fits
returns-in-Err-clause-fits g c = λ files told sound.
    fault-of-sound files c.loop-file.file c.in-Err.fault (returns-in-Err-clause-answer g c files told) sound

pub returns-clause-named : goal.returns-clause-named
returns-clause-named g c =
    let all : c.loop-file.file ≡ length c.args.readers.now = omega arith in
    c.loop-file.invariant.named ∙ ap (names_for (map (λ (name : Bor (List ℕ)). name.now) c.args.names.now)) all

pub returns-clause-answer : goal.returns-clause-answer
returns-clause-answer g c = λ files told.
    let many = told-length g.R.Read.remaining c.args.readers.now files told in
    let all : take c.loop-file.file files ≡ files = take_all c.loop-file.file files (omega arith) in
    let now = c.loop-file.invariant.joined files told in
    rw all at now

pub returns-clause-ended : goal.returns-clause-ended
returns-clause-ended g c =
    let all : take c.loop-file.file c.loop-file.readers ≡ c.loop-file.readers = take_all c.loop-file.file c.loop-file.readers (omega arith) in
    let now = c.loop-file.invariant.ended in
    rw all at now
