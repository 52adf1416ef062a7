use Rattle.std.proofs.Common.{Bor, None, ◌∙◌, ap, sym, refl, subst, length, slice_set, Option, arith}
use Rattle.std.proofs.lemmas.Option.{slice_get_read}
use Rattle.std.specs.Option.{option_map}
use Rattle.std.specs.Prelude.{vec_len}
use Rattle.sc_lockpass.specs.Versions.{most_handlers}
use Rattle.sc_region.specs.declared.job.Job.{Job}
use Rattle.sc_request.specs.Candidates.{AreCandidates, AreReserving, HasGrantsBelow, HasOutsBelow}
use Rattle.sc_request.specs.Crowds.{AreCrowds}
use Rattle.sc_request.specs.Tables.{center, handler_at, out_total, state_of}
use Rattle.sc_request.specs.Sound.{IsSound}
use Rattle.sc_request.proofs.Outs.{back_center, fewer_out, is_counted, none_is_out, out_is, stays, with_job}
use Rattle.sc_request.proofs.GrantedReservations.{candidates_back, grants_back, outs_back, sound_back}
use Rattle.sc_request.proofs.Reservers.{same_reserving}
use Rattle.sc_request.proofs.Waiters.{same_crowds}
use Rattle.sc_request.proofs.JobKinds.{job_is}
use Rattle.sc_request.proofs.center.Core.put_back.Goals as goal

pub returns-in_default-clause-center : goal.returns-in_default-clause-center
returns-in_default-clause-center c =
    let s = c.args.self.now in
    let xs = s.state.handlers.items in
    let h = c.args.handler in
    let x = c.index.result.now in
    let below = c.if-at-len.false in
    let own = s.state.handlers.ok.0 in
    let all = c.len.ensures in
    let e = slice_get_read xs (length xs) h x refl (omega (arith, below, own, all)) c.index.ensures in
    stays s.state.count xs s.state.sessions.items s.state.rights s.last h (out_is xs h x e ∙ sym c.get.ensures ∙ ap (λ (r : Option (Bor Job)). option_map (λ (j : Bor Job). j.now) r) c.in_default.is)

pub overflow_sub-self : goal.overflow_sub-self
overflow_sub-self c =
    let s = c.args.self.now in
    let xs = s.state.handlers.items in
    let h = c.args.handler in
    let x = c.index.result.now in
    let below = c.if-at-len.false in
    let own = s.state.handlers.ok.0 in
    let all = c.len.ensures in
    let e = slice_get_read xs (length xs) h x refl (omega (arith, below, own, all)) c.index.ensures in
    let j = c.in-Some.job.now in
    let some = job_is x.out c.get.result c.in-Some.job c.get.ensures c.in-Some.is in
    let fewer = fewer_out xs h x j e some in
    let counted = s.counted in
    omega (arith, fewer, counted)

pub invariant_of-self-2 : goal.invariant_of-self-2
invariant_of-self-2 c =
    let s = c.args.self.now in
    let xs = s.state.handlers.items in
    let h = c.args.handler in
    let x = c.index_mut.result.now in
    let below = c.if-at-len.false in
    let own = s.state.handlers.ok.0 in
    let all = c.len.ensures in
    let e = slice_get_read xs (length xs) h x refl (omega (arith, below, own, all)) c.index_mut.ensures.value in
    let j = c.in-Some.job.now in
    let y = c.index.result.now in
    let read = slice_get_read xs (length xs) h y refl (omega (arith, below, own, all)) c.index.ensures in
    let some = sym (out_is xs h x e) ∙ out_is xs h y read ∙ job_is y.out c.get.result c.in-Some.job c.get.ensures c.in-Some.is in
    let fewer = fewer_out xs h x j e some in
    let counted = s.counted in
    record {
      counted = omega (arith, fewer, counted) ∙ ap (λ (o : Option Job). out_total (slice_set xs h (with_job o x))) (sym c.clear.ensures);
      there = rw c.release_granted.ensures.version
          (subst (λ (o : Option Job). HasOutsBelow (most_handlers s.state.rights.version) (slice_set xs h (with_job o x))) (sym c.clear.ensures)
          (outs_back (most_handlers s.state.rights.version) xs h x e s.there));
      grants = rw c.release_granted.ensures.version
          (subst (λ (o : Option Job). HasGrantsBelow (most_handlers s.state.rights.version) (slice_set xs h (with_job o x))) (sym c.clear.ensures)
          (grants_back (most_handlers s.state.rights.version) xs h x e s.grants));
      sound = subst (λ (o : Option Job). IsSound (vec_len s.log.entries) (vec_len s.log.entries)
          (state_of s.state.count (slice_set xs h (with_job o x)) s.state.sessions.items c.release_granted.new.rights)) (sym c.clear.ensures)
          (sound_back (vec_len s.log.entries) (vec_len s.log.entries) s.state.count xs s.state.sessions.items s.state.rights c.release_granted.new.rights h x j e
          c.release_granted.ensures.rights s.sound);
      tried = subst (λ (o : Option Job). AreCandidates c.insert.new.self.words
          (center s.state.count (slice_set xs h (with_job o x)) s.state.sessions.items c.release_granted.new.rights s.last)) (sym c.clear.ensures)
          (candidates_back s.state.count xs s.state.sessions.items s.state.rights c.release_granted.new.rights s.last h x j s.candidates.words s.reserving.words
          c.release_granted.new.candidates.words c.insert.new.self.words e c.release_granted.ensures.rights s.tried s.waiting
          c.release_granted.ensures.candidates c.insert.ensures);
      waiting = subst (λ (o : Option Job). AreReserving s.reserving.words (handler_at (slice_set xs h (with_job o x)) s.state.sessions.items)) (sym c.clear.ensures)
          (same_reserving s.reserving.words xs s.state.sessions.items h x None e s.waiting);
      crowded = subst (λ (o : Option Job). AreCrowds s.crowds.items s.state.count (handler_at (slice_set xs h (with_job o x)) s.state.sessions.items)) (sym c.clear.ensures)
          (same_crowds s.crowds.items s.state.count xs s.state.sessions.items h x None e s.crowded);
    }

pub returns-clause-center : goal.returns-clause-center
returns-clause-center c =
    let s = c.args.self.now in
    let xs = s.state.handlers.items in
    let h = c.args.handler in
    let x = c.index_mut.result.now in
    let below = c.if-at-len.false in
    let own = s.state.handlers.ok.0 in
    let all = c.len.ensures in
    let e = slice_get_read xs (length xs) h x refl (omega (arith, below, own, all)) c.index_mut.ensures.value in
    let j = c.in-Some.job.now in
    let y = c.index.result.now in
    let read = slice_get_read xs (length xs) h y refl (omega (arith, below, own, all)) c.index.ensures in
    let some = sym (out_is xs h x e) ∙ out_is xs h y read ∙ job_is y.out c.get.result c.in-Some.job c.get.ensures c.in-Some.is in
    ap (λ (o : Option Job). center s.state.count (slice_set xs h (with_job o x)) s.state.sessions.items c.release_granted.new.rights s.last) c.clear.ensures
    ∙ back_center s.state.count xs s.state.sessions.items s.state.rights c.release_granted.new.rights s.last h x j e some c.release_granted.ensures.rights

pub returns-in_default-clause-home : goal.returns-in_default-clause-home
returns-in_default-clause-home c = λ is.
    let s = c.args.self.now in
    let xs = s.state.handlers.items in
    let h = c.args.handler in
    let x = c.index.result.now in
    let below = c.if-at-len.false in
    let own = s.state.handlers.ok.0 in
    let all = c.len.ensures in
    let e = slice_get_read xs (length xs) h x refl (omega (arith, below, own, all)) c.index.ensures in
    absurd (none_is_out (out_is xs h x e ∙ sym c.get.ensures ∙ ap (λ (r : Option (Bor Job)). option_map (λ (j : Bor Job). j.now) r) c.in_default.is) is)

pub returns-in_default-clause-outs : goal.returns-in_default-clause-outs
returns-in_default-clause-outs c = λ is.
    let s = c.args.self.now in
    let xs = s.state.handlers.items in
    let h = c.args.handler in
    let x = c.index.result.now in
    let below = c.if-at-len.false in
    let own = s.state.handlers.ok.0 in
    let all = c.len.ensures in
    let e = slice_get_read xs (length xs) h x refl (omega (arith, below, own, all)) c.index.ensures in
    absurd (none_is_out (out_is xs h x e ∙ sym c.get.ensures ∙ ap (λ (r : Option (Bor Job)). option_map (λ (j : Bor Job). j.now) r) c.in_default.is) is)

pub returns-clause-home : goal.returns-clause-home
returns-clause-home c = λ is n r.
    let s = c.args.self.now in
    let some = is_counted s.state.handlers.items c.args.handler is in
    let counted = s.counted in
    let places = r.places in
    let entries = r.entries in
    let packed = r.packed in
    let values = r.values in
    let packed_numbers = r.packed_numbers in
    let value_numbers = r.value_numbers in
    record {
      places = omega (arith, counted, some, places);
      entries = omega (arith, counted, some, entries);
      packed = omega (arith, counted, some, packed);
      values = omega (arith, counted, some, values);
      packed_numbers = omega (arith, counted, some, packed_numbers);
      value_numbers = omega (arith, counted, some, value_numbers);
    }

pub returns-clause-outs : goal.returns-clause-outs
returns-clause-outs c = λ is.
    let s = c.args.self.now in
    let some = is_counted s.state.handlers.items c.args.handler is in
    let counted = s.counted in
    omega (arith, counted, some)
