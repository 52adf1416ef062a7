use Rattle.std.proofs.Common.{◌∙◌, ◌++◌, ◌∷◌, [], ap, ◌≡◌, ◌≤◌, ◌<◌, ◌==◌, ◌&&◌, ◌||◌, ◌+◌, ℕ, None, Option, arith, length, refl, slice_set, subst, sym}
use Rattle.std.proofs.lemmas.Option.{slice_get_read}
use Rattle.std.specs.Prelude.{if◌then◌else◌, is_some, vec_len}
use Rattle.sc_lockpass.specs.Tables.{is_member}
use Rattle.sc_lockpass.proofs.Listings.{most_handlers-le}
use Rattle.sc_lockpass.specs.Versions.{most_handlers}
use Rattle.sc_handler.specs.Freeing.{frees}
use Rattle.sc_handler.specs.Handlers.{is_reserving, State}
use Rattle.sc_request.specs.Places.{outs_of, plain}
use Rattle.sc_request.specs.Settling.{settled}
use Rattle.sc_request.specs.Tables.{center, handler_at, out_at, out_total, state_of}
use Rattle.sc_request.specs.Crowds.{AreCrowds, Disbands}
use Rattle.sc_request.specs.Candidates.{AreCandidates, AreReserving, HasGrantsBelow, HasOutsBelow}
use Rattle.std.specs.List.{All}
use Rattle.sc_region.specs.declared.job.Job.{Job}
use Rattle.sc_request.specs.Logs.{settles}
use Rattle.sc_handler.specs.Logged.{settlement}
use Rattle.sc_request.proofs.JobKinds.{granted_kind, job_is, one_job, settled_kind}
use Rattle.sc_request.specs.Cores.{center_of, log_of}
use Rattle.sc_request.specs.Sound.{IsSound}
use Rattle.sc_request.proofs.GrantedReservations.{granted_below}
use Rattle.sc_request.proofs.Reservers.{same_reserving, settled_reserving}
use Rattle.sc_request.proofs.SettledCandidates.{settled_candidates}
use Rattle.sc_request.proofs.Waiters.{same_crowds, settled_crowds}
use Rattle.sc_request.proofs.Settles.{out_counted, settled_center, settled_grants, settled_outs, settled_sound, settled_total}
use Rattle.sc_request.proofs.Outs.{with_job}
use Rattle.sc_request.proofs.center.Core.settle_out.Goals as goal

pub settle-requires-clause-granted : goal.settle-requires-clause-granted
settle-requires-clause-granted c =
    let s = c.args.self.now in
    let h = c.args.handler in
    let j = c.in-Some.job.now in
    let out = job_is (outs_of s.state h) c.job_out.result c.in-Some.job c.job_out.ensures c.in-Some.is in
    subst (All (λ k. k < most_handlers s.state.rights.version)) (sym (granted_kind j c.kind_of-kind.result c.kind_of-kind.ensures))
    (granted_below (most_handlers s.state.rights.version) s.state.handlers.items h j out s.grants)

pub overflow_sub-self : goal.overflow_sub-self
overflow_sub-self c =
    let s = c.args.self.now in
    let t = c.settle.new.self in
    let ys = s.state.handlers.items in
    let xs = t.handlers.items in
    let h = c.args.handler in
    let j = c.in-Some.job.now in
    let out = job_is (outs_of s.state h) c.job_out.result c.in-Some.job c.job_out.ensures c.in-Some.is in
    let x = c.index_mut.result.now in
    let plain_is = c.settle.ensures.plain ∙ settled_kind (most_handlers s.state.rights.version) h j c.kind_of-kind.result c.args.turns c.args.want.now (plain s.state) c.kind_of-kind.ensures in
    let below = s.there h j out in
    let most = most_handlers-le s.state.rights.version in
    let own = t.handlers.ok.0 in
    let all = t.places in
    let first = s.state.handlers.ok.0 in
    let whole = s.state.places in
    let e = slice_get_read xs (length xs) h x refl (omega (arith, below, most, own, all)) c.index_mut.ensures.value in
    let total = settled_total xs ys h x j e (omega (arith, own, all, first, whole)) c.settle.ensures.outs out in
    let counted = s.counted in
    omega (arith, total, counted)

pub invariant_of-self-2 : goal.invariant_of-self-2
invariant_of-self-2 c =
    let s = c.args.self.now in
    let t = c.settle.new.self in
    let ys = s.state.handlers.items in
    let xs = t.handlers.items in
    let h = c.args.handler in
    let j = c.in-Some.job.now in
    let out = job_is (outs_of s.state h) c.job_out.result c.in-Some.job c.job_out.ensures c.in-Some.is in
    let x = c.index_mut.result.now in
    let plain_is = c.settle.ensures.plain ∙ settled_kind (most_handlers s.state.rights.version) h j c.kind_of-kind.result c.args.turns c.args.want.now (plain s.state) c.kind_of-kind.ensures in
    let below = s.there h j out in
    let most = most_handlers-le s.state.rights.version in
    let own = t.handlers.ok.0 in
    let all = t.places in
    let first = s.state.handlers.ok.0 in
    let whole = s.state.places in
    let e = slice_get_read xs (length xs) h x refl (omega (arith, below, most, own, all)) c.index_mut.ensures.value in
    let total = settled_total xs ys h x j e (omega (arith, own, all, first, whole)) c.settle.ensures.outs out in
    let counted = s.counted in
    let m = most_handlers s.state.rights.version in
    let there = settled_outs m xs ys h x e c.settle.ensures.outs s.there in
    let grants = settled_grants m xs ys h x e c.settle.ensures.outs s.grants in
    let sound = settled_sound (vec_len s.log.entries) (vec_len c.push.new.self.entries) m h j c.args.turns c.args.want.now (plain s.state) t.count xs
    t.sessions.items t.rights x e plain_is c.push.ensures.len most (omega (arith, below, most))
    (λ k d l. let g = granted_below m ys h j out s.grants k d l in omega (arith, g, most)) s.sound in
    let u = settled m h j c.args.turns c.args.want.now (plain s.state) in
    let same : plain t ≡ u = plain_is in
    let reserving = settled_reserving m h j c.args.turns c.args.want.now (plain s.state) s.reserving.words c.wake.new.reserving.words s.waiting
    (subst (λ (z : State). (k : ℕ) → is_member c.wake.new.reserving.words k ≡ (if k == h then is_reserving (z.handlers h).stage else is_member s.reserving.words k))
    same c.wake.ensures.reserving) in
    let none = sym c.clear.ensures in
    record {
      counted = omega (arith, total, counted) ∙ ap (λ (o : Option Job). out_total (slice_set xs h (with_job o x))) none;
      there = rw c.settle.ensures.version (subst (λ (o : Option Job). HasOutsBelow m (slice_set xs h (with_job o x))) none there);
      grants = rw c.settle.ensures.version (subst (λ (o : Option Job). HasGrantsBelow m (slice_set xs h (with_job o x))) none grants);
      sound = subst (λ (o : Option Job). IsSound (vec_len c.push.new.self.entries) (vec_len c.push.new.self.entries)
          (state_of t.count (slice_set xs h (with_job o x)) t.sessions.items t.rights)) none sound;
      tried = subst (λ (o : Option Job). AreCandidates c.wake.new.candidates.words
          (center t.count (slice_set xs h (with_job o x)) t.sessions.items t.rights s.last)) none
          (subst (AreCandidates c.wake.new.candidates.words) (sym (settled_center t.count xs t.sessions.items t.rights s.last h x u (out_at ys) e plain_is c.settle.ensures.outs))
          (settled_candidates m h j c.args.turns c.args.want.now (center_of s) s.candidates.words c.touch.new.candidates.words
          c.wake.new.reserving.words c.wake.new.candidates.words (subst (λ (z : State). z.count ≤ 512) same sound.within) s.tried reserving c.touch.ensures
          (subst (λ (z : State). (k : ℕ) → k < 512 → is_member c.wake.new.candidates.words k ≡
          (is_some (z.handlers h).failure || (is_member c.touch.new.candidates.words k || (frees j c.args.want.now && is_member c.wake.new.reserving.words k)))) same
          (rw c.frees-is_freeing.ensures at c.wake.ensures.candidates))));
      waiting = subst (λ (o : Option Job). AreReserving c.wake.new.reserving.words (handler_at (slice_set xs h (with_job o x)) t.sessions.items)) none
          (same_reserving c.wake.new.reserving.words xs t.sessions.items h x None e
          (subst (λ (z : State). AreReserving c.wake.new.reserving.words z.handlers) (sym same) reserving));
      crowded = subst (λ (o : Option Job). AreCrowds c.disband.new.crowds.items t.count (handler_at (slice_set xs h (with_job o x)) t.sessions.items)) none
          (same_crowds c.disband.new.crowds.items t.count xs t.sessions.items h x None e
          (subst (λ (z : State). AreCrowds c.disband.new.crowds.items z.count z.handlers) (sym same)
          (settled_crowds m h j c.args.turns c.args.want.now (plain s.state) s.crowds.items c.leave_crowds.new.crowds.items c.disband.new.crowds.items s.crowded
          c.leave_crowds.ensures (subst (λ (z : State). Disbands (is_some (z.handlers h).failure) c.leave_crowds.new.crowds.items c.disband.new.crowds.items) same c.disband.ensures))));
    }

pub returns-clause-center : goal.returns-clause-center
returns-clause-center c = λ i is.
    let s = c.args.self.now in
    let t = c.settle.new.self in
    let ys = s.state.handlers.items in
    let xs = t.handlers.items in
    let h = c.args.handler in
    let j = c.in-Some.job.now in
    let out = job_is (outs_of s.state h) c.job_out.result c.in-Some.job c.job_out.ensures c.in-Some.is in
    let x = c.index_mut.result.now in
    let plain_is = c.settle.ensures.plain ∙ settled_kind (most_handlers s.state.rights.version) h j c.kind_of-kind.result c.args.turns c.args.want.now (plain s.state) c.kind_of-kind.ensures in
    let below = s.there h j out in
    let most = most_handlers-le s.state.rights.version in
    let own = t.handlers.ok.0 in
    let all = t.places in
    let first = s.state.handlers.ok.0 in
    let whole = s.state.places in
    let e = slice_get_read xs (length xs) h x refl (omega (arith, below, most, own, all)) c.index_mut.ensures.value in
    let total = settled_total xs ys h x j e (omega (arith, own, all, first, whole)) c.settle.ensures.outs out in
    let counted = s.counted in
    ap (λ (o : Option Job). center t.count (slice_set xs h (with_job o x)) t.sessions.items t.rights s.last) c.clear.ensures
    ∙ settled_center t.count xs t.sessions.items t.rights s.last h x
    (settled (most_handlers s.state.rights.version) h j c.args.turns c.args.want.now (plain s.state)) (out_at ys) e plain_is c.settle.ensures.outs
    ∙ ap (λ (k : Job). settles (most_handlers s.state.rights.version) h k c.args.turns c.args.want.now (center_of s)) (one_job j i (sym out ∙ is))

pub returns-clause-log : goal.returns-clause-log
returns-clause-log c = λ i is.
    let s = c.args.self.now in
    let h = c.args.handler in
    let j = c.in-Some.job.now in
    let out = job_is (outs_of s.state h) c.job_out.result c.in-Some.job c.job_out.ensures c.in-Some.is in
    c.push.ensures.settlements
    ∙ ap (λ (k : Job). log_of s ++ settlement h k c.args.turns c.args.want.now ∷ []) (one_job j i (sym out ∙ is))

pub returns-clause-room : goal.returns-clause-room
returns-clause-room c = λ n r.
    let s = c.args.self.now in
    let t = c.settle.new.self in
    let ys = s.state.handlers.items in
    let xs = t.handlers.items in
    let h = c.args.handler in
    let j = c.in-Some.job.now in
    let out = job_is (outs_of s.state h) c.job_out.result c.in-Some.job c.job_out.ensures c.in-Some.is in
    let x = c.index_mut.result.now in
    let plain_is = c.settle.ensures.plain ∙ settled_kind (most_handlers s.state.rights.version) h j c.kind_of-kind.result c.args.turns c.args.want.now (plain s.state) c.kind_of-kind.ensures in
    let below = s.there h j out in
    let most = most_handlers-le s.state.rights.version in
    let own = t.handlers.ok.0 in
    let all = t.places in
    let first = s.state.handlers.ok.0 in
    let whole = s.state.places in
    let e = slice_get_read xs (length xs) h x refl (omega (arith, below, most, own, all)) c.index_mut.ensures.value in
    let total = settled_total xs ys h x j e (omega (arith, own, all, first, whole)) c.settle.ensures.outs out in
    let counted = s.counted in
    let spared = c.settle.ensures.places in
    let places = r.places in
    let rest = c.push.ensures.kept (out_total (slice_set xs h (with_job None x)) + n) (record {
      entries = omega (arith, total, counted, r.entries);
      packed = omega (arith, total, counted, r.packed);
      values = omega (arith, total, counted, r.values);
      packed_numbers = omega (arith, total, counted, r.packed_numbers);
      value_numbers = omega (arith, total, counted, r.value_numbers);
    }) in
    record {
      places = omega (arith, total, counted, spared, places);
      entries = omega (arith, total, counted, rest.entries);
      packed = omega (arith, total, counted, rest.packed);
      values = omega (arith, total, counted, rest.values);
      packed_numbers = omega (arith, total, counted, rest.packed_numbers);
      value_numbers = omega (arith, total, counted, rest.value_numbers);
    }

pub returns-clause-outs : goal.returns-clause-outs
returns-clause-outs c =
    let s = c.args.self.now in
    let out = job_is (outs_of s.state c.args.handler) c.job_out.result c.in-Some.job c.job_out.ensures c.in-Some.is in
    let some = out_counted s.state.handlers.items c.args.handler c.in-Some.job.now out in
    let counted = s.counted in
    omega (arith, counted, some)
