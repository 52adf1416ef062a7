use Rattle.std.proofs.Common.{Bor, ◌≡◌, ◌<◌, ◌+◌, ◌∙◌, List, Option, Some, None, ap, sym, subst, refl, length, slice_set, slice_index_or, arith}
use Rattle.std.proofs.lemmas.Option.{slice_get_read, slice_get-get_or}
use Rattle.std.specs.Option.{option_map}
use Rattle.std.specs.List.{All}
use Rattle.std.specs.Prelude.{vec_len}
use Rattle.sc_lockpass.specs.Tables.{Table, rights_of}
use Rattle.sc_lockpass.specs.Versions.{most_handlers}
use Rattle.sc_region.specs.declared.job.Job.{Job}
use Rattle.sc_handler.specs.declared.handler.Handler as coded
use Rattle.sc_handler.specs.InMemory.{fresh}
use Rattle.sc_request.specs.Candidates.{granted_items}
use Rattle.sc_request.specs.Tables.{center, out_total}
use Rattle.sc_request.specs.Cores.{center_of}
use Rattle.sc_request.specs.Logs.{granted, pick_for, picked_if}
use Rattle.sc_request.proofs.Outs.{below_most, job_stands, more_out, out_now, outs_within, picked_center, with_job}
use Rattle.sc_request.proofs.GrantedReservations.{Adds, below_count, candidates_picked, grants_picked, grants_there, not_out, outs_picked, sound_picked}
use Rattle.sc_request.proofs.Reservers.{same_reserving}
use Rattle.sc_request.proofs.Waiters.{same_crowds}
use Rattle.sc_request.proofs.JobKinds.{job_is, one_job, some_of}
use Rattle.sc_request.proofs.center.Core.send_out.Goals as goal

pub set_out-requires : goal.set_out-requires
set_out-requires c =
    let s = c.args.self.now in
    let some = some_of (pick_for c.args.handler (center_of s)) c.requires in
    let below = below_count s.state.count s.state.handlers.items s.state.sessions.items s.state.rights s.last c.args.handler some.0 some.1 in
    let within = s.sound.within in
    omega (arith, below, within)

pub unreachable-requires : goal.unreachable-requires
unreachable-requires c =
    let s = c.args.self.now in
    let t = c.set_out.new.self in
    let xs = s.state.handlers.items in
    let h = c.args.handler in
    let some = some_of (pick_for h (center_of s)) c.requires in
    let j = some.0 in
    let below = below_count s.state.count xs s.state.sessions.items s.state.rights s.last h j some.1 in
    let own = s.state.handlers.ok.0 in
    let within = s.sound.within in
    let all = s.state.places in
    let x = slice_index_or xs h fresh in
    let e = slice_get-get_or xs h fresh (omega (arith, below, own, within, all)) in
    let set = c.set_out.ensures.handlers x e ∙ ap (λ (o : Option Job). slice_set xs h (with_job o x)) (job_stands h (center_of s) j some.1) in
    let later = t.handlers.ok.0 in
    let places = t.places in
    let y = c.index.result.now in
    let read = slice_get_read t.handlers.items (length t.handlers.items) h y refl (omega (arith, below, within, later, places)) c.index.ensures in
    let out = out_now xs t.handlers.items h x y j e set read in
    let never : None ≡ Some j = sym (ap (λ (r : Option (Bor Job)). option_map (λ (i : Bor Job). i.now) r) c.in_default.is) ∙ c.get.ensures ∙ out in cc

pub reserve_granted-requires : goal.reserve_granted-requires
reserve_granted-requires c =
    let s = c.args.self.now in
    let t = c.set_out.new.self in
    let xs = s.state.handlers.items in
    let h = c.args.handler in
    let some = some_of (pick_for h (center_of s)) c.requires in
    let j = some.0 in
    let below = below_count s.state.count xs s.state.sessions.items s.state.rights s.last h j some.1 in
    let own = s.state.handlers.ok.0 in
    let within = s.sound.within in
    let all = s.state.places in
    let x = slice_index_or xs h fresh in
    let e = slice_get-get_or xs h fresh (omega (arith, below, own, within, all)) in
    let set = c.set_out.ensures.handlers x e ∙ ap (λ (o : Option Job). slice_set xs h (with_job o x)) (job_stands h (center_of s) j some.1) in
    let later = t.handlers.ok.0 in
    let places = t.places in
    let y = c.index.result.now in
    let read = slice_get_read t.handlers.items (length t.handlers.items) h y refl (omega (arith, below, within, later, places)) c.index.ensures in
    let out = out_now xs t.handlers.items h x y j e set read in
    let same = one_job c.in-Some.job.now j (sym (job_is y.out c.get.result c.in-Some.job c.get.ensures c.in-Some.is) ∙ out) in
    let g = grants_there s.state.count xs s.state.sessions.items s.state.rights s.last h j (omega (arith, own, within, all)) (s.sound.handlers h).entry some.1 in
    let most = most_handlers s.state.rights.version in
    subst (λ (i : Job). All (λ k. k < most_handlers t.rights.version) (granted_items i)) (sym same)
    (rw c.set_out.ensures.rights (below_most s.state.count most (granted_items j) s.state.some g))

pub overflow_add-self : goal.overflow_add-self
overflow_add-self c =
    let s = c.args.self.now in
    let counted = s.counted in
    let least = outs_within s.state.handlers.items in
    let own = s.state.handlers.ok.0 in
    let all = s.state.places in
    omega (arith, counted, least, own, all)

pub invariant_of-self : goal.invariant_of-self
invariant_of-self c =
    let s = c.args.self.now in
    let t = c.set_out.new.self in
    let xs = s.state.handlers.items in
    let h = c.args.handler in
    let some = some_of (pick_for h (center_of s)) c.requires in
    let j = some.0 in
    let below = below_count s.state.count xs s.state.sessions.items s.state.rights s.last h j some.1 in
    let own = s.state.handlers.ok.0 in
    let within = s.sound.within in
    let all = s.state.places in
    let x = slice_index_or xs h fresh in
    let e = slice_get-get_or xs h fresh (omega (arith, below, own, within, all)) in
    let set = c.set_out.ensures.handlers x e ∙ ap (λ (o : Option Job). slice_set xs h (with_job o x)) (job_stands h (center_of s) j some.1) in
    let later = t.handlers.ok.0 in
    let places = t.places in
    let y = c.index.result.now in
    let read = slice_get_read t.handlers.items (length t.handlers.items) h y refl (omega (arith, below, within, later, places)) c.index.ensures in
    let out = out_now xs t.handlers.items h x y j e set read in
    let same = one_job c.in-Some.job.now j (sym (job_is y.out c.get.result c.in-Some.job c.get.ensures c.in-Some.is) ∙ out) in
    let f = c.reserve_granted.ensures.rights ∙ ap (λ (i : Job). granted h i (rights_of t.rights)) same
    ∙ ap (λ (q : Table). granted h j (rights_of q)) c.set_out.ensures.rights in
    let g = grants_there s.state.count xs s.state.sessions.items s.state.rights s.last h j (omega (arith, own, within, all)) (s.sound.handlers h).entry some.1 in
    let most = most_handlers s.state.rights.version in
    let few = s.state.some in
    let adds = subst (λ (i : Job). Adds i s.candidates.words s.reserving.words c.reserve_granted.new.candidates.words) same c.reserve_granted.ensures.candidates in
    record {
      counted = ap (λ n. n + 1) s.counted ∙ sym (more_out xs h x j e (not_out s.state.count xs s.state.sessions.items s.state.rights s.last h x j e some.1))
          ∙ ap (λ (zs : List coded.Handler). out_total zs) (sym set);
      there = rw (c.reserve_granted.ensures.version, c.set_out.ensures.rights, set) (outs_picked most xs h x j e (omega (arith, below, few)) s.there);
      grants = rw (c.reserve_granted.ensures.version, c.set_out.ensures.rights, set)
          (grants_picked most xs h x j e (λ i is. let l = g.below i is in omega (arith, l, few)) s.grants);
      sound = rw (c.set_out.ensures.count, c.set_out.ensures.sessions, set)
          (sound_picked (vec_len s.log.entries) (vec_len s.log.entries) s.state.count xs s.state.sessions.items s.state.rights c.reserve_granted.new.rights h x j e f
          (below_most s.state.count 512 (granted_items j) within g) s.sound);
      tried = rw (c.set_out.ensures.count, c.set_out.ensures.sessions, set)
          (candidates_picked s.state.count xs s.state.sessions.items s.state.rights c.reserve_granted.new.rights s.last h x j s.candidates.words
          s.reserving.words c.reserve_granted.new.candidates.words c.remove.new.self.words e f s.tried s.waiting adds c.remove.ensures);
      waiting = rw set (same_reserving s.reserving.words xs s.state.sessions.items h x (Some j) e s.waiting);
      crowded = rw (c.set_out.ensures.count, c.set_out.ensures.sessions, set)
          (same_crowds s.crowds.items s.state.count xs s.state.sessions.items h x (Some j) e s.crowded);
    }

pub returns-clause-center : goal.returns-clause-center
returns-clause-center c =
    let s = c.args.self.now in
    let t = c.set_out.new.self in
    let xs = s.state.handlers.items in
    let h = c.args.handler in
    let some = some_of (pick_for h (center_of s)) c.requires in
    let j = some.0 in
    let below = below_count s.state.count xs s.state.sessions.items s.state.rights s.last h j some.1 in
    let own = s.state.handlers.ok.0 in
    let within = s.sound.within in
    let all = s.state.places in
    let x = slice_index_or xs h fresh in
    let e = slice_get-get_or xs h fresh (omega (arith, below, own, within, all)) in
    let set = c.set_out.ensures.handlers x e ∙ ap (λ (o : Option Job). slice_set xs h (with_job o x)) (job_stands h (center_of s) j some.1) in
    let later = t.handlers.ok.0 in
    let places = t.places in
    let y = c.index.result.now in
    let read = slice_get_read t.handlers.items (length t.handlers.items) h y refl (omega (arith, below, within, later, places)) c.index.ensures in
    let out = out_now xs t.handlers.items h x y j e set read in
    let same = one_job c.in-Some.job.now j (sym (job_is y.out c.get.result c.in-Some.job c.get.ensures c.in-Some.is) ∙ out) in
    let f = c.reserve_granted.ensures.rights ∙ ap (λ (i : Job). granted h i (rights_of t.rights)) same
    ∙ ap (λ (q : Table). granted h j (rights_of q)) c.set_out.ensures.rights in
    (λ i. center (c.set_out.ensures.count i) (set i) (c.set_out.ensures.sessions i).items c.reserve_granted.new.rights h)
    ∙ picked_center s.state.count xs s.state.sessions.items s.state.rights c.reserve_granted.new.rights s.last h x j e f
    ∙ ap (λ (o : Option Job). picked_if h o (center_of s)) (sym some.1)
