use Rattle.std.proofs.Common.{◌≡◌, ◌∙◌, ◌≤◌, ℕ, List, length, ap, subst, sym, arith}
use Rattle.std.specs.Prelude.{vec_len}
use Rattle.sc_lockpass.proofs.Listings.{most_handlers-le}
use Rattle.sc_lockpass.specs.Tables.{rights_of}
use Rattle.sc_lockpass.specs.Versions.{most_handlers}
use Rattle.sc_handler.specs.declared.handler.Handler as coded
use Rattle.sc_handler.specs.declared.logged.Log.{Log}
use Rattle.sc_request.specs.Loading.{HaveParts, changed}
use Rattle.sc_request.specs.Places.{plain}
use Rattle.sc_request.specs.Sound.{IsSound}
use Rattle.sc_request.specs.Parts.{NameBelow, parts_in, state_with}
use Rattle.sc_request.specs.Tables.{handler_at}
use Rattle.sc_request.proofs.ChangedPlaces.{new_places}
use Rattle.sc_request.proofs.LoadedCores.{counts_less, home_grants, home_outs, home_total, loaded_crowds, loaded_reserving, loaded_sound, loaded_state, loaded_tried, parts_at, parts_home}
use Rattle.sc_request.proofs.center.Core.load.Goals as goal

pub put-requires-clause-most : goal.put-requires-clause-most
put-requires-clause-most c = let e = ap most_handlers c.put_rights.ensures.version in omega (arith, e, c.requires.most)

pub put-requires-clause-within : goal.put-requires-clause-within
put-requires-clause-within c = c.in_ok-changes.ensures.within

pub put-requires-clause-new : goal.put-requires-clause-new
put-requires-clause-new c =
    let s = c.args.self.now.state in
    let few : length s.handlers.items ≤ 512 = omega (arith, s.places, s.handlers.ok.0) in
    new_places s.handlers.items s.sessions.items c.args.used few c.requires.fresh c.requires.at_home

pub invariant_of-self : goal.invariant_of-self
invariant_of-self c =
    let s = c.args.self.now in
    let same : vec_len c.fit_log.new.log.entries ≡ vec_len s.log.entries = ap (λ (l : Log). vec_len l.entries) c.in_err-fit_log.ensures.err in
    record {
      counted = s.counted;
      there = s.there;
      grants = s.grants;
      sound = subst (λ (n : ℕ). IsSound n n (plain s.state)) (sym same) s.sound;
      tried = s.tried;
      waiting = s.waiting;
      crowded = s.crowded;
    }

pub invariant_of-self-3 : goal.invariant_of-self-3
invariant_of-self-3 c =
    let T = c.args.parts.now in
    let ns = c.args.numbers.now in
    let t = c.put.new.self in
    let xs = t.handlers.items in
    let have = subst (λ (ys : List coded.Handler). HaveParts (length ns) T ns (changed c.in_ok-changes.changes.items ys)) c.deref.ensures.value c.in_ok-changes.ensures.handlers in
    let home = parts_home T ns xs _ have c.put.ensures.changed c.put.ensures.new in
    let all = t.places in
    let own = t.handlers.ok.0 in
    let most = most_handlers-le t.rights.version in
    let some = t.some in
    let within : t.count ≤ 512 = omega (arith, most, some) in
    let named = subst (λ (n : ℕ). NameBelow n (parts_in T ns)) (sym c.put.ensures.count) c.requires.named in
    let counts = counts_less T ns c.settlements_of.result (vec_len c.fit_log.new.log.entries) c.in_ok-fit_log.ensures.ok c.settlements_of.ensures in
    let rights = ap rights_of c.put.ensures.rights ∙ c.put_rights.ensures.rights in
    record {
      counted = sym (home_total xs home);
      there = home_outs (most_handlers t.rights.version) xs home;
      grants = home_grants (most_handlers t.rights.version) xs home;
      sound = loaded_sound T ns t.count xs t.sessions.items t.rights (parts_at T ns xs _ have c.put.ensures.changed c.put.ensures.new) c.put.ensures.sessions
          rights (vec_len c.fit_log.new.log.entries) within c.requires.few counts named;
      tried = loaded_tried c.fill.new.self.words t.count xs t.sessions.items t.rights c.args.self.now.last within c.fill.ensures;
      waiting = loaded_reserving c.fill-2.new.self.words xs t.sessions.items (omega (arith, all, own)) c.fill-2.ensures;
      crowded = loaded_crowds c.clear.new.crowds.items t.count (handler_at xs t.sessions.items) c.clear.ensures;
    }

pub returns-clause-state : goal.returns-clause-state
returns-clause-state c =
    let T = c.args.parts.now in
    let ns = c.args.numbers.now in
    let t = c.put.new.self in
    let rights = ap rights_of c.put.ensures.rights ∙ c.put_rights.ensures.rights in
    let have = subst (λ (ys : List coded.Handler). HaveParts (length ns) T ns (changed c.in_ok-changes.changes.items ys)) c.deref.ensures.value c.in_ok-changes.ensures.handlers in
    loaded_state T ns t.count t.handlers.items t.sessions.items t.rights
    (parts_at T ns t.handlers.items _ have c.put.ensures.changed c.put.ensures.new) c.put.ensures.sessions rights
    ∙ ap (λ (n : ℕ). state_with n (parts_in T ns)) c.put.ensures.count

pub returns-clause-home : goal.returns-clause-home
returns-clause-home c =
    let T = c.args.parts.now in
    let ns = c.args.numbers.now in
    let have = subst (λ (ys : List coded.Handler). HaveParts (length ns) T ns (changed c.in_ok-changes.changes.items ys)) c.deref.ensures.value c.in_ok-changes.ensures.handlers in
    parts_home T ns c.put.new.self.handlers.items _ have c.put.ensures.changed c.put.ensures.new
