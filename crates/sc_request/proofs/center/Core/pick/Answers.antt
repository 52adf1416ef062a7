use Rattle.std.proofs.Common.{◌∙◌, refl, arith}
use Rattle.sc_request.specs.Cores.{center_of}
use Rattle.sc_request.specs.Logs.{pick_for}
use Rattle.sc_request.proofs.GrantedReservations.{below_there}
use Rattle.sc_request.proofs.Rounds.{next_has, picks_next}
use Rattle.sc_request.proofs.center.Core.pick.Goals as goal

pub send_out-requires : goal.send_out-requires
send_out-requires c =
    let s = center_of c.args.self.now in
    let h = c.in_ok-handler.handler in
    next_has s h (pick_for h s) refl c.in_ok-handler.ensures.found

pub returns-clause-center : goal.returns-clause-center
returns-clause-center c =
    let s = center_of c.args.self.now in
    let h = c.in_ok-handler.handler in
    c.send_out.ensures.center ∙ picks_next s h (pick_for h s) refl c.in_ok-handler.ensures.found

pub returns-clause-below : goal.returns-clause-below
returns-clause-below c =
    let s = c.args.self.now in
    let h = c.in_ok-handler.handler in
    let within = s.sound.within in
    let below = below_there (center_of s) h (next_has (center_of s) h (pick_for h (center_of s)) refl c.in_ok-handler.ensures.found) in
    omega (arith, within, below)

pub returns-clause-room : goal.returns-clause-room
returns-clause-room c = λ n r. c.send_out.ensures.room n (record { places = r.places; entries = r.entries; packed = r.packed; values = r.values; packed_numbers = r.packed_numbers; value_numbers = r.value_numbers })
