use Rattle.std.proofs.Common.{◌+◌, arith}
use Rattle.sc_request.proofs.center.Core.make_room_for_one.Goals as goal

pub returns-clause-kept : goal.returns-clause-kept
returns-clause-kept c = λ n r.
    let s = c.args.self.now in
    let places = r.places in
    let more = c.add_places.ensures.kept in
    let rest = c.reserve.ensures.kept (s.outs + n) (record { entries = r.entries; packed = r.packed; values = r.values; packed_numbers = r.packed_numbers; value_numbers = r.value_numbers }) in
    record { places = omega (arith, places, more); entries = rest.entries; packed = rest.packed; values = rest.values; packed_numbers = rest.packed_numbers; value_numbers = rest.value_numbers }
