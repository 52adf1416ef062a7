use Rattle.std.proofs.Common.{◌+◌, arith}
use Rattle.sc_request.proofs.Outs.{outs_within}
use Rattle.sc_request.proofs.center.Core.make_room.Goals as goal

pub overflow_add-wanted : goal.overflow_add-wanted
overflow_add-wanted c =
    let s = c.args.self.now in
    let counted = s.counted in
    let least = outs_within s.state.handlers.items in
    let all = s.state.places in
    omega (arith, counted, least, all)

pub reserve-requires : goal.reserve-requires
reserve-requires c =
    let s = c.args.self.now in
    let counted = s.counted in
    let least = outs_within s.state.handlers.items in
    let own = s.state.handlers.ok.0 in
    let all = s.state.places in
    record { few = omega (arith, counted, least, own, all) }

pub returns-in_err-reserve-clause-kept : goal.returns-in_err-reserve-clause-kept
returns-in_err-reserve-clause-kept c = λ n r.
    let s = c.args.self.now in
    let rest = c.reserve.ensures.kept (s.outs + n) (record { entries = r.entries; packed = r.packed; values = r.values; packed_numbers = r.packed_numbers; value_numbers = r.value_numbers }) in
    record { places = r.places; entries = rest.entries; packed = rest.packed; values = rest.values; packed_numbers = rest.packed_numbers; value_numbers = rest.value_numbers }

pub returns-clause-kept : goal.returns-clause-kept
returns-clause-kept c = λ n r.
    let s = c.args.self.now in
    let places = r.places in
    let more = c.add_places.ensures.kept in
    let rest = c.reserve.ensures.kept (s.outs + n) (record { entries = r.entries; packed = r.packed; values = r.values; packed_numbers = r.packed_numbers; value_numbers = r.value_numbers }) in
    record { places = omega (arith, places, more); entries = rest.entries; packed = rest.packed; values = rest.values; packed_numbers = rest.packed_numbers; value_numbers = rest.value_numbers }
