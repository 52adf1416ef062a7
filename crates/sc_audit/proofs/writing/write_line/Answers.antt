use Rattle.std.proofs.Common.{◌-◌, arith}
use Rattle.std.proofs.lemmas.List.{length-set}
use Rattle.sc_audit.proofs.WritingLemmas.{few_digits, line_from_end}
use Rattle.sc_audit.proofs.writing.write_line.Goals as goal

pub write_digits-turns-requires : goal.write_digits-turns-requires
write_digits-turns-requires c =
    let few = few_digits c.from.result c.from.type_inv in
    let long = length-set c.args.text.now 47 10 in
    (omega (arith, few), omega (arith, long, c.told-text))

pub overflow_sub-space : goal.overflow_sub-space
overflow_sub-space c =
    let few = few_digits c.from.result c.from.type_inv in
    omega (arith, few, c.write_digits-turns.ensures.start)

pub write_digits-requires : goal.write_digits-requires
write_digits-requires c =
    let turns = few_digits c.from.result c.from.type_inv in
    let few = few_digits c.from-2.result c.from-2.type_inv in
    let start = c.write_digits-turns.ensures.start in
    let long = length-set c.args.text.now 47 10 in
    let same = length-set c.write_digits-turns.new.buf (c.write_digits-turns.result - 1) 32 in
    let kept = c.write_digits-turns.auto.buf in
    (omega (arith, turns, few, start), omega (arith, start, long, same, kept, c.told-text))

pub returns-clause-written : goal.returns-clause-written
returns-clause-written c =
    let turns = few_digits c.from.result c.from.type_inv in
    let start = c.write_digits-turns.ensures.start in
    let long = length-set c.args.text.now 47 10 in
    let kept = c.write_digits-turns.auto.buf in
    line_from_end c.args.line.now c.from-2.result c.from.result c.write_digits-turns.result c.args.text.now c.write_digits-turns.new.buf _
    c.from-2.ensures c.from.ensures c.told-text (omega (arith, turns, start)) (omega (arith, start, long, kept, c.told-text))
    c.write_digits-turns.ensures.written c.write_digits.ensures.written
