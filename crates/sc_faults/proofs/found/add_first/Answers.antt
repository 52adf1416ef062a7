use Rattle.std.proofs.Common.{sym, ◌∙◌}
use Rattle.sc_faults.proofs.Adding.{appended, first_there, first_missing}
use Rattle.sc_faults.proofs.found.add_first.Goals as goal

pub returns-then-begins_with : goal.returns-then-begins_with
returns-then-begins_with c =
    first_there c.append.result c.args.fault c.deref.result.now c.args.operands.now.items c.args.faults.now.items c.append.new.self.items
    c.deref.ensures.value (sym c.begins_with.ensures ∙ c.if-begins_with.true)
    (appended c.append.result c.args.faults.now.items c.args.operands.now.items c.append.new.self.items c.append.ensures.items)

pub returns-in_ok-push : goal.returns-in_ok-push
returns-in_ok-push c =
    first_missing c.append-else-begins_with.result c.args.fault c.deref.result.now c.args.operands.now.items c.args.faults.now.items c.push.new.self.items
    c.append-else-begins_with.new.self.items c.deref.ensures.value (sym c.begins_with.ensures ∙ c.if-begins_with.false) c.in_ok-push.ensures.items
    (appended c.append-else-begins_with.result c.push.new.self.items c.args.operands.now.items c.append-else-begins_with.new.self.items c.append-else-begins_with.ensures.items)
