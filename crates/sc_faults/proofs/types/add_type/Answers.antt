use Rattle.std.proofs.Common.{[], map}
use Rattle.sc_tree.specs.View.{declaration_of, type_of}
use Rattle.sc_class.specs.SystemIn.{system_in}
use Rattle.sc_rules.specs.Judging.{judge_type}
use Rattle.sc_faults.specs.Internal.Listing.{faults_at, judge_tag}
use Rattle.sc_faults.proofs.Adding.{from_none}
use Rattle.sc_faults.proofs.Steps.{site_added}
use Rattle.sc_faults.proofs.types.add_type.Goals as goal

pub returns : goal.returns
returns c =
    let s = system_in c.args.tables.now in
    let formals = map declaration_of c.args.formals.now in
    let d = type_of c.args.declared.now in
    site_added (judge_type s formals d) (faults_at (judge_tag formals d) []) c.judge_type-judged.result c.add.result
    c.add_alone.new.faults.items c.args.faults.now.items c.add.new.faults.items
    (from_none c.new-of_tag.result.items (faults_at (judge_tag formals d) []) c.add_alone.new.faults.items
    c.new-of_tag.ensures.items (c.in_ok-add_alone.ensures (judge_tag formals d) c.judge_tag.ensures))
    c.judge_type-judged.ensures c.add.ensures
