use Rattle.std.proofs.Common.{◌≡◌, ℕ, ◌<◌, ◌≤◌, length, ap, ◌∙◌, arith}
use Rattle.std.proofs.lemmas.List.{length-map}
use Rattle.std.specs.Prelude.{vec_len}
use Rattle.std.specs.Option.{option_map}
use Rattle.std.specs.declared.vec.Vec.{Vec}
use Rattle.std.specs.declared.alloc.Global.{Global}
use Rattle.sc_code.specs.declared.program.ConstantPool.{ConstantPool}
use Rattle.sc_code.specs.Machine.{hop_of}
use Rattle.sc_code.specs.Operations.{Demand}
use Rattle.sc_code.specs.Programs.{lists_of}
use Rattle.sc_region.specs.Frames.{activation_of}
use Rattle.sc_interp.specs.Values.{reference_of}
use Rattle.sc_interp.specs.Standing.{state_of}
use Rattle.sc_interp.proofs.Pools.{listed_is, unlisted}
use Rattle.sc_interp.proofs.visible.demand.Goals as goal

pub returns-then-number-len-clause-follows : goal.returns-then-number-len-clause-follows
returns-then-number-len-clause-follows c = λ me s code objects serves fits.
    let p = c.args.program.now.image in
    let ds = p.pool.demands in
    let f = state_of objects (activation_of c.args.activation.now) in
    let same : vec_len c.pool.result.now.demands ≡ vec_len ds = ap (λ (q : ConstantPool). vec_len q.demands) c.pool.ensures in
    let l : c.args.number < length (lists_of ds.items) = omega (arith, same, c.if-number-len.true, c.len.ensures, ds.ok.0, length-map ds.items (λ (d : Vec ℕ Global). d.items)) in
    ap (λ o. hop_of s code (reference_of me) (option_map Demand o) f) (listed_is (lists_of ds.items) c.args.number l)
    ∙ c.demand_on.ensures.demands p s (reference_of me) code objects fits

pub returns-else-number-len-clause-follows : goal.returns-else-number-len-clause-follows
returns-else-number-len-clause-follows c = λ me s code objects serves fits.
    let p = c.args.program.now.image in
    let ds = p.pool.demands in
    let f = state_of objects (activation_of c.args.activation.now) in
    let same : vec_len c.pool.result.now.demands ≡ vec_len ds = ap (λ (q : ConstantPool). vec_len q.demands) c.pool.ensures in
    let l : length (lists_of ds.items) ≤ c.args.number = omega (arith, same, c.if-number-len.false, c.len.ensures, ds.ok.0, length-map ds.items (λ (d : Vec ℕ Global). d.items)) in
    ap (λ o. hop_of s code (reference_of me) (option_map Demand o) f) (unlisted (lists_of ds.items) c.args.number l)
