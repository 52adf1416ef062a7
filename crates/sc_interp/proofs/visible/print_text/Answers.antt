use Rattle.std.proofs.Common.{◌≡◌, ◌<◌, ◌≤◌, length, ap, arith}
use Rattle.std.proofs.lemmas.List.{length-map}
use Rattle.std.specs.Prelude.{string_bytes, vec_len}
use Rattle.std.specs.Option.{option_map}
use Rattle.sc_code.specs.declared.program.ConstantPool.{ConstantPool}
use Rattle.sc_code.specs.Machine.{hop_of}
use Rattle.sc_code.specs.Operations.{PrintText}
use Rattle.sc_code.specs.Programs.{pool_of}
use Rattle.sc_interp.specs.Values.{reference_of}
use Rattle.sc_interp.specs.Standing.{state_of}
use Rattle.sc_interp.proofs.Pools.{listed_is, unlisted}
use Rattle.sc_interp.proofs.visible.print_text.Goals as goal

pub returns-then-text-len-clause-follows : goal.returns-then-text-len-clause-follows
returns-then-text-len-clause-follows c = λ me count a s code objects serves fits.
    let p = c.args.program.now.image in
    let ts = p.pool.texts in
    let same : vec_len c.pool.result.now.texts ≡ vec_len ts = ap (λ (q : ConstantPool). vec_len q.texts) c.pool.ensures in
    let l : c.args.text < length (pool_of p.pool).texts = omega (arith, same, c.if-text-len.true, c.len.ensures, ts.ok.0, length-map ts.items string_bytes) in
    ap (λ o. hop_of s code (reference_of me) (option_map PrintText o) (state_of objects a)) (listed_is (pool_of p.pool).texts c.args.text l)

pub returns-else-text-len-clause-follows : goal.returns-else-text-len-clause-follows
returns-else-text-len-clause-follows c = λ me count a s code objects serves fits.
    let p = c.args.program.now.image in
    let ts = p.pool.texts in
    let same : vec_len c.pool.result.now.texts ≡ vec_len ts = ap (λ (q : ConstantPool). vec_len q.texts) c.pool.ensures in
    let l : length (pool_of p.pool).texts ≤ c.args.text = omega (arith, same, c.if-text-len.false, c.len.ensures, ts.ok.0, length-map ts.items string_bytes) in
    ap (λ o. hop_of s code (reference_of me) (option_map PrintText o) (state_of objects a)) (unlisted (pool_of p.pool).texts c.args.text l)
