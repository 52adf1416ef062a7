use Rattle.std.proofs.Common.{◌≡◌, length, map, arith}
use Rattle.std.proofs.lemmas.List.{length-map}
use Rattle.std.specs.Prelude.{string_bytes}
use Rattle.sc_interp.proofs.Pools.{listed_by}
use Rattle.sc_interp.proofs.calling.has_name.Goals as goal

pub returns : goal.returns
returns c =
    let names = c.args.pool.now.names in
    let many : length (map string_bytes names.items) ≡ c.len.result = omega (arith, length-map names.items string_bytes, c.len.ensures, names.ok.0) in
    listed_by (map string_bytes names.items) c.args.name c.len.result many
