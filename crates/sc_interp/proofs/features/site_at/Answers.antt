use Rattle.std.proofs.Common.{◌≡◌, subst}
use Rattle.std.specs.Option.{option_map, option_and_then}
use Rattle.std.specs.Prelude.{IfSome, slice_get}
use Rattle.sc_code.specs.declared.program.Image.{Image}
use Rattle.sc_code.specs.Programs.{pool_of}
use Rattle.sc_code.specs.View.{call_of}
use Rattle.sc_interp.specs.Standing.{call_in}
use Rattle.sc_interp.specs.Told.{IsCallIn}
use Rattle.sc_interp.proofs.Pools.{site_by}
use Rattle.sc_interp.proofs.features.site_at.Goals as goal

pub returns : goal.returns
returns c =
    let r = c.call_at.result in
    let there = subst (λ (p : Image). IfSome r (λ site. IsCallIn p site)) c.program.ensures c.call_at.ensures.there in
    let site = subst (λ (p : Image). option_map (call_in (pool_of p.pool)) r ≡ option_and_then (call_of (pool_of p.pool)) (slice_get (pool_of p.pool).calls c.args.number))
    c.program.ensures c.call_at.ensures.site in
    record { site = site_by c.args.store.now c.args.number r site there; there = there }
