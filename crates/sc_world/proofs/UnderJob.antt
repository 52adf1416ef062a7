-- Turns that a handler makes under one job, and whether they were cut short.
use Rattle.std.proofs.Common.{◌≡◌, ◌≤◌, ℕ, Bool, true, false, IsTrue, List, Some, slice_get, slice_set, refl, arith}
use Rattle.std.proofs.lemmas.Bool.{ltb-false, ltb-true}
use Rattle.std.specs.Prelude.{nat_lt}
use Rattle.sc_region.specs.declared.job.Job.{Job}
use Rattle.sc_region.specs.declared.job.Want.{Want}
use Rattle.sc_region.specs.declared.job.Want.TheVariants as want
use Rattle.sc_request.specs.Logs.{Center, picked}
use Rattle.sc_play.specs.Regions.{PlainRegion}
use Rattle.sc_world.specs.UnderJob.{AreCutShort, MakesAll, MakesSome, Played}

not-told : {A : Type 0} (told : Bool) → told ≡ false → IsTrue told → A
not-told true e is = cc
not-told false e is = cc

-- turns that ask nothing and weren't cut short are all
all-made : (limit turns : ℕ) (asked : Want) (told : Bool) → told ≡ false → (AreCutShort limit turns asked → IsTrue told) → turns ≤ limit →
    asked ≡ want.Continue → turns ≡ limit
all-made limit turns asked told untold tells few nothing = by (nat_lt turns limit) refl
  where
    by : (b : Bool) → nat_lt turns limit ≡ b → turns ≡ limit
    by true e = not-told told untold (tells (ltb-true turns limit e, nothing))
    by false e = omega (arith, few, ltb-false turns limit e)

pub makes-all : (limit given h : ℕ) (j : Job) (turns m m' n : ℕ) (c b d : Center) (rs : List PlainRegion) (x y : PlainRegion) (told : Bool) → given ≡ limit →
    slice_get rs h ≡ Some x → m' ≡ m → n ≡ m → b ≡ picked h j c → Played given h j turns m' b d x y told → told ≡ false →
    MakesAll limit h j turns (record { most = m; center = c; regions = rs }) (record { most = n; center = d; regions = slice_set rs h y })
makes-all limit given h j turns m m' n c b d rs x y told so-many stands same kept out played untold =
    let p : Played limit h j turns m (picked h j c) d x y told = rw (so-many, same, out) at played in
    let few : turns ≤ limit = omega (arith, p.settles.count, p.settles.plays.few) in
    record {
      makes = record { before = x; after = y; stands = stands; settles = p.settles; regions = refl; most = kept };
      all = λ nothing. all-made limit turns p.settles.outcome.want told untold p.tells.1 few nothing;
    }

pub makes-some : (limit given h : ℕ) (j : Job) (turns m m' n : ℕ) (c b d : Center) (rs : List PlainRegion) (x y : PlainRegion) (told : Bool) → given ≡ limit →
    slice_get rs h ≡ Some x → m' ≡ m → n ≡ m → b ≡ picked h j c → Played given h j turns m' b d x y told → IsTrue told →
    MakesSome limit h j turns (record { most = m; center = c; regions = rs }) (record { most = n; center = d; regions = slice_set rs h y })
makes-some limit given h j turns m m' n c b d rs x y told so-many stands same kept out played is =
    let p : Played limit h j turns m (picked h j c) d x y told = rw (so-many, same, out) at played in
    record {
      makes = record { before = x; after = y; stands = stands; settles = p.settles; regions = refl; most = kept };
      cut_short = p.tells.0 is;
    }
