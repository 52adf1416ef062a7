-- Handlers that were asked for nothing yet, and turns of others.
use Rattle.std.proofs.Common.{◌≡◌, ◌∙◌, ◌<◌, ◌≤◌, ◌==◌, inl, inr, ℕ, true, false, List, Option, Some, None, length, map, refl, sym, ap, subst, arith}
use Rattle.std.proofs.lemmas.Bool.{cases_lt, eq-eqb}
use Rattle.std.proofs.lemmas.List.{length-map}
use Rattle.std.proofs.lemmas.Option.{slice_get_past}
use Rattle.std.specs.Prelude.{get_or, slice_get, slice_set}
use Rattle.sc_region.specs.declared.job.Job.{Job}
use Rattle.sc_region.specs.declared.job.Want.{Want}
use Rattle.sc_region.specs.declared.job.Want.TheVariants as want
use Rattle.sc_handler.specs.Handlers.{Handler, State}
use Rattle.sc_request.specs.Candidates.{AreFreshFrom, AreStrangersFrom, IsSparedBy, IsStrangerTo, is_asked, touches, uncounted}
use Rattle.sc_request.specs.Logs.{Center, picked, put_back, put_back_with, settles}
use Rattle.sc_request.specs.Settling.{settled}
use Rattle.sc_request.proofs.Untouched.{leaves_untouched}
use Rattle.sc_request.specs.Parts.{PlainPart, new_part, part_in, part_of, parts_in, state_with}
use Rattle.sc_play.specs.Contents.{contents_at, contents_in, contents_of, new_contents}
use Rattle.sc_play.specs.Regions.{PlainRegion}
use Rattle.sc_world.specs.Loading.{contents_by, held_in}
use Rattle.sc_world.specs.declared.loading.Numbers.{Numbers}
use Rattle.sc_world.specs.declared.loading.Tables.{Tables}
use Rattle.sc_world.proofs.KeptWorlds.{new_past}
use Rattle.sc_world.specs.Unused.{AreNewRegions, AreUnusedFrom}
use Rattle.sc_world.proofs.SettledPicks.{set_other}

-- A stranger that a turn doesn't ask isn't touched by it.
untouched : (h k : ℕ) (w : Want) (s : State) → IsStrangerTo h s k → is_asked w k ≡ false → touches h w s k ≡ false
untouched h k want.Continue s x none = refl
untouched h k (want.Reserve ks) s x none = refl
untouched h k (want.Post r) s x none = none
untouched h k (want.Ask r passing) s x none = none
untouched h k (want.Create class procedure actuals passing) s x none = x.later
untouched h k (want.Release ks) s x none = refl
untouched h k (want.Wait ks) s x none = refl
untouched h k (want.Done v ks refused) s x none = x.silent
untouched h k (want.Fail why) s x none = refl

-- Strangers that are spared by a turn are as they were.
pub fresh_settled : (most h turns : ℕ) (j : Job) (w : Want) (s : State) (n m : ℕ) → n ≤ m → AreFreshFrom n s →
    ((k : ℕ) → m ≤ k → k < 512 → IsStrangerTo h s k) → ((k : ℕ) → m ≤ k → k < 512 → IsSparedBy h w (settled most h j turns w s) k) →
    AreFreshFrom m (settled most h j turns w s)
fresh_settled most h turns j w s n m more fresh strangers spared k far below =
    let x = strangers k far below in
    let y = spared k far below in
    leaves_untouched most h j turns w s k x.other (untouched h k w s x y.unasked) y.stands ∙ fresh k (omega (arith, more, far)) below

put_back_same : (h : ℕ) (c : Center) → (put_back h c).state.handlers ≡ c.state.handlers
put_back_same h c = by (c.out h)
  where
    by : (o : Option Job) → (put_back_with h o c).state.handlers ≡ c.state.handlers
    by None = refl
    by (Some j) = refl

-- So they are if a turn is undone.
pub fresh_back : (h : ℕ) (c d : Center) (n m : ℕ) → n ≤ m → d ≡ put_back h c → AreFreshFrom n c.state → AreFreshFrom m d.state
fresh_back h c d n m more is fresh k far below =
    ap (λ (x : Center). uncounted (x.state.handlers k)) is ∙ ap (λ (f : ℕ → Handler). uncounted (f k)) (put_back_same h c)
    ∙ fresh k (omega (arith, more, far)) below

-- What one region holds is no matter to the others.
other_set : (h k : ℕ) (rs : List PlainRegion) (x : PlainRegion) → (k ≡ h → ⊥) → contents_at (slice_set rs h x) k ≡ contents_at rs k
other_set h k rs x apart = ap (contents_in k) (set_other rs h k x apart)

pub regions_set : (h n m : ℕ) (rs : List PlainRegion) (x : PlainRegion) → n ≤ m → h < m → AreNewRegions n rs → AreNewRegions m (slice_set rs h x)
regions_set h n m rs x more own new k far below =
    other_set h k rs x (λ e. omega (arith, e, own, far)) ∙ new k (omega (arith, more, far)) below

-- ---- worlds

-- A handler is no stranger to itself.
own_below : (h m : ℕ) (s : State) → h < 512 → AreStrangersFrom m h s → h < m
own_below h m s there strangers = elim (cases_lt h m) [
  | inl below ↦ below
  | inr past ↦ let never : true ≡ false = sym (eq-eqb h h refl) ∙ (strangers h past there).other in cc
]

-- Past all places there is none that was asked.
pub unused_all : (c : Center) (rs : List PlainRegion) → AreUnusedFrom 512 c rs
unused_all c rs = record { fresh = λ h far below. absurd (omega (arith, far, below)); regions = λ h far below. absurd (omega (arith, far, below)) }

pub unused_still : (n : ℕ) (c d : Center) (rs : List PlainRegion) → d ≡ c → AreUnusedFrom n c rs → AreUnusedFrom n d rs
unused_still n c d rs same unused = subst (λ (x : Center). AreUnusedFrom n x rs) (sym same) unused

module _ (h : ℕ) (j : Job) (n m : ℕ) (c b d : Center) (rs : List PlainRegion) (y : PlainRegion) (there : h < 512) (more : n ≤ m) (unused : AreUnusedFrom n c rs)
    (out : b ≡ picked h j c) (strangers : AreStrangersFrom m h b.state) where
  picked_fresh : AreFreshFrom n b.state
  picked_fresh k far below = ap (λ (x : Center). uncounted (x.state.handlers k)) out ∙ unused.fresh k far below

  -- Where the turn of a picked handler is undone,
  pub unused_back : d ≡ put_back h b → AreUnusedFrom m d (slice_set rs h y)
  unused_back back = record {
    fresh = fresh_back h b d n m more back picked_fresh;
    regions = regions_set h n m rs y more (own_below h m b.state there strangers) unused.regions;
  }

  -- and where it is settled, those that it spared are as they were.
  pub unused_settled : (most turns : ℕ) (w : Want) (r : ℕ) → m ≤ r → d ≡ settles most h j turns w b →
      ((k : ℕ) → r ≤ k → k < 512 → IsSparedBy h w d.state k) → AreUnusedFrom r d (slice_set rs h y)
  unused_settled most turns w r further is spared =
      let own = own_below h m b.state there strangers in
      let settled_so : ((k : ℕ) → r ≤ k → k < 512 → IsSparedBy h w (settled most h j turns w b.state) k) = λ k far below.
      subst (λ (x : Center). IsSparedBy h w x.state k) is (spared k far below) in
      record {
        fresh = λ k far below. ap (λ (x : Center). uncounted (x.state.handlers k)) is
            ∙ fresh_settled most h turns j w b.state n r (omega (arith, more, further)) picked_fresh
            (λ i past under. strangers i (omega (arith, past, further)) under) settled_so k far below;
        regions = regions_set h n r rs y (omega (arith, more, further)) (omega (arith, own, further)) unused.regions;
      }

-- ---- worlds into which states are put

-- All regions past a number are new if those are that have a place.
pub regions_past : (n : ℕ) (rs : List PlainRegion) → length rs ≤ 512 → AreNewRegions n rs → (h : ℕ) → n ≤ h → contents_at rs h ≡ new_contents h
regions_past n rs few new h far = elim (cases_lt h 512) [
  | inl below ↦ new h far below
  | inr past ↦ new_past rs h (omega (arith, few, past))
]

-- Past all numbers of a state that is put into a world, handlers were asked for nothing.
pub loaded_unused : (t : Tables) (n : Numbers) (c : Center) (rs : List PlainRegion) (m : ℕ) → length n.regions.now ≤ m → length n.parts.now ≡ length n.regions.now →
    c.state ≡ state_with n.count (parts_in t.parts.now n.parts.now) →
    ((h : ℕ) → contents_at rs h ≡ held_in h (slice_get (contents_by t.regions.now n.regions.now) h)) → AreUnusedFrom m c rs
loaded_unused t n c rs m all many state holds =
    let parts : length (parts_in t.parts.now n.parts.now) ≡ length n.parts.now = length-map n.parts.now (λ k. get_or (map part_of t.parts.now) k new_part) in
    let contents : length (contents_by t.regions.now n.regions.now) ≡ length n.regions.now =
    length-map n.regions.now (λ k. get_or (map contents_of t.regions.now) k (new_contents 0)) in
    record {
      fresh = λ h far below. ap (λ (s : State). uncounted (s.handlers h)) state
          ∙ ap (λ (o : Option PlainPart). uncounted (part_in o).handler)
          (slice_get_past (parts_in t.parts.now n.parts.now) h (omega (arith, parts, many, all, far)));
      regions = λ h far below. holds h ∙ ap (held_in h) (slice_get_past (contents_by t.regions.now n.regions.now) h (omega (arith, contents, all, far)));
    }
