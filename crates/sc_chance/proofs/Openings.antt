-- What is kept of a world at its opening: the region and the part of the first handler. All else is new.
use Rattle.std.proofs.Common.{◌≡◌, ◌<◌, ◌≤◌, ◌+◌, ◌∙◌, ℕ, zero, suc, List, [], ◌∷◌, Bool, true, false, Option, Some, None, Result, Ok, Err, OnOk, length, map, slice_get, arith, refl, sym, ap, subst}
use Rattle.std.specs.Prelude.{nat_lt, if◌then◌else◌}
use Rattle.std.proofs.lemmas.Bool.Decides.{nat_tests}
use Rattle.std.proofs.lemmas.List.{length-map}
use Rattle.sc_lockpass.specs.declared.version.Version.TheVariants.{Two}
use Rattle.sc_code.specs.declared.program.Image.{Image}
use Rattle.sc_handler.specs.Canonical.{canon_handler, sessions_in}
use Rattle.sc_handler.specs.Handlers.{Handler, new_handler}
use Rattle.sc_play.specs.Contents.{Contents, contents_at, contents_in, contents_of, new_contents}
use Rattle.sc_play.specs.Regions.{PlainRegion, new_region}
use Rattle.sc_request.specs.Parts.{AreWithin, PlainPart, means, new_part, part_at, part_of}
use Rattle.sc_world.specs.Free.{OpeningsAreLinked}
use Rattle.sc_world.specs.Kept.{IsOf, OpeningsAreOf, PlainKept, kept}
use Rattle.sc_world.specs.Loading.{AreNewFrom, AreOf, IsLoadable, WorldsAreKeptByNumbers, kept_by, kept_with}
use Rattle.sc_world.specs.Worlds.{PlainWorld, max_handlers, new_regions, opened}
use Rattle.sc_world.specs.declared.loading.Numbers.{Numbers}
use Rattle.sc_world.specs.declared.loading.Tables.{Tables}

-- ---- all regions are new

new_at : (p : Image) (h n k : ℕ) (x : PlainRegion) → slice_get (new_regions p h n) k ≡ Some x → x ≡ new_region p (h + k)
unfolding new_regions
new_at p h zero k x e = cc
new_at p h (suc n) zero x e = some_new e ∙ ap (new_region p) same
  where
    some_new : Some (new_region p h) ≡ Some x → x ≡ new_region p h
    some_new e = cc

    same : h ≡ h + zero
    same = omega arith
new_at p h (suc n) (suc k) x e = new_at p (suc h) n k x e ∙ ap (new_region p) same
  where
    same : suc h + k ≡ h + suc k
    same = omega arith

holds_new : (p : Image) (h : ℕ) (o : Option PlainRegion) → ((x : PlainRegion) → o ≡ Some x → x ≡ new_region p h) → contents_in h o ≡ new_contents h
holds_new p h None all = refl
holds_new p h (Some x) all = ap contents_of (all x refl)

regions_new : (p : Image) (h : ℕ) → contents_at (new_regions p 0 max_handlers) h ≡ new_contents h
regions_new p h =
    holds_new p h (slice_get (new_regions p 0 max_handlers) h)
    (λ x e. let same : 0 + h ≡ h = omega arith in new_at p 0 max_handlers h x e ∙ ap (new_region p) same)

-- ---- and so is what the core keeps of all handlers but the first

canon_new : (f : ℕ → ℕ) (b : Bool) (x : Handler) → b ≡ false → canon_handler f (if b then x else new_handler) ≡ new_handler
canon_new f false x e = refl
canon_new f true x e = cc

parts_new : (p : Image) (h : ℕ) → 1 ≤ h → part_at h (opened p Two).center.state ≡ new_part
parts_new p h past =
    let with : Handler → PlainPart = λ x. record { handler = x; queue = None; top = None } in
    let test : nat_lt h 1 ≡ false = grind (arith, nat_tests, past) in
    ap with (canon_new (sessions_in (opened p Two).center.state) (nat_lt h 1) _ test)

new_from : (p : Image) → AreNewFrom 1 (opened p Two)
new_from p = λ h past. (parts_new p h past, regions_new p h)

-- ---- so it can be loaded by these two

module _ (p : Image) where
  abbrev first : PlainPart
  first = part_at 0 (opened p Two).center.state

  each : (h : ℕ) → h < 1 → (slice_get (first ∷ []) h ≡ Some (part_at h (opened p Two).center.state))
      × (slice_get (new_contents 0 ∷ []) h ≡ Some (contents_at (opened p Two).regions h))
  each zero below = (refl, ap (λ (c : Contents). Some c) (sym (regions_new p 0)))
  each (suc h) below = absurd (omega (arith, below))

  kept_first : WorldsAreKeptByNumbers → kept (opened p Two) ≡ kept_with 1 (first ∷ []) (new_contents 0 ∷ [])
  kept_first by_numbers = by_numbers 1 (opened p Two) (first ∷ []) (new_contents 0 ∷ []) (new_from p) refl refl each

  means_first : {X : Type 0} (xs : List X) (x d : X) (numbers : List ℕ) → xs ≡ x ∷ [] → numbers ≡ 0 ∷ [] → means xs d numbers ≡ x ∷ []
  means_first xs x d numbers e f = ap (λ ys. means ys d numbers) e ∙ ap (λ ns. means (x ∷ []) d ns) f

  module _ (t : Tables) (n : Numbers) (regions : t.regions.now ≡ new_region p 0 ∷ []) (parts : map part_of t.parts.now ≡ first ∷ [])
      (count : n.count ≡ 1) (region_numbers : n.regions.now ≡ 0 ∷ []) (part_numbers : n.parts.now ≡ 0 ∷ []) where
    kept_is : WorldsAreKeptByNumbers → kept (opened p Two) ≡ kept_by t n
    kept_is by_numbers =
        let contents : map contents_of t.regions.now ≡ new_contents 0 ∷ [] = ap (map contents_of) regions in
        kept_first by_numbers
        ∙ sym (ap (λ c. kept_with c (means (map part_of t.parts.now) new_part n.parts.now) (means (map contents_of t.regions.now) (new_contents 0) n.regions.now)) count
        ∙ ap (λ ps. kept_with 1 ps (means (map contents_of t.regions.now) (new_contents 0) n.regions.now)) (means_first (map part_of t.parts.now) first new_part n.parts.now parts part_numbers)
        ∙ ap (λ xs. kept_with 1 (first ∷ []) xs) (means_first (map contents_of t.regions.now) (new_contents 0) (new_contents 0) n.regions.now contents region_numbers))

    within : (numbers : List ℕ) (most : ℕ) → numbers ≡ 0 ∷ [] → 1 ≤ most → AreWithin numbers most
    within numbers most e some = subst (λ ns. AreWithin ns most) (sym e) one
      where
        one : AreWithin (0 ∷ []) most
        one zero d below = omega (arith, some)
        one (suc k) d below = absurd (omega (arith, below))

    of_program : (h : ℕ) (x : PlainRegion) → slice_get (new_region p 0 ∷ []) h ≡ Some x → x.store.program ≡ p
    of_program zero x e = let same : x ≡ new_region p 0 = cc in ap (λ (r : PlainRegion). r.store.program) same
    of_program (suc h) x e = cc

    pub loadable : OpeningsAreOf → OpeningsAreLinked → WorldsAreKeptByNumbers → (w : PlainWorld) → IsOf p 512 w → IsLoadable w t n
    loadable open_of open_linked by_numbers w of = record {
      program = p;
      most = 512;
      of = of;
      programs = subst (AreOf p) (sym regions) of_program;
      regions_within = within n.regions.now (length t.regions.now) region_numbers (omega (arith, ap length regions));
      parts_within = within n.parts.now (length t.parts.now) part_numbers (omega (arith, ap length parts, length-map t.parts.now part_of));
      few = omega (arith, ap length region_numbers);
      as_many = ap length part_numbers ∙ sym (ap length region_numbers);
      world = opened p Two;
      its = open_of p Two;
      linked = open_linked p Two;
      kept_is = kept_is by_numbers;
    }

    -- and what is loaded is kept as the opening is
    pub opens : WorldsAreKeptByNumbers → (k : PlainKept) → k ≡ kept_by t n → k ≡ kept (opened p Two)
    opens by_numbers k same = same ∙ sym (kept_is by_numbers)

-- ---- what a load that has succeeded gives

pub on_ok : {E A B : Type 0} (r : Result (Unit {0}) E) → OnOk r A → (A → B) → OnOk r B
on_ok (Ok u) a f = f a
on_ok (Err e) a f = tt
