-- Worlds that hold the same report the same.
use Rattle.std.proofs.Common.{◌≡◌, ◌<◌, ◌≤◌, ◌-◌, ◌⊎◌, ℕ, zero, suc, Bool, true, false, List, ◌++◌, Option, Some, None, inl, inr, slice_get, refl, sym, ap, ◌∙◌, arith}
use Rattle.std.specs.Prelude.{◌||◌, nat_lt, if◌then◌else◌}
use Rattle.std.proofs.lemmas.Bool.Decides.{nat_tests}
use Rattle.sc_model.specs.Reports.{end_text, line_feed}
use Rattle.sc_model.specs.declared.status.Status.{Status}
use Rattle.sc_request.specs.Logs.{Center, status_for, status_in}
use Rattle.sc_play.specs.Regions.{PlainRegion}
use Rattle.sc_world.specs.Reports.{handler_report, handlers_report, is_busy, output_in, report, report_of, some_is_busy}
use Rattle.sc_world.specs.Worlds.{PlainWorld, max_handlers}
use Rattle.sc_recording.specs.Same.{AreSameRegions, IsSame}
use Rattle.sc_driver.specs.Laws.{SameWorldsHaveSameReports}

-- ---- how a handler stands

there : (h : ℕ) (c : Center) → h < c.state.count → status_for h c ≡ Some (status_in h c)
there h c below =
    let test : nat_lt h c.state.count ≡ true = grind (arith, nat_tests) in
    ap (λ (b : Bool). if b then Some (status_in h c) else None) test

past : (h : ℕ) (c : Center) → c.state.count ≤ h → status_for h c ≡ None
past h c beyond =
    let test : nat_lt h c.state.count ≡ false = grind (arith, nat_tests) in
    ap (λ (b : Bool). if b then Some (status_in h c) else None) test

some-same : (a b : Status) → Some a ≡ Some b → a ≡ b
some-same a b e = cc

some-none : (a : Status) → Some a ≡ None → ⊥
some-none a e = cc

-- no more handlers in one than in the other
no-more : (w v : PlainWorld) → v.center.state.count ≤ max_handlers → IsSame w v → w.center.state.count < v.center.state.count → ⊥
no-more w v few same less =
    let h = w.center.state.count in
    let within : h < max_handlers = omega (arith, few, less) in
    some-none (status_in h v.center)
    (sym (there h v.center less) ∙ sym (same h within).center.status ∙ past h w.center (omega arith))

turned : (w v : PlainWorld) → IsSame w v → IsSame v w
turned w v same h below =
    let at = same h below in
    record {
      region = back (slice_get w.regions h) (slice_get v.regions h) at.region;
      center = record { status = sym at.center.status; handler = sym at.center.handler; queue = sym at.center.queue; top = sym at.center.top };
    }
  where
    back : (a b : Option PlainRegion) → AreSameRegions a b → AreSameRegions b a
    back (Some x) (Some y) s = record { objects = sym s.objects; frames = sym s.frames; output = sym s.output; failure = sym s.failure }
    back (Some x) None s = s
    back None (Some y) s = s
    back None None s = s

same-count : (w v : PlainWorld) → w.center.state.count ≤ max_handlers → v.center.state.count ≤ max_handlers → IsSame w v →
    w.center.state.count ≡ v.center.state.count
same-count w v few many same = elim (three w.center.state.count v.center.state.count) [
  | inl less ↦ absurd (no-more w v many same less)
  | inr rest ↦ elim rest [
    | inl more ↦ absurd (no-more v w few (turned w v same) more)
    | inr e ↦ e
  ]
]
  where
    three : (x y : ℕ) → (x < y) ⊎ ((y < x) ⊎ (x ≡ y))
    three x y = grind (arith)

-- ---- text

same-output : (a b : Option PlainRegion) → AreSameRegions a b → output_in a ≡ output_in b
same-output (Some x) (Some y) s = s.output
same-output (Some x) None s = absurd s
same-output None (Some y) s = absurd s
same-output None None s = refl

module _ (w v : PlainWorld) (few : w.center.state.count ≤ max_handlers) (count : w.center.state.count ≡ v.center.state.count) (same : IsSame w v) where
  same-status : (h : ℕ) → h < w.center.state.count → status_in h w.center ≡ status_in h v.center
  same-status h below =
      let within : h < max_handlers = omega (arith, few, below) in
      let other : h < v.center.state.count = omega (arith, count, below) in
      some-same (status_in h w.center) (status_in h v.center)
      (sym (there h w.center below) ∙ (same h within).center.status ∙ there h v.center other)

  same-report : (h : ℕ) → h < w.center.state.count → report_of h w ≡ report_of h v
  same-report h below =
      let within : h < max_handlers = omega (arith, few, below) in
      let o : List ℕ = output_in (slice_get w.regions h) in
      ap (λ (s : Status). handler_report h s (w.center.state.handlers h).refused o) (same-status h below)
      ∙ ap (λ (n : ℕ). handler_report h (status_in h v.center) n o) (ap (λ x. x.refused) (same h within).center.handler)
      ∙ ap (λ (t : List ℕ). handler_report h (status_in h v.center) (v.center.state.handlers h).refused t)
      (same-output (slice_get w.regions h) (slice_get v.regions h) (same h within).region)

  same-handlers : (n : ℕ) → n ≤ w.center.state.count → handlers_report n w ≡ handlers_report n v
  same-handlers zero le = refl
  same-handlers (suc n) le =
      let place : w.center.state.count - suc n < w.center.state.count = omega (arith, le) in
      ap (λ (t : List ℕ). t ++ handlers_report n w) (same-report (w.center.state.count - suc n) place)
      ∙ ap (λ (k : ℕ). report_of (k - suc n) v ++ handlers_report n w) count
      ∙ ap (λ (t : List ℕ). report_of (v.center.state.count - suc n) v ++ t) (same-handlers n (omega (arith, le)))

  same-busy : (n : ℕ) → n ≤ w.center.state.count → some_is_busy n w ≡ some_is_busy n v
  same-busy zero le = refl
  same-busy (suc n) le =
      ap (λ (s : Status). is_busy s || some_is_busy n w) (same-status n (omega (arith, le)))
      ∙ ap (λ (b : Bool). is_busy (status_in n v.center) || b) (same-busy n (omega (arith, le)))

  all-same : report w ≡ report v
  all-same =
      let n = w.center.state.count in
      let m = v.center.state.count in
      ap (λ (t : List ℕ). t ++ end_text (some_is_busy n w) ++ line_feed) (same-handlers n (omega arith))
      ∙ ap (λ (b : Bool). handlers_report n v ++ end_text b ++ line_feed) (same-busy n (omega arith))
      ∙ ap (λ (k : ℕ). handlers_report k v ++ end_text (some_is_busy k v) ++ line_feed) count

pub same-reports : SameWorldsHaveSameReports
same-reports w v few many same = all-same w v few (same-count w v few many same) same
