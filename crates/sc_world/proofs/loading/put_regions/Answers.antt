use Rattle.std.proofs.Common.{◌≡◌, ◌∙◌, ◌<◌, ◌≤◌, ℕ, length, refl, arith}
use Rattle.std.specs.Prelude.{slice_get}
use Rattle.sc_world.proofs.LoadedRegions.{new_from, new_more, popped_left, popped_of, popped_put, popped_still, put_past, still_more}
use Rattle.sc_world.proofs.loading.put_regions.Goals as goal

pub loop-place-init : goal.loop-place-init
loop-place-init c = record {
  len = refl;
  far = omega arith;
  still = λ k below. refl;
  new = λ k far few. absurd (omega (arith, far, few));
  rest = λ k past. refl;
  programs = λ p of. of;
}

pub loop-place-preserved : goal.loop-place-preserved
loop-place-preserved c =
    let l = c.loop-place in
    let n = c.args.changes.now.len in
    let xs = l.regions.items in
    let ys = c.renew.new.regions.items in
    record {
      len = c.renew.ensures.len ∙ l.invariant.len;
      far = omega (arith, l.invariant.far);
      still = still_more n l.place xs ys c.renew.ensures.others l.invariant.far c.args.regions.now.items l.invariant.still;
      new = new_more n l.place xs ys c.renew.ensures.others c.renew.ensures.new l.invariant.new;
      rest = λ k past. c.renew.ensures.others k (λ e. omega (arith, past, e)) ∙ l.invariant.rest k (omega (arith, past));
      programs = λ p of. c.renew.ensures.programs p (l.invariant.programs p of);
    }

pub loop-change-init : goal.loop-change-init
loop-change-init c =
    let l = c.loop-place in
    let n = c.args.changes.now.len in
    let all : c.args.used ≤ l.place = omega (arith, c.loop-place-test.false) in
    let fs = c.args.changes.now in
    let many : length fs.items ≡ n = let e = fs.ok.0 in omega (arith, e) in
    record {
      len = l.invariant.len;
      few = omega arith;
      left = λ k below. refl;
      still = l.invariant.still;
      put = put_past c.args.regions.now.items fs.items l.regions.items n many
          (new_from n c.args.used l.place l.regions.items c.args.regions.now.items c.requires.new all l.invariant.rest l.invariant.new);
      programs = λ p of changes. l.invariant.programs p of;
    }

pub loop-change-preserved : goal.loop-change-preserved
loop-change-preserved c =
    let l = c.loop-change in
    let zs = c.args.regions.now.items in
    let xs = l.regions.items in
    let ys = c.put.new.regions.items in
    let hs = l.changes.items in
    let gs = c.pop.new.self.items in
    let fs = c.args.changes.now.items in
    let change = c.in-Some.change in
    let i = c.len.result in
    let old = l.changes.ok.0 in
    let later = c.pop.new.self.ok.0 in
    let fewer = c.in-Some.ensures.cases in
    let bound = l.invariant.few in
    let last : i ≡ length gs = omega (arith, c.len.ensures, later) in
    let left : (k : ℕ) → k < length hs → slice_get hs k ≡ slice_get fs k = λ k below. l.invariant.left k (omega (arith, below, old)) in
    let still : (k : ℕ) → k < length hs → slice_get xs k ≡ slice_get zs k = λ k below. l.invariant.still k (omega (arith, below, old)) in
    record {
      len = c.put.ensures.len ∙ l.invariant.len;
      few = omega (arith, fewer, bound);
      left = λ k below. popped_left zs fs hs gs change xs ys i last c.in-Some.ensures.items left c.put.ensures.others k (omega (arith, below, later));
      still = λ k below. popped_still zs fs hs gs change xs ys i last c.in-Some.ensures.items left c.put.ensures.others still k (omega (arith, below, later));
      put = λ k far. popped_put zs fs hs gs change xs ys i last c.in-Some.ensures.items left c.put.ensures.others c.put.ensures.here still
          (λ j past. l.invariant.put j (omega (arith, past, old))) k (omega (arith, far, later));
      programs = λ p of changes. c.put.ensures.programs p (l.invariant.programs p of changes)
          (popped_of zs fs hs gs change xs ys i last c.in-Some.ensures.items left c.put.ensures.others p changes);
    }

pub returns-clause-contents : goal.returns-clause-contents
returns-clause-contents c = λ h. c.loop-change.invariant.put h (omega (arith, c.in_default.ensures.cases.0))
