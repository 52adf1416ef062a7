-- A region's log keeps replaying to it.
use Rattle.std.proofs.Common.{◌≡◌, ℕ, List, [], ◌∷◌, ◌++◌, sym, ap, subst}
use Rattle.std.proofs.Math.Logic.{∥∥₁_map}
use Rattle.sc_code.specs.declared.program.Image.{Image}
use Rattle.sc_region.specs.declared.job.Job.{Job}
use Rattle.sc_region.specs.declared.job.Outcome.{Outcome}
use Rattle.sc_handler.specs.declared.settlement.Settlement.{Settlement}
use Rattle.sc_play.specs.Regions.{IsRefused, PlainRegion, Plays, new_region}
use Rattle.sc_worklog.specs.Replaying.{Replays, entry_of, opened, played, refused}

-- the entries replay to the region, as the type keeps it
abbrev pub Kept : List Settlement → PlainRegion → Type 0
Kept es x = ∥ Replays x.store.program x.handler es x ∥₁

pub opened_kept : (p : Image) (h : ℕ) (es : List Settlement) (x : PlainRegion) →
    es ≡ [] → x ≡ new_region p h → Kept es x
opened_kept p h es x none new =
    let start : Replays p h [] (new_region p h) = opened in
    subst (λ (fs : List Settlement). Kept fs x) (sym none) (subst (λ (y : PlainRegion). Kept [] y) (sym new) (∣ start ∣₁))

-- the same entries and the same region
pub same_kept : (es fs : List Settlement) (x : PlainRegion) → fs ≡ es → Kept es x → Kept fs x
same_kept es fs x same kept = subst (λ (gs : List Settlement). Kept gs x) (sym same) kept

-- the region is the same handler's, for the same program
moved_kept : (es : List Settlement) (x y : PlainRegion) → y.handler ≡ x.handler → y.store.program ≡ x.store.program →
    ∥ Replays x.store.program x.handler es y ∥₁ → Kept es y
moved_kept es x y handler program kept =
    subst (λ (p : Image). ∥ Replays p y.handler es y ∥₁) (sym program) (subst (λ (h : ℕ). ∥ Replays x.store.program h es y ∥₁) (sym handler) kept)

pub played_kept : (limit : ℕ) (j : Job) (o : Outcome) (es fs : List Settlement) (x y : PlainRegion) →
    Plays limit j x y o → fs ≡ es ++ entry_of j o ∷ [] → Kept es x → Kept fs y
played_kept limit j o es fs x y plays one_more kept =
    same_kept (es ++ entry_of j o ∷ []) fs y one_more
    (moved_kept (es ++ entry_of j o ∷ []) x y (ap (λ (z : PlainRegion). z.handler) plays.same) plays.program
    (∥∥₁_map kept (λ (before : Replays x.store.program x.handler es x). played before plays)))

pub refused_kept : (j : Job) (es fs : List Settlement) (x y : PlainRegion) → IsRefused j x y → fs ≡ es → Kept es x → Kept fs y
refused_kept j es fs x y is same kept =
    same_kept es fs y same
    (moved_kept es x y (ap (λ (z : PlainRegion). z.handler) is.same) is.program
    (∥∥₁_map kept (λ (before : Replays x.store.program x.handler es x). refused before is)))
