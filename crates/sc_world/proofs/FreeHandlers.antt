-- Turns keep that each handler serves in the core what its region serves, and what follows of handlers that are free.
use Rattle.std.proofs.Common.{Bor, option_copied, ◌≡◌, inl, inr, ◌&&◌, not, ℕ, zero, suc, Bool, true, List, [], ◌∷◌, Option, Some, None, Result, Ok, Err, IfOk, OnErr, is_none, length, slice_get, slice_set, take, refl, sym, ap, subst, ◌∙◌}
use Rattle.std.proofs.lemmas.Option.{slice_get_past, slice_get_read}
use Rattle.std.specs.Slice.{IsGetResult}
use Rattle.sc_lockpass.specs.declared.version.Version.{Version}
use Rattle.sc_lockpass.specs.Versions.{most_handlers}
use Rattle.sc_model.specs.declared.cause.Cause.{Cause}
use Rattle.sc_code.specs.declared.program.Image.{Image}
use Rattle.sc_region.specs.declared.job.Job.{Job}
use Rattle.sc_region.specs.Classes.{MeetsInvariant}
use Rattle.sc_region.specs.Frames.{PlainFrame, is_current}
use Rattle.sc_region.specs.Objects.{object_numbered}
use Rattle.sc_region.specs.Stores.{SettledObjectsMeet, is_settled, new_store}
use Rattle.sc_request.specs.Logs.{Center, first_from, first_with_job, next, pick_for, picked, put_back, round, settles}
use Rattle.sc_play.specs.Regions.{PlainRegion, new_region}
use Rattle.sc_world.specs.Requests.Links.{AreLinked}
use Rattle.sc_world.proofs.Links as linking
use Rattle.sc_world.proofs.Links.{free_regions_rest, refused_turns_stay_linked, turns_stay_linked}
use Rattle.sc_world.specs.Free.{FreeObjectsMeet, IsLinked, OpeningsAreLinked, RunsStayLinked, StoppedRunsStayLinked}
use Rattle.sc_world.specs.UnderJob.{Played}
use Rattle.sc_world.specs.Turning.{HeldUpUnder, IsHeldUp, IsRefusedTurn, IsTurn, Makes, PutsBack, Settles, TurnsUnder}
use Rattle.sc_world.specs.Worlds.{PlainWorld, max_handlers, new_regions, opened}

-- ---- the opening

each_new : (p : Image) (h n k : ℕ) (x : PlainRegion) → slice_get (new_regions p h n) k ≡ Some x → x.store ≡ new_store p
unfolding new_regions
each_new p h zero k x e = cc
each_new p h (suc n) zero x e = some_new e
  where
    some_new : Some (new_region p h) ≡ Some x → x.store ≡ new_store p
    some_new e = cc
each_new p h (suc n) (suc k) x e = each_new p (suc h) n k x e

pub openings_are_linked : OpeningsAreLinked
openings_are_linked p v =
    linking.openings_are_linked p (most_handlers v) p.root_class p.root_procedure (new_regions p 0 max_handlers)
    (λ h x e. each_new p 0 max_handlers h x e)

-- ---- one turn

linked_as : (c d : Center) (rs ss : List PlainRegion) → d ≡ c → ss ≡ rs → AreLinked c rs → AreLinked d ss
linked_as c d rs ss e f linked =
    subst (λ (b : Center). AreLinked b ss) (sym e) (subst (λ (ts : List PlainRegion). AreLinked c ts) (sym f) linked)

pub makes_linked : (limit h : ℕ) (j : Job) (turns : ℕ) (x y : PlainWorld) → IsLinked x → pick_for h x.center ≡ Some j → Makes limit h j turns x y → IsLinked y
makes_linked limit h j turns x y linked picks m =
    let o = m.settles.outcome in
    let c : Center = picked h j x.center in
    linked_as (settles x.most h j o.turns o.want c) y.center (slice_set x.regions h m.after) y.regions
    (m.settles.center ∙ ap (λ (n : ℕ). settles x.most h j n o.want c) (sym m.settles.count)) m.regions
    (turns_stay_linked limit x.most h j x.center x.regions m.before m.after o linked picks m.stands m.settles.plays)

pub held_up_linked : (h : ℕ) (j : Job) (x y : PlainWorld) → IsLinked x → IsHeldUp h j x y → IsLinked y
held_up_linked h j x y linked held =
    linked_as (put_back h (picked h j x.center)) y.center (slice_set x.regions h held.after) y.regions held.put_back.center held.regions
    (refused_turns_stay_linked h j x.center x.regions held.before held.after linked held.stands held.put_back.refused)

same_linked : (x y : PlainWorld) → y ≡ x → IsLinked x → IsLinked y
same_linked x y e linked = subst IsLinked (sym e) linked

under_linked : (h : ℕ) (o : Option Job) (x y : PlainWorld) → pick_for h x.center ≡ o → IsLinked x → TurnsUnder h o x y → IsLinked y
under_linked h None x y is linked same = same_linked x y same linked
under_linked h (Some j) x y is linked makes = makes_linked 1 h j 1 x y linked is makes

pub turn_linked : (h : ℕ) (x y : PlainWorld) → IsLinked x → IsTurn h x y → IsLinked y
turn_linked h x y linked turn = under_linked h (pick_for h x.center) x y refl linked turn

held_under_linked : (h : ℕ) (o : Option Job) (x y : PlainWorld) → IsLinked x → HeldUpUnder h o x y → IsLinked y
held_under_linked h None x y linked same = same_linked x y same linked
held_under_linked h (Some j) x y linked held = held_up_linked h j x y linked held

pub refused_turn_linked : (h : ℕ) (x y : PlainWorld) → IsLinked x → IsRefusedTurn h x y → IsLinked y
refused_turn_linked h x y linked (inl same) = same_linked x y same linked
refused_turn_linked h x y linked (inr held) = held_under_linked h (pick_for h x.center) x y linked held

-- ---- turns one after the other

pub runs_stay_linked : RunsStayLinked
runs_stay_linked [] x y linked same = same_linked x y same linked
runs_stay_linked (h ∷ hs) x y linked runs = runs_stay_linked hs runs.0 y (turn_linked h x runs.0 linked runs.1) runs.2

pub stopped_runs_stay_linked : StoppedRunsStayLinked
stopped_runs_stay_linked n hs x y linked stops =
    refused_turn_linked stops.next stops.before y (runs_stay_linked (take n hs) x stops.before linked stops.runs) stops.refused

-- ---- who is next

same_pair : (p q : ℕ × Job) → Some p ≡ Some q → p ≡ q
same_pair p q e = cc

first_picks : (h : ℕ) (o : Option Job) (c : Center) (rest : Option (ℕ × Job)) (p : ℕ × Job) → pick_for h c ≡ o → (rest ≡ Some p → pick_for p.0 c ≡ Some p.1) →
    first_from h o rest ≡ Some p → pick_for p.0 c ≡ Some p.1
first_picks h (Some j) c rest p is later e = subst (λ (q : ℕ × Job). pick_for q.0 c ≡ Some q.1) (same_pair (h, j) p e) is
first_picks h None c rest p is later e = later e

found_picks : (hs : List ℕ) (c : Center) (p : ℕ × Job) → first_with_job hs c ≡ Some p → pick_for p.0 c ≡ Some p.1
found_picks [] c p e = cc
found_picks (h ∷ hs) c p e = first_picks h (pick_for h c) c (first_with_job hs c) p refl (found_picks hs c p) e

pub next_picks : (h : ℕ) (j : Job) (c : Center) → next c ≡ Some (h, j) → pick_for h c ≡ Some j
next_picks h j c e = found_picks (round c.state.count c.last) c (h, j) e

-- ---- handlers that are free

-- where the settled objects of a region meet their invariants, all objects of a handler that is free do
pub free_meet : (h : ℕ) (w : PlainWorld) (r : PlainRegion) → IsLinked w → slice_get w.regions h ≡ Some r → SettledObjectsMeet r.store → FreeObjectsMeet h w
free_meet h w r linked stands meet number x o free there found =
    let rest = free_regions_rest h w.center w.regions r linked free stands in
    let settled : is_settled number r.store ≡ true =
    ap (λ (f : Option Cause). is_none f && not (is_current number r.store.frames)) rest.1 ∙ ap (λ (fs : List PlainFrame). not (is_current number fs)) rest.0 in
    let same : x ≡ r = some_same x r (sym there ∙ stands) in
    subst (λ (z : PlainRegion). MeetsInvariant z.store.program o) (sym same)
    (meet number o settled (ap (λ (z : PlainRegion). object_numbered number z.store.objects) (sym same) ∙ found))
  where
    some_same : (x y : PlainRegion) → Some x ≡ Some y → x ≡ y
    some_same x y e = cc

-- ---- what a world in memory has

-- a world whose core is of this center
pub linked_still : (c d : Center) (rs : List PlainRegion) → d ≡ c → AreLinked c rs → AreLinked d rs
linked_still c d rs e linked = linked_as c d rs rs e refl linked

settled_linked : (limit h : ℕ) (j : Job) (turns most : ℕ) (c b d : Center) (rs : List PlainRegion) (x y : PlainRegion) → AreLinked c rs → pick_for h c ≡ Some j →
    slice_get rs h ≡ Some x → b ≡ picked h j c → Settles limit h j turns most b d x y → AreLinked d (slice_set rs h y)
settled_linked limit h j turns most c b d rs x y linked picks stands out s =
    let o = s.outcome in
    linked_still (settles most h j o.turns o.want (picked h j c)) d (slice_set rs h y)
    (s.center ∙ ap (λ (n : ℕ). settles most h j n o.want b) (sym s.count) ∙ ap (λ (a : Center). settles most h j o.turns o.want a) out)
    (turns_stay_linked limit most h j c rs x y o linked picks stands s.plays)

-- the handler that was picked has played and is settled, or memory was refused to it
pub played_linked : {E : Type 0} (limit h : ℕ) (j : Job) (most : ℕ) (c b d : Center) (rs : List PlainRegion) (x y : PlainRegion) (r : Result (ℕ × Bool) E) →
    AreLinked c rs → pick_for h c ≡ Some j → slice_get rs h ≡ Some x → b ≡ picked h j c → IfOk r (λ p. Played limit h j p.0 most b d x y p.1) →
    OnErr r (PutsBack h j b d x y) → AreLinked d (slice_set rs h y)
played_linked limit h j most c b d rs x y (Ok p) linked picks stands out played back =
    settled_linked limit h j p.0 most c b d rs x y linked picks stands out played.settles
played_linked limit h j most c b d rs x y (Err e) linked picks stands out played back =
    linked_still (put_back h (picked h j c)) d (slice_set rs h y) (back.center ∙ ap (put_back h) out)
    (refused_turns_stay_linked h j c rs x y linked stands back.refused)

pub opened_linked : (p : Image) (v : Version) (c : Center) (rs : List PlainRegion) → c ≡ (opened p v).center → rs ≡ new_regions p 0 max_handlers → AreLinked c rs
opened_linked p v c rs e f = linked_as (opened p v).center c (new_regions p 0 max_handlers) rs e f (openings_are_linked p v)

-- the region that a call got, if it got one
region_got : (rs : List PlainRegion) (i : ℕ) (o : Option (Bor PlainRegion)) → IsGetResult rs i i o → option_copied o ≡ slice_get rs i
region_got rs i None g = sym (slice_get_past rs i g.3)
region_got rs i (Some x) g = sym (slice_get_read rs (length rs) i x.now refl g.3.0 g.1)

pub got_region : (rs ss : List PlainRegion) (i : ℕ) (o : Option (Bor PlainRegion)) (x : Bor PlainRegion) → IsGetResult rs i i o → o ≡ Some x → rs ≡ ss →
    slice_get ss i ≡ Some x.now
got_region rs ss i o x g e same = ap (λ (ts : List PlainRegion). slice_get ts i) (sym same) ∙ sym (region_got rs i o g) ∙ ap option_copied e
