-- What silent operations come to is what silent steps come to.
use Rattle.std.proofs.Common.{◌≡◌, ℕ, zero, suc, List, [], ◌∷◌, Some, drop, refl, sym, ap, ◌∙◌, subst}
use Rattle.std.specs.Option.{option_map}
use Rattle.sc_tree.specs.Plain.{System}
use Rattle.sc_rules.specs.Laws.{AllDeclared}
use Rattle.sc_rules.specs.SystemRules.{WellFormed}
use Rattle.sc_rules.proofs.PurityStands.{purity_stands}
use Rattle.sc_rules.proofs.TypeLaws.{declared}
use Rattle.sc_model.specs.Values as model
use Rattle.sc_model.specs.Laws.{IsVisible as IsVisibleStep}
use Rattle.sc_model.specs.Moves.{first_visible, moves, step, then_go}
use Rattle.sc_model.specs.Objects.{Object}
use Rattle.sc_model.specs.Sizes.{size}
use Rattle.sc_model.specs.Steps.{Act, Point, Step, Goes, Does}
use Rattle.sc_model.proofs.Silent.{moves_visible}
use Rattle.sc_model.specs.Handlers.{Stage, Runs, Reserves, ReservesBlock, InCall, Awaits, Frame, point_of}
use Rattle.sc_code.specs.Lowered.{run_of}
use Rattle.sc_code.specs.Machine as flat
use Rattle.sc_code.specs.Stands.{Follows, Leads, Run, Seen, Stands, state_at}
use Rattle.sc_code.proofs.Steps.{step_follows}
use Rattle.sc_code.proofs.Hops.{hops_on}
use Rattle.sc_region.specs.declared.frame.Stage.TheVariants as stage
use Rattle.sc_region.specs.Frames.{PlainActivation, PlainFrame, frame_with, top_activation, top_current}
use Rattle.sc_region.specs.Stores.{PlainStore}
use Rattle.sc_interp.specs.declared.hops.Hop.{Hop}
use Rattle.sc_interp.specs.Hopping.{Runs as RunsIn, state_in}
use Rattle.sc_refines_world.specs.regions.Laws.{ProgramsServe}
use Rattle.sc_refines_world.specs.regions.RegionHalves.{IsRegionOf, AreFrames, IsFrame, StandsIn, stage_of}
use Rattle.sc_refines_world.specs.regions.RegionSteps.{IsProgramFor}
use Rattle.sc_refines_world.specs.regions.RegionTurns.{Half}
use Rattle.sc_interp.specs.Standing.{hopped, state_of}
use Rattle.sc_interp.specs.Values.{reference_of}
use Rattle.sc_acts.proofs.Options.{none_some, some_same}
use Rattle.sc_refines_world.specs.regions.Acting.{Comes, Meets, SilentOperationsFollow}
use Rattle.sc_refines_world.proofs.regions.ProgramRoutines.{code_at, operations_are}
use Rattle.sc_refines_world.proofs.regions.Unique.{one_visible, hop_shown}

pub all_declared : (s : System) → WellFormed s → AllDeclared s
all_declared s well = let purity = purity_stands s in declared s purity.0 purity.1 well

-- a routine that goes on in memory goes on
runs_on : (f : Stage) → stage_of f ≡ stage.Runs → f ≡ Runs
runs_on Runs e = refl
runs_on Reserves e = cc
runs_on ReservesBlock e = cc
runs_on (InCall gives) e = cc
runs_on (Awaits k gives is_creation) e = cc

-- ---- steps

does_step : (a b : Act) (p q : Point) → Does a p ≡ Does b q → a ≡ b
does_step a b p q e = cc

does_point : (a b : Act) (p q : Point) → Does a p ≡ Does b q → p ≡ q
does_point a b p q e = cc

goes_does : {A : Type 0} (p q : Point) (a : Act) → Goes p ≡ Does a q → A
goes_does p q a e = cc

-- A visible step comes after some silent ones, and the operation that it is in flat code after silent operations from this state.
pub record Visible (g : Run) (me : model.Reference) (start : flat.State) (a : Act) (q : Point) : Type 0 where
  pub last : Point
  pub place : ℕ
  pub tail : List model.Value
  pub stands : Stands g place tail last
  pub silent : ℕ
  pub reaches : flat.hops silent g.system g.code me start ≡ flat.Goes (state_at place tail last)
  pub ends : step g.system me last ≡ Does a q
  pub count : ℕ
  pub at : ℕ
  pub shown : flat.Act
  pub state : flat.State
  pub hops : flat.hops count g.system g.code me start ≡ flat.Goes (state_at at tail last)
  pub hop : flat.hop g.system g.code me (state_at at tail last) ≡ flat.Does shown state
  pub seen : Seen last.environment q.environment a shown
  pub leads : Leads g a q state

module _ (g : Run) (me : model.Reference) (a : Act) (q : Point) where
  visible_here : (place : ℕ) (tail : List model.Value) (p : Point) (b : Act) (r : Point) → Stands g place tail p → step g.system me p ≡ Does b r → Does b r ≡ Does a q →
      Follows g me place tail p (Does b r) → Visible g me (state_at place tail p) a q
  visible_here place tail p b r st is e f =
      let acts = does_step b a r q e in
      let points = does_point b a r q e in
      record {
        last = p;
        place = place;
        tail = tail;
        stands = st;
        silent = 0;
        reaches = refl;
        ends = is ∙ e;
        count = f.0;
        at = f.1;
        shown = f.2;
        state = f.3;
        hops = f.4;
        hop = f.5;
        seen = subst (λ b. Seen p.environment q.environment b f.2) acts (subst (λ (r : Point). Seen p.environment r.environment b f.2) points f.6);
        leads = subst (λ b. Leads g b q f.3) acts (subst (λ r. Leads g b r f.3) points f.7);
      }

  visible_later : (place : ℕ) (tail : List model.Value) (p : Point) (n to : ℕ) (rest : List model.Value) (r : Point) →
      flat.hops n g.system g.code me (state_at place tail p) ≡ flat.Goes (state_at to rest r) → Visible g me (state_at to rest r) a q → Visible g me (state_at place tail p) a q
  visible_later place tail p n to rest r go v =
      let j = hops_on g me n (state_at place tail p) (state_at to rest r) (flat.Goes (state_at v.at v.tail v.last)) go v.count v.hops in
      let reached = hops_on g me n (state_at place tail p) (state_at to rest r) (flat.Goes (state_at v.place v.tail v.last)) go v.silent v.reaches in
      record {
        last = v.last;
        place = v.place;
        tail = v.tail;
        stands = v.stands;
        silent = reached.0;
        reaches = reached.1;
        ends = v.ends;
        count = j.0;
        at = v.at;
        shown = v.shown;
        state = v.state;
        hops = j.1;
        hop = v.hop;
        seen = v.seen;
        leads = v.leads;
      }

  visible_within : (n place : ℕ) (tail : List model.Value) (p : Point) → Stands g place tail p → first_visible n g.system me p ≡ Does a q → Visible g me (state_at place tail p) a q
  visible_within zero place tail p st e = goes_does p q a e
  visible_within (suc n) place tail p st e =
      elim (step g.system me p) as (λ x. step g.system me p ≡ x → Follows g me place tail p x → then_go x (first_visible n g.system me) ≡ Does a q → Visible g me (state_at place tail p) a q) [
        | Goes r ↦ λ is f e. visible_later place tail p f.0 f.1 f.2 r f.3 (visible_within n f.1 f.2 r f.4 e)
        | Does b r ↦ λ is f e. visible_here place tail p b r st is e f
      ] refl (step_follows g me tail place p st) e

-- ---- stores

-- the topmost frame of the store runs in the code of its routine
pub runs_in : (s : System) (os : List Object) (f : Frame) (g : PlainFrame) (gs : List PlainFrame) (y : PlainStore) → ProgramsServe → IsProgramFor s y.program →
    y.frames ≡ g ∷ gs → IsFrame s os f g → RunsIn y s (run_of s f.routine).code g.current g.activation
runs_in s os f g gs y serve is e r = record {
  serves = serve s is.root y.program is.faultless (all_declared s is.well_formed) is.program;
  current = ap top_current e;
  top = ap top_activation e;
  operations = operations_are s f.routine y.program g.activation.routine (code_at s is.root y.program g.activation.routine f.routine is.program r.routine);
  depth = r.depth;
}

module _ (serve : ProgramsServe) (s : System) (x : Half) (o : Hop) (y z : PlainStore) (is : IsProgramFor s y.program) (region : IsRegionOf s x y) (comes : Comes o y z) where
  -- by the step that the silent steps come to
  met_by : (f : Frame) (below : List Frame) (g : PlainFrame) (gs : List PlainFrame) (b : PlainActivation) → x.stack ≡ f ∷ below → f.stage ≡ Runs → y.frames ≡ g ∷ gs →
      (r : IsFrame s x.objects f g) → AreFrames s x.objects below gs → z.frames ≡ frame_with g.current b ∷ gs →
      Stands (run_of s f.routine) g.activation.place r.tail (point_of f x.objects) →
      (m : Step) → moves s (reference_of g.current) (point_of f x.objects) ≡ m → IsVisibleStep m → Meets s x o y z
  met_by f below g gs b ex runs ey r rs ez st (Goes q) e visible = absurd visible
  met_by f below g gs b ex runs ey r rs ez st (Does a q) e visible =
      let me : model.Reference = reference_of g.current in
      let code : flat.Code = (run_of s f.routine).code in
      let p : Point = point_of f x.objects in
      let v = visible_within (run_of s f.routine) me a q (suc (size p.tasks)) g.activation.place r.tail p st e in
      let begin = ap (λ os. state_of os g.activation) region.objects ∙ r.state in
      let c = comes.comes s code g.current g.activation b (runs_in s x.objects f g gs y serve is ey r) (ap top_activation ez) in
      record {
        frame = f;
        below = below;
        stack = ex;
        stage = runs;
        step = a;
        point = q;
        moves = ap (λ me. moves s me p) (sym r.current) ∙ e;
        current = g.current;
        before = g.activation;
        activation = b;
        rest = gs;
        was = ey;
        stood = r;
        frames = ez;
        others = rs;
        last = v.last;
        place = v.place;
        tail = v.tail;
        stands = v.stands;
        silent = v.silent;
        reaches = ap (λ f. flat.hops v.silent s code me f) begin ∙ v.reaches;
        ends = ap (λ me. step s me v.last) (sym r.current) ∙ v.ends;
        shown = v.shown;
        state = v.state;
        does = one_visible s code me (state_at v.at v.tail v.last) c.1 v.shown v.state (hopped y.program s code me o (state_in s z b)) v.hop c.3
            (hop_shown y.program s code me o (state_in s z b) c.4) v.count c.0 (state_in s y g.activation)
            (ap (λ f. flat.hops v.count s code me f) begin ∙ v.hops) c.2;
        seen = v.seen;
        leads = v.leads;
      }

  -- by how the second store stands
  met_on : (f : Frame) (below : List Frame) (g : PlainFrame) (gs : List PlainFrame) → x.stack ≡ f ∷ below → f.stage ≡ Runs → y.frames ≡ g ∷ gs →
      IsFrame s x.objects f g → AreFrames s x.objects below gs → (zs : List PlainFrame) → z.frames ≡ zs → Meets s x o y z
  met_on f below g gs ex runs ey r rs [] ez = none_some g.current (sym (ap top_current ez) ∙ comes.remains.current ∙ ap top_current ey)
  met_on f below g gs ex runs ey r rs (t ∷ ts) ez =
      let same : t.current ≡ g.current = some_same t.current g.current (sym (ap top_current ez) ∙ comes.remains.current ∙ ap top_current ey) in
      let under : ts ≡ gs = sym (ap (drop 1) ez) ∙ comes.remains.below ∙ ap (drop 1) ey in
      let stands : Stands (run_of s f.routine) g.activation.place r.tail (point_of f x.objects) =
      subst (λ st. StandsIn st (run_of s f.routine) g.activation.place r.tail (point_of f x.objects)) runs r.stands in
      met_by f below g gs t.activation ex runs ey r rs
      (ez ∙ ap (λ c. frame_with c t.activation ∷ ts) same ∙ ap (λ us. frame_with g.current t.activation ∷ us) under) stands
      (moves s (reference_of g.current) (point_of f x.objects)) refl (moves_visible s (reference_of g.current) (point_of f x.objects))

  by_frames : (fs : List Frame) (gs : List PlainFrame) → x.stack ≡ fs → y.frames ≡ gs → AreFrames s x.objects fs gs →
      option_map (λ (a : PlainActivation). a.stage) (top_activation gs) ≡ Some stage.Runs → Meets s x o y z
  by_frames [] [] ex ey r runs = none_some stage.Runs runs
  by_frames [] (g ∷ gs) ex ey r runs = absurd r
  by_frames (f ∷ fs) [] ex ey r runs = absurd r
  by_frames (f ∷ fs) (g ∷ gs) ex ey r runs =
      met_on f fs g gs ex (runs_on f.stage (sym r.0.stage ∙ some_same g.activation.stage stage.Runs runs)) ey r.0 r.1 z.frames refl

  pub meets : Meets s x o y z
  meets = by_frames x.stack y.frames refl refl region.frames comes.runs

pub silent_operations_follow : ProgramsServe → SilentOperationsFollow
silent_operations_follow serve s x o y z is region comes = meets serve s x o y z is region comes
