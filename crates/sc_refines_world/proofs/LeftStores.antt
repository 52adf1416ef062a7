-- What is left of a store, told by its program, its objects and the molds of its frames.
use Rattle.std.proofs.Common.{◌≡◌, inl, inr, ℕ, zero, suc, ◌-◌, Bool, true, false, List, [], ◌∷◌, ◌++◌, Option, Some, None, length, refl, sym, ap, ◌∙◌, subst}
use Rattle.std.specs.Prelude.{◌&&◌, ◌==◌, nat_lt, replicate, slice_set, if◌then◌else◌}
use Rattle.sc_model.specs.Values as model
use Rattle.sc_model.specs.declared.cause.Cause.{Cause}
use Rattle.sc_code.specs.declared.program.Image.{Image}
use Rattle.sc_code.specs.declared.program.RoutineCode.{RoutineCode}
use Rattle.sc_code.specs.Machine as flat
use Rattle.sc_region.specs.declared.frame.Origin.{Origin}
use Rattle.sc_region.specs.declared.frame.Stage.{Stage}
use Rattle.sc_region.specs.declared.frame.Stage.TheVariants as stage
use Rattle.sc_region.specs.declared.value.Reference.{Reference}
use Rattle.sc_region.specs.declared.value.Value.{Value}
use Rattle.sc_region.specs.declared.value.Value.TheVariants.{Void}
use Rattle.sc_region.specs.Calls.{on_top, taken, top_frame}
use Rattle.sc_region.specs.Classes.{object_breaks, routine_at}
use Rattle.sc_region.specs.Frames.{PlainActivation, PlainFrame}
use Rattle.sc_region.specs.Objects.{PlainObject, object_numbered}
use Rattle.sc_region.specs.Stores as store
use Rattle.sc_region.specs.Stores.{PlainStore, entered, entered_at, failed, is_settled, max_frames, settled}
use Rattle.sc_acts.specs.Entering.{entered_if}
use Rattle.sc_acts.specs.Exiting.{handed, handed_as, handed_at}
use Rattle.sc_interp.specs.Standing as standing
use Rattle.sc_interp.specs.Values.{value_of, values_of}
use Rattle.sc_acts.specs.Blocks as blocks
use Rattle.sc_refines_world.proofs.Exact.{Grown}
use Rattle.sc_refines_world.proofs.Molds.{Mold, OneOf, coded_mold, entry_mold, mold_at, mold_of, molds_of}

-- ---- what is left

-- The store is of this program and has these objects, or a new one more; so much is told of its frames.
pub record Left (p : Image) (os : List PlainObject) (T : List Mold → Type 0) (z : PlainStore) : Type 0 where
  pub grown : Grown p os z
  pub tells : T (molds_of z.frames)

pub still : (p : Image) (os : List PlainObject) (z : PlainStore) → z.program ≡ p → z.objects ≡ os → Grown p os z
still p os z e d = record { program = e; objects = inl d }

-- ---- values

replicated : (n : ℕ) → values_of (replicate n Void) ≡ replicate n model.Void
replicated zero = refl
replicated (suc n) = ap (λ vs. model.Void ∷ vs) (replicated n)

joined : (us vs : List Value) → values_of (us ++ vs) ≡ values_of us ++ values_of vs
joined [] vs = refl
joined (u ∷ us) vs = ap (λ ws. value_of u ∷ ws) (joined us vs)

values_set : (vs : List Value) (k : ℕ) (v : Value) → values_of (slice_set vs k v) ≡ slice_set (values_of vs) k (value_of v)
values_set [] k v = refl
values_set (u ∷ us) zero v = refl
values_set (u ∷ us) (suc k) v = ap (λ ws. value_of u ∷ ws) (values_set us k v)

pub values_written : (k : ℕ) (us vs : List Value) → values_of (blocks.written k us vs) ≡ flat.written k (values_of us) (values_of vs)
values_written k [] vs = refl
values_written k (u ∷ us) vs = values_written (suc k) us (slice_set vs k u) ∙ ap (flat.written (suc k) (values_of us)) (values_set vs k u)

pub values_taken : (n : ℕ) (us vs : List Value) → values_of (taken n us vs) ≡ standing.taken n (values_of us) (values_of vs)
values_taken zero us vs = refl
values_taken (suc n) us [] = refl
values_taken (suc n) us (v ∷ vs) = values_taken n (v ∷ us) vs

module _ (p : Image) (os : List PlainObject) where
  pub either : (T : List Mold → Type 0) (b : Bool) (x y : PlainStore) → Left p os T x → Left p os T y → Left p os T (if b then x else y)
  either T true x y l r = l
  either T false x y l r = r

  pub weaken : (T S : List Mold → Type 0) (z : PlainStore) → ((ms : List Mold) → T ms → S ms) → Left p os T z → Left p os S z
  weaken T S z to l = record { grown = l.grown; tells = to (molds_of z.frames) l.tells }

  fallen : (T : List Mold → Type 0) (why : Cause) (x : PlainStore) → Grown p os x → T [] → Left p os T (failed why x)
  fallen T why x g t = record { grown = record { program = g.program; objects = g.objects }; tells = t }

  pub fallen_one : (ns : List Mold) (why : Cause) (x : PlainStore) → Grown p os x → Left p os (OneOf ns) (failed why x)
  fallen_one ns why x g = fallen (OneOf ns) why x g (inl refl)

  pub settled_one : (ns : List Mold) (number : ℕ) (x : PlainStore) → Left p os (OneOf ns) x → Left p os (OneOf ns) (settled number x)
  settled_one ns number x l = either (OneOf ns) (is_settled number x && object_breaks x.program (object_numbered number x.objects)) _ x (fallen_one ns _ x l.grown) l

  -- ---- routines that are entered

  begun_mold : (q : ℕ) (r : RoutineCode) (us : List Value) (ms : List Mold) →
      mold_at q 0 r.olds (values_of (us ++ replicate (r.slots - r.formals) Void)) ∷ ms ≡ mold_at q 0 r.olds (values_of us ++ replicate (r.slots - r.formals) model.Void) ∷ ms
  begun_mold q r us ms =
      ap (λ vs. mold_at q 0 r.olds vs ∷ ms) (joined us (replicate (r.slots - r.formals) Void) ∙ ap (λ vs. values_of us ++ vs) (replicated (r.slots - r.formals)))

  pub entered_one : (me : Reference) (q : ℕ) (o : Origin) (us : List Value) (x : PlainStore) → Grown p os x →
      Left p os (OneOf (coded_mold q (routine_at x.program q) (values_of us) (molds_of x.frames))) (entered me q o us x)
  entered_one me q o us x g = by (routine_at x.program q)
    where
      by : (c : Option RoutineCode) → Left p os (OneOf (coded_mold q c (values_of us) (molds_of x.frames))) (entered_at (length x.frames) me q c o us x)
      by None = fallen_one _ _ x g
      by (Some r) =
          let ns = coded_mold q (Some r) (values_of us) (molds_of x.frames) in
          let on : PlainStore = record x { frames = store.entry me q r o us ∷ x.frames } in
          let here : Left p os (OneOf ns) on = record { grown = record { program = g.program; objects = g.objects }; tells = inr (begun_mold q r us (molds_of x.frames)) } in
          either (OneOf ns) (length us == r.formals) _ _ (either (OneOf ns) (nat_lt (length x.frames) max_frames) on _ here (fallen_one ns _ x g)) (fallen_one ns _ x g)

  pub entered_if_one : (q : Option ℕ) (me : Reference) (o : Origin) (us : List Value) (x : PlainStore) → Grown p os x →
      Left p os (OneOf (entry_mold x.program q (values_of us) (molds_of x.frames))) (entered_if q me o us x)
  entered_if_one None me o us x g = fallen_one [] _ x g
  entered_if_one (Some q) me o us x g = entered_one me q o us x g

  -- ---- routines that end

  handed_mold : (v : Option Value) (f : PlainFrame) → mold_of (record f { activation = handed v f.activation }) ≡ mold_of f
  handed_mold v f = by f.activation.stage
    where
      by_room : (u : Value) (a : PlainActivation) (b : Bool) →
          mold_of (record f { activation = if b then record a { operands = record a.operands { values = u ∷ a.operands.values } } else a }) ≡ mold_of (record f { activation = a })
      by_room u a true = refl
      by_room u a false = refl

      by_value : (gives : Bool) (o : Option Value) (a : PlainActivation) → mold_of (record f { activation = handed_as gives o a }) ≡ mold_of (record f { activation = a })
      by_value true (Some u) a = by_room u a (nat_lt (length a.operands.values) a.operands.depth)
      by_value true None a = refl
      by_value false o a = refl

      by : (s : Stage) → mold_of (record f { activation = handed_at s v f.activation }) ≡ mold_of f
      by (stage.InCall gives) = by_value gives v (record f.activation { stage = stage.Runs })
      by stage.Runs = refl
      by stage.Reserves = refl
      by stage.ReservesBlock = refl
      by (stage.Awaits k gives is_creation) = refl

  handed_molds : (v : Option Value) (fs : List PlainFrame) → molds_of (top_frame (handed v) fs) ≡ molds_of fs
  handed_molds v [] = refl
  handed_molds v (f ∷ below) = ap (λ m. m ∷ molds_of below) (handed_mold v f)

  pub handed_one : (ns : List Mold) (v : Option Value) (x : PlainStore) → Left p os (OneOf ns) x → Left p os (OneOf ns) (on_top (handed v) x)
  handed_one ns v x l = record { grown = record { program = l.grown.program; objects = l.grown.objects }; tells = subst (OneOf ns) (sym (handed_molds v x.frames)) l.tells }
