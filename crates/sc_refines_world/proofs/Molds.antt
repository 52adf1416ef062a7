-- What a visible operation of flat code tells of the frames that it leaves.
use Rattle.std.proofs.Common.{◌≡◌, ◌⊎◌, inl, inr, ℕ, ◌+◌, ◌-◌, List, [], ◌∷◌, ◌++◌, Option, Some, None, map, length, refl, sym, ap, ◌∙◌, arith}
use Rattle.std.proofs.Math.Nat.{min-eq_left, min-le_right}
use Rattle.std.specs.Prelude.{min, replicate}
use Rattle.sc_model.specs.Values as model
use Rattle.sc_code.specs.declared.program.Image.{Image}
use Rattle.sc_code.specs.declared.program.RoutineCode.{RoutineCode}
use Rattle.sc_code.specs.Machine as flat
use Rattle.sc_code.specs.Machine.{Hop, Goes, Does, State}
use Rattle.sc_code.specs.Programs.{pool_of}
use Rattle.sc_region.specs.Calls.{next_place}
use Rattle.sc_region.specs.Classes.{routine_at}
use Rattle.sc_region.specs.Frames.{PlainFrame}
use Rattle.sc_acts.specs.Entering.{routine_in}
use Rattle.sc_acts.specs.Tables.{version_in}
use Rattle.sc_interp.specs.Values.{values_of}
use Rattle.sc_refines_world.specs.regions.RegionSteps.{number_among}

-- What the half that a store stands for doesn't tell of a frame: its routine, the place, how many `old`s have room, and the slots
-- after those of its names.
pub record Mold : Type 0 where
  pub routine : ℕ
  pub place : ℕ
  pub room : ℕ
  pub slots : List model.Value

-- at a place that a number can say
abbrev pub mold_at : (routine place room : ℕ) → List model.Value → Mold
mold_at routine place room slots = record { routine = routine; place = min place 18446744073709551615; room = room; slots = slots }

abbrev pub mold_of : PlainFrame → Mold
mold_of f = mold_at f.activation.routine f.activation.place f.activation.olds.room (values_of f.activation.slots)

abbrev pub molds_of : List PlainFrame → List Mold
molds_of fs = map mold_of fs

-- the next place is the one after, where a number can say that
pub next_mold : (n place r : ℕ) (slots : List model.Value) (rest : List Mold) → mold_at n (next_place place) r slots ∷ rest ≡ mold_at n (place + 1) r slots ∷ rest
next_mold n place r slots rest =
    ap (λ (i : ℕ). record { routine = n; place = i; room = r; slots = slots } ∷ rest) (min-eq_left (min-le_right (place + 1) 18446744073709551615))

-- ---- a routine that is entered

-- none, where there is no code
abbrev pub coded_mold : ℕ → Option RoutineCode → List model.Value → List Mold → List Mold
coded_mold q None us ms = []
coded_mold q (Some r) us ms = mold_at q 0 r.olds (us ++ replicate (r.slots - r.formals) model.Void) ∷ ms

abbrev pub entry_mold : Image → Option ℕ → List model.Value → List Mold → List Mold
entry_mold p None us ms = []
entry_mold p (Some q) us ms = coded_mold q (routine_at p q) us ms

-- ---- what an operation tells

-- There are no frames, or these.
abbrev pub OneOf : List Mold → List Mold → Type 0
OneOf ns ms = (ms ≡ []) ⊎ (ms ≡ ns)

-- The topmost frame has this routine, and so much room; the others are the rest.
module _ (p : Image) (n r : ℕ) (rest : List Mold) where
  abbrev pub top_mold : ℕ → List model.Value → List Mold
  top_mold place slots = mold_at n place r slots ∷ rest

  abbrev pub Tells : flat.Act → State → List Mold → Type 0
  Tells (flat.Prints text) g ms = OneOf (top_mold g.place g.slots) ms
  Tells flat.Until g ms = OneOf (top_mold g.place g.slots) ms
  Tells flat.Creates g ms = OneOf (top_mold g.place g.slots) ms
  Tells (flat.CreatesHandler class procedure us passes) g ms = OneOf (top_mold g.place g.slots) ms
  Tells (flat.Enters calling me x us gives) g ms =
      OneOf (entry_mold p (routine_in (version_in p me.class (number_among x (pool_of p.pool).names))) us (top_mold g.place g.slots)) ms
  Tells (flat.Requests me x us gives passes) g ms = OneOf (top_mold g.place g.slots) ms
  Tells flat.Starts g ms = OneOf (top_mold g.place g.slots) ms
  Tells (flat.Refuses ks) g ms = (ms ≡ []) ⊎ ((ms ≡ top_mold 0 g.slots) ⊎ (ms ≡ rest))
  Tells (flat.Opens first count) g ms = OneOf (top_mold g.place g.slots) ms
  Tells flat.Leaves g ms = OneOf (top_mold g.place g.slots) ms
  Tells flat.Exits g ms = OneOf rest ms
  Tells (flat.Fails why) g ms = OneOf (top_mold (g.place + 1) g.slots) ms

  abbrev pub Told : Hop → List Mold → Type 0
  Told (Goes g) ms = ⊥
  Told (Does a g) ms = Tells a g ms

  -- ---- it tells one thing

  empty : (ms : List Mold) → length ms ≡ 0 → ms ≡ []
  empty [] e = refl
  empty (m ∷ ms) e = absurd (omega (arith, e))

  one_same : (ns ms ks : List Mold) → length ms ≡ length ks → OneOf ns ms → OneOf ns ks → ms ≡ ks
  one_same ns ms ks e (inl a) (inl b) = a ∙ sym b
  one_same ns ms ks e (inl a) (inr b) = a ∙ sym (empty ks (sym e ∙ ap length a))
  one_same ns ms ks e (inr a) (inl b) = empty ms (e ∙ ap length b) ∙ sym b
  one_same ns ms ks e (inr a) (inr b) = a ∙ sym b

  apart : {A : Type 0} (t : Mold) (ms ks : List Mold) → length ms ≡ length ks → ms ≡ t ∷ rest → ks ≡ rest → A
  apart t ms ks e a b = let longer = sym (ap length a) ∙ e ∙ ap length b in absurd (omega (arith, longer))

  one_of_two : (t : Mold) (ms ks : List Mold) → length ms ≡ length ks → (ms ≡ []) ⊎ ((ms ≡ t ∷ rest) ⊎ (ms ≡ rest)) → (ks ≡ []) ⊎ ((ks ≡ t ∷ rest) ⊎ (ks ≡ rest)) → ms ≡ ks
  one_of_two t ms ks e (inl a) (inl b) = a ∙ sym b
  one_of_two t ms ks e (inl a) (inr b) = a ∙ sym (empty ks (sym e ∙ ap length a))
  one_of_two t ms ks e (inr a) (inl b) = empty ms (e ∙ ap length b) ∙ sym b
  one_of_two t ms ks e (inr (inl a)) (inr (inl b)) = a ∙ sym b
  one_of_two t ms ks e (inr (inl a)) (inr (inr b)) = apart t ms ks e a b
  one_of_two t ms ks e (inr (inr a)) (inr (inl b)) = apart t ks ms (sym e) b a
  one_of_two t ms ks e (inr (inr a)) (inr (inr b)) = a ∙ sym b

  tells_same : (a : flat.Act) (g : State) (ms ks : List Mold) → length ms ≡ length ks → Tells a g ms → Tells a g ks → ms ≡ ks
  tells_same (flat.Prints text) g ms ks e l m = one_same _ ms ks e l m
  tells_same flat.Until g ms ks e l m = one_same _ ms ks e l m
  tells_same flat.Creates g ms ks e l m = one_same _ ms ks e l m
  tells_same (flat.CreatesHandler class procedure us passes) g ms ks e l m = one_same _ ms ks e l m
  tells_same (flat.Enters calling me x us gives) g ms ks e l m = one_same _ ms ks e l m
  tells_same (flat.Requests me x us gives passes) g ms ks e l m = one_same _ ms ks e l m
  tells_same flat.Starts g ms ks e l m = one_same _ ms ks e l m
  tells_same (flat.Refuses xs) g ms ks e l m = one_of_two _ ms ks e l m
  tells_same (flat.Opens first count) g ms ks e l m = one_same _ ms ks e l m
  tells_same flat.Leaves g ms ks e l m = one_same _ ms ks e l m
  tells_same flat.Exits g ms ks e l m = one_same _ ms ks e l m
  tells_same (flat.Fails why) g ms ks e l m = one_same _ ms ks e l m

  pub told_same : (x : Hop) (ms ks : List Mold) → length ms ≡ length ks → Told x ms → Told x ks → ms ≡ ks
  told_same (Goes g) ms ks e l m = absurd l
  told_same (Does a g) ms ks e l m = tells_same a g ms ks e l m

  -- ---- there may be no frames

  tells_none : (a : flat.Act) (g : State) → Tells a g []
  tells_none (flat.Prints text) g = inl refl
  tells_none flat.Until g = inl refl
  tells_none flat.Creates g = inl refl
  tells_none (flat.CreatesHandler class procedure us passes) g = inl refl
  tells_none (flat.Enters calling me x us gives) g = inl refl
  tells_none (flat.Requests me x us gives passes) g = inl refl
  tells_none flat.Starts g = inl refl
  tells_none (flat.Refuses xs) g = inl refl
  tells_none (flat.Opens first count) g = inl refl
  tells_none flat.Leaves g = inl refl
  tells_none flat.Exits g = inl refl
  tells_none (flat.Fails why) g = inl refl

  pub told_none : (x : Hop) → ((k : State) → x ≡ Goes k → ⊥) → Told x []
  told_none (Goes g) shows = shows g refl
  told_none (Does a g) shows = tells_none a g
