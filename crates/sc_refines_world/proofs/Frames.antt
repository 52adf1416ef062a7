-- Frames that stand for the same ones of a half, and of which the same is told beside, are the same.
use Rattle.std.proofs.Common.{◌≡◌, ◌<◌, ℕ, List, [], ◌∷◌, Option, Some, None, length, reverse, suc, refl, sym, ap, ◌∙◌, arith}
use Rattle.std.proofs.Math.Nat.{min-eq_left}
use Rattle.std.proofs.lemmas.List.{reverse-reverse}
use Rattle.std.specs.Prelude.{min}
use Rattle.sc_tree.specs.Plain.{System}
use Rattle.sc_rules.specs.declared.entity_types.entity_type.EntityType.{EntityType}
use Rattle.sc_model.specs.Objects.{Object}
use Rattle.sc_model.specs.Handlers.{Stage, Runs, Reserves, ReservesBlock, InCall, Awaits, Frame, point_of}
use Rattle.sc_model.specs.Steps.{Point}
use Rattle.sc_model.specs.Values as model
use Rattle.sc_code.specs.declared.program.Image.{Image}
use Rattle.sc_code.specs.Lowered.{run_of}
use Rattle.sc_code.specs.Machine.{State}
use Rattle.sc_code.specs.Stands.{Run, StandsWith}
use Rattle.sc_region.specs.declared.frame.Origin.{Origin}
use Rattle.sc_region.specs.declared.frame.Stage as code_stage
use Rattle.sc_region.specs.declared.value.Value.{Value}
use Rattle.sc_region.specs.Frames.{PlainActivation, PlainFrame}
use Rattle.sc_region.specs.OperandList.{OldList, OperandList}
use Rattle.sc_refines_world.specs.regions.RegionHalves.{AreFrames, IsFrame, StandsIn}
use Rattle.sc_refines_world.specs.regions.RegionSteps.{IsProgramFor}
use Rattle.sc_refines_world.proofs.regions.PassedOperations.{stands_within}
use Rattle.sc_refines_world.proofs.regions.ProgramRoutines.{code_at, few_operations}
use Rattle.sc_refines_world.proofs.Back.{option_same, reference_same, values_same}
use Rattle.sc_refines_world.proofs.Molds.{Mold, mold_of, molds_of}

-- ---- places

given_within : (t : Option EntityType) (g : Run) (place : ℕ) (tail : List model.Value) (p : Point) → StandsWith g place tail t p → place < length g.code.operations
given_within None g place tail p st = stands_within g place tail p st
given_within (Some t) g place tail p st = stands_within g place tail _ (st model.Void)

in_within : (st : Stage) (g : Run) (place : ℕ) (tail : List model.Value) (p : Point) → StandsIn st g place tail p → place < length g.code.operations
in_within Runs g place tail p st = stands_within g place tail p st
in_within Reserves g place tail p st = stands_within g place tail p st
in_within ReservesBlock g place tail p st = stands_within g place tail p st
in_within (InCall gives) g place tail p st = given_within gives g place tail p st
in_within (Awaits k gives is_creation) g place tail p st = given_within gives g place tail p st

-- ---- frames

first_mold : (a b : Mold) (ms ks : List Mold) → a ∷ ms ≡ b ∷ ks → a ≡ b
first_mold a b ms ks e = cc

other_molds : (a b : Mold) (ms ks : List Mold) → a ∷ ms ≡ b ∷ ks → ms ≡ ks
other_molds a b ms ks e = cc

activation_same : (n m : ℕ) (o q : Origin) (st su : code_stage.Stage) (i j : ℕ) (slots others : List Value) (v w : Option Value) (olds older : OldList) (operands more : OperandList)
    (ks ls : List ℕ) (bs cs : List (List ℕ)) → n ≡ m → o ≡ q → st ≡ su → i ≡ j → slots ≡ others → v ≡ w → olds ≡ older → operands ≡ more → ks ≡ ls → bs ≡ cs →
    (let a : PlainActivation = record { routine = n; origin = o; stage = st; place = i; slots = slots; result = v; olds = olds; operands = operands; reserved = ks; blocks = bs } in
    let b : PlainActivation = record { routine = m; origin = q; stage = su; place = j; slots = others; result = w; olds = older; operands = more; reserved = ls; blocks = cs } in
    a ≡ b)
activation_same n m o q st su i j slots others v w olds older operands more ks ls bs cs e1 e2 e3 e4 e5 e6 e7 e8 e9 e10 = cc

olds_same : (a b : OldList) → a.room ≡ b.room → a.values ≡ b.values → a ≡ b
olds_same a b e d = ap (λ (n : ℕ). record a { room = n }) e ∙ ap (λ (vs : List Value). record b { values = vs }) d

operands_same : (a b : OperandList) → a.depth ≡ b.depth → a.values ≡ b.values → a ≡ b
operands_same a b e d = ap (λ (n : ℕ). record a { depth = n }) e ∙ ap (λ (vs : List Value). record b { values = vs }) d

module _ (s : System) (p : Image) (is : IsProgramFor s p) (os : List Object) where
  -- a number can say the place of a frame
  said : (f : Frame) (g : PlainFrame) → IsFrame s os f g → g.activation.place < 18446744073709551615
  said f g r =
      let inside = in_within f.stage (run_of s f.routine) g.activation.place r.tail (point_of f os) r.stands in
      let few = few_operations s f.routine p g.activation.routine (code_at s is.root p g.activation.routine f.routine is.program r.routine) in
      omega (arith, inside, few)

  place_is : (f : Frame) (g : PlainFrame) → IsFrame s os f g → min g.activation.place 18446744073709551615 ≡ g.activation.place
  place_is f g r = let l = said f g r in min-eq_left (omega (arith, l))

  frame_same : (f : Frame) (g k : PlainFrame) → IsFrame s os f g → IsFrame s os f k → mold_of g ≡ mold_of k → g ≡ k
  frame_same f g k a b e =
      let g' = g.activation in
      let k' = k.activation in
      let activation : g' ≡ k' = activation_same g'.routine k'.routine g'.origin k'.origin g'.stage k'.stage g'.place k'.place g'.slots k'.slots g'.result k'.result g'.olds k'.olds g'.operands k'.operands
      g'.reserved k'.reserved g'.blocks k'.blocks
      (ap (λ (m : Mold). m.routine) e)
      (a.origin ∙ sym b.origin)
      (a.stage ∙ sym b.stage)
      (sym (place_is f g a) ∙ ap (λ (m : Mold). m.place) e ∙ place_is f k b)
      (values_same g'.slots k'.slots (ap (λ (m : Mold). m.slots) e))
      (option_same g'.result k'.result (ap (λ (q : State). q.result) a.state ∙ sym (ap (λ (q : State). q.result) b.state)))
      (olds_same g'.olds k'.olds (ap (λ (m : Mold). m.room) e) (values_same g'.olds.values k'.olds.values (ap (λ (q : State). q.olds) a.state ∙ sym (ap (λ (q : State). q.olds) b.state))))
      (operands_same g'.operands k'.operands (a.depth ∙ sym b.depth)
      (values_same g'.operands.values k'.operands.values (ap (λ (q : State). q.values) a.state ∙ sym (ap (λ (q : State). q.values) b.state))))
      (a.reserved ∙ sym b.reserved)
      (sym (reverse-reverse g'.blocks) ∙ ap reverse (a.blocks ∙ sym b.blocks) ∙ reverse-reverse k'.blocks) in
      ap (λ (c : PlainActivation). record g { activation = c }) activation
      ∙ ap (λ r. record k { current = r }) (reference_same g.current k.current (a.current ∙ sym b.current))

  pub frames_same : (fs : List Frame) (gs ks : List PlainFrame) → AreFrames s os fs gs → AreFrames s os fs ks → molds_of gs ≡ molds_of ks → gs ≡ ks
  frames_same [] [] [] a b e = refl
  frames_same [] [] (k ∷ ks) a b e = absurd b
  frames_same [] (g ∷ gs) ks a b e = absurd a
  frames_same (f ∷ fs) [] ks a b e = absurd a
  frames_same (f ∷ fs) (g ∷ gs) [] a b e = absurd b
  frames_same (f ∷ fs) (g ∷ gs) (k ∷ ks) a b e =
      ap (λ t. t ∷ gs) (frame_same f g k a.0 b.0 (first_mold (mold_of g) (mold_of k) (molds_of gs) (molds_of ks) e))
      ∙ ap (λ ts. k ∷ ts) (frames_same fs gs ks a.1 b.1 (other_molds (mold_of g) (mold_of k) (molds_of gs) (molds_of ks) e))

  -- there are as many as of the half
  pub molds_many : (fs : List Frame) (gs : List PlainFrame) → AreFrames s os fs gs → length (molds_of gs) ≡ length fs
  molds_many [] [] a = refl
  molds_many [] (g ∷ gs) a = absurd a
  molds_many (f ∷ fs) [] a = absurd a
  molds_many (f ∷ fs) (g ∷ gs) a = ap (λ n. suc n) (molds_many fs gs a.1)
