-- What tests of equality find.
use Rattle.std.proofs.Common.{rules, ◌≡◌, ◌<◌, ◌≤◌, ℕ, suc, Bool, true, false, List, [], ◌∷◌, length, take, map, get_or, refl, ap, ◌∙◌, sym, arith}
use Rattle.std.specs.Bool.{Decides}
use Rattle.std.proofs.lemmas.List.{get_or-map}
use Rattle.arrayvec.specs.ArrayVec.{ArrayVec}
use Rattle.sc_region.specs.declared.value.Value.{Value}
use Rattle.sc_region.specs.declared.value.Value.TheVariants.{Integer, Boolean, Void, Attached}
use Rattle.sc_region.specs.declared.value.Reference.{Reference}
use Rattle.sc_region.specs.contracts.value.ReferencePartialEq.TheImpl.{eq-value as eq-reference}
use Rattle.sc_region.specs.contracts.value.ValuePartialEq.TheImpl.{eq-value}
use Rattle.sc_region.specs.declared.frame.Activation.{Activation}
use Rattle.sc_region.specs.OperandList.{OperandList, operands_onto}
use Rattle.sc_region.specs.Frames.{PlainActivation, PlainFrame, activation_of, frame_with, frames_onto}
use Rattle.sc_region.proofs.Stacks.{frames_length, operands_length}

-- ---- values

pub reference_decides : (r s : Reference) → Decides (eq-reference.it r s) (r ≡ s)
reference_decides r s = search rules

pub value_decides : (x y : Value) → Decides (eq-value.it x y) (x ≡ y)
value_decides (Integer i) (Integer j) = search rules
value_decides (Integer i) (Boolean c) = search rules
value_decides (Integer i) Void = search rules
value_decides (Integer i) (Attached r) = search rules
value_decides (Boolean b) (Integer j) = search rules
value_decides (Boolean b) (Boolean c) = search rules
value_decides (Boolean b) Void = search rules
value_decides (Boolean b) (Attached r) = search rules
value_decides Void (Integer j) = search rules
value_decides Void (Boolean c) = search rules
value_decides Void Void = search rules
value_decides Void (Attached r) = search rules
value_decides (Attached r) (Integer j) = search rules
value_decides (Attached r) (Boolean c) = search rules
value_decides (Attached r) Void = search rules
value_decides (Attached r) (Attached s) = search rules

-- ---- one difference

-- Where the whole could only be the same if this were, and this isn't, it is another one.
pub differs : {P Q : Type 0} (r : Bool) → r ≡ false → Decides r P → (Q → P) → Decides false Q
differs r isnt both back = ((λ yes. (cc)), λ q. sym isnt ∙ both.1 (back q))

-- What is equal to two is the same where these are.
pub between : {A : Type 0} (r : Bool) (x y z w : A) → x ≡ z → y ≡ w → Decides r (z ≡ w) → Decides r (x ≡ y)
between r x y z w e g both = (λ yes. e ∙ both.0 yes ∙ sym g, λ same. both.1 (sym e ∙ same ∙ g))

-- ---- lists, place by place

-- where each is the same, this one is
pub same_here : {A B : Type 0} (f : A → B) (xs ys : List A) (n : ℕ) (x y : A) → n < length xs → n < length ys → x ≡ get_or xs n x → y ≡ get_or ys n y → map f xs ≡ map f ys → f x ≡ f y
same_here f xs ys n x y l m e g same =
    ap f e ∙ sym (get_or-map f xs n x (f x) l) ∙ ap (λ zs. get_or zs n (f x)) same ∙ get_or-map f ys n y (f x) m ∙ ap f (sym g)

-- ---- operands and frames, the last one first

-- They were the same lists.
operands_were : (vs us rest more : List Value) → length rest ≡ length more → operands_onto vs rest ≡ operands_onto us more → (vs ≡ us) × (rest ≡ more)
operands_were [] [] rest more l e = (refl, e)
operands_were [] (u ∷ us) rest more l e = absurd (omega (arith, ap length e, operands_length us (u ∷ more)))
operands_were (v ∷ vs) [] rest more l e = absurd (omega (arith, ap length e, operands_length vs (v ∷ rest)))
operands_were (v ∷ vs) (u ∷ us) rest more l e =
    let both = operands_were vs us (v ∷ rest) (u ∷ more) (ap suc l) e in
    let under : v ∷ rest ≡ u ∷ more = both.1 in
    let over : vs ≡ us = both.0 in
    ((cc), (cc))

pub same_operands : (r : Bool) (x y : OperandList) (vs us : List Value) → x.values ≡ operands_onto vs [] → y.values ≡ operands_onto us [] → x.depth ≡ y.depth →
    Decides r (vs ≡ us) → Decides r (x ≡ y)
same_operands r x y vs us e g depth both = (
  λ yes. let values : x.values ≡ y.values = e ∙ ap (λ ws. operands_onto ws []) (both.0 yes) ∙ sym g in (λ i. record { depth = depth i; values = values i }),
  λ same. both.1 (operands_were vs us [] [] refl (sym e ∙ ap (λ (o : OperandList). o.values) same ∙ g)).0,
)

-- The frames are the same where these objects and routines are.
frames_are : (rs : List Reference) (ts us : List Activation) (rest : List PlainFrame) → length rs ≤ length ts → length rs ≤ length us →
    map activation_of (take (length rs) ts) ≡ map activation_of (take (length rs) us) → frames_onto rs ts rest ≡ frames_onto rs us rest
frames_are [] ts us rest l m e = refl
frames_are (r ∷ rs) [] us rest l m e = absurd (omega arith)
frames_are (r ∷ rs) (t ∷ ts) [] rest l m e = absurd (omega arith)
frames_are (r ∷ rs) (t ∷ ts) (u ∷ us) rest l m e =
    let here : activation_of t ≡ activation_of u = cc in
    ap (λ a. frames_onto rs ts (frame_with r a ∷ rest)) here ∙ frames_are rs ts us (frame_with r (activation_of u) ∷ rest) (omega arith) (omega arith) (cc)

-- Then these were the same.
frames_were : (rs qs : List Reference) (ts us : List Activation) (rest more : List PlainFrame) → length rs ≤ length ts → length qs ≤ length us → length rest ≡ length more →
    frames_onto rs ts rest ≡ frames_onto qs us more → (rs ≡ qs) × (map activation_of (take (length rs) ts) ≡ map activation_of (take (length qs) us)) × (rest ≡ more)
frames_were [] [] ts us rest more l m n e = (refl, refl, e)
frames_were [] (q ∷ qs) ts us rest more l m n e = absurd (omega (arith, ap length e, frames_length (q ∷ qs) us more m))
frames_were (r ∷ rs) [] ts us rest more l m n e = absurd (omega (arith, ap length e, frames_length (r ∷ rs) ts rest l))
frames_were (r ∷ rs) (q ∷ qs) [] us rest more l m n e = absurd (omega arith)
frames_were (r ∷ rs) (q ∷ qs) (t ∷ ts) [] rest more l m n e = absurd (omega arith)
frames_were (r ∷ rs) (q ∷ qs) (t ∷ ts) (u ∷ us) rest more l m n e =
    let all = frames_were rs qs ts us (frame_with r (activation_of t) ∷ rest) (frame_with q (activation_of u) ∷ more) (omega arith) (omega arith) (ap suc n) e in
    let under : frame_with r (activation_of t) ∷ rest ≡ frame_with q (activation_of u) ∷ more = all.2 in
    let head : frame_with r (activation_of t) ≡ frame_with q (activation_of u) = cc in
    let current : r ≡ q = ap (λ (f : PlainFrame). f.current) head in
    let routine : activation_of t ≡ activation_of u = ap (λ (f : PlainFrame). f.activation) head in
    ((λ i. current i ∷ all.0 i), (λ i. routine i ∷ all.1 i), (cc))

pub same_frames : (r : Bool) (rs qs : List Reference) (ts us : List Activation) (n m : ℕ) → n ≡ length rs → m ≡ length qs → length rs ≤ length ts → length qs ≤ length us → rs ≡ qs →
    Decides r (map activation_of (take n ts) ≡ map activation_of (take m us)) → Decides r (frames_onto rs ts [] ≡ frames_onto qs us [])
same_frames r rs qs ts us n m many few l k e both =
    let first = λ (i : ℕ) (ws : List Activation). map activation_of (take i ws) in
    let long : length rs ≤ length us = omega (arith, ap length e) in
    let same_long : m ≡ length rs = omega (arith, few, ap length e) in (
      λ yes.
          frames_are rs ts us [] l long (ap (λ i. first i ts) (sym many) ∙ both.0 yes ∙ ap (λ i. first i us) same_long)
          ∙ ap (λ ps. frames_onto ps us []) e,
      λ same. both.1 (ap (λ i. first i ts) many ∙ (frames_were rs qs ts us [] [] l k refl same).1 ∙ ap (λ i. first i us) (sym few)),
    )

-- Frames on other objects are others.
pub other_frames : (r : Bool) (rs qs : List Reference) (ts us : List Activation) → length rs ≤ length ts → length qs ≤ length us → r ≡ false →
    Decides r (rs ≡ qs) → Decides r (frames_onto rs ts [] ≡ frames_onto qs us [])
other_frames r rs qs ts us l m isnt both = (
  λ yes. let wrong : false ≡ true = sym isnt ∙ yes in absurd (cc),
  λ same. both.1 (frames_were rs qs ts us [] [] l m refl same).0,
)

-- ---- routines

pub same_routine : (r : Bool) (a b : Activation) → (a.routine ≡ b.routine) × (a.origin ≡ b.origin) × (a.stage ≡ b.stage) × (a.place ≡ b.place) →
    Decides r ((a.slots.items ≡ b.slots.items) × (a.result ≡ b.result) × (a.olds ≡ b.olds) × (a.operands ≡ b.operands) × (a.reserved.items ≡ b.reserved.items)
    × (map (λ (k : ArrayVec ℕ). k.items) a.blocks.items ≡ map (λ (k : ArrayVec ℕ). k.items) b.blocks.items)) →
    Decides r (activation_of a ≡ activation_of b)
same_routine r a b p both = (
  λ yes.
      let q = both.0 yes in
      (λ i. record {
        routine = p.0 i;
        origin = p.1 i;
        stage = p.2 i;
        place = p.3 i;
        slots = q.0 i;
        result = q.1 i;
        olds = q.2 i;
        operands = q.3 i;
        reserved = q.4 i;
        blocks = q.5 i;
      }),
  λ same. both.1 (
    ap (λ (x : PlainActivation). x.slots) same,
    ap (λ (x : PlainActivation). x.result) same,
    ap (λ (x : PlainActivation). x.olds) same,
    ap (λ (x : PlainActivation). x.operands) same,
    ap (λ (x : PlainActivation). x.reserved) same,
    ap (λ (x : PlainActivation). x.blocks) same,
  ),
)
