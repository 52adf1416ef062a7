-- Copies of frames.
use Rattle.std.proofs.Common.{◌≡◌, ◌≤◌, ℕ, List, [], ◌∷◌, length, map, take, refl, ap, ◌∙◌, arith}
use Rattle.sc_region.specs.declared.value.Reference.{Reference}
use Rattle.sc_region.specs.declared.frame.Activation.{Activation}
use Rattle.sc_region.specs.Frames.{PlainFrame, activation_of, frame_with, frames_onto}

copied_onto : (rs : List Reference) (ts us : List Activation) (rest : List PlainFrame) → length rs ≤ length us →
    map activation_of ts ≡ map activation_of (take (length rs) us) → frames_onto rs ts rest ≡ frames_onto rs us rest
copied_onto [] ts us rest l e = refl
copied_onto (r ∷ rs) ts [] rest l e = absurd (omega (arith, l))
copied_onto (r ∷ rs) [] (u ∷ us) rest l e = absurd (cc)
copied_onto (r ∷ rs) (t ∷ ts) (u ∷ us) rest l e =
    let here : activation_of t ≡ activation_of u = cc in
    ap (λ a. frames_onto rs ts (frame_with r a ∷ rest)) here ∙ copied_onto rs ts us (frame_with r (activation_of u) ∷ rest) (omega (arith, l)) (cc)

-- The frames of the same objects with copies of their routines are the same.
pub frames_copied : (rs qs : List Reference) (ts us : List Activation) (n : ℕ) → rs ≡ qs → n ≡ length qs → length qs ≤ length us →
    map activation_of ts ≡ map activation_of (take n us) → frames_onto rs ts [] ≡ frames_onto qs us []
frames_copied rs qs ts us n e many l same =
    ap (λ ps. frames_onto ps ts []) e ∙ copied_onto qs ts us [] l (same ∙ ap (λ i. map activation_of (take i us)) many)
