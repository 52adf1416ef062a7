-- The jumps of a conditional are set behind its last part.
use Rattle.std.proofs.Common.{◌≡◌, ◌<◌, ◌≤◌, ℕ, zero, suc, ◌+◌, ◌-◌, List, [], ◌∷◌, ◌++◌, length, refl, sym, ap, subst, ◌∙◌, arith, append_assoc, length-append}
use Rattle.std.specs.Prelude.{slice_set}
use Rattle.std.specs.List.{All}
use Rattle.std.proofs.Math.Seq.{set-append_seam}
use Rattle.sc_tree.specs.Plain.{Expr, Instrs, Branches, no_branches, branch_then}
use Rattle.sc_rules.specs.Names.{Entities}
use Rattle.sc_code.specs.Operations.{Operation, SkipIfFalse, Jump, EndLoop}
use Rattle.sc_code.specs.Places.{Setting, names_given}
use Rattle.sc_code.specs.Emitted.{expr_code, instrs_code, branch_code, loop_code, other_code}
use Rattle.sc_routines.specs.Jumps.{open_branch, jump_of, open_branches, jumps_of, landed}

-- the first jump is set, and stands behind the part that it belongs to
first_set : (base c b rest : List Operation) (k : ℕ) → k ≡ length rest →
    slice_set (base ++ (open_branch c b ++ rest)) (length base + length c + suc (length b)) (Jump (length (base ++ (open_branch c b ++ rest)) - (length base + length c + suc (length b)) - 1))
    ≡ (base ++ (c ++ SkipIfFalse (length b + 1) ∷ (b ++ Jump k ∷ []))) ++ rest
first_set base c b rest k e =
    let front = base ++ (c ++ SkipIfFalse (length b + 1) ∷ b) in
    let flat : base ++ (open_branch c b ++ rest) ≡ front ++ Jump 0 ∷ rest = simp append_assoc in
    let lf : length front ≡ length base + length c + suc (length b) = omega (arith, length-append base (c ++ SkipIfFalse (length b + 1) ∷ b), length-append c (SkipIfFalse (length b + 1) ∷ b)) in
    let la : length (base ++ (open_branch c b ++ rest)) ≡ length front + suc (length rest) = ap (λ (l : List Operation). length l) flat ∙ length-append front (Jump 0 ∷ rest) in
    let passed : length (base ++ (open_branch c b ++ rest)) - (length base + length c + suc (length b)) - 1 ≡ k = omega (arith, la, lf, e) in
    let back : front ++ Jump k ∷ rest ≡ (base ++ (c ++ SkipIfFalse (length b + 1) ∷ (b ++ Jump k ∷ []))) ++ rest = simp append_assoc in
    ap (λ n. slice_set (base ++ (open_branch c b ++ rest)) (length base + length c + suc (length b)) (Jump n)) passed
    ∙ ap (λ n. slice_set (base ++ (open_branch c b ++ rest)) n (Jump k)) (sym lf)
    ∙ ap (λ (l : List Operation). slice_set l (length front) (Jump k)) flat
    ∙ set-append_seam front (Jump 0) rest (Jump k)
    ∙ back

module _ (h : Setting) (n : Entities) (other : List Operation) where
  open_length : (bs : Branches) → length (open_branches h n bs ++ other) ≡ length (other_code h n bs other)
  open_length no_branches = refl
  open_length (branch_then e body bs) =
      let c = expr_code h n 0 e in
      let b = instrs_code h (names_given h n 0 e) body in
      let o = open_branches h n bs in
      let rest = other_code h n bs other in
      omega (
        arith,
        open_length bs,
        length-append (open_branch c b ++ o) other,
        length-append (open_branch c b) o,
        length-append c (SkipIfFalse (length b + 1) ∷ (b ++ Jump 0 ∷ [])),
        length-append b (Jump 0 ∷ []),
        length-append o other,
        length-append c (branch_code b rest),
        length-append b (Jump (length rest) ∷ rest),
      )

  pub landed_branches : (base : List Operation) (place : ℕ) (bs : Branches) → place ≡ length base →
      landed (jumps_of h n place bs) (base ++ (open_branches h n bs ++ other)) ≡ base ++ other_code h n bs other
  landed_branches base place no_branches e = refl
  landed_branches base place (branch_then x body bs) e =
      let c = expr_code h n 0 x in
      let b = instrs_code h (names_given h n 0 x) body in
      let rest = open_branches h n bs ++ other in
      let k = length (other_code h n bs other) in
      let whole = base ++ (c ++ SkipIfFalse (length b + 1) ∷ (b ++ Jump k ∷ [])) in
      let lw : place + length (open_branch c b) ≡ length whole = omega (
        arith,
        e,
        length-append base (c ++ SkipIfFalse (length b + 1) ∷ (b ++ Jump k ∷ [])),
        length-append c (SkipIfFalse (length b + 1) ∷ (b ++ Jump k ∷ [])),
        length-append c (SkipIfFalse (length b + 1) ∷ (b ++ Jump 0 ∷ [])),
        length-append b (Jump k ∷ []),
        length-append b (Jump 0 ∷ []),
      ) in
      let flat : base ++ ((open_branch c b ++ open_branches h n bs) ++ other) ≡ base ++ (open_branch c b ++ rest) = ap (λ (l : List Operation). base ++ l) (append_assoc (open_branch c b) (open_branches h n bs) other) in
      let back : whole ++ other_code h n bs other ≡ base ++ (c ++ branch_code b (other_code h n bs other)) = simp append_assoc in
      ap (λ (l : List Operation). landed (jumps_of h n place (branch_then x body bs)) l) flat
      ∙ ap (λ p. landed (jumps_of h n p (branch_then x body bs)) (base ++ (open_branch c b ++ rest))) e
      ∙ ap (λ (l : List Operation). landed (jumps_of h n (length base + length (open_branch c b)) bs) l) (first_set base c b rest k (sym (open_length bs)))
      ∙ ap (λ p. landed (jumps_of h n (p + length (open_branch c b)) bs) (whole ++ rest)) (sym e)
      ∙ landed_branches whole (place + length (open_branch c b)) bs lw
      ∙ back

-- each jump is written in the code
pub jumps_within : (h : Setting) (n : Entities) (place total : ℕ) (bs : Branches) → place + length (open_branches h n bs) ≤ total → All (λ p. p < total) (jumps_of h n place bs)
jumps_within h n place total no_branches l k d i = absurd (omega (arith, i))
jumps_within h n place total (branch_then e body bs) l zero d i =
    let c = expr_code h n 0 e in
    let b = instrs_code h (names_given h n 0 e) body in
    omega (arith, l, length-append (open_branch c b) (open_branches h n bs), length-append c (SkipIfFalse (length b + 1) ∷ (b ++ Jump 0 ∷ [])), length-append b (Jump 0 ∷ []))
jumps_within h n place total (branch_then e body bs) l (suc k) d i =
    let c = expr_code h n 0 e in
    let b = instrs_code h (names_given h n 0 e) body in
    jumps_within h n (place + length (open_branch c b)) total bs (omega (arith, l, length-append (open_branch c b) (open_branches h n bs))) k d (omega (arith, i))

-- a condition's jump is set behind the part that it passes
pub skip_set : (base c b : List Operation) (skip jump : ℕ) (c1 c2 c3 c4 : List Operation) → c1 ≡ base ++ c → skip ≡ length c1 → c2 ≡ c1 ++ SkipIfFalse 0 ∷ [] → c3 ≡ c2 ++ b → jump ≡ length c3 → c4 ≡ c3 ++ Jump 0 ∷ [] →
    slice_set c4 skip (SkipIfFalse (jump - skip)) ≡ base ++ open_branch c b
skip_set base c b skip jump c1 c2 c3 c4 e1 es e2 e3 ej e4 =
    let l2 = ap (λ (l : List Operation). length l) e2 ∙ length-append c1 (SkipIfFalse 0 ∷ []) in
    let l3 = ap (λ (l : List Operation). length l) e3 ∙ length-append c2 b in
    let passed : jump - skip ≡ length b + 1 = omega (arith, l2, l3, es, ej) in
    let all : c4 ≡ ((c1 ++ SkipIfFalse 0 ∷ []) ++ b) ++ Jump 0 ∷ [] = cc in
    let flat : ((c1 ++ SkipIfFalse 0 ∷ []) ++ b) ++ Jump 0 ∷ [] ≡ c1 ++ SkipIfFalse 0 ∷ (b ++ Jump 0 ∷ []) = simp append_assoc in
    ap (λ n. slice_set c4 skip (SkipIfFalse n)) passed
    ∙ ap (λ n. slice_set c4 n (SkipIfFalse (length b + 1))) es
    ∙ ap (λ (l : List Operation). slice_set l (length c1) (SkipIfFalse (length b + 1))) (all ∙ flat)
    ∙ set-append_seam c1 (SkipIfFalse 0) (b ++ Jump 0 ∷ []) (SkipIfFalse (length b + 1))
    ∙ ap (λ (l : List Operation). l ++ SkipIfFalse (length b + 1) ∷ (b ++ Jump 0 ∷ [])) e1
    ∙ append_assoc base c (SkipIfFalse (length b + 1) ∷ (b ++ Jump 0 ∷ []))

-- the place of the jump behind that part
pub jump_place : (base c b : List Operation) (o : Operation) (jump : ℕ) (c1 c2 c3 : List Operation) → c1 ≡ base ++ c → c2 ≡ c1 ++ o ∷ [] → c3 ≡ c2 ++ b → jump ≡ length c3 → jump ≡ jump_of (length base) c b
jump_place base c b o jump c1 c2 c3 e1 e2 e3 ej =
    omega (
      arith,
      ej,
      ap (λ (l : List Operation). length l) e1,
      length-append base c,
      ap (λ (l : List Operation). length l) e2,
      length-append c1 (o ∷ []),
      ap (λ (l : List Operation). length l) e3,
      length-append c2 b,
    )

-- a loop's first jump is set behind its body, and its end goes back by the body and the condition
pub loop_set : (base initial body until : List Operation) (jump : ℕ) (c1 c2 c3 c4 : List Operation) → c1 ≡ base ++ initial → jump ≡ length c1 → c2 ≡ c1 ++ Jump 0 ∷ [] → c3 ≡ c2 ++ body →
    c4 ≡ slice_set (c3 ++ (until ++ EndLoop (length c3 - jump - 1 + length until) ∷ [])) jump (Jump (length c3 - jump - 1)) →
    c4 ≡ base ++ (initial ++ Jump (length body) ∷ loop_code body until)
loop_set base initial body until jump c1 c2 c3 c4 e1 ej e2 e3 e4 =
    let l2 = ap (λ (l : List Operation). length l) e2 ∙ length-append c1 (Jump 0 ∷ []) in
    let l3 = ap (λ (l : List Operation). length l) e3 ∙ length-append c2 body in
    let ahead : length c3 - jump - 1 ≡ length body = omega (arith, l2, l3, ej) in
    let last = EndLoop (length body + length until) ∷ [] in
    let all : c3 ++ (until ++ last) ≡ ((c1 ++ Jump 0 ∷ []) ++ body) ++ (until ++ last) = ap (λ (l : List Operation). l ++ (until ++ last)) (e3 ∙ ap (λ (l : List Operation). l ++ body) e2) in
    let flat : ((c1 ++ Jump 0 ∷ []) ++ body) ++ (until ++ last) ≡ c1 ++ Jump 0 ∷ (body ++ (until ++ last)) = simp append_assoc in
    e4
    ∙ ap (λ n. slice_set (c3 ++ (until ++ EndLoop (n + length until) ∷ [])) jump (Jump n)) ahead
    ∙ ap (λ n. slice_set (c3 ++ (until ++ last)) n (Jump (length body))) ej
    ∙ ap (λ (l : List Operation). slice_set l (length c1) (Jump (length body))) (all ∙ flat)
    ∙ set-append_seam c1 (Jump 0) (body ++ (until ++ last)) (Jump (length body))
    ∙ ap (λ (l : List Operation). l ++ Jump (length body) ∷ (body ++ (until ++ last))) e1
    ∙ append_assoc base initial (Jump (length body) ∷ (body ++ (until ++ last)))

-- the parts of a conditional, one after the other, with the places of their jumps
module _ (h : Setting) (n n1 n2 : Entities) (e : Expr) (body : Instrs) (bs : Branches) (other : Instrs) (base c1 c2 c3 : List Operation) (js ks : List ℕ)
    (e1 : c1 ≡ base ++ open_branch (expr_code h n 0 e) (instrs_code h (names_given h n 0 e) body)) (f1 : js ≡ jump_of (length base) (expr_code h n 0 e) (instrs_code h (names_given h n 0 e) body) ∷ [])
    (m1 : n1 ≡ n) (e2 : c2 ≡ c1 ++ open_branches h n1 bs) (f2 : ks ≡ js ++ jumps_of h n1 (length c1) bs) (m2 : n2 ≡ n1) (e3 : c3 ≡ c2 ++ instrs_code h n2 other) where
  abbrev part : List Operation
  part = open_branch (expr_code h n 0 e) (instrs_code h (names_given h n 0 e) body)

  places : ks ≡ jumps_of h n (length base) (branch_then e body bs)
  places =
      let l1 : length c1 ≡ length base + length part = ap (λ (l : List Operation). length l) e1 ∙ length-append base part in
      f2 ∙ ap (λ (l : List ℕ). l ++ jumps_of h n1 (length c1) bs) f1
      ∙ ap (λ m. jump_of (length base) (expr_code h n 0 e) (instrs_code h (names_given h n 0 e) body) ∷ jumps_of h m (length c1) bs) m1
      ∙ ap (λ k. jump_of (length base) (expr_code h n 0 e) (instrs_code h (names_given h n 0 e) body) ∷ jumps_of h n k bs) l1

  written : c3 ≡ base ++ (open_branches h n (branch_then e body bs) ++ instrs_code h n other)
  written =
      let same : c3 ≡ ((base ++ part) ++ open_branches h n bs) ++ instrs_code h n other =
      e3 ∙ ap (λ m. c2 ++ instrs_code h m other) (m2 ∙ m1) ∙ ap (λ (l : List Operation). l ++ instrs_code h n other) (e2 ∙ ap (λ m. c1 ++ open_branches h m bs) m1 ∙ ap (λ (l : List Operation). l ++ open_branches h n bs) e1) in
      same ∙ ap (λ (l : List Operation). l ++ instrs_code h n other) (append_assoc base part (open_branches h n bs)) ∙ append_assoc base (part ++ open_branches h n bs) (instrs_code h n other)

  pub if_landed : landed ks c3 ≡ base ++ (expr_code h n 0 e ++ branch_code (instrs_code h (names_given h n 0 e) body) (other_code h n bs (instrs_code h n other)))
  if_landed =
      ap (λ (l : List ℕ). landed l c3) places ∙ ap (λ (l : List Operation). landed (jumps_of h n (length base) (branch_then e body bs)) l) written
      ∙ landed_branches h n (instrs_code h n other) base (length base) (branch_then e body bs) refl

  pub if_jumps : All (λ p. p < length c3) ks
  if_jumps =
      let l3 = ap (λ (l : List Operation). length l) written ∙ length-append base (open_branches h n (branch_then e body bs) ++ instrs_code h n other) in
      subst (All (λ p. p < length c3)) (sym places)
      (jumps_within h n (length base) (length c3) (branch_then e body bs) (omega (arith, l3, length-append (open_branches h n (branch_then e body bs)) (instrs_code h n other))))
