-- The names of blocks, and what is too large, in lists that code goes over.
use Rattle.std.proofs.Common.{◌≡◌, ◌<◌, ◌≤◌, ◌+◌, ℕ, Bool, true, false, List, [], ◌∷◌, ◌||◌, length, take, drop, get_or, map, min, refl, ap, sym, subst, ◌∙◌, arith, ◌⊎◌, inl, inr}
use Rattle.std.specs.Prelude.{Any, nat_lt}
use Rattle.std.specs.declared.vec.Vec.{Vec}
use Rattle.std.specs.declared.alloc.Global.{Global}
use Rattle.sc_text.specs.declared.token.Span.{Span}
use Rattle.sc_tree.specs.declared.expression.Expr.{Expr}
use Rattle.sc_tree.specs.declared.instruction.Head.{Head}
use Rattle.sc_tree.specs.declared.instruction.Instr.{Instr}
use Rattle.sc_tree.specs.declared.instruction.Instr.TheVariants as instr
use Rattle.sc_tree.specs.declared.instruction.Branch.{Branch}
use Rattle.sc_tree.specs.View.{head_of, instr_of, instrs_of, branches_of}
use Rattle.sc_tree.proofs.ViewLemmas.{instr_of-if, instr_of-loop, instr_of-block}
use Rattle.std.proofs.lemmas.List.{length-map, map-append, take-append-drop}
use Rattle.sc_class.specs.Faults.Limits.{max_heads, block_names, block_names_of, branch_block_names, has_wide_block, has_wide_block_in, branch_has_wide_block}
use Rattle.sc_class.proofs.Anys.{any_none, any_left, any_right, any_parts, any_only, any_first, map_seen, take_end, at, drop_end}

-- ---- sums that stop at 257

capped_more : (names n next a rest before total : ℕ) → before ≡ a + rest → min 257 (names + before) ≡ min 257 total → n ≡ min 257 a → next ≡ min 257 (names + n) → min 257 (next + rest) ≡ min 257 total
capped_more names n next a rest before total e f g h = omega arith

capped_end : (names before total : ℕ) → before ≡ 0 → names ≤ 257 → min 257 (names + before) ≡ min 257 total → names ≡ min 257 total
capped_end names before total e l f = omega arith

capped_two : (a b x y t whole : ℕ) → whole ≡ a + b → x ≡ min 257 a → y ≡ min 257 b → t ≡ min 257 (x + y) → t ≡ min 257 whole
capped_two a b x y t whole e f g h = omega arith

capped_left : (a b y t whole : ℕ) → whole ≡ a + b → y ≡ min 257 b → t ≡ min 257 (a + y) → t ≡ min 257 whole
capped_left a b y t whole e f g = omega arith

-- ---- how many names blocks have, from the instruction at an index on

abbrev names_from : List Instr → ℕ → ℕ
names_from is k = block_names_of (instrs_of (drop k is))

abbrev branch_names_from : List Branch → ℕ → ℕ
branch_names_from bs k = branch_block_names (branches_of (drop k bs))

names_at : (is : List Instr) (k : ℕ) (i : Instr) → k < length is → i ≡ get_or is k i → names_from is k ≡ block_names (instr_of i) + names_from is (k + 1)
unfolding block_names
names_at is k i l g = ap (λ (is : List Instr). block_names_of (instrs_of is)) (at is k i l g)

no_names : (is : List Instr) (k : ℕ) → length is ≤ k → names_from is k ≡ 0
unfolding block_names
no_names is k l = ap (λ (is : List Instr). block_names_of (instrs_of is)) (drop_end is k l)

branch_names_at : (bs : List Branch) (k : ℕ) (b : Branch) → k < length bs → b ≡ get_or bs k b → branch_names_from bs k ≡ block_names_of (instrs_of b.body.items) + branch_names_from bs (k + 1)
unfolding block_names
branch_names_at bs k b l g = ap (λ (bs : List Branch). branch_block_names (branches_of bs)) (at bs k b l g)

no_branch_names : (bs : List Branch) (k : ℕ) → length bs ≤ k → branch_names_from bs k ≡ 0
unfolding block_names
no_branch_names bs k l = ap (λ (bs : List Branch). branch_block_names (branches_of bs)) (drop_end bs k l)

pub names_more : (is : List Instr) (k : ℕ) (i : Instr) (names n next total : ℕ) → k < length is → i ≡ get_or is k i → min 257 (names + names_from is k) ≡ min 257 total → n ≡ min 257 (block_names (instr_of i)) →
    next ≡ min 257 (names + n) → min 257 (next + names_from is (k + 1)) ≡ min 257 total
names_more is k i names n next total l g = capped_more names n next (block_names (instr_of i)) (names_from is (k + 1)) (names_from is k) total (names_at is k i l g)

pub names_end : (is : List Instr) (k names total : ℕ) → length is ≤ k → names ≤ 257 → min 257 (names + names_from is k) ≡ min 257 total → names ≡ min 257 total
names_end is k names total l = capped_end names (names_from is k) total (no_names is k l)

pub branch_names_more : (bs : List Branch) (k : ℕ) (b : Branch) (is : List Instr) (names n next total : ℕ) → k < length bs → b ≡ get_or bs k b → is ≡ b.body.items → min 257 (names + branch_names_from bs k) ≡ min 257 total →
    n ≡ min 257 (block_names_of (instrs_of is)) → next ≡ min 257 (names + n) → min 257 (next + branch_names_from bs (k + 1)) ≡ min 257 total
branch_names_more bs k b is names n next total l g e f h =
    capped_more names n next (block_names_of (instrs_of b.body.items)) (branch_names_from bs (k + 1)) (branch_names_from bs k) total (branch_names_at bs k b l g) f (h ∙ ap (λ (is : List Instr). min 257 (block_names_of (instrs_of is))) e)

pub branch_names_end : (bs : List Branch) (k names total : ℕ) → length bs ≤ k → names ≤ 257 → min 257 (names + branch_names_from bs k) ≡ min 257 total → names ≡ min 257 total
branch_names_end bs k names total l = capped_end names (branch_names_from bs k) total (no_branch_names bs k l)

-- ---- how many names the blocks of one instruction have

capped_names : (is : List Instr) (js : List Instr) (n : ℕ) → is ≡ js → n ≡ min 257 (block_names_of (instrs_of is)) → n ≡ min 257 (block_names_of (instrs_of js))
capped_names is js n e f = f ∙ ap (λ (is : List Instr). min 257 (block_names_of (instrs_of is))) e

names_if : (i : Instr) (s : Span) (e : Expr) (body : Vec Instr Global) (branches : Vec Branch Global) (other : Vec Instr Global) → i ≡ instr.If s e body branches other →
    block_names (instr_of i) ≡ block_names_of (instrs_of body.items) + branch_block_names (branches_of branches.items) + block_names_of (instrs_of other.items)
unfolding block_names
names_if i s e body branches other q = ap (λ (i : Instr). block_names (instr_of i)) q ∙ ap block_names (instr_of-if s e body branches other)

names_loop : (i : Instr) (s : Span) (initial : Vec Instr Global) (e : Expr) (body : Vec Instr Global) → i ≡ instr.Loop s initial e body →
    block_names (instr_of i) ≡ block_names_of (instrs_of initial.items) + block_names_of (instrs_of body.items)
unfolding block_names
names_loop i s initial e body q = ap (λ (i : Instr). block_names (instr_of i)) q ∙ ap block_names (instr_of-loop s initial e body)

names_block : (i : Instr) (s : Span) (heads : Vec Head Global) (body : Vec Instr Global) → i ≡ instr.Block s heads body → block_names (instr_of i) ≡ length heads.items + block_names_of (instrs_of body.items)
unfolding block_names
names_block i s heads body q = ap (λ (i : Instr). block_names (instr_of i)) q ∙ ap block_names (instr_of-block s heads body) ∙ ap (λ (n : ℕ). n + block_names_of (instrs_of body.items)) (length-map heads.items head_of)

three : (a b c x y z w t whole : ℕ) → whole ≡ a + b + c → y ≡ min 257 b → z ≡ min 257 c → w ≡ min 257 (y + z) → x ≡ min 257 a → t ≡ min 257 (x + w) → t ≡ min 257 whole
three a b c x y z w t whole e f g h i j =
    let k : w ≡ min 257 (b + c) = capped_two b c y z w (b + c) refl f g h in
    let l : whole ≡ a + (b + c) = omega arith in
    capped_two a (b + c) x w t whole l i (capped_again (b + c) w k) j
  where
    capped_again : (n w : ℕ) → w ≡ min 257 n → w ≡ min 257 n
    capped_again n w e = e

pub total_if : (i : Instr) (s : Span) (e : Expr) (body : Vec Instr Global) (branches : Vec Branch Global) (other : Vec Instr Global) (bs : List Branch) (os is : List Instr) (y z w x t : ℕ) → i ≡ instr.If s e body branches other →
    bs ≡ branches.items → y ≡ min 257 (branch_block_names (branches_of bs)) → os ≡ other.items → z ≡ min 257 (block_names_of (instrs_of os)) → w ≡ min 257 (y + z) → is ≡ body.items → x ≡ min 257 (block_names_of (instrs_of is)) →
    t ≡ min 257 (x + w) → t ≡ min 257 (block_names (instr_of i))
total_if i s e body branches other bs os is y z w x t q f g h j k l m n =
    three (block_names_of (instrs_of body.items)) (branch_block_names (branches_of branches.items)) (block_names_of (instrs_of other.items)) x y z w t (block_names (instr_of i)) (names_if i s e body branches other q)
    (g ∙ ap (λ (bs : List Branch). min 257 (branch_block_names (branches_of bs))) f) (capped_names os other.items z h j) k (capped_names is body.items x l m) n

pub total_loop : (i : Instr) (s : Span) (initial : Vec Instr Global) (e : Expr) (body : Vec Instr Global) (is js : List Instr) (x y t : ℕ) → i ≡ instr.Loop s initial e body → is ≡ initial.items → x ≡ min 257 (block_names_of (instrs_of is)) →
    js ≡ body.items → y ≡ min 257 (block_names_of (instrs_of js)) → t ≡ min 257 (x + y) → t ≡ min 257 (block_names (instr_of i))
total_loop i s initial e body is js x y t q f g h j k =
    capped_two (block_names_of (instrs_of initial.items)) (block_names_of (instrs_of body.items)) x y t (block_names (instr_of i)) (names_loop i s initial e body q) (capped_names is initial.items x f g) (capped_names js body.items y h j) k

pub total_block : (i : Instr) (s : Span) (heads : Vec Head Global) (body : Vec Instr Global) (is : List Instr) (n y t : ℕ) → i ≡ instr.Block s heads body → n ≡ length heads.items → is ≡ body.items → y ≡ min 257 (block_names_of (instrs_of is)) →
    t ≡ min 257 (n + y) → t ≡ min 257 (block_names (instr_of i))
total_block i s heads body is n y t q m f g h =
    capped_left (length heads.items) (block_names_of (instrs_of body.items)) y t (block_names (instr_of i)) (names_block i s heads body q) (capped_names is body.items y f g) (h ∙ ap (λ (n : ℕ). min 257 (n + y)) m)

-- ---- whether a block has too many names, from the instruction at an index on

abbrev wide_from : List Instr → ℕ → Bool
wide_from is k = has_wide_block_in (instrs_of (drop k is))

abbrev branch_wide_from : List Branch → ℕ → Bool
branch_wide_from bs k = branch_has_wide_block (branches_of (drop k bs))

wide_at : (is : List Instr) (k : ℕ) (i : Instr) → k < length is → i ≡ get_or is k i → wide_from is k ≡ (has_wide_block (instr_of i) || wide_from is (k + 1))
unfolding has_wide_block
wide_at is k i l g = ap (λ (is : List Instr). has_wide_block_in (instrs_of is)) (at is k i l g)

branch_wide_at : (bs : List Branch) (k : ℕ) (b : Branch) → k < length bs → b ≡ get_or bs k b → branch_wide_from bs k ≡ (has_wide_block_in (instrs_of b.body.items) || branch_wide_from bs (k + 1))
unfolding has_wide_block
branch_wide_at bs k b l g = ap (λ (bs : List Branch). branch_has_wide_block (branches_of bs)) (at bs k b l g)

either_first : (a b c whole : Bool) → whole ≡ (a || b) → c ≡ a → c ≡ true → true ≡ whole
either_first a b c whole e f g = sym (e ∙ ap (λ a. a || b) (sym f ∙ g))

either_later : (a b c whole : Bool) → whole ≡ (a || b) → c ≡ a → c ≡ false → whole ≡ b
either_later a b c whole e f g = e ∙ ap (λ a. a || b) (sym f ∙ g)

pub wide_found : (is : List Instr) (k : ℕ) (i : Instr) (b whole : Bool) → k < length is → i ≡ get_or is k i → wide_from is k ≡ whole → b ≡ has_wide_block (instr_of i) → b ≡ true → true ≡ whole
wide_found is k i b whole l g e f h = either_first (has_wide_block (instr_of i)) (wide_from is (k + 1)) b (wide_from is k) (wide_at is k i l g) f h ∙ e

pub wide_more : (is : List Instr) (k : ℕ) (i : Instr) (b whole : Bool) → k < length is → i ≡ get_or is k i → wide_from is k ≡ whole → b ≡ has_wide_block (instr_of i) → b ≡ false → wide_from is (k + 1) ≡ whole
wide_more is k i b whole l g e f h = sym (either_later (has_wide_block (instr_of i)) (wide_from is (k + 1)) b (wide_from is k) (wide_at is k i l g) f h) ∙ e

pub wide_end : (is : List Instr) (k : ℕ) (whole : Bool) → length is ≤ k → wide_from is k ≡ whole → false ≡ whole
unfolding has_wide_block
wide_end is k whole l e = sym (ap (λ (is : List Instr). has_wide_block_in (instrs_of is)) (drop_end is k l)) ∙ e

wide_same : (is js : List Instr) (b : Bool) → is ≡ js → b ≡ has_wide_block_in (instrs_of is) → b ≡ has_wide_block_in (instrs_of js)
wide_same is js b e f = f ∙ ap (λ (is : List Instr). has_wide_block_in (instrs_of is)) e

pub branch_wide_found : (bs : List Branch) (k : ℕ) (x : Branch) (is : List Instr) (b whole : Bool) → k < length bs → x ≡ get_or bs k x → is ≡ x.body.items → branch_wide_from bs k ≡ whole → b ≡ has_wide_block_in (instrs_of is) → b ≡ true → true ≡ whole
branch_wide_found bs k x is b whole l g i e f h =
    either_first (has_wide_block_in (instrs_of x.body.items)) (branch_wide_from bs (k + 1)) b (branch_wide_from bs k) (branch_wide_at bs k x l g) (wide_same is x.body.items b i f) h ∙ e

pub branch_wide_more : (bs : List Branch) (k : ℕ) (x : Branch) (is : List Instr) (b whole : Bool) → k < length bs → x ≡ get_or bs k x → is ≡ x.body.items → branch_wide_from bs k ≡ whole → b ≡ has_wide_block_in (instrs_of is) → b ≡ false →
    branch_wide_from bs (k + 1) ≡ whole
branch_wide_more bs k x is b whole l g i e f h =
    sym (either_later (has_wide_block_in (instrs_of x.body.items)) (branch_wide_from bs (k + 1)) b (branch_wide_from bs k) (branch_wide_at bs k x l g) (wide_same is x.body.items b i f) h) ∙ e

pub branch_wide_end : (bs : List Branch) (k : ℕ) (whole : Bool) → length bs ≤ k → branch_wide_from bs k ≡ whole → false ≡ whole
unfolding has_wide_block
branch_wide_end bs k whole l e = sym (ap (λ (bs : List Branch). branch_has_wide_block (branches_of bs)) (drop_end bs k l)) ∙ e

-- ---- whether a block of one instruction has too many names

either_true : (a b c d : Bool) → c ≡ a → c ≡ true → d ≡ true → d ≡ (a || b)
either_true a b c d e f g = g ∙ sym (ap (λ a. a || b) (sym e ∙ f))

either_false : (a b c d : Bool) → c ≡ a → c ≡ false → d ≡ b → d ≡ (a || b)
either_false a b c d e f g = g ∙ sym (ap (λ a. a || b) (sym e ∙ f))

module _ (i : Instr) (s : Span) (e : Expr) (body : Vec Instr Global) (branches : Vec Branch Global) (other : Vec Instr Global) (q : i ≡ instr.If s e body branches other) where
  abbrev in_body : Bool
  in_body = has_wide_block_in (instrs_of body.items)

  abbrev in_branches : Bool
  in_branches = branch_has_wide_block (branches_of branches.items)

  abbrev in_other : Bool
  in_other = has_wide_block_in (instrs_of other.items)

  wide_if : has_wide_block (instr_of i) ≡ (in_body || (in_branches || in_other))
  unfolding has_wide_block
  wide_if = ap (λ (i : Instr). has_wide_block (instr_of i)) q ∙ ap has_wide_block (instr_of-if s e body branches other) ∙ regroup in_body in_branches in_other
    where
      regroup : (a b c : Bool) → ((a || b) || c) ≡ (a || (b || c))
      regroup true b c = refl
      regroup false b c = refl

  pub wide_body : (is : List Instr) (b d : Bool) → is ≡ body.items → b ≡ has_wide_block_in (instrs_of is) → b ≡ true → d ≡ true → d ≡ has_wide_block (instr_of i)
  wide_body is b d f g h k = either_true in_body (in_branches || in_other) b d (wide_same is body.items b f g) h k ∙ sym wide_if

  pub wide_elsewhere : (is : List Instr) (b d : Bool) → is ≡ body.items → b ≡ has_wide_block_in (instrs_of is) → b ≡ false → d ≡ (in_branches || in_other) → d ≡ has_wide_block (instr_of i)
  wide_elsewhere is b d f g h k = either_false in_body (in_branches || in_other) b d (wide_same is body.items b f g) h k ∙ sym wide_if

  branch_wide : (bs : List Branch) (c : Bool) → bs ≡ branches.items → c ≡ branch_has_wide_block (branches_of bs) → c ≡ in_branches
  branch_wide bs c f g = g ∙ ap (λ (bs : List Branch). branch_has_wide_block (branches_of bs)) f

  pub wide_branches : (bs : List Branch) (c d : Bool) → bs ≡ branches.items → c ≡ branch_has_wide_block (branches_of bs) → c ≡ true → d ≡ true → d ≡ (in_branches || in_other)
  wide_branches bs c d f g = either_true in_branches in_other c d (branch_wide bs c f g)

  pub wide_other : (bs : List Branch) (os : List Instr) (c d : Bool) → bs ≡ branches.items → c ≡ branch_has_wide_block (branches_of bs) → c ≡ false → os ≡ other.items → d ≡ has_wide_block_in (instrs_of os) → d ≡ (in_branches || in_other)
  wide_other bs os c d f g h k l = either_false in_branches in_other c d (branch_wide bs c f g) h (wide_same os other.items d k l)

module _ (i : Instr) (s : Span) (initial : Vec Instr Global) (e : Expr) (body : Vec Instr Global) (q : i ≡ instr.Loop s initial e body) where
  wide_loop : has_wide_block (instr_of i) ≡ (has_wide_block_in (instrs_of initial.items) || has_wide_block_in (instrs_of body.items))
  unfolding has_wide_block
  wide_loop = ap (λ (i : Instr). has_wide_block (instr_of i)) q ∙ ap has_wide_block (instr_of-loop s initial e body)

  pub wide_initial : (is : List Instr) (b d : Bool) → is ≡ initial.items → b ≡ has_wide_block_in (instrs_of is) → b ≡ true → d ≡ true → d ≡ has_wide_block (instr_of i)
  wide_initial is b d f g h k = either_true (has_wide_block_in (instrs_of initial.items)) (has_wide_block_in (instrs_of body.items)) b d (wide_same is initial.items b f g) h k ∙ sym wide_loop

  pub wide_loop_body : (is js : List Instr) (b d : Bool) → is ≡ initial.items → b ≡ has_wide_block_in (instrs_of is) → b ≡ false → js ≡ body.items → d ≡ has_wide_block_in (instrs_of js) → d ≡ has_wide_block (instr_of i)
  wide_loop_body is js b d f g h k l = either_false (has_wide_block_in (instrs_of initial.items)) (has_wide_block_in (instrs_of body.items)) b d (wide_same is initial.items b f g) h (wide_same js body.items d k l) ∙ sym wide_loop

module _ (i : Instr) (s : Span) (heads : Vec Head Global) (body : Vec Instr Global) (q : i ≡ instr.Block s heads body) where
  wide_block : has_wide_block (instr_of i) ≡ (nat_lt max_heads (length heads.items) || has_wide_block_in (instrs_of body.items))
  unfolding has_wide_block
  wide_block =
      ap (λ (i : Instr). has_wide_block (instr_of i)) q ∙ ap has_wide_block (instr_of-block s heads body)
      ∙ ap (λ (n : ℕ). nat_lt max_heads n || has_wide_block_in (instrs_of body.items)) (length-map heads.items head_of)

  pub wide_heads : (n : ℕ) (d : Bool) → n ≡ length heads.items → 16 < n → d ≡ true → d ≡ has_wide_block (instr_of i)
  wide_heads n d f l h = either_true (nat_lt max_heads (length heads.items)) (has_wide_block_in (instrs_of body.items)) true d (sym (above (length heads.items) (subst (λ (n : ℕ). 16 < n) f l))) refl h ∙ sym wide_block
    where
      above : (n : ℕ) → 16 < n → nat_lt 16 n ≡ true
      above n l = grind arith

  pub narrow_heads : (n : ℕ) (is : List Instr) (d : Bool) → n ≡ length heads.items → n ≤ 16 → is ≡ body.items → d ≡ has_wide_block_in (instrs_of is) → d ≡ has_wide_block (instr_of i)
  narrow_heads n is d f l g h =
      either_false (nat_lt max_heads (length heads.items)) (has_wide_block_in (instrs_of body.items)) false d (sym (within (length heads.items) (subst (λ (n : ℕ). n ≤ 16) f l))) refl (wide_same is body.items d g h) ∙ sym wide_block
    where
      within : (n : ℕ) → n ≤ 16 → nat_lt 16 n ≡ false
      within n l = grind arith

-- ---- one of a list, as a loop goes over the list in memory

module _ {A B : Type 0} (P : B → Type 0) (f : A → B) (xs : List A) where
  abbrev pub AnyBelow : ℕ → Type 0
  AnyBelow k = Any P (map f (take k xs))

  pub any_at : (k : ℕ) (x : A) → k < length xs → x ≡ get_or xs k x → P (f x) → Any P (map f xs)
  any_at k x l g p = any_taken (k + 1) (subst (λ ys. Any P ys) (sym (map_seen f xs k x l g)) (any_right (map f (take k xs)) (f x ∷ []) (any_first (f x) [] p)))
    where
      any_taken : (k : ℕ) → Any P (map f (take k xs)) → Any P (map f xs)
      any_taken k a = subst (λ ys. Any P (map f ys)) (take-append-drop k xs) (subst (λ ys. Any P ys) (sym (map-append f (take k xs) (drop k xs))) (any_left (map f (take k xs)) (map f (drop k xs)) a))

  pub none_below : AnyBelow 0 → ⊥
  none_below = any_none

  pub none_more : (k : ℕ) (x : A) → k < length xs → x ≡ get_or xs k x → (AnyBelow k → ⊥) → (P (f x) → ⊥) → AnyBelow (k + 1) → ⊥
  none_more k x l g h i a = by (any_parts (map f (take k xs)) (f x ∷ []) (subst (λ ys. Any P ys) (map_seen f xs k x l g) a))
    where
      by : Any P (map f (take k xs)) ⊎ Any P (f x ∷ []) → ⊥
      by (inl b) = h b
      by (inr b) = i (any_only (f x) b)

  pub none_at_all : (k : ℕ) → length xs ≤ k → (AnyBelow k → ⊥) → Any P (map f xs) → ⊥
  none_at_all k l h a = h (subst (λ ys. Any P (map f ys)) (sym (take_end xs k l)) a)
