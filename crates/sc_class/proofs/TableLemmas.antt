-- What tables say of classes, and that a system with tables has no fault.
use Rattle.std.proofs.Common.{◌≡◌, ◌<◌, ◌≤◌, ◌+◌, ℕ, zero, suc, Bool, true, false, cond, List, [], ◌∷◌, ◌++◌, Option, Some, None, length, get_or, map, drop, refl, ap, sym, ◌∙◌, arith, below_more, subst, ◌⊎◌, inl, inr, Ok, Err}
use Rattle.std.specs.Prelude.{Any, IfErr, IsErrAnd, Result, slice_get, nat_lt}
use Rattle.std.specs.Option.{option_map_or, option_and_then}
use Rattle.std.specs.declared.vec.Vec.{Vec}
use Rattle.std.specs.declared.alloc.Global.{Global}
use Rattle.std.proofs.lemmas.Option.{slice_get_past, slice_get_within}
use Rattle.std.proofs.lemmas.List.{length-append, drop_more}
use Rattle.sc_tree.specs.declared.system.Class as tree_class
use Rattle.sc_tree.specs.declared.instruction.Clause as tree_clause
use Rattle.sc_tree.specs.Plain.{System, Class, Clause}
use Rattle.sc_tree.specs.View.{class_of, clause_of}
use Rattle.sc_class.specs.declared.identity.ClassId.{ClassId}
use Rattle.sc_class.specs.declared.identity.ClassId.TheVariants as class
use Rattle.sc_text.specs.declared.token.Span.{Span}
use Rattle.sc_class.specs.declared.fault.ClassFault.{ClassFault}
use Rattle.sc_class.specs.declared.fault.LeftOut.{LeftOut}
use Rattle.sc_class.specs.declared.faults.left_out.Exclusion.{Exclusion}
use Rattle.sc_class.specs.declared.fault.ClassFault.TheVariants as fault
use Rattle.sc_class.specs.Internal.FaultAt.{FaultAt}
use Rattle.sc_class.specs.Internal.Found.{FindsFirstPlace, FindsFirstExclusion}
use Rattle.sc_class.specs.Faults.Scopes.{ClassClashes}
use Rattle.sc_class.specs.Faults.Redefinition.{BadlyRedefines}
use Rattle.sc_class.specs.Tables.Features.{invariant_along, invariant_of, declared_invariant}
use Rattle.sc_class.specs.Faults.ClassRules.{Fails, IsFaultless, has_root, duplicate_class, unknown_parent, cycle, duplicate_feature, bad_redefinition, no_root, limit, left_out, code_number, HasLeastCode, IsPlacedFirst}
use Rattle.sc_class.specs.Faults.Limits.{PassesLimit}
use Rattle.sc_class.specs.Faults.LeftOut.{ClassLeftOut}
use Rattle.sc_class.proofs.Items.{read_append, read_last}
use Rattle.sc_class.proofs.CycleLemmas.{cycle_once}
use Rattle.sc_class.specs.Tables.Ancestors.{ancestors, ancestors_within, parent_of, UnknownParentAt, CycleAt}
use Rattle.sc_class.specs.ClassNames.{Root, RepeatedAt}
use Rattle.sc_class.specs.Internal.AncestorLists.{ancestors_in}
use Rattle.sc_class.specs.Tables.ByClass.{ancestors_of, joined_invariant}
use Rattle.sc_class.specs.Internal.NoFaults.{ClassesStand, FeaturesStand, RestStands}

pub faultless : (s : System) (root : Root) → ClassesStand s → FeaturesStand s root → RestStands s → IsFaultless s root
faultless s root a b d f (duplicate_class {p} y) = a.none_repeated p y
faultless s root a b d f (unknown_parent {p} y) = a.none_unknown p y
faultless s root a b d f (cycle {p} y) = a.none_cyclic p y
faultless s root a b d f (duplicate_feature {p} {k} {c} e y) = b.none_clashes p (k, c, e, y)
faultless s root a b d f (bad_redefinition {p} {k} {c} e y) = b.none_redefines_badly p (k, c, e, y)
faultless s root a b d f (no_root e) = let q : true ≡ false = sym b.rooted ∙ e in cc
faultless s root a b d f (limit y) = d.within_limits y
faultless s root a b d f (left_out {x} y) = d.none_left_out x y

-- ---- the least code

at_least : (n k : ℕ) → (k < n → ⊥) → n ≤ k
at_least n k h = omega (arith, h)

never : {A : Type 0} (n k : ℕ) → n ≤ k → k < n → A
never n k l m = absurd (omega arith)

-- where none of the faults of a code below n is in the system
least : (s : System) (root : Root) (n : ℕ) → n ≤ 8 → (1 < n → (p : Span) → RepeatedAt [] s.classes p → ⊥) → (2 < n → (p : Span) → Any (λ c. Any (λ q. UnknownParentAt s q p) c.parents) s.classes → ⊥) →
    (3 < n → (p : Span) → CycleAt s p → ⊥) → (4 < n → (p : Span) → FaultAt s (ClassClashes s) p → ⊥) → (5 < n → (p : Span) → FaultAt s (BadlyRedefines s) p → ⊥) →
    (6 < n → has_root s root ≡ false → ⊥) → (7 < n → PassesLimit s → ⊥) → (g : ClassFault) → Fails s root g → n ≤ code_number g
least s root n l a b d e f h i g (duplicate_class {p} y) = at_least n 1 (λ m. a m p y)
least s root n l a b d e f h i g (unknown_parent {p} y) = at_least n 2 (λ m. b m p y)
least s root n l a b d e f h i g (cycle {p} y) = at_least n 3 (λ m. d m p y)
least s root n l a b d e f h i g (duplicate_feature {p} {k} {c} q y) = at_least n 4 (λ m. e m p (k, c, q, y))
least s root n l a b d e f h i g (bad_redefinition {p} {k} {c} q y) = at_least n 5 (λ m. f m p (k, c, q, y))
least s root n l a b d e f h i g (no_root y) = at_least n 6 (λ m. h m y)
least s root n l a b d e f h i g (limit y) = at_least n 7 (λ m. i m y)
least s root n l a b d e f h i g (left_out y) = l

module _ (s : System) (root : Root) where
  pub least_1 : (p : Span) → HasLeastCode s root (fault.DuplicateClass p)
  least_1 p = least s root 1 (omega arith) (never 1 1 (omega arith)) (never 1 2 (omega arith)) (never 1 3 (omega arith)) (never 1 4 (omega arith)) (never 1 5 (omega arith)) (never 1 6 (omega arith)) (never 1 7 (omega arith))

  pub least_2 : ((p : Span) → RepeatedAt [] s.classes p → ⊥) → (p : Span) → HasLeastCode s root (fault.UnknownParent p)
  least_2 a p = least s root 2 (omega arith) (λ m. a) (never 2 2 (omega arith)) (never 2 3 (omega arith)) (never 2 4 (omega arith)) (never 2 5 (omega arith)) (never 2 6 (omega arith)) (never 2 7 (omega arith))

  pub least_3 : ((p : Span) → RepeatedAt [] s.classes p → ⊥) → ((p : Span) → Any (λ c. Any (λ q. UnknownParentAt s q p) c.parents) s.classes → ⊥) → (p : Span) → HasLeastCode s root (fault.Cycle p)
  least_3 a b p = least s root 3 (omega arith) (λ m. a) (λ m. b) (never 3 3 (omega arith)) (never 3 4 (omega arith)) (never 3 5 (omega arith)) (never 3 6 (omega arith)) (never 3 7 (omega arith))

  pub least_4 : (p : Span) → ClassesStand s → HasLeastCode s root (fault.DuplicateFeature p)
  least_4 p a =
      least s root 4 (omega arith) (λ m. a.none_repeated) (λ m. a.none_unknown) (λ m. a.none_cyclic) (never 4 4 (omega arith)) (never 4 5 (omega arith)) (never 4 6 (omega arith)) (never 4 7 (omega arith))

  pub least_5 : ((p : Span) → FaultAt s (ClassClashes s) p → ⊥) → (p : Span) → ClassesStand s → HasLeastCode s root (fault.BadRedefinition p)
  least_5 b p a = least s root 5 (omega arith) (λ m. a.none_repeated) (λ m. a.none_unknown) (λ m. a.none_cyclic) (λ m. b) (never 5 5 (omega arith)) (never 5 6 (omega arith)) (never 5 7 (omega arith))

  pub least_6 : ((p : Span) → FaultAt s (ClassClashes s) p → ⊥) → ((p : Span) → FaultAt s (BadlyRedefines s) p → ⊥) → ClassesStand s → HasLeastCode s root fault.NoRoot
  least_6 b d a = least s root 6 (omega arith) (λ m. a.none_repeated) (λ m. a.none_unknown) (λ m. a.none_cyclic) (λ m. b) (λ m. d) (never 6 6 (omega arith)) (never 6 7 (omega arith))

  module _ (a : ClassesStand s) (b : FeaturesStand s root) where
    has_one : has_root s root ≡ false → ⊥
    has_one e = let q : true ≡ false = sym b.rooted ∙ e in cc

    pub least_7 : HasLeastCode s root fault.Limit
    least_7 = least s root 7 (omega arith) (λ m. a.none_repeated) (λ m. a.none_unknown) (λ m. a.none_cyclic) (λ m. b.none_clashes) (λ m. b.none_redefines_badly) (λ m. has_one) (never 7 7 (omega arith))

    pub least_8 : (PassesLimit s → ⊥) → (what : LeftOut) (p : Span) → HasLeastCode s root (fault.LeftOut what p)
    least_8 d what p = least s root 8 (omega arith) (λ m. a.none_repeated) (λ m. a.none_unknown) (λ m. a.none_cyclic) (λ m. b.none_clashes) (λ m. b.none_redefines_badly) (λ m. has_one) (λ m. d)

-- ---- the first place

module _ (s : System) (root : Root) where
  pub first_1 : (p : Span) → FindsFirstPlace (RepeatedAt [] s.classes) (Some p) → IsPlacedFirst s root (fault.DuplicateClass p)
  first_1 p h q (duplicate_class y) = h.1 q y

  pub first_2 : (p : Span) → FindsFirstPlace (λ p. Any (λ c. Any (λ q. UnknownParentAt s q p) c.parents) s.classes) (Some p) → IsPlacedFirst s root (fault.UnknownParent p)
  first_2 p h q (unknown_parent y) = h.1 q y

  pub first_3 : (p : Span) → CycleAt s p → IsPlacedFirst s root (fault.Cycle p)
  first_3 p x q (cycle y) = let same : p.start ≡ q.start = ap (λ (p : Span). p.start) (cycle_once s p q x y) in omega (arith, same)

  pub first_4 : (p : Span) → FindsFirstPlace (FaultAt s (ClassClashes s)) (Some p) → IsPlacedFirst s root (fault.DuplicateFeature p)
  first_4 p h q (duplicate_feature {k = k} {c = c} e y) = h.1 q (k, c, e, y)

  pub first_5 : (p : Span) → FindsFirstPlace (FaultAt s (BadlyRedefines s)) (Some p) → IsPlacedFirst s root (fault.BadRedefinition p)
  first_5 p h q (bad_redefinition {k = k} {c = c} e y) = h.1 q (k, c, e, y)

  pub first_8 : (x : Exclusion) → FindsFirstExclusion (λ x. Any (λ c. ClassLeftOut c x) s.classes) (Some x) → IsPlacedFirst s root (fault.LeftOut x.what x.span)
  first_8 x h _ _ (left_out {x = y} z) = h.1 y z

-- an error that is passed on
pub err_same : {A E : Type 0} (P : E → Type 0) (r : Result A E) (e : E) → IsErrAnd r (λ g. g ≡ e) → P e → IfErr r P
err_same P (Ok x) e i p = absurd i
err_same P (Err g) e i p = subst P (sym i) p

pub behind : {A B C D : Type 0} → D ⊎ (A → B → C) → B → D ⊎ (A → C)
behind (inl d) b = inl d
behind (inr f) b = inr (λ a. f a b)

pub applied : {A B D : Type 0} → D ⊎ (A → B) → A → D ⊎ B
applied (inl d) a = inl d
applied (inr f) a = inr (f a)

-- ---- ancestors of each class

pub lists_more : (s : System) (lists lines' : List (Vec ℕ Global)) (v : Vec ℕ Global) (n : ℕ) → v.items ≡ ancestors s n → lines' ≡ lists ++ v ∷ [] →
    (length lists ≡ n) × ((k : ℕ) → k < n → ancestors_in lists k ≡ ancestors s k) → (length lines' ≡ n + 1) × ((k : ℕ) → k < n + 1 → ancestors_in lines' k ≡ ancestors s k)
lists_more s lists lines' v n e f (l, below) =
    (ap length f ∙ length-append lists (v ∷ []) ∙ ap (λ k. k + 1) l, below_more (λ k. ancestors_in lines' k ≡ ancestors s k) n before here)
  where
    before : (k : ℕ) → k < n → ancestors_in lines' k ≡ ancestors s k
    before k m =
        let m' : k < length lists = omega (arith, l, m) in
        ap (λ (vs : List (Vec ℕ Global)). ancestors_in vs k) f ∙ ap (λ (o : Option (Vec ℕ Global)). option_map_or (λ (v : Vec ℕ Global). v.items) o []) (read_append lists v k m') ∙ below k m

    here : ancestors_in lines' n ≡ ancestors s n
    here =
        ap (λ (vs : List (Vec ℕ Global)). ancestors_in vs n) f
        ∙ ap (λ (o : Option (Vec ℕ Global)). option_map_or (λ (v : Vec ℕ Global). v.items) o []) (ap (slice_get (lists ++ v ∷ [])) (sym l) ∙ read_last lists v) ∙ e

pub not_past : {A : Type 0} (xs : List A) (k : ℕ) → k < length xs → slice_get xs k ≡ None → ⊥
not_past [] k l e = absurd (omega arith)
not_past (x ∷ xs) zero l e = cc
not_past (x ∷ xs) (suc k) l e = not_past xs k (less l) e
  where
    less : suc k < suc (length xs) → k < length xs
    less l = omega arith

module _ (s : System) (lists : List (Vec ℕ Global)) (as_many : length lists ≡ length s.classes) (are : (k : ℕ) → k < length lists → ancestors_in lists k ≡ ancestors s k) (k : ℕ) where
  pub list_at : (v : Vec ℕ Global) → slice_get lists k ≡ Some v → v.items ≡ cond (nat_lt k (length s.classes)) (ancestors s k) []
  list_at v e =
      let l = slice_get_within lists k v e in
      let m : k < length s.classes = omega (arith, l, as_many) in
      sym (ap (λ (o : Option (Vec ℕ Global)). option_map_or (λ (v : Vec ℕ Global). v.items) o []) e) ∙ are k l ∙ sym (ap (λ b. cond b (ancestors s k) []) (yes m))
    where
      yes : k < length s.classes → nat_lt k (length s.classes) ≡ true
      yes m = grind arith

  pub no_list : slice_get lists k ≡ None → [] ≡ cond (nat_lt k (length s.classes)) (ancestors s k) []
  no_list e = by (nat_lt k (length s.classes)) refl
    where
      by : (b : Bool) → nat_lt k (length s.classes) ≡ b → [] ≡ cond b (ancestors s k) []
      by false f = refl
      by true f = let l : k < length s.classes = grind arith in absurd (not_past lists k (omega (arith, l, as_many)) e)

-- ---- a number that no class has

module _ (s : System) (k : ℕ) where
  pub invariant_beyond : (n : ℕ) → slice_get s.classes k ≡ None → invariant_along s (ancestors_within n s k) ≡ []
  invariant_beyond zero e = refl
  invariant_beyond (suc n) e = by (slice_get s.classes k) e
    where
      by : (o : Option Class) → o ≡ None → invariant_along s (option_map_or (ancestors_within n s) (option_and_then (parent_of s) o) []) ++ option_map_or (λ (c : Class). c.invariant) o [] ≡ []
      by None e = refl
      by (Some c) e = cc

  pub invariant_by_ancestors : invariant_along s (cond (nat_lt k (length s.classes)) (ancestors s k) []) ≡ invariant_of s k
  invariant_by_ancestors = by (nat_lt k (length s.classes)) refl
    where
      by : (b : Bool) → nat_lt k (length s.classes) ≡ b → invariant_along s (cond b (ancestors s k) []) ≡ invariant_of s k
      by true e = refl
      by false e = let l : length s.classes ≤ k = grind arith in sym (invariant_beyond (length s.classes) (slice_get_past s.classes k l))

-- the clauses of one more class, below those above it
pub invariant_more : (s : System) (ks : List ℕ) (a b : ℕ) (old new : List Clause) → a ≡ b + 1 → b < length ks → new ≡ old ++ declared_invariant s (get_or ks b 0) → old ≡ invariant_along s (drop a ks) → new ≡ invariant_along s (drop b ks)
invariant_more s ks a b old new e l f g =
    f ∙ ap (λ cs. cs ++ declared_invariant s (get_or ks b 0)) (g ∙ ap (λ (n : ℕ). invariant_along s (drop n ks)) e) ∙ sym (ap (invariant_along s) (drop_more ks b 0 l))

pub joined_by_ancestors : (s : System) (of : ClassId) → invariant_along s (ancestors_of s of) ≡ joined_invariant s of
joined_by_ancestors s (class.Declared k) = invariant_by_ancestors s k
joined_by_ancestors s class.Any = refl
joined_by_ancestors s class.None = refl
joined_by_ancestors s class.Integer = refl
joined_by_ancestors s class.Boolean = refl

pub invariant_in : (s : System) (k : ℕ) (c : tree_class.Class) (items : List tree_clause.Clause) → slice_get s.classes k ≡ Some (class_of c) → items ≡ c.invariant.items → map clause_of items ≡ declared_invariant s k
unfolding class_of
invariant_in s k c items e f = ap (map clause_of) f ∙ sym (ap (λ (o : Option Class). option_map_or (λ (c : Class). c.invariant) o []) e)

pub duplicated : (s : System) (root : Root) (p : Span) → FaultAt s (ClassClashes s) p → Fails s root (fault.DuplicateFeature p)
duplicated s root p (k, c, e, y) = duplicate_feature e y

pub redefined_badly : (s : System) (root : Root) (p : Span) → FaultAt s (BadlyRedefines s) p → Fails s root (fault.BadRedefinition p)
redefined_badly s root p (k, c, e, y) = bad_redefinition e y
