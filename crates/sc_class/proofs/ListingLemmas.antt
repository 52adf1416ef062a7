-- The faults of each code, which together are all faults of a system's classes.
use Rattle.std.proofs.Common.{◌≡◌, ◌<◌, ◌≤◌, Bool, true, false, eqb, List, [], ◌∷◌, ◌++◌, Option, Some, None, length, get_or, map, refl, ap, sym, subst, ◌∙◌, ◌⊎◌, inl, inr, arith}
use Rattle.std.specs.Prelude.{Contains}
use Rattle.std.specs.Cmp.{IsStrictWeakOrder}
use Rattle.std.specs.List.Sorted.{IsPermutation, IsSortedBy}
use Rattle.std.proofs.lemmas.List.{get_or_default}
use Rattle.std.proofs.lemmas.List.Sorted.{All-permutation, Contains-permutation, sorted_far}
use Rattle.sc_text.specs.declared.token.Span.{Span}
use Rattle.sc_tree.specs.Plain.{System}
use Rattle.sc_class.specs.declared.fault.ClassFault.{ClassFault}
use Rattle.sc_class.specs.declared.fault.ClassFault.TheVariants as fault
use Rattle.sc_class.specs.ClassNames.{Root}
use Rattle.sc_class.specs.Tables.Ancestors.{CycleAt}
use Rattle.sc_class.specs.Faults.ClassRules.{Fails, IsPlacedFirst, code_number, has_root, duplicate_class, unknown_parent, cycle, duplicate_feature, bad_redefinition, no_root, limit, left_out}
use Rattle.sc_class.specs.Faults.FaultList.{AreClassFaults, BeginsWithFirst, comes_before, start_of}
use Rattle.sc_class.specs.Faults.Limits.{PassesLimit}
use Rattle.sc_class.specs.Internal.Found.{Finds, FindsOnly}
use Rattle.sc_class.specs.Internal.Listing.{IsRepeated, IsUnknown, IsCycle, IsNoRoot, IsLimit, IsLeftOut, OfClasses, OfFeatures, OfOutline}
use Rattle.sc_class.specs.Internal.FaultAt.{FaultAt}
use Rattle.sc_class.specs.Internal.Places.{Gains, Has, IsOf, Lists, if_any}
use Rattle.sc_class.specs.Faults.Scopes.{ClassClashes}
use Rattle.sc_class.specs.Faults.Redefinition.{BadlyRedefines}
use Rattle.sc_class.proofs.CycleLemmas.{cycle_once}
use Rattle.sc_class.proofs.PlaceLists.{gains_append, gains_both, lists_gained, mapped, only}

pub gains_mapped : {X Y : Type 0} {P : X → Type 0} (f : X → Y) (xs : List X) (old new : List Y) → Lists P xs → new ≡ old ++ map f xs → Gains (IsOf f P) old new
gains_mapped f xs old new l e = gains_append old (map f xs) new (mapped f xs l) e

module _ (s : System) where
  pub no_cycle : Finds (CycleAt s) None → FindsOnly (IsCycle s) None
  no_cycle none f (p, e, y) = none p y

  pub one_cycle : (p : Span) → Finds (CycleAt s) (Some p) → FindsOnly (IsCycle s) (Some (fault.Cycle p))
  one_cycle p y = ((p, refl, y), λ f r. same f r)
    where
      same : (f : ClassFault) → IsCycle s f → f ≡ fault.Cycle p
      same f (q, e, z) = e ∙ ap (λ (p : Span). fault.Cycle p) (cycle_once s q p z y)

module _ (s : System) (root : Root) where
  pub rooted : has_root s root ≡ true → FindsOnly (IsNoRoot s root) None
  rooted h f (e, i) = let q : true ≡ false = sym h ∙ i in cc

  pub unrooted : has_root s root ≡ false → FindsOnly (IsNoRoot s root) (Some fault.NoRoot)
  unrooted h = ((refl, h), λ f r. r.0)

  fails_parts : (f : ClassFault) → Fails s root f → OfClasses s f ⊎ OfOutline s root f
  fails_parts _ (duplicate_class {p} y) = inl (inl (p, refl, y))
  fails_parts _ (unknown_parent {p} y) = inl (inr (inl (p, refl, y)))
  fails_parts _ (cycle {p} y) = inl (inr (inr (p, refl, y)))
  fails_parts _ (duplicate_feature {p} {k} {c} e y) = inr (inl (inl (p, refl, (k, c, e, y))))
  fails_parts _ (bad_redefinition {p} {k} {c} e y) = inr (inl (inr (p, refl, (k, c, e, y))))
  fails_parts _ (no_root e) = inr (inr (inl (refl, e)))
  fails_parts _ (limit y) = inr (inr (inr (inl (refl, y))))
  fails_parts _ (left_out {x} y) = inr (inr (inr (inr (x, refl, y))))

  of_classes : (f : ClassFault) → OfClasses s f → Fails s root f
  of_classes f (inl (p, e, y)) = subst (Fails s root) (sym e) (duplicate_class y)
  of_classes f (inr (inl (p, e, y))) = subst (Fails s root) (sym e) (unknown_parent y)
  of_classes f (inr (inr (p, e, y))) = subst (Fails s root) (sym e) (cycle y)

  of_outline : (f : ClassFault) → OfOutline s root f → Fails s root f
  of_outline f (inl (inl (p, e, (k, c, g, y)))) = subst (Fails s root) (sym e) (duplicate_feature g y)
  of_outline f (inl (inr (p, e, (k, c, g, y)))) = subst (Fails s root) (sym e) (bad_redefinition g y)
  of_outline f (inr (inl (e, h))) = subst (Fails s root) (sym e) (no_root h)
  of_outline f (inr (inr (inl (e, y)))) = subst (Fails s root) (sym e) (limit y)
  of_outline f (inr (inr (inr (x, e, y)))) = subst (Fails s root) (sym e) (left_out {x = x} y)

  pub fails_gained : (a b c : List ClassFault) → Gains (OfClasses s) a b → Gains (OfOutline s root) b c → Gains (Fails s root) a c
  fails_gained a b c l m = gains_both of_classes of_outline fails_parts l m

  pub all_listed : (none found faults : List ClassFault) → none ≡ [] → Gains (Fails s root) none found → IsPermutation found faults → IsSortedBy comes_before faults → AreClassFaults s root faults
  all_listed none found faults e l p o = record {
    each_fails = All-permutation (Fails s root) found faults p (λ k d i. lists.each_is (get_or found k d) (k, get_or found k d, i, get_or_default found k (get_or found k d) d i, refl));
    each_listed = λ f y. has faults f (Contains-permutation found faults f p (contains found f (lists.each_listed f y)));
    in_order = o;
  }
    where
      lists : Lists (Fails s root) found
      lists = lists_gained none found e l

      contains : (xs : List ClassFault) (f : ClassFault) → Has xs f → Contains xs f
      contains xs f (k, x, i, q, r) = (k, i, get_or_default xs k f x i ∙ q ∙ r)

      has : (xs : List ClassFault) (f : ClassFault) → Contains xs f → Has xs f
      has xs f (k, i, q) = (k, f, i, q, refl)

-- ---- the order of the list

before_either : (f g : ClassFault) → comes_before g f ≡ false → (code_number f ≤ code_number g) × (code_number f ≡ code_number g → start_of f ≤ start_of g)
before_either f g e = (grind arith, λ q. grind arith)

not_before : (f g : ClassFault) → code_number f ≤ code_number g → (code_number f ≡ code_number g → start_of f ≤ start_of g) → comes_before g f ≡ false
not_before f g l h = by (eqb (code_number g) (code_number f)) refl
  where
    by : (b : Bool) → eqb (code_number g) (code_number f) ≡ b → comes_before g f ≡ false
    by true e = let m : start_of f ≤ start_of g = h (grind arith) in grind arith
    by false e = grind arith

pub in_ranks : IsStrictWeakOrder comes_before
in_ranks = record { one_way = λ f g e. grind arith; chain = λ f g h d e. chain f g h d e }
  where
    chain : (f g h : ClassFault) → comes_before f g ≡ false → comes_before g h ≡ false → comes_before f h ≡ false
    chain f g h d e =
        let x = before_either g f d in
        let y = before_either h g e in
        not_before h f (omega (arith, x.0, y.0)) (λ q. omega (arith, x.1 (omega (arith, x.0, y.0, q)), y.1 (omega (arith, x.0, y.0, q))))

module _ (s : System) (root : Root) (faults : List ClassFault) (are : AreClassFaults s root faults) where
  before_none : (f : ClassFault) (more : List ClassFault) → faults ≡ f ∷ more → (g : ClassFault) → Fails s root g → comes_before g f ≡ false
  before_none f more e g y = of (are.each_listed g y)
    where
      of : Has faults g → comes_before g f ≡ false
      of (k, x, i, q, r) =
          let there : get_or faults k x ≡ g = q ∙ r in
          let here : get_or faults 0 x ≡ f = ap (λ xs. get_or xs 0 x) e in
          subst (λ h. comes_before g h ≡ false) here (subst (λ h. comes_before h (get_or faults 0 x) ≡ false) there (sorted_far comes_before in_ranks faults are.in_order 0 k x (omega arith) i))

  placed_first : (f : ClassFault) → ((g : ClassFault) → Fails s root g → comes_before g f ≡ false) → IsPlacedFirst s root f
  placed_first (fault.DuplicateClass p) h = λ q y. (before_either (fault.DuplicateClass p) (fault.DuplicateClass q) (h (fault.DuplicateClass q) y)).1 refl
  placed_first (fault.UnknownParent p) h = λ q y. (before_either (fault.UnknownParent p) (fault.UnknownParent q) (h (fault.UnknownParent q) y)).1 refl
  placed_first (fault.Cycle p) h = λ q y. (before_either (fault.Cycle p) (fault.Cycle q) (h (fault.Cycle q) y)).1 refl
  placed_first (fault.DuplicateFeature p) h = λ q y. (before_either (fault.DuplicateFeature p) (fault.DuplicateFeature q) (h (fault.DuplicateFeature q) y)).1 refl
  placed_first (fault.BadRedefinition p) h = λ q y. (before_either (fault.BadRedefinition p) (fault.BadRedefinition q) (h (fault.BadRedefinition q) y)).1 refl
  placed_first (fault.LeftOut what p) h = λ other q y. (before_either (fault.LeftOut what p) (fault.LeftOut other q) (h (fault.LeftOut other q) y)).1 refl
  placed_first fault.NoRoot h = tt
  placed_first fault.Limit h = tt
  placed_first fault.OutOfMemory h = tt

  pub begins_with_first : BeginsWithFirst s root faults
  begins_with_first f more e =
      let none = before_none f more e in
      (λ g y. (before_either f g (none g y)).0, placed_first f none)

  -- where one fault is in the system the list isn't empty
  pub not_empty : (f : ClassFault) → Fails s root f → 0 < length faults
  not_empty f y = let h = are.each_listed f y in omega (arith, h.2)

pub classes_gained : (s : System) (o : Option ClassFault) (a b c d : List ClassFault) → Gains (IsRepeated s) a b → Gains (IsUnknown s) b c → FindsOnly (IsCycle s) o → d ≡ c ++ if_any o → Gains (OfClasses s) a d
classes_gained s o a b c d l m f e =
    gains_both {R = OfClasses s} (λ x. inl) (λ x. inr) (λ x r. r) l
    (gains_both {R = λ x. IsUnknown s x ⊎ IsCycle s x} (λ x. inl) (λ x. inr) (λ x r. r) m (gains_append c (if_any o) d (only (IsCycle s) o f) e))

pub features_gained : (s : System) (a b c : List ClassFault) (clashes redefinitions : List Span) → Lists (FaultAt s (ClassClashes s)) clashes → Lists (FaultAt s (BadlyRedefines s)) redefinitions →
    b ≡ a ++ map (λ p. fault.DuplicateFeature p) clashes → c ≡ b ++ map (λ p. fault.BadRedefinition p) redefinitions → Gains (OfFeatures s) a c
features_gained s a b c clashes redefinitions l m e f =
    gains_both {R = OfFeatures s} (λ x. inl) (λ x. inr) (λ x r. r) (gains_mapped (λ (p : Span). fault.DuplicateFeature p) clashes a b l e) (gains_mapped (λ (p : Span). fault.BadRedefinition p) redefinitions b c m f)

pub outline_gained : (s : System) (root : Root) (o p : Option ClassFault) (a b c d e : List ClassFault) → Gains (OfFeatures s) a b → FindsOnly (IsNoRoot s root) o → c ≡ b ++ if_any o → FindsOnly (IsLimit s) p → d ≡ c ++ if_any p → Gains (IsLeftOut s) d e → Gains (OfOutline s root) a e
outline_gained s root o p a b c d e l f g h i m =
    gains_both {R = OfOutline s root} (λ x. inl) (λ x. inr) (λ x r. r) l
    (gains_both {R = λ x. IsNoRoot s root x ⊎ (IsLimit s x ⊎ IsLeftOut s x)} (λ x. inl) (λ x. inr) (λ x r. r) (gains_append b (if_any o) c (only (IsNoRoot s root) o f) g)
    (gains_both {R = λ x. IsLimit s x ⊎ IsLeftOut s x} (λ x. inl) (λ x. inr) (λ x r. r) (gains_append c (if_any p) d (only (IsLimit s) p h) i) m))

pub passed : (s : System) → PassesLimit s → FindsOnly (IsLimit s) (Some fault.Limit)
passed s y = ((refl, y), λ f r. r.0)

pub not_passed : (s : System) → (PassesLimit s → ⊥) → FindsOnly (IsLimit s) None
not_passed s none f (e, y) = none y
