-- Actuals and formals by their numbers.
use Rattle.std.proofs.Common.{◌≡◌, ℕ, ◌+◌, ◌<◌, ◌≤◌, Bool, true, false, ◌&&◌, List, [], ◌∷◌, ◌++◌, length, drop, get_or, map, ap, sym, ◌∙◌, arith, append_assoc, append-nil}
use Rattle.std.proofs.lemmas.List.{drop_more}
use Rattle.std.proofs.lemmas.Grind.{common_steps}
use Rattle.sc_tree.specs.declared.expression.Expr.{Expr}
use Rattle.sc_tree.specs.declared.declaration.Declaration.{Declaration}
use Rattle.sc_tree.specs.View.{expr_of, exprs_of, declaration_of}
use Rattle.sc_warnings.specs.Sites.{Names, Site, passed, is_reserved, sites_of_passing}
use Rattle.sc_warnings.specs.Warnings.{is_reserved_if_named, are_reserved}

drop_end : {A : Type 0} (xs : List A) (k : ℕ) → length xs ≤ k → drop k xs ≡ []
drop_end xs k l = grind (arith, common_steps)

at : {A : Type 0} (xs : List A) (k : ℕ) (x : A) → k < length xs → x ≡ get_or xs k x → drop k xs ≡ x ∷ drop (k + 1) xs
at xs k x l g = drop_more xs k x l ∙ ap (λ y. y ∷ drop (k + 1) xs) (sym g)

-- ---- actuals

module _ (n : Names) (f : List ℕ) (es : List Expr) where
  -- from this one on
  abbrev pub passing_from : ℕ → List Site
  passing_from i = sites_of_passing n f i (exprs_of (drop i es))

  pub passing_next : (i : ℕ) (e : Expr) (total now new : List Site) → i < length es → e ≡ get_or es i e → total ≡ now ++ passing_from i →
      new ≡ now ++ passed f i (is_reserved n (expr_of e)) ∷ [] → total ≡ new ++ passing_from (i + 1)
  passing_next i e total now new l g so-far more =
      so-far ∙ ap (λ (ds : List Expr). now ++ sites_of_passing n f i (exprs_of ds)) (at es i e l g)
      ∙ sym (append_assoc now (passed f i (is_reserved n (expr_of e)) ∷ []) (passing_from (i + 1)))
      ∙ ap (λ ss. ss ++ passing_from (i + 1)) (sym more)

  pub passing_end : (i : ℕ) (total now : List Site) → length es ≤ i → total ≡ now ++ passing_from i → now ≡ total
  passing_end i total now l so-far =
      sym (so-far ∙ ap (λ (ds : List Expr). now ++ sites_of_passing n f i (exprs_of ds)) (drop_end es i l) ∙ append-nil now)

-- ---- formals

module _ (calls : List Site) (f : List ℕ) (ds : List Declaration) (clause : List Site) where
  -- from this one on
  abbrev pub reserved_from : ℕ → Bool
  reserved_from i = are_reserved calls f i (map declaration_of (drop i ds)) clause

  reserved_at : (i : ℕ) (d : Declaration) → i < length ds → d ≡ get_or ds i d →
      reserved_from i ≡ (is_reserved_if_named calls f i clause (declaration_of d) && reserved_from (i + 1))
  reserved_at i d l g = ap (λ (ds : List Declaration). are_reserved calls f i (map declaration_of ds) clause) (at ds i d l g)

  pub reserved_more : (i : ℕ) (d : Declaration) (b whole : Bool) → i < length ds → d ≡ get_or ds i d → reserved_from i ≡ whole →
      b ≡ is_reserved_if_named calls f i clause (declaration_of d) → b ≡ true → reserved_from (i + 1) ≡ whole
  reserved_more i d b whole l g so-far e holds =
      sym (ap (λ c. c && reserved_from (i + 1)) (sym e ∙ holds)) ∙ sym (reserved_at i d l g) ∙ so-far

  pub reserved_not : (i : ℕ) (d : Declaration) (b whole : Bool) → i < length ds → d ≡ get_or ds i d → reserved_from i ≡ whole →
      b ≡ is_reserved_if_named calls f i clause (declaration_of d) → b ≡ false → false ≡ whole
  reserved_not i d b whole l g so-far e fails =
      sym (ap (λ c. c && reserved_from (i + 1)) (sym e ∙ fails)) ∙ sym (reserved_at i d l g) ∙ so-far

  pub reserved_end : (i : ℕ) (whole : Bool) → length ds ≤ i → reserved_from i ≡ whole → true ≡ whole
  reserved_end i whole l so-far = sym (ap (λ (ds : List Declaration). are_reserved calls f i (map declaration_of ds) clause) (drop_end ds i l)) ∙ so-far
