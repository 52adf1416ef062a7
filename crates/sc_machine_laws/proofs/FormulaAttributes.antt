-- Attributes by name and by number: with names and kinds as in the defaults, a name finds the attribute of its number.
use Rattle.std.proofs.Common.{◌≡◌, ℕ, zero, suc, Bool, true, false, List, [], ◌∷◌, Option, Some, None, refl, ap, subst, cond, ◌∙◌}
use Rattle.std.specs.Prelude.{bytes_eq, slice_get, if◌then◌else◌}
use Rattle.std.specs.Option.{option_map}
use Rattle.sc_formula.specs.declared.atom.Atom.{Atom}
use Rattle.sc_formula.specs.Atom.{kind_of, kinds_of}
use Rattle.sc_model.specs.Environments.{Binding, binding_named}
use Rattle.sc_model.specs.Invariants.{atom_of, atoms_of, attribute_named}
use Rattle.sc_model.specs.Values.{Value}
use Rattle.sc_machine_laws.specs.Formulas.{names_of}

-- the kind of the atom of the number
pub kind_at : (atoms : List Atom) (n : ℕ) (a : Atom) → slice_get atoms n ≡ Some a →
    slice_get (kinds_of atoms) n ≡ Some (kind_of a)
kind_at [] n a e = cc
kind_at (b ∷ atoms) zero a e = ap (option_map kind_of) e
kind_at (b ∷ atoms) (suc n) a e = kind_at atoms n a e

-- the first attribute of all
abbrev one : Value → Option (ℕ × Value)
one v = Some (zero, v)

-- the attribute of the name and of the number, of this default's kind
pub record Numbered (x : List ℕ) (bs : List Binding) (n : ℕ) (v : Value) : Type 0 where
  pub binding : Binding
  pub is_named : binding_named x bs ≡ Some binding
  pub is_numbered : slice_get (atoms_of bs) n ≡ Some (atom_of binding.value)
  pub has_kind : kind_of (atom_of binding.value) ≡ kind_of (atom_of v)

abbrev behind_one : Option (ℕ × Value) → Option (ℕ × Value)
behind_one found = option_map (λ (found : ℕ × Value). (suc found.0, found.1)) found

module _ (x : List ℕ) where
  numbered_first : (b : Binding) (bs : List Binding) (v : Value) (n : ℕ) (w : Value) →
      bytes_eq b.name x ≡ true → kind_of (atom_of b.value) ≡ kind_of (atom_of v) →
      one v ≡ Some (n, w) → Numbered x (b ∷ bs) n w
  numbered_first b bs v n w e k f =
      subst (λ (found : Option (ℕ × Value)). At found) f (record {
        binding = b;
        is_named = ap (λ c. cond c (Some b) (binding_named x bs)) e;
        is_numbered = refl;
        has_kind = k;
      })
    where
      At : Option (ℕ × Value) → Type 0
      At None = Unit {0}
      At (Some (n, w)) = Numbered x (b ∷ bs) n w

  numbered_behind : (b : Binding) (bs : List Binding) (found : Option (ℕ × Value)) (n : ℕ) (w : Value) →
      bytes_eq b.name x ≡ false → ((m : ℕ) (v : Value) → found ≡ Some (m, v) → Numbered x bs m v) →
      behind_one found ≡ Some (n, w) → Numbered x (b ∷ bs) n w
  numbered_behind b bs None n w e later f = cc
  numbered_behind b bs (Some (m, v)) n w e later f =
      let r = later m v refl in
      subst (λ (found : Option (ℕ × Value)). At found) f (record {
        binding = r.binding;
        is_named = ap (λ c. cond c (Some b) (binding_named x bs)) e ∙ r.is_named;
        is_numbered = r.is_numbered;
        has_kind = r.has_kind;
      })
    where
      At : Option (ℕ × Value) → Type 0
      At None = Unit {0}
      At (Some (n, w)) = Numbered x (b ∷ bs) n w

  pub attribute_numbered : (bs ds : List Binding) (n : ℕ) (v : Value) → names_of bs ≡ names_of ds →
      kinds_of (atoms_of bs) ≡ kinds_of (atoms_of ds) → attribute_named x ds ≡ Some (n, v) → Numbered x bs n v
  attribute_numbered bs [] n v e k f = cc
  attribute_numbered [] (d ∷ ds) n v e k f = cc
  attribute_numbered (b ∷ bs) (d ∷ ds) n v e k f =
      by (bytes_eq d.name x) refl (λ m w g. attribute_numbered bs ds m w names kinds g) f
    where
      same : b.name ≡ d.name
      same = cc

      kind : kind_of (atom_of b.value) ≡ kind_of (atom_of d.value)
      kind = cc

      names : names_of bs ≡ names_of ds
      names = cc

      kinds : kinds_of (atoms_of bs) ≡ kinds_of (atoms_of ds)
      kinds = cc

      by : (c : Bool) → bytes_eq d.name x ≡ c →
          ((m : ℕ) (w : Value) → attribute_named x ds ≡ Some (m, w) → Numbered x bs m w) →
          (if c then one d.value else behind_one (attribute_named x ds)) ≡ Some (n, v) →
          Numbered x (b ∷ bs) n v
      by true c later f = numbered_first b bs d.value n v (ap (λ y. bytes_eq y x) same ∙ c) kind f
      by false c later f =
          numbered_behind b bs (attribute_named x ds) n v (ap (λ y. bytes_eq y x) same ∙ c) later f
