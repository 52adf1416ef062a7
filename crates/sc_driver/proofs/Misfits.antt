-- Lines of a record, one after the other.
use Rattle.std.proofs.Common.{◌≡◌, ◌<◌, ◌≤◌, ◌+◌, ◌⊎◌, ℕ, zero, suc, refl, List, [], ◌∷◌, ◌++◌, length, take, get_or, inl, inr, ap, subst, ◌∙◌, arith}
use Rattle.std.proofs.lemmas.List.{get_or_at, length-take-le, take_more}
use Rattle.std.proofs.lemmas.List.Elements.{All-get_or, All-more, All-take}
use Rattle.std.proofs.lemmas.List.Sums.{sum_by-take-le, sum_by_push}
use Rattle.std.specs.List.{All}
use Rattle.sc_lockpass.specs.declared.version.Version.{Version}
use Rattle.sc_lockpass.specs.Versions.{most_handlers}
use Rattle.sc_audit.specs.declared.line.RecordLine.{RecordLine}
use Rattle.sc_audit.specs.Records.{IsRecord, most_lines, most_turns, turns_of}
use Rattle.sc_driver.specs.Laws.{MisfitsAreNoRecord, OneMisfit}
use Rattle.sc_driver.specs.Misfits.{IsFirstMisfit, IsLine}

module _ (v : Version) (ls : List RecordLine) (i left : ℕ) (d : RecordLine) (below : i < length ls) (sum : turns_of (take i ls) + left ≡ most_turns) where
  abbrev line : RecordLine
  line = get_or ls i d

  count : length (take (i + 1) ls) ≡ i + 1
  count = length-take-le (i + 1) ls (omega (arith, below))

  turns : turns_of (take (i + 1) ls) ≡ turns_of (take i ls) + line.turns
  turns = ap turns_of (take_more ls i d below) ∙ sum_by_push (λ (l : RecordLine). l.turns) (take i ls) line

  -- one more line fits
  pub fits-more : i < most_lines → IsLine v left line → IsRecord v (take i ls) → IsRecord v (take (i + 1) ls)
  fits-more few is fits = record {
    handlers = All-more (λ (l : RecordLine). l.handler < most_handlers v) ls i d below fits.handlers is.handler;
    some = All-more (λ (l : RecordLine). 0 < l.turns) ls i d below fits.some is.some;
    few = omega (arith, count, few);
    short = omega (arith, turns, sum, is.few);
  }

  -- fewer turns are left then
  pub left-more : (rest : ℕ) → rest + line.turns ≡ left → turns_of (take (i + 1) ls) + rest ≡ most_turns
  left-more rest e = omega (arith, turns, sum, e)

  -- what holds of all lines up to it holds of it
  at : (P : RecordLine → Type 0) → All P (take (i + 1) ls) → P line
  at P all =
      let more : take (i + 1) ls ≡ take i ls ++ line ∷ [] = take_more ls i d below in
      let there : i < length (take i ls ++ line ∷ []) = subst (λ (xs : List RecordLine). i < length xs) more (omega (arith, count)) in
      subst P (get_or_at (take i ls) line [] d i (length-take-le i ls (omega (arith, below))))
      (All-get_or P (take i ls ++ line ∷ []) i d there (subst (λ (xs : List RecordLine). All P xs) more all))

  -- one line too many, or one that doesn't fit
  pub misfit : (most_lines ≤ i) ⊎ (IsLine v left line → ⊥) → IsRecord v (take (i + 1) ls) → ⊥
  misfit (inl many) r = let never : ⊥ = omega (arith, many, count, r.few) in never
  misfit (inr unfit) r = unfit (record {
    handler = at (λ (l : RecordLine). l.handler < most_handlers v) r.handlers;
    some = at (λ (l : RecordLine). 0 < l.turns) r.some;
    few = omega (arith, turns, sum, r.short);
  })

-- ---- laws

at-most : (k : ℕ) (ls : List RecordLine) → length (take k ls) ≤ length ls
at-most zero ls = omega arith
at-most (suc k) [] = omega arith
at-most (suc k) (l ∷ ls) = omega (arith, at-most k ls)

-- the first lines of a record are a record's
prefix : (v : Version) (ls : List RecordLine) (k : ℕ) → IsRecord v ls → IsRecord v (take k ls)
prefix v ls k r = record {
  handlers = All-take (λ (l : RecordLine). l.handler < most_handlers v) k ls r.handlers;
  some = All-take (λ (l : RecordLine). 0 < l.turns) k ls r.some;
  few = omega (arith, at-most k ls, r.few);
  short = omega (arith, sum_by-take-le (λ (l : RecordLine). l.turns) ls k, r.short);
}

pub misfits-are-no-record : MisfitsAreNoRecord
misfits-are-no-record v ls n m r = m.misfit (prefix v ls (m.before + 1) r)

take-less : (k n : ℕ) (ls : List RecordLine) → k ≤ n → take k (take n ls) ≡ take k ls
take-less zero n ls le = refl
take-less (suc k) zero ls le = absurd (omega (arith, le))
take-less (suc k) (suc n) [] le = refl
take-less (suc k) (suc n) (l ∷ ls) le = ap (λ xs. l ∷ xs) (take-less k n ls (omega (arith, le)))

-- none is before another
not-before : (v : Version) (ls : List RecordLine) (m n : ℕ) (a : IsFirstMisfit v ls m) (b : IsFirstMisfit v ls n) → a.before < b.before → ⊥
not-before v ls m n a b less =
    a.misfit (subst (λ (xs : List RecordLine). IsRecord v xs) (take-less (a.before + 1) b.before ls (omega (arith, less)))
    (prefix v (take b.before ls) (a.before + 1) b.fits))

pub one-misfit : OneMisfit
one-misfit v ls m n a b = elim (three a.before b.before) [
  | inl less ↦ absurd (not-before v ls m n a b less)
  | inr rest ↦ elim rest [
    | inl more ↦ absurd (not-before v ls n m b a more)
    | inr same ↦ omega (arith, a.number_is, b.number_is, same)
  ]
]
  where
    three : (x y : ℕ) → (x < y) ⊎ ((y < x) ⊎ (x ≡ y))
    three x y = grind (arith)
