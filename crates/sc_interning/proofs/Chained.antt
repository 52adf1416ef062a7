-- Lists of numbers by hash.
use Rattle.std.proofs.Common.{◌≡◌, ◌≢◌, ◌⊎◌, ◌≤◌, ◌<◌, ◌+◌, ◌%◌, ◌++◌, ◌∷◌, [], ◌∙◌, inl, inr, ℕ, List, length, get_or, set, replicate, refl, sym, ap, subst, arith, length-append}
use Rattle.std.proofs.lemmas.List.{get_or-replicate, get_or-set_same, get_or-set_other, get_or_append_left, length-set}
use Rattle.std.proofs.lemmas.Bool.{cases_lt}
use Rattle.std.proofs.lemmas.Grind.{get_or_default_zero}
use Rattle.std.proofs.lemmas.List.{length-take, take_more_set}
use Rattle.std.proofs.Common.{rules, take}
use Rattle.std.proofs.Math.Seq.{get_or-append_seam, map-set_same}
use Rattle.sc_interning.specs.declared.index.Link.{Link}
use Rattle.std.specs.Option.{option_map}
use Rattle.std.specs.Prelude.{Some, slice_get}
use Rattle.std.proofs.lemmas.List.{length-map}
use Rattle.std.proofs.lemmas.Option.{same_Some, slice_get-get_or, slice_get-map, slice_get_within}
use Rattle.sc_interning.specs.Chains.{AreChained, IsBefore, list_at, hashes_in, nowhere}

-- no number
pub before_none : (count which : ℕ) (at : ℕ) → at ≡ 0 → IsBefore [] count which 0 at
before_none count which at e = record {
  few = omega arith;
  lies = λ number is. absurd (omega arith);
  none = λ number up below is. absurd (omega arith);
}

pub chained_none : (count : ℕ) → AreChained count [] (replicate count 0)
chained_none count = record {
  heads = λ which below. before_none count which (get_or (replicate count 0) which 0) (get_or-replicate count which 0 0 below);
  nexts = λ number below. absurd (omega arith);
}

either : (m n : ℕ) → (m ≡ n) ⊎ (m ≢ n)
either m n = elim (cases_lt m n) [
  | inl less ↦ inr (λ e. omega arith)
  | inr more ↦ elim (cases_lt n m) [
    | inl less ↦ inr (λ e. omega arith)
    | inr most ↦ inl (omega arith)
  ]
]

module _ (count : ℕ) (links : List Link) (l : Link) where
  one_more : length (links ++ l ∷ []) ≡ length links + 1
  one_more = length-append links (l ∷ [])

  same_at : (number : ℕ) → number < length links → list_at (links ++ l ∷ []) count number ≡ list_at links count number
  same_at number below = ap (λ (x : Link). x.hash % count) (get_or_append_left links (l ∷ []) nowhere number below)

  last_at : list_at (links ++ l ∷ []) count (length links) ≡ l.hash % count
  last_at = ap (λ (x : Link). x.hash % count) (get_or-append_seam links l [] nowhere)

  still : (which bound at : ℕ) → bound ≤ length links → IsBefore links count which bound at → IsBefore (links ++ l ∷ []) count which bound at
  still which bound at within b = record {
    few = b.few;
    lies = λ number is. same_at number (omega (arith, b.few)) ∙ b.lies number is;
    none = λ number up below is. b.none number up below (sym (same_at number (omega arith)) ∙ is);
  }

  -- the list of the new number
  first : IsBefore (links ++ l ∷ []) count (l.hash % count) (length links + 1) (length links + 1)
  first = record {
    few = omega arith;
    lies = λ number is. let e : number ≡ length links = omega arith in ap (λ (n : ℕ). list_at (links ++ l ∷ []) count n) e ∙ last_at;
    none = λ number up below is. absurd (omega arith);
  }

  -- another list
  others : (which at : ℕ) → which ≢ (l.hash % count) → IsBefore links count which (length links) at → IsBefore (links ++ l ∷ []) count which (length links + 1) at
  others which at differ b = record {
    few = omega (arith, b.few);
    lies = (still which (length links) at (omega arith) b).lies;
    none = λ number up below is. elim (cases_lt number (length links)) [
      | inl less ↦ (still which (length links) at (omega arith) b).none number up less is
      | inr more ↦
          let e : number ≡ length links = omega arith in
          differ (sym is ∙ ap (λ (n : ℕ). list_at (links ++ l ∷ []) count n) e ∙ last_at)
    ];
  }

  module _ (firsts : List ℕ) (chained : AreChained count links firsts) (within : l.hash % count < length firsts) (there : l.hash % count < count)
      (next : l.next ≡ get_or firsts (l.hash % count) 0) (fresh : ℕ) (is_fresh : fresh ≡ length links + 1) where
    pub pushed : AreChained count (links ++ l ∷ []) (set firsts (l.hash % count) fresh)
    pushed = record {
      heads = λ which below. subst (λ (n : ℕ). IsBefore (links ++ l ∷ []) count which n (get_or (set firsts (l.hash % count) fresh) which 0)) (sym one_more)
          (elim (either which (l.hash % count)) [
            | inl same ↦
                let e : get_or (set firsts (l.hash % count) fresh) which 0 ≡ length links + 1 =
                ap (λ (b : ℕ). get_or (set firsts (l.hash % count) fresh) b 0) same ∙ get_or-set_same firsts (l.hash % count) fresh 0 within ∙ is_fresh in
                subst (λ (n : ℕ). IsBefore (links ++ l ∷ []) count which (length links + 1) n) (sym e)
                (subst (λ (b : ℕ). IsBefore (links ++ l ∷ []) count b (length links + 1) (length links + 1)) (sym same) first)
            | inr differ ↦
                subst (λ (n : ℕ). IsBefore (links ++ l ∷ []) count which (length links + 1) n) (sym (get_or-set_other firsts (l.hash % count) which fresh 0 differ))
                (others which (get_or firsts which 0) differ (chained.heads which below))
          ]);
      nexts = λ number below. elim (cases_lt number (length links)) [
        | inl less ↦
            let e : get_or (links ++ l ∷ []) number nowhere ≡ get_or links number nowhere = get_or_append_left links (l ∷ []) nowhere number less in
            subst (λ (x : Link). IsBefore (links ++ l ∷ []) count (x.hash % count) number x.next) (sym e)
            (still (list_at links count number) number (get_or links number nowhere).next (omega arith) (chained.nexts number less))
        | inr more ↦
            let same : number ≡ length links = omega (arith, one_more) in
            let e : get_or (links ++ l ∷ []) number nowhere ≡ l = ap (λ (n : ℕ). get_or (links ++ l ∷ []) n nowhere) same ∙ get_or-append_seam links l [] nowhere in
            subst (λ (x : Link). IsBefore (links ++ l ∷ []) count (x.hash % count) number x.next) (sym e)
            (subst (λ (n : ℕ). IsBefore (links ++ l ∷ []) count (l.hash % count) number n) (sym next)
            (subst (λ (n : ℕ). IsBefore (links ++ l ∷ []) count (l.hash % count) n (get_or firsts (l.hash % count) 0)) (sym same)
            (still (l.hash % count) (length links) (get_or firsts (l.hash % count) 0) (omega arith) (chained.heads (l.hash % count) there))))
      ];
    }

-- ---- as code has them

pub hash_count : (links : List Link) → length (hashes_in links) ≡ length links
hash_count links = search (rules, length-map {A = Link} {B = ℕ})

pub chained_empty : (links : List Link) (firsts : List ℕ) → links ≡ [] → firsts ≡ replicate (length firsts) 0 → AreChained (length firsts) links firsts
chained_empty links firsts no_links none =
    subst (λ (ls : List Link). AreChained (length firsts) ls firsts) (sym no_links)
    (subst (λ (bs : List ℕ). AreChained (length firsts) [] bs) (sym none) (chained_none (length firsts)))

pub chained_push : (links more : List Link) (firsts : List ℕ) (hash next which fresh : ℕ) → AreChained (length firsts) links firsts → 0 < length firsts →
    which ≡ hash % length firsts → next ≡ get_or firsts which next → fresh ≡ length links + 1 → more ≡ links ++ record { hash = hash; next = next } ∷ [] →
    AreChained (length (set firsts which fresh)) more (set firsts which fresh)
chained_push links more firsts hash next which fresh chained some is_which is_next is_fresh is_more =
    let l : Link = record { hash = hash; next = next } in
    let within : hash % length firsts < length firsts = omega arith in
    let is_last : next ≡ get_or firsts (hash % length firsts) 0 =
    is_next ∙ ap (λ (b : ℕ). get_or firsts b next) is_which ∙ get_or_default_zero firsts (hash % length firsts) next within in
    let so : AreChained (length firsts) (links ++ l ∷ []) (set firsts (hash % length firsts) fresh) =
    pushed (length firsts) links l firsts chained within within is_last fresh is_fresh in
    subst (λ (n : ℕ). AreChained n more (set firsts which fresh)) (sym (length-set firsts which fresh))
    (subst (λ (b : ℕ). AreChained (length firsts) more (set firsts b fresh)) (sym is_which)
    (subst (λ (ls : List Link). AreChained (length firsts) ls (set firsts (hash % length firsts) fresh)) (sym is_more) so))

-- numbers below are in their lists
pub chained_next : (links : List Link) (firsts : List ℕ) (number hash which : ℕ) → AreChained (length firsts) (take number links) firsts → 0 < length firsts →
    number < length links → which ≡ hash % length firsts →
    AreChained (length (set firsts which (number + 1))) (take (number + 1) (set links number (record { hash = hash; next = get_or firsts which 0 })))
    (set firsts which (number + 1))
chained_next links firsts number hash which chained some below is_which =
    let l : Link = record { hash = hash; next = get_or firsts which 0 } in
    let there : which < length firsts = omega arith in
    chained_push (take number links) (take (number + 1) (set links number l)) firsts hash (get_or firsts which 0) which (number + 1) chained some is_which
    (sym (get_or_default_zero firsts which (get_or firsts which 0) there)) (omega (arith, length-take number links)) (take_more_set links number l below)

pub same_hashes : (links : List Link) (number next : ℕ) (d : Link) → hashes_in (set links number (record { hash = (get_or links number d).hash; next = next })) ≡ hashes_in links
same_hashes links number next d =
    let f : Link → ℕ = λ (l : Link). l.hash in
    map-set_same f links number (record { hash = (get_or links number d).hash; next = next }) d refl

-- ---- a look-up

-- From this number on nothing fits under the hash, and before it fits the next of its list.
pub record Misses (links : List Link) (count hash : ℕ) (Fits : ℕ → Type 0) (at : ℕ) : Type 0 where
  pub few : at ≤ length links
  pub lies : (number : ℕ) → at ≡ number + 1 → list_at links count number ≡ hash % count
  pub none : (number : ℕ) → at ≤ number → number < length links → (get_or links number nowhere).hash ≡ hash → Fits number → ⊥

module _ (links : List Link) (count hash : ℕ) (Fits : ℕ → Type 0) where
  pub misses_first : (firsts : List ℕ) (at : ℕ) → AreChained count links firsts → hash % count < count → at ≡ get_or firsts (hash % count) 0 → Misses links count hash Fits at
  misses_first firsts at chained there is =
      let b : IsBefore links count (hash % count) (length links) at =
      subst (λ (n : ℕ). IsBefore links count (hash % count) (length links) n) (sym is) (chained.heads (hash % count) there) in
      record {
        few = b.few;
        lies = b.lies;
        none = λ number up below same fits. b.none number up below (ap (λ (n : ℕ). n % count) same);
      }

  pub misses_next : (firsts : List ℕ) (at number : ℕ) (link : Link) → AreChained count links firsts → Misses links count hash Fits at → at ≡ number + 1 →
      link ≡ get_or links number nowhere → (link.hash ≡ hash → Fits number → ⊥) → Misses links count hash Fits link.next
  misses_next firsts at number link chained m here is not_here =
      let below : number < length links = omega (arith, m.few) in
      let lies = m.lies number here in
      let b : IsBefore links count (hash % count) number link.next =
      subst (λ (x : Link). IsBefore links count (hash % count) number x.next) (sym is)
      (subst (λ (n : ℕ). IsBefore links count n number (get_or links number nowhere).next) lies (chained.nexts number below)) in
      record {
        few = omega (arith, b.few);
        lies = b.lies;
        none = λ other up within same fits. elim (cases_lt other number) [
          | inl less ↦ b.none other up less (ap (λ (n : ℕ). n % count) same)
          | inr more ↦ elim (cases_lt number other) [
            | inl past ↦ m.none other (omega arith) within same fits
            | inr most ↦
                let e : other ≡ number = omega arith in
                not_here (ap (λ (x : Link). x.hash) is ∙ ap (λ (n : ℕ). (get_or links n nowhere).hash) (sym e) ∙ same) (subst Fits e fits)
          ]
        ];
      }

  pub misses_all : (at : ℕ) → at ≤ 0 → Misses links count hash Fits at → (number : ℕ) → slice_get (hashes_in links) number ≡ Some hash → Fits number → ⊥
  misses_all at end m number is fits =
      let within : number < length (hashes_in links) = slice_get_within (hashes_in links) number hash is in
      let below : number < length links = omega (arith, hash_count links) in
      let e : (get_or links number nowhere).hash ≡ hash =
      same_Some (get_or links number nowhere).hash hash
      (sym (slice_get-map (λ (l : Link). l.hash) links number ∙ ap (option_map (λ (l : Link). l.hash)) (slice_get-get_or links number nowhere below)) ∙ is) in
      m.none number (omega arith) below e fits
