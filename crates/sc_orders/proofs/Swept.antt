-- Edges that are gone through.
use Rattle.std.proofs.Common.{◌≡◌, ◌≢◌, ◌⊎◌, ◌<◌, ◌+◌, ◌∙◌, inl, inr, ℕ, zero, suc, Bool, true, false, List, [], ◌∷◌, Some, get_or, length, set, slice_get, refl, sym, ap, subst, arith}
use Rattle.std.proofs.lemmas.Bool.{cases_lt}
use Rattle.std.proofs.lemmas.List.{get_or-set_same, get_or-set_other, length-set}
use Rattle.std.proofs.lemmas.Option.{slice_get_within}
use Rattle.sc_orders.specs.declared.edges.Edge.{Edge}
use Rattle.sc_orders.specs.Edges.{AllLead, IsSwept, Leads, Here, Along, unmarked}

either : (m n : ℕ) → (m ≡ n) ⊎ (m ≢ n)
either m n = elim (cases_lt m n) [
  | inl less ↦ inr (λ e. omega arith)
  | inr more ↦ elim (cases_lt n m) [
    | inl less ↦ inr (λ e. omega arith)
    | inr most ↦ inl (omega arith)
  ]
]

pub unmarked_set : (bs : List Bool) (i : ℕ) → i < length bs → get_or bs i false ≡ false → unmarked (set bs i true) + 1 ≡ unmarked bs
unmarked_set [] i below e = absurd (omega (arith, below))
unmarked_set (true ∷ bs) zero below e = cc
unmarked_set (false ∷ bs) zero below e = refl
unmarked_set (true ∷ bs) (suc i) below e = unmarked_set bs i (omega (arith, below)) e
unmarked_set (false ∷ bs) (suc i) below e = let rest = unmarked_set bs i (omega (arith, below)) e in omega (arith, rest)

pub stays_set : (bs : List Bool) (i : ℕ) (state : ℕ) → i < length bs → get_or bs state false ≡ true → get_or (set bs i true) state false ≡ true
stays_set bs i state below e = elim (either state i) [
  | inl same ↦ ap (λ (n : ℕ). get_or (set bs i true) n false) same ∙ get_or-set_same bs i true false below
  | inr differ ↦ get_or-set_other bs i state true false differ ∙ e
]

pub lead_set : (edges : List Edge) (busy moves : List Bool) (place : ℕ) (edge : Edge) → slice_get edges place ≡ Some edge → get_or moves edge.to false ≡ true →
    AllLead edges busy moves → AllLead edges busy (set moves edge.from true)
lead_set edges busy moves place edge at to all = λ state e. elim (either state edge.from) [
  | inl same ↦ subst (λ (n : ℕ). Leads edges busy n) (sym same) (Along place edge at (all edge.to to))
  | inr differ ↦ all state (sym (get_or-set_other moves edge.from state true false differ) ∙ e)
]

-- one more edge, of which the first isn't told, or the second is
pub kept_next : (edges : List Edge) (moves : List Bool) (done place : ℕ) (edge : Edge) → slice_get edges place ≡ Some edge → place + done + 1 ≡ length edges →
    (get_or moves edge.to false ≡ true → get_or moves edge.from false ≡ true) → IsSwept edges moves done → IsSwept edges moves (done + 1)
kept_next edges moves done place edge at here holds kept = λ other e at_e past to. elim (either other place) [
  | inl same ↦
      let both : Some e ≡ Some edge = sym at_e ∙ ap (slice_get edges) same ∙ at in
      let one : e ≡ edge = cc in
      ap (λ (x : Edge). get_or moves x.from false) one ∙ holds (sym (ap (λ (x : Edge). get_or moves x.to false) one) ∙ to)
  | inr differ ↦ kept other e at_e (omega (arith, past, differ)) to
]

-- where nothing changes any more, all that lead are told
pub all_told : (edges : List Edge) (busy moves : List Bool) (state : ℕ) → ((s : ℕ) → get_or busy s false ≡ true → get_or moves s false ≡ true) →
    IsSwept edges moves (length edges) → Leads edges busy state → get_or moves state false ≡ true
all_told edges busy moves state first kept (Here s e) = first s e
all_told edges busy moves state first kept (Along place edge at rest) = kept place edge at (omega arith) (all_told edges busy moves edge.to first kept rest)

-- ---- a round

-- so many edges, from the last on, are gone through
pub record Swept (edges : List Edge) (first moves : List Bool) (changed : Bool) (done : ℕ) : Type 0 where
  pub count : length moves ≡ length first
  pub stay : (state : ℕ) → get_or first state false ≡ true → get_or moves state false ≡ true
  pub lead : (busy : List Bool) → AllLead edges busy first → AllLead edges busy moves
  pub kept : changed ≡ false → (moves ≡ first) × IsSwept edges moves done
  pub fewer : changed ≡ true → unmarked moves < unmarked first

pub swept_none : (edges : List Edge) (first : List Bool) → Swept edges first first false 0
swept_none edges first = record {
  count = refl;
  stay = λ state e. e;
  lead = λ busy all. all;
  kept = λ e. (refl, λ place edge at past to. let within = slice_get_within edges place edge at in absurd (omega (arith, past, within)));
  fewer = λ e. cc;
}

-- one more changed nothing
pub swept_same : (edges : List Edge) (first moves more : List Bool) (changed : Bool) (done place : ℕ) (edge : Edge) → Swept edges first moves changed done →
    slice_get edges place ≡ Some edge → place + done + 1 ≡ length edges → more ≡ moves → (get_or moves edge.to false ≡ true → get_or moves edge.from false ≡ true) →
    Swept edges first more changed (done + 1)
swept_same edges first moves more changed done place edge s at here same told = subst (λ (bs : List Bool). Swept edges first bs changed (done + 1)) (sym same) (record {
  count = s.count;
  stay = s.stay;
  lead = s.lead;
  kept = λ e. ((s.kept e).0, kept_next edges moves done place edge at here told (s.kept e).1);
  fewer = s.fewer;
})

-- one more changed something
pub swept_set : (edges : List Edge) (first moves more : List Bool) (changed : Bool) (done place : ℕ) (edge : Edge) → Swept edges first moves changed done →
    slice_get edges place ≡ Some edge → edge.from < length first → more ≡ set moves edge.from true → get_or moves edge.to false ≡ true → get_or moves edge.from false ≡ false →
    Swept edges first more true (done + 1)
swept_set edges first moves more changed done place edge s at within is to not_yet = subst (λ (bs : List Bool). Swept edges first bs true (done + 1)) (sym is) (record {
  count = length-set moves edge.from true ∙ s.count;
  stay = λ state e. stays_set moves edge.from state (omega (arith, s.count)) (s.stay state e);
  lead = λ busy all. lead_set edges busy moves place edge at to (s.lead busy all);
  kept = λ e. cc;
  fewer = λ e. fewer_by changed (unmarked_set moves edge.from (omega (arith, s.count)) not_yet) s.kept s.fewer;
})
  where
    fewer_by : (b : Bool) → unmarked (set moves edge.from true) + 1 ≡ unmarked moves → (b ≡ false → (moves ≡ first) × IsSwept edges moves done) → (b ≡ true → unmarked moves < unmarked first) →
        unmarked (set moves edge.from true) < unmarked first
    fewer_by true one kept fewer = omega (arith, one, fewer refl)
    fewer_by false one kept fewer = omega (arith, one, ap unmarked (kept refl).0)
