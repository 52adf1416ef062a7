-- Turns under a job.
use Rattle.std.proofs.Common.{◌≡◌, inl, inr, ℕ, Bool, true, false, Result, Ok, Err, IfOk, OnErr, refl, ap, ◌∙◌, subst, arith}
use Rattle.sc_region.specs.declared.job.Job.{Job}
use Rattle.sc_region.specs.declared.job.Want.{Want}
use Rattle.sc_region.specs.declared.job.Want.TheVariants as want
use Rattle.sc_region.specs.Stores.{PlainStore}
use Rattle.sc_play.specs.Regions.{EndsIn, IsRefused, PlainRegion, Plays, PlaysOn, PlaysUnder, tells}
use Rattle.sc_play.specs.Turns.{AreMade, Begins, FirstTurn, StopsFirst, TurnOf, begun, first, is_going}
use Rattle.sc_play.proofs.Programs.{begun_keeps, turns_keep}

made_first : (h : ℕ) (is_told : Bool) (j : Job) (x s : PlainStore) (v : Want) →
    Begins true h (λ z u. FirstTurn h is_told j x z u) (begun is_told j x) s v → AreMade 1 h is_told j x s v
made_first h is_told j x s v f = first {y = s} {w = v} f

made_none : (h : ℕ) (is_told : Bool) (j : Job) (x s : PlainStore) (v : Want) →
    Begins false h (λ z u. FirstTurn h is_told j x z u) (begun is_told j x) s v → AreMade 0 h is_told j x s v
made_none h is_told j x s v f = (f.1, λ z u turn. f.2 z u (subst (λ (q : PlainStore). TurnOf h q z u) f.0 turn))

under_by : (made limit h : ℕ) (is_told : Bool) (j : Job) (x s y : PlainStore) (v : Want) (n : ℕ) (w : Want) → AreMade made h is_told j x s v → PlaysOn made limit h s v y n w →
    PlaysUnder limit h is_told j x y n w
under_by made limit h is_told j x s y v n w m p = record { few = p.few; some = p.some; last = p.last; turns = p.turns is_told j x m; ends = p.ends }

-- the first turn was made, and those that follow it
pub plays_behind : {E : Type 0} (r : Result ℕ E) (b : Bool) (limit h : ℕ) (is_told : Bool) (j : Job) (x s y : PlainStore) (v w : Want) → b ≡ true →
    Begins b h (λ z u. FirstTurn h is_told j x z u) (begun is_told j x) s v → IfOk r (λ n. PlaysOn 1 limit h s v y n w) → IfOk r (λ n. PlaysUnder limit h is_told j x y n w)
plays_behind (Ok n) true limit h is_told j x s y v w e f p = under_by 1 limit h is_told j x s y v n w (made_first h is_told j x s v f) p
plays_behind (Err d) true limit h is_told j x s y v w e f p = tt
plays_behind r false limit h is_told j x s y v w e f p = absurd (cc)

-- it wasn't
pub plays_from : {E : Type 0} (r : Result ℕ E) (b : Bool) (limit h : ℕ) (is_told : Bool) (j : Job) (x s y : PlainStore) (v w : Want) → b ≡ false →
    Begins b h (λ z u. FirstTurn h is_told j x z u) (begun is_told j x) s v → IfOk r (λ n. PlaysOn 0 limit h s v y n w) → IfOk r (λ n. PlaysUnder limit h is_told j x y n w)
plays_from (Ok n) false limit h is_told j x s y v w e f p = under_by 0 limit h is_told j x s y v n w (made_none h is_told j x s v f) p
plays_from (Err d) false limit h is_told j x s y v w e f p = tt
plays_from r true limit h is_told j x s y v w e f p = absurd (cc)

pub begins_nothing : (b : Bool) (h : ℕ) (is_told : Bool) (j : Job) (x s : PlainStore) (v : Want) → b ≡ false →
    Begins b h (λ z u. FirstTurn h is_told j x z u) (begun is_told j x) s v → (s ≡ begun is_told j x) × (v ≡ want.Continue)
begins_nothing false h is_told j x s v e f = (f.0, f.1)
begins_nothing true h is_told j x s v e f = absurd (cc)

-- memory is refused to the first alone
pub never_first : {T E : Type 0} (r : Result T E) (made : ℕ) (P : Type 0) → made ≡ 1 → OnErr r (made ≡ 0) → OnErr r P
never_first (Ok t) made P one none = tt
never_first (Err d) made P one none = absurd (omega (arith, one, none))

-- ---- of a region

ended_keeps : (n limit : ℕ) (x : PlainStore) (w : Want) (y : PlainStore) → EndsIn n limit x w y → y.program ≡ x.program
ended_keeps n limit x w y (inl e) = ap (λ (z : PlainStore). z.program) e
ended_keeps n limit x w y (inr (few, e, ahead)) = ahead.remains.program

pub plays_by : (limit : ℕ) (j : Job) (x : PlainRegion) (y : PlainStore) (n : ℕ) (w : Want) → PlaysUnder limit x.handler x.is_told j x.store y n w →
    Plays limit j x (record x { store = y; is_told = false }) (record { handler = x.handler; turns = n; want = w })
plays_by limit j x y n w p = record {
  handler = refl;
  few = p.few;
  some = p.some;
  last = p.last;
  turns = p.turns;
  ends = p.ends;
  same = refl;
  program = ended_keeps n limit p.last w y p.ends ∙ turns_keep x.handler x.is_told j x.store n p.last w p.turns;
}

stops_keep : (b : Bool) (x y : PlainStore) → StopsFirst b x y → y.program ≡ x.program
stops_keep false x y same = ap (λ (z : PlainStore). z.program) same
stops_keep true x y ahead = ahead.remains.program

-- memory was refused to the first
pub refused_by : (j : Job) (x : PlainRegion) (y : PlainStore) → StopsFirst (is_going j) (begun x.is_told j x.store) y →
    IsRefused j x (record x { store = y; is_told = tells x.is_told j })
refused_by j x y stops = record {
  store = stops;
  same = refl;
  program = stops_keep (is_going j) (begun x.is_told j x.store) y stops ∙ begun_keeps x.is_told j x.store;
}
