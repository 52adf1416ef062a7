-- A run on one thread goes on in its order.
use Rattle.std.proofs.Common.{◌≡◌, ◌<◌, ◌≤◌, ◌-◌, ◌⊎◌, ◌++◌, ◌∷◌, [], inl, inr, ℕ, List, Option, Some, All, refl, sym, ap, subst, ◌∙◌, arith}
use Rattle.std.proofs.lemmas.Bool.{cases_lt}
use Rattle.std.proofs.lemmas.List.Elements.{All-cons, All-head, All-nil, All-tail}
use Rattle.std.specs.Option.{option_map}
use Rattle.sc_code.specs.declared.program.Image.{Image}
use Rattle.sc_lockpass.specs.declared.version.Version.TheVariants.{Two}
use Rattle.sc_region.specs.declared.job.Job.{Job}
use Rattle.sc_region.specs.declared.job.Want.{Want}
use Rattle.sc_region.specs.declared.job.Want.TheVariants as want
use Rattle.sc_handler.specs.declared.settlement.Settlement.{Settlement}
use Rattle.sc_handler.specs.Logged.{settlement}
use Rattle.sc_request.specs.declared.center.Core as coded
use Rattle.sc_request.specs.Cores.{center_of, log_of}
use Rattle.sc_request.specs.Logs.{Center, next, picked, picks, settles}
use Rattle.sc_play.specs.Regions.{PlainRegion}
use Rattle.sc_world.specs.Worlds.{max_handlers, opened}
use Rattle.sc_world.proofs.Outs.{next-of, picked-out}
use Rattle.sc_plant.specs.Alone.{IsPlayed}
use Rattle.sc_plant.specs.Order.{ComesInOrder, IsWhole, LeadInOrder, Order, after, round_robin}

-- one more settlement, after whole ones
lead_more : (o : Order) (c : Center) (es : List Settlement) (d : Center) (e : Settlement) → LeadInOrder o c es d → All (IsWhole o) es →
    o.next d ≡ Some (e.handler, e.job) → e.turns ≤ o.most → LeadInOrder o c (es ++ e ∷ []) (after e d)
lead_more o c [] d e same whole due few =
    subst (λ (x : Center). LeadInOrder o x (e ∷ []) (after e d)) (sym same) (due, few, inr refl, refl)
lead_more o c (x ∷ xs) d e leads whole due few =
    (leads.0, leads.1, inl (All-head (IsWhole o) x xs whole), lead_more o (after x c) xs d e leads.3 (All-tail (IsWhole o) x xs whole) due few)

all_more : (o : Order) (es : List Settlement) (e : Settlement) → All (IsWhole o) es → IsWhole o e → All (IsWhole o) (es ++ e ∷ [])
all_more o [] e whole one = All-cons (IsWhole o) e [] one (All-nil (IsWhole o))
all_more o (x ∷ xs) e whole one =
    All-cons (IsWhole o) x (xs ++ e ∷ []) (All-head (IsWhole o) x xs whole) (all_more o xs e (All-tail (IsWhole o) x xs whole) one)

-- nothing is settled
pub stays_in_order : (p : Image) (n m : ℕ) (x y : coded.Core) → m ≤ n → center_of y ≡ center_of x → log_of y ≡ log_of x →
    ComesInOrder round_robin p n x → ComesInOrder round_robin p m y
stays_in_order p n m x y fewer center log comes = record {
  leads =
      subst (λ (es : List Settlement). LeadInOrder round_robin (opened p Two).center es (center_of y)) (sym log)
      (subst (λ (d : Center). LeadInOrder round_robin (opened p Two).center (log_of x) d) (sym center) comes.leads);
  whole = λ some. subst (All (IsWhole round_robin)) (sym log) (comes.whole (omega (arith, some, fewer)));
}

-- nothing is settled yet
pub opens_in_order : (p : Image) (n : ℕ) (x : coded.Core) → log_of x ≡ [] → center_of x ≡ (opened p Two).center → ComesInOrder round_robin p n x
opens_in_order p n x log center = record {
  leads = subst (λ (es : List Settlement). LeadInOrder round_robin (opened p Two).center es (center_of x)) (sym log) (sym center);
  whole = λ _. subst (All (IsWhole round_robin)) (sym log) (All-nil (IsWhole round_robin));
}

-- A task that asks nothing, after which turns are left, has as many as it may have.
all_made : (turns limit n : ℕ) (w : Want) → limit ≤ 256 → limit ≤ n → (limit < n → limit ≡ 256) → ((turns < limit) × (w ≡ want.Continue) → ⊥) →
    turns ≤ limit → 0 < n - turns → w ≡ want.Continue → turns ≡ 256
all_made turns limit n w few within most uncut at_most left goes_on = elim (cases_lt turns limit) [
  | inl short ↦ absurd (uncut (short, goes_on))
  | inr all ↦ let most_is : limit ≡ 256 = most (omega (arith, all, at_most, left)) in omega (arith, all, at_most, most_is)
]

-- The handler that was picked plays some turns, which are settled.
module _ (p : Image) (n m : ℕ) (x b y : coded.Core) (h turns limit : ℕ) (w : Want) (r s : PlainRegion) (few : limit ≤ 256) (within : limit ≤ n)
    (most : limit < n → limit ≡ 256) (fewer : m ≤ n - turns) (uncut : (turns < limit) × (w ≡ want.Continue) → ⊥)
    (found : Some h ≡ option_map (λ (p : ℕ × Job). p.0) (next (center_of x))) (out : center_of b ≡ picks (next (center_of x)) (center_of x))
    (log : log_of b ≡ log_of x) (played : (j : Job) → (center_of b).out h ≡ Some j → IsPlayed limit h j turns w b y r s)
    (comes : ComesInOrder round_robin p n x) where
  pub goes_in_order : ComesInOrder round_robin p m y
  goes_in_order =
      let due = next-of h (next (center_of x)) found in
      let j : Job = due.0 in
      let picks_it : center_of b ≡ picked h j (center_of x) = out ∙ ap (λ (o : Option (ℕ × Job)). picks o (center_of x)) due.1 in
      let one = played j (picked-out h j (center_of x) (center_of b) picks_it) in
      let e : Settlement = settlement h j turns w in
      let logged : log_of y ≡ log_of x ++ e ∷ [] = one.settled.log ∙ ap (λ (es : List Settlement). es ++ e ∷ []) log in
      let center : center_of y ≡ after e (center_of x) =
      one.settled.center ∙ ap (λ (c : Center). settles max_handlers h j turns w c) picks_it in
      let at_most : turns ≤ limit = one.plays.few in
      let some : 0 < turns = one.plays.some in
      let whole : All (IsWhole round_robin) (log_of x) = comes.whole (omega (arith, some, at_most, within)) in
      let more : LeadInOrder round_robin (opened p Two).center (log_of x ++ e ∷ []) (after e (center_of x)) =
      lead_more round_robin (opened p Two).center (log_of x) (center_of x) e comes.leads whole due.1 (omega (arith, at_most, few)) in
      record {
        leads =
            subst (λ (es : List Settlement). LeadInOrder round_robin (opened p Two).center es (center_of y)) (sym logged)
            (subst (λ (d : Center). LeadInOrder round_robin (opened p Two).center (log_of x ++ e ∷ []) d) (sym center) more);
        whole = λ left.
            subst (All (IsWhole round_robin)) (sym logged)
            (all_more round_robin (log_of x) e whole (λ goes_on. all_made turns limit n w few within most uncut at_most (omega (arith, left, fewer)) goes_on));
      }
