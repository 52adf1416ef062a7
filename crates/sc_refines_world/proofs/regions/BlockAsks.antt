-- What separate blocks ask that begin.
use Rattle.std.proofs.Common.{◌≡◌, ◌≤◌, ℕ, zero, suc, ◌+◌, Bool, true, false, not, List, [], ◌∷◌, ◌++◌, Some, None, drop, length, map, refl, sym, ap, ◌∙◌, subst, arith}
use Rattle.std.proofs.lemmas.Bool.{ltb-false}
use Rattle.std.proofs.lemmas.List.{length-map}
use Rattle.std.specs.Prelude.{◌&&◌, nat_lt, slice_set, if◌then◌else◌}
use Rattle.std.specs.List.{cons_option}
use Rattle.sc_model.specs.Entries.{opened_in}
use Rattle.sc_model.specs.Environments.{Binding}
use Rattle.sc_model.specs.Moves.{step}
use Rattle.sc_model.specs.Steps as model
use Rattle.sc_model.specs.Values as values
use Rattle.sc_code.specs.Lowered.{run_of}
use Rattle.sc_code.specs.Machine as flat
use Rattle.sc_code.specs.Machine.{State}
use Rattle.sc_code.specs.Stands.{Leads, Seen, values_in}
use Rattle.sc_region.specs.declared.job.Want.TheVariants as want
use Rattle.sc_region.specs.declared.value.Value.{Value}
use Rattle.sc_region.specs.declared.value.Value.TheVariants.{Integer, Boolean, Void, Attached}
use Rattle.sc_region.specs.Frames.{PlainActivation, top_activation}
use Rattle.sc_request.specs.Asked as asked
use Rattle.sc_acts.specs.declared.act.Act.TheVariants as act
use Rattle.sc_interp.specs.declared.hops.Hop.TheVariants as hop
use Rattle.sc_region.specs.Calls.{last_values}
use Rattle.sc_acts.specs.Entering.{handler_of}
use Rattle.sc_refines_world.specs.regions.Laws.{ProgramsServe}
use Rattle.sc_refines_world.specs.regions.RegionSteps.{names_of, numbering_by}
use Rattle.sc_interp.specs.Standing as standing
use Rattle.sc_interp.specs.Standing.{actuals}
use Rattle.sc_acts.specs.Turning.{unless_failed}
use Rattle.sc_interp.specs.Values.{value_of, values_of}
use Rattle.sc_acts.specs.Blocks.{asks_opened, asks_opening, handlers_of, may_open}
use Rattle.sc_acts.specs.Operands.{has_actuals}
use Rattle.sc_refines_world.specs.regions.Reserving.{BlocksAsk, MayOpen}
use Rattle.sc_refines_world.proofs.regions.TurnAsks.{asked_is, told_by}
use Rattle.sc_refines_world.proofs.regions.SilentOperations.{meets}
use Rattle.sc_refines_world.proofs.regions.PassedOperations.{act_same, state_same}
use Rattle.sc_refines_world.proofs.regions.QuietSteps.{opens_here}
use Rattle.sc_refines_world.proofs.regions.StageChanges.{values_taken}
use Rattle.sc_refines_world.proofs.regions.SeenRequests.{opens_is}

-- ---- what is seen

same_first : (j k m n : ℕ) → flat.Opens k n ≡ flat.Opens j m → j ≡ k
same_first j k m n e = cc

same_count : (j k m n : ℕ) → flat.Opens k n ≡ flat.Opens j m → m ≡ n
same_count j k m n e = cc

-- the names before, and those that come
abbrev AreOpened : List Binding → List Binding → ℕ → ℕ → Type 0
AreOpened bs cs first n = (first ≡ length bs) × (first + n ≡ length cs)

opened_names : (bs cs : List Binding) (first n : ℕ) → Seen bs cs model.Opens (flat.Opens first n) → AreOpened bs cs first n
opened_names bs cs first n e =
    let firsts = same_first e.0 first e.1 n e.2 in
    let counts = same_count e.0 first e.1 n e.2 in
    (sym firsts ∙ e.3, ap (λ k. k + n) (sym firsts) ∙ ap (λ k. e.0 + k) (sym counts) ∙ e.4)

-- ---- slots that were written

head_same : (v w : values.Value) (vs ws : List values.Value) → v ∷ vs ≡ w ∷ ws → v ≡ w
head_same v w vs ws e = cc

tail_same : (v w : values.Value) (vs ws : List values.Value) → v ∷ vs ≡ w ∷ ws → vs ≡ ws
tail_same v w vs ws e = cc

written_past : (k : ℕ) (us : List values.Value) (w : values.Value) (ws : List values.Value) → flat.written (suc k) us (w ∷ ws) ≡ w ∷ flat.written k us ws
written_past k [] w ws = refl
written_past k (u ∷ us) w ws = written_past (suc k) us w (slice_set ws k u)

-- what was written is what stands there
heads_at : (first : ℕ) (us slots bs tail : List values.Value) → flat.written first us slots ≡ bs ++ tail → first + length us ≡ length bs → length bs ≤ length slots → drop first bs ≡ us
heads_at zero [] slots [] tail e l m = refl
heads_at zero [] slots (b ∷ bs) tail e l m = absurd (omega (arith, l))
heads_at zero (u ∷ us) slots [] tail e l m = absurd (omega (arith, l))
heads_at zero (u ∷ us) [] (b ∷ bs) tail e l m = absurd (omega (arith, m))
heads_at zero (u ∷ us) (w ∷ ws) (b ∷ bs) tail e l m =
    let same = sym (written_past 0 us u ws) ∙ e in
    ap (λ v. v ∷ bs) (sym (head_same u b (flat.written 0 us ws) (bs ++ tail) same))
    ∙ ap (λ vs. u ∷ vs) (heads_at 0 us ws bs tail (tail_same u b (flat.written 0 us ws) (bs ++ tail) same) (omega (arith, l)) (omega (arith, m)))
heads_at (suc k) us slots [] tail e l m = absurd (omega (arith, l))
heads_at (suc k) us [] (b ∷ bs) tail e l m = absurd (omega (arith, m))
heads_at (suc k) us (w ∷ ws) (b ∷ bs) tail e l m =
    heads_at k us ws bs tail (tail_same w b (flat.written k us ws) (bs ++ tail) (sym (written_past k us w ws) ∙ e)) (omega (arith, l)) (omega (arith, m))

values_dropped : (n : ℕ) (bs : List Binding) → map (λ (b : Binding). b.value) (drop n bs) ≡ drop n (values_in bs)
values_dropped zero bs = refl
values_dropped (suc n) [] = refl
values_dropped (suc n) (b ∷ bs) = values_dropped n bs

taken_many : (n : ℕ) (us vs : List values.Value) → n ≤ length vs → length (standing.taken n us vs) ≡ length us + n
taken_many zero us vs l = omega arith
taken_many (suc n) us [] l = absurd (omega (arith, l))
taken_many (suc n) us (v ∷ vs) l = let rest = taken_many n (v ∷ us) vs (omega (arith, l)) in omega (arith, rest)

-- ---- handlers

handler_back : (v : Value) → values.handler_of (value_of v) ≡ handler_of (Some v)
handler_back (Integer z) = refl
handler_back (Boolean b) = refl
handler_back Void = refl
handler_back (Attached r) = refl

handlers_back : (vs : List Value) → asked.handlers_of (values_of vs) ≡ handlers_of vs
handlers_back [] = refl
handlers_back (v ∷ vs) = ap (λ o. cons_option o (asked.handlers_of (values_of vs))) (handler_back v) ∙ ap (cons_option (handler_of (Some v))) (handlers_back vs)

-- ---- the law

both : (a b : Bool) → a && b ≡ true → (a ≡ true) × (b ≡ true)
both true true e = (refl, refl)
both true false e = cc
both false b e = cc

is_not : (b : Bool) → not b ≡ true → b ≡ false
is_not true e = cc
is_not false e = refl

-- so many operands, and slots
pub record HasRoom (first n : ℕ) (a : PlainActivation) : Type 0 where
  pub operands : n ≤ length a.operands.values
  pub slots : first + n ≤ length a.slots

pub has_heads : (first n : ℕ) (a : PlainActivation) → may_open first n a ≡ true → HasRoom first n a
has_heads first n a may =
    let parts = both (has_actuals n a) (not (nat_lt (length a.slots) (first + n))) may in
    let operands = both (nat_lt n 17) (not (nat_lt (length a.operands.values) n)) parts.0 in
    record {
      operands = ltb-false (length a.operands.values) n (is_not _ operands.1);
      slots = ltb-false (length a.slots) (first + n) (is_not _ parts.1);
    }

module _ (serve : ProgramsServe) where
  pub blocks_ask : BlocksAsk
  blocks_ask h first n y z w comes may s x is region left_so =
      let o = hop.Comes (act.Open first n) in
      let m = meets serve s x o y z is region comes in
      let a = m.activation in
      let names = numbering_by (names_of y) in
      let wanted = flat.Opens first n in
      let shown = act_same wanted m.shown _ m.state m.does in
      let seen = subst (λ b. Seen m.last.environment m.point.environment m.step b) (sym shown) m.seen in
      let opens = opens_is m.last.environment m.point.environment m.step first n seen in
      let known = opened_names m.last.environment m.point.environment first n (subst (λ b. Seen m.last.environment m.point.environment b wanted) opens seen) in
      let opened = opens_here s m.frame.current m.last m.point (subst (λ b. step s m.frame.current m.last ≡ model.Does b m.point) opens m.ends) in
      let leads = subst (λ b. Leads (run_of s m.frame.routine) b m.point m.state) opens m.leads in
      let may_here = subst (λ fs. MayOpen first n (top_activation fs)) m.frames may in
      let room = has_heads first n a may_here in
      let us = actuals n (values_of a.operands.values) in
      let cs = m.point.environment in
      let in_slots : flat.written first us (values_of a.slots) ≡ values_in cs ++ leads.1 = ap (λ (f : State). f.slots) (state_same wanted m.shown _ m.state m.does ∙ leads.2) in
      let many = taken_many n [] (values_of a.operands.values) (subst (λ k. n ≤ k) (sym (length-map a.operands.values value_of)) room.operands) in
      let names_many : length (values_in cs) ≡ length cs = length-map cs (λ (b : Binding). b.value) in
      let heads : drop first (values_in cs) ≡ us =
      heads_at first us (values_of a.slots) (values_in cs) leads.1 in_slots (omega (arith, many, names_many, known.1))
      (omega (arith, names_many, known.1, room.slots, length-map a.slots value_of)) in
      let values_opened : opened_in cs m.point.tasks ≡ values_of (last_values n a.operands.values) =
      ap (opened_in cs) opened.tasks
      ∙ values_dropped (length m.last.environment) cs
      ∙ ap (λ k. drop k (values_in cs)) (sym known.0)
      ∙ heads
      ∙ sym (values_taken n [] a.operands.values) in
      told_by names s h x w (want.Reserve (record { items = asked.handlers_of (opened_in cs m.point.tasks) })) left_so (asked_is s x o y z m names h model.Opens opens)
      ∙ ap (unless_failed w.failure)
      (ap (λ ks. want.Reserve (record { items = ks })) (ap asked.handlers_of values_opened ∙ handlers_back (last_values n a.operands.values))
      ∙ sym (ap (λ b. asks_opened (if b then Some (last_values n a.operands.values) else None)) may_here)
      ∙ sym (ap (λ fs. asks_opening first n (top_activation fs)) m.frames))
