-- Cores that stand alike at each handler.
use Rattle.std.proofs.Common.{◌≡◌, ◌∙◌, ℕ, ◌≤◌, ◌<◌, Bool, true, false, Some, None, inl, inr, refl, sym, ap, arith}
use Rattle.std.proofs.Math.Path.{fun_ext}
use Rattle.std.proofs.lemmas.Bool.{cases_lt, le-ltb, ltb-false}
use Rattle.std.specs.Prelude.{is_some, nat_lt, if◌then◌else◌}
use Rattle.sc_model.specs.declared.status.Status.{Status}
use Rattle.sc_request.specs.Same.{AreSameAt}
use Rattle.sc_request.specs.Logs.{Center, status_for, status_in}

if_some : (b : Bool) (x : Status) → is_some (if b then Some x else None) ≡ b
if_some true x = refl
if_some false x = refl

-- a handler has a status exactly where its number is below the count
has_status : (h : ℕ) (c : Center) → is_some (status_for h c) ≡ nat_lt h c.state.count
has_status h c = if_some (nat_lt h c.state.count) (status_in h c)

-- a count isn't above another one below which the same numbers are
no_more : (m n most : ℕ) → n ≤ most → ((h : ℕ) → h < most → nat_lt h m ≡ nat_lt h n) → n ≤ m
no_more m n most few same = elim (cases_lt m most) [
  | inl below ↦ ltb-false m n (sym (same m below) ∙ le-ltb m m (omega arith))
  | inr beyond ↦ omega (arith, few, beyond)
]

-- cores that stand alike at each handler that there may be, and have the same beyond, have the same state
pub same_state : (most : ℕ) (c d : Center) → c.state.count ≤ most → d.state.count ≤ most →
    ((h : ℕ) → most ≤ h → c.state.handlers h ≡ d.state.handlers h) → ((h : ℕ) → most ≤ h → c.state.rights.queue h ≡ d.state.rights.queue h) →
    ((h : ℕ) → most ≤ h → c.state.rights.top h ≡ d.state.rights.top h) → ((h : ℕ) → h < most → AreSameAt h c d) → c.state ≡ d.state
same_state most c d few its_few beyond queue_beyond top_beyond each =
    let alike : (h : ℕ) → h < most → nat_lt h c.state.count ≡ nat_lt h d.state.count =
    λ h below. sym (has_status h c) ∙ ap is_some (each h below).status ∙ has_status h d in
    let least = no_more d.state.count c.state.count most few (λ h below. sym (alike h below)) in
    let count : c.state.count ≡ d.state.count = omega (arith, least, no_more c.state.count d.state.count most its_few alike) in
    let handlers : c.state.handlers ≡ d.state.handlers =
    fun_ext (λ h. elim (cases_lt h most) [ inl below ↦ (each h below).handler | inr past ↦ beyond h past ]) in
    let queue : c.state.rights.queue ≡ d.state.rights.queue =
    fun_ext (λ h. elim (cases_lt h most) [ inl below ↦ (each h below).queue | inr past ↦ queue_beyond h past ]) in
    let top : c.state.rights.top ≡ d.state.rights.top =
    fun_ext (λ h. elim (cases_lt h most) [ inl below ↦ (each h below).top | inr past ↦ top_beyond h past ]) in
    λ i. record { count = count i; handlers = handlers i; rights = record { queue = queue i; top = top i } }
