-- How handlers stand, and the pieces of a report.
use Rattle.std.proofs.Common.{◌≡◌, ◌<◌, ◌+◌, ◌-◌, ℕ, suc, List, [], ◌∷◌, ◌++◌, Bool, true, false, Option, Some, None, length, map, slice_get, unwrap_or, refl, sym, ap, ◌∙◌, add-one, append_assoc, append-nil, arith}
use Rattle.std.specs.Prelude.{◌||◌, nat_lt, if◌then◌else◌}
use Rattle.std.specs.List.{range_with_len}
use Rattle.std.proofs.lemmas.Bool.Decides.{nat_tests}
use Rattle.std.proofs.lemmas.List.FromFn.{map-range_with_len_more}
use Rattle.sc_model.specs.declared.status.Status.{Status}
use Rattle.sc_model.specs.Reports.{end_text, line_feed}
use Rattle.sc_request.specs.Logs.{Center, status_for, status_in}
use Rattle.sc_play.specs.Regions.{PlainRegion}
use Rattle.sc_world.specs.Reports.{handler_report, handlers_report, is_busy, output_in, report, report_of, some_is_busy}
use Rattle.sc_world.specs.Worlds.{PlainWorld}

-- ---- how a handler stands

pub status-there : (h : ℕ) (c : Center) → h < c.state.count → status_for h c ≡ Some (status_in h c)
status-there h c below =
    let test : nat_lt h c.state.count ≡ true = grind (arith, nat_tests) in
    ap (λ (b : Bool). if b then Some (status_in h c) else None) test

pub status-is : (h : ℕ) (c : Center) (s : Status) → h < c.state.count → Some s ≡ status_for h c → s ≡ status_in h c
status-is h c s below e = let there = status-there h c below in cc

pub status-none : (h : ℕ) (c : Center) → h < c.state.count → None ≡ status_for h c → ⊥
status-none h c below e = let there = status-there h c below in cc

-- one more
pub statuses-more : (h : ℕ) (w : PlainWorld) (s : Status) (ss ts : List Status) → s ≡ status_in h w.center →
    ss ≡ map (λ k. status_in k w.center) (range_with_len 0 h) → ts ≡ ss ++ s ∷ [] → ts ≡ map (λ k. status_in k w.center) (range_with_len 0 (h + 1))
statuses-more h w s ss ts is so-far more =
    let whole = map-range_with_len_more (λ k. status_in k w.center) 0 h h (omega arith) in
    more ∙ ap (λ (t : Status). ss ++ t ∷ []) is ∙ ap (λ (us : List Status). us ++ status_in h w.center ∷ []) so-far ∙ sym whole

-- ---- text

-- a handler's line and output, piece by piece
pub pieces : (old handler h gap status refused r output length feed text : List ℕ) →
    ((((old ++ (handler ++ (h ++ gap))) ++ status) ++ (refused ++ (r ++ (output ++ (length ++ feed))))) ++ text) ++ feed
    ≡ old ++ (handler ++ h ++ gap ++ status ++ refused ++ r ++ output ++ length ++ feed ++ text ++ feed)
pieces old handler h gap status refused r output length feed text = simp append_assoc

-- the handlers from one on are this one and those behind it
pub handlers-more : (h : ℕ) (w : PlainWorld) → h < w.center.state.count →
    handlers_report (w.center.state.count - h) w ≡ report_of h w ++ handlers_report (w.center.state.count - (h + 1)) w
handlers-more h w below =
    let left : ℕ = w.center.state.count - (h + 1) in
    let more : w.center.state.count - h ≡ suc left = omega arith in
    let place : w.center.state.count - suc left ≡ h = omega arith in
    ap (λ (n : ℕ). handlers_report n w) more ∙ ap (λ (k : ℕ). report_of k w ++ handlers_report left w) place

-- one more is told
pub told-more : (h : ℕ) (w : PlainWorld) (told now : List ℕ) → h < w.center.state.count →
    told ++ handlers_report (w.center.state.count - h) w ≡ handlers_report w.center.state.count w → now ≡ told ++ report_of h w →
    now ++ handlers_report (w.center.state.count - (h + 1)) w ≡ handlers_report w.center.state.count w
told-more h w told now below so-far more =
    let left : List ℕ = handlers_report (w.center.state.count - (h + 1)) w in
    ap (λ (t : List ℕ). t ++ left) more ∙ append_assoc told (report_of h w) left
    ∙ ap (λ (t : List ℕ). told ++ t) (sym (handlers-more h w below)) ∙ so-far

-- all are told
pub told-all : (n : ℕ) (w : PlainWorld) (told : List ℕ) → n ≡ 0 →
    told ++ handlers_report n w ≡ handlers_report w.center.state.count w → told ≡ handlers_report w.center.state.count w
told-all n w told none so-far =
    sym (append-nil told) ∙ ap (λ (k : ℕ). told ++ handlers_report k w) (sym none) ∙ so-far

-- and how the run has ended
pub told-end : (w : PlainWorld) (told now : List ℕ) (busy : Bool) → told ≡ handlers_report w.center.state.count w →
    busy ≡ some_is_busy w.center.state.count w → now ≡ told ++ (end_text busy ++ line_feed) → now ≡ report w
told-end w told now busy all same end =
    end ∙ ap (λ (t : List ℕ). t ++ (end_text busy ++ line_feed)) all
    ∙ ap (λ (b : Bool). handlers_report w.center.state.count w ++ (end_text b ++ line_feed)) same
    ∙ sym (append_assoc (handlers_report w.center.state.count w) (end_text (some_is_busy w.center.state.count w)) line_feed)

or-swap : (a b : Bool) → (a || b) ≡ (b || a)
or-swap true true = refl
or-swap true false = refl
or-swap false true = refl
or-swap false false = refl

pub busy-more : (h : ℕ) (w : PlainWorld) (before now : Bool) → before ≡ some_is_busy h w → now ≡ (before || is_busy (status_in h w.center)) →
    now ≡ some_is_busy (h + 1) w
busy-more h w before now so-far more =
    more ∙ or-swap before (is_busy (status_in h w.center)) ∙ ap (λ (b : Bool). is_busy (status_in h w.center) || b) so-far
    ∙ ap (λ (n : ℕ). some_is_busy n w) (sym (add-one h))

pub busy-then : (h : ℕ) (w : PlainWorld) (before now : Bool) → before ≡ some_is_busy h w → before ≡ true → now ≡ true → now ≡ some_is_busy (h + 1) w
busy-then h w before now so-far busy is =
    busy-more h w before now so-far (is ∙ ap (λ (b : Bool). b || is_busy (status_in h w.center)) (sym busy))

pub busy-else : (h : ℕ) (w : PlainWorld) (before now : Bool) → before ≡ some_is_busy h w → before ≡ false → now ≡ is_busy (status_in h w.center) →
    now ≡ some_is_busy (h + 1) w
busy-else h w before now so-far idle is =
    busy-more h w before now so-far (is ∙ ap (λ (b : Bool). b || is_busy (status_in h w.center)) (sym idle))

-- none is told yet
pub told-none : (w : PlainWorld) (told : List ℕ) → told ≡ [] → told ++ handlers_report (w.center.state.count - 0) w ≡ handlers_report w.center.state.count w
told-none w told none =
    let all : w.center.state.count - 0 ≡ w.center.state.count = omega arith in
    ap (λ (t : List ℕ). t ++ handlers_report (w.center.state.count - 0) w) none ∙ ap (λ (n : ℕ). handlers_report n w) all

pub refused-is : (h : ℕ) (c : Center) (r : Option ℕ) → h < c.state.count →
    r ≡ (if nat_lt h c.state.count then Some (c.state.handlers h).refused else None) → unwrap_or r 0 ≡ (c.state.handlers h).refused
refused-is h c r below e =
    let test : nat_lt h c.state.count ≡ true = grind (arith, nat_tests) in
    ap (λ (o : Option ℕ). unwrap_or o 0) (e ∙ ap (λ (b : Bool). if b then Some (c.state.handlers h).refused else None) test)

-- the report of a handler with this status, which refused so many requests, and whose region is this one
pub report-is : (h : ℕ) (w : PlainWorld) (s : Status) (r : ℕ) (o : List ℕ) (x : PlainRegion) → s ≡ status_in h w.center →
    r ≡ (w.center.state.handlers h).refused → slice_get w.regions h ≡ Some x → o ≡ x.store.output → handler_report h s r o ≡ report_of h w
report-is h w s r o x status refused stands output =
    ap (λ (t : Status). handler_report h t r o) status
    ∙ ap (λ (n : ℕ). handler_report h (status_in h w.center) n o) refused
    ∙ ap (λ (t : List ℕ). handler_report h (status_in h w.center) (w.center.state.handlers h).refused t) (output ∙ sym (ap output_in stands))
