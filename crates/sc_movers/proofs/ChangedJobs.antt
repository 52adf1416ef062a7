-- What a mover changes: another handler that has something to do still has it.
use Rattle.std.proofs.Common.{◌≡◌, ◌∙◌, ◌≤◌, ◌&&◌, ◌||◌, not, ℕ, Bool, true, false, List, [], ◌∷◌, Option, Some, None, map, refl, sym, ap, arith}
use Rattle.std.proofs.Math.Path.{fun_ext}
use Rattle.std.proofs.lemmas.Bool.{lt-ltb, ltb-true}
use Rattle.std.specs.Prelude.{if◌then◌else◌, is_some}
use Rattle.std.specs.List.{filter_map, list_all, list_any}
use Rattle.std.specs.Option.{is_none}
use Rattle.sc_lockpass.specs.Rights.{is_among}
use Rattle.sc_lockpass.specs.wait_conditions.Entries.{each_once, unheld}
use Rattle.sc_lockpass.specs.wait_conditions.Reservations.{Standing, has_risen, is_idle, is_lost, mark_allows, may_be_reserved, may_reserve, reserve_fails}
use Rattle.sc_lockpass.specs.declared.wait_conditions.mark.Marked.{Marked}
use Rattle.sc_model.specs.declared.cause.Cause.{Cause}
use Rattle.sc_region.specs.declared.job.Job.{Job}
use Rattle.sc_handler.specs.Changes.{session_ended}
use Rattle.sc_handler.specs.Handlers.{Handler, HandlerStage, Idle, Runs, HasMade, Reserves, Awaits, State, has_frames, has_requests, standing_in}
use Rattle.sc_handler.specs.Picking.{job_at, job_for_entry, job_of, job_reserving, needs}
use Rattle.sc_refines_world.proofs.OtherStages.{has_job, job_there}
use Rattle.sc_movers.proofs.ChangedStates.{Change, FreesNone, Harmless, changed, stage_own, true_false}
use Rattle.sc_movers.proofs.ChangedTurns.{and_left, and_right, same_held}

-- ---- tests of all or any

pub all_then : (P Q : ℕ → Bool) (ls : List ℕ) → ((k : ℕ) → P k ≡ true → Q k ≡ true) → list_all P ls ≡ true → list_all Q ls ≡ true
all_then P Q [] so e = refl
all_then P Q (k ∷ ls) so e = both (Q k) (list_all Q ls) (so k (and_left (P k) (list_all P ls) e)) (all_then P Q ls so (and_right (P k) (list_all P ls) e))
  where
    both : (a b : Bool) → a ≡ true → b ≡ true → (a && b) ≡ true
    both true b e f = f
    both false b e f = true_false (sym e)

any_then : {A : Type 0} (P Q : A → Bool) (ls : List A) → ((k : A) → P k ≡ true → Q k ≡ true) → list_any P ls ≡ true → list_any Q ls ≡ true
any_then P Q [] so e = e
any_then P Q (k ∷ ls) so e = by (P k) refl e (any_then P Q ls so)
  where
    left : (a b : Bool) → a ≡ true → (a || b) ≡ true
    left true b e = refl
    left false b e = true_false (sym e)

    right : (a b : Bool) → b ≡ true → (a || b) ≡ true
    right true b e = refl
    right false b e = e

    by : (a : Bool) → P k ≡ a → (a || list_any P ls) ≡ true → (list_any P ls ≡ true → list_any Q ls ≡ true) → (Q k || list_any Q ls) ≡ true
    by true i e rest = left (Q k) (list_any Q ls) (so k i)
    by false i e rest = right (Q k) (list_any Q ls) (rest e)

none_of : (P Q : ℕ → Bool) (ls : List ℕ) → ((k : ℕ) → P k ≡ true → Q k ≡ false) → list_all P ls ≡ true → list_any Q ls ≡ false
none_of P Q [] so e = refl
none_of P Q (k ∷ ls) so e =
    ap (λ (b : Bool). b || list_any Q ls) (so k (and_left (P k) (list_all P ls) e)) ∙ none_of P Q ls so (and_right (P k) (list_all P ls) e)

-- a handler that may be reserved isn't lost
not_lost : (x : Standing) (o : Option ℕ) → may_be_reserved x o ≡ true → is_lost x o ≡ false
not_lost x o e = by x.has_frames x.has_failed (and_left (is_idle x) (not x.has_requests) (and_left (is_idle x && not x.has_requests) (is_none o) e))
  where
    by : (a b : Bool) → (not a && not b) ≡ true → (b && is_none o) ≡ false
    by true b e = true_false (sym e)
    by false true e = true_false (sym e)
    by false false e = refl

free_still : (a : Bool) (o : Option ℕ) → is_none o ≡ true → is_none (if a then None else o) ≡ true
free_still true o e = refl
free_still false o e = e

-- Each handler that may be reserved before the change may be reserved after it, and no count of sessions falls.
pub record Loosens (c : Change) (s : State) : Type 0 where
  pub frames : (k : ℕ) → may_be_reserved (standing_in s k) (s.rights.queue k) ≡ true → has_frames (c.at k (s.handlers k)).stage ≡ has_frames (s.handlers k).stage
  pub requests : (k : ℕ) → may_be_reserved (standing_in s k) (s.rights.queue k) ≡ true → has_requests (c.at k (s.handlers k)).queue ≡ has_requests (s.handlers k).queue
  pub grows : (k : ℕ) → (s.handlers k).sessions ≤ (c.at k (s.handlers k)).sessions

module _ (h n : ℕ) (safe closed spared : ℕ → Bool) (c : Change) (harm : Harmless h n safe closed spared c) (s : State) (frees : FreesNone h c s) where
  abbrev t : State
  t = changed c s

  needs_same : (ls : List ℕ) → needs h ls t.rights ≡ needs h ls s.rights
  needs_same ls = ap (λ (u : Option ℕ → Option ℕ). each_once (filter_map u (map Some ls))) (fun_ext one)
    where
      one : (o : Option ℕ) → unheld t.rights h o ≡ unheld s.rights h o
      one None = refl
      one (Some k) = ap (λ (b : Bool). if b then None else Some k) (same_held h n safe closed spared c harm s frees k)

  module _ (loose : Loosens c s) where
    may_still : (k : ℕ) → may_be_reserved (standing_in s k) (s.rights.queue k) ≡ true → may_be_reserved (standing_in t k) (t.rights.queue k) ≡ true
    may_still k e =
        ap (λ (b : Bool). ((not b && not (is_some (t.handlers k).failure)) && not (has_requests (t.handlers k).queue)) && is_none (t.rights.queue k)) (loose.frames k e)
        ∙ ap (λ (o : Option Cause). ((not (has_frames (s.handlers k).stage) && not (is_some o)) && not (has_requests (t.handlers k).queue)) && is_none (t.rights.queue k))
        (harm.failure k (s.handlers k))
        ∙ ap (λ (b : Bool). (is_idle (standing_in s k) && not b) && is_none (t.rights.queue k)) (loose.requests k e)
        ∙ by (is_idle (standing_in s k)) (not (has_requests (s.handlers k).queue)) (is_none (s.rights.queue k)) (is_none (t.rights.queue k))
        (free_still (is_among k c.frees) (s.rights.queue k)) e
      where
        by : (a b d e : Bool) → (d ≡ true → e ≡ true) → ((a && b) && d) ≡ true → ((a && b) && e) ≡ true
        by true true d e so i = so i
        by true false d e so i = i
        by false b d e so i = i

    lost_still : (k : ℕ) → is_lost (standing_in s k) (s.rights.queue k) ≡ true → is_lost (standing_in t k) (t.rights.queue k) ≡ true
    lost_still k e =
        ap (λ (o : Option Cause). is_some o && is_none (t.rights.queue k)) (harm.failure k (s.handlers k))
        ∙ by (is_some (s.handlers k).failure) (is_none (s.rights.queue k)) (is_none (t.rights.queue k)) (free_still (is_among k c.frees) (s.rights.queue k)) e
      where
        by : (a d e : Bool) → (d ≡ true → e ≡ true) → (a && d) ≡ true → (a && e) ≡ true
        by true d e so i = so i
        by false d e so i = i

    risen_still : (m : Marked) → has_risen (λ k. (s.handlers k).sessions) m ≡ true → has_risen (λ k. (t.handlers k).sessions) m ≡ true
    risen_still m e =
        let more = loose.grows m.handler in
        let less = ltb-true m.sessions (s.handlers m.handler).sessions e in
        lt-ltb m.sessions (t.handlers m.handler).sessions (omega (arith, more, less))

    allows_still : (mark : List Marked) → mark_allows (λ k. (s.handlers k).sessions) mark ≡ true → mark_allows (λ k. (t.handlers k).sessions) mark ≡ true
    allows_still [] e = refl
    allows_still (m ∷ ms) e = any_then (has_risen (λ k. (s.handlers k).sessions)) (has_risen (λ k. (t.handlers k).sessions)) (m ∷ ms) risen_still e

    reserving_still : (ls : List ℕ) (mark : List Marked) (j : Job) → job_for_entry ls mark s ≡ Some j → job_for_entry ls mark t ≡ Some j
    reserving_still ls mark j e = by (reserve_fails (standing_in s) s.rights ls) (may_reserve (standing_in s) s.rights ls mark) refl refl e
      where
        reservable : (u : State) → Bool
        reservable u = list_all (λ k. may_be_reserved (standing_in u k) (u.rights.queue k)) ls

        by : (a b : Bool) → reserve_fails (standing_in s) s.rights ls ≡ a → may_reserve (standing_in s) s.rights ls mark ≡ b → job_reserving a b ls ≡ Some j → job_for_entry ls mark t ≡ Some j
        by true b fails may e =
            ap (λ (d : Bool). job_reserving d (may_reserve (standing_in t) t.rights ls mark) ls)
            (any_then (λ k. is_lost (standing_in s k) (s.rights.queue k)) (λ k. is_lost (standing_in t k) (t.rights.queue k)) ls lost_still fails) ∙ e
        by false true fails may e =
            let all = all_then (λ k. may_be_reserved (standing_in s k) (s.rights.queue k)) (λ k. may_be_reserved (standing_in t k) (t.rights.queue k)) ls may_still
            (and_left (reservable s) (mark_allows (λ k. (s.handlers k).sessions) mark) may) in
            ap (λ (d : Bool). job_reserving d (may_reserve (standing_in t) t.rights ls mark) ls)
            (none_of (λ k. may_be_reserved (standing_in t k) (t.rights.queue k)) (λ k. is_lost (standing_in t k) (t.rights.queue k)) ls
            (λ k. not_lost (standing_in t k) (t.rights.queue k)) all)
            ∙ ap (λ (d : Bool). job_reserving false (d && mark_allows (λ k. (t.handlers k).sessions) mark) ls) all
            ∙ ap (λ (d : Bool). job_reserving false d ls) (allows_still mark (and_right (reservable s) (mark_allows (λ k. (s.handlers k).sessions) mark) may)) ∙ e
        by false false fails may e = cc

    -- what is looked at of the handler itself is the same
    own_still : (d : Bool) (x : Handler) (at : HandlerStage) → job_at h at (session_ended d x) t ≡ job_at h at x t
    own_still true x Idle = refl
    own_still true x Runs = refl
    own_still true x (HasMade k) = refl
    own_still true x (Reserves ls mark) = refl
    own_still true x (Awaits k a) = refl
    own_still false x at = refl

    job_still : (at : HandlerStage) (j : Job) → job_at h at (s.handlers h) s ≡ Some j → job_at h at (s.handlers h) t ≡ Some j
    job_still Idle j e = e
    job_still Runs j e = e
    job_still (HasMade k) j e = e
    job_still (Reserves ls mark) j e =
        ap (λ (ns : List ℕ). job_for_entry ns mark t) (needs_same ls) ∙ reserving_still (needs h ls s.rights) mark j e
    job_still (Awaits k a) j e = e

    -- The other handler has the same job.
    pub job_changed : (j : Job) → job_of h s ≡ Some j → job_of h t ≡ Some j
    job_changed j e =
        let has = has_job h s j e in
        job_there h t (s.handlers h).stage j has.there (harm.failure h (s.handlers h) ∙ has.stands) (stage_own h n safe closed spared c harm s)
        (ap (λ (x : Handler). job_at h (s.handlers h).stage x t) (harm.own (s.handlers h)) ∙ own_still harm.over (s.handlers h) (s.handlers h).stage
        ∙ job_still (s.handlers h).stage j has.due)
