-- What is settled is what is due.
use Rattle.std.proofs.Common.{◌≡◌, ◌<◌, ◌++◌, ◌∷◌, [], ◌==◌, ℕ, Bool, true, false, List, Option, Some, None, is_some, not, zero, suc, ◌+◌, slice_get, refl, sym, ap, subst, ◌∙◌, arith}
use Rattle.std.specs.Prelude.{if◌then◌else◌}
use Rattle.std.specs.Option.{option_and_then, option_map}
use Rattle.std.proofs.Math.Logic.{∥∥₁_map}
use Rattle.std.proofs.lemmas.List.Elements.{All-push}
use Rattle.sc_lockpass.specs.declared.version.Version.TheVariants.{Two}
use Rattle.sc_audit.specs.declared.line.RecordLine.{RecordLine}
use Rattle.sc_code.specs.declared.program.Image.{Image}
use Rattle.arrayvec.specs.ArrayVec.{ArrayVec}
use Rattle.sc_region.specs.declared.job.Job.{Job}
use Rattle.sc_region.specs.declared.job.Job.TheVariants as job
use Rattle.sc_region.specs.declared.job.Want.{Want}
use Rattle.sc_handler.specs.declared.settlement.Settlement.{Settlement}
use Rattle.sc_handler.specs.Handlers.{State}
use Rattle.sc_handler.specs.Picking.{job_of}
use Rattle.sc_request.specs.declared.center.Core as coded
use Rattle.sc_request.specs.Candidates.{is_granting}
use Rattle.sc_request.specs.Cores.{center_of, state_of, log_of}
use Rattle.sc_request.specs.Logs.{Center, Plays, after, next, pick_for, picked, picked_if, picks, put_back, put_back_with, settles}
use Rattle.sc_handler.specs.Logged.{settlement}
use Rattle.sc_request.specs.Settling.{settled}
use Rattle.sc_request.specs.Tables.{out_total}
use Rattle.sc_world.specs.Worlds.{max_handlers, opened}
use Rattle.sc_world.proofs.FreeHandlers.{next_picks}
use Rattle.sc_world.proofs.Outs.{next-of, none-job, none-of, one-job, picked-out, some-of}
use Rattle.sc_recording.specs.Due.{AreBelow, GrantsNone, IsSettled, PlaysTo, Settled, Stays}
use Rattle.sc_recording.specs.Recorded.{line_of, lines_of}
use Rattle.sc_world.proofs.SettledPicks.{settled_state}

-- ---- who is out

none_granted : (j : Job) (ks : ArrayVec ℕ) → is_granting j ≡ false → Some j ≡ Some (job.Granted ks) → ⊥
none_granted (job.Granted ls) ks frees e = cc
none_granted (job.Take r) ks frees e = cc
none_granted (job.Reply v) ks frees e = cc
none_granted job.Failed ks frees e = cc
none_granted job.Refused ks frees e = cc
none_granted (job.Made k) ks frees e = cc
none_granted job.Go ks frees e = cc

pub back_none : (h : ℕ) (c : Center) → GrantsNone c → GrantsNone (put_back h c)
back_none h c none k ks = by (c.out h)
  where
    unless : (b : Bool) → (if b then None else c.out k) ≡ Some (job.Granted ks) → ⊥
    unless true e = cc
    unless false e = none k ks e

    by : (o : Option Job) → (put_back_with h o c).out k ≡ Some (job.Granted ks) → ⊥
    by None e = none k ks e
    by (Some j) e = unless (k == h) e

pub picked_none : (h : ℕ) (j : Job) (c : Center) → is_granting j ≡ false → GrantsNone c → GrantsNone (picked h j c)
picked_none h j c frees none k ks = by (k == h)
  where
    by : (b : Bool) → (if b then Some j else c.out k) ≡ Some (job.Granted ks) → ⊥
    by true e = none_granted j ks frees e
    by false e = none k ks e

pub settles_none : (most h : ℕ) (j : Job) (turns : ℕ) (w : Want) (c : Center) → GrantsNone c → GrantsNone (settles most h j turns w (picked h j c))
settles_none most h j turns w c none k ks = by (k == h)
  where
    by : (b : Bool) → (if b then None else (if b then Some j else c.out k)) ≡ Some (job.Granted ks) → ⊥
    by true e = cc
    by false e = none k ks e

pub same_none : (c d : Center) → d ≡ c → GrantsNone c → GrantsNone d
same_none c d same none = subst GrantsNone (sym same) none

-- ---- the state

pub back_state : (h : ℕ) (c : Center) → GrantsNone c → (put_back h c).state ≡ c.state
back_state h c none = by (c.out h) (none h)
  where
    by : (o : Option Job) → ((ks : ArrayVec ℕ) → o ≡ Some (job.Granted ks) → ⊥) → (put_back_with h o c).state ≡ c.state
    by None n = refl
    by (Some (job.Granted ks)) n = absurd (n ks refl)
    by (Some (job.Take r)) n = refl
    by (Some (job.Reply v)) n = refl
    by (Some job.Failed) n = refl
    by (Some job.Refused) n = refl
    by (Some (job.Made k)) n = refl
    by (Some job.Go) n = refl

pub picked_state : (h : ℕ) (j : Job) (c : Center) → is_granting j ≡ false → (picked h j c).state ≡ c.state
picked_state h (job.Granted ks) c frees = cc
picked_state h (job.Take r) c frees = refl
picked_state h (job.Reply v) c frees = refl
picked_state h job.Failed c frees = refl
picked_state h job.Refused c frees = refl
picked_state h (job.Made k) c frees = refl
picked_state h job.Go c frees = refl

pub is_due : (h : ℕ) (j : Job) (c : Center) → pick_for h c ≡ Some j → job_of h c.state ≡ Some j
is_due h j c = by (is_some (c.out h))
  where
    by : (b : Bool) → (if b then None else job_of h c.state) ≡ Some j → job_of h c.state ≡ Some j
    by true e = cc
    by false e = e

-- ---- settlements

-- The handler goes out with its job from a core with this state and log, and is settled at once.
pub settled_due : (h turns : ℕ) (w : Want) (c a b d : coded.Core) (j : Job) → h < max_handlers →
    state_of a ≡ state_of c → log_of a ≡ log_of c → pick_for h (center_of a) ≡ Some j →
    center_of b ≡ picked h j (center_of a) → log_of b ≡ log_of a →
    ((i : Job) → (center_of b).out h ≡ Some i → IsSettled h i turns w b d) → Settled h turns w c d
settled_due h turns w c a b d j below state log picks out same settle =
    let is = settle j (picked-out h j (center_of a) (center_of b) out) in
    record {
      job = j;
      due = subst (λ (s : State). job_of h s ≡ Some j) state (is_due h j (center_of a) picks);
      below = below;
      state = ap (λ (x : Center). x.state) is.center
          ∙ ap (λ (x : Center). (settles max_handlers h j turns w x).state) out
          ∙ settled_state max_handlers h j turns w (center_of a)
          ∙ ap (λ (s : State). settled max_handlers h j turns w s) state;
      log = is.log ∙ ap (λ (es : List Settlement). es ++ settlement h j turns w ∷ []) (same ∙ log);
    }

-- under just that job
pub settled_job : (h turns : ℕ) (w : Want) (c a b d : coded.Core) (j : Job) → h < max_handlers →
    state_of a ≡ state_of c → log_of a ≡ log_of c → pick_for h (center_of a) ≡ Some j →
    center_of b ≡ picked h j (center_of a) → log_of b ≡ log_of a →
    ((i : Job) → (center_of b).out h ≡ Some i → IsSettled h i turns w b d) → (is : Settled h turns w c d) × (is.job ≡ j)
unfolding settled_due
settled_job h turns w c a b d j below state log due out same settle = (settled_due h turns w c a b d j below state log due out same settle, refl)

pub settled_none : (h turns : ℕ) (w : Want) (a b d : coded.Core) (j : Job) → GrantsNone (center_of a) →
    center_of b ≡ picked h j (center_of a) → ((i : Job) → (center_of b).out h ≡ Some i → IsSettled h i turns w b d) →
    GrantsNone (center_of d)
settled_none h turns w a b d j none out settle =
    let is = settle j (picked-out h j (center_of a) (center_of b) out) in
    same_none (settles max_handlers h j turns w (picked h j (center_of a))) (center_of d)
    (is.center ∙ ap (λ (x : Center). settles max_handlers h j turns w x) out)
    (settles_none max_handlers h j turns w (center_of a) none)

-- one more settlement
pub plays_more : (most : ℕ) (s : State) (es : List Settlement) (t : State) (e : Settlement) → Plays most s es t →
    job_of e.handler t ≡ Some e.job → Plays most s (es ++ e ∷ []) (after most e t)
plays_more most s [] t e same due =
    subst (λ (r : State). (job_of e.handler r ≡ Some e.job) × (after most e r ≡ after most e t)) (sym same) (due, refl)
plays_more most s (x ∷ xs) t e plays due = (plays.0, plays_more most (after most x s) xs t e plays.1 due)

-- ---- what calls of the core leave

pub put_none : (h : ℕ) (c a : coded.Core) → center_of a ≡ put_back h (center_of c) → GrantsNone (center_of c) → GrantsNone (center_of a)
put_none h c a same none = same_none (put_back h (center_of c)) (center_of a) same (back_none h (center_of c) none)

pub put_state : (h : ℕ) (c a : coded.Core) → center_of a ≡ put_back h (center_of c) → GrantsNone (center_of c) → state_of a ≡ state_of c
put_state h c a same none = ap (λ (x : Center). x.state) same ∙ back_state h (center_of c) none

abbrev pub Goes : ℕ → coded.Core → coded.Core → Type 0
Goes h a b = (j : Job) × (pick_for h (center_of a) ≡ Some j) × (center_of b ≡ picked h j (center_of a))

pub picked_next : (h : ℕ) (a b : coded.Core) → Some h ≡ option_map (λ (p : ℕ × Job). p.0) (next (center_of a)) →
    center_of b ≡ picks (next (center_of a)) (center_of a) → Goes h a b
picked_next h a b e out =
    let found = next-of h (next (center_of a)) e in
    (found.0, next_picks h found.0 (center_of a) found.1, out ∙ ap (λ (o : Option (ℕ × Job)). picks o (center_of a)) found.1)

pub picked_here : (h : ℕ) (a b : coded.Core) → true ≡ is_some (pick_for h (center_of a)) →
    center_of b ≡ picked_if h (pick_for h (center_of a)) (center_of a) → Goes h a b
picked_here h a b e out =
    let found = some-of (pick_for h (center_of a)) (sym e) in
    (found.0, found.1, out ∙ ap (λ (o : Option Job). picked_if h o (center_of a)) found.1)

pub none_next : (a b : coded.Core) → None ≡ option_map (λ (p : ℕ × Job). p.0) (next (center_of a)) →
    center_of b ≡ picks (next (center_of a)) (center_of a) → center_of b ≡ center_of a
none_next a b e out = out ∙ ap (λ (o : Option (ℕ × Job)). picks o (center_of a)) (sym (none-of (next (center_of a)) e))

pub none_here : (h : ℕ) (a b : coded.Core) → false ≡ is_some (pick_for h (center_of a)) →
    center_of b ≡ picked_if h (pick_for h (center_of a)) (center_of a) → center_of b ≡ center_of a
none_here h a b e out = out ∙ ap (λ (o : Option Job). picked_if h o (center_of a)) (sym (none-job (pick_for h (center_of a)) (sym e)))

pub goes_out : (h : ℕ) (a b : coded.Core) (g : Goes h a b) → (center_of b).out h ≡ Some g.0
goes_out h a b g = picked-out h g.0 (center_of a) (center_of b) g.2

pub is_out : (h : ℕ) (a b : coded.Core) → Goes h a b → is_some ((center_of b).out h) ≡ true
is_out h a b g = ap (λ (o : Option Job). is_some o) (goes_out h a b g)

-- it is out with a job
pub has_job : (h : ℕ) (a b : coded.Core) → Goes h a b → None ≡ (center_of b).out h → ⊥
has_job h a b g e = let bad : None ≡ Some g.0 = e ∙ goes_out h a b g in cc

-- and that is this one
pub its_job : (h : ℕ) (a b : coded.Core) (g : Goes h a b) (j : Job) → (center_of b).out h ≡ Some j → g.0 ≡ j
its_job h a b g j e = one-job g.0 j (sym (goes_out h a b g) ∙ e)

pub goes_state : (h : ℕ) (a b : coded.Core) (g : Goes h a b) → is_granting g.0 ≡ false → state_of b ≡ state_of a
goes_state h a b g frees = ap (λ (x : Center). x.state) g.2 ∙ picked_state h g.0 (center_of a) frees

pub goes_none : (h : ℕ) (a b : coded.Core) (g : Goes h a b) → is_granting g.0 ≡ false → GrantsNone (center_of a) → GrantsNone (center_of b)
goes_none h a b g frees none = same_none (picked h g.0 (center_of a)) (center_of b) g.2 (picked_none h g.0 (center_of a) frees none)

-- a pick that is undone
pub undone_none : (h : ℕ) (a b d : coded.Core) → Goes h a b → center_of d ≡ put_back h (center_of b) → GrantsNone (center_of a) → GrantsNone (center_of d)
undone_none h a b d g back none k ks e = by (k == h) refl (ap (λ (x : Center). x.out k) (back ∙ undone) ∙ refl) e
  where
    undone : put_back h (center_of b) ≡ put_back_with h (Some g.0) (center_of b)
    undone = ap (λ (o : Option Job). put_back_with h o (center_of b)) (goes_out h a b g)

    by : (c : Bool) → (k == h) ≡ c → (center_of d).out k ≡ (if k == h then None else (center_of b).out k) → (center_of d).out k ≡ Some (job.Granted ks) → ⊥
    by true same is e =
        let none_out : (center_of d).out k ≡ None = is ∙ ap (λ (b' : Bool). if b' then None else (center_of b).out k) same in
        let bad : None ≡ Some (job.Granted ks) = sym none_out ∙ e in cc
    by false apart is e =
        let there : (center_of d).out k ≡ (center_of b).out k = is ∙ ap (λ (b' : Bool). if b' then None else (center_of b).out k) apart in
        let before : (center_of b).out k ≡ (center_of a).out k =
        ap (λ (x : Center). x.out k) g.2 ∙ ap (λ (b' : Bool). if b' then Some g.0 else (center_of a).out k) apart in
        none k ks (sym before ∙ sym there ∙ e)

-- ---- the core with its record

-- one more settlement
pub settled_plays : (p : Image) (h turns : ℕ) (w : Want) (c d : coded.Core) → Settled h turns w c d →
    ∥ PlaysTo p (log_of c) (state_of c) ∥₁ → ∥ PlaysTo p (log_of d) (state_of d) ∥₁
settled_plays p h turns w c d is plays =
    let e : Settlement = settlement h is.job turns w in
    subst (λ (es : List Settlement). ∥ PlaysTo p es (state_of d) ∥₁) (sym is.log)
    (subst (λ (s : State). ∥ PlaysTo p (log_of c ++ e ∷ []) s ∥₁) (sym is.state)
    (∥∥₁_map plays (λ (before : PlaysTo p (log_of c) (state_of c)).
    plays_more max_handlers (opened p Two).center.state (log_of c) (state_of c) e before is.due)))

pub stays_plays : (p : Image) (c d : coded.Core) → Stays c d → ∥ PlaysTo p (log_of c) (state_of c) ∥₁ → ∥ PlaysTo p (log_of d) (state_of d) ∥₁
stays_plays p c d is plays =
    subst (λ (es : List Settlement). ∥ PlaysTo p es (state_of d) ∥₁) (sym is.log)
    (subst (λ (s : State). ∥ PlaysTo p (log_of c) s ∥₁) (sym is.state) plays)

lines_behind : (es : List Settlement) (e : Settlement) → lines_of (es ++ e ∷ []) ≡ lines_of es ++ line_of e ∷ []
lines_behind [] e = refl
lines_behind (x ∷ es) e = ap (λ (ls : List RecordLine). line_of x ∷ ls) (lines_behind es e)

pub settled_lines : (h turns : ℕ) (w : Want) (c d : coded.Core) (ls ms : List RecordLine) → Settled h turns w c d →
    ls ≡ lines_of (log_of c) → ms ≡ ls ++ record { handler = h; turns = turns } ∷ [] → ms ≡ lines_of (log_of d)
settled_lines h turns w c d ls ms is recorded more =
    let line : RecordLine = record { handler = h; turns = turns } in
    more ∙ ap (λ (ks : List RecordLine). ks ++ line ∷ []) recorded
    ∙ sym (lines_behind (log_of c) (settlement h is.job turns w)) ∙ ap (λ (es : List Settlement). lines_of es) (sym is.log)

pub settled_below : (h turns : ℕ) (w : Want) (c d : coded.Core) → Settled h turns w c d → AreBelow (log_of c) → AreBelow (log_of d)
settled_below h turns w c d is below =
    subst AreBelow (sym is.log)
    (All-push (λ (e : Settlement). e.handler < max_handlers) (log_of c) (settlement h is.job turns w) below is.below)

pub same_lines : (c d : coded.Core) (ls : List RecordLine) → log_of d ≡ log_of c → ls ≡ lines_of (log_of c) → ls ≡ lines_of (log_of d)
same_lines c d ls same recorded = recorded ∙ ap (λ (es : List Settlement). lines_of es) (sym same)

pub same_below : (c d : coded.Core) → log_of d ≡ log_of c → AreBelow (log_of c) → AreBelow (log_of d)
same_below c d same below = subst AreBelow (sym same) below

pub same_center : (c d : coded.Core) → center_of d ≡ center_of c → log_of d ≡ log_of c → Stays c d
same_center c d center log = record { state = ap (λ (x : Center). x.state) center; log = log }

-- ---- who is out where nobody is

none_of : {A : Type 0} (out : A → Option Job) (total : List A → ℕ) →
    ((x : A) (xs : List A) → total (x ∷ xs) ≡ (if is_some (out x) then total xs + 1 else total xs)) →
    (xs : List A) → total xs ≡ 0 → (k : ℕ) → option_and_then out (slice_get xs k) ≡ None
none_of out total step [] e k = refl
none_of out total step (x ∷ xs) e k = by (out x) refl k (none_of out total step xs)
  where
    by : (o : Option Job) → out x ≡ o → (k : ℕ) → (total xs ≡ 0 → (k : ℕ) → option_and_then out (slice_get xs k) ≡ None) →
        option_and_then out (slice_get (x ∷ xs) k) ≡ None
    by (Some j) is k rest =
        let more : total (x ∷ xs) ≡ total xs + 1 = step x xs ∙ ap (λ (o : Option Job). if is_some o then total xs + 1 else total xs) is in
        absurd (omega (arith, more, e))
    by None is zero rest = is
    by None is (suc k) rest =
        let less : total (x ∷ xs) ≡ total xs = step x xs ∙ ap (λ (o : Option Job). if is_some o then total xs + 1 else total xs) is in
        rest (sym less ∙ e) k

pub none_out : (c : coded.Core) → out_total c.state.handlers.items ≡ 0 → (k : ℕ) → (center_of c).out k ≡ None
none_out c e k = none_of (λ x. x.out) out_total (λ x xs. refl) c.state.handlers.items e k

pub is_idle : (o : Option (ℕ × Job)) (b : Bool) → b ≡ not (is_some o) → b ≡ true → o ≡ None
is_idle None b e is = refl
is_idle (Some p) b e is = let bad : true ≡ false = sym is ∙ e in cc
