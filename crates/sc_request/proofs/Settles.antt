-- The tables of a core where a handler that was out is settled.
use Rattle.std.proofs.Common.{◌≡◌, ◌+◌, ◌<◌, ◌≤◌, ◌==◌, ℕ, zero, suc, List, [], ◌∷◌, Option, Some, None, refl, sym, ap, subst, ◌∙◌, inl, inr, length, slice_set, arith}
use Rattle.std.proofs.Math.Path.{fun_ext}
use Rattle.std.proofs.lemmas.Bool.{cases_Bool}
use Rattle.std.specs.Prelude.{is_some, slice_get, if◌then◌else◌}
use Rattle.std.specs.List.{All}
use Rattle.sc_lockpass.specs.Tables.{Table}
use Rattle.sc_region.specs.declared.job.Job.{Job}
use Rattle.sc_region.specs.declared.job.Want.{Want}
use Rattle.sc_handler.specs.declared.handler.Handler as coded
use Rattle.sc_handler.specs.Handlers.{State}
use Rattle.sc_request.specs.Settling.{settled}
use Rattle.sc_request.specs.Tables.{center, out_at, out_total, state_of}
use Rattle.sc_request.specs.Candidates.{HasGrantsBelow, HasOutsBelow, granted_items, is_granted}
use Rattle.sc_request.specs.Logs.{with_out}
use Rattle.sc_request.specs.Sound.{IsSound}
use Rattle.sc_request.proofs.Outs.{fewer_out, out_is, out_set, same_handler, with_job}
use Rattle.sc_request.proofs.GrantedReservations.{grants_back, outs_back}
use Rattle.sc_request.proofs.Counted.{counted}
use Rattle.sc_request.proofs.Sounds.{all_more, settled_is}

-- the state is the same, whoever is out
pub state_back : (count : ℕ) (xs : List coded.Handler) (sessions : List ℕ) (t : Table) (h : ℕ) (x : coded.Handler) → slice_get xs h ≡ Some x →
    state_of count (slice_set xs h (with_job None x)) sessions t ≡ state_of count xs sessions t
state_back count xs sessions t h x e = λ i. record {
  count = count;
  handlers = fun_ext (λ k. same_handler xs sessions h k x None e) i;
  rights = (state_of count xs sessions t).rights;
}

pub settled_center : (count : ℕ) (xs : List coded.Handler) (sessions : List ℕ) (t : Table) (last : ℕ) (h : ℕ) (x : coded.Handler) (s : State) (o : ℕ → Option Job) →
    slice_get xs h ≡ Some x → state_of count xs sessions t ≡ s → out_at xs ≡ o →
    center count (slice_set xs h (with_job None x)) sessions t last ≡ with_out h None (record { state = s; out = o; last = last })
settled_center count xs sessions t last h x s o e f g = λ i. record {
  state = (state_back count xs sessions t h x e ∙ f) i;
  out = fun_ext (λ k. out_set xs h k x None e ∙ ap (λ (p : ℕ → Option Job). if k == h then None else p k) g) i;
  last = last;
}

-- ---- who is out

total_same : (xs ys : List coded.Handler) → length xs ≡ length ys → ((k : ℕ) → out_at xs k ≡ out_at ys k) → out_total xs ≡ out_total ys
total_same [] [] l e = refl
total_same [] (y ∷ ys) l e = absurd (omega (arith, l))
total_same (x ∷ xs) [] l e = absurd (omega (arith, l))
total_same (x ∷ xs) (y ∷ ys) l e =
    ap (λ (o : Option Job). if is_some o then out_total xs + 1 else out_total xs) (e 0)
    ∙ ap (λ n. if is_some y.out then n + 1 else n) (total_same xs ys (omega (arith, l)) (λ k. e (suc k)))

-- one that is out is counted
pub out_counted : (xs : List coded.Handler) (h : ℕ) (j : Job) → out_at xs h ≡ Some j → 1 ≤ out_total xs
out_counted [] h j is = cc
out_counted (x ∷ xs) zero j is = rw (ap is_some is) (omega arith)
out_counted (x ∷ xs) (suc h) j is =
    let rest = out_counted xs h j is in
    elim (cases_Bool (is_some x.out)) [
      | inl b ↦ rw b (omega arith)
      | inr b ↦ rw b rest
    ]

pub settled_total : (xs ys : List coded.Handler) (h : ℕ) (x : coded.Handler) (j : Job) → slice_get xs h ≡ Some x → length xs ≡ length ys → out_at xs ≡ out_at ys →
    out_at ys h ≡ Some j → out_total ys ≡ out_total (slice_set xs h (with_job None x)) + 1
settled_total xs ys h x j e l same is =
    let some : x.out ≡ Some j = sym (out_is xs h x e) ∙ ap (λ (o : ℕ → Option Job). o h) same ∙ is in
    total_same ys xs (sym l) (λ k. ap (λ (o : ℕ → Option Job). o k) (sym same)) ∙ fewer_out xs h x j e some

pub settled_outs : (most : ℕ) (xs ys : List coded.Handler) (h : ℕ) (x : coded.Handler) → slice_get xs h ≡ Some x → out_at xs ≡ out_at ys → HasOutsBelow most ys →
    HasOutsBelow most (slice_set xs h (with_job None x))
settled_outs most xs ys h x e same below =
    outs_back most xs h x e (λ g j is. below g j (ap (λ (o : ℕ → Option Job). o g) (sym same) ∙ is))

pub settled_grants : (most : ℕ) (xs ys : List coded.Handler) (h : ℕ) (x : coded.Handler) → slice_get xs h ≡ Some x → out_at xs ≡ out_at ys → HasGrantsBelow most ys →
    HasGrantsBelow most (slice_set xs h (with_job None x))
settled_grants most xs ys h x e same below =
    grants_back most xs h x e (λ g k is. below g k (ap (λ (o : ℕ → Option Job). is_granted (o g) k) (sym same) ∙ is))

-- ---- the state stays sound

-- no handler's count has grown by more than one
settled_few : (n most h : ℕ) (j : Job) (turns : ℕ) (w : Want) (s : State) → most ≤ 512 → h < 512 → All (λ k. k < 512) (granted_items j) → IsSound n n s →
    IsSound (n + 1) (n + 1) (settled most h j turns w s)
settled_few n most h j turns w s within own there all =
    let t = settled_is n n most h j turns w s within own there all in
    record {
      within = t.within;
      rights = t.rights;
      handlers = λ k.
          let few = counted n most h j turns w s k (all.handlers k).sessions (all.handlers k).refused in
          let x = t.handlers k in
          record { stage = x.stage; queue = x.queue; callback = x.callback; services = x.services; entry = x.entry; sessions = few.0; refused = few.1; serves = x.serves };
    }

pub settled_sound : (n n' most h : ℕ) (j : Job) (turns : ℕ) (w : Want) (s : State) (count : ℕ) (xs : List coded.Handler) (sessions : List ℕ) (t : Table) (x : coded.Handler) →
    slice_get xs h ≡ Some x → state_of count xs sessions t ≡ settled most h j turns w s → n' ≡ n + 1 → most ≤ 512 → h < 512 →
    All (λ k. k < 512) (granted_items j) → IsSound n n s → IsSound n' n' (state_of count (slice_set xs h (with_job None x)) sessions t)
settled_sound n n' most h j turns w s count xs sessions t x e f l within own there all =
    subst (IsSound n' n') (sym (state_back count xs sessions t h x e ∙ f))
    (all_more (n + 1) n' (n + 1) n' (settled most h j turns w s) (omega (arith, l)) (omega (arith, l)) (settled_few n most h j turns w s within own there all))
