-- Rights of other handlers stay where rights are released, reserved, passed, lost or returned.
use Rattle.std.proofs.Common.{◌≡◌, ◌≢◌, ℕ, ◌==◌, ◌&&◌, ◌||◌, Bool, true, false, List, [], ◌∷◌, Option, Some, None, refl, sym, ap, ◌∙◌}
use Rattle.std.specs.Prelude.{if◌then◌else◌}
use Rattle.std.specs.List.{list_all}
use Rattle.std.specs.Option.{is_none}
use Rattle.std.proofs.lemmas.Bool.{eqb-true, ne_eqb}
use Rattle.sc_lockpass.specs.Rights as rights
use Rattle.sc_lockpass.specs.Rights.{Rights, is_handler, is_among, release_all}
use Rattle.sc_lockpass.specs.Passing.{Passed, moved, pass, returned, give_back}
use Rattle.sc_machine_laws.proofs.states.Rights.{not_some}
use Rattle.sc_machine_laws.proofs.states.Waits.{true_false}
use Rattle.sc_machine_laws.proofs.states.Lists.{same_some}
use Rattle.sc_machine_laws.proofs.Held.{IsHere}

-- ---- rights alone

-- every right of another handler than g stays, but perhaps that to push on g's waiting stack
pub record Kept (g : ℕ) (r s : Rights) : Type 0 where
  pub queue : (h k : ℕ) → g ≢ h → r.queue k ≡ Some h → s.queue k ≡ Some h
  pub top : (h k : ℕ) → g ≢ h → k ≢ g → r.top k ≡ Some h → s.top k ≡ Some h

pub kept_same : (g : ℕ) (r : Rights) → Kept g r r
kept_same g r = record { queue = λ h k ne e. e; top = λ h k ne other e. e }

pub kept_again : {g : ℕ} {r s t : Rights} → Kept g r s → Kept g s t → Kept g r t
kept_again a b = record {
  queue = λ h k ne e. b.queue h k ne (a.queue h k ne e);
  top = λ h k ne other e. b.top h k ne other (a.top h k ne other e);
}

-- what is another's is not among what is g's
not_among : (g : ℕ) (ks : List ℕ) (r : Rights) → ((k : ℕ) → is_among k ks ≡ true → r.queue k ≡ Some g) → (h k : ℕ) →
    g ≢ h → r.queue k ≡ Some h
    → is_among k ks ≡ false
not_among g ks r here h k ne e = by (is_among k ks) refl
  where
    by : (b : Bool) → is_among k ks ≡ b → is_among k ks ≡ false
    by false i = i
    by true i = absurd (ne (same_some (sym (here k i) ∙ e)))

pub kept_released : (g : ℕ) (ks : List ℕ) (r : Rights) → ((k : ℕ) → is_among k ks ≡ true → r.queue k ≡ Some g) →
    Kept g r (rights.release ks r)
kept_released g ks r here = record {
  queue = λ h k ne e. ap (λ (b : Bool). if b then None else r.queue k) (not_among g ks r here h k ne e) ∙ e;
  top = λ h k ne other e. e;
}

pub kept_reserved : (g : ℕ) (ks : List ℕ) (r : Rights) → ((k : ℕ) → is_among k ks ≡ true → r.queue k ≡ None) →
    Kept g r (rights.reserve g ks r)
kept_reserved g ks r free = record { queue = λ h k ne e. by h k e (is_among k ks) refl; top = λ h k ne other e. e }
  where
    by : (h k : ℕ) → r.queue k ≡ Some h → (b : Bool) → is_among k ks ≡ b → (if b then Some g else r.queue k) ≡ Some h
    by h k e false i = e
    by h k e true i = not_some h (sym (free k i) ∙ e)

not_holder : (g h : ℕ) (o : Option ℕ) → g ≢ h → o ≡ Some h → is_handler g o ≡ false
not_holder g h o ne e = ap (is_handler g) e ∙ ne_eqb h g (λ i. ne (sym i))

pub kept_passed : (g j : ℕ) (r : Rights) → Kept g r (pass g j r)
kept_passed g j r = record {
  queue = λ h k ne e. ap (λ (b : Bool). if b then Some j else r.queue k) (not_holder g h (r.queue k) ne e) ∙ e;
  top = λ h k ne other e. ap (λ (b : Bool). if b then Some j else moved g j (r.top k)) (ne_eqb k g other)
      ∙ ap (λ (b : Bool). if b then Some j else r.top k) (not_holder g h (r.top k) ne e) ∙ e;
}

pub kept_lost : (g : ℕ) (r : Rights) → Kept g r (release_all g r)
kept_lost g r = record {
  queue = λ h k ne e. ap (λ (b : Bool). if b then None else r.queue k) (not_holder g h (r.queue k) ne e) ∙ e;
  top = λ h k ne other e. ap (λ (b : Bool). if b then None else r.top k) (not_holder g h (r.top k) ne e) ∙ e;
}

pub kept_returned : (g : ℕ) (p : Passed) (r : Rights) → IsHere r g p → Kept g r (give_back p r)
kept_returned g p r here = record {
  queue = λ h k ne e. by (p.queue k) refl h (r.queue k) ne e (here.queue k);
  top = λ h k ne other e. by (p.top k) refl h (r.top k) ne e (here.top k);
}
  where
    by : {x : Option (Option ℕ)} (l : Option (Option ℕ)) → x ≡ l → (h : ℕ) (o : Option ℕ) → g ≢ h → o ≡ Some h
        → ((b : Option ℕ) → x ≡ Some b → o ≡ Some g) → returned x o ≡ Some h
    by None i h o ne e is = ap (λ x. returned x o) i ∙ e
    by (Some b) i h o ne e is = absurd (ne (same_some (sym (is b i) ∙ e)))

-- what is listed is still the handler's, where others are released
here_after : (g : ℕ) (ks : List ℕ) (r : Rights) (p : Passed) → IsHere r g p → (h k : ℕ) → g ≢ h →
    (rights.release ks r).queue k ≡ Some h → p.queue k ≡ None
here_after g ks r p here h k ne e = by (p.queue k) refl
  where
    before : (b : Bool) → is_among k ks ≡ b → (if b then None else r.queue k) ≡ Some h → r.queue k ≡ Some h
    before false i e = e
    before true i e = not_some h e

    by : (o : Option (Option ℕ)) → p.queue k ≡ o → p.queue k ≡ None
    by None i = i
    by (Some b) i = absurd (ne (same_some (sym (here.queue k b i) ∙ before (is_among k ks) refl e)))

-- with a release before
pub kept_released_returned : (g : ℕ) (ks : List ℕ) (p : Passed) (r : Rights) →
    ((k : ℕ) → is_among k ks ≡ true → r.queue k ≡ Some g) → IsHere r g p
    → Kept g r (give_back p (rights.release ks r))
kept_released_returned g ks p r mine here = record {
  queue = λ h k ne e. let i = (kept_released g ks r mine).queue h k ne e in
      ap (λ x. returned x ((rights.release ks r).queue k)) (here_after g ks r p here h k ne i) ∙ i;
  top = λ h k ne other e. (kept_returned g p r here).top h k ne other e;
}

-- ---- what is free

pub and_left : (a b : Bool) → (a && b) ≡ true → a ≡ true
and_left true b e = refl
and_left false b e = e

pub and_right : (a b : Bool) → (a && b) ≡ true → b ≡ true
and_right true b e = e
and_right false b e = true_false (sym e)

pub all_among : (P : ℕ → Bool) (ks : List ℕ) (k : ℕ) → list_all P ks ≡ true → is_among k ks ≡ true → P k ≡ true
all_among P [] k all e = true_false (sym e)
all_among P (j ∷ ks) k all e = by (j == k) refl e (λ i. all_among P ks k (and_right (P j) (list_all P ks) all) i)
  where
    by : (b : Bool) → (j == k) ≡ b → (b || is_among k ks) ≡ true → (is_among k ks ≡ true → P k ≡ true) → P k ≡ true
    by true i e rest = ap P (sym (eqb-true j k i)) ∙ and_left (P j) (list_all P ks) all
    by false i e rest = rest e

pub none_is : (o : Option ℕ) → is_none o ≡ true → o ≡ None
none_is None e = refl
none_is (Some h) e = true_false (sym e)

pub or_right : (a b : Bool) → (a || b) ≡ true → a ≡ false → b ≡ true
or_right true b e i = true_false i
or_right false b e i = e
