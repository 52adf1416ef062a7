-- The laws of rights and of passing.
use Rattle.std.proofs.Common.{◌≡◌, ◌≢◌, ◌==◌, ◌||◌, ℕ, Bool, true, false, Option, Some, None, refl, sym, ap, ◌∙◌, inl, inr}
use Rattle.std.proofs.lemmas.Bool.{cases_Bool, eqb-true, eq-eqb, ne_eqb, or_cases, or_left, or_right}
use Rattle.std.proofs.Math.Path.{fun_ext}
use Rattle.sc_lockpass.specs.Rights.{Rights, is_handler, is_among, reserve, release, lost_by}
use Rattle.sc_lockpass.specs.Passing.{pass, moved, listed, passed_by, returned, give_back}
use Rattle.sc_lockpass.specs.Laws.{Restores, HoldsAgain, TopReturns, SupplierHolds, ClientHolds, OthersHold, NothingKept, OthersKeep, ReserverHolds, TakesNothing, ReleaseRestores}

-- rights are those of their two maps
pub same_rights : (a b : Rights) → ((k : ℕ) → a.queue k ≡ b.queue k) → ((k : ℕ) → a.top k ≡ b.top k) → a ≡ b
same_rights a b queue top = λ i. record { queue = fun_ext queue i; top = fun_ext top i }

-- ---- one right

-- a holder that isn't this handler
is_handler-none : (h : ℕ) (o : Option ℕ) → is_handler h o ≡ true → o ≡ Some h
is_handler-none h None e = cc
is_handler-none h (Some k) e = ap Some (eqb-true k h e)

-- what was passed returns
returned-moved : (c s : ℕ) (o : Option ℕ) → returned (listed c o) (moved c s o) ≡ o
returned-moved c s None = refl
returned-moved c s (Some k) = elim (cases_Bool (k == c)) [ inl e ↦ rw e refl | inr other ↦ rw other refl ]

-- it is the client's again
returned-held : (c : ℕ) (o now : Option ℕ) → is_handler c o ≡ true → is_handler c (returned (listed c o) now) ≡ true
returned-held c None now e = cc
returned-held c (Some k) now e = rw e e

or-false : (b : Bool) → (b || false) ≡ b
or-false true = refl
or-false false = refl

-- the supplier's are those that were its own, and the client's
moved-supplier : (c s : ℕ) (o : Option ℕ) → is_handler s (moved c s o) ≡ (is_handler s o || is_handler c o)
moved-supplier c s None = refl
moved-supplier c s (Some k) = elim (cases_Bool (k == c)) [
  | inl e ↦ rw (e, eq-eqb s s refl) (sym (or_right (k == s) true refl))
  | inr other ↦ rw other (sym (or-false (k == s)))
]

-- nothing is the client's any more
moved-client : (c s : ℕ) (o : Option ℕ) → c ≢ s → is_handler c (moved c s o) ≡ false
moved-client c s None apart = refl
moved-client c s (Some k) apart = elim (cases_Bool (k == c)) [ inl e ↦ rw e (ne_eqb s c (λ e. apart (sym e))) | inr other ↦ rw other other ]

-- the others' stay
moved-other : (c s h : ℕ) (o : Option ℕ) → h ≢ c → h ≢ s → is_handler h (moved c s o) ≡ is_handler h o
moved-other c s h None p q = refl
moved-other c s h (Some k) p q = elim (cases_Bool (k == c)) [
  | inl e ↦ rw e (ne_eqb s h (λ e. q (sym e)) ∙ sym (ne_eqb k h (λ f. p (sym f ∙ eqb-true k c e))))
  | inr other ↦ rw other refl
]

lost-own : (h : ℕ) (o : Option ℕ) → is_handler h (lost_by h o) ≡ false
lost-own h None = refl
lost-own h (Some k) = elim (cases_Bool (k == h)) [ inl e ↦ rw e refl | inr other ↦ rw other other ]

lost-other : (h g : ℕ) (o : Option ℕ) → g ≢ h → is_handler g (lost_by h o) ≡ is_handler g o
lost-other h g None p = refl
lost-other h g (Some k) p = elim (cases_Bool (k == h)) [
  | inl e ↦ rw e (sym (ne_eqb k g (λ f. p (sym f ∙ eqb-true k h e))))
  | inr other ↦ rw other refl
]

-- ---- the laws

pub restores : Restores
restores r c s =
    same_rights (give_back (passed_by c r) (pass c s r)) r (λ k. returned-moved c s (r.queue k))
    (λ k. elim (cases_Bool (k == c)) [ inl e ↦ rw e refl | inr other ↦ rw other (returned-moved c s (r.top k)) ])

pub top_returns : TopReturns
top_returns r now c = rw (eq-eqb c c refl) refl

held-queue : (a b c : Bool) → b ≡ true → (a || b || c) ≡ true
held-queue true b c e = refl
held-queue false true c e = refl
held-queue false false c e = cc

held-top : (b c : Bool) → c ≡ true → (b || c) ≡ true
held-top true c e = refl
held-top false c e = e

pub holds_again : HoldsAgain
holds_again r now c k h = elim (cases_Bool (k == c)) [
  | inl e ↦ rw e refl
  | inr other ↦
      let parts = rw other at h in
      elim (or_cases (is_handler c (r.queue k)) (is_handler c (r.top k)) parts) [
        | inl e ↦ rw other (or_left _ _ (returned-held c (r.queue k) (now.queue k) e))
        | inr e ↦ rw other (held-top _ _ (returned-held c (r.top k) (now.top k) e))
      ]
]

-- what either of two handlers holds
either : (a q1 q2 t1 t2 : Bool) → (a || (q1 || q2) || (t1 || t2)) ≡ ((a || q1 || t1) || (false || q2 || t2))
either true q1 q2 t1 t2 = refl
either false true q2 t1 t2 = refl
either false false true true t2 = refl
either false false true false t2 = refl
either false false false t1 t2 = refl

pub supplier_holds : SupplierHolds
supplier_holds r c s k = elim (cases_Bool (k == c)) [
  | inl e ↦ rw (e, eq-eqb s s refl) (or_right _ true refl ∙ sym (or_right _ true refl))
  | inr other ↦
      rw (other, moved-supplier c s (r.queue k), moved-supplier c s (r.top k))
      (either (k == s) (is_handler s (r.queue k)) (is_handler c (r.queue k)) (is_handler s (r.top k)) (is_handler c (r.top k)))
]

pub client_holds : ClientHolds
client_holds r c s k apart = elim (cases_Bool (k == c)) [
  | inl e ↦ rw e refl
  | inr other ↦ rw (other, moved-client c s (r.queue k) apart, moved-client c s (r.top k) apart) refl
]

pub others_hold : OthersHold
others_hold r c s h k p q n = rw (ne_eqb k c n, moved-other c s h (r.queue k) p q, moved-other c s h (r.top k) p q) refl

pub nothing_kept : NothingKept
nothing_kept r h k = rw (lost-own h (r.queue k), lost-own h (r.top k)) (or-false (k == h || false) ∙ or-false (k == h))

pub others_keep : OthersKeep
others_keep r h g k p = rw (lost-other h g (r.queue k) p, lost-other h g (r.top k) p) refl

pub reserver_holds : ReserverHolds
reserver_holds r h k ks = elim (cases_Bool (is_among k ks)) [
  | inl e ↦ rw (e, eq-eqb h h refl) (held-queue (k == h) true (is_handler h (r.top k)) refl)
  | inr other ↦ rw other refl
]

pub takes_nothing : TakesNothing
takes_nothing r h g k ks free p = elim (cases_Bool (is_among k ks)) [
  | inl e ↦ rw (e, free k e, ne_eqb h g (λ f. p (sym f))) refl
  | inr other ↦ rw other refl
]

pub release_restores : ReleaseRestores
release_restores r h ks free =
    same_rights (release ks (reserve h ks r)) r
    (λ k. elim (cases_Bool (is_among k ks)) [ inl e ↦ rw e (sym (free k e)) | inr other ↦ rw other refl ]) (λ k. refl)
