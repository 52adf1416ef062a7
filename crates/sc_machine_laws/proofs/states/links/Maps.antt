-- The first ones of the trails are the holders of the machine's maps, and what steps do to trails is what they do to the maps.
use Rattle.std.proofs.Common.{◌≡◌, ℕ, ◌==◌, Bool, true, false, List, [], ◌∷◌, Some, None, refl, ap}
use Rattle.std.specs.Prelude.{if◌then◌else◌}
use Rattle.std.proofs.lemmas.Bool.{eq-eqb}
use Rattle.sc_lockpass.specs.Rights.{Rights, is_handler, lost_by}
use Rattle.sc_lockpass.specs.Passing.{pass, moved}
use Rattle.sc_machine_laws.specs.states.World.{Grant, World, holder, rights_of, put, passed_on, pass_all, fallen}

pub put-own : {X : Type 0} (h : ℕ) (x : X) (f : ℕ → X) → put h x f h ≡ x
put-own {X} h x f = ap (λ (b : Bool). if b then x else f h) (eq-eqb h h refl)

pub same_rights : (r s : Rights) → ((k : ℕ) → r.queue k ≡ s.queue k) → ((k : ℕ) → r.top k ≡ s.top k) → r ≡ s
same_rights r s q t = λ i. record { queue = λ k. q k i; top = λ k. t k i }

passed_holder : (h : ℕ) (e : Grant) (t : List Grant) → holder (passed_on h e t) ≡ moved h e.holder (holder t)
passed_holder h e t =
    elim (is_handler h (holder t)) as (λ b. holder (if b then e ∷ t else t) ≡ (if b then Some e.holder else holder t)) [ true ↦ refl | false ↦ refl ]

top_holder : (h k : ℕ) (e : Grant) (t : List Grant)
    → holder (if k == h then e ∷ t else passed_on h e t) ≡ (if k == h then Some e.holder else moved h e.holder (holder t))
top_holder h k e t =
    elim (k == h) as (λ b. holder (if b then e ∷ t else passed_on h e t) ≡ (if b then Some e.holder else moved h e.holder (holder t)))
    [ true ↦ refl | false ↦ passed_holder h e t ]

pub passing_rights : (h : ℕ) (e : Grant) (w : World) → rights_of (pass_all h e w) ≡ pass h e.holder (rights_of w)
passing_rights h e w =
    same_rights (rights_of (pass_all h e w)) (pass h e.holder (rights_of w)) (λ k. passed_holder h e (w.queue k)) (λ k. top_holder h k e (w.top k))

pub fallen_holder : (h : ℕ) (t : List Grant) → holder (fallen h t) ≡ lost_by h (holder t)
fallen_holder h t = elim (is_handler h (holder t)) as
    (λ b. holder (if b then [] else t) ≡ (if b then None else holder t)) [ true ↦ refl | false ↦ refl ]
