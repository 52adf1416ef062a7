-- Tables of holders, and what is listed of them.
use Rattle.std.proofs.Common.{◌≡◌, ℕ, ◌≤◌, ◌==◌, Option, Some, None, zero, suc, refl, sym, ap, ◌∙◌, inl, inr, replicate, arith}
use Rattle.std.proofs.lemmas.Bool.{cases_Bool, eqb-true}
use Rattle.std.proofs.Math.Path.{fun_ext}
use Rattle.sc_lockpass.specs.declared.version.Version.{Version}
use Rattle.sc_lockpass.specs.declared.version.Version.TheVariants.{One, Two}
use Rattle.sc_lockpass.specs.Versions.{most_handlers}
use Rattle.sc_lockpass.specs.Rights.{Rights, is_handler}
use Rattle.sc_lockpass.specs.Passing.{listed, passed_by}
use Rattle.sc_lockpass.specs.Tables.{holder_at, is_member, Listing, listed_in, passed_of}

-- the tables have room for each version
pub most_handlers-le : (v : Version) → most_handlers v ≤ 512
most_handlers-le One = omega arith
most_handlers-le Two = omega arith

-- a new table is nobody's
pub holder_at-replicate : (n k : ℕ) → holder_at (replicate n None) k ≡ None
holder_at-replicate zero k = refl
holder_at-replicate (suc n) zero = refl
holder_at-replicate (suc n) (suc k) = holder_at-replicate n k

-- what a set lists of what the client holds is what the rule lists
pub listed_in-held : (client : ℕ) (holder : Option ℕ) → listed_in (is_handler client holder) client ≡ listed client holder
listed_in-held client None = refl
listed_in-held client (Some k) = elim (cases_Bool (k == client)) [ inl e ↦ rw e (rw (eqb-true k client e) refl) | inr other ↦ rw other refl ]

-- Two sets of what the client holds, and who could push on its waiting stack, list what it passes.
pub passed_of-held : (p : Listing) (r : Rights) →
    ((k : ℕ) → is_member p.queues k ≡ is_handler p.client (r.queue k)) → ((k : ℕ) → is_member p.tops k ≡ is_handler p.client (r.top k)) →
    p.top_holder ≡ r.top p.client → passed_of p ≡ passed_by p.client r
passed_of-held p r queues tops own =
    let queue : (passed_of p).queue ≡ (passed_by p.client r).queue =
    fun_ext (λ k. rw (queues k) (listed_in-held p.client (r.queue k))) in
    let top : (passed_of p).top ≡ (passed_by p.client r).top =
    fun_ext (λ k. elim (cases_Bool (k == p.client)) [
      | inl e ↦ rw e (ap Some (own ∙ ap r.top (sym (eqb-true k p.client e))))
      | inr other ↦ rw (other, tops k) (listed_in-held p.client (r.top k))
    ]) in
    λ i. record { queue = queue i; top = top i }
