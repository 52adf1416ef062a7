-- What stands at a number of a constant pool.
use Rattle.std.proofs.Common.{◌≡◌, ◌⊎◌, inl, inr, ℕ, zero, suc, ◌<◌, ◌≤◌, List, [], ◌∷◌, Option, Some, None, length, Bool, true, false, refl, sym, ap, subst, ◌∙◌, arith}
use Rattle.std.proofs.lemmas.Bool.{cases_lt}
use Rattle.std.proofs.lemmas.Option.{slice_get_past}
use Rattle.std.specs.Prelude.{nat_lt, slice_get, if◌then◌else◌, IfSome}
use Rattle.std.specs.Option.{option_map, option_and_then}
use Rattle.sc_code.specs.declared.program.ConstantPool.{ConstantPool}
use Rattle.sc_code.specs.declared.program.Image.{Image}
use Rattle.sc_code.specs.declared.site.CallSite as call
use Rattle.sc_code.specs.declared.site.CreationSite as creation
use Rattle.sc_code.specs.Operations as plain
use Rattle.sc_code.specs.View.{Pool, named, call_of, creation_with, creation_of}
use Rattle.sc_code.specs.Programs.{pool_of}
use Rattle.sc_region.specs.Stores.{PlainStore}
use Rattle.sc_interp.specs.Features.{IsSite}
use Rattle.sc_acts.specs.Tables.{listed}
use Rattle.sc_interp.specs.Standing.{call_in, creation_in}
use Rattle.sc_interp.specs.Told.{HasProcedure, IsCallIn}
use Rattle.sc_interp.proofs.GoingOn.{less_is, more_is}

pub listed_is : (xs : List (List ℕ)) (k : ℕ) → k < length xs → slice_get xs k ≡ Some (listed xs k)
listed_is [] k l = absurd (omega arith)
listed_is (x ∷ xs) zero l = refl
listed_is (x ∷ xs) (suc k) l = listed_is xs k (omega arith)

pub unlisted : (xs : List (List ℕ)) (k : ℕ) → length xs ≤ k → slice_get xs k ≡ None
unlisted xs k l = slice_get_past xs k l

-- whether there is a list of the number
pub listed_by : (xs : List (List ℕ)) (k n : ℕ) → length xs ≡ n → slice_get xs k ≡ (if nat_lt k n then Some (listed xs k) else None)
listed_by xs k n e = by (cases_lt k n)
  where
    by : (k < n) ⊎ (n ≤ k) → slice_get xs k ≡ (if nat_lt k n then Some (listed xs k) else None)
    by (inl l) = listed_is xs k (omega (arith, l, e)) ∙ ap (λ (b : Bool). if b then Some (listed xs k) else None) (sym (less_is k n l))
    by (inr m) = unlisted xs k (omega (arith, m, e)) ∙ ap (λ (b : Bool). if b then Some (listed xs k) else None) (sym (more_is k n m))

-- ---- sites

abbrev call_with : call.CallSite → List ℕ → plain.CallSite
call_with site name = record { name = name; count = site.count; gives = site.gives; is_own = site.is_own; passes = site.passes }

pub call_by : (p : Pool) (site : call.CallSite) (b : Bool) → slice_get p.names site.name ≡ (if b then Some (listed p.names site.name) else None) →
    call_of p site ≡ (if b then Some (call_in p site) else None)
call_by p site true e = ap (option_map (call_with site)) e
call_by p site false e = ap (option_map (call_with site)) e

pub named_by : (names : List (List ℕ)) (k : ℕ) (b : Bool) → slice_get names k ≡ (if b then Some (listed names k) else None) →
    named names (Some k) ≡ (if b then Some (Some (listed names k)) else None)
named_by names k true e = ap (option_map (λ (name : List ℕ). Some name)) e
named_by names k false e = ap (option_map (λ (name : List ℕ). Some name)) e

pub creation_by : (p : Pool) (site : creation.CreationSite) (b : Bool) →
    named p.names site.procedure ≡ (if b then Some (option_map (listed p.names) site.procedure) else None) →
    creation_of p site ≡ (if b then Some (creation_in p site) else None)
creation_by p site true e = ap (option_map (creation_with site)) e
creation_by p site false e = ap (option_map (creation_with site)) e

-- what a table of names says of a number, also where it is known by another name
pub name_told : (p q : ConstantPool) (k : ℕ) (b d : Bool) → q ≡ p → b ≡ d → slice_get (pool_of q).names k ≡ (if b then Some (listed (pool_of q).names k) else None) →
    slice_get (pool_of p).names k ≡ (if d then Some (listed (pool_of p).names k) else None)
name_told p q k b d same is e =
    subst (λ (r : ConstantPool). slice_get (pool_of r).names k ≡ (if b then Some (listed (pool_of r).names k) else None)) same e
    ∙ ap (λ (b : Bool). if b then Some (listed (pool_of p).names k) else None) is

-- the same of a procedure's name, if there is one
pub procedure_told : (p q : ConstantPool) (o : Option ℕ) (b d : Bool) → q ≡ p → b ≡ d →
    named (pool_of q).names o ≡ (if b then Some (option_map (listed (pool_of q).names) o) else None) →
    named (pool_of p).names o ≡ (if d then Some (option_map (listed (pool_of p).names) o) else None)
procedure_told p q o b d same is e =
    subst (λ (r : ConstantPool). named (pool_of r).names o ≡ (if b then Some (option_map (listed (pool_of r).names) o) else None)) same e
    ∙ ap (λ (b : Bool). if b then Some (option_map (listed (pool_of p).names) o) else None) is

pub procedure_there : (p : Image) (o : Option ℕ) → named (pool_of p.pool).names o ≡ Some (option_map (listed (pool_of p.pool).names) o) → HasProcedure p o
procedure_there p None e = tt
procedure_there p (Some x) e = by (slice_get (pool_of p.pool).names x) e
  where
    by : (o : Option (List ℕ)) → option_map (λ (name : List ℕ). Some name) o ≡ Some (Some (listed (pool_of p.pool).names x)) → o ≡ Some (listed (pool_of p.pool).names x)
    by None e = cc
    by (Some name) e = cc

-- the site of a qualified call, by what the tables say of its number
pub site_by : (x : PlainStore) (k : ℕ) (o : Option call.CallSite) →
    option_map (call_in (pool_of x.program.pool)) o ≡ option_and_then (call_of (pool_of x.program.pool)) (slice_get (pool_of x.program.pool).calls k) →
    IfSome o (λ site. IsCallIn x.program site) → IsSite x k o
site_by x k None e there = ap (option_map plain.CallFeature) (sym e)
site_by x k (Some site) e there = (ap (option_map plain.CallFeature) (sym e), there.named)
