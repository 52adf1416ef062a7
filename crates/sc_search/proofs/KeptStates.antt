-- States that are kept.
use Rattle.std.proofs.Common.{◌≡◌, ◌⊎◌, ◌++◌, ◌∙◌, inl, inr, ℕ, zero, suc, Bool, true, false, IsTrue, ◌↔◌, List, [], ◌∷◌, Option, Some, None, is_some, Result, Ok, Err, length, slice_get, refl, ap, subst}
use Rattle.std.specs.Prelude.{IfNone, IfOk}
use Rattle.sc_model.specs.declared.status.Status.{Status}
use Rattle.sc_request.specs.Logs.{Center}
use Rattle.sc_world.specs.Kept.{PlainKept, kept}
use Rattle.sc_world.specs.Reports.{statuses}
use Rattle.sc_world.specs.Worlds.{PlainWorld}
use Rattle.sc_search.specs.declared.aims.Aim.{Aim}
use Rattle.sc_search.specs.declared.aims.Aim.TheVariants as aim
use Rattle.sc_search.specs.Aims.{AreStuck, HasFailed, HasRefused, IsMet, IsMetBy}
use Rattle.sc_search.specs.Steps.{AddsEdge, Keeps}
use Rattle.sc_search.specs.Views.{Met}

-- ---- lists

pub get_last : {X : Type 0} (xs : List X) (x : X) → slice_get (xs ++ x ∷ []) (length xs) ≡ Some x
get_last [] x = refl
get_last (y ∷ xs) x = get_last xs x

pub get_before : {X : Type 0} (xs : List X) (x : X) (i : ℕ) (k : X) → slice_get xs i ≡ Some k → slice_get (xs ++ x ∷ []) i ≡ Some k
get_before [] x i k e = cc
get_before (y ∷ xs) x zero k e = e
get_before (y ∷ xs) x (suc i) k e = get_before xs x i k e

-- what stands in the longer list stood before, or is the last one
pub get_either : {X : Type 0} (xs : List X) (x : X) (i : ℕ) (k : X) → slice_get (xs ++ x ∷ []) i ≡ Some k → (slice_get xs i ≡ Some k) ⊎ (k ≡ x)
get_either [] x zero k e = inr cc
get_either [] x (suc i) k e = cc
get_either (y ∷ xs) x zero k e = inl e
get_either (y ∷ xs) x (suc i) k e = get_either xs x i k e

pub same_some : {X : Type 0} (x y : X) → Some x ≡ Some y → x ≡ y
same_some x y e = cc

-- ---- worlds

pub unmet_not : (b : Bool) (P : Type 0) → b ≡ false → (IsTrue b ↔ P) → P → ⊥
unmet_not true P e is p = let no : true ≡ false = e in cc
unmet_not false P e is p = let no : false ≡ true = is.1 p in cc

-- what is told of the statuses and the core's state is told of the world
pub of_world : (a : Aim) (b : Bool) (ss : List Status) (c : Center) (w : PlainWorld) → (IsTrue b ↔ IsMetBy a ss c.state) → ss ≡ statuses w → c ≡ w.center → IsTrue b ↔ IsMet a w
of_world a b ss c w tells same center =
    subst (λ (d : Center). IsTrue b ↔ IsMetBy a (statuses w) d.state) center (subst (λ (ts : List Status). IsTrue b ↔ IsMetBy a ts c.state) same tells)

-- worlds that are kept alike show the same
pub refused_alike : (w u : PlainWorld) → kept w ≡ kept u → HasRefused w.center.state → HasRefused u.center.state
refused_alike w u alike refused = subst (λ (k : PlainKept). HasRefused k.state) alike refused

pub met_alike : (a : Aim) (w u : PlainWorld) → kept w ≡ kept u → statuses w ≡ statuses u → IsMet a w → IsMet a u
met_alike aim.Stuck w u alike same met = subst AreStuck same met
met_alike aim.Fails w u alike same met = subst HasFailed same met
met_alike aim.Refused w u alike same met = refused_alike w u alike met
met_alike aim.Any w u alike same (inl stuck) = inl (subst AreStuck same stuck)
met_alike aim.Any w u alike same (inr (inl failed)) = inr (inl (subst HasFailed same failed))
met_alike aim.Any w u alike same (inr (inr refused)) = inr (inr (refused_alike w u alike refused))

module _ (a : Aim) (w : PlainWorld) (from : Option ℕ) (turns : ℕ) (x : Met) (b : Bool) (not_met : b ≡ false) (tells : IsTrue b ↔ IsMet a w) where
  -- the state was met before
  pub keeps_found : (y : Met) (number : ℕ) → y.states ≡ x.states → slice_get x.states number ≡ Some (kept w) → AddsEdge from number turns x.edges y.edges → Keeps a w from turns x y
  keeps_found y number same at edge = record {
    among = record { number = number; stands = ap (λ (ms : List PlainKept). slice_get ms number) same ∙ at };
    grows = inl same;
    edge = edge;
    unmet = unmet_not b (IsMet a w) not_met tells;
  }

  -- it is met now
  pub keeps_new : (y : Met) → y.states ≡ x.states ++ kept w ∷ [] → AddsEdge from (length x.states) turns x.edges y.edges → Keeps a w from turns x y
  keeps_new y more edge = record {
    among = record { number = length x.states; stands = ap (λ (ms : List PlainKept). slice_get ms (length x.states)) more ∙ get_last x.states (kept w) };
    grows = inr more;
    edge = edge;
    unmet = unmet_not b (IsMet a w) not_met tells;
  }

pub none_is : {X : Type 0} (o : Option X) → is_some o ≡ false → o ≡ None
none_is None e = refl
none_is (Some x) e = cc

pub at_none : {S A : Type 0} (o : Option S) → o ≡ None → IfNone o A → A
at_none None e is = is
at_none (Some s) e is = cc

-- what is said of a search that goes on
pub goes_through : {A B : Type 0} {S E : Type 0} → (A → B) → (r : Result (Option S) E) → IfOk r (λ stop. IfNone stop A) → IfOk r (λ stop. IfNone stop B)
goes_through f (Ok None) is = f is
goes_through f (Ok (Some s)) is = tt
goes_through f (Err e) is = tt
