-- Where settled objects meet their invariants, no region fails as an object of it is settled.
use Rattle.std.proofs.Common.{◌≡◌, ◌==◌, ◌&&◌, not, ℕ, Bool, true, false, List, [], ◌∷◌, Option, Some, None, is_none, refl, sym, ap, subst, ◌∙◌}
use Rattle.std.proofs.lemmas.Bool.{eqb-false, or_parts, and_from}
use Rattle.std.proofs.lemmas.List.Elements.{All-nil, All-cons, All-head, All-tail}
use Rattle.std.specs.Prelude.{All, if◌then◌else◌, unwrap_or}
use Rattle.std.specs.List.{list_all}
use Rattle.sc_tree.specs.Plain.{System}
use Rattle.sc_formula.specs.declared.atom.Atom.{Atom}
use Rattle.sc_formula.specs.Formula.{PlainFormula, truth_of}
use Rattle.sc_formula.specs.Invariant.{Holds}
use Rattle.sc_model.specs.declared.cause.Cause.{Cause}
use Rattle.sc_model.specs.declared.cause.Cause.TheVariants as cause
use Rattle.sc_model.specs.Objects.{Object, object_numbered}
use Rattle.sc_model.specs.Invariants.{atoms_of, formulas_of, MeetsClauses, MeetsInvariant, meets_clauses, meets_invariant}
use Rattle.sc_model.specs.Settled.{IsNoCurrent, IsSettled}
use Rattle.sc_model.specs.Handlers.{Stage, Runs, Reserves, ReservesBlock, InCall, Awaits, Frame, Handler}
use Rattle.sc_model.specs.Exits.{handed, handed_as, handed_at}
use Rattle.sc_model.specs.Values.{Value}
use Rattle.sc_rules.specs.declared.entity_types.entity_type.EntityType.{EntityType}
use Rattle.sc_handler.specs.Handlers as core
use Rattle.sc_refines_world.specs.regions.RegionTurns.{Half, failed, is_current, object_breaks, settles, with_stack}
use Rattle.sc_refines_world.specs.regions.RegionHalves.{AreHalvesOf, IsRegionHalf}
use Rattle.sc_refines_world.proofs.regions.Alike.{IsAlike}
use Rattle.sc_refines_world.proofs.regions.Halves.{half_at}

-- ---- the tests of invariants

all_meet : (cs : List PlainFormula) (atoms : List Atom) → All (Holds atoms) cs → list_all (λ clause. unwrap_or (truth_of clause atoms) false) cs ≡ true
all_meet [] atoms e = refl
all_meet (c ∷ cs) atoms e =
    and_from _ _ (ap (λ (o : Option Bool). unwrap_or o false) (All-head (Holds atoms) c cs e)) (all_meet cs atoms (All-tail (Holds atoms) c cs e))

clauses_meet : (cs : Option (List PlainFormula)) (atoms : List Atom) → MeetsClauses cs atoms → meets_clauses cs atoms ≡ true
clauses_meet None atoms e = absurd e
clauses_meet (Some cs) atoms e = all_meet cs atoms e

pub invariant_meets : (s : System) (o : Object) → MeetsInvariant s o → meets_invariant s o ≡ true
invariant_meets s o e = clauses_meet (formulas_of s o.class) (atoms_of o.attributes) e

-- ---- settled objects of one handler

abbrev pub Meets : System → Handler → Type 0
Meets s y = (number : ℕ) (o : Object) → IsSettled y number → object_numbered number y.objects ≡ Some o → MeetsInvariant s o

pub meets_alike : (s : System) (y z : Handler) → IsAlike y z → Meets s z → Meets s y
meets_alike s y z a m = λ number o settled found.
    m number o (record { stands = a.failure ∙ settled.stands; at_rest = subst (IsNoCurrent number) (sym a.stack) settled.at_rest })
    (ap (λ (os : List Object). object_numbered number os) a.objects ∙ found)

-- ---- frames on the same objects

abbrev pub AreOnSame : List Frame → List Frame → Type 0
AreOnSame [] [] = Unit {0}
AreOnSame (f ∷ fs) (g ∷ gs) = (f.current.number ≡ g.current.number) × AreOnSame fs gs
AreOnSame fs gs = ⊥

pub halves_same : (h : ℕ) (t : core.HandlerStage) (fs gs : List Frame) → AreHalvesOf h t fs gs → AreOnSame fs gs
halves_same h t [] [] e = tt
halves_same h t [] (g ∷ gs) e = absurd e
halves_same h t (f ∷ fs) [] e = absurd e
halves_same h t (f ∷ fs) (g ∷ gs) e = (ap (λ (i : Frame). i.current.number) e.0.same, halves_same h core.Runs fs gs e.1)

handed_current : (stage : Stage) (v : Option Value) (f : Frame) → (handed_at stage v f).current.number ≡ f.current.number
handed_current Runs v f = refl
handed_current Reserves v f = refl
handed_current ReservesBlock v f = refl
handed_current (InCall gives) v f = by gives v
  where
    by : (gives : Option EntityType) (v : Option Value) → (handed_as gives v f).current.number ≡ f.current.number
    by (Some t) (Some u) = refl
    by (Some t) None = refl
    by None u = refl
handed_current (Awaits k gives c) v f = refl

pub handed_same : (v : Option Value) (fs gs : List Frame) → AreOnSame fs gs → AreOnSame (handed v fs) gs
handed_same v [] gs e = e
handed_same v (f ∷ fs) [] e = absurd e
handed_same v (f ∷ fs) (g ∷ gs) e = (handed_current f.stage v f ∙ e.0, e.1)

no_current : (number : ℕ) (fs gs : List Frame) → AreOnSame fs gs → is_current number gs ≡ false → IsNoCurrent number fs
no_current number [] [] e n = All-nil _
no_current number [] (g ∷ gs) e n = absurd e
no_current number (f ∷ fs) [] e n = absurd e
no_current number (f ∷ fs) (g ∷ gs) e n =
    let parts = or_parts (g.current.number == number) (is_current number gs) n in
    All-cons (λ (i : Frame). i.current.number ≡ number → ⊥) f fs (λ is. eqb-false g.current.number number parts.0 (sym e.0 ∙ is))
    (no_current number fs gs e.1 parts.1)

-- ---- nothing fails

test_fails : (s : System) (a b : Bool) (o : Option Object) → (b ≡ false → (q : Object) → o ≡ Some q → meets_invariant s q ≡ true) →
    (a && not b && object_breaks s o) ≡ false
test_fails s false b o e = refl
test_fails s true true o e = refl
test_fails s true false None e = refl
test_fails s true false (Some q) e = ap not (e refl q refl)

pub settles_none : (s : System) (number : ℕ) (x : Half) (z : Handler) → Meets s z → z.failure ≡ None → x.objects ≡ z.objects → AreOnSame z.stack x.stack →
    settles s number x ≡ x
settles_none s number x z meets lives objects same =
    ap (λ (b : Bool). if b then failed cause.Invariant x else x)
    (test_fails s (is_none x.failure) (is_current number x.stack) (object_numbered number x.objects) (λ apart q is.
    invariant_meets s q
    (meets number q (record { stands = lives; at_rest = no_current number z.stack x.stack same apart })
    (sym (ap (λ (os : List Object). object_numbered number os) objects) ∙ is))))

-- the frame goes, and these are left
pub leaves_none : (s : System) (number : ℕ) (y : Handler) (fs gs stack : List Frame) → Meets s (record y { stack = fs }) → y.failure ≡ None → AreOnSame fs gs →
    settles s number (with_stack gs (half_at y stack)) ≡ half_at y gs
leaves_none s number y fs gs stack meets lives same = settles_none s number (half_at y gs) (record y { stack = fs }) meets lives refl same

-- A region that fails with its handler, or stands as it does, stays its half.
pub settles_half : (s : System) (h number : ℕ) (y : Handler) (x : Half) → Meets s y → IsRegionHalf h y core.Runs x → x.failure ≡ y.failure →
    settles s number x ≡ x
settles_half s h number y x meets e same = by x.failure refl
  where
    by : (o : Option Cause) → x.failure ≡ o → settles s number x ≡ x
    by None is = settles_none s number x y meets (sym same ∙ is) e.objects (halves_same h core.Runs y.stack x.stack (e.stands (sym same ∙ is)).1)
    by (Some why) is =
        ap (λ (b : Bool). if b && not (is_current number x.stack) && object_breaks s (object_numbered number x.objects) then failed cause.Invariant x else x)
        (ap (λ (c : Option Cause). is_none c) is)
