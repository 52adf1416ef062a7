-- Purity: no function is both pure and not, so one test alone tells them apart; marks that are closed, and whose
-- unmarked functions aren't pure, are that test.
use Rattle.std.proofs.Common.{◌≡◌, Bool, true, false, refl}
use Rattle.std.proofs.Math.Path.{fun_ext}
use Rattle.sc_tree.specs.Plain.{System}
use Rattle.sc_rules.specs.Names.{RoutineName}
use Rattle.sc_rules.specs.PurityLaws.{PureIsClosed}
use Rattle.sc_rules.specs.Purity.{ImpureItself, MayRun, IsClosed, Pure, Impure, by_itself, through, IsPurity}

-- one that isn't pure is in no closed set
pub in_none : {s : System} {f : RoutineName} → Impure s f → (set : RoutineName → Bool) → IsClosed s set →
    set f ≡ true → ⊥
in_none (by_itself {f} o) set c t = (c f t).0 o
in_none (through {f} {g} l i) set c t = in_none i set c ((c f t).1 g l)

pub not_both : (s : System) (f : RoutineName) → Pure s f → Impure s f → ⊥
not_both s f p i = in_none i p.0 p.1 p.2

-- two tests of one function that are both right agree
agree : (s : System) (f : RoutineName) (a b : Bool) → (a ≡ true → Pure s f) → (a ≡ false → Impure s f) →
    (b ≡ true → Pure s f) → (b ≡ false → Impure s f) →
    a ≡ b
agree s f true true p i q j = refl
agree s f true false p i q j = absurd (not_both s f (p refl) (j refl))
agree s f false true p i q j = absurd (not_both s f (q refl) (i refl))
agree s f false false p i q j = refl

pub purity_is_one : (s : System) (p q : RoutineName → Bool) → IsPurity s p → IsPurity s q → p ≡ q
purity_is_one s p q a b = fun_ext (λ f. agree s f (p f) (q f) (a f).0 (a f).1 (b f).0 (b f).1)

-- a closed set of marks, of which each unmarked one isn't pure
pub marks_are_purity : (s : System) (marks : RoutineName → Bool) → IsClosed s marks →
    ((f : RoutineName) → marks f ≡ false → Impure s f) → IsPurity s marks
marks_are_purity s marks c u f = ((λ t. (marks, c, t)), u f)

pub pure_is_closed : PureIsClosed
pure_is_closed s pure i f t = closed ((i f).0 t)
  where
    decided : (g : RoutineName) → Pure s g → (b : Bool) → pure g ≡ b → pure g ≡ true
    decided g p true e = e
    decided g p false e = absurd (not_both s g p ((i g).1 e))

    closed : Pure s f → (ImpureItself s f → ⊥) × ((g : RoutineName) → MayRun s f g → pure g ≡ true)
    closed (set, c, m) = ((c f m).0, λ g l. decided g (set, c, (c f m).1 g l) (pure g) refl)
