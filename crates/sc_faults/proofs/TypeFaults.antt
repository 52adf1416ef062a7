-- The faults that are listed of a declared type: each is one of it, and there is one at each place at which a rule fails in it.
use Rattle.std.proofs.Common.{◌≡◌, true, false, List, [], Option, Some, None, Ok, refl, ap, subst, ◌∙◌}
use Rattle.std.specs.Prelude.{All, Any, is_some}
use Rattle.std.proofs.lemmas.List.Elements.{All-nil}
use Rattle.sc_text.specs.declared.token.Span.{Span}
use Rattle.sc_tree.specs.Plain.{System, Declaration, DeclaredType}
use Rattle.sc_class.specs.declared.identity.ClassId.{ClassId}
use Rattle.sc_class.specs.Tables.Conformance.{is_expanded, type_class}
use Rattle.sc_rules.specs.declared.entity_types.tag.Tag.{Tag}
use Rattle.sc_rules.specs.declared.rule.Rule.{Rule}
use Rattle.sc_rules.specs.declared.rule.Rule.TheVariants.{UnknownName, TagName}
use Rattle.sc_rules.specs.Types as declared
use Rattle.sc_rules.specs.Types.{declared_tag, declared_type, is_marked, TypeFails, unknown_class, unknown_tag, marked}
use Rattle.sc_rules.specs.Names.{RoutineContext}
use Rattle.sc_rules.specs.Judging.{Judged, required, judge_type}
use Rattle.sc_rules.proofs.Refusals.{Refused, tells_more, tells_gave}
use Rattle.sc_rules.proofs.Complete.{required_ok}
use Rattle.sc_rules.proofs.ToldActuals.{told_type}
use Rattle.sc_rules.proofs.RefusedParts.{type_refused}
use Rattle.sc_rules.proofs.TextSound.{tells_required}
use Rattle.sc_faults.specs.Internal.Listing.{faults_at, judge_tag, faults_of_type, faults_of_type_if_any}
use Rattle.sc_faults.proofs.ReportedFaults.{Holds, at_all, at_any, none_left}
use Rattle.sc_faults.proofs.Places.{At, at_place, there_first, there_next, there_required}

none_of : {A : Type 0} (o : Option A) → is_some o ≡ false → o ≡ None
none_of None e = refl
none_of (Some x) e = cc

tag_all : (s : System) (formals : List Declaration) (d : DeclaredType) (P : Rule → Span → Type 0) →
    ((r : Rule) (p : Span) → TypeFails s formals d r p → P r p) → All (Holds P) (faults_at (judge_tag formals d) [])
tag_all s formals d P g =
    at_all P (judge_tag formals d) []
    (tells_required P (is_some (declared_tag formals d.tag)) TagName d.span
    (λ e. g TagName d.span (unknown_tag (none_of (declared_tag formals d.tag) e))))
    (All-nil (Holds P))

pub type_all : (s : System) (formals : List Declaration) (d : DeclaredType) (P : Rule → Span → Type 0) →
    ((r : Rule) (p : Span) → TypeFails s formals d r p → P r p) → All (Holds P) (faults_of_type s formals d)
type_all s formals d P g =
    at_all P (judge_type s formals d) (faults_at (judge_tag formals d) []) (tells_more g (tells_gave (told_type s formals d)))
    (tag_all s formals d P g)

-- a type that passes has a known tag
pub no_tag_fault : (s : System) (formals : List Declaration) (d : DeclaredType) (u : Unit {0}) → judge_type s formals d ≡ Ok u →
    faults_at (judge_tag formals d) [] ≡ []
no_tag_fault s formals d u e =
    none_left (TypeFails s formals d) (faults_at (judge_tag formals d) [])
    (λ r p f. subst (λ (j : Judged (Unit {0})). Refused j) e (type_refused f))
    (tag_all s formals d (TypeFails s formals d) (λ r p f. f))

pub tested_all : (h : RoutineContext) (d : Option DeclaredType) (P : Rule → Span → Type 0) →
    ((t : DeclaredType) → d ≡ Some t → (r : Rule) (p : Span) → TypeFails h.system h.formals t r p → P r p) →
    All (Holds P) (faults_of_type_if_any h.system h.formals d)
tested_all h None P g = All-nil (Holds P)
tested_all h (Some d) P g = type_all h.system h.formals d P (g d refl)

-- ---- places

marked_type : (d : DeclaredType) (c : ClassId) (g : Option Tag) → is_expanded c ≡ true → is_marked d ≡ true →
    is_some (declared.typed d (Some c) g) ≡ false
marked_type d c None e f = refl
marked_type d c (Some g) e f = simp (e, f) refl

pub type_place : {s : System} {formals : List Declaration} {d : DeclaredType} {r : Rule} {p : Span} → TypeFails s formals d r p →
    Any (Holds (At p)) (faults_of_type s formals d)
type_place {s} {formals} {d} (unknown_class e) =
    at_place (judge_type s formals d) (faults_at (judge_tag formals d) []) d.class.span
    (there_first d.class.span (required (is_some (type_class s d.class.text)) UnknownName d.class.span) _
    (there_required (is_some (type_class s d.class.text)) UnknownName d.class.span (ap (λ c. is_some c) e)))
type_place {s} {formals} {d} (unknown_tag e) =
    at_any (At d.span) (judge_type s formals d) (faults_at (judge_tag formals d) [])
    (at_place (judge_tag formals d) [] d.span
    (there_required (is_some (declared_tag formals d.tag)) TagName d.span (ap (λ g. is_some g) e)))
type_place {s} {formals} {d} (marked {c} e f m) =
    at_place (judge_type s formals d) (faults_at (judge_tag formals d) []) d.span
    (there_next d.span (required (is_some (type_class s d.class.text)) UnknownName d.class.span) _ tt
    (required_ok (is_some (type_class s d.class.text)) UnknownName d.class.span (ap (λ c. is_some c) e))
    (there_required (is_some (declared_type s formals d)) TagName d.span
    (ap (λ c. is_some (declared.typed d c (declared_tag formals d.tag))) e ∙ marked_type d c (declared_tag formals d.tag) f m)))
