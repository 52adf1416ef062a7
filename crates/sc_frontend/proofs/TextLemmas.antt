-- From a text to its system.
use Rattle.std.proofs.Common.{◌≡◌, ℕ, ◌<◌, ◌≤◌, ◌^◌, List, [], ◌∷◌, ◌⊎◌, inl, inr, Result, Ok, Err, IfErr, IfOk, IsErrAnd, MatchResult, length, map, Some, refl, ap, sym, ◌∙◌, subst, arith}
use Rattle.sc_text.specs.Kind.{Kind, kinds_of}
use Rattle.sc_text.specs.declared.token.Token.{Token}
use Rattle.sc_text.specs.Spelling.{Spells, lexemes_of, lexeme_of, max_source_bytes}
use Rattle.sc_tree.specs.Plain.{System}
use Rattle.sc_tree.specs.Grammar.Classes.{IsSystem}
use Rattle.sc_tree.specs.Bare.{bare_system}
use Rattle.sc_tree.specs.Canonical.{canonical_text}
use Rattle.sc_tree.specs.Canonical.Layout.{text_of_lines}
use Rattle.sc_tree.proofs.CanonicalPlaces.{classes-bare}
use Rattle.sc_parse.specs.Parses.{Refuses}
use Rattle.sc_parse.specs.declared.fault.ParseFault.{ParseFault}
use Rattle.sc_parse.specs.declared.fault.ParseFault.TheVariants as parsing
use Rattle.sc_class.specs.declared.fault.ClassFault.{ClassFault}
use Rattle.sc_class.specs.declared.fault.ClassFault.TheVariants as classes
use Rattle.sc_class.specs.ClassNames.{Root}
use Rattle.sc_class.specs.Faults.ClassRules.{Fails, IsFaultless, duplicate_class, unknown_parent, cycle, duplicate_feature, bad_redefinition, no_root, limit, left_out}
use Rattle.sc_rules.specs.SystemRules.{SystemFails}
use Rattle.sc_typing.specs.declared.fault.CheckFault.{CheckFault}
use Rattle.sc_typing.specs.declared.fault.CheckFault.TheVariants as checking
use Rattle.sc_check.specs.CheckFaults.{IsTrueOf}
use Rattle.sc_class.specs.SystemIn.{system_in}
use Rattle.sc_check.specs.declared.checked.Checked.{Checked}
use Rattle.sc_check.specs.CheckedTables.{tables_of}
use Rattle.sc_code.specs.Programs.{code_length}
use Rattle.sc_lower.specs.declared.program.lowering.Lowering.{Lowering}
use Rattle.sc_lower.specs.declared.program.lowering.Lowering.TheVariants as lowering
use Rattle.sc_lower.specs.Lowerings.{HandsBack}
use Rattle.sc_frontend.specs.declared.rejection.Rejection.{Rejection}
use Rattle.sc_frontend.specs.declared.rejection.Rejection.TheVariants as rejection
use Rattle.sc_frontend.specs.Rejection.{of_code, of_tokens, of_classes, of_system}
use Rattle.sc_parse.specs.Places.{IsPlaced}
use Rattle.sc_class.specs.Faults.FaultList.{AreClassFaults, BeginsWithFirst}
use Rattle.sc_class.proofs.ListingLemmas.{not_empty}
use Rattle.sc_rules.specs.declared.fault.Fault.{Fault}
use Rattle.sc_faults.specs.FaultLists.{IsFaultList}
use Rattle.sc_frontend.specs.Refusals.{by_classes, by_rule}
use Rattle.sc_frontend.specs.declared.refused.Refused.{Refused}
use Rattle.sc_frontend.specs.Texts.{AreAllOf, kinds, IsSpelled, IsRead, IsSound, IsAtFault, IsRefusedFor, IsRunnable, IsNotRunFor, IsUnreadable}

-- the kinds of tokens, with their places or without
pub kinds-lexemes_of : (ts : List Token) → kinds (lexemes_of ts) ≡ kinds_of ts
kinds-lexemes_of [] = refl
kinds-lexemes_of (t ∷ ts) = ap (λ ks. (lexeme_of t).kind ∷ ks) (kinds-lexemes_of ts)

-- a text that spells a system where its tokens stand spells its tree
pub read-spelled : (text : List ℕ) (s : System) → IsRead text s → IsSpelled text (bare_system s)
read-spelled text s is =
    record { tokens = is.tokens; nesting = is.nesting; spelled = is.spelled; short = is.short; shallow = is.shallow; grammar = is.grammar }

-- tokens of a text that spell a system, and where it stands: the text spells it
pub system-read : (text : List ℕ) (ts : List Token) (s : System) (nesting : ℕ) → Spells text (lexemes_of ts) →
    (max_source_bytes < length text → ⊥) → nesting ≤ 64 → IsSystem (bare_system s) (kinds_of ts) nesting → IsPlaced s (lexemes_of ts) → IsRead text s
system-read text ts s nesting spelled short shallow grammar placed =
    record {
      tokens = lexemes_of ts;
      nesting = nesting;
      spelled = spelled;
      short = omega (arith, short);
      shallow = shallow;
      grammar = rw (kinds-lexemes_of ts) grammar;
      placed = placed;
    }

-- tokens of a text that are refused
pub tokens-refused : (text : List ℕ) (ts : List Token) (fault : ParseFault) → Spells text (lexemes_of ts) →
    Refuses (kinds_of ts) fault → IsUnreadable text (of_tokens fault)
tokens-refused text ts (parsing.NotInGrammar place) spelled refuses =
    record { tokens = lexemes_of ts; spelled = spelled; refuses = rw (kinds-lexemes_of ts) refuses }
tokens-refused text ts (parsing.TooDeep place) spelled refuses =
    record { tokens = lexemes_of ts; spelled = spelled; refuses = rw (kinds-lexemes_of ts) refuses }
tokens-refused text ts parsing.OutOfMemory spelled refuses = tt

-- what can't be read is refused
pub unreadable-refused : (text : List ℕ) (root : Root) (e : Rejection) → IsUnreadable text e → IsRefusedFor text root e
unreadable-refused text root (rejection.Text fault) is = is
unreadable-refused text root (rejection.Grammar fault) is = is
unreadable-refused text root (rejection.Classes fault) is = absurd is
unreadable-refused text root (rejection.Rules fault) is = absurd is
unreadable-refused text root rejection.CodeTooLong is = absurd is
unreadable-refused text root rejection.OutOfMemory is = is

-- what is at fault in the system that it spells is a refusal of the text
pub fault-refused : (text : List ℕ) (root : Root) (s : System) → IsRead text s → (e : Rejection) → IsAtFault s root e →
    IsRefusedFor text root e
fault-refused text root s is (rejection.Text fault) at = absurd at
fault-refused text root s is (rejection.Grammar fault) at = absurd at
fault-refused text root s is (rejection.Classes fault) at = record { system = s; read = is; fault = at }
fault-refused text root s is (rejection.Rules fault) at = record { system = s; read = is; fault = at }
fault-refused text root s is rejection.CodeTooLong at = absurd at
fault-refused text root s is rejection.OutOfMemory at = tt

-- what is refused isn't run
pub refused-not_run : (text : List ℕ) (root : Root) (e : Rejection) → IsRefusedFor text root e → IsNotRunFor text root e
refused-not_run text root (rejection.Text fault) is = is
refused-not_run text root (rejection.Grammar fault) is = is
refused-not_run text root (rejection.Classes fault) is = is
refused-not_run text root (rejection.Rules fault) is = is
refused-not_run text root rejection.CodeTooLong is = absurd is
refused-not_run text root rejection.OutOfMemory is = is

-- in a sound system nothing is at fault
pub sound-in_memory : (s : System) (root : Root) → IsSound s root → (e : Rejection) → IsAtFault s root e → e ≡ rejection.OutOfMemory
sound-in_memory s root sound (rejection.Text fault) at = absurd at
sound-in_memory s root sound (rejection.Grammar fault) at = absurd at
sound-in_memory s root sound (rejection.Classes fault) at = absurd (sound.faultless fault at)
sound-in_memory s root sound (rejection.Rules fault) at = absurd (sound.well_formed fault.rule fault.span at.fails)
sound-in_memory s root sound rejection.CodeTooLong at = absurd at
sound-in_memory s root sound rejection.OutOfMemory at = refl

-- a rule that fails in a system of tables, which is this one, as a rejection
pub check-fault : (s : System) (root : Root) → IsFaultless s root → (t : System) → t ≡ s → (f : CheckFault) → IsTrueOf t f →
    IsAtFault s root (of_system f)
check-fault s root faultless t same (checking.Refused fault) fails =
    record { faultless = faultless; fails = subst (λ (t : System). SystemFails t fault.rule fault.span) same fails }
check-fault s root faultless t same checking.OutOfMemory fails = tt

-- a class fault, as a rejection
pub class-fault : (s : System) (root : Root) (f : ClassFault) → (f ≡ classes.OutOfMemory) ⊎ Fails s root f → IsAtFault s root (of_classes f)
class-fault s root f (inl e) = subst (λ (f : ClassFault). IsAtFault s root (of_classes f)) (sym e) tt
class-fault s root f (inr (duplicate_class y)) = duplicate_class y
class-fault s root f (inr (unknown_parent y)) = unknown_parent y
class-fault s root f (inr (cycle y)) = cycle y
class-fault s root f (inr (duplicate_feature e y)) = duplicate_feature e y
class-fault s root f (inr (bad_redefinition e y)) = bad_redefinition e y
class-fault s root f (inr (no_root e)) = no_root e
class-fault s root f (inr (limit y)) = limit y
class-fault s root f (inr (left_out y)) = left_out y

-- refusals for the class faults of a system whose tables are refused
pub of-classes : (s : System) (root : Root) (f : ClassFault) (faults : List ClassFault) (refused : List Refused) → (f ≡ classes.OutOfMemory → ⊥) →
    (f ≡ classes.OutOfMemory) ⊎ Fails s root f → AreClassFaults s root faults → BeginsWithFirst s root faults →
    map Some refused ≡ map by_classes faults → AreAllOf s root refused
of-classes s root f faults refused not (inl e) listed first told = absurd (not e)
of-classes s root f faults refused not (inr y) listed first told =
    inl (record { faults = faults; some = not_empty s root faults listed f y; listed = listed; first = first; told = told })

-- refusals for the faults by the rules of a system that has tables
pub of-rules : (s t : System) (root : Root) (faults : List Fault) (refused : List Refused) → IsFaultless s root → t ≡ s → IsFaultList t faults →
    refused ≡ map by_rule faults → AreAllOf s root refused
of-rules s t root faults refused faultless of_it listed told =
    inr (record { faultless = faultless; faults = faults; listed = subst (λ (s : System). IsFaultList s faults) of_it listed; told = told })

-- a tree that a text spells is spelled by the tokens that are found
pub tree-found : (text : List ℕ) (ts : List Token) (tree : System) (is : IsSpelled text tree) → lexemes_of ts ≡ is.tokens →
    IsSystem tree (kinds_of ts) is.nesting
tree-found text ts tree is same =
    let all : kinds is.tokens ≡ kinds_of ts = ap kinds (sym same) ∙ kinds-lexemes_of ts in
    subst (λ (ks : List Kind). IsSystem tree ks is.nesting) all is.grammar

-- what is true of the one error that a result can have
pub err-is : {T E : Type 0} (P : E → Type 0) (r : Result T E) (x : E) → IsErrAnd r (λ e. e ≡ x) → P x → IfErr r P
err-is P (Ok t) x is p = absurd is
err-is P (Err e) x is p = subst P (sym is) p

pub only-err-is : {T E : Type 0} (P : T → Type 0) (r : Result T E) (x y : E) → IsErrAnd r (λ e. e ≡ x) → x ≡ y →
    MatchResult r P (λ e. e ≡ y)
only-err-is P (Ok t) x y is same = absurd is
only-err-is P (Err e) x y is same = is ∙ same

-- what follows of each error, or of each value, that a result can have
pub err-map : {T E : Type 0} {P Q : E → Type 0} (r : Result T E) → ((e : E) → P e → Q e) → IfErr r P → IfErr r Q
err-map (Ok t) f is = is
err-map (Err e) f is = f e is

pub ok-map : {T E : Type 0} {P Q : T → Type 0} (r : Result T E) → ((t : T) → P t → Q t) → IfOk r P → IfOk r Q
ok-map (Ok t) f is = f t is
ok-map (Err e) f is = is

pub both-map : {T E : Type 0} {P P' : T → Type 0} {Q Q' : E → Type 0} (r : Result T E) → ((t : T) → P t → P' t) → ((e : E) → Q e → Q' e) →
    IfOk r P → IfErr r Q → MatchResult r P' Q'
both-map (Ok t) f g is none = f t is
both-map (Err e) f g none is = g e is

-- places are no part of canonical text
pub canonical-bare : (s : System) → canonical_text (bare_system s) ≡ canonical_text s
unfolding canonical_text
canonical-bare s = ap text_of_lines (classes-bare s.classes)

-- ---- code

-- what keeps a sound system from being lowered
pub lowering-not_run : (text : List ℕ) (root : Root) (s : System) → IsRead text s → IsSound s root → (c : Checked) → system_in (tables_of c) ≡ s →
    (l : Lowering) → HandsBack c (2 ^ 24) l → IsNotRunFor text root (of_code l)
lowering-not_run text root s is sound c same (lowering.OutOfMemory back) h = tt
lowering-not_run text root s is sound c same (lowering.CodeTooLong back) h =
    record { system = s; read = is; sound = sound; long = subst (λ (s : System). 2 ^ 24 < code_length s) same h.1 }

-- what must be run is lowered
pub short-in_memory : (s : System) (root : Root) → IsRunnable s root → (c : Checked) → system_in (tables_of c) ≡ s →
    (l : Lowering) → HandsBack c (2 ^ 24) l → of_code l ≡ rejection.OutOfMemory
short-in_memory s root is c same (lowering.OutOfMemory back) h = refl
short-in_memory s root is c same (lowering.CodeTooLong back) h =
    let long : 2 ^ 24 < code_length s = subst (λ (s : System). 2 ^ 24 < code_length s) same h.1 in
    absurd (omega (arith, long, is.short))
