-- What is made of a source text: when it is taken, and what is true of one that is refused.
use Rattle.std.specs.Prelude.{ℕ, ◌≡◌, ◌≤◌, ◌<◌, ◌^◌, ◌⊎◌, List, Some, map, length}
use Rattle.sc_text.specs.Kind.{Kind}
use Rattle.sc_text.specs.Spelling.{Lexeme, Spells, IsRefused, max_source_bytes}
use Rattle.sc_tree.specs.Plain.{System}
use Rattle.sc_tree.specs.Bare.{bare_system}
use Rattle.sc_tree.specs.Grammar.Classes.{IsSystem}
use Rattle.sc_tree.specs.Canonical.{canonical_text}
use Rattle.sc_parse.specs.Parses.{Refuses}
use Rattle.sc_parse.specs.Places.{IsPlaced}
use Rattle.sc_parse.specs.declared.fault.ParseFault.{ParseFault}
use Rattle.sc_text.specs.declared.token.Span.{Span}
use Rattle.sc_class.specs.ClassNames.{Root}
use Rattle.sc_class.specs.Faults.ClassRules as class_rules
use Rattle.sc_class.specs.Faults.ClassRules.{IsFaultless}
use Rattle.sc_class.specs.Faults.FaultList.{AreClassFaults, BeginsWithFirst}
use Rattle.sc_class.specs.declared.fault.ClassFault.{ClassFault}
use Rattle.sc_rules.specs.declared.rule.Rule.{Rule}
use Rattle.sc_rules.specs.declared.fault.Fault.{Fault}
use Rattle.sc_rules.specs.SystemRules.{SystemFails, WellFormed}
use Rattle.sc_faults.specs.FaultLists.{IsFaultList}
use Rattle.sc_code.specs.declared.program.Image.{Image}
use Rattle.sc_code.specs.Programs.{IsProgramOf, code_length}
use Rattle.sc_code.specs.RequestRoom.{FitsRequests}
use Rattle.sc_frontend.specs.Refusals.{by_classes, by_rule}
use Rattle.sc_frontend.specs.declared.refused.Refused.{Refused}
use Rattle.sc_frontend.specs.declared.rejection.Rejection.{Rejection}
use Rattle.sc_frontend.specs.declared.rejection.Rejection.TheVariants as rejection

-- the kinds of the tokens that a text spells
abbrev pub kinds : List Lexeme → List Kind
kinds ts = map (λ t. t.kind) ts

-- The text spells tokens that spell the tree, in no more than 1,048,576 bytes and nested at most 64 deep. The tree is
-- one without places.
pub record IsSpelled (text : List ℕ) (tree : System) : Type 0 where
  pub tokens : List Lexeme
  pub nesting : ℕ
  pub spelled : Spells text tokens
  pub short : length text ≤ max_source_bytes
  pub shallow : nesting ≤ 64
  pub grammar : IsSystem tree (kinds tokens) nesting

-- The text spells tokens that spell the system, and the place of each part is that of its tokens.
pub record IsRead (text : List ℕ) (system : System) : Type 0 where
  pub tokens : List Lexeme
  pub nesting : ℕ
  pub spelled : Spells text tokens
  pub short : length text ≤ max_source_bytes
  pub shallow : nesting ≤ 64
  pub grammar : IsSystem (bare_system system) (kinds tokens) nesting
  pub placed : IsPlaced system tokens

-- No class fault is in the system, which is run from this root, and no rule fails in it.
pub record IsSound (system : System) (root : Root) : Type 0 where
  pub faultless : IsFaultless system root
  pub well_formed : WellFormed system

-- The system is sound, and its code has no more instructions than a program may have.
pub record IsRunnable (system : System) (root : Root) : Type 0 where
  pub sound : IsSound system root
  pub short : code_length system ≤ 2 ^ 24

-- The text spells a system that is sound.
pub record IsAccepted (text : List ℕ) (root : Root) : Type 0 where
  pub system : System
  pub read : IsRead text system
  pub sound : IsSound system root

-- The text spells a tree, and with its places it is sound.
pub record MustBeAccepted (text : List ℕ) (root : Root) : Type 0 where
  pub tree : System
  pub spelled : IsSpelled text tree
  pub sound : (system : System) → IsRead text system → IsSound system root

-- The text spells a sound system with this root, and its code is no longer than that of a program may be.
pub record MustBeRun (text : List ℕ) (root : Root) : Type 0 where
  pub tree : System
  pub spelled : IsSpelled text tree
  pub runnable : (system : System) → IsRead text system → IsRunnable system root

-- ---- refusals

-- The text spells tokens, and they spell no system, or none that is shallow, as the fault says.
pub record IsNoSystem (text : List ℕ) (fault : ParseFault) : Type 0 where
  pub tokens : List Lexeme
  pub spelled : Spells text tokens
  pub refuses : Refuses (kinds tokens) fault

-- The text spells no system, as the rejection says, or memory ran out.
abbrev pub IsUnreadable : List ℕ → Rejection → Type 0
IsUnreadable text (rejection.Text fault) = IsRefused text fault
IsUnreadable text (rejection.Grammar fault) = IsNoSystem text fault
IsUnreadable text (rejection.Classes fault) = ⊥
IsUnreadable text (rejection.Rules fault) = ⊥
IsUnreadable text rejection.CodeTooLong = ⊥
IsUnreadable text rejection.OutOfMemory = Unit {0}

-- The system has no class fault, and the rule fails in it at the place.
pub record HasFailing (system : System) (root : Root) (rule : Rule) (place : Span) : Type 0 where
  pub faultless : IsFaultless system root
  pub fails : SystemFails system rule place

-- What the rejection says is at fault in the system, or memory ran out.
abbrev pub IsAtFault : System → Root → Rejection → Type 0
IsAtFault system root (rejection.Classes fault) = class_rules.Fails system root fault
IsAtFault system root (rejection.Rules fault) = HasFailing system root fault.rule fault.span
IsAtFault system root rejection.OutOfMemory = Unit {0}
IsAtFault system root rejection.CodeTooLong = ⊥
IsAtFault system root (rejection.Text fault) = ⊥
IsAtFault system root (rejection.Grammar fault) = ⊥

-- The text spells a system in which this is at fault.
pub record HasFault (text : List ℕ) (root : Root) (why : Rejection) : Type 0 where
  pub system : System
  pub read : IsRead text system
  pub fault : IsAtFault system root why

-- A refusal is true of the text.
abbrev pub IsRefusedFor : List ℕ → Root → Rejection → Type 0
IsRefusedFor text root (rejection.Text fault) = IsRefused text fault
IsRefusedFor text root (rejection.Grammar fault) = IsNoSystem text fault
IsRefusedFor text root (rejection.Classes fault) = HasFault text root (rejection.Classes fault)
IsRefusedFor text root (rejection.Rules fault) = HasFault text root (rejection.Rules fault)
IsRefusedFor text root rejection.OutOfMemory = Unit {0}
IsRefusedFor text root rejection.CodeTooLong = ⊥

-- The text spells a system that is sound, and its code has more instructions than a program may have.
pub record IsTooLong (text : List ℕ) (root : Root) : Type 0 where
  pub system : System
  pub read : IsRead text system
  pub sound : IsSound system root
  pub long : 2 ^ 24 < code_length system

-- What keeps the system of the text from being run is true of it.
abbrev pub IsNotRunFor : List ℕ → Root → Rejection → Type 0
IsNotRunFor text root (rejection.Text fault) = IsRefused text fault
IsNotRunFor text root (rejection.Grammar fault) = IsNoSystem text fault
IsNotRunFor text root (rejection.Classes fault) = HasFault text root (rejection.Classes fault)
IsNotRunFor text root (rejection.Rules fault) = HasFault text root (rejection.Rules fault)
IsNotRunFor text root rejection.CodeTooLong = IsTooLong text root
IsNotRunFor text root rejection.OutOfMemory = Unit {0}

-- ---- all faults

-- Something is at fault in the classes of the system, and the refusals are those for its class faults. None of these
-- comes before the first.
pub record AreOfClasses (system : System) (root : Root) (refused : List Refused) : Type 0 where
  pub faults : List ClassFault
  pub some : 0 < length faults
  pub listed : AreClassFaults system root faults
  pub first : BeginsWithFirst system root faults
  pub told : map Some refused ≡ map by_classes faults

-- No class fault is in the system, and the refusals are those for its faults by the rules.
pub record AreByRules (system : System) (root : Root) (refused : List Refused) : Type 0 where
  pub faultless : IsFaultless system root
  pub faults : List Fault
  pub listed : IsFaultList system faults
  pub told : refused ≡ map by_rule faults

-- These are all refusals of the system: for its classes, or by the rules if it has no class fault.
abbrev pub AreAllOf : System → Root → List Refused → Type 0
AreAllOf system root refused = AreOfClasses system root refused ⊎ AreByRules system root refused

-- The text spells a system, and these are all refusals of it.
pub record IsExamined (text : List ℕ) (root : Root) (refused : List Refused) : Type 0 where
  pub system : System
  pub read : IsRead text system
  pub whole : AreAllOf system root refused

-- ---- programs

-- The text spells a system that is sound, and this is its program; requests have room for what it names.
pub record IsLoaded (text : List ℕ) (root : Root) (program : Image) : Type 0 where
  pub system : System
  pub read : IsRead text system
  pub sound : IsSound system root
  pub is_program : IsProgramOf system root program
  pub fits : FitsRequests program

-- ---- canonical text

-- The text spells a system, and the output is its canonical text.
pub record IsPrinted (text output : List ℕ) : Type 0 where
  pub tree : System
  pub spelled : IsSpelled text tree
  pub printed : output ≡ canonical_text tree
