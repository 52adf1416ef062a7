-- Names, and the types that entities are declared with (ECMA-367, 8.8 and 8.11).
use Rattle.std.specs.Prelude.{ℕ, Bool, true, false, List, [], ◌∷◌, ◌++◌, Option, None, Some, codes}
use Rattle.sc_text.specs.Kind.{Kind, NAME, TERMINAL}
use Rattle.sc_text.specs.declared.token.Terminal.{Terminal}
use Rattle.sc_text.specs.declared.token.Terminal.TheVariants as terminal
use Rattle.sc_tree.specs.Plain.{Name, HandlerTag, Own, Separate, HandlerOf, DeclaredType}
use Rattle.sc_tree.specs.Bare.{nowhere, named}

-- at least one name
pub data IsNames : List Name → List Kind → Type 0 where
  one_name : (x : List ℕ) → IsNames (named x ∷ []) (NAME x ∷ [])
  more_names : (x : List ℕ) {xs : List Name} {c : List Kind} → IsNames xs c →
      IsNames (named x ∷ xs) (NAME x ∷ TERMINAL terminal.Comma ∷ c)

-- a token that may be left out
pub data IsOptional (m : Terminal) : List Kind → Type 0 where
  absent : IsOptional m []
  present : IsOptional m (TERMINAL m ∷ [])

-- `handler` is a name that is read by its spelling.
abbrev pub handler_name : List ℕ
handler_name = codes "handler"

-- whether the type is detachable
pub data IsAttachment : Bool → List Kind → Type 0 where
  unmarked : IsAttachment false []
  attached : IsAttachment false (TERMINAL terminal.Attached ∷ [])
  exclamation : IsAttachment false (TERMINAL terminal.Exclamation ∷ [])
  detachable : IsAttachment true (TERMINAL terminal.Detachable ∷ [])
  question : IsAttachment true (TERMINAL terminal.Question ∷ [])

pub data IsHandlerTag : HandlerTag → List Kind → Type 0 where
  own : IsHandlerTag Own []
  separate : IsHandlerTag Separate (TERMINAL terminal.Separate ∷ [])
  handler_of : (x : List ℕ) →
      IsHandlerTag (HandlerOf (named x))
      (TERMINAL terminal.Separate ∷ TERMINAL terminal.Less ∷ NAME x
      ∷ TERMINAL terminal.Dot ∷ NAME handler_name ∷ TERMINAL terminal.Greater ∷ [])

abbrev pub type_of : Bool → HandlerTag → Name → DeclaredType
type_of d g x = record { span = nowhere; is_detachable = d; tag = g; class = x }

pub data IsType : DeclaredType → List Kind → Type 0 where
  type : {d : Bool} {g : HandlerTag} {cd cg : List Kind} → IsAttachment d cd → IsHandlerTag g cg → (x : List ℕ) →
      IsType (type_of d g (named x)) (cd ++ (cg ++ NAME x ∷ []))

-- the type that an object test asks for, in braces
pub data IsTestedType : Option DeclaredType → List Kind → Type 0 where
  no_type : IsTestedType None []
  tested_type : {t : DeclaredType} {c : List Kind} → IsType t c →
      IsTestedType (Some t) (TERMINAL terminal.OpenBrace ∷ (c ++ TERMINAL terminal.CloseBrace ∷ []))
