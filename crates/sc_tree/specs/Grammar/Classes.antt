-- Features and classes (ECMA-367, 8.3 to 8.8, 8.10 and 8.20).
use Rattle.std.specs.Prelude.{◌≡◌, ℕ, max, Bool, true, false, if◌then◌else◌, List, [], ◌∷◌, ◌++◌, Option, None, Some, map, codes}
use Rattle.std.specs.Str.{bytes_eq}
use Rattle.sc_text.specs.Kind.{Kind, NAME, TERMINAL}
use Rattle.sc_text.specs.declared.token.Terminal.TheVariants as terminal
use Rattle.sc_tree.specs.Plain.{Name, DeclaredType, Declaration, Clause, RoutineDeclaration, Attribute, Routine, Feature, Parent, ClassMark, Deferred, Expanded, Frozen, Class, System}
use Rattle.sc_tree.specs.Bare.{nowhere, named}
use Rattle.sc_tree.specs.Grammar.Types.{IsNames, IsOptional, IsType}
use Rattle.sc_tree.specs.Grammar.Assertions.{IsAssertion}
use Rattle.sc_tree.specs.Grammar.Instructions.{IsInstrs}

-- ---- formals and locals

abbrev pub declared_as : DeclaredType → Name → Declaration
declared_as t x = record { name = x; declared_type = t }

-- Of `a, b: INTEGER` each name is one.
pub data IsDeclaration : List Declaration → List Kind → Type 0 where
  declaration : {xs : List Name} {t : DeclaredType} {c ct : List Kind} →
      IsNames xs c → IsType t ct → IsDeclaration (map (declared_as t) xs) (c ++ TERMINAL terminal.Colon ∷ ct)

-- at least one, with or without a semicolon between two
pub data IsDeclarations : List Declaration → List Kind → Type 0 where
  one_declaration : {ds : List Declaration} {c : List Kind} → IsDeclaration ds c → IsDeclarations ds c
  more_declarations : {ds es : List Declaration} {c s cs : List Kind} →
      IsDeclaration ds c → IsOptional terminal.Semicolon s → IsDeclarations es cs →
      IsDeclarations (ds ++ es) (c ++ (s ++ cs))

pub data IsFormals : List Declaration → List Kind → Type 0 where
  no_formals : IsFormals [] []
  formals : {ds : List Declaration} {c : List Kind} → IsDeclarations ds c →
      IsFormals ds (TERMINAL terminal.OpenParenthesis ∷ (c ++ TERMINAL terminal.CloseParenthesis ∷ []))

-- any number, with or without a semicolon after each
pub data IsLocalList : List Declaration → List Kind → Type 0 where
  no_local : IsLocalList [] []
  another_local : {ds es : List Declaration} {c s cs : List Kind} →
      IsDeclaration ds c → IsOptional terminal.Semicolon s → IsLocalList es cs → IsLocalList (ds ++ es) (c ++ (s ++ cs))

pub data IsLocals : List Declaration → List Kind → Type 0 where
  no_locals : IsLocals [] []
  locals : {ds : List Declaration} {c : List Kind} → IsLocalList ds c → IsLocals ds (TERMINAL terminal.Local ∷ c)

pub data IsResultType : Option DeclaredType → List Kind → Type 0 where
  no_result : IsResultType None []
  result_type : {t : DeclaredType} {c : List Kind} → IsType t c → IsResultType (Some t) (TERMINAL terminal.Colon ∷ c)

-- ---- features

abbrev pub attribute_of : List Name → DeclaredType → Name → Feature
attribute_of es t x = record { exports = es; name = x; kind = Attribute t }

abbrev pub routine_of : List Name → Name → RoutineDeclaration → Feature
routine_of es x r = record { exports = es; name = x; kind = Routine r }

-- A feature's declaration, exported to these classes. Of `a, b: INTEGER` each name is a feature.
pub data IsFeature (es : List Name) : List Feature → List Kind → ℕ → Type 0 where
  attributes : {xs : List Name} {t : DeclaredType} {c ct : List Kind} →
      IsNames xs c → IsType t ct → IsFeature es (map (attribute_of es t) xs) (c ++ TERMINAL terminal.Colon ∷ ct) 0
  routine : (x : List ℕ) {r : RoutineDeclaration} {cf ct ci cr cl cb ce : List Kind} {hr hb he : ℕ} →
      IsFormals r.formals cf → IsResultType r.result_type ct → IsOptional terminal.Is ci →
      IsAssertion terminal.Require r.precondition cr hr → IsLocals r.locals cl → IsInstrs r.body cb hb →
      IsAssertion terminal.Ensure r.postcondition ce he →
      IsFeature es (routine_of es (named x) r ∷ [])
      (NAME x ∷ (cf ++ (ct ++ (ci ++ (cr ++ (cl
      ++ TERMINAL terminal.Do ∷ (cb ++ (ce ++ TERMINAL terminal.End ∷ []))))))))
      (max hr (max hb he))

pub data IsSemicolons : List Kind → Type 0 where
  no_semicolon : IsSemicolons []
  one_more : {c : List Kind} → IsSemicolons c → IsSemicolons (TERMINAL terminal.Semicolon ∷ c)

pub data IsFeatures (es : List Name) : List Feature → List Kind → ℕ → Type 0 where
  no_feature : IsFeatures es [] [] 0
  feature : {fs gs : List Feature} {c s cs : List Kind} {h hs : ℕ} →
      IsFeature es fs c h → IsSemicolons s → IsFeatures es gs cs hs →
      IsFeatures es (fs ++ gs) (c ++ (s ++ cs)) (max h hs)

abbrev pub any_name : List ℕ
any_name = codes "any"

abbrev pub none_name : List ℕ
none_name = codes "none"

-- `{ANY}` is the same as no list.
abbrev pub exported_to : List Name → List Name
exported_to [] = []
exported_to (x ∷ []) = if bytes_eq x.text any_name then [] else x ∷ []
exported_to (x ∷ y ∷ xs) = x ∷ y ∷ xs

-- An empty list is the same as `{NONE}`.
pub data IsExports : List Name → List Kind → Type 0 where
  no_exports : IsExports [] []
  empty_exports : IsExports (named none_name ∷ []) (TERMINAL terminal.OpenBrace ∷ TERMINAL terminal.CloseBrace ∷ [])
  exports : {xs : List Name} {c : List Kind} → IsNames xs c →
      IsExports (exported_to xs) (TERMINAL terminal.OpenBrace ∷ (c ++ TERMINAL terminal.CloseBrace ∷ []))

-- each `feature` and the features under it
pub data IsSections : List Feature → List Kind → ℕ → Type 0 where
  no_section : IsSections [] [] 0
  section : {es : List Name} {fs gs : List Feature} {ce c cs : List Kind} {h hs : ℕ} →
      IsExports es ce → IsFeatures es fs c h → IsSections gs cs hs →
      IsSections (fs ++ gs) (TERMINAL terminal.Feature ∷ (ce ++ (c ++ cs))) (max h hs)

-- ---- classes

-- tokens among which the test finds none
pub data IsFree (stops : Kind → Bool) : List Kind → Type 0 where
  no_token : IsFree stops []
  token : (t : Kind) {c : List Kind} → stops t ≡ false → IsFree stops c → IsFree stops (t ∷ c)

-- a note of such tokens, if any; it leaves nothing in the tree
pub data IsNote (stops : Kind → Bool) : List Kind → Type 0 where
  no_note : IsNote stops []
  note : {c : List Kind} → IsFree stops c → IsNote stops (TERMINAL terminal.Note ∷ c)
  indexing : {c : List Kind} → IsFree stops c → IsNote stops (TERMINAL terminal.Indexing ∷ c)

-- what a note before `class` doesn't hold
abbrev pub heads_class : Kind → Bool
heads_class (TERMINAL terminal.Deferred) = true
heads_class (TERMINAL terminal.Expanded) = true
heads_class (TERMINAL terminal.Frozen) = true
heads_class (TERMINAL terminal.Class) = true
heads_class _ = false

-- what a note before `end` doesn't hold
abbrev pub ends_class : Kind → Bool
ends_class (TERMINAL terminal.End) = true
ends_class _ = false

pub data IsMark : Option ClassMark → List Kind → Type 0 where
  no_mark : IsMark None []
  deferred : IsMark (Some (Deferred nowhere)) (TERMINAL terminal.Deferred ∷ [])
  expanded : IsMark (Some (Expanded nowhere)) (TERMINAL terminal.Expanded ∷ [])
  frozen : IsMark (Some (Frozen nowhere)) (TERMINAL terminal.Frozen ∷ [])

pub data IsParent : Parent → List Kind → Type 0 where
  plain_parent : (x : List ℕ) → IsParent (record { name = named x; redefined = [] }) (NAME x ∷ [])
  redefining : (x : List ℕ) {ns : List Name} {c : List Kind} → IsNames ns c →
      IsParent (record { name = named x; redefined = ns })
      (NAME x ∷ TERMINAL terminal.Redefine ∷ (c ++ TERMINAL terminal.End ∷ []))

-- at least one, with or without a semicolon after each
pub data IsParentList : List Parent → List Kind → Type 0 where
  one_parent : {p : Parent} {c s : List Kind} → IsParent p c → IsOptional terminal.Semicolon s →
      IsParentList (p ∷ []) (c ++ s)
  more_parents : {p : Parent} {ps : List Parent} {c s cs : List Kind} →
      IsParent p c → IsOptional terminal.Semicolon s → IsParentList ps cs → IsParentList (p ∷ ps) (c ++ (s ++ cs))

pub data IsParents : List Parent → List Kind → Type 0 where
  no_parents : IsParents [] []
  parents : {ps : List Parent} {c : List Kind} → IsParentList ps c → IsParents ps (TERMINAL terminal.Inherit ∷ c)

pub data IsCreators : List Name → List Kind → Type 0 where
  no_creator : IsCreators [] []
  creators : {xs : List Name} {c : List Kind} → IsNames xs c → IsCreators xs (TERMINAL terminal.Create ∷ c)

abbrev pub class_of : Option ClassMark → Name → List Parent → List Name → List Feature → List Clause → Class
class_of m x ps ns fs is =
    record { span = nowhere; mark = m; name = x; parents = ps; creators = ns; features = fs; invariant = is }

pub data IsClass : Class → List Kind → ℕ → Type 0 where
  class : (x : List ℕ) {m : Option ClassMark} {ps : List Parent} {ns : List Name} {fs : List Feature} {is : List Clause}
      {cn cm cp cc cf ci ce : List Kind} {hf hi : ℕ} →
      IsNote heads_class cn → IsMark m cm → IsParents ps cp → IsCreators ns cc → IsSections fs cf hf →
      IsAssertion terminal.Invariant is ci hi → IsNote ends_class ce →
      IsClass (class_of m (named x) ps ns fs is)
      (cn ++ (cm
      ++ TERMINAL terminal.Class ∷ NAME x ∷ (cp ++ (cc ++ (cf ++ (ci ++ (ce ++ TERMINAL terminal.End ∷ [])))))))
      (max hf hi)

pub data IsClasses : List Class → List Kind → ℕ → Type 0 where
  no_class : IsClasses [] [] 0
  another : {x : Class} {xs : List Class} {c cs : List Kind} {h hs : ℕ} → IsClass x c h → IsClasses xs cs hs →
      IsClasses (x ∷ xs) (c ++ cs) (max h hs)

-- The tokens spell the system, with this greatest nesting.
abbrev pub IsSystem : System → List Kind → ℕ → Type 0
IsSystem s = IsClasses s.classes
