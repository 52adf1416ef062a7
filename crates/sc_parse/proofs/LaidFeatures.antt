-- Places of declarations and features, as a function of the tree without them and of the kept tokens.
use Rattle.std.proofs.Common.{◌≡◌, ℕ, Bool, true, false, List, [], ◌∷◌, ◌++◌, Option, Some, None, refl, ap, sym, ◌∙◌, map, append_assoc, append-nil}
use Rattle.std.specs.Prelude.{if◌then◌else◌}
use Rattle.std.proofs.lemmas.List.{map-append}
use Rattle.sc_text.specs.Kind.{Kind, NAME, TERMINAL}
use Rattle.sc_text.specs.declared.token.Span.{Span}
use Rattle.sc_text.specs.declared.token.Terminal.{Terminal}
use Rattle.sc_text.specs.declared.token.Terminal.TheVariants as terminal
use Rattle.sc_tree.specs.Grammar.Classes.{declared_as, attribute_of, routine_of, none_name, exported_to}
use Rattle.sc_tree.specs.Plain.{Name, DeclaredType, Declaration, RoutineDeclaration, FeatureKind, Attribute, Routine, Feature}
use Rattle.sc_tree.specs.Bare.{bare_name, bare_type, bare_type_if_any, bare_declaration, bare_clause, bare_instrs, bare_feature}
use Rattle.sc_tree.specs.Internal.Reading.Looks.{is_name}
use Rattle.sc_tree.proofs.ReadingSteps.{choose_true, choose_false}
use Rattle.sc_parse.specs.Places as places
use Rattle.sc_parse.specs.Places.{Point, begin, between, IsToken, IsWord, IsOptional, absent, present, IsRow, no_part, part, AreParts, none, another, IsPlacedName, ArePlacedNames, one_name, more_names, IsPlacedType, IsPlacedDeclaration, ArePlacedDeclarations, ArePlacedFormals, ArePlacedLocals, IsPlacedResult, IsPlacedFeature, ArePlacedExports, IsPlacedSection}
use Rattle.sc_parse.proofs.KeptTokens.{leaves_out, Kept, ahead, kept_token, kept_word, word_left_out, first, rest, rest_token, rest_word, begins_with_word}
use Rattle.sc_parse.proofs.LaidExpressions.{laid_name, name_laid, laid_type, type_laid}
use Rattle.sc_parse.proofs.LaidInstructions.{next, next_is, laid_list, laid_clauses, assertion_laid, laid_instrs, instrs_laid}

-- ---- names

abbrev pub named : List Kept → Bool
named [] = false
named (k ∷ ks) = is_name k.kind

abbrev pub past_names : List Kept → List Kept
past_names [] = []
past_names (k ∷ ks) = if is_name k.kind then past_names ks else k ∷ ks

no_name : (ks : List Kept) → named ks ≡ false → past_names ks ≡ ks
no_name [] e = refl
no_name (k ∷ ks) e = choose_false _ _ _ e

names_past : {xs : List Name} {p q : Point} → ArePlacedNames xs p q → named (ahead q) ≡ false →
    past_names (ahead p) ≡ ahead q
names_past (one_name {x} {q} n) e = ap past_names (kept_token (NAME x.text) n refl) ∙ no_name (ahead q) e
names_past (more_names {x} n c ns) e = ap past_names (kept_token (NAME x.text) n refl)
    ∙ ap past_names (word_left_out terminal.Comma c refl) ∙ names_past ns e

names_named : {xs : List Name} {p q : Point} → ArePlacedNames xs p q → named (ahead p) ≡ true
names_named (one_name {x} n) = ap named (kept_token (NAME x.text) n refl)
names_named (more_names {x} n c ns) = ap named (kept_token (NAME x.text) n refl)

abbrev pub laid_one_name : Name → List Kept → Name × List Kept
laid_one_name x ks = (laid_name x ks, rest ks)

pub one_name_laid : {x : Name} {p q : Point} → IsPlacedName x p q →
    laid_one_name (bare_name x) (ahead p) ≡ (x, ahead q)
one_name_laid {x} {p} n = ap (λ (y : Name). (y, rest (ahead p))) (name_laid n)
    ∙ ap (λ (ks : List Kept). (x, ks)) (rest_token (NAME x.text) n refl)

abbrev pub laid_names : List Name → List Kept → List Name × List Kept
laid_names = laid_list laid_one_name

pub names_laid : {xs : List Name} {p q : Point} → ArePlacedNames xs p q →
    laid_names (map bare_name xs) (ahead p) ≡ (xs, ahead q)
names_laid (one_name n) = next_is _ (one_name_laid n) (next_is _ refl refl)
names_laid (more_names {xs} n c ns) = next_is _ (one_name_laid n) (next_is _ (ap (laid_names (map bare_name xs)) (word_left_out terminal.Comma c refl) ∙ names_laid ns) refl)

-- ---- names of one type

-- what is declared by a name, and what follows it: another name of the same type, or what follows the type
abbrev pub typed : {X : Type 0} → (DeclaredType → Name → X) → DeclaredType × List Kept → Name → List Kept →
    X × List Kept
typed make t x ks = (make t.0 x, if named (rest ks) then rest ks else t.1)

-- the type behind names
abbrev pub type_behind : DeclaredType → List Kept → DeclaredType × List Kept
type_behind t ks = laid_type t (rest (past_names ks))

-- the name of this declaration with its type
abbrev pub laid_typed : {X : Type 0} → (DeclaredType → Name → X) → DeclaredType → Name → List Kept → X × List Kept
laid_typed make t x ks = typed make (type_behind t ks) (laid_name x ks) ks

typed_laid : {X : Type 0} (make : DeclaredType → Name → X) {x : Name} {t : DeclaredType} {p p' q r u : Point} {ks : List Kept} → IsPlacedName x p p' → past_names (ahead p) ≡ ahead q →
    IsWord terminal.Colon q r → IsPlacedType t r u → (if named (rest (ahead p)) then rest (ahead p) else ahead u) ≡ ks → laid_typed make (bare_type t) (bare_name x) (ahead p) ≡ (make t x, ks)
typed_laid make {x} {t} {p} {u} n e c d f =
    ap (λ (ks : List Kept). typed make (laid_type (bare_type t) (rest ks)) (laid_name (bare_name x) (ahead p)) (ahead p)) e
    ∙ ap (λ (ks : List Kept). typed make (laid_type (bare_type t) ks) (laid_name (bare_name x) (ahead p)) (ahead p)) (rest_word terminal.Colon c refl)
    ∙ ap (λ (y : DeclaredType × List Kept). typed make y (laid_name (bare_name x) (ahead p)) (ahead p)) (type_laid d)
    ∙ ap (λ (y : Name). typed make (t, ahead u) y (ahead p)) (name_laid n) ∙ ap (λ (ks : List Kept). (make t x, ks)) f

colon_unnamed : {p q : Point} → IsWord terminal.Colon p q → named (ahead p) ≡ false
colon_unnamed c = ap named (kept_word terminal.Colon c refl)

last_typed : {X : Type 0} (make : DeclaredType → Name → X) {x : Name} {t : DeclaredType} {p q r u : Point} →
    IsPlacedName x p q → IsWord terminal.Colon q r → IsPlacedType t r u →
    laid_typed make (bare_type t) (bare_name x) (ahead p) ≡ (make t x, ahead u)
last_typed make {x} n c d =
    typed_laid make n (names_past (one_name n) (colon_unnamed c)) c d (choose_false _ _ _ (ap named (rest_token (NAME x.text) n refl) ∙ colon_unnamed c))

earlier_typed : {X : Type 0} (make : DeclaredType → Name → X) {x : Name} {xs : List Name} {t : DeclaredType} {p q r u v w : Point} →
    IsPlacedName x p q → IsWord terminal.Comma q r → ArePlacedNames xs r u → IsWord terminal.Colon u v → IsPlacedType t v w → laid_typed make (bare_type t) (bare_name x) (ahead p) ≡ (make t x, ahead r)
earlier_typed make {x} n m ns c d =
    let e = rest_token (NAME x.text) n refl ∙ word_left_out terminal.Comma m refl in
    typed_laid make n (names_past (more_names n m ns) (colon_unnamed c)) c d (choose_true _ _ _ (ap named e ∙ names_named ns) ∙ e)

-- ---- declarations

abbrev pub laid_declaration : Declaration → List Kept → Declaration × List Kept
laid_declaration d ks = laid_typed declared_as d.declared_type d.name ks

abbrev pub laid_declarations : List Declaration → List Kept → List Declaration × List Kept
laid_declarations = laid_list laid_declaration

group_laid : {xs : List Name} {t : DeclaredType} {p q r u : Point} → ArePlacedNames xs p q →
    IsWord terminal.Colon q r → IsPlacedType t r u →
    (ds es : List Declaration) (w : List Kept) → laid_declarations ds (ahead u) ≡ (es, w) →
    laid_declarations (map bare_declaration (map (declared_as t) xs) ++ ds) (ahead p) ≡ (map (declared_as t) xs ++ es, w)
group_laid (one_name n) c d ds es w h = next_is _ (last_typed declared_as n c d) (next_is _ h refl)
group_laid (more_names n m ns) c d ds es w h = next_is _ (earlier_typed declared_as n m ns c d) (next_is _ (group_laid ns c d ds es w h) refl)

declarations_before : {xs : List Declaration} {p q : Point} → ArePlacedDeclarations xs p q →
    (ds es : List Declaration) (w : List Kept) → laid_declarations ds (ahead q) ≡ (es, w) →
    laid_declarations (map bare_declaration xs ++ ds) (ahead p) ≡ (xs ++ es, w)
declarations_before no_part ds es w h = h
declarations_before (places.separated {xs} s d) ds es w h =
    ap (laid_declarations (map bare_declaration xs ++ ds)) (word_left_out terminal.Semicolon s refl)
    ∙ declarations_before d ds es w h
declarations_before (part {xs} {ys} {p} (places.declaration ns c d) more) ds es w h =
    ap (λ (l : List Declaration). laid_declarations (l ++ ds) (ahead p)) (map-append bare_declaration xs ys)
    ∙ ap (λ (l : List Declaration). laid_declarations l (ahead p)) (append_assoc (map bare_declaration xs) (map bare_declaration ys) ds)
    ∙ group_laid ns c d (map bare_declaration ys ++ ds) (ys ++ es) w (declarations_before more ds es w h)
    ∙ ap (λ (l : List Declaration). (l, w)) (sym (append_assoc xs ys es))

declarations_laid : {xs : List Declaration} {p q : Point} → ArePlacedDeclarations xs p q →
    laid_declarations (map bare_declaration xs) (ahead p) ≡ (xs, ahead q)
declarations_laid {xs} {p} {q} d =
    ap (λ (l : List Declaration). laid_declarations l (ahead p)) (sym (append-nil (map bare_declaration xs)))
    ∙ declarations_before d [] [] (ahead q) refl ∙ ap (λ (l : List Declaration). (l, ahead q)) (append-nil xs)

formals_laid : {xs : List Declaration} {p q : Point} → ArePlacedFormals xs p q →
    laid_declarations (map bare_declaration xs) (ahead p) ≡ (xs, ahead q)
formals_laid places.no_formals = refl
formals_laid (places.formals {ds} o d c) =
    ap (laid_declarations (map bare_declaration ds)) (word_left_out terminal.OpenParenthesis o refl)
    ∙ declarations_laid d
    ∙ ap (λ (ks : List Kept). (ds, ks)) (word_left_out terminal.CloseParenthesis c refl)

locals_laid : {xs : List Declaration} {p q : Point} → ArePlacedLocals xs p q →
    laid_declarations (map bare_declaration xs) (ahead p) ≡ (xs, ahead q)
locals_laid places.no_locals = refl
locals_laid (places.locals {ds} w d) = ap (laid_declarations (map bare_declaration ds)) (word_left_out terminal.Local w refl) ∙ declarations_laid d

abbrev pub laid_result : Option DeclaredType → List Kept → Option DeclaredType × List Kept
laid_result None ks = (None, ks)
laid_result (Some t) ks = next (laid_type t (rest ks)) λ u ls. (Some u, ls)

result_laid : {o : Option DeclaredType} {p q : Point} → IsPlacedResult o p q →
    laid_result (bare_type_if_any o) (ahead p) ≡ (o, ahead q)
result_laid places.no_result = refl
result_laid (places.result_type {t} c d) = next_is _ (ap (laid_type (bare_type t)) (rest_word terminal.Colon c refl) ∙ type_laid d) refl

option_past : (m : Terminal) → leaves_out m ≡ true → {p q : Point} → IsOptional m p q → ahead p ≡ ahead q
option_past m e absent = refl
option_past m e (present w) = word_left_out m w e

-- ---- features

-- a feature that is exported to these classes
abbrev pub laid_kind : List Name → Name → FeatureKind → List Kept → Feature × List Kept
laid_kind es x (Attribute t) ks = laid_typed (attribute_of es) t x ks
laid_kind es x (Routine r) ks =
    next (laid_declarations r.formals (rest ks)) λ fs k1. next (laid_result r.result_type k1) λ t k2. next (laid_clauses r.precondition k2) λ pre k3. next (laid_declarations r.locals k3) λ ls k4.
    next (laid_instrs r.body (rest k4)) λ b k5. next (laid_clauses r.postcondition k5) λ post k6.
    (routine_of es (laid_name x ks) (record { formals = fs; result_type = t; precondition = pre; locals = ls; body = b; postcondition = post }), rest k6)

routine_laid : (es : List Name) {x : Name} {d : RoutineDeclaration} {p q r u v w y z a b c : Point} →
    IsPlacedName x p q → ArePlacedFormals d.formals q r → IsPlacedResult d.result_type r u → IsOptional terminal.Is u v → places.IsPlacedAssertion terminal.Require d.precondition v w → ArePlacedLocals d.locals w y →
    IsWord terminal.Do y z → places.ArePlacedInstrs d.body z a → places.IsPlacedAssertion terminal.Ensure d.postcondition a b → IsWord terminal.End b c →
    laid_kind es (bare_name x) (bare_feature (routine_of es x d)).kind (ahead p) ≡ (routine_of es x d, ahead c)
routine_laid es {x} {d} {b} {c} n f t i pre ls o body post e =
    next_is _ (ap (laid_declarations (map bare_declaration d.formals)) (rest_token (NAME x.text) n refl) ∙ formals_laid f)
    (next_is _ (result_laid t) (next_is _ (ap (laid_clauses (map bare_clause d.precondition)) (option_past terminal.Is refl i) ∙ assertion_laid terminal.Require refl pre)
    (next_is _ (locals_laid ls) (next_is _ (ap (laid_instrs (bare_instrs d.body)) (rest_word terminal.Do o refl) ∙ instrs_laid body)
    (next_is _ (assertion_laid terminal.Ensure refl post)
    (ap (λ (y : Name). (routine_of es y d, rest (ahead b))) (name_laid n) ∙ ap (λ (ks : List Kept). (routine_of es x d, ks)) (rest_word terminal.End e refl)))))))

attribute_laid : (es : List Name) {x : Name} {t : DeclaredType} {p q r u : Point} → IsPlacedName x p q →
    ArePlacedFormals [] q r → IsPlacedResult (Some t) r u →
    laid_kind es (bare_name x) (Attribute (bare_type t)) (ahead p) ≡ (attribute_of es t x, ahead u)
attribute_laid es {x} {q} {r} n f (places.result_type c d) =
    let e : ahead q ≡ ahead r = ap (λ (y : List Declaration × List Kept). y.1) (formals_laid f) in
    typed_laid (attribute_of es) n (ap past_names (kept_token (NAME x.text) n refl) ∙ ap past_names e ∙ no_name (ahead r) (colon_unnamed c)) c d
    (choose_false _ _ _ (ap named (rest_token (NAME x.text) n refl ∙ e) ∙ colon_unnamed c))

-- ---- export lists

-- what begins a section or belongs to its export list
pub data Role : Type 0 where
  section_word : Role
  open_brace : Role
  close_brace : Role
  a_name : List ℕ → Role
  other : Role

abbrev pub role_of : Terminal → Role
role_of terminal.Feature = section_word
role_of terminal.OpenBrace = open_brace
role_of terminal.CloseBrace = close_brace
role_of _ = other

abbrev pub role : Kind → Role
role (NAME x) = a_name x
role (TERMINAL m) = role_of m
role _ = other

-- where a look at sections stands: where features are exported to these classes, behind the word `feature`, or in an
-- export list that began there
pub data Stage : Type 0 where
  listed : List Name → Stage
  begun : Stage
  listing : Span → List Name → Stage

abbrev pub exported : Span → Span → List Name → List Name
exported s e [] = record { text = none_name; span = record { start = s.start; end = e.end } } ∷ []
exported s e (x ∷ xs) = exported_to (x ∷ xs)

abbrev pub entered_by : Stage → Role → Kept → List Kept → (Stage → List Name × List Kept) → List Name × List Kept
entered_by (listed es) section_word k ks go = go begun
entered_by (listed es) open_brace k ks go = (es, k ∷ ks)
entered_by (listed es) close_brace k ks go = (es, k ∷ ks)
entered_by (listed es) (a_name x) k ks go = (es, k ∷ ks)
entered_by (listed es) other k ks go = (es, k ∷ ks)
entered_by begun section_word k ks go = go begun
entered_by begun open_brace k ks go = go (listing k.span [])
entered_by begun close_brace k ks go = ([], k ∷ ks)
entered_by begun (a_name x) k ks go = ([], k ∷ ks)
entered_by begun other k ks go = ([], k ∷ ks)
entered_by (listing s xs) section_word k ks go = ([], k ∷ ks)
entered_by (listing s xs) open_brace k ks go = ([], k ∷ ks)
entered_by (listing s xs) close_brace k ks go = go (listed (exported s k.span xs))
entered_by (listing s xs) (a_name x) k ks go = go (listing s (xs ++ record { text = x; span = k.span } ∷ []))
entered_by (listing s xs) other k ks go = ([], k ∷ ks)

-- the classes that the next feature is exported to, and what follows each `feature` with its list
abbrev pub entered : Stage → List Kept → List Name × List Kept
entered s [] = ([], [])
entered s (k ∷ ks) = entered_by s (role k.kind) k ks (λ z. entered z ks)

names_entered : {xs : List Name} {p q : Point} → ArePlacedNames xs p q → (s : Span) (ys : List Name) →
    entered (listing s ys) (ahead p) ≡ entered (listing s (ys ++ xs)) (ahead q)
names_entered (one_name {x} n) s ys = ap (entered (listing s ys)) (kept_token (NAME x.text) n refl)
names_entered (more_names {x} {xs} {u} n c ns) s ys =
    ap (entered (listing s ys)) (kept_token (NAME x.text) n refl)
    ∙ ap (entered (listing s (ys ++ x ∷ []))) (word_left_out terminal.Comma c refl)
    ∙ names_entered ns s (ys ++ x ∷ [])
    ∙ ap (λ (l : List Name). entered (listing s l) (ahead u)) (append_assoc ys (x ∷ []) xs)

exported_names : {xs : List Name} {p q : Point} → ArePlacedNames xs p q → (s e : Span) →
    exported s e xs ≡ exported_to xs
exported_names (one_name n) s e = refl
exported_names (more_names n c ns) s e = refl

abbrev pub is_brace : Role → Bool
is_brace open_brace = true
is_brace _ = false

-- whether an export list begins here
abbrev pub braced : List Kept → Bool
braced [] = false
braced (k ∷ ks) = is_brace (role k.kind)

unlisted : (r : Role) (k : Kept) (ks : List Kept) (go : Stage → List Name × List Kept) → is_brace r ≡ false →
    entered_by begun r k ks go ≡ entered_by (listed []) r k ks go
unlisted section_word k ks go e = refl
unlisted open_brace k ks go e = cc
unlisted close_brace k ks go e = refl
unlisted (a_name x) k ks go e = refl
unlisted other k ks go e = refl

no_list : (ks : List Kept) → braced ks ≡ false → entered begun ks ≡ entered (listed []) ks
no_list [] e = refl
no_list (k ∷ ks) e = unlisted (role k.kind) k ks (λ z. entered z ks) e

exports_entered : {es : List Name} {p q : Point} → ArePlacedExports es p q → braced (ahead q) ≡ false →
    entered begun (ahead p) ≡ entered (listed es) (ahead q)
exports_entered (places.no_exports {p}) e = no_list (ahead p) e
exports_entered (places.empty_exports {p} {q} {r} o c) e =
    let b : o.0.start ≡ begin p = ap (λ (s : Span). s.start) (sym (ap first (kept_word terminal.OpenBrace o refl)))
    ∙ sym (begins_with_word terminal.OpenBrace o refl) in
    let f : c.0.end ≡ r.last.end = ap (λ (s : Span). s.end) (sym c.1.last) in
    ap (entered begun) (kept_word terminal.OpenBrace o refl)
    ∙ ap (entered (listing o.0 [])) (kept_word terminal.CloseBrace c refl)
    ∙ ap (λ (n : ℕ). entered (listed (record { text = none_name; span = record { start = n; end = c.0.end } } ∷ [])) (ahead r)) b
    ∙ ap (λ (n : ℕ). entered (listed (record { text = none_name; span = record { start = begin p; end = n } } ∷ [])) (ahead r)) f
exports_entered (places.exports {xs} {p} {q} {r} {u} o ns c) e =
    ap (entered begun) (kept_word terminal.OpenBrace o refl) ∙ names_entered ns o.0 []
    ∙ ap (entered (listing o.0 xs)) (kept_word terminal.CloseBrace c refl)
    ∙ ap (λ (l : List Name). entered (listed l) (ahead u)) (exported_names ns o.0 c.0)

-- ---- sections

-- Behind the last section stands a word that begins none.
pub record Finished (p : Point) : Type 0 where
  pub head : Kept
  pub tail : List Kept
  pub split : ahead p ≡ head ∷ tail
  pub plain : role head.kind ≡ other

abbrev pub laid_features : List Feature → List Name → List Kept → List Feature × List Kept
laid_features [] es ks = ([], (entered (listed es) ks).1)
laid_features (f ∷ fs) es ks =
    next (laid_kind (entered (listed es) ks).0 f.name f.kind (entered (listed es) ks).1) λ g ls. next (laid_features fs (entered (listed es) ks).0 ls) λ gs ms. (g ∷ gs, ms)

-- the same, where the look at sections is given
abbrev pub features_by : List Feature → List Name × List Kept → List Feature × List Kept
features_by [] h = ([], h.1)
features_by (f ∷ fs) h = next (laid_kind h.0 f.name f.kind h.1) λ g ls. next (laid_features fs h.0 ls) λ gs ms. (g ∷ gs, ms)

features_by_is : (fs : List Feature) (es : List Name) (ks : List Kept) →
    laid_features fs es ks ≡ features_by fs (entered (listed es) ks)
features_by_is [] es ks = refl
features_by_is (f ∷ fs) es ks = refl

same_entered : (fs : List Feature) (es gs : List Name) (ks ls : List Kept) →
    entered (listed es) ks ≡ entered (listed gs) ls → laid_features fs es ks ≡ laid_features fs gs ls
same_entered fs es gs ks ls e = features_by_is fs es ks ∙ ap (features_by fs) e ∙ sym (features_by_is fs gs ls)

-- where a name stands, no section begins
at_name : (es : List Name) {x : Name} {p q : Point} → IsPlacedName x p q →
    entered (listed es) (ahead p) ≡ (es, ahead p)
at_name es {x} n = ap (entered (listed es)) (kept_token (NAME x.text) n refl)
    ∙ ap (λ (ks : List Kept). (es, ks)) (sym (kept_token (NAME x.text) n refl))

feature_before : (es : List Name) {x : Name} {p q : Point} → IsPlacedName x p q → (b f : Feature) (ks : List Kept) →
    laid_kind es b.name b.kind (ahead p) ≡ (f, ks) →
    (hs gs : List Feature) (w : List Kept) → laid_features hs es ks ≡ (gs, w) → laid_features (b ∷ hs) es (ahead p) ≡ (f ∷ gs, w)
feature_before es {p} n b f ks e hs gs w h = ap (features_by (b ∷ hs)) (at_name es n) ∙ next_is _ e (next_is _ h refl)

attributes_before : (es : List Name) {xs : List Name} {t : DeclaredType} {p q r u : Point} → ArePlacedNames xs p q →
    IsWord terminal.Colon q r → IsPlacedType t r u →
    (hs gs : List Feature) (w : List Kept) → laid_features hs es (ahead u) ≡ (gs, w) →
    laid_features (map bare_feature (map (attribute_of es t) xs) ++ hs) es (ahead p) ≡ (map (attribute_of es t) xs ++ gs, w)
attributes_before es {t} (one_name {x} n) c d hs gs w h = feature_before es n (bare_feature (attribute_of es t x)) _ _ (last_typed (attribute_of es) n c d) hs gs w h
attributes_before es {t} (more_names {x} n m ns) c d hs gs w h =
    feature_before es n (bare_feature (attribute_of es t x)) _ _ (earlier_typed (attribute_of es) n m ns c d) _ _ w (attributes_before es ns c d hs gs w h)

one_before : (es : List Name) {fs : List Feature} {p q : Point} → IsPlacedFeature es fs p q →
    (hs gs : List Feature) (w : List Kept) → laid_features hs es (ahead q) ≡ (gs, w) →
    laid_features (map bare_feature fs ++ hs) es (ahead p) ≡ (fs ++ gs, w)
one_before es (places.attributes ns c d) hs gs w h = attributes_before es ns c d hs gs w h
one_before es (places.attribute {x} {t = a} n f t) hs gs w h = feature_before es n (bare_feature (attribute_of es a x)) _ _ (attribute_laid es n f t) hs gs w h
one_before es (places.routine {x} {d} n f t i pre ls o body post e) hs gs w h =
    feature_before es n (bare_feature (routine_of es x d)) _ _ (routine_laid es n f t i pre ls o body post e) hs gs w h

features_before : (es : List Name) {fs : List Feature} {p q : Point} →
    IsRow (IsPlacedFeature es) terminal.Semicolon fs p q → (hs gs : List Feature) (w : List Kept) →
    laid_features hs es (ahead q) ≡ (gs, w) →
    laid_features (map bare_feature fs ++ hs) es (ahead p) ≡ (fs ++ gs, w)
features_before es no_part hs gs w h = h
features_before es (places.separated {xs} s d) hs gs w h =
    ap (laid_features (map bare_feature xs ++ hs) es) (word_left_out terminal.Semicolon s refl)
    ∙ features_before es d hs gs w h
features_before es (part {xs} {ys} {p} d ds) hs gs w h =
    ap (λ (l : List Feature). laid_features (l ++ hs) es (ahead p)) (map-append bare_feature xs ys)
    ∙ ap (λ (l : List Feature). laid_features l es (ahead p)) (append_assoc (map bare_feature xs) (map bare_feature ys) hs)
    ∙ one_before es d (map bare_feature ys ++ hs) (ys ++ gs) w (features_before es ds hs gs w h)
    ∙ ap (λ (l : List Feature). (l, w)) (sym (append_assoc xs ys gs))

name_unbraced : {x : Name} {p q : Point} → IsPlacedName x p q → braced (ahead p) ≡ false
name_unbraced {x} n = ap braced (kept_token (NAME x.text) n refl)

feature_unbraced : {es : List Name} {fs : List Feature} {p q : Point} → IsPlacedFeature es fs p q →
    braced (ahead p) ≡ false
feature_unbraced (places.attributes (one_name n) c d) = name_unbraced n
feature_unbraced (places.attributes (more_names n m ns) c d) = name_unbraced n
feature_unbraced (places.attribute n f t) = name_unbraced n
feature_unbraced (places.routine n f t i pre ls o body post e) = name_unbraced n

row_unbraced : {es : List Name} {fs : List Feature} {p q : Point} →
    IsRow (IsPlacedFeature es) terminal.Semicolon fs p q → braced (ahead q) ≡ false → braced (ahead p) ≡ false
row_unbraced no_part e = e
row_unbraced (places.separated s d) e = ap braced (word_left_out terminal.Semicolon s refl) ∙ row_unbraced d e
row_unbraced (part d ds) e = feature_unbraced d

sections_unbraced : {fs : List Feature} {p q : Point} → AreParts IsPlacedSection fs p q → braced (ahead q) ≡ false →
    braced (ahead p) ≡ false
sections_unbraced none e = e
sections_unbraced (another (places.section w es fs) ds) e = ap braced (kept_word terminal.Feature w refl)

finished_unbraced : {p : Point} → Finished p → braced (ahead p) ≡ false
finished_unbraced f = ap braced f.split ∙ ap is_brace f.plain

finished_entered : (es : List Name) {p : Point} → Finished p → entered (listed es) (ahead p) ≡ (es, ahead p)
finished_entered es f =
    ap (entered (listed es)) f.split
    ∙ ap (λ (r : Role). entered_by (listed es) r f.head f.tail (λ z. entered z f.tail)) f.plain
    ∙ ap (λ (ks : List Kept). (es, ks)) (sym f.split)

pub sections_laid : {fs : List Feature} {p q : Point} → AreParts IsPlacedSection fs p q → Finished q →
    (es : List Name) → laid_features (map bare_feature fs) es (ahead p) ≡ (fs, ahead q)
sections_laid none f es = ap (λ (h : List Name × List Kept). ([], h.1)) (finished_entered es f)
sections_laid (another {xs} {ys} {p} {q} {r} (places.section {es = gs} {q = s} {r = v} w e fs) ds) f es =
    let b : entered (listed es) (ahead p) ≡ entered (listed gs) (ahead v) =
    ap (entered (listed es)) (kept_word terminal.Feature w refl)
    ∙ exports_entered e (row_unbraced fs (sections_unbraced ds (finished_unbraced f))) in
    same_entered (map bare_feature (xs ++ ys)) es gs (ahead p) (ahead v) b
    ∙ ap (λ (l : List Feature). laid_features l gs (ahead v)) (map-append bare_feature xs ys)
    ∙ features_before gs fs (map bare_feature ys) ys (ahead r) (sections_laid ds f gs)
