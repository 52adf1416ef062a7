-- A text in which a symbol has another name, and whether each name in it means what it meant before.
use Rattle.std.specs.Prelude.{◌≡◌, ◌+◌, ◌-◌, ◌*◌, ◌⊎◌, ℕ, if◌then◌else◌, List, [], ◌∷◌, ◌++◌, length, drop, slice_range, nat_lt}
use Rattle.sc_text.specs.declared.token.Span.{Span}
use Rattle.sc_text.specs.Kind.{NAME}
use Rattle.sc_text.specs.Spelling.{Spells, span_at}
use Rattle.sc_class.specs.ClassNames.{Root}
use Rattle.sc_frontend.specs.Texts.{IsAccepted, IsRefusedFor}
use Rattle.sc_frontend.specs.declared.rejection.Rejection.{Rejection}
use Rattle.sc_frontend.specs.declared.rejection.Rejection.TheVariants as rejection
use Rattle.sc_symbols.specs.declared.symbol.Mention.{Mention}
use Rattle.sc_symbols.specs.Texts.{AreNamesIn}

-- ---- the new text

-- what is written from this place on: the name in place of each use
abbrev pub renamed_from : ℕ → List ℕ → List Span → List ℕ → List ℕ
renamed_from place text [] name = drop place text
renamed_from place text (u ∷ us) name =
    slice_range text place u.start ++ (name ++ renamed_from u.end text us name)

-- the text with the name in place of each use
abbrev pub renamed : List ℕ → List Span → List ℕ → List ℕ
renamed text uses name = renamed_from 0 text uses name

-- The text is one identifier, and nothing else.
pub record IsIdentifier (text : List ℕ) : Type 0 where
  pub lower_case : List ℕ
  pub spelled : Spells text (record { kind = NAME lower_case; span = span_at 0 (length text) } ∷ [])

-- ---- meanings

-- how many of these begin before the offset
abbrev pub count_before : ℕ → List Span → ℕ
count_before p [] = 0
count_before p (u ∷ us) = if nat_lt u.start p then count_before p us + 1 else count_before p us

-- The uses of a symbol, the length of its name, and that of the new one.
pub record Renamed : Type 0 where
  pub uses : List Span
  pub old_length : ℕ
  pub new_length : ℕ

-- What was at the first offset is at the second one, after each use was replaced.
abbrev pub IsMoved : Renamed → ℕ → ℕ → Type 0
IsMoved r p q = q + count_before p r.uses * r.old_length ≡ p + count_before p r.uses * r.new_length

-- The names stand at one place before and after, and mean a symbol with one declaration and one origin.
abbrev pub IsSameMention : Renamed → Mention → Mention → Type 0
IsSameMention r m k =
    IsMoved r m.span.start k.span.start
    × IsMoved r m.declaration.start k.declaration.start
    × IsMoved r m.origin.start k.origin.start

-- Each name means what it meant before.
abbrev pub KeepsMeaning : Renamed → List Mention → List Mention → Type 0
KeepsMeaning r [] [] = Unit {0}
KeepsMeaning r [] (k ∷ ks) = ⊥
KeepsMeaning r (m ∷ ms) [] = ⊥
KeepsMeaning r (m ∷ ms) (k ∷ ks) = IsSameMention r m k × KeepsMeaning r ms ks

-- ---- what is promised

-- Something was at fault in the text.
pub record WasRefused (text : List ℕ) (root : Root) : Type 0 where
  pub why : Rejection
  pub in_memory : why ≡ rejection.OutOfMemory → ⊥
  pub refused : IsRefusedFor text root why

-- The new text is accepted, or the old one wasn't.
abbrev pub StaysAccepted : List ℕ → List ℕ → Root → Type 0
StaysAccepted text new root = IsAccepted new root ⊎ WasRefused text root

-- The symbol whose uses these are may have this name in a text with these names: it is an identifier, each name of the
-- new text means what it meant before, and the new text is accepted if the old one was.
pub record MayBeNamed (text : List ℕ) (root : Root) (before : List Mention) (r : Renamed) (name : List ℕ) : Type 0 where
  pub is_identifier : IsIdentifier name
  pub after : List Mention
  pub names : AreNamesIn (renamed text r.uses name) root after
  pub keeps : KeepsMeaning r before after
  pub stays : StaysAccepted text (renamed text r.uses name) root

-- what is replaced if the symbol with this origin gets this name
abbrev pub renaming : List Span → Span → List ℕ → Renamed
renaming uses origin name =
    record { uses = uses; old_length = origin.end - origin.start; new_length = length name }
