-- The name at an offset, and the places at which a symbol is written.
use Rattle.std.specs.Prelude.{ℕ, Bool, not, ◌&&◌, if◌then◌else◌, List, [], ◌∷◌, ◌++◌, Option, find, nat_eq, nat_lt}
use Rattle.std.specs.List.{list_any}
use Rattle.sc_text.specs.declared.token.Span.{Span}
use Rattle.sc_symbols.specs.declared.symbol.Mention.{Mention}

-- the offset is in the place or right after it
abbrev pub touches : ℕ → Span → Bool
touches i p = not (nat_lt i p.start) && not (nat_lt p.end i)

abbrev pub mention_at : ℕ → List Mention → Option Mention
mention_at i ms = find (λ (m : Mention). touches i m.span) ms

abbrev pub is_same_span : Span → Span → Bool
is_same_span p q = nat_eq p.start q.start && nat_eq p.end q.end

abbrev pub is_among : Span → List Span → Bool
is_among p ps = list_any (is_same_span p) ps

-- the place of a name that means the symbol with this origin, after others
abbrev pub with_use : Span → List Span → Mention → List Span
with_use o us m = if is_same_span m.origin o && not (is_among m.span us) then us ++ m.span ∷ [] else us

abbrev pub uses_after : Span → List Span → List Mention → List Span
uses_after o us [] = us
uses_after o us (m ∷ ms) = uses_after o (with_use o us m) ms

-- the places of the symbol with this origin, each once
abbrev pub uses_of : Span → List Mention → List Span
uses_of o ms = uses_after o [] ms
