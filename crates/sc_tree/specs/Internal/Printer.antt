-- What a printer holds, and what is put behind it.
use Rattle.std.specs.Prelude.{◌≡◌, ℕ, ◌&&◌, Bool, false, not, if◌then◌else◌, List, [], ◌∷◌, ◌++◌, replicate}
use Rattle.sc_text.specs.Characters.{tab, line_feed, space}
use Rattle.sc_tree.specs.declared.print.Printer.{Printer}
use Rattle.sc_tree.specs.Canonical.Layout.{Part, Line, text_of_part, opens, closes}

-- the text so far, and whether a space stands before the next token, if that token wants one
pub record Output : Type 0 where
  pub text : List ℕ
  pub is_apart : Bool

abbrev pub output_of : Printer → Output
output_of p = record { text = p.text.items; is_apart = p.is_apart }

abbrev pub gap : Bool → Bool → List ℕ
gap apart close = if apart && not close then space ∷ [] else []

unfoldable pub put : Output → Part → Output
put o p = record { text = o.text ++ (gap o.is_apart (closes p) ++ text_of_part p); is_apart = not (opens p) }

abbrev pub puts : Output → List Part → Output
puts o [] = o
puts o (p ∷ ps) = puts (put o p) ps

unfoldable pub begin : Output → ℕ → Output
begin o n = record { text = o.text ++ replicate n tab; is_apart = false }

unfoldable pub end : Output → Output
end o = record { text = o.text ++ line_feed ∷ []; is_apart = false }

abbrev pub put_line : Output → Line → Output
put_line o l = end (puts (begin o l.indent) l.parts)

abbrev pub put_lines : Output → List Line → Output
put_lines o [] = o
put_lines o (l ∷ ls) = put_lines (put_line o l) ls

-- ---- what a method of the printer puts behind what was there, from before it to after it

abbrev pub PutsPart : Printer → Printer → Part → Type 0
PutsPart before after p = output_of after ≡ put (output_of before) p

abbrev pub PutsParts : Printer → Printer → List Part → Type 0
PutsParts before after ps = output_of after ≡ puts (output_of before) ps

abbrev pub PutsLine : Printer → Printer → Line → Type 0
PutsLine before after l = output_of after ≡ put_line (output_of before) l

abbrev pub PutsLines : Printer → Printer → List Line → Type 0
PutsLines before after ls = output_of after ≡ put_lines (output_of before) ls
