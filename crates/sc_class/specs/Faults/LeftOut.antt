-- What the grammar has and this language leaves out.
use Rattle.std.specs.Prelude.{◌≡◌, Bool, true, false, List, [], ◌∷◌, ◌||◌, Some, Any, slice_get}
use Rattle.sc_text.specs.declared.token.Span.{Span}
use Rattle.sc_tree.specs.Plain.{System, Class, ClassMark, Feature, Parent, Name}
use Rattle.sc_tree.specs.Plain as plain
use Rattle.sc_class.specs.declared.fault.LeftOut.{LeftOut}
use Rattle.sc_class.specs.declared.faults.left_out.Exclusion.{Exclusion}
use Rattle.sc_class.specs.declared.fault.LeftOut.TheVariants.{Deferred, Expanded, Frozen, MultipleInheritance, ExportList}
use Rattle.sc_class.specs.ClassNames.{is_any, is_none}

-- the mark that is left out
abbrev pub left_out_mark : ClassMark → LeftOut
left_out_mark (plain.Deferred s) = Deferred
left_out_mark (plain.Expanded s) = Expanded
left_out_mark (plain.Frozen s) = Frozen

-- an export list that exports to all classes, or to none
abbrev pub is_plain_export : List Name → Bool
is_plain_export [] = true
is_plain_export (n ∷ []) = is_any n.text || is_none n.text
is_plain_export (n ∷ m ∷ ns) = false

-- something that is left out, and its place
abbrev pub excluded : LeftOut → Span → Exclusion
excluded what span = record { what = what; span = span }

-- The class is marked.
pub data MarkLeftOut (c : Class) : Exclusion → Type 0 where
  mark : {m : ClassMark} → c.mark ≡ Some m → MarkLeftOut c (excluded (left_out_mark m) c.name.span)

-- It has a second parent.
pub data ParentLeftOut (c : Class) : Exclusion → Type 0 where
  second_parent : {q : Parent} → slice_get c.parents 1 ≡ Some q →
      ParentLeftOut c (excluded MultipleInheritance q.name.span)

-- The place is that of the first name of the export list.
pub data ExportLeftOut (exports : List Name) : Exclusion → Type 0 where
  export_list : {n : Name} → slice_get exports 0 ≡ Some n → is_plain_export exports ≡ false →
      ExportLeftOut exports (excluded ExportList n.span)

-- In a class, this is left out.
pub data ClassLeftOut (c : Class) : Exclusion → Type 0 where
  by_mark : {x : Exclusion} → MarkLeftOut c x → ClassLeftOut c x
  by_parent : {x : Exclusion} → ParentLeftOut c x → ClassLeftOut c x
  by_export : {x : Exclusion} → Any (λ f. ExportLeftOut f.exports x) c.features → ClassLeftOut c x
