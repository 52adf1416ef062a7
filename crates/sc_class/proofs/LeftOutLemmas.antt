-- What is left out, from what the code finds of it.
use Rattle.std.proofs.Common.{◌≡◌, List, Option, Some, false, ◌⊎◌, inl, inr, sym, ap, ◌∙◌, subst}
use Rattle.std.specs.Borrow.{Bor}
use Rattle.std.specs.Option.{option_copied}
use Rattle.sc_tree.specs.declared.system.ClassMark as tree
use Rattle.sc_tree.specs.View.{mark_of, mark_if_any}
use Rattle.sc_tree.specs.Plain.{Class, ClassMark, Parent, Name}
use Rattle.sc_class.specs.declared.fault.LeftOut.{LeftOut}
use Rattle.sc_class.specs.declared.fault.LeftOut.TheVariants.{MultipleInheritance, ExportList}
use Rattle.sc_class.specs.declared.faults.left_out.Exclusion.{Exclusion}
use Rattle.std.specs.Prelude.{Any, slice_get}
use Rattle.sc_class.specs.Internal.Found.{FindsOnly}
use Rattle.sc_class.specs.Internal.Places.{Gains}
use Rattle.sc_class.specs.Faults.LeftOut.{excluded, left_out_mark, is_plain_export, MarkLeftOut, mark, ParentLeftOut, second_parent, ExportLeftOut, export_list, ClassLeftOut, by_mark, by_parent, by_export}
use Rattle.sc_class.proofs.PlaceLists.{gains_both, gains_only}
use Rattle.sc_class.proofs.Items.{some_is}

pub marked_at : (c : Class) (m : ClassMark) (w : LeftOut) → c.mark ≡ Some m → w ≡ left_out_mark m → FindsOnly (MarkLeftOut c) (Some (excluded w c.name.span))
marked_at c m w e f = (subst (λ w. MarkLeftOut c (excluded w c.name.span)) (sym f) (mark e), λ y q. there y q)
  where
    there : (y : Exclusion) → MarkLeftOut c y → y ≡ excluded w c.name.span
    there _ (mark {m = n} g) = ap (λ w. excluded w c.name.span) (ap left_out_mark (some_is n m (sym g ∙ e)) ∙ sym f)

pub second_at : (c : Class) (q : Parent) → slice_get c.parents 1 ≡ Some q → FindsOnly (ParentLeftOut c) (Some (excluded MultipleInheritance q.name.span))
second_at c q e = (second_parent e, λ y r. there y r)
  where
    there : (y : Exclusion) → ParentLeftOut c y → y ≡ excluded MultipleInheritance q.name.span
    there _ (second_parent {q = r} g) = ap (λ (q : Parent). excluded MultipleInheritance q.name.span) (some_is r q (sym g ∙ e))

pub export_at : (xs : List Name) (n : Name) → slice_get xs 0 ≡ Some n → is_plain_export xs ≡ false → FindsOnly (ExportLeftOut xs) (Some (excluded ExportList n.span))
export_at xs n e f = (export_list e f, λ y r. there y r)
  where
    there : (y : Exclusion) → ExportLeftOut xs y → y ≡ excluded ExportList n.span
    there _ (export_list {n = m} g h) = ap (λ (n : Name). excluded ExportList n.span) (some_is m n (sym g ∙ e))

pub mark_seen : (m : Option tree.ClassMark) (o : Option (Bor tree.ClassMark)) (n : Bor tree.ClassMark) → option_copied o ≡ m → o ≡ Some n → mark_if_any m ≡ Some (mark_of n.now)
mark_seen m o n e f = ap mark_if_any (sym e ∙ ap option_copied f)

-- the mark, the second parent and the export lists of a class are all that can be left out there
pub class_gained : (c : Class) (a b : Option Exclusion) (f g h k : List Exclusion) → FindsOnly (MarkLeftOut c) a → FindsOnly (ParentLeftOut c) b → Gains (λ x. a ≡ Some x) f g → Gains (λ x. b ≡ Some x) g h →
    Gains (λ x. Any (λ f. ExportLeftOut f.exports x) c.features) h k → Gains (ClassLeftOut c) f k
class_gained c a b f g h k l m d e i =
    gains_both {R = ClassLeftOut c} (λ x p. by_mark p) (λ x r. behind x r) (λ x r. parts r) (gains_only a l d)
    (gains_both {R = λ x. ParentLeftOut c x ⊎ Any (λ f. ExportLeftOut f.exports x) c.features} (λ x. inl) (λ x. inr) (λ x r. r) (gains_only b m e) i)
  where
    behind : (x : Exclusion) → ParentLeftOut c x ⊎ Any (λ f. ExportLeftOut f.exports x) c.features → ClassLeftOut c x
    behind x (inl p) = by_parent p
    behind x (inr a) = by_export a

    parts : {x : Exclusion} → ClassLeftOut c x → MarkLeftOut c x ⊎ (ParentLeftOut c x ⊎ Any (λ f. ExportLeftOut f.exports x) c.features)
    parts (by_mark m) = inl m
    parts (by_parent p) = inr (inl p)
    parts (by_export a) = inr (inr a)
