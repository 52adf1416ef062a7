use Rattle.std.proofs.Common.{◌≡◌, ℕ, List, Option, Ok, ap, sym, ◌∙◌}
use Rattle.sc_tree.specs.Grammar.Classes.{heads_class}
use Rattle.sc_text.specs.declared.token.Span.{Span}
use Rattle.sc_tree.specs.Plain as plain
use Rattle.sc_parse.specs.Reading.Classes as spec
use Rattle.sc_tree.proofs.ReadingSteps.{bind_ok}
use Rattle.sc_parse.proofs.Views.{class_of-is}
use Rattle.sc_parse.specs.Reading.Looks.{Ahead, begin, up_to}
use Rattle.sc_parse.specs.Reading.Reads.{ahead, header_ahead, members_ahead}
use Rattle.sc_parse.proofs.Parts.{class_is, class_with, after_header}
use Rattle.sc_parse.proofs.cursor.Parser.class.Goals as goal

class_read : (room : ℕ) (ts noted marked members rest : Ahead) (m : Option plain.ClassMark) (x : plain.Name)
    (ps : List plain.Parent) (ns : List plain.Name) (fs : List plain.Feature) (is : List plain.Clause) (h start : ℕ) (k : plain.Class) →
    start ≡ begin noted → noted ≡ spec.past_note heads_class ts → spec.mark noted ≡ (m, marked) →
    header_ahead marked ≡ Ok ((x, (ps, ns)), members) → members_ahead room members ≡ Ok ((fs, is), h, rest) →
    k ≡ spec.class_of (up_to start rest) m x ps ns fs is → spec.class room ts ≡ Ok (k, h, rest)
unfolding spec.class
class_read room ts noted marked members rest m x ps ns fs is h start k z e q d w v =
    ap (λ (r : Ahead). spec.class_marked room (begin r) (spec.mark r).0 (spec.mark r).1) (sym e)
    ∙ ap (λ (p : Option plain.ClassMark × Ahead). spec.class_marked room (begin noted) p.0 p.1) q
    ∙ ap (λ (s : ℕ). spec.class_marked room s m marked) (sym z)
    ∙ rw v (class_is room start m marked ∙ bind_ok _ _ (after_header room start m) d ∙ bind_ok _ _ (class_with start m (x, (ps, ns))) w)

placed : {s u : Span} (m : Option plain.ClassMark) (x : plain.Name) (ps : List plain.Parent) (ns : List plain.Name) (fs : List plain.Feature) (is : List plain.Clause) → s ≡ u →
    spec.class_of s m x ps ns fs is ≡ spec.class_of u m x ps ns fs is
placed m x ps ns fs is e = ap (λ (s : Span). spec.class_of s m x ps ns fs is) e

pub returns : goal.returns
returns c =
    let read = c.in_ok-members.ensures.read in (
      read.0,
      class_read c.args.room (ahead c.args.self.now) _ _ _ _ _ _ _ _ _ _ _ _ _ c.next_start-start.ensures c.skip_note.ensures c.mark-mark.ensures c.in_ok-header.ensures read.1
          (class_of-is _ ∙ placed _ _ _ _ _ _ c.span_from.ensures),
    )

pub invariant_of-result : goal.invariant_of-result
invariant_of-result c = record { shared = c.in_ok-members.ensures.shared }
