use Rattle.std.proofs.Common.{◌≡◌, true, refl, sym, subst, ap, ◌∙◌, map, arith}
use Rattle.sc_tree.specs.Canonical.Classes.{section_line, further_feature_lines}
use Rattle.sc_tree.specs.Internal.Printer.{output_of, put_line, put_lines}
use Rattle.sc_tree.specs.Sections.{shares_list}
use Rattle.sc_tree.specs.View.{name_of, feature_of}
use Rattle.sc_tree.proofs.PrintingClasses.{features_more, features_done, share_lists-rest, further_share-more}
use Rattle.sc_tree.proofs.print.Printer.features.Goals as goal

pub loop-feature-init : goal.loop-feature-init
loop-feature-init c = record { written = refl; shared = share_lists-rest c.args.features.now c.first-item.result c.in-len1-up.len_at_least c.first-item.is c.requires }

pub further_feature-requires : goal.further_feature-requires
further_feature-requires c =
    subst (λ es. shares_list es c.feature-item.result ≡ true) (sym (c.deref-in-loop-feature-2.ensures.value ∙ ap (λ v. v.items) c.deref-in-loop-feature.ensures))
    (further_share-more _ _ c.loop-feature.feature-index c.feature-item.result (omega arith) c.feature-item.is c.loop-feature.invariant.shared).0

pub loop-feature-preserved : goal.loop-feature-preserved
loop-feature-preserved c = record {
  written =
      features_more c.loop-feature.before.now _ c.loop-feature.feature-index c.feature-item.result _ _ _ (omega arith) c.feature-item.is
      (c.in_ok-further_feature.ensures
      ∙ ap (λ es. put_lines (output_of c.loop-feature.self) (further_feature_lines (map name_of es) (feature_of c.feature-item.result))) (c.deref-in-loop-feature-2.ensures.value ∙ ap (λ v. v.items) c.deref-in-loop-feature.ensures))
      c.loop-feature.invariant.written;
  shared = (further_share-more _ _ c.loop-feature.feature-index c.feature-item.result (omega arith) c.feature-item.is c.loop-feature.invariant.shared).1;
}

pub returns : goal.returns
returns c =
    features_done c.args.features.now c.first-item.result c.loop-feature.feature-index c.loop-feature.before.now.exports.value.items _ _ _ _ c.in-len1-up.len_at_least c.first-item.is (omega arith)
    (c.in_ok-section.ensures ∙ ap (λ es. put_line (output_of c.args.self.now) (section_line (map name_of es))) (c.deref-2.ensures.value ∙ ap (λ v. v.items) c.deref.ensures))
    c.in_ok-feature.ensures c.loop-feature.invariant.written
