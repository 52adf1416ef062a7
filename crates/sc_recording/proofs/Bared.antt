-- Regions without their logs.
use Rattle.std.proofs.Common.{◌≡◌, ◌++◌, List, [], ◌∷◌, map, reverse, sym, ap, ◌∙◌, append_assoc}
use Rattle.std.proofs.lemmas.List.{reverse-append}
use Rattle.sc_play.specs.Regions.{PlainRegion}
use Rattle.sc_worklog.specs.declared.logged_region.LoggedRegion.{LoggedRegion}
use Rattle.sc_worklog.specs.LoggedRegions.{region_of}

abbrev pub Bared : List LoggedRegion → List PlainRegion → List LoggedRegion → Type 0
Bared rest xs all = xs ++ map region_of (reverse rest) ≡ map region_of all

pub bare_more : (all rest more : List LoggedRegion) (r : LoggedRegion) (xs ys : List PlainRegion) (x : PlainRegion) → Bared more xs all →
    more ≡ rest ++ r ∷ [] → x ≡ region_of r → ys ≡ xs ++ x ∷ [] → Bared rest ys all
bare_more all rest more r xs ys x before last is one =
    ap (λ (zs : List PlainRegion). zs ++ map region_of (reverse rest)) (one ∙ ap (λ (z : PlainRegion). xs ++ z ∷ []) is)
    ∙ append_assoc xs (region_of r ∷ []) (map region_of (reverse rest))
    ∙ ap (λ (ss : List LoggedRegion). xs ++ map region_of ss) (sym (ap reverse last ∙ reverse-append rest (r ∷ [])))
    ∙ before
