-- What code holds, as definitions see it.
use Rattle.std.specs.Prelude.{◌≡◌, List, ◌++◌, Result, OnOk, map}
use Rattle.std.specs.declared.alloc.AllocError.{AllocError}
use Rattle.sc_tree.specs.View.{expr_of}
use Rattle.sc_warnings.specs.declared.sites.Site.{Site}
use Rattle.sc_warnings.specs.declared.sites.Site.TheVariants as site
use Rattle.sc_warnings.specs.Sites as plain

abbrev pub site_of : Site → plain.Site
site_of (site.Used x) = plain.used x.now
site_of (site.Asked x) = plain.asked x.now
site_of (site.Passed x i b) = plain.passed x.now i b
site_of (site.Condition e) = plain.condition (expr_of e.now)
site_of (site.Until e) = plain.until (expr_of e.now)
site_of (site.Checked e) = plain.checked (expr_of e.now)

-- If all went well, these were added after the others.
abbrev pub Adds : List Site → List Site → List plain.Site → Result Unit AllocError → Type 0
Adds old new added r = OnOk r (map site_of new ≡ map site_of old ++ added)
