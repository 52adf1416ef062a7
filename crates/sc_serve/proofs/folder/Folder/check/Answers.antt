use Rattle.std.proofs.Common.{◌∙◌}
use Rattle.sc_serve.proofs.TestLemmas.{may_write}
use Rattle.sc_serve.proofs.folder.Folder.check.Goals as goal

-- the record goes to a file of the folder
pub returns : goal.returns
returns g c =
    may_write (g.F.Files.replaced_by c.args.self.now.files.now) c.args.self.now.name c.in-Some.folder c.args.test.now c.as_str.result.now
    c.check_path.result c.in-Some.is (c.as_str.ensures.value ∙ c.in_ok-path.ensures) c.check_path.ensures
