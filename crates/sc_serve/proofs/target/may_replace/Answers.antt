use Rattle.sc_serve.proofs.TargetLemmas.{beginning_says}
use Rattle.sc_serve.proofs.target.may_replace.Goals as goal

-- what the file begins with was read
pub returns-in_ok-beginning-in-Ok-Some : goal.returns-in_ok-beginning-in-Ok-Some
returns-in_ok-beginning-in-Ok-Some g c =
    rw (c.begins_replaceable.ensures, c.as_slice.ensures.value)
    (beginning_says g.F.Reader.Read.remaining c.in-Ok-Some.field-0 c.in-Ok-Some.reader _ c.in_ok-beginning-in-Ok-Some.beginning.items
    c.in-Ok-Some.field-0-is c.in-Ok-Some.ensures c.in_ok-beginning-in-Ok-Some.ensures.ok)
