use Rattle.std.proofs.Common.{arith, inl, inr}
use Rattle.std.proofs.lemmas.Str.Pattern.{split_once_first}
use Rattle.sc_explain_text.proofs.codes.is_page_of.Goals as goal

-- the heading is what stands before the first line feed, the code what stands before its first space
pub returns-then-eq_ignore_ascii_case : goal.returns-then-eq_ignore_ascii_case
returns-then-eq_ignore_ascii_case c =
    let lines = rw c.in-Some.is at (split_once_first 10 c.args.page.now c.split_once.result c.split_once.ensures.cases (omega arith)) in
    let words = rw c.in-Some-split_once.is at (split_once_first 32 c.in-Some.heading.now c.split_once-2.result c.split_once-2.ensures.cases (omega arith)) in
    λ yes. inl (rw (← lines.1, ← words.1) (c.eq_ignore_ascii_case-2.ensures.test.0 yes))

-- the name is what stands after that space
pub returns-else-eq_ignore_ascii_case : goal.returns-else-eq_ignore_ascii_case
returns-else-eq_ignore_ascii_case c =
    let lines = rw c.in-Some.is at (split_once_first 10 c.args.page.now c.split_once.result c.split_once.ensures.cases (omega arith)) in
    let words = rw c.in-Some-split_once.is at (split_once_first 32 c.in-Some.heading.now c.split_once-2.result c.split_once-2.ensures.cases (omega arith)) in
    λ yes. inr (rw (← lines.1, ← words.2) (c.eq_ignore_ascii_case-else-eq_ignore_ascii_case.ensures.test.0 yes))
