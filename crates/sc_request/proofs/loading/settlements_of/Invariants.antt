use Rattle.std.proofs.Common.{take}
use Rattle.sc_request.specs.Loading.{CountsFor}
use Rattle.sc_request.proofs.loading.settlements_of.Given as goal

abbrev pub invariant-loop-number : goal.invariant-loop-number
invariant-loop-number l = CountsFor l.parts (take l.number-index l.numbers) l.most
