use Rattle.sc_plant.proofs.outputs.are_past.Goals as goal

-- more than the bound that there is
pub returns-in-Some : goal.returns-in-Some
returns-in-Some c = rw c.in-Some.is (rw c.as_slice.ensures.value at c.have_printed_more.ensures)
