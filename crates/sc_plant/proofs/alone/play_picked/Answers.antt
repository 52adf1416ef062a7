use Rattle.std.proofs.Common.{◌≡◌, false, true, inl, inr, refl, sym, ◌∙◌}
use Rattle.sc_plant.proofs.alone.play_picked.Goals as goal

pub returns-in_default-clause-err : goal.returns-in_default-clause-err
returns-in_default-clause-err g c = inl (c.in_default.ensures.err, refl)

pub returns-then-is_cut_short-clause-err : goal.returns-then-is_cut_short-clause-err
returns-then-is_cut_short-clause-err g c = inr (c.in-Ok.turns, record { played = c.in-Ok.ensures.ok; line = c.push_reserved.ensures.items })

pub returns-clause-ok : goal.returns-clause-ok
returns-clause-ok g c = record { played = c.in-Ok.ensures.ok; line = c.push_reserved.ensures.items }

pub returns-clause-whole : goal.returns-clause-whole
returns-clause-whole g c = λ cut. let bad : false ≡ true = sym c.if-is_cut_short.false ∙ c.is_cut_short.ensures.1 cut in cc
