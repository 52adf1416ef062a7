use Rattle.std.proofs.Common.{◌≡◌, ◌<◌, ℕ}
use Rattle.sc_play.specs.Contents.{contents_at}
use Rattle.sc_world.proofs.kept_world.same_regions.Given as goal

abbrev pub invariant-loop-handler : goal.invariant-loop-handler
invariant-loop-handler l = (h : ℕ) → h < l.handler → contents_at l.regions h ≡ contents_at l.others h
