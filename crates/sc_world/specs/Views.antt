-- What a core with its regions stands for, and a world in memory.
use Rattle.sc_world.specs.declared.configuration.Configuration as coded_configuration
use Rattle.sc_world.specs.declared.world.World as coded
use Rattle.sc_world.specs.Worlds.{PlainWorld, world_with}

abbrev pub world_in : coded_configuration.Configuration → PlainWorld
world_in c = world_with c.core c.regions.items

abbrev pub world_of : coded.World → PlainWorld
world_of w = world_in w.configuration
