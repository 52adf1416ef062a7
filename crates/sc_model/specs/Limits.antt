-- What a handler may have at most. How many handlers there may be is the machine's parameter.
use Rattle.std.specs.Prelude.{ℕ}

abbrev pub max_objects : ℕ
max_objects = 65536

abbrev pub max_frames : ℕ
max_frames = 1024

-- requests in a queue
abbrev pub max_queue : ℕ
max_queue = 4096
