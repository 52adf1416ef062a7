-- Operations that have room in requests.
use Rattle.std.specs.Prelude.{◌≡◌, ◌&&◌, Bool, true, List, nat_lt}
use Rattle.std.specs.List.{list_all}
use Rattle.sc_code.specs.Operations.{Operation, CallRoutine, CallFeature, Create, CreateHandler, Open}

-- A call, a creation or a separate block has at most 16 actuals or heads, and what is created is of a class with a
-- number below 256.
abbrev pub fits : Operation → Bool
fits (CallRoutine site) = nat_lt site.count 17
fits (CallFeature site) = nat_lt site.count 17
fits (Create site) = nat_lt site.count 17 && nat_lt site.class 256
fits (CreateHandler site) = nat_lt site.count 17 && nat_lt site.class 256
fits (Open first count) = nat_lt count 17
fits o = true

-- Each of the operations does.
abbrev pub AllFit : List Operation → Type 0
AllFit os = list_all fits os ≡ true
