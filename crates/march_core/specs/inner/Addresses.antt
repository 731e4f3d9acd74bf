-- Inner. For proofs and private contracts alone, beside Addresses: visits as steps of a march.
use Rattle.std.specs.Prelude.{List, map}
use Rattle.march_core.specs.Visits.{Visit, MarchStep, visiting}

-- visits as steps of a march
abbrev pub steps_of : List Visit → List MarchStep
steps_of visits = map visiting visits
