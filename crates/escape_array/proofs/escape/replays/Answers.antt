use Rattle.std.proofs.Common.{length}
use Rattle.march_core.specs.Visits.{directions_of}
use Rattle.array_sim.specs.Run.{places_of}
use Rattle.escape_array.specs.Escapes.{places_of_escape}
use Rattle.escape_array.proofs.Replaying.{passes_where_none}
use Rattle.escape_array.proofs.escape.replays.Goals as goal

pub returns : goal.returns
returns c =
    passes_where_none c.args.march.now (directions_of c.args.escape.now.directions (length c.args.march.now))
    c.instance_in-instance.result.prim c.args.escape.now.prim (places_of c.instance_in-instance.result) (places_of_escape c.args.escape.now)
    c.args.escape.now.content c.simulate.result c.is_none.result
    c.instance_in-instance.ensures.prim c.instance_in-instance.ensures.places c.is_none.ensures c.simulate.ensures.caught
