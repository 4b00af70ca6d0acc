-- `timers::links` meets its contract: there is room for a link before the links.
use Rattle.std.proofs.Common.{arith}
use Rattle.timers.specs.Read.{links-room, links_of}
use Rattle.timers.proofs.links.Goals as goal

pub overflow_sub-result : goal.overflow_sub-result
overflow_sub-result c = omega (arith, links-room c.args.z)

pub returns : goal.returns
returns c = search links_of
