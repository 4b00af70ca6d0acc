-- `timers::records` meets its contract: there is a record before the timers.
use Rattle.std.proofs.Common.{arith}
use Rattle.timers.specs.Read.{records-room, records_of}
use Rattle.timers.proofs.records.Goals as goal

pub overflow_sub-result : goal.overflow_sub-result
overflow_sub-result c = omega (arith, records-room c.args.z)

pub returns : goal.returns
returns c = search records_of
