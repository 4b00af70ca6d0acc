-- `proc_start::new_pid` meets its contract: each need by its law.
use Rattle.memory.specs.Link.{link_there}
use Rattle.proc_start.specs.Room.{room-left, start_find}
use Rattle.proc_start.proofs.new_pid.Goals as goal

pub find_record-requires : goal.find_record-requires
find_record-requires c = search start_find

pub returns-clause-ok : goal.returns-clause-ok
returns-clause-ok c = let t = link_there c.find_record.result c.if-is_none.ensures in search (room-left, t)
