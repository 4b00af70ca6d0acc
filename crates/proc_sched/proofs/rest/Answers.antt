-- `proc_sched::rest` meets its contract: each return by its law.
use Rattle.proc_sched.specs.Sched.{rest_end, rest-idle}
use Rattle.proc_sched.proofs.rest.Goals as goal

pub returns-then-asleep-eq0 : goal.returns-then-asleep-eq0
returns-then-asleep-eq0 c = rest_end c.requires c.get-asleep.ensures.value c.if-asleep-eq0.true

pub returns : goal.returns
returns c = rest-idle c.requires c.get-asleep.ensures.value c.if-asleep-eq0.false
