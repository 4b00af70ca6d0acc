-- `clockwork::time::bad_now` meets its contract: each return by its law of specs/Reading.antt.
use Rattle.std.proofs.Common.{lt-ltb}
use Rattle.clockwork.specs.Reading.{bad_early, bad_late}
use Rattle.clockwork.proofs.time.bad_now.Goals as goal

pub returns-then-reading-get : goal.returns-then-reading-get
returns-then-reading-get c = rw (lt-ltb _ _ c.if-reading-get.true) (bad_early c.get.ensures.value c.if-reading-get.true)

pub returns-else-reading-get : goal.returns-else-reading-get
returns-else-reading-get c = bad_late c.get.ensures.value c.if-reading-get.false
