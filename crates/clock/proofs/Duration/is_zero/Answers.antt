-- `clock::Duration::is_zero` meets its contract: a law for each return.
use Rattle.clock.specs.Shown.{zero_nanos, zero-secs}
use Rattle.clock.proofs.Duration.is_zero.Goals as goal

pub returns-then-self-eq0 : goal.returns-then-self-eq0
returns-then-self-eq0 c = search zero_nanos

pub returns-else-self-eq0 : goal.returns-else-self-eq0
returns-else-self-eq0 c = search zero-secs
