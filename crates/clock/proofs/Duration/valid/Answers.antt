-- `clock::Duration::valid` meets its contract: the test is the definition.
use Rattle.std.specs.Prelude.{refl}
use Rattle.clock.specs.Counts.{valid_duration}
use Rattle.clock.proofs.Duration.valid.Goals as goal

pub returns : goal.returns
unfolding valid_duration
returns c = rw c.from.ensures refl
