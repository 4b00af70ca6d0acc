-- What the tests of one timer show.
use Rattle.std.specs.Prelude.{◌≡◌, List, ◌⊎◌, ℕ, ◌≤◌, ◌<◌}
use Rattle.clock.specs.Counts.{counts_of}
use Rattle.state.specs.Fields as fields
use Rattle.state.specs.declared.Sizes.{Sizes}
use Rattle.rules.specs.Code.{mem_in}

-- A period: none, or no shorter than 100 µs.
pub record PeriodOk (hz p : ℕ) : Type 0 where
  pub period : (p ≡ 0) ⊎ (counts_of hz 0 100000 ≤ p)

-- Timer 0: its period is 10 ms, and where it is queued it fires after the last tick.
pub record TickOk (z : Sizes) (s : List ℕ) : Type 0 where
  pub tick : mem_in z s fields.period 0 ≡ counts_of z.hz 0 10000000
  pub ticks : mem_in z s fields.is_queued 0 ≡ 1 → mem_in z s fields.ticks 0 < mem_in z s fields.deadline 0
