-- What is asked of one record, one cell and one timer, and what all of them show.
use Rattle.std.specs.Prelude.{◌≡◌, ℕ, ◌+◌, ◌<◌}
use Rattle.machine.specs.Machine.{Sizes}
use Rattle.layout.specs.Memory.{Memory}
use Rattle.state.specs.Fields as fields
use Rattle.state.specs.WellFormed.{Vacant}
use Rattle.rules.specs.Facts.{IdleOk}

abbrev pub RecordIdle : Memory → ℕ → Type 0
RecordIdle m i = m fields.pid i ≡ 0 → Vacant m i

abbrev pub CellIdle : Memory → ℕ → Type 0
CellIdle m c = m fields.owner c ≡ 0 → m fields.cell_next c ≡ 0

abbrev pub TimerIdle : Memory → ℕ → Type 0
TimerIdle m t = m fields.is_queued t ≡ 0 → m fields.timer_next t ≡ 0

pub idle-all
    : {z : Sizes} {m : Memory}
    → ((i : ℕ) → i < z.processes → RecordIdle m i)
    → ((c : ℕ) → c < z.cells → CellIdle m c)
    → ((t : ℕ) → t < z.timers + z.processes → TimerIdle m t)
    → IdleOk z m
idle-all r c t = record { records = r; cells = c; timers = t }
