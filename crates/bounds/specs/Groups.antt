-- Groups of columns, each tested by one function.
use Rattle.std.specs.Prelude.{List, [], ◌∷◌, ℕ, ◌+◌, ◌-◌}
use Rattle.state.specs.declared.Sizes.{Sizes}
use Rattle.bounds.specs.Column.{Column, column, Within}

unfoldable pub All : Sizes → List ℕ → List Column → Type 0
All z s [] = Unit {0}
All z s (c ∷ cs) = Within z s c × All z s cs

-- up, run_head, run_tail, timer_head
abbrev pub heads : Sizes → List Column
heads z = column 0 26 2 1 z.processes ∷ column 0 28 2 1 z.processes ∷ column 0 30 2 1 z.processes ∷ column 0 34 2 1 (z.timers + z.processes) ∷ []

-- oldest, youngest
abbrev pub ends : Sizes → List Column
ends z = column 0 36 2 1 z.processes ∷ column 0 38 2 1 z.processes ∷ []

-- next, older, younger, parent_at
abbrev pub links : Sizes → List Column
links z =
    column 1 24 2 z.processes z.processes
    ∷ column 1 26 2 z.processes z.processes
    ∷ column 1 28 2 z.processes z.processes
    ∷ column 1 30 2 z.processes z.processes
    ∷ []

-- exits, nexits, state_of, resume_kind
abbrev pub states : Sizes → List Column
states z =
    column 1 34 2 z.processes z.cells
    ∷ column 1 36 1 z.processes 128
    ∷ column 1 37 1 z.processes 3
    ∷ column 1 38 1 z.processes 4
    ∷ []

-- sleeper_of, held, lock_head, lock_tail
abbrev pub locks : Sizes → List Column
locks z =
    column 3 0 2 z.rendez z.processes
    ∷ column 4 0 2 z.locks 1
    ∷ column 4 2 2 z.locks z.processes
    ∷ column 4 4 2 z.locks z.processes
    ∷ []

-- period, timer_rendez, timer_next, is_queued
abbrev pub timers : Sizes → List Column
timers z =
    column 5 8 8 (z.timers + z.processes) 9223372036854775807
    ∷ column 5 16 2 (z.timers + z.processes) (z.rendez - 1)
    ∷ column 12 0 2 (z.timers + z.processes) (z.timers + z.processes)
    ∷ column 5 20 1 (z.timers + z.processes) 1
    ∷ []

-- cell_next, owner, message_length, condition_bit
abbrev pub cells : Sizes → List Column
cells z =
    column 6 8 2 z.cells z.cells
    ∷ column 6 10 2 z.cells z.processes
    ∷ column 6 12 1 z.cells 127
    ∷ column 8 0 1 256 1
    ∷ []
