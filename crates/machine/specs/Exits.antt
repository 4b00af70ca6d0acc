-- Records and message cells, and what an exit leaves for the parent.
use Rattle.std.specs.Prelude.{if◌then◌else◌, Bool, false, not, List, [], ◌∷◌, map, ℕ, ◌-◌, eqb, ltb, length}
use Rattle.std.proofs.Math.Option.{Option, none, some, get_or}
use Rattle.machine.specs.Basics.{elem, concat_map, first_that, highest_below}
use Rattle.machine.specs.Machine.{Machine, Process, Exit, free, process, pid_of, living}
use Rattle.machine.specs.Update.{with_up, with_process, with_nchild, with_exits, with_on_waitr}
use Rattle.machine.specs.Message.{message}
use Rattle.machine.specs.Places.{Woken, ready}

-- The living process with a pid, if there is one. Pid 0 is nobody's.
unfoldable pub found : ℕ → Machine → Option ℕ
found pid m = if eqb pid 0 then none else first_that (λ (p : Process). eqb p.pid pid) m.processes

-- A new process takes the free record of the highest number.
unfoldable pub free_record : Machine → Option ℕ
free_record m = highest_below (length m.processes) (λ i. not (living (process m i)))

-- The cells that messages take.
unfoldable pub cells_used : Machine → List ℕ
cells_used m = concat_map (λ (p : Process). map (λ (e : Exit). e.cell) p.exits) m.processes

-- A message takes the free cell of the highest number.
unfoldable pub free_cell : Machine → Option ℕ
free_cell m = let used = cells_used m in highest_below m.sizes.cells (λ c. not (elem c used))

-- The machine once the process i has gone: its record and its message cells are free, and it runs no more.
unfoldable pub without : ℕ → Machine → Machine
without i m = with_up none (with_process i free m)

-- Exits newest first, at most 128.
unfoldable pub has_room : Process → Bool
has_room p = ltb (length p.exits) 128

-- A message is due where the parent of process i lives and holds fewer than 128 exits.
unfoldable pub message_due : ℕ → Machine → Bool
message_due i m = go (found (process m i).parent m)
  where
    go : Option ℕ → Bool
    go none = false
    go (some parent) = has_room (process m parent)

-- waitr woken: the process j is readied where it sleeps on its own waitr.
unfoldable pub wake_waitr : ℕ → Machine → Woken
wake_waitr j m =
    if (process m j).on_waitr
    then record { machine = ready j (with_process j (with_on_waitr false (process m j)) m); readied = pid_of m j ∷ [] }
    else record { machine = m; readied = [] }

-- `tell_parent`: a dead parent is left untouched; else nchild drops by one, and below 128 the exit is queued and waitr woken.
-- Here child is the process that has gone from the machine m.
unfoldable pub tell_parent : Process → List ℕ → Machine → Woken
tell_parent child status m = go (found child.parent m)
  where
    queue_exit : ℕ → Process → Woken
    queue_exit j parent =
        wake_waitr j
        (with_process j
        (with_exits
        (record { cell = get_or (free_cell m) 0; pid = child.pid; message = message child.name child.pid status } ∷ parent.exits)
        parent)
        m)

    fewer : ℕ → Process → Woken
    fewer j parent = if has_room parent then queue_exit j parent else record { machine = with_process j parent m; readied = [] }

    go : Option ℕ → Woken
    go none = record { machine = m; readied = [] }
    go (some j) = fewer j (with_nchild ((process m j).nchild - 1) (process m j))

-- All of this module, for whoever computes with it.
unfoldable pub open_exits : Unit {0}
unfolding found free_record cells_used free_cell without has_room message_due wake_waitr tell_parent
open_exits = tt
