-- What `exits::add` asks and ensures.
use Rattle.std.specs.Prelude.{◌≡◌, List, ◌∷◌, ℕ, ◌<◌}
use Rattle.std.proofs.Math.Option.{some, get_or}
use Rattle.machine.specs.Machine.{process}
use Rattle.machine.specs.Update.{with_process, with_exits}
use Rattle.machine.specs.Exits.{free_cell}
use Rattle.machine.specs.Message.{message}
use Rattle.state.specs.Fields as fields
use Rattle.state.specs.Abs.{exit_list}
use Rattle.state.specs.Places.{sizes_in, mem_in}
use Rattle.state.specs.WellFormed.{Used}
use Rattle.state.specs.declared.Sizes.{Sizes}
use Rattle.holds.specs.Holds.{Holds}
use Rattle.holds.specs.Leftover.{Ceased}
use Rattle.holds.specs.Did.{Did, machine_in, same}
use Rattle.waitq.specs.Change.{Changed}
use Rattle.waitq.specs.Add.{add_stores, add_mem}

-- Every group holds, the record is in use and has room, and there is a free cell.
pub record AddAsks (z : Sizes) (s : List ℕ) (i : ℕ) : Type 0 where
  pub owed : ℕ
  pub holds : Holds z s owed
  pub used : Used (mem_in z s) i
  pub room : mem_in z s fields.nexits i < 128
  pub cell : ℕ
  pub free : free_cell (machine_in z s) ≡ some cell

-- The cell that the message takes.
abbrev pub cell_for : Sizes → List ℕ → ℕ
cell_for z s = get_or (free_cell (machine_in z s)) 0

-- The exit is queued as the newest of i's, as `tell_parent` has it.
pub record AddDone (z : Sizes) (s s' : List ℕ) (i pid : ℕ) (name status : List ℕ) : Type 0 where
  pub did : Did z s s' same same (add_stores z.cells (mem_in z s) i (cell_for z s) pid (message name pid status))
      (add_mem z.cells (mem_in z s) i (cell_for z s) pid (message name pid status))
      (with_process i
      (with_exits
      (record { cell = get_or (free_cell (machine_in z s)) 0; pid = pid; message = message name pid status } ∷ (process (machine_in z s) i).exits)
      (process (machine_in z s) i))
      (machine_in z s))
  pub changed : Changed (sizes_in z) (mem_in z s) (mem_in z s') i (cell_for z s ∷ exit_list (mem_in z s) i)
  pub ceased : Ceased z (mem_in z s) (mem_in z s')
