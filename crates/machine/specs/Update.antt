-- A machine, or a record, with one part replaced and the rest as it was.
use Rattle.std.specs.Prelude.{Bool, List, ℕ, set}
use Rattle.std.proofs.Math.Option.{Option}
use Rattle.machine.specs.Machine.{Resume, Exit, Process, Lock, Setting, Queued, Machine}

unfoldable pub with_next_pid : ℕ → Machine → Machine
with_next_pid v m = record { sizes = m.sizes; next_pid = v; ticks = m.ticks; last_now = m.last_now; up = m.up; run = m.run; processes = m.processes; sleepers = m.sleepers; locks = m.locks; settings = m.settings; queued = m.queued; conditions = m.conditions }

unfoldable pub with_ticks : ℕ → Machine → Machine
with_ticks v m = record { sizes = m.sizes; next_pid = m.next_pid; ticks = v; last_now = m.last_now; up = m.up; run = m.run; processes = m.processes; sleepers = m.sleepers; locks = m.locks; settings = m.settings; queued = m.queued; conditions = m.conditions }

unfoldable pub with_last_now : ℕ → Machine → Machine
with_last_now v m = record { sizes = m.sizes; next_pid = m.next_pid; ticks = m.ticks; last_now = v; up = m.up; run = m.run; processes = m.processes; sleepers = m.sleepers; locks = m.locks; settings = m.settings; queued = m.queued; conditions = m.conditions }

unfoldable pub with_up : Option ℕ → Machine → Machine
with_up v m = record { sizes = m.sizes; next_pid = m.next_pid; ticks = m.ticks; last_now = m.last_now; up = v; run = m.run; processes = m.processes; sleepers = m.sleepers; locks = m.locks; settings = m.settings; queued = m.queued; conditions = m.conditions }

unfoldable pub with_run : List ℕ → Machine → Machine
with_run v m = record { sizes = m.sizes; next_pid = m.next_pid; ticks = m.ticks; last_now = m.last_now; up = m.up; run = v; processes = m.processes; sleepers = m.sleepers; locks = m.locks; settings = m.settings; queued = m.queued; conditions = m.conditions }

unfoldable pub with_process : ℕ → Process → Machine → Machine
with_process i v m = record { sizes = m.sizes; next_pid = m.next_pid; ticks = m.ticks; last_now = m.last_now; up = m.up; run = m.run; processes = set m.processes i v; sleepers = m.sleepers; locks = m.locks; settings = m.settings; queued = m.queued; conditions = m.conditions }

unfoldable pub with_sleeper : ℕ → Option ℕ → Machine → Machine
with_sleeper r v m = record { sizes = m.sizes; next_pid = m.next_pid; ticks = m.ticks; last_now = m.last_now; up = m.up; run = m.run; processes = m.processes; sleepers = set m.sleepers r v; locks = m.locks; settings = m.settings; queued = m.queued; conditions = m.conditions }

unfoldable pub with_lock : ℕ → Lock → Machine → Machine
with_lock q v m = record { sizes = m.sizes; next_pid = m.next_pid; ticks = m.ticks; last_now = m.last_now; up = m.up; run = m.run; processes = m.processes; sleepers = m.sleepers; locks = set m.locks q v; settings = m.settings; queued = m.queued; conditions = m.conditions }

unfoldable pub with_setting : ℕ → Setting → Machine → Machine
with_setting t v m = record { sizes = m.sizes; next_pid = m.next_pid; ticks = m.ticks; last_now = m.last_now; up = m.up; run = m.run; processes = m.processes; sleepers = m.sleepers; locks = m.locks; settings = set m.settings t v; queued = m.queued; conditions = m.conditions }

unfoldable pub with_queued : List Queued → Machine → Machine
with_queued v m = record { sizes = m.sizes; next_pid = m.next_pid; ticks = m.ticks; last_now = m.last_now; up = m.up; run = m.run; processes = m.processes; sleepers = m.sleepers; locks = m.locks; settings = m.settings; queued = v; conditions = m.conditions }

unfoldable pub with_condition : ℕ → Bool → Machine → Machine
with_condition c v m = record { sizes = m.sizes; next_pid = m.next_pid; ticks = m.ticks; last_now = m.last_now; up = m.up; run = m.run; processes = m.processes; sleepers = m.sleepers; locks = m.locks; settings = m.settings; queued = m.queued; conditions = set m.conditions c v }

unfoldable pub with_name : List ℕ → Process → Process
with_name v p = record { pid = p.pid; name = v; parent = p.parent; nchild = p.nchild; exits = p.exits; quantum_end = p.quantum_end; resume = p.resume; on_waitr = p.on_waitr }

unfoldable pub with_nchild : ℕ → Process → Process
with_nchild v p = record { pid = p.pid; name = p.name; parent = p.parent; nchild = v; exits = p.exits; quantum_end = p.quantum_end; resume = p.resume; on_waitr = p.on_waitr }

unfoldable pub with_exits : List Exit → Process → Process
with_exits v p = record { pid = p.pid; name = p.name; parent = p.parent; nchild = p.nchild; exits = v; quantum_end = p.quantum_end; resume = p.resume; on_waitr = p.on_waitr }

unfoldable pub with_quantum_end : ℕ → Process → Process
with_quantum_end v p = record { pid = p.pid; name = p.name; parent = p.parent; nchild = p.nchild; exits = p.exits; quantum_end = v; resume = p.resume; on_waitr = p.on_waitr }

unfoldable pub with_resume : Resume → Process → Process
with_resume v p = record { pid = p.pid; name = p.name; parent = p.parent; nchild = p.nchild; exits = p.exits; quantum_end = p.quantum_end; resume = v; on_waitr = p.on_waitr }

unfoldable pub with_on_waitr : Bool → Process → Process
with_on_waitr v p = record { pid = p.pid; name = p.name; parent = p.parent; nchild = p.nchild; exits = p.exits; quantum_end = p.quantum_end; resume = p.resume; on_waitr = v }

-- All of this module, for whoever computes with it.
unfoldable pub open_update : Unit {0}
unfolding with_next_pid with_ticks with_last_now with_up with_run with_process with_sleeper with_lock with_setting with_queued with_condition with_name with_nchild with_exits with_quantum_end with_resume with_on_waitr
open_update = tt
