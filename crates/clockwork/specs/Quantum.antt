-- The quantum of a process.
use Rattle.std.specs.Prelude.{◌≡◌, refl, List, [], ◌∷◌, ℕ, ◌+◌, ◌≤◌, ◌<◌}
use Rattle.std.proofs.Common.{sym, ap, ◌∙◌, arith, eq-eqb, ne_eqb}
use Rattle.machine.specs.Machine.{Machine, Process, process}
use Rattle.machine.specs.Update.{with_process, with_quantum_end}
use Rattle.layout.specs.Memory.{Memory, upd}
use Rattle.layout.specs.Table.{slot}
use Rattle.layout.specs.Writes.{Write, to}
use Rattle.state.specs.Fields as fields
use Rattle.state.specs.Abs.{run_list, waiter_list, timer_list, exit_list, waits_on, exit_at, process_at, machine_of}
use Rattle.state.specs.WellFormed.{Used}
use Rattle.state.specs.Places.{sizes_in, mem_in, PutIn}
use Rattle.state.specs.declared.Sizes.{Sizes}
use Rattle.exact.specs.Bounds.{InBounds}
use Rattle.exact.specs.Parts.{used_at, used_at_lem, used_of}
use Rattle.holds.specs.Whole.{holds-bounds}
use Rattle.holds.specs.Parts.{table-set}
use Rattle.holds.specs.Use.{used_by, none, more, before}
use Rattle.timer.specs.Only.{Owing}
use Rattle.timer.specs.Del.{machine_in}
use Rattle.clockwork.specs.Stores.{Became, became}

-- The quantum of record i ends ten ticks from now.
abbrev pub quantum_stores : Memory → ℕ → List Write
quantum_stores m i = to fields.quantum_end i (m fields.ticks 0 + 10) ∷ []

abbrev pub dispatched : ℕ → Machine → Machine
dispatched i M = with_process i (with_quantum_end (M.ticks + 10) (process M i)) M

-- There is a process in record i, and the ticks have room.
pub record QuantumAsks (z : Sizes) (s : List ℕ) (i : ℕ) : Type 0 where
  pub owing : Owing z s
  pub index : i < z.processes
  pub used : Used (mem_in z s) i
  pub room : mem_in z s fields.ticks 0 + 10 ≤ 18446744073709551615

-- The records then.
record_other : (m : Memory) (i v k : ℕ) → (i ≡ k → ⊥) → process_at (upd m fields.quantum_end i v) k ≡ process_at m k
unfolding process_at exit_at exit_list waits_on
record_other m i v k ne = rw (ne_eqb i k ne)

record_set : (m : Memory) (i v : ℕ) → Used m i → process_at (upd m fields.quantum_end i v) i ≡ with_quantum_end v (used_at m i)
unfolding with_quantum_end exit_at exit_list waits_on
record_set m i v u = used_at_lem (upd m fields.quantum_end i v) i u ∙ rw (eq-eqb i i refl)

machine-quantum
    : (z : Sizes) (m : Memory) (i v : ℕ)
    → InBounds (sizes_in z) m
    → Used m i
    → machine_of (sizes_in z) (upd m fields.quantum_end i v)
    ≡ with_process i (with_quantum_end v (process (machine_of (sizes_in z) m) i)) (machine_of (sizes_in z) m)
unfolding machine_of with_process run_list waiter_list timer_list
machine-quantum z m i v b u =
    let M : Machine = machine_of (sizes_in z) m in
    ap (λ (x : List Process). record {
      sizes = M.sizes;
      next_pid = M.next_pid;
      ticks = M.ticks;
      last_now = M.last_now;
      up = M.up;
      run = M.run;
      processes = x;
      sleepers = M.sleepers;
      locks = M.locks;
      settings = M.settings;
      queued = M.queued;
      conditions = M.conditions;
    })
    (table-set z.processes (process_at m) (process_at (upd m fields.quantum_end i v)) i (with_quantum_end v (process M i))
    (record_set m i v u ∙ ap (with_quantum_end v) (sym (used_of b i u))) (λ k l ne. record_other m i v k ne))

pub quantum-set
    : {z : Sizes} {s s' : List ℕ} {i v : ℕ}
    → QuantumAsks z s i
    → v ≡ mem_in z s fields.ticks 0
    → PutIn z s s' (slot 1 16 8) i (v + 10)
    → Became z s s' (quantum_stores (mem_in z s) i) (dispatched i (machine_in z s))
unfolding machine_of used_by
quantum-set {z} {s} {s'} {i} {v} a e p =
    became a.owing (record { bytes = rw e at p.bytes; long = p.long }) (omega (arith, a.index, a.room)) (refl, tt) (more (before a.used) none)
    (machine-quantum z (mem_in z s) i (mem_in z s fields.ticks 0 + 10) (holds-bounds a.owing.holds) a.used)
