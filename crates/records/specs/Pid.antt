-- The next pid is taken: what `next_pid` asks and ensures.
use Rattle.std.specs.Prelude.{◌≡◌, refl, List, [], ◌∷◌, ℕ, suc, ◌+◌, ◌<◌}
use Rattle.std.proofs.Common.{ap, arith, add-one}
use Rattle.machine.specs.Machine as machine
use Rattle.machine.specs.Machine.{asleep, asleep_on}
use Rattle.machine.specs.Update.{with_next_pid}
use Rattle.layout.specs.Table.{slot}
use Rattle.layout.specs.Memory.{Memory, upd}
use Rattle.layout.specs.Writes.{Write, to}
use Rattle.state.specs.Fields as fields
use Rattle.state.specs.Abs.{run_list, waiter_list, timer_list, exit_list, waits_on, exit_at, process_at, machine_of}
use Rattle.state.specs.Places.{sizes_in, mem_in, PutIn}
use Rattle.state.specs.declared.Sizes.{Sizes}
use Rattle.holds.specs.Holds.{Keeps, Holds}
use Rattle.holds.specs.Frames.{placed_same}
use Rattle.holds.specs.Use.{used_by, EachInUse, before}
use Rattle.holds.specs.Did.{Did, did, machine_in, same, wrote_1}
use Rattle.places.specs.Others.{others, keeps_with}

-- The stores and the memory: the next pid rises by one.
abbrev pub pid_stores : Memory → List Write
pid_stores m = to fields.next_pid 0 (suc (m fields.next_pid 0)) ∷ []

abbrev pub pid_mem : Memory → Memory
pid_mem m = upd m fields.next_pid 0 (suc (m fields.next_pid 0))

pub record NextPidAsks (z : Sizes) (s : List ℕ) : Type 0 where
  pub owed : ℕ
  pub holds : Holds z s owed
  pub room : mem_in z s fields.next_pid 0 < 18446744073709551615

-- It was the next pid, and that has risen.
pub record PidTaken (z : Sizes) (s s' : List ℕ) (r : ℕ) : Type 0 where
  pub pid : r ≡ mem_in z s fields.next_pid 0
  pub did : Did z s s' same same (pid_stores (mem_in z s)) (pid_mem (mem_in z s)) (with_next_pid (suc (machine_in z s).next_pid) (machine_in z s))

pid-machine : (z : machine.Sizes) (m : Memory) → machine_of z (pid_mem m) ≡ with_next_pid (suc (machine_of z m).next_pid) (machine_of z m)
unfolding machine_of with_next_pid run_list waiter_list timer_list process_at exit_list exit_at waits_on
pid-machine z m = refl

pid-asleep : (z : machine.Sizes) (m : Memory) → asleep (machine_of z (pid_mem m)) ≡ asleep (machine_of z m)
unfolding with_next_pid asleep asleep_on
pid-asleep z m = ap asleep (pid-machine z m)

pid-keeps : {z : machine.Sizes} {m : Memory} (n : ℕ) → Keeps z m n → Keeps z (pid_mem m) n
pid-keeps {z} {m} n k =
    keeps_with (others k) (placed_same n refl refl refl refl refl refl refl refl refl refl refl refl refl (pid-asleep z m) k.placed)

-- What the code shows.
pub pid-taken
    : {z : Sizes} {s s₁ : List ℕ} {v : ℕ}
    → NextPidAsks z s
    → v ≡ mem_in z s fields.next_pid 0
    → PutIn z s s₁ (slot 0 40 8) 0 (v + 1)
    → PidTaken z s s₁ v
unfolding used_by
pid-taken {z} {s} {s₁} {v} a e q =
    record {
      pid = e;
      did =
          did (pid_stores (mem_in z s)) (pid_mem (mem_in z s)) (with_next_pid (suc (machine_in z s).next_pid) (machine_in z s)) a.holds
          (rw (add-one, e) at (wrote_1 {z = z} {f = fields.next_pid} q).bytes)
          (record { listed = omega arith; index = omega arith }, a.room, tt)
          refl
          pid-keeps
          (pid-machine (sizes_in z) (mem_in z s))
          (EachInUse.more (before (omega arith)) EachInUse.none);
    }
