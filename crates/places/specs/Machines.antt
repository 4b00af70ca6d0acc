-- What of the machine depends on where processes are: its records by whether they sleep on their waitr, and its locks by their waiters.
use Rattle.std.specs.Prelude.{if◌then◌else◌, ◌≡◌, refl, Bool, List, map, ℕ, ◌+◌, ◌*◌, eqb}
use Rattle.std.proofs.Common.{ap}
use Rattle.machine.specs.Machine.{Process, Lock, free}
use Rattle.layout.specs.Memory.{Memory}
use Rattle.state.specs.Fields as fields
use Rattle.state.specs.Abs.{table, is_set, resume_of, exit_list, waits_on, exit_at, process_at}
use Rattle.holds.specs.Parts.{table_same}

-- Record i with its waitr told apart.
abbrev pub record_with : Memory → ℕ → Bool → Process
record_with m i b =
    if eqb (m fields.pid i) 0
    then free
    else record {
      pid = m fields.pid i;
      name = table 28 (λ j. m fields.name_byte (28 * i + j));
      parent = m fields.parent i;
      nchild = m fields.nchild i;
      exits = map (exit_at m) (exit_list m i);
      quantum_end = m fields.quantum_end i;
      resume = resume_of (m fields.resume_kind i) (m fields.resume_object i) (m fields.resume_condition i);
      on_waitr = b;
    }

pub record_with_lem : (m : Memory) (i : ℕ) → process_at m i ≡ record_with m i (waits_on m i)
unfolding process_at
record_with_lem m i = refl

-- A lock with its waiters.
abbrev pub lock_with : ℕ → List ℕ → Lock
lock_with h xs = record { held = is_set h; waiters = xs }

pub locks-same
    : (n : ℕ) (h : ℕ → ℕ) (f g : ℕ → List ℕ)
    → ((q : ℕ) → g q ≡ f q)
    → table n (λ q. lock_with (h q) (g q)) ≡ table n (λ q. lock_with (h q) (f q))
locks-same n h f g e = table_same n (λ q. lock_with (h q) (f q)) (λ q. lock_with (h q) (g q)) (λ q l. ap (lock_with (h q)) (e q))
