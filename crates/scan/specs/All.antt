-- What is decided of the processes, the Rendez and the locks together.
use Rattle.std.specs.Prelude.{◌≡◌, Bool, IsTrue, ◌↔◌, Some, ℕ, ◌<◌, length}
use Rattle.std.proofs.Common.{◌∙◌}
use Rattle.machine.specs.Machine as machine
use Rattle.layout.specs.Memory.{Memory}
use Rattle.state.specs.Fields as fields
use Rattle.state.specs.Abs.{run_list, waiter_list}
use Rattle.state.specs.Places.{sizes_in}
use Rattle.state.specs.declared.Sizes.{Sizes}
use Rattle.rules.specs.Facts.{count_below, sum_below, HeaderOk, RecordOk, RendezOk, UpOk, RunOk, LockOk, is_ready, is_asleep, is_queueing}
use Rattle.scan.specs.declared.Counts.{Counts}
use Rattle.scan.specs.Tallies.{Counted}
use Rattle.scan.specs.Queues.{RunWalked}
use Rattle.scan.specs.Locks.{LocksOk}

pub record QueuesOk (z : machine.Sizes) (m : Memory) : Type 0 where
  pub run : RunOk z m
  pub all_ready : length (run_list z m) ≡ count_below z.processes (is_ready m)
  pub locks : (q : ℕ) → q < z.locks → LockOk z m q
  pub all_queueing : sum_below z.locks (λ q. length (waiter_list z m q)) ≡ count_below z.processes (is_queueing m)
  pub asleep : m fields.asleep_count 0 ≡ count_below z.processes (is_asleep m)

-- The first nine of `Facts`.
pub record ProcessesOk (z : machine.Sizes) (m : Memory) : Type 0 where
  pub header : HeaderOk m
  pub records : (i : ℕ) → i < z.processes → RecordOk z m i
  pub rendez : (r : ℕ) → r < z.rendez → RendezOk m r
  pub up : UpOk m
  pub run : RunOk z m
  pub all_ready : length (run_list z m) ≡ count_below z.processes (is_ready m)
  pub locks : (q : ℕ) → q < z.locks → LockOk z m q
  pub all_queueing : sum_below z.locks (λ q. length (waiter_list z m q)) ≡ count_below z.processes (is_queueing m)
  pub asleep : m fields.asleep_count 0 ≡ count_below z.processes (is_asleep m)

-- A test of the queues that are left, where the run queue is right and so many stand in it.
pub queues-decide
    : {z : Sizes} {m : Memory} {r : Counts} {b : Bool}
    → Counted z m r
    → RunWalked z m (Some r.ready)
    → LocksOk (sizes_in z) m r.queueing
    → IsTrue b ↔ (m fields.asleep_count 0 ≡ count_below z.processes (is_asleep m))
    → IsTrue b ↔ QueuesOk (sizes_in z) m
queues-decide c k l d = (
  λ t. record {
    run = k.0;
    all_ready = k.1 ∙ c.ready;
    locks = l.each;
    all_queueing = l.sum ∙ c.queueing;
    asleep = d.0 t;
  },
  λ q. d.1 q.asleep,
)

pub queues_of : {z : machine.Sizes} {m : Memory} → ProcessesOk z m → QueuesOk z m
queues_of p = record { run = p.run; all_ready = p.all_ready; locks = p.locks; all_queueing = p.all_queueing; asleep = p.asleep }

pub processes-yes
    : {z : machine.Sizes} {m : Memory}
    → HeaderOk m
    → ((i : ℕ) → i < z.processes → RecordOk z m i)
    → ((r : ℕ) → r < z.rendez → RendezOk m r)
    → UpOk m
    → QueuesOk z m
    → ProcessesOk z m
processes-yes h r d u q =
    record {
      header = h;
      records = r;
      rendez = d;
      up = u;
      run = q.run;
      all_ready = q.all_ready;
      locks = q.locks;
      all_queueing = q.all_queueing;
      asleep = q.asleep;
    }

-- A test of the queues, where the rest is right.
pub processes-decide
    : {z : machine.Sizes} {m : Memory} {b : Bool}
    → HeaderOk m
    → ((i : ℕ) → i < z.processes → RecordOk z m i)
    → ((r : ℕ) → r < z.rendez → RendezOk m r)
    → UpOk m
    → IsTrue b ↔ QueuesOk z m
    → IsTrue b ↔ ProcessesOk z m
processes-decide h r d u q = (λ t. processes-yes h r d u (q.0 t), λ p. q.1 (queues_of p))
