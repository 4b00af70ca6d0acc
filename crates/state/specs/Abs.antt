-- The machine that the bytes of a state hold.
use Rattle.std.specs.Prelude.{if◌then◌else◌, Bool, not, ◌&&◌, List, [], ◌∷◌, map, ℕ, zero, suc, ◌+◌, ◌*◌, eqb}
use Rattle.std.proofs.Math.Option.{Option, none, some}
use Rattle.memory.specs.Le.{le}
use Rattle.machine.specs.Machine.{Sizes, Resume, nothing, in_sleep, in_tsleep, in_qlock, in_wait, Exit, Process, Machine, free}
use Rattle.layout.specs.Memory.{Memory, mem}
use Rattle.chain.specs.Links.{walk}
use Rattle.state.specs.Fields as fields

-- The sizes that the header names.
unfoldable pub sizes_of : List ℕ → Sizes
sizes_of s =
    record {
      processes = le 2 s 16;
      rendez = le 2 s 18;
      locks = le 2 s 20;
      timers = le 2 s 22;
      cells = le 2 s 24;
      hz = le 4 s 12;
    }

-- The memory of a state, at the sizes that its header names.
abbrev pub memory_of : List ℕ → Memory
memory_of s = mem fields.layout1 (fields.counts (sizes_of s)) s

-- The list of the first n values of a function.
unfoldable pub table : {A : Type 0} → ℕ → (ℕ → A) → List A
table zero f = []
table (suc n) f = f zero ∷ table n (λ k. f (suc k))

-- Whom a link names: 0 is nobody, i + 1 is number i.
abbrev pub link_to : ℕ → Option ℕ
link_to zero = none
link_to (suc i) = some i

-- A field that is 0 or 1.
abbrev pub is_set : ℕ → Bool
is_set v = not (eqb v 0)

-- Where a switched-out call goes on: the numbers of its cases.
unfoldable pub resume_number : Resume → ℕ
resume_number nothing = 0
resume_number (in_sleep r c) = 1
resume_number (in_tsleep r c) = 2
resume_number (in_qlock q) = 3
resume_number in_wait = 4

unfoldable pub resume_of : (kind object condition : ℕ) → Resume
resume_of kind object condition =
    if eqb kind 1
    then in_sleep object condition
    else if eqb kind 2 then in_tsleep object condition else if eqb kind 3 then in_qlock object else if eqb kind 4 then in_wait else nothing

-- The queues of processes, timers and exits, as lists.
unfoldable pub run_list : Sizes → Memory → List ℕ
run_list z m = walk z.processes (m fields.next) (m fields.run_head 0)

unfoldable pub waiter_list : Sizes → Memory → ℕ → List ℕ
waiter_list z m q = walk z.processes (m fields.next) (m fields.lock_head q)

unfoldable pub timer_list : Sizes → Memory → List ℕ
timer_list z m = walk (z.timers + z.processes) (m fields.timer_next) (m fields.timer_head 0)

unfoldable pub exit_list : Memory → ℕ → List ℕ
exit_list m i = walk 128 (m fields.cell_next) (m fields.exits i)

-- A process sleeps on its own waitr where it is asleep in a `wait`.
unfoldable pub waits_on : Memory → ℕ → Bool
waits_on m i = eqb (m fields.state_of i) 3 && eqb (m fields.resume_kind i) 4

unfoldable pub exit_at : Memory → ℕ → Exit
exit_at m c =
    record { cell = c; pid = m fields.exit_pid c; message = table (m fields.message_length c) (λ j. m fields.message_byte (127 * c + j)) }

-- A record; a free one holds nothing, whatever its bytes.
unfoldable pub process_at : Memory → ℕ → Process
process_at m i =
    if eqb (m fields.pid i) 0
    then free
    else record {
      pid = m fields.pid i;
      name = table 28 (λ j. m fields.name_byte (28 * i + j));
      parent = m fields.parent i;
      nchild = m fields.nchild i;
      exits = map (exit_at m) (exit_list m i);
      quantum_end = m fields.quantum_end i;
      resume = resume_of (m fields.resume_kind i) (m fields.resume_object i) (m fields.resume_condition i);
      on_waitr = waits_on m i;
    }

unfoldable pub machine_of : Sizes → Memory → Machine
machine_of z m =
    record {
      sizes = z;
      next_pid = m fields.next_pid 0;
      ticks = m fields.ticks 0;
      last_now = m fields.last_now 0;
      up = link_to (m fields.up 0);
      run = run_list z m;
      processes = table z.processes (process_at m);
      sleepers = table z.rendez (λ r. link_to (m fields.sleeper_of r));
      locks = table z.locks (λ q. record { held = is_set (m fields.held q); waiters = waiter_list z m q });
      settings = table z.timers (λ t. record { period = m fields.period t; rendez = m fields.timer_rendez t });
      queued = map (λ t. record { timer = t; deadline = m fields.deadline t }) (timer_list z m);
      conditions = table 256 (λ c. is_set (m fields.condition_bit c));
    }

unfoldable pub abs : List ℕ → Machine
abs s = machine_of (sizes_of s) (memory_of s)
