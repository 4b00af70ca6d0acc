-- What follows where the record of one process alone differs: of the other records, of the machine, and of what is kept.
use Rattle.std.specs.Prelude.{if◌then◌else◌, ◌≡◌, ℕ, ◌+◌, ◌*◌, ◌<◌, map}
use Rattle.std.proofs.Math.Path.{refl, ap}
use Rattle.std.proofs.Common.{◌∙◌, arith}
use Rattle.std.proofs.Math.Dec.{eqb}
use Rattle.machine.specs.Basics.{elem}
use Rattle.machine.specs.Machine.{Sizes, free, process, asleep}
use Rattle.machine.specs.Update.{with_process}
use Rattle.lists.specs.Lists.{bit}
use Rattle.layout.specs.Memory.{Memory}
use Rattle.chain.specs.Links.{walk}
use Rattle.state.specs.Fields as fields
use Rattle.state.specs.Abs.{table, link_to, is_set, resume_of, run_list, waiter_list, timer_list, exit_list, waits_on, exit_at, process_at, machine_of}
use Rattle.state.specs.Tables.{table-length}
use Rattle.holds.specs.Holds.{Header, Timed}
use Rattle.holds.specs.Parts.{table_same, table-set, asleep-process}
use Rattle.holds.specs.Frames.{header-same, timed-same}
use Rattle.records.specs.Else.{part_of, Else}

module _ {m m' : Memory} {i : ℕ} (e : Else m m' i) where
  -- The other records.
  pub else_process : (j : ℕ) → (i ≡ j → ⊥) → process_at m' j ≡ process_at m j
  unfolding process_at exit_list exit_at waits_on part_of elem
  else_process j ne =
      λ k.
      if eqb (e.other fields.pid j refl ne k) 0
      then free
      else record {
        pid = e.other fields.pid j refl ne k;
        name =
            table_same 28 (λ x. m fields.name_byte (28 * j + x)) (λ x. m' fields.name_byte (28 * j + x)) (λ x l. e.names j x ne l) k;
        parent = e.other fields.parent j refl ne k;
        nchild = e.other fields.nchild j refl ne k;
        exits =
            map
            (λ c.
            record {
              cell = c;
              pid = e.same fields.exit_pid refl k c;
              message = table (e.same fields.message_length refl k c) (λ x. e.same fields.message_byte refl k (127 * c + x));
            })
            (walk 128 (e.same fields.cell_next refl k) (e.other fields.exits j refl ne k));
        quantum_end = e.other fields.quantum_end j refl ne k;
        resume =
            resume_of (e.other fields.resume_kind j refl ne k) (e.other fields.resume_object j refl ne k) (e.other fields.resume_condition j refl ne k);
        on_waitr = waitr ne k;
      }
    where
      waitr : (i ≡ j → ⊥) → waits_on m' j ≡ waits_on m j
      waitr d = rw (e.other fields.state_of j refl d, e.other fields.resume_kind j refl d)

module _ (z : Sizes) {m m' : Memory} {i : ℕ} (e : Else m m' i) where
  -- The machine has that one record for its old one.
  pub else_machine : machine_of z m' ≡ with_process i (process_at m' i) (machine_of z m)
  unfolding machine_of with_process run_list waiter_list timer_list part_of elem
  else_machine =
      λ k. record {
        sizes = z;
        next_pid = e.same fields.next_pid refl k 0;
        ticks = e.same fields.ticks refl k 0;
        last_now = e.same fields.last_now refl k 0;
        up = link_to (e.same fields.up refl k 0);
        run = walk z.processes (e.same fields.next refl k) (e.same fields.run_head refl k 0);
        processes = table-set z.processes (process_at m) (process_at m') i (process_at m' i) refl (λ j l ne. else_process e j ne) k;
        sleepers = table z.rendez (λ r. link_to (e.same fields.sleeper_of refl k r));
        locks =
            table z.locks
            (λ q.
            record {
              held = is_set (e.same fields.held refl k q);
              waiters = walk z.processes (e.same fields.next refl k) (e.same fields.lock_head refl k q);
            });
        settings = table z.timers (λ t. record { period = e.same fields.period refl k t; rendez = e.same fields.timer_rendez refl k t });
        queued =
            map (λ t. record { timer = t; deadline = e.same fields.deadline refl k t })
            (walk (z.timers + z.processes) (e.same fields.timer_next refl k) (e.same fields.timer_head refl k 0));
        conditions = table 256 (λ c. is_set (e.same fields.condition_bit refl k c));
      }

  -- As many are asleep, where the process is on its waitr as it was.
  pub else-asleep
      : i < z.processes
      → (process_at m' i).on_waitr ≡ (process (machine_of z m) i).on_waitr
      → asleep (machine_of z m') ≡ asleep (machine_of z m)
  unfolding machine_of
  else-asleep l w =
      ap asleep else_machine
      ∙ omega (arith, asleep-process (machine_of z m) i (process_at m' i) (omega (arith, l, table-length z.processes (process_at m))), ap bit w)

  pub else_header : Header z m → Header z m'
  unfolding part_of elem
  else_header =
      header-same (e.same fields.mark refl) (e.same fields.layout_number refl) (e.same fields.size_processes refl) (e.same fields.size_rendez refl) (e.same fields.size_locks refl) (e.same fields.size_timers refl) (e.same fields.size_cells refl) (e.same fields.hz refl)

  pub else_timed : Timed z m → Timed z m'
  unfolding part_of elem
  else_timed = timed-same (e.same fields.timer_next refl) (e.same fields.timer_head refl) (e.same fields.is_queued refl)
