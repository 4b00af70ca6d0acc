-- Each group of what a memory keeps rests on a few fields: where they are as they were, it is kept.
use Rattle.std.specs.Prelude.{◌≡◌, ℕ, suc}
use Rattle.std.proofs.Common.{sym, ap, ◌∙◌}
use Rattle.machine.specs.Machine.{Sizes, asleep}
use Rattle.machine.specs.Good.{Each}
use Rattle.layout.specs.Memory.{Memory}
use Rattle.chain.specs.Lists.{all_map}
use Rattle.state.specs.Fields as fields
use Rattle.state.specs.Abs.{run_list, waiter_list, timer_list, exit_list, machine_of}
use Rattle.state.specs.WellFormed.{Cells, Ages, Index, age_list}
use Rattle.rules.specs.Facts.{SleepsHere, WaitsHere}
use Rattle.holds.specs.Holds.{Header, Placed, Timed}

module _ {z : Sizes} {m m' : Memory} where
  pub header-same
      : (mark : m' fields.mark ≡ m fields.mark)
      → (layout : m' fields.layout_number ≡ m fields.layout_number)
      → (processes : m' fields.size_processes ≡ m fields.size_processes)
      → (rendez : m' fields.size_rendez ≡ m fields.size_rendez)
      → (locks : m' fields.size_locks ≡ m fields.size_locks)
      → (timers : m' fields.size_timers ≡ m fields.size_timers)
      → (cells : m' fields.size_cells ≡ m fields.size_cells)
      → (hz : m' fields.hz ≡ m fields.hz)
      → Header z m
      → Header z m'
  header-same a b c d e f g i h =
      record {
        mark = ap (λ (x : ℕ → ℕ). x 0) a ∙ h.mark;
        layout = ap (λ (x : ℕ → ℕ). x 0) b ∙ h.layout;
        processes = ap (λ (x : ℕ → ℕ). x 0) c ∙ h.processes;
        rendez = ap (λ (x : ℕ → ℕ). x 0) d ∙ h.rendez;
        locks = ap (λ (x : ℕ → ℕ). x 0) e ∙ h.locks;
        timers = ap (λ (x : ℕ → ℕ). x 0) f ∙ h.timers;
        cells = ap (λ (x : ℕ → ℕ). x 0) g ∙ h.cells;
        hz = ap (λ (x : ℕ → ℕ). x 0) i ∙ h.hz;
      }

  pub timed-same
      : (next : m' fields.timer_next ≡ m fields.timer_next)
      → (head : m' fields.timer_head ≡ m fields.timer_head)
      → (flag : m' fields.is_queued ≡ m fields.is_queued)
      → Timed z m
      → Timed z m'
  unfolding timer_list
  timed-same a b c t = record { chain = rw (a, b) t.chain; queued = rw (a, b, c) t.queued }

  pub cells_same
      : (pid : m' fields.pid ≡ m fields.pid)
      → (next : m' fields.cell_next ≡ m fields.cell_next)
      → (exits : m' fields.exits ≡ m fields.exits)
      → (nexits : m' fields.nexits ≡ m fields.nexits)
      → (owner : m' fields.owner ≡ m fields.owner)
      → Cells z m
      → Cells z m'
  unfolding exit_list
  cells_same a b c d e k =
      record {
        chain = rw (a, b, c) k.chain;
        counted = rw (a, b, c, d) k.counted;
        owned = rw (a, b, c, e) k.owned;
        owner = rw (a, b, c, e) k.owner;
      }

  pub ages-same
      : (pid : m' fields.pid ≡ m fields.pid)
      → (younger : m' fields.younger ≡ m fields.younger)
      → (older : m' fields.older ≡ m fields.older)
      → (oldest : m' fields.oldest ≡ m fields.oldest)
      → (youngest : m' fields.youngest ≡ m fields.youngest)
      → (parent : m' fields.parent ≡ m fields.parent)
      → (parent_at : m' fields.parent_at ≡ m fields.parent_at)
      → Ages z m
      → Ages z m'
  unfolding age_list
  ages-same a b c d e f g k =
      record {
        younger = rw (b, d, e) k.younger;
        older = rw (b, c, d, e) k.older;
        rising = rw (a, b, d) k.rising;
        living = rw (a, b, d) k.living;
        parent_at = rw (a, f, g) k.parent_at;
        orphan = rw (a, f, g) k.orphan;
      }

  pub index_same
      : (pid : m' fields.pid ≡ m fields.pid)
      → (owner : m' fields.owner ≡ m fields.owner)
      → (records : m' fields.used_records ≡ m fields.used_records)
      → (full_records : m' fields.full_records ≡ m fields.full_records)
      → (cells : m' fields.used_cells ≡ m fields.used_cells)
      → (full_words : m' fields.full_cell_words ≡ m fields.full_cell_words)
      → (full_cells : m' fields.full_cells ≡ m fields.full_cells)
      → Index z m
      → Index z m'
  index_same a b c d e f g k =
      record {
        records = rw (a, c) k.records;
        full_records = rw (c, d) k.full_records;
        cells = rw (b, e) k.cells;
        full_cell_words = rw (e, f) k.full_cell_words;
        full_cells = rw (f, g) k.full_cells;
      }

  pub placed_same
      : (n : ℕ)
      → (pid : m' fields.pid ≡ m fields.pid)
      → (state : m' fields.state_of ≡ m fields.state_of)
      → (kind : m' fields.resume_kind ≡ m fields.resume_kind)
      → (object : m' fields.resume_object ≡ m fields.resume_object)
      → (condition : m' fields.resume_condition ≡ m fields.resume_condition)
      → (up : m' fields.up ≡ m fields.up)
      → (next : m' fields.next ≡ m fields.next)
      → (head : m' fields.run_head ≡ m fields.run_head)
      → (tail : m' fields.run_tail ≡ m fields.run_tail)
      → (sleeper : m' fields.sleeper_of ≡ m fields.sleeper_of)
      → (lock_head : m' fields.lock_head ≡ m fields.lock_head)
      → (lock_tail : m' fields.lock_tail ≡ m fields.lock_tail)
      → (count : m' fields.asleep_count ≡ m fields.asleep_count)
      → (machines : asleep (machine_of z m') ≡ asleep (machine_of z m))
      → Placed z m n
      → Placed z m' n
  unfolding run_list waiter_list
  placed_same n pid state kind object condition up next head tail sleeper lock_head lock_tail count machines p =
      record {
        free = rw (pid, state) p.free;
        used = rw (pid, state) p.used;
        running = rw (up, state) p.running;
        run = record { queue = rw (next, head, tail) p.run.queue; ready = rw (next, head, state) p.run.ready };
        rendez = λ r i e. sleeps r i (sym (ap (λ (x : ℕ → ℕ). x r) sleeper) ∙ e);
        locks = rw (next, lock_head, lock_tail) p.locks;
        waiting = λ q. waits q;
        asleep = rw (count, machines) p.asleep;
        unlinked = rw (state, kind, next) p.unlinked;
        blanks = rw (pid, kind, object, condition) p.blanks;
      }
    where
      sleeps : (r i : ℕ) → m fields.sleeper_of r ≡ suc i → SleepsHere m' r i
      sleeps r i e =
          let h : SleepsHere m r i = p.rendez r i e in
          record { state = rw state h.state; kind = rw kind h.kind; object = rw object h.object }

      waits : (q : ℕ) → Each (WaitsHere m' q) (waiter_list z m' q)
      waits q =
          rw (next, lock_head)
          (all_map (λ i (h : WaitsHere m q i). record { state = rw state h.state; kind = rw kind h.kind; object = rw object h.object })
          (waiter_list z m q) (p.waiting q))
