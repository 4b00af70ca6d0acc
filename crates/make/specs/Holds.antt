-- The memory of a fresh state holds a fresh machine, by the layout's rules.
use Rattle.std.specs.Prelude.{if◌then◌else◌, ◌≡◌, refl, Bool, true, false, not, ◌&&◌, List, [], ◌∷◌, map, ℕ, zero, suc, ◌+◌, ◌*◌, ◌≤◌, ltb, length, replicate, set}
use Rattle.std.proofs.Common.{sym, ◌∙◌, arith, not-suc-le-zero}
use Rattle.std.proofs.lemmas.Bool.{and_right}
use Rattle.std.proofs.Math.Path.{ap, subst}
use Rattle.std.proofs.Math.Option.{none}
use Rattle.clock.specs.Counts.{counts_of}
use Rattle.machine.specs.Basics.{count, concat_map, present, numbers_from}
use Rattle.machine.specs.Machine.{Sizes, Process, Lock, Setting, free, fresh, asleep, asleep_on}
use Rattle.machine.specs.Good.{SizesInRange, Good}
use Rattle.layout.specs.Memory.{Memory, mem}
use Rattle.layout.specs.Writes.{State, updates}
use Rattle.layout.specs.Zeros.{nothing}
use Rattle.chain.specs.Links.{walk, Queue, alter-other}
use Rattle.state.specs.Fields as fields
use Rattle.state.specs.Abs.{sizes_of, memory_of, table, link_to, is_set, run_list, waiter_list, timer_list, process_at, machine_of, abs}
use Rattle.state.specs.WellFormed.{mark_value, Tagged, Queues, Cells, Ages, age_list, bits, in_use, Index, Idle, Rep, WellFormed}
use Rattle.kept.specs.Fresh.{good-fresh}
use Rattle.make.specs.Fresh.{sizes_fit, sizes_for, total_for, fresh_stores, fresh_bytes, make_answer, make_bytes}
use Rattle.make.specs.Answers.{sizes_fit_lem}
use Rattle.make.specs.Made.{fresh-state, fresh_memory_lem, fresh-sizes}

-- the memory of a fresh state
abbrev fresh_memory : Sizes → Memory
fresh_memory z = updates nothing (fresh_stores z)

-- no list hangs at the link 0
walk_none : (n : ℕ) (g : ℕ → ℕ) → walk n g 0 ≡ []
unfolding walk
walk_none zero g = refl
walk_none (suc n) g = refl

-- a table of one value
table_same : {A : Type 0} (n : ℕ) (f : ℕ → A) (a : A) → ((k : ℕ) → f k ≡ a) → table n f ≡ replicate n a
unfolding table
table_same zero f a e = refl
table_same {A} (suc n) f a e = λ j. e zero j ∷ table_same n (λ k. f (suc k)) a (λ k. e (suc k)) j

settings-fresh
    : (n : ℕ) (f : ℕ → Setting) (once : Setting) (tick : Setting)
    → 1 ≤ n
    → f 0 ≡ tick
    → ((k : ℕ) → f (suc k) ≡ once)
    → table n f ≡ set (replicate n once) 0 tick
unfolding table
settings-fresh zero f once tick h e r = absurd (not-suc-le-zero h)
settings-fresh (suc n) f once tick h e r = λ j. e j ∷ table_same n (λ k. f (suc k)) once r j

machine-fresh : (z : Sizes) → SizesInRange z → machine_of z (fresh_memory z) ≡ fresh z
unfolding machine_of fresh fresh_stores run_list waiter_list timer_list process_at
machine-fresh z h = λ j. record {
  sizes = z;
  next_pid = 1;
  ticks = 0;
  last_now = 0;
  up = none;
  run = walk_none z.processes (fresh_memory z fields.next) j;
  processes = table_same z.processes (process_at (fresh_memory z)) free (λ k. refl) j;
  sleepers = table_same z.rendez (λ r. link_to (fresh_memory z fields.sleeper_of r)) none (λ k. refl) j;
  locks =
      table_same z.locks (λ q. record { held = is_set (fresh_memory z fields.held q); waiters = waiter_list z (fresh_memory z) q })
      (record { held = false; waiters = [] })
      (λ k i. record { held = false; waiters = walk_none z.processes (fresh_memory z fields.next) i })
      j;
  settings =
      settings-fresh z.timers
      (λ t. record { period = fresh_memory z fields.period t; rendez = fresh_memory z fields.timer_rendez t })
      (record { period = 0; rendez = 0 })
      (record { period = counts_of z.hz 0 10000000; rendez = 0 })
      h.timers.0
      refl
      (λ k i. record { period = alter-other (λ j. 0) 0 (counts_of z.hz 0 10000000) (suc k) (λ e. omega arith) i; rendez = 0 })
      j;
  queued = map (λ t. record { timer = t; deadline = fresh_memory z fields.deadline t }) (walk_none (z.timers + z.processes) (fresh_memory z fields.timer_next) j);
  conditions = table_same 256 (λ c. is_set (fresh_memory z fields.condition_bit c)) false (λ k. refl) j;
}

-- no bit is set
bits_none : (f : ℕ → Bool) (n : ℕ) → ((k : ℕ) → f k ≡ false) → bits f n ≡ 0
unfolding bits
bits_none f zero e = refl
bits_none f (suc n) e = rw (e n, bits_none f n e)

-- an empty queue
queue-empty : (n : ℕ) (g : ℕ → ℕ) → Queue n g 0 0 (walk n g 0)
queue-empty n g = rw (walk_none n g) (record { chain = record { links = refl; distinct = tt; below = tt }; ends = refl })

-- nobody sleeps in a fresh machine
present-none : (n : ℕ) → present {A = ℕ} (replicate n none) ≡ []
unfolding present
present-none zero = refl
present-none (suc n) = present-none n

numbers-none : (n k : ℕ) → numbers_from k (λ (p : Process). p.on_waitr) (replicate n free) ≡ []
unfolding numbers_from free
numbers-none zero k = refl
numbers-none (suc n) k = numbers-none n (suc k)

waiters-none : (n : ℕ) → concat_map (λ (l : Lock). l.waiters) (replicate n (record { held = false; waiters = [] })) ≡ []
unfolding concat_map
waiters-none zero = refl
waiters-none (suc n) = waiters-none n

asleep-fresh : (z : Sizes) → asleep (fresh z) ≡ 0
unfolding asleep asleep_on fresh
asleep-fresh z = rw (present-none z.rendez, numbers-none z.processes 0, waiters-none z.locks)

queues-fresh : (z : Sizes) → SizesInRange z → Queues z (fresh_memory z)
unfolding fresh_stores run_list waiter_list timer_list count
queues-fresh z h =
    record {
      run = queue-empty z.processes (fresh_memory z fields.next);
      locks = λ q l. queue-empty z.processes (fresh_memory z fields.next);
      timers = (queue-empty (z.timers + z.processes) (fresh_memory z fields.timer_next)).chain;
      queued = λ t. rw (walk_none (z.timers + z.processes) (fresh_memory z fields.timer_next)) refl;
      asleep = sym (ap asleep (machine-fresh z h) ∙ asleep-fresh z);
    }

tagged-fresh : (z : Sizes) → Tagged z (fresh_memory z)
unfolding fresh_stores run_list waiter_list
tagged-fresh z =
    record {
      free = λ i e. refl;
      used = λ i u. absurd (not-suc-le-zero u);
      running = λ i e. absurd (omega (arith, e));
      ready = rw (walk_none z.processes (fresh_memory z fields.next)) tt;
      sleeping = λ r i e. absurd (omega (arith, e));
      queueing = λ q. rw (walk_none z.processes (fresh_memory z fields.next)) tt;
      unlinked = λ i. record { zero = λ _. refl };
      blanks = λ i u. absurd (not-suc-le-zero u);
    }

cells-fresh : (z : Sizes) → Cells z (fresh_memory z)
unfolding fresh_stores
cells-fresh z =
    record {
      chain = λ i u. absurd (not-suc-le-zero u);
      counted = λ i u. absurd (not-suc-le-zero u);
      owned = λ i u. absurd (not-suc-le-zero u);
      owner = λ c i e. absurd (omega (arith, e));
    }

ages-fresh : (z : Sizes) → Ages z (fresh_memory z)
unfolding fresh_stores age_list count
ages-fresh z =
    let g : ℕ → ℕ = fresh_memory z fields.younger in
    record {
      younger = queue-empty z.processes g;
      older = rw (walk_none z.processes g) refl;
      rising = rw (walk_none z.processes g) tt;
      living = λ i. rw (walk_none z.processes g) refl;
      parent_at = λ i j u. absurd (not-suc-le-zero u);
      orphan = λ i u. absurd (not-suc-le-zero u);
    }

index-fresh : (z : Sizes) → Index z (fresh_memory z)
unfolding fresh_stores in_use
index-fresh z =
    record {
      records = λ w l. sym (bits_none (λ b. ltb (64 * w + b) z.processes && false) 64 (λ k. and_right (ltb (64 * w + k) z.processes) false refl));
      full_records = sym (bits_none (λ w. false) 64 (λ k. refl));
      cells = λ w l. sym (bits_none (λ b. ltb (64 * w + b) z.cells && false) 64 (λ k. and_right (ltb (64 * w + k) z.cells) false refl));
      full_cell_words = λ v l. sym (bits_none (λ b. false) 64 (λ k. refl));
      full_cells = sym (bits_none (λ v. false) 16 (λ k. refl));
    }

idle-fresh : (z : Sizes) → Idle (fresh_memory z)
unfolding fresh_stores
idle-fresh z =
    record {
      records = λ i e. record { older = refl; younger = refl; exits = refl; nexits = refl };
      cells = λ c e. refl;
      timers = λ t e. refl;
    }

-- The bytes of a fresh state represent a fresh machine.
module _ (z : Sizes) (h : SizesInRange z) (s : List ℕ) where
  carried : (P : Sizes → Memory → Type 0) → P z (fresh_memory z) → P (sizes_of (fresh_bytes z s)) (memory_of (fresh_bytes z s))
  carried P p =
      subst (λ (y : Sizes). P y (mem fields.layout1 (fields.counts y) (fresh_bytes z s))) (sym (fresh-sizes z h s))
      (subst (λ (m : Memory). P z m) (sym (fresh_memory_lem z h s)) p)

  pub fresh-abs : abs (fresh_bytes z s) ≡ fresh z
  unfolding abs
  fresh-abs =
      ap (λ (y : Sizes). machine_of y (mem fields.layout1 (fields.counts y) (fresh_bytes z s))) (fresh-sizes z h s)
      ∙ ap (machine_of z) (fresh_memory_lem z h s)
      ∙ machine-fresh z h

  pub fresh-rep : Rep (fresh_bytes z s)
  unfolding fresh_stores
  fresh-rep =
      record {
        sizes = subst (λ (y : Sizes). SizesInRange y) (sym (fresh-sizes z h s)) h;
        state = subst (λ (y : Sizes). State fields.layout1 (fields.most_of y) (fields.counts y) (fresh_bytes z s)) (sym (fresh-sizes z h s)) (fresh-state z h s);
        mark = carried (λ y m. m fields.mark 0 ≡ mark_value) refl;
        layout = carried (λ y m. m fields.layout_number 0 ≡ 1) refl;
        queues = carried Queues (queues-fresh z h);
        tagged = carried Tagged (tagged-fresh z);
        cells = carried Cells (cells-fresh z);
        ages = carried Ages (ages-fresh z);
        index = carried Index (index-fresh z);
        idle = carried (λ y m. Idle m) (idle-fresh z);
      }

  -- So it is well formed, since a fresh machine keeps the rules.
  pub fresh-well : WellFormed (fresh_bytes z s)
  fresh-well = record { rep = fresh-rep; good = subst Good (sym fresh-abs) (good-fresh z h) }

-- What `make` made: a well-formed state that holds a fresh machine of these sizes.
pub record Made (p r q k c hz : ℕ) (s : List ℕ) : Type 0 where
  pub well_formed : WellFormed s
  pub machine : abs s ≡ fresh (sizes_for p r q k c hz)

pub make-made : (p r q k c hz : ℕ) (s : List ℕ) → make_answer p r q k c hz s ≡ 0 → Made p r q k c hz (make_bytes p r q k c hz s)
unfolding make_answer make_bytes
make-made p r q k c hz s = go (sizes_fit p r q k c hz) (ltb (length s) (total_for (sizes_for p r q k c hz))) refl
  where
    z : Sizes
    z = sizes_for p r q k c hz

    go
        : (fit short : Bool)
        → sizes_fit p r q k c hz ≡ fit
        → ◌≡◌ {A = ℕ} (if not fit then 2 else if short then 1 else 0) 0
        → Made p r q k c hz (if not fit then s else if short then s else fresh_bytes z s)
    go false short e a = absurd (omega (arith, a))
    go true true e a = absurd (omega (arith, a))
    go true false e a = let h : SizesInRange z = sizes_fit_lem p r q k c hz e in record { well_formed = fresh-well z h s; machine = fresh-abs z h s }
