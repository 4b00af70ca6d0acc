-- Steps not done: docs/MACHINE.md, "Refusals", row by row, and the order of tests.
use Rattle.std.specs.Prelude.{if◌then◌else◌, Bool, true, false, not, ◌&&◌, ◌||◌, List, [], ◌∷◌, ℕ, zero, suc, ◌-◌, ◌^◌, eqb, leb, ltb, length}
use Rattle.std.proofs.Math.Option.{Option, none, some}
use Prim.Native.String.{String}
use lib.Text.{eqt}
use Rattle.clock.specs.Counts.{counts_of, zero_duration, shorter}
use Rattle.machine.specs.Basics.{is_some, is_none, is_empty, all}
use Rattle.machine.specs.Machine.{Machine, Sizes, Resume, nothing, in_sleep, in_tsleep, in_qlock, in_wait, process, sleeper, lock, condition}
use Rattle.machine.specs.Step.{Step, Body, start, rfork, name, sched, yield, sleep, tsleep, wakeup, qlock, canqlock, qunlock, cond, clock, tadd, tdel, intr, due, exit, wait, Fields, numbers, bytes, word_of, fields_of}
use Rattle.machine.specs.Flags.{has, bad, RFPROC}
use Rattle.machine.specs.Exits.{free_record, free_cell, without, message_due}
use Rattle.machine.specs.Timers.{own_timer, is_queued}

-- Whether a step's word is among these.
unfoldable pub one_of : List String → Body → Bool
one_of [] b = false
one_of (w ∷ ws) b = eqt (word_of b) w || one_of ws b

-- A test on n numbers.
abbrev pub Test : ℕ → Type 0
Test zero = Bool
Test (suc n) = ℕ → Test n

-- The test passes on the first n of these numbers; it fails where there are fewer.
unfoldable pub passes : (n : ℕ) → Test n → List ℕ → Bool
passes zero test xs = test
passes (suc n) test [] = false
passes (suc n) test (x ∷ xs) = passes n (test x) xs

-- The numbers among a step's fields; BYTES are none.
unfoldable pub numbers_in : Fields → List ℕ
numbers_in (numbers xs) = xs
numbers_in (bytes bs) = []

-- A test on the first n fields of the step with this word, false at any other step.
unfoldable pub on : (n : ℕ) → String → Test n → Body → Bool
on n word test b = eqt (word_of b) word && passes n test (numbers_in (fields_of b))

-- A test on the process that runs, false where none does.
unfoldable pub running : (ℕ → Bool) → Machine → Bool
running test m = elim m.up [ none ↦ false | some i ↦ test i ]

-- BYTES are numbers below 256.
unfoldable pub all_bytes : List ℕ → Bool
all_bytes bs = all (λ b. ltb b 256) bs

-- R, C, Q, T: one Rendez, condition, lock, timer. M: 0 to 2, and 3 (rfork only). KIND and V: 0 or 1. S and NOW: 64 bits, N below
-- 1,000,000,000. F: 32 bits. A name is at most 28 bytes. tadd and tdel not of timer 0.
unfoldable pub in_range : Sizes → Body → Bool
in_range z (start M) = leb M 2
in_range z (rfork F M) = ltb F (2 ^ 32) && leb M 3
in_range z (name BYTES) = leb (length BYTES) 28 && all_bytes BYTES
in_range z sched = true
in_range z yield = true
in_range z (sleep R C) = ltb R z.rendez && ltb C 256
in_range z (tsleep R C S N NOW) = ltb R z.rendez && ltb C 256 && ltb S (2 ^ 64) && ltb N 1000000000 && ltb NOW (2 ^ 64)
in_range z (wakeup R) = ltb R z.rendez
in_range z (qlock Q) = ltb Q z.locks
in_range z (canqlock Q) = ltb Q z.locks
in_range z (qunlock Q) = ltb Q z.locks
in_range z (cond C v) = ltb C 256 && leb v 1
in_range z (clock NOW) = ltb NOW (2 ^ 64)
in_range z (tadd T KIND S N R NOW) =
    leb 1 T && ltb T z.timers && leb KIND 1 && ltb S (2 ^ 64) && ltb N 1000000000 && ltb R z.rendez && ltb NOW (2 ^ 64)
in_range z (tdel T) = leb 1 T && ltb T z.timers
in_range z (intr NOW) = ltb NOW (2 ^ 64)
in_range z due = true
in_range z (exit BYTES) = all_bytes BYTES
in_range z wait = true

-- Whether a lock is held.
unfoldable pub held_lock : Machine → ℕ → Bool
held_lock m q = (lock m q).held

-- A false condition, another asleep there.
unfoldable pub taken : Machine → ℕ → ℕ → Bool
taken m r c = not (condition m c) && is_some (sleeper m r)

-- A sleeper that would sleep again where another is asleep. `tsleep` also returns once its timer has cleared `trend`.
unfoldable pub taken_again : Machine → ℕ → Resume → Bool
taken_again m i nothing = false
taken_again m i (in_sleep r c) = taken m r c
taken_again m i (in_tsleep r c) = is_queued (own_timer i m) m && taken m r c
taken_again m i (in_qlock q) = false
taken_again m i in_wait = false

-- The first of the run queue is such a sleeper.
unfoldable pub head_taken : Machine → Bool
head_taken m = elim m.run [ [] ↦ false | i ∷ rest ↦ taken_again m i (process m i).resume ]

-- A process is to be made by `start`, and by `rfork` with RFPROC.
unfoldable pub makes : Body → Bool
makes b = on 1 "start" (λ M. true) b || on 2 "rfork" (λ F M. has F RFPROC) b

-- NOW below the last accepted one or over 2^51 − 1.
unfoldable pub bad_now : Machine → ℕ → Bool
bad_now m NOW = ltb NOW m.last_now || ltb (2 ^ 51 - 1) NOW

-- Counts over 2^63 − 1.
unfoldable pub long_counts : Machine → ℕ → ℕ → Bool
long_counts m S N = ltb (2 ^ 63 - 1) (counts_of m.sizes.hz S N)

-- A row of the table: its number, and its cause as a test on the machine and the step.
pub record Row : Type 0 where
  pub number : ℕ
  pub cause : Machine → Step → Bool

-- The table. What row 1 speaks of is decided on the bytes of a state before there is a machine, and what of row 2 speaks of no
-- such step and of the message buffer, in `outcome_of`: a Step is a step.
unfoldable pub table : List Row
table =
    -- state not well formed or short
    record { number = 1; cause = λ m s. false }
    -- no such step, field out of range, name over 28, message buffer under 127, tadd or tdel of timer 0
    ∷ record { number = 2; cause = λ m s. not (in_range m.sizes s.body) }
    -- interrupt mark on start, rfork, name, sched, yield, sleep, tsleep, exit, wait, or a held qlock
    ∷ record {
      number = 3;
      cause = λ m s.
          s.marked
          && (one_of ("start" ∷ "rfork" ∷ "name" ∷ "sched" ∷ "yield" ∷ "sleep" ∷ "tsleep" ∷ "exit" ∷ "wait" ∷ []) s.body
          || on 1 "qlock" (held_lock m) s.body);
    }
    -- none running for rfork, name, yield, tsleep, exit, wait, a held qlock, or sleep on a false condition
    ∷ record {
      number = 4;
      cause = λ m s.
          is_none m.up
          && (one_of ("rfork" ∷ "name" ∷ "yield" ∷ "tsleep" ∷ "exit" ∷ "wait" ∷ []) s.body
          || on 1 "qlock" (held_lock m) s.body
          || on 2 "sleep" (λ R C. not (condition m C)) s.body);
    }
    -- false condition, another asleep there (sleep, tsleep, or sched of a sleeper that would sleep again)
    ∷ record {
      number = 5;
      cause = λ m s.
          on 2 "sleep" (taken m) s.body || on 5 "tsleep" (λ R C S N NOW. taken m R C) s.body || on 0 "sched" (head_taken m) s.body;
    }
    -- qunlock of an unheld lock
    ∷ record { number = 6; cause = λ m s. on 1 "qunlock" (λ Q. not (held_lock m Q)) s.body }
    -- zero duration, period under 100 µs
    ∷ record {
      number = 7;
      cause = λ m s.
          on 5 "tsleep" (λ R C S N NOW. zero_duration S N) s.body
          || on 6 "tadd" (λ T KIND S N R NOW. if eqb KIND 0 then zero_duration S N else shorter S N 0 100000) s.body;
    }
    -- NOW below the last accepted one or over 2^51 − 1
    ∷ record {
      number = 8;
      cause = λ m s.
          on 5 "tsleep" (λ R C S N NOW. bad_now m NOW) s.body
          || on 1 "clock" (λ NOW. bad_now m NOW) s.body
          || on 6 "tadd" (λ T KIND S N R NOW. bad_now m NOW) s.body
          || on 1 "intr" (λ NOW. bad_now m NOW) s.body;
    }
    -- counts over 2^63 − 1
    ∷ record {
      number = 9;
      cause = λ m s.
          on 5 "tsleep" (λ R C S N NOW. long_counts m S N) s.body || on 6 "tadd" (λ T KIND S N R NOW. long_counts m S N) s.body;
    }
    -- bad flags (EBADARG)
    ∷ record { number = 10; cause = λ m s. on 2 "rfork" (λ F M. bad F) s.body }
    -- M not 0 on start, or on rfork with RFPROC (ENOVMEM)
    ∷ record {
      number = 11;
      cause = λ m s. on 1 "start" (λ M. not (eqb M 0)) s.body || on 2 "rfork" (λ F M. has F RFPROC && not (eqb M 0)) s.body;
    }
    -- a process to be made, no free record
    ∷ record { number = 12; cause = λ m s. makes s.body && is_none (free_record m) }
    -- message due, no free cell, the exiting process's own cells counted free; an empty message takes one too
    ∷ record {
      number = 13;
      cause = λ m s. on 0 "exit" (running (λ i. message_due i m && is_none (free_cell (without i m))) m) s.body;
    }
    -- wait record with qwaitr held (EINUSE)
    ∷ record { number = 14; cause = λ m s. on 0 "wait" (running (λ i. waiting (process m i).resume) m) s.body }
    -- nchild 0, no exits (ENOCHILD)
    ∷ record {
      number = 15;
      cause = λ m s. on 0 "wait" (running (λ i. eqb (process m i).nchild 0 && is_empty (process m i).exits) m) s.body;
    }
    -- a process to be made, next pid is 2^64 − 1
    ∷ record { number = 16; cause = λ m s. makes s.body && eqb m.next_pid (2 ^ 64 - 1) }
    -- sched while one runs
    ∷ record { number = 17; cause = λ m s. on 0 "sched" (is_some m.up) s.body }
    ∷ []
  where
    -- qwaitr is held exactly while its process has a `wait` not returned
    waiting : Resume → Bool
    waiting nothing = false
    waiting (in_sleep r c) = false
    waiting (in_tsleep r c) = false
    waiting (in_qlock q) = false
    waiting in_wait = true

-- Order: 1, 2, 3, 17, 10, 4, 7, 8, 9, 5, 6, 12, 16, 11, 13, 14, 15. Only `sleep` tests 5 before 4.
unfoldable pub order : Body → List ℕ
order b =
    if one_of ("sleep" ∷ []) b
    then 1 ∷ 2 ∷ 3 ∷ 17 ∷ 10 ∷ 5 ∷ 4 ∷ 7 ∷ 8 ∷ 9 ∷ 6 ∷ 12 ∷ 16 ∷ 11 ∷ 13 ∷ 14 ∷ 15 ∷ []
    else 1 ∷ 2 ∷ 3 ∷ 17 ∷ 10 ∷ 4 ∷ 7 ∷ 8 ∷ 9 ∷ 5 ∷ 6 ∷ 12 ∷ 16 ∷ 11 ∷ 13 ∷ 14 ∷ 15 ∷ []

-- Whether the cause with this number in the table holds.
unfoldable pub holds : ℕ → List Row → Machine → Step → Bool
holds n [] m s = false
holds n (r ∷ rs) m s = elim (eqb r.number n) [ true ↦ r.cause m s | false ↦ holds n rs m s ]

-- The first number of the order whose cause holds.
unfoldable pub first_of : List ℕ → Machine → Step → Option ℕ
first_of [] m s = none
first_of (n ∷ ns) m s = elim (holds n table m s) [ true ↦ some n | false ↦ first_of ns m s ]

-- The number that a step meets, if any: its causes are tested in its order.
unfoldable pub refusal : Machine → Step → Option ℕ
refusal m s = first_of (order s.body) m s

-- All of this module, for whoever computes with it.
unfoldable pub open_table : Unit {0}
unfolding one_of passes numbers_in on running all_bytes in_range held_lock taken taken_again head_taken makes bad_now long_counts table order holds first_of refusal
open_table = tt
