-- The first of the run queue is taken off, gets its quantum and goes on: what the code shows.
use Rattle.std.specs.Prelude.{◌≡◌, refl, false, List, ◌∷◌, ◌++◌, ℕ, suc, ◌+◌, ◌-◌, ◌≤◌, ◌<◌, length, drop, Result}
use Rattle.std.proofs.Common.{sym, ap, ap₂, subst, ◌∙◌, arith}
use Rattle.machine.specs.Machine as machine
use Rattle.machine.specs.Machine.{Machine, free, process}
use Rattle.machine.specs.Good.{ProcessInRange, ResumeInRange, Each}
use Rattle.machine.specs.Table.{taken_again}
use Rattle.machine.specs.Outcome.{Outcome}
use Rattle.machine.specs.Perform.{resumes, sched_of}
use Rattle.lists.specs.Lists.{each-get}
use Rattle.layout.specs.Memory.{Memory, upd}
use Rattle.chain.specs.Links.{first_link, chain_head}
use Rattle.state.specs.Fields as fields
use Rattle.state.specs.Abs.{run_list, waiter_list, waits_on, machine_of}
use Rattle.state.specs.Places.{sizes_in, mem_in}
use Rattle.state.specs.declared.Sizes.{Sizes}
use Rattle.record.specs.declared.Resume.{Resume}
use Rattle.record.specs.Resumes.{meaning}
use Rattle.exact.specs.Bounds.{inside}
use Rattle.exact.specs.Parts.{resume_at, resume_of_lem}
use Rattle.holds.specs.Holds.{Holds}
use Rattle.holds.specs.Whole.{holds-bounds}
use Rattle.holds.specs.Did.{machine_in}
use Rattle.holds.specs.Use.{same_use, fewer-same}
use Rattle.holds.specs.Touched.{Touched, touched_join, touched-did}
use Rattle.places.specs.Nowhere.{Nowhere}
use Rattle.places.specs.Run.{next_mem}
use Rattle.dat.specs.Run.{NextAsks, NextOne, NextTaken}
use Rattle.clockwork.specs.Quantum.{QuantumAsks, quantum_stores, dispatched}
use Rattle.clockwork.specs.Stores.{Became}
use Rattle.outcome.specs.declared.Reply as code
use Rattle.outcome.specs.declared.Refusal.{Refusal}
use Rattle.outcome.specs.Stepped.{Well}
use Rattle.outcome.specs.Room.{well-room}
use Rattle.proc_sched.specs.Limbo.{Limbo, Went, went-from}
use Rattle.proc_sched.specs.Turning.{turning, taken-same, turning-is, sched_first}
use Rattle.proc_sched.specs.Go.{GoAsks, WentOn}

-- Nobody runs, i is the first in line, its call is c, and it would not sleep where another does; there is room for a message.
pub record TurnAsks (z : Sizes) (s : List ℕ) (i : ℕ) (c : Resume) (b : List ℕ) : Type 0 where
  pub well : Well z s
  pub idle : mem_in z s fields.up 0 ≡ 0
  pub first : mem_in z s fields.run_head 0 ≡ suc i
  pub call : meaning c ≡ (process (machine_in z s) i).resume
  pub free : taken_again (machine_in z s) i (meaning c) ≡ false
  pub room : 127 ≤ length b

-- One turn of the scheduler; the message, if any, stands at the front of the buffer.
pub record Turned (z : Sizes) (s s' b b' : List ℕ) (a : Result code.Reply Refusal) : Type 0 where
  pub message : List ℕ
  pub went : Went z s s' (sched_of (machine_in z s)) message a
  pub buffer : b' ≡ message ++ drop (length message) b

-- The header names the first of the run queue.
pub head-link : {z : Sizes} {s : List ℕ} → Holds z s 0 → mem_in z s fields.run_head 0 ≡ first_link (run_list (sizes_in z) (mem_in z s))
head-link h = chain_head h.keeps.placed.run.queue.chain

-- Where the call of a record goes on is in range.
pub call-range : {z : Sizes} {s : List ℕ} (i : ℕ) → Well z s → i < z.processes → ResumeInRange (sizes_in z) (process (machine_in z s) i).resume
unfolding process machine_of
call-range {z} {s} i w l =
    (each-get (ProcessInRange (sizes_in z)) (machine_in z s).processes i free w.good.in_range.each (omega (arith, l, w.good.in_range.processes))).resume

pub turn-next : {z : Sizes} {s : List ℕ} {i : ℕ} {c : Resume} {b : List ℕ} → TurnAsks z s i c b → NextAsks z s
turn-next a = record { owed = 0; holds = a.well.holds }

-- The ticks have room for ten more.
ticks-room : {z : Sizes} {s : List ℕ} → Well z s → mem_in z s fields.ticks 0 + 10 ≤ 18446744073709551615
unfolding machine_of
ticks-room w = omega (arith, w.good.ticks, w.good.in_range.last_now)

-- Who is in no place is in none with another quantum.
nowhere-kept : (z : Sizes) (m : Memory) (i v : ℕ) → Nowhere (sizes_in z) m i → Nowhere (sizes_in z) (upd m fields.quantum_end i v) i
unfolding run_list waiter_list waits_on
nowhere-kept z m i v w = record { used = w.used; up = w.up; run = w.run; rendez = w.rendez; locks = w.locks; waitr = w.waitr; next = w.next }

module _ {z : Sizes} {s s₁ : List ℕ} {i l : ℕ} {c : Resume} {b : List ℕ} (a : TurnAsks z s i c b) (t : NextTaken z s s₁ l) where
  -- i was taken off
  one : NextOne z s s₁ i
  one = subst (NextOne z s s₁) same (t.one some)
    where
      head : mem_in z s fields.run_head 0 ≡ first_link (run_list (sizes_in z) (mem_in z s))
      head = head-link a.well.holds

      some : l ≡ 0 → ⊥
      some e = omega (arith, a.first, head, ap first_link (t.none e).0)

      same : l - 1 ≡ i
      same = omega (arith, a.first, head, ap first_link (t.one some).split)

  low : i < z.processes
  low = inside (holds-bounds (one.did.holds 0 a.well.holds)) fields.pid i one.nowhere.used

  pub turn-quantum : QuantumAsks z s₁ i
  turn-quantum =
      record {
        owing = record { owed = 0; holds = one.did.holds 0 a.well.holds };
        index = low;
        used = one.nowhere.used;
        room =
            subst (λ (k : Memory). k fields.ticks 0 + 10 ≤ 18446744073709551615) (sym one.did.memory) (ticks-room a.well);
      }

  module _ {s₂ : List ℕ} (q : Became z s₁ s₂ (quantum_stores (mem_in z s₁) i) (dispatched i (machine_in z s₁))) where
    abbrev v : ℕ
    v = mem_in z s₁ fields.ticks 0 + 10

    memory : mem_in z s₂ ≡ upd (next_mem (mem_in z s) i) fields.quantum_end i v
    memory = q.memory ∙ ap (λ (k : Memory). upd k fields.quantum_end i v) one.did.memory

    holds : Holds z s₂ 0
    holds = q.holds 0 (one.did.holds 0 a.well.holds)

    nowhere : Nowhere (sizes_in z) (mem_in z s₂) i
    nowhere = subst (λ (k : Memory). Nowhere (sizes_in z) k i) (sym q.memory) (nowhere-kept z (mem_in z s₁) i v one.nowhere)

    -- who was ready is not marked asleep
    awake : mem_in z s₂ fields.state_of i ≡ 3 → ⊥
    awake e =
        omega (
          arith,
          sym (ap (λ (k : Memory). k fields.state_of i) memory) ∙ e,
          (subst (λ (ys : List ℕ). Each (λ j. mem_in z s fields.state_of j ≡ 2) ys) one.split a.well.holds.keeps.placed.run.ready).0,
        )

    limbo : Limbo z s₂ i
    limbo =
        record {
          holds = holds;
          nowhere = nowhere;
          idle = ap (λ (k : Memory). k fields.up 0) memory ∙ a.idle;
          awake = awake;
          room = subst (λ (n : ℕ). n < 65535) (sym (ap (λ (k : Memory). k fields.asleep_count 0) memory)) (well-room a.well);
        }

    after : machine_in z s₂ ≡ turning i one.rest (machine_in z s)
    after = q.machine ∙ ap (dispatched i) one.did.machine ∙ turning-is (machine_in z s) i one.rest

    call : (process (machine_in z s) i).resume ≡ (process (machine_in z s₂) i).resume
    call =
        resume_of_lem (holds-bounds a.well.holds) i (subst (λ (k : Memory). 0 < k fields.pid i) memory nowhere.used)
        ∙ ap (λ (k : Memory). resume_at k i) (sym memory)
        ∙ sym (resume_of_lem (holds-bounds holds) i nowhere.used)

    pub turn-go : GoAsks z s₂ i c b
    turn-go =
        record {
          limbo = limbo;
          call = a.call ∙ call;
          range = subst (ResumeInRange (sizes_in z)) (sym a.call) (call-range i a.well low);
          free =
              ap (λ (m : Machine). taken_again m i (meaning c)) after
              ∙ taken-same (machine_in z s) i one.rest (meaning c)
              ∙ a.free;
          room = a.room;
        }

    run-split : (machine_in z s).run ≡ i ∷ one.rest
    unfolding machine_of
    run-split = one.split

    -- it was taken off and has its quantum
    begun : Touched z s s₂
    begun = touched_join (touched-did one.did (same_use refl refl refl refl refl refl refl refl refl)) q.touched

    pub turned : {s₃ b₁ : List ℕ} {r : Result code.Reply Refusal} → WentOn z s₂ s₃ i c b b₁ r → Turned z s s₃ b b₁ r
    turned {s₃} {b₁} {r} w =
        record {
          message = w.message;
          went =
              subst (λ (o : Outcome). Went z s s₃ o w.message r)
              (ap₂ (λ (x : machine.Resume) (m : Machine). resumes x i m) a.call after
              ∙ sym (sched_first (machine_in z s) i one.rest run-split))
              (went-from begun.spares (fewer-same begun.same) w.went);
          buffer = w.buffer;
        }
