-- qlock: what the code shows at each return.
use Rattle.std.specs.Prelude.{if◌then◌else◌, ◌≡◌, refl, Bool, true, false, ◌&&◌, List, [], ◌∷◌, ◌++◌, ℕ, suc, ◌<◌, Result, Ok, Err}
use Rattle.std.proofs.Common.{sym, ap, subst, ◌∙◌, arith, lt-ltb}
use Rattle.std.proofs.Math.Option.{none, some}
use Rattle.std.proofs.lemmas.Bool.{and_right, not-true, not-false}
use Rattle.machine.specs.Basics.{is_none}
use Rattle.machine.specs.Machine as machine
use Rattle.machine.specs.Machine.{Machine, process, lock}
use Rattle.machine.specs.Step.{qlock}
use Rattle.machine.specs.Table.{refusal, held_lock, in_range}
use Rattle.machine.specs.Outcome.{Answer, answer, open_outcome}
use Rattle.machine.specs.Update.{with_up, with_lock, with_process, with_resume}
use Rattle.machine.specs.Places.{queue_on}
use Rattle.machine.specs.Perform.{perform, open_perform}
use Rattle.layout.specs.Memory.{Memory}
use Rattle.chain.specs.Links.{alter-same}
use Rattle.state.specs.Fields as fields
use Rattle.state.specs.Abs.{machine_of}
use Rattle.state.specs.Places.{mem_in}
use Rattle.state.specs.declared.Sizes.{Sizes}
use Rattle.record.specs.declared.Resume.TheVariants.{Qlock}
use Rattle.rules.specs.Code.{Long}
use Rattle.holds.specs.Holds.{Holds}
use Rattle.holds.specs.Did.{machine_in}
use Rattle.holds.specs.Use.{same_use}
use Rattle.holds.specs.Touched.{Touched, touched-same, touched_join, touched-did}
use Rattle.dat.specs.Asleep.{asleep_in}
use Rattle.dat.specs.Run.{holds-long}
use Rattle.qlock.specs.Queue.{LockAsks, EnqueueAsks, Enqueued}
use Rattle.qlock.specs.Hold.{Tried}
use Rattle.outcome.specs.declared.Reply as code
use Rattle.outcome.specs.declared.Reply.TheVariants.{Done, Asleep}
use Rattle.outcome.specs.declared.Refusal.{Refusal}
use Rattle.outcome.specs.Means.{means, told}
use Rattle.outcome.specs.Stepped.{Well, Stepped}
use Rattle.outcome.specs.Laws.{stepped-done}
use Rattle.outcome.specs.Refusals.{step}
use Rattle.outcome.specs.RefusalsLock.{refusal-qlock}
use Rattle.outcome.specs.Room.{well-room}
use Rattle.outcome.specs.Running.{IsRunning, NotRunning, somebody-up, current-is, not-running}
use Rattle.proc_sleep.specs.Suspend.{SuspendAsks, Suspended}

-- The running process i waits for lock q, which is held.
pub record QueueAsks (z : Sizes) (s : List ℕ) (i q : ℕ) : Type 0 where
  pub holds : Holds z s 0
  pub runs : mem_in z s fields.up 0 ≡ suc i
  pub index : q < z.locks
  pub held : (lock (machine_in z s) q).held ≡ true
  pub room : asleep_in (mem_in z s) < 65535

pub record Queued (z : Sizes) (s s' : List ℕ) (i q : ℕ) : Type 0 where
  pub holds : Holds z s' 0
  pub machine : machine_in z s' ≡ queue_on i q (machine.in_qlock q) (machine_in z s)
  pub touched : Touched z s s'

pub queue-suspend : {z : Sizes} {s : List ℕ} {i q : ℕ} → QueueAsks z s i q → SuspendAsks z s i (Qlock q)
queue-suspend a =
    record {
      holds = a.holds;
      runs = a.runs;
      object = omega (arith, a.index, a.holds.sizes.locks.1);
      condition = omega arith;
    }

pub queue-enqueue : {z : Sizes} {s s₁ : List ℕ} {i q : ℕ} → QueueAsks z s i q → Suspended z s s₁ i (Qlock q) → EnqueueAsks z s₁ q i
queue-enqueue {z} {s} {s₁} {i} {q} a d =
    record {
      owed = 0;
      holds = d.holds;
      nowhere = d.nowhere;
      call =
          record {
            kind = ap (λ (x : Memory). x fields.resume_kind i) d.memory ∙ alter-same (mem_in z s fields.resume_kind) i 3;
            object = ap (λ (x : Memory). x fields.resume_object i) d.memory ∙ alter-same (mem_in z s fields.resume_object) i q;
          };
      index = a.index;
      room = subst (λ (n : ℕ). n < 65535) (sym (ap (λ (x : Memory). x fields.asleep_count 0) d.memory)) a.room;
    }

-- The machine then, in whatever order.
queue_on_lem
    : (m : Machine) (i q : ℕ) (c : machine.Resume) (x : Machine)
    → x ≡ with_process i (with_resume c (process (with_up none m) i)) (with_up none m)
    → (lock m q).held ≡ true
    → with_lock q (record { held = (lock x q).held; waiters = (lock x q).waiters ++ i ∷ [] }) x ≡ queue_on i q c m
unfolding queue_on with_lock with_process with_up process lock
queue_on_lem m i q c x e h =
    ap (λ (y : Machine). with_lock q (record { held = (lock y q).held; waiters = (lock y q).waiters ++ i ∷ [] }) y) e
    ∙ ap
    (λ (t : Bool). with_lock q (record { held = t; waiters = (lock m q).waiters ++ i ∷ [] }) (with_process i (with_resume c (process (with_up none m) i)) (with_up none m)))
    h

pub queued
    : {z : Sizes} {s s₁ s₂ : List ℕ} {i q : ℕ}
    → QueueAsks z s i q
    → Suspended z s s₁ i (Qlock q)
    → Enqueued z s₁ s₂ q i
    → Queued z s s₂ i q
queued {z} {s} {s₁} {s₂} {i} {q} a d p =
    record {
      holds = p.did.holds 0 d.holds;
      machine = p.did.machine ∙ queue_on_lem (machine_in z s) i q (machine.in_qlock q) (machine_in z s₁) d.machine a.held;
      touched = touched_join d.touched (touched-did p.did (same_use refl refl refl refl refl refl refl refl refl));
    }

-- qlock
pub record QlockAsks (z : Sizes) (s : List ℕ) (q : ℕ) : Type 0 where
  pub well : Well z s
  pub index : q < z.locks

pub record QlockTook (z : Sizes) (s s' : List ℕ) (k : Bool) (Q : ℕ) (a : Result code.Reply Refusal) : Type 0 where
  pub stepped : Stepped z s s' (step k (qlock Q)) [] a

pub qlock_try : {z : Sizes} {s : List ℕ} {q : ℕ} → QlockAsks z s q → LockAsks z s q
qlock_try a = record { owed = 0; holds = a.well.holds; index = a.index }

qlock-number
    : {z : Sizes} {s : List ℕ} {q : ℕ} (k : Bool)
    → QlockAsks z s q
    → refusal (machine_in z s) (step k (qlock q))
    ≡ (if k && (lock (machine_in z s) q).held
    then some 3
    else if is_none (machine_in z s).up && (lock (machine_in z s) q).held then some 4 else none)
unfolding machine_of in_range held_lock
qlock-number {z} {s} {q} k a = refusal-qlock (machine_in z s) k q ∙ rw (lt-ltb q z.locks a.index)

qlock-free : (m : Machine) (q : ℕ) → (lock m q).held ≡ false
    → ((perform (qlock q) m).reply ≡ answer Answer.done) × ((perform (qlock q) m).after ≡ with_lock q (record { held = true; waiters = (lock m q).waiters }) m)
unfolding open_perform open_outcome
qlock-free m q e = (rw e, rw e)

qlock-held : (m : Machine) (q i : ℕ) → (lock m q).held ≡ true → m.up ≡ some i
    → ((perform (qlock q) m).reply ≡ answer Answer.asleep) × ((perform (qlock q) m).after ≡ queue_on i q (machine.in_qlock q) m)
unfolding open_perform open_outcome
qlock-held m q i e u = (rw e, rw e (ap (λ (j : ℕ). queue_on j q (machine.in_qlock q) m) (current-is m i u)))

pub qlock-done : {z : Sizes} {s s₁ : List ℕ} {q : ℕ} {k t : Bool} → QlockAsks z s q → Tried z s s₁ q t → t ≡ true → QlockTook z s s₁ k q (Ok Done)
unfolding means told
qlock-done {z} {s} {s₁} {q} {k} {t} a w e =
    let h : (lock (machine_in z s) q).held ≡ false = not-true (lock (machine_in z s) q).held (sym w.answer ∙ e) in
    let p : ((perform (qlock q) (machine_in z s)).reply ≡ answer Answer.done) × ((perform (qlock q) (machine_in z s)).after ≡ with_lock q (record { held = true; waiters = (lock (machine_in z s) q).waiters }) (machine_in z s)) =
    qlock-free (machine_in z s) q h
    in
    record {
      stepped =
          stepped-done (qlock-number k a ∙ rw (h, and_right k false refl, and_right (is_none (machine_in z s).up) false refl)) ((w.yes e).holds 0 a.well.holds)
          (touched-did (w.yes e) (same_use refl refl refl refl refl refl refl refl refl)).spares (sym p.0) (ap told (sym p.0))
          ((w.yes e).machine ∙ sym p.1);
    }

-- The lock is held, and nothing was stored.
record Busy (z : Sizes) (s s₁ : List ℕ) (q : ℕ) : Type 0 where
  held : (lock (machine_in z s) q).held ≡ true
  same : s₁ ≡ s

busy : {z : Sizes} {s s₁ : List ℕ} {q : ℕ} {t : Bool} → Tried z s s₁ q t → t ≡ false → Busy z s s₁ q
busy {z} {s} {s₁} {q} w e = record { held = not-false (lock (machine_in z s) q).held (sym w.answer ∙ e); same = w.no e }

-- Who runs is looked for in the bytes as they were.
pub qlock-long : {z : Sizes} {s s₁ : List ℕ} {q : ℕ} {t : Bool} → QlockAsks z s q → Tried z s s₁ q t → t ≡ false → Long z s₁
qlock-long {z} {s} {s₁} {q} {t} a w e = subst (Long z) (sym (busy w e).same) (holds-long a.well.holds)

pub qlock-refused
    : {z : Sizes} {s s₁ : List ℕ} {q : ℕ} {k t : Bool} {e : Refusal}
    → QlockAsks z s q
    → Tried z s s₁ q t
    → t ≡ false
    → NotRunning z s₁ k e
    → QlockTook z s s₁ k q (Err e)
qlock-refused {z} {s} {s₁} {q} {k} {t} {e} a w f r =
    let h : Busy z s s₁ q = busy w f in
    subst (λ (x : List ℕ). QlockTook z s x k q (Err e)) (sym h.same)
    (record {
      stepped =
          not-running a.well.holds (λ m. qlock-number k a ∙ rw (h.held, m)) (λ u o. qlock-number k a ∙ rw (h.held, u, o))
          (subst (λ (x : List ℕ). NotRunning z x k e) h.same r);
    })

pub qlock-queue
    : {z : Sizes} {s s₁ : List ℕ} {q i : ℕ} {k t : Bool}
    → QlockAsks z s q
    → Tried z s s₁ q t
    → t ≡ false
    → IsRunning z s₁ k i
    → QueueAsks z s₁ i q
qlock-queue {z} {s} {s₁} {q} {i} a w e u =
    let h : Busy z s s₁ q = busy w e in
    subst (λ (x : List ℕ). QueueAsks z x i q) (sym h.same)
    (record {
      holds = a.well.holds;
      runs = sym (ap (λ (x : List ℕ). mem_in z x fields.up 0) h.same) ∙ u.runs;
      index = a.index;
      held = h.held;
      room = well-room a.well;
    })

pub qlock-asleep
    : {z : Sizes} {s s₁ s₂ : List ℕ} {q i : ℕ} {k t : Bool}
    → QlockAsks z s q
    → Tried z s s₁ q t
    → t ≡ false
    → IsRunning z s₁ k i
    → Queued z s₁ s₂ i q
    → QlockTook z s s₂ k q (Ok Asleep)
unfolding means told
qlock-asleep {z} {s} {s₁} {s₂} {q} {i} {k} {t} a w e u d =
    let h : Busy z s s₁ q = busy w e in
    let o : (machine_in z s).up ≡ some i = somebody-up z s (sym (ap (λ (x : List ℕ). mem_in z x fields.up 0) h.same) ∙ u.runs) in
    let p : ((perform (qlock q) (machine_in z s)).reply ≡ answer Answer.asleep) × ((perform (qlock q) (machine_in z s)).after ≡ queue_on i q (machine.in_qlock q) (machine_in z s)) =
    qlock-held (machine_in z s) q i h.held o
    in
    record {
      stepped =
          stepped-done (qlock-number k a ∙ rw (h.held, u.unmarked, o)) d.holds (touched_join (touched-same h.same) d.touched).spares (sym p.0)
          (ap told (sym p.0))
          (d.machine ∙ ap (λ (x : List ℕ). queue_on i q (machine.in_qlock q) (machine_in z x)) h.same ∙ sym p.1);
    }
