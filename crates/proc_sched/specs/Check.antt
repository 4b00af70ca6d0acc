-- A woken sleeper checks again: what the code shows at each return.
use Rattle.std.specs.Prelude.{if◌then◌else◌, ◌≡◌, refl, Bool, true, false, List, [], ℕ, ◌+◌, ◌<◌, Result}
use Rattle.std.proofs.Common.{sym, ap, subst, ◌∙◌, arith}
use Rattle.machine.specs.Machine.{Machine, pid_of, condition}
use Rattle.machine.specs.Outcome.{Answer, Outcome}
use Rattle.machine.specs.Timers.{delete, is_queued, own_timer}
use Rattle.machine.specs.Perform.{runs, checks_again, tsleep_checks}
use Rattle.layout.specs.Memory.{Memory}
use Rattle.state.specs.Fields as fields
use Rattle.state.specs.Abs.{run_list, waiter_list, waits_on, machine_of}
use Rattle.state.specs.Places.{sizes_in, mem_in}
use Rattle.state.specs.declared.Sizes.{Sizes}
use Rattle.exact.specs.Sums.{true-false}
use Rattle.holds.specs.Did.{machine_in}
use Rattle.places.specs.Nowhere.{Nowhere}
use Rattle.places.specs.Rendez.{CallsRendez}
use Rattle.timer.specs.Only.{Owing}
use Rattle.timer.specs.Del.{TimerAsks, Deleted, del_mem}
use Rattle.timer.specs.Queued.{IsQueued}
use Rattle.clockwork.specs.Conditions.{Condition}
use Rattle.outcome.specs.declared.Reply as code
use Rattle.outcome.specs.declared.Refusal.{Refusal}
use Rattle.proc_sched.specs.Limbo.{Limbo, Went, RunsOn, AgainAsks, SleptAgain, limbo-low, went-from}

-- The call of i is a `sleep` or `tsleep` on Rendez r, where nobody is if its condition c is false.
pub record CheckAsks (z : Sizes) (s : List ℕ) (i r c : ℕ) : Type 0 where
  pub limbo : Limbo z s i
  pub call : CallsRendez (mem_in z s) r i
  pub index : r < z.rendez
  pub empty : condition (machine_in z s) c ≡ false → mem_in z s fields.sleeper_of r ≡ 0

pub record Checked (z : Sizes) (s s' : List ℕ) (i r c : ℕ) (a : Result code.Reply Refusal) : Type 0 where
  pub went : Went z s s' (checks_again (condition (machine_in z s) c) i r (machine_in z s)) [] a

pub check-owing : {z : Sizes} {s : List ℕ} {i r c : ℕ} → CheckAsks z s i r c → Owing z s
check-owing a = record { owed = 0; holds = a.limbo.holds }

runs-true : (m : Machine) (i r : ℕ) → checks_again true i r m ≡ runs i (Answer.run (pid_of m i)) m
unfolding checks_again
runs-true m i r = refl

pub check-runs
    : {z : Sizes} {s s₁ : List ℕ} {i r c : ℕ} {t : Bool} {a : Result code.Reply Refusal}
    → CheckAsks z s i r c → Condition z s c t → t ≡ true → RunsOn z s s₁ i a → Checked z s s₁ i r c a
check-runs {z} {s} {s₁} {i} {r} {c} {t} {a} k h e o =
    record {
      went =
          subst (λ (x : Outcome). Went z s s₁ x [] a)
          (sym (ap (λ (b : Bool). checks_again b i r (machine_in z s)) (sym h.answer ∙ e) ∙ runs-true (machine_in z s) i r)) o.went;
    }

pub check-again
    : {z : Sizes} {s : List ℕ} {i r c : ℕ} {t : Bool} → CheckAsks z s i r c → Condition z s c t → t ≡ false → AgainAsks z s i r
check-again k h e = record { limbo = k.limbo; call = k.call; index = k.index; empty = k.empty (sym h.answer ∙ e) }

pub check-sleeps
    : {z : Sizes} {s s₁ : List ℕ} {i r c : ℕ} {t : Bool} {a : Result code.Reply Refusal}
    → CheckAsks z s i r c → Condition z s c t → t ≡ false → SleptAgain z s s₁ i r a → Checked z s s₁ i r c a
check-sleeps {z} {s} {s₁} {i} {r} {c} {t} {a} k h e o =
    record {
      went =
          subst (λ (b : Bool). Went z s s₁ (checks_again b i r (machine_in z s)) [] a) (sym (sym h.answer ∙ e)) o.went;
    }

-- The `tsleep` of i returns: its timer is removed.
pub record TimedOut (z : Sizes) (s s' : List ℕ) (i : ℕ) (a : Result code.Reply Refusal) : Type 0 where
  pub went
      : Went z s s'
      (runs i (Answer.run (pid_of (delete (own_timer i (machine_in z s)) (machine_in z s)) i)) (delete (own_timer i (machine_in z s)) (machine_in z s))) [] a

own_is : (z : Sizes) (s : List ℕ) (i : ℕ) → own_timer i (machine_in z s) ≡ z.timers + i
unfolding own_timer machine_of
own_is z s i = refl

pub out_del : {z : Sizes} {s : List ℕ} {i : ℕ} → Limbo z s i → TimerAsks z s (z.timers + i)
out_del {z} {s} {i} l = record { owing = record { owed = 0; holds = l.holds }; index = omega (arith, limbo-low l) }

pub out_small : {z : Sizes} {s : List ℕ} {i : ℕ} → Limbo z s i → z.timers + i < 65536
out_small {z} {s} {i} l = omega (arith, limbo-low l, l.holds.sizes.processes.1, l.holds.sizes.timers.1)

-- In limbo still.
nowhere-kept : (z : Sizes) (m : Memory) (i t : ℕ) → Nowhere (sizes_in z) m i → Nowhere (sizes_in z) (del_mem z m t) i
unfolding run_list waiter_list waits_on
nowhere-kept z m i t w = record { used = w.used; up = w.up; run = w.run; rendez = w.rendez; locks = w.locks; waitr = w.waitr; next = w.next }

pub out_limbo : {z : Sizes} {s s₁ : List ℕ} {i t : ℕ} → Limbo z s i → Deleted z s s₁ t → Limbo z s₁ i
out_limbo {z} {s} {s₁} {i} {t} l d =
    record {
      holds = d.holds 0 l.holds;
      nowhere = subst (λ (k : Memory). Nowhere (sizes_in z) k i) (sym d.memory) (nowhere-kept z (mem_in z s) i t l.nowhere);
      idle = ap (λ (k : Memory). k fields.up 0) d.memory ∙ l.idle;
      awake = λ e. l.awake (sym (ap (λ (k : Memory). k fields.state_of i) d.memory) ∙ e);
      room = subst (λ (n : ℕ). n < 65535) (sym (ap (λ (k : Memory). k fields.asleep_count 0) d.memory)) l.room;
    }

pub out_runs
    : {z : Sizes} {s s₁ s₂ : List ℕ} {i : ℕ} {a : Result code.Reply Refusal}
    → Limbo z s i → Deleted z s s₁ (z.timers + i) → RunsOn z s₁ s₂ i a → TimedOut z s s₂ i a
out_runs {z} {s} {s₁} {s₂} {i} {a} l d o =
    record {
      went =
          went-from d.spares d.fewer
          (subst (λ (x : Machine). Went z s₁ s₂ (runs i (Answer.run (pid_of x i)) x) [] a)
          (d.machine ∙ ap (λ (t : ℕ). delete t (machine_in z s)) (sym (own_is z s i))) o.went);
    }

-- The same for a `tsleep`; nobody is to be there only while its timer is queued.
pub record TsleepAsks (z : Sizes) (s : List ℕ) (i r c : ℕ) : Type 0 where
  pub limbo : Limbo z s i
  pub call : CallsRendez (mem_in z s) r i
  pub index : r < z.rendez
  pub empty : is_queued (own_timer i (machine_in z s)) (machine_in z s) ≡ true → condition (machine_in z s) c ≡ false → mem_in z s fields.sleeper_of r ≡ 0

-- The whole of a `tsleep`'s check.
pub record TsleepChecked (z : Sizes) (s s' : List ℕ) (i r c : ℕ) (a : Result code.Reply Refusal) : Type 0 where
  pub went
      : Went z s s'
      (tsleep_checks (if is_queued (own_timer i (machine_in z s)) (machine_in z s) then condition (machine_in z s) c else true) i r (machine_in z s)) [] a

timed : (m : Machine) (i r : ℕ) → tsleep_checks true i r m ≡ runs i (Answer.run (pid_of (delete (own_timer i m) m) i)) (delete (own_timer i m) m)
unfolding tsleep_checks checks_again
timed m i r = refl

untimed : (m : Machine) (i r : ℕ) → tsleep_checks false i r m ≡ checks_again false i r m
unfolding tsleep_checks
untimed m i r = refl

-- The `tsleep` of i, whose condition is c, ends.
pub record Ends (z : Sizes) (s : List ℕ) (i c : ℕ) (t : Bool) : Type 0 where
  pub answer : t ≡ (if is_queued (own_timer i (machine_in z s)) (machine_in z s) then condition (machine_in z s) c else true)

pub own-queued : {z : Sizes} {s : List ℕ} {q : Bool} (i : ℕ) → IsQueued z s (z.timers + i) q → is_queued (own_timer i (machine_in z s)) (machine_in z s) ≡ q
own-queued {z} {s} i h = ap (λ (t : ℕ). is_queued t (machine_in z s)) (own_is z s i) ∙ sym h.answer

pub ends-fired : {z : Sizes} {s : List ℕ} {i c : ℕ} {q : Bool} → IsQueued z s (z.timers + i) q → q ≡ false → Ends z s i c true
ends-fired {i = i} h e = record { answer = rw (own-queued i h ∙ e) refl }

pub ends-holds : {z : Sizes} {s : List ℕ} {i c : ℕ} {q t : Bool} → IsQueued z s (z.timers + i) q → q ≡ true → Condition z s c t → Ends z s i c t
ends-holds {i = i} h e g = record { answer = g.answer ∙ rw (own-queued i h ∙ e) refl }

-- It does not end only while its timer is queued and its condition is false.
not-ended : (q c : Bool) → (if q then c else true) ≡ false → (q ≡ true) × (c ≡ false)
not-ended true c e = (refl, e)
not-ended false c e = absurd (true-false e)

pub tsleep-again : {z : Sizes} {s : List ℕ} {i r c : ℕ} {t : Bool} → TsleepAsks z s i r c → Ends z s i c t → t ≡ false → AgainAsks z s i r
tsleep-again {z} {s} {i} {r} {c} k h e =
    let n : (is_queued (own_timer i (machine_in z s)) (machine_in z s) ≡ true) × (condition (machine_in z s) c ≡ false) =
    not-ended (is_queued (own_timer i (machine_in z s)) (machine_in z s)) (condition (machine_in z s) c) (sym h.answer ∙ e)
    in
    record { limbo = k.limbo; call = k.call; index = k.index; empty = k.empty n.0 n.1 }

pub tsleep-ended
    : {z : Sizes} {s s₁ : List ℕ} {i r c : ℕ} {t : Bool} {a : Result code.Reply Refusal}
    → Ends z s i c t → t ≡ true → TimedOut z s s₁ i a → TsleepChecked z s s₁ i r c a
tsleep-ended {z} {s} {s₁} {i} {r} {c} {t} {a} h e o =
    record { went = rw (sym h.answer ∙ e, timed (machine_in z s) i r) o.went }

pub tsleep-sleeps
    : {z : Sizes} {s s₁ : List ℕ} {i r c : ℕ} {t : Bool} {a : Result code.Reply Refusal}
    → Ends z s i c t → t ≡ false → SleptAgain z s s₁ i r a → TsleepChecked z s s₁ i r c a
tsleep-sleeps {z} {s} {s₁} {i} {r} {c} {t} {a} h e o =
    record { went = rw (sym h.answer ∙ e, untimed (machine_in z s) i r) o.went }
