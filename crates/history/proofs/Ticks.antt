-- Ticks: no more than 10 × (k + 1) pass while a process stays in the run queue behind k others.
use Rattle.std.specs.Prelude.{if◌then◌else◌, ◌≡◌, Bool, not, List, [], ◌∷◌, ◌++◌, map, ◌⊎◌, ℕ, ◌+◌, ◌≤◌, eqb, leb, ltb, length}
use Rattle.std.proofs.Math.Path.{refl}
use Rattle.std.proofs.Common.{sym, ◌∙◌, subst, inl, inr, arith}
use Rattle.std.proofs.Math.Bool.{true, false}
use Rattle.std.proofs.Math.Option.{Option, none, some}
use Rattle.machine.specs.Basics.{is_empty}
use Rattle.machine.specs.Machine.{Machine, Resume, nothing, in_sleep, in_tsleep, in_qlock, in_wait, process, condition, pid_of, asleep}
use Rattle.machine.specs.Update.{with_process, with_run, with_quantum_end}
use Rattle.machine.specs.Step.{Step, Body, sched, yield}
use Rattle.machine.specs.Outcome.{Answer, Outcome, answered, open_outcome}
use Rattle.machine.specs.Timers.{is_queued, own_timer}
use Rattle.machine.specs.Table.{refusal}
use Rattle.machine.specs.Perform.{checks_again, tsleep_checks, resumes, sched_of, preempt_due, perform, open_perform}
use Rattle.machine.specs.StepOf.{refusing, step_of, outcome_of}
use Rattle.history.specs.History.{Input, gives, Says, at}
use Rattle.history.specs.Demand3.{Accepted}
use Rattle.history.proofs.Lists.{at_same, at_cases}
use Rattle.history.proofs.View.{View, Wakes, nobody, ticking, from_rendez, from_lock, from_waitr, ◌next◌, Change, wakes, makes, dispatches, dozes, waits_on, gives_way, goes_asleep, waits, queues, leaves, spends}
use Rattle.history.proofs.Queue.{queue_pids}
use Rattle.history.proofs.Woken.{wakes-up}

-- Every tick is a firing of timer 0.
wakes-ticks : {v w : View} {rs : List ℕ} {f : ℕ} → Wakes v rs f w → w.ticks ≡ v.ticks + f
wakes-ticks nobody = omega arith
wakes-ticks ticking = omega arith
wakes-ticks (from_rendez r i there e) = omega arith
wakes-ticks (from_lock q i rest there e) = omega arith
wakes-ticks (from_waitr i e) = omega arith
wakes-ticks (a next b) = omega (arith, wakes-ticks a, wakes-ticks b)

wakes-quantum : {v w : View} {rs : List ℕ} {f : ℕ} → Wakes v rs f w → w.quantum_end ≡ v.quantum_end
wakes-quantum nobody = refl
wakes-quantum ticking = refl
wakes-quantum (from_rendez r i there e) = refl
wakes-quantum (from_lock q i rest there e) = refl
wakes-quantum (from_waitr i e) = refl
wakes-quantum (a next b) = wakes-quantum b ∙ wakes-quantum a

pub change_ticks : {v w : View} {says : Says} {rs ds : List ℕ} {f : ℕ} → Change v says rs ds f w → w.ticks ≡ v.ticks + f
change_ticks (wakes a) = wakes-ticks a
change_ticks (makes i n same pos unused under out) = omega arith
change_ticks (dispatches i rest u e l) = omega arith
change_ticks (dozes i rest r there u e l s t) = omega arith
change_ticks (waits_on i rest u e l t) = omega arith
change_ticks (gives_way i u l) = omega arith
change_ticks (goes_asleep i r call there u l s t) = omega arith
change_ticks (waits i u l) = omega arith
change_ticks (queues i q there u l) = omega arith
change_ticks (leaves i u l out a) = wakes-ticks a
change_ticks spends = omega arith

-- Who runs after a step ran before it with no shorter quantum, or was dispatched by it, with ten ticks.
abbrev pub Ran : View → List ℕ → View → ℕ → Type 0
Ran v ds w i = ((v.up ≡ some i) × (w.quantum_end i ≤ v.quantum_end i)) ⊎ ((length ds ≡ 1) × (w.quantum_end i ≡ v.ticks + 10))

nobody-runs : {A : Type 0} (i : ℕ) → none ≡ some i → A
nobody-runs i e = absurd (let z : ◌≡◌ {A = ℕ} 0 1 = cc in omega arith)

pub change_runner : {v w : View} {says : Says} {rs ds : List ℕ} {f : ℕ} → Change v says rs ds f w → (i : ℕ) → w.up ≡ some i → Ran v ds w i
change_runner {v} (wakes a) i h = inl (sym (wakes-up a) ∙ h, subst (λ (q : ℕ → ℕ). q i ≤ v.quantum_end i) (sym (wakes-quantum a)) (omega arith))
change_runner {v} (makes k n same pos unused under out) i h =
    inl (h, at_cases (λ (q : ℕ). q ≤ v.quantum_end i) k 0 v.quantum_end i (λ d. omega arith) (λ d. omega arith))
change_runner {v} (dispatches k rest u e l) i h =
    let d : k ≡ i = cc in
    inr (refl, subst (λ (j : ℕ). at k (v.ticks + 10) v.quantum_end j ≡ v.ticks + 10) d (at_same k (v.ticks + 10) v.quantum_end))
change_runner (dozes k rest r there u e l s t) i h = nobody-runs i h
change_runner (waits_on k rest u e l t) i h = nobody-runs i h
change_runner (gives_way k u l) i h = nobody-runs i h
change_runner (goes_asleep k r call there u l s t) i h = nobody-runs i h
change_runner (waits k u l) i h = nobody-runs i h
change_runner (queues k q there u l) i h = nobody-runs i h
change_runner (leaves k u l out a) i h = nobody-runs i (sym (wakes-up a) ∙ h)
change_runner spends i h = inl (h, omega arith)

-- `sched` and `yield` fire no timer.
module _ (i : ℕ) (n : Machine) where
  pick : (b : Bool) (a c : Outcome) → a.fired ≡ 0 → c.fired ≡ 0 → (if b then a else c).fired ≡ 0
  pick true a c d e = d
  pick false a c d e = e

  checks-fires : (r : ℕ) (b : Bool) → (checks_again b i r n).fired ≡ 0
  unfolding open_perform open_outcome
  checks-fires r true = refl
  checks-fires r false = refl

  timed-fires : (r : ℕ) (b : Bool) → (tsleep_checks b i r n).fired ≡ 0
  unfolding open_perform open_outcome
  timed-fires r true = refl
  timed-fires r false = refl

  resumes-fires : (call : Resume) → (resumes call i n).fired ≡ 0
  unfolding open_perform open_outcome
  resumes-fires nothing = refl
  resumes-fires (in_sleep r c) = checks-fires r (condition n c)
  resumes-fires (in_tsleep r c) = timed-fires r (if is_queued (own_timer i n) n then condition n c else true)
  resumes-fires (in_qlock q) = refl
  resumes-fires in_wait = pick (is_empty (process n i).exits) _ _ refl refl

sched-fires : (m : Machine) → (sched_of m).fired ≡ 0
unfolding sched_of open_outcome
sched-fires m = go m.run
  where
    go : (l : List ℕ)
        → (elim l as (λ (x : List ℕ). Outcome) [
          | [] ↦ answered (if eqb (asleep m) 0 then Answer.end else Answer.idle) m
          | i ∷ rest ↦ resumes (process m i).resume i (with_process i (with_quantum_end (m.ticks + 10) (process m i)) (with_run rest m))
        ]).fired
        ≡ 0
    go [] = refl
    go (i ∷ rest) = resumes-fires i _ (process m i).resume

-- A step of a kind that fires none, accepted or not.
none-fired : (m : Machine) (x : Input) (k : Bool) (b : Body) → x.step ≡ some (record { marked = k; body = b }) → (perform b m).fired ≡ 0 → (gives m x).fired ≡ 0
unfolding outcome_of step_of refusing
none-fired m x k b e z = subst (λ (o : Option Step). (outcome_of m o x.buffer).fired ≡ 0) (sym e) (long (ltb x.buffer 127))
  where
    s : Step
    s = record { marked = k; body = b }

    done : (o : Option ℕ) → refusal m s ≡ o → (step_of m s).fired ≡ 0
    done none d = rw (d, step_of) z
    done (some number) d = rw (d, step_of)

    long : (c : Bool) → (if c then refusing 2 m else step_of m s).fired ≡ 0
    long true = refl
    long false = done (refusal m s) refl

pub sched-quiet : (m : Machine) (x : Input) → Accepted sched m x → (gives m x).fired ≡ 0
unfolding perform
sched-quiet m x a = none-fired m x a.marked sched a.asked (sched-fires m)

pub yield-quiet : (m : Machine) (x : Input) → Accepted yield m x → (gives m x).fired ≡ 0
unfolding open_perform open_outcome
yield-quiet m x a = none-fired m x a.marked yield a.asked refl

pub due_now : (m : Machine) (i : ℕ) → m.up ≡ some i → leb (process m i).quantum_end m.ticks ≡ true → is_empty m.run ≡ false → preempt_due m ≡ true
unfolding preempt_due
due_now m i u late busy = go m.up u
  where
    go : (o : Option ℕ) → o ≡ some i → (elim o as (λ (x : Option ℕ). Bool) [ none ↦ false | some j ↦ if leb (process m j).quantum_end m.ticks then not (is_empty m.run) else false ]) ≡ true
    go none e = nobody-runs i e
    go (some j) e = let d : j ≡ i = cc in rw (d, late, busy)

pub not-empty : (ahead : List ℕ) (n : ℕ) (behind : List ℕ) → [] ≡ ahead ++ n ∷ behind → ⊥
not-empty [] n behind e = let z : ◌≡◌ {A = ℕ} 0 1 = cc in omega arith
not-empty (a ∷ ahead) n behind e = let z : ◌≡◌ {A = ℕ} 0 1 = cc in omega arith

pub queue-busy : (m : Machine) (ahead : List ℕ) (n : ℕ) (behind : List ℕ) → queue_pids m ≡ ahead ++ n ∷ behind → is_empty m.run ≡ false
queue-busy m ahead n behind e = go m.run e
  where
    go : (l : List ℕ) → map (pid_of m) l ≡ ahead ++ n ∷ behind → is_empty l ≡ false
    go [] d = absurd (not-empty ahead n behind d)
    go (x ∷ xs) d = refl
