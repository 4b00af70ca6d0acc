-- No step changes a machine's sizes.
use Rattle.std.specs.Prelude.{if◌then◌else◌, ◌≡◌, refl, Bool, true, false, not, ◌&&◌, List, [], ◌∷◌, ℕ, zero, suc, ◌-◌, eqb, ltb, leb}
use Rattle.std.proofs.Common.{◌∙◌}
use Rattle.std.proofs.Math.Option.{Option, none, some}
use Rattle.machine.specs.Basics.{is_empty}
use Rattle.machine.specs.Machine.{Machine, Sizes, Process, Queued, Resume, nothing, in_sleep, in_tsleep, in_qlock, in_wait, process, sleeper, lock, condition, setting}
use Rattle.machine.specs.Update.{open_update, with_process, with_nchild, with_queued, with_last_now}
use Rattle.machine.specs.Step.{Step, Body, start, rfork, name, sched, yield, sleep, tsleep, wakeup, qlock, canqlock, qunlock, cond, clock, tadd, tdel, intr, due, exit, wait}
use Rattle.machine.specs.Outcome.{Outcome, open_outcome}
use Rattle.machine.specs.Flags.{has, RFPROC, RFNOWAIT}
use Rattle.machine.specs.Places.{Woken, wake, hand_over, open_places}
use Rattle.machine.specs.Exits.{found, has_room, wake_waitr, tell_parent, without, open_exits}
use Rattle.machine.specs.Timers.{Firing, callback, twakeup, readd, fire, fire_due, firings_owed, interrupt, is_queued, own_timer, period_of, open_timers}
use Rattle.machine.specs.Perform.{perform, resumes, checks_again, tsleep_checks, sched_of, open_perform, current}
use Rattle.machine.specs.Table.{refusal, on}
use Rattle.machine.specs.StepOf.{left_by, refusing, step_of, outcome_of}

-- Either way of a test.
either_way : {A : Type 0} (f : A → Sizes) (z : Sizes) (b : Bool) (x y : A) → f x ≡ z → f y ≡ z → f (if b then x else y) ≡ z
either_way f z true x y p q = p
either_way f z false x y p q = q

abbrev outs : Outcome → Sizes
outs o = o.after.sizes

abbrev wakes : Woken → Sizes
wakes w = w.machine.sizes

-- Who is woken, by a Rendez, a lock or a child's exit.
wake-sizes : (r : ℕ) (m : Machine) → (wake r m).machine.sizes ≡ m.sizes
unfolding open_places open_update
wake-sizes r m = go (sleeper m r) refl
  where
    go : (o : Option ℕ) → sleeper m r ≡ o → (wake r m).machine.sizes ≡ m.sizes
    go none e = rw (e, wake)
    go (some i) e = rw (e, wake)

hand_sizes : (q : ℕ) (m : Machine) → (hand_over q m).machine.sizes ≡ m.sizes
unfolding open_places open_update
hand_sizes q m = go (lock m q).waiters refl
  where
    go : (xs : List ℕ) → (lock m q).waiters ≡ xs → (hand_over q m).machine.sizes ≡ m.sizes
    go [] e = rw (e, hand_over)
    go (i ∷ rest) e = rw (e, hand_over)

waitr-sizes : (j : ℕ) (m : Machine) → (wake_waitr j m).machine.sizes ≡ m.sizes
unfolding open_exits open_places open_update
waitr-sizes j m = either_way wakes m.sizes (process m j).on_waitr _ _ refl refl

tell-sizes : (child : Process) (status : List ℕ) (m : Machine) → (tell_parent child status m).machine.sizes ≡ m.sizes
unfolding tell_parent open_update
tell-sizes child status m = go (found child.parent m) refl
  where
    go : (o : Option ℕ) → found child.parent m ≡ o → (tell_parent child status m).machine.sizes ≡ m.sizes
    go none e = rw (e, tell_parent)
    go (some j) e =
        rw (e, tell_parent)
        (either_way wakes m.sizes (has_room (with_nchild ((process m j).nchild - 1) (process m j))) _ _ (waitr-sizes j (with_process j _ m)) refl)

-- Timers that fire.
twakeup-sizes : (c : Resume) (m : Machine) → (twakeup c m).machine.sizes ≡ m.sizes
unfolding twakeup
twakeup-sizes nothing m = refl
twakeup-sizes (in_sleep r c) m = refl
twakeup-sizes (in_tsleep r c) m = wake-sizes r m
twakeup-sizes (in_qlock q) m = refl
twakeup-sizes in_wait m = refl

callback-sizes : (t : ℕ) (m : Machine) → (callback t m).machine.sizes ≡ m.sizes
unfolding callback open_update
callback-sizes t m =
    either_way wakes m.sizes (eqb t 0) _ _ refl
    (either_way wakes m.sizes (ltb t m.sizes.timers) _ _ (wake-sizes (setting m t).rendez m) (twakeup-sizes (process m (t - m.sizes.timers)).resume m))

readd-sizes : (x : Queued) (m : Machine) → (readd x m).sizes ≡ m.sizes
unfolding readd open_update
readd-sizes x m = either_way (λ (n : Machine). n.sizes) m.sizes (eqb (period_of x.timer m) 0) m _ refl refl

fire-sizes : (x : Queued) (rest : List Queued) (f : Firing) → (fire x rest f).machine.sizes ≡ f.machine.sizes
unfolding fire open_update
fire-sizes x rest f = readd-sizes x _ ∙ callback-sizes x.timer (with_queued rest f.machine)

due-sizes : (n now : ℕ) (f : Firing) → (fire_due n now f).machine.sizes ≡ f.machine.sizes
unfolding fire_due
due-sizes zero now f = refl
due-sizes (suc n) now f = go f.machine.queued refl (λ h. due-sizes n now h)
  where
    go
        : (xs : List Queued)
        → f.machine.queued ≡ xs
        → ((h : Firing) → (fire_due n now h).machine.sizes ≡ h.machine.sizes)
        → (fire_due (suc n) now f).machine.sizes ≡ f.machine.sizes
    go [] e again = rw (e, fire_due)
    go (x ∷ rest) e again = more (leb x.deadline now) refl
      where
        more : (b : Bool) → leb x.deadline now ≡ b → (fire_due (suc n) now f).machine.sizes ≡ f.machine.sizes
        more true d = rw (e, fire_due, d) (again (fire x rest f) ∙ fire-sizes x rest f)
        more false d = rw (e, fire_due, d)

interrupt-sizes : (now : ℕ) (m : Machine) → (interrupt now m).machine.sizes ≡ m.sizes
unfolding interrupt
interrupt-sizes now m = due-sizes (firings_owed now m.queued) now (record { machine = m; count = 0; ticks = 0; readied = [] })

-- A process that is dispatched.
checks-sizes : (b : Bool) (i r : ℕ) (m : Machine) → (checks_again b i r m).after.sizes ≡ m.sizes
unfolding open_perform open_places open_update open_outcome
checks-sizes true i r m = refl
checks-sizes false i r m = refl

tsleep-sizes : (b : Bool) (i r : ℕ) (m : Machine) → (tsleep_checks b i r m).after.sizes ≡ m.sizes
unfolding open_perform open_places open_update open_outcome open_timers
tsleep-sizes true i r m = refl
tsleep-sizes false i r m = refl

resumes-sizes : (c : Resume) (i : ℕ) (m : Machine) → (resumes c i m).after.sizes ≡ m.sizes
unfolding open_perform open_places open_update open_outcome
resumes-sizes nothing i m = refl
resumes-sizes (in_sleep r c) i m = checks-sizes (condition m c) i r m
resumes-sizes (in_tsleep r c) i m = tsleep-sizes (if is_queued (own_timer i m) m then condition m c else true) i r m
resumes-sizes (in_qlock q) i m = refl
resumes-sizes in_wait i m = either_way outs m.sizes (is_empty (process m i).exits) _ _ refl refl

sched-sizes : (m : Machine) → (sched_of m).after.sizes ≡ m.sizes
unfolding sched_of open_outcome open_update
sched-sizes m = go m.run refl
  where
    go : (xs : List ℕ) → m.run ≡ xs → (sched_of m).after.sizes ≡ m.sizes
    go [] e = rw (e, sched_of)
    go (i ∷ rest) e = rw (e, sched_of) (resumes-sizes (process m i).resume i _)

-- Each step that is done.
perform-sizes : (b : Body) (m : Machine) → (perform b m).after.sizes ≡ m.sizes
unfolding open_perform open_places open_update open_outcome open_timers without
perform-sizes (start M) m = refl
perform-sizes (rfork F M) m = either_way outs m.sizes (not (has F RFPROC)) _ _ refl (either_way outs m.sizes (has F RFNOWAIT) _ _ refl refl)
perform-sizes (name BYTES) m = refl
perform-sizes sched m = sched-sizes m
perform-sizes yield m = refl
perform-sizes (sleep R C) m = either_way outs m.sizes (condition m C) _ _ refl refl
perform-sizes (tsleep R C S N NOW) m = either_way outs m.sizes (condition m C) _ _ refl refl
perform-sizes (wakeup R) m = wake-sizes R m
perform-sizes (qlock Q) m = either_way outs m.sizes (lock m Q).held _ _ refl refl
perform-sizes (canqlock Q) m = either_way outs m.sizes (lock m Q).held _ _ refl refl
perform-sizes (qunlock Q) m = hand_sizes Q m
perform-sizes (cond C v) m = refl
perform-sizes (clock NOW) m = refl
perform-sizes (tadd T KIND S N R NOW) m = refl
perform-sizes (tdel T) m = refl
perform-sizes (intr NOW) m = interrupt-sizes NOW (with_last_now NOW m)
perform-sizes due m = refl
perform-sizes (exit BYTES) m = tell-sizes (process m (current m)) BYTES (without (current m) m)
perform-sizes wait m = either_way outs m.sizes (is_empty (process m (current m)).exits) _ _ refl refl

-- And each, done or refused.
pub sizes_step : (m : Machine) (s : Step) → (step_of m s).after.sizes ≡ m.sizes
unfolding step_of refusing left_by open_update
sizes_step m s = go (refusal m s) refl
  where
    go : (o : Option ℕ) → refusal m s ≡ o → (step_of m s).after.sizes ≡ m.sizes
    go none e = rw (e, step_of) (perform-sizes s.body m)
    go (some n) e =
        rw (e, step_of)
        (either_way (λ (x : Machine). x.sizes) m.sizes (eqb n 11 && on 2 "rfork" (λ F M. eqb M 3) s.body) _ m refl refl)

-- And whatever is handed in.
pub sizes-outcome : (m : Machine) (o : Option Step) (buffer : ℕ) → (outcome_of m o buffer).after.sizes ≡ m.sizes
unfolding outcome_of refusing
sizes-outcome m none buffer = refl
sizes-outcome m (some s) buffer = either_way outs m.sizes (ltb buffer 127) _ _ refl (sizes_step m s)
