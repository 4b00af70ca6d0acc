-- `interrupt` never stops for its bound on the firings: when it ends, no queued timer at the head is due.
use Rattle.std.specs.Prelude.{if◌then◌else◌, ◌≡◌, refl, Bool, true, false, List, [], ◌∷◌, ℕ, zero, suc, ◌+◌, ◌-◌, ◌≤◌, ◌<◌, eqb, leb, ltb}
use Rattle.std.proofs.Common.{ap, subst, arith, leb-true, leb-false}
use Rattle.std.proofs.Math.Option.{Option, none, some}
use Rattle.std.proofs.lemmas.Bool.{eqb-false}
use Rattle.machine.specs.Machine.{Machine, Queued, Resume, nothing, in_sleep, in_tsleep, in_qlock, in_wait, process, setting, sleeper}
use Rattle.machine.specs.Update.{with_ticks, with_queued, with_run, with_sleeper}
use Rattle.machine.specs.Places.{Woken, ready, wake}
use Rattle.machine.specs.NoneDue.{NoneDue}
use Rattle.machine.specs.Timers.{insert, twakeup, callback, period_of, readd, Firing, fire, fire_due, firings_owed, interrupt}

-- An inserted timer owes its own firings, and the others theirs.
owed-insert : (now : ℕ) (t : Queued) (xs : List Queued) → firings_owed now (insert t xs) ≡ (suc now - t.deadline) + firings_owed now xs
unfolding firings_owed insert
owed-insert now t [] = refl
owed-insert now t (x ∷ xs) = go (leb x.deadline t.deadline) (owed-insert now t xs)
  where
    go
        : (b : Bool)
        → firings_owed now (insert t xs) ≡ (suc now - t.deadline) + firings_owed now xs
        → firings_owed now (if b then x ∷ insert t xs else t ∷ x ∷ xs) ≡ (suc now - t.deadline) + firings_owed now (x ∷ xs)
    go true h = omega arith
    go false h = refl

-- Waking changes no timer.
wake-queued : (r : ℕ) (m : Machine) → (wake r m).machine.queued ≡ m.queued
unfolding wake ready with_run with_sleeper
wake-queued r m = go (sleeper m r) refl
  where
    go : (o : Option ℕ) → sleeper m r ≡ o → (wake r m).machine.queued ≡ m.queued
    go none e = rw (e, wake)
    go (some i) e = rw (e, wake)

twakeup-queued : (resume : Resume) (m : Machine) → (twakeup resume m).machine.queued ≡ m.queued
unfolding twakeup
twakeup-queued nothing m = refl
twakeup-queued (in_sleep r c) m = refl
twakeup-queued (in_tsleep r c) m = wake-queued r m
twakeup-queued (in_qlock q) m = refl
twakeup-queued in_wait m = refl

-- What a timer does changes no timer.
callback-queued : (t : ℕ) (m : Machine) → (callback t m).machine.queued ≡ m.queued
unfolding callback with_ticks
callback-queued t m = go (eqb t 0) (ltb t m.sizes.timers)
  where
    go
        : (a b : Bool)
        → (if a
        then record { machine = with_ticks (suc m.ticks) m; readied = [] }
        else if b then wake (setting m t).rendez m else twakeup (process m (t - m.sizes.timers)).resume m).machine.queued
        ≡ m.queued
    go true b = refl
    go false true = wake-queued (setting m t).rendez m
    go false false = twakeup-queued (process m (t - m.sizes.timers)).resume m

-- A timer that was due owes fewer firings once it is added again, and one that is not added none.
readd-owed : (now : ℕ) (x : Queued) (m : Machine) → x.deadline ≤ now → firings_owed now (readd x m).queued < (suc now - x.deadline) + firings_owed now m.queued
unfolding readd with_queued
readd-owed now x m h = go (eqb (period_of x.timer m) 0) refl
  where
    go : (b : Bool) → eqb (period_of x.timer m) 0 ≡ b → firings_owed now (readd x m).queued < (suc now - x.deadline) + firings_owed now m.queued
    go true e = rw (e, readd) (omega arith)
    go false e = rw (e, readd) (rw owed-insert (omega (arith, eqb-false (period_of x.timer m) 0 e)))

-- A firing leaves fewer to come.
pub fire-owed : (now : ℕ) (x : Queued) (rest : List Queued) (f : Firing) → x.deadline ≤ now → firings_owed now (fire x rest f).machine.queued < firings_owed now (x ∷ rest)
unfolding fire firings_owed with_queued
fire-owed now x rest f h =
    let w : Woken = callback x.timer (with_queued rest f.machine) in
    let e : w.machine.queued ≡ rest = callback-queued x.timer (with_queued rest f.machine) in
    subst (λ (q : List Queued). firings_owed now (readd x w.machine).queued < (suc now - x.deadline) + firings_owed now q) e (readd-owed now x w.machine h)

none-owed : (now : ℕ) (q : List Queued) → firings_owed now q ≤ 0 → NoneDue now q
unfolding firings_owed
none-owed now [] h = tt
none-owed now (x ∷ xs) h = omega arith

-- With a bound that covers what is owed, firing ends with nothing due.
due-ends : (n now : ℕ) (f : Firing) → firings_owed now f.machine.queued ≤ n → NoneDue now (fire_due n now f).machine.queued
unfolding fire_due
due-ends zero now f h = none-owed now f.machine.queued h
due-ends (suc n) now f h = go f.machine.queued refl (λ g l. due-ends n now g l)
  where
    go
        : (q : List Queued)
        → f.machine.queued ≡ q
        → ((g : Firing) → firings_owed now g.machine.queued ≤ n → NoneDue now (fire_due n now g).machine.queued)
        → NoneDue now (fire_due (suc n) now f).machine.queued
    go [] e again = rw (e, fire_due) (rw e tt)
    go (x ∷ rest) e again = fires (leb x.deadline now) refl
      where
        fires : (b : Bool) → leb x.deadline now ≡ b → NoneDue now (fire_due (suc n) now f).machine.queued
        fires true d =
            rw (e, fire_due, d)
            (again (fire x rest f)
            (omega (arith, fire-owed now x rest f (leb-true x.deadline now d), ap (firings_owed now) e)))
        fires false d = rw (e, fire_due, d) (rw e (leb-false x.deadline now d))

pub interrupt-ends : (now : ℕ) (m : Machine) → NoneDue now (interrupt now m).machine.queued
unfolding interrupt
interrupt-ends now m = due-ends (firings_owed now m.queued) now (record { machine = m; count = 0; ticks = 0; readied = [] }) (omega arith)
