-- `name`, `yield`, `sleep` and `tsleep` are changes of `View.antt`.
use Rattle.std.specs.Prelude.{◌≡◌, refl, Bool, true, false, not, ◌&&◌, ◌||◌, List, [], ◌++◌, ℕ, ◌-◌, ◌<◌, ltb, length, replicate}
use Rattle.std.proofs.Common.{sym, ap, ◌∙◌, subst, arith, ltb-true, length-set}
use Rattle.std.proofs.Math.Option.{Option, none, some}
use Rattle.machine.specs.Basics.{is_none, is_some, elem}
use Rattle.machine.specs.Machine.{Machine, Process, Resume, in_sleep, in_tsleep, free, process, sleeper, condition, pid_of, open_machine}
use Rattle.machine.specs.Update.{with_name, with_resume, with_last_now, open_update}
use Rattle.machine.specs.Step.{name, yield, sleep, tsleep, open_step}
use Rattle.machine.specs.Outcome.{open_outcome}
use Rattle.machine.specs.Places.{sleep_on, open_places}
use Rattle.machine.specs.Timers.{add, delete}
use Rattle.machine.specs.Table.{taken, refusal, open_table}
use Rattle.machine.specs.Perform.{current, name_of, yield_of, sleep_of, tsleep_of}
use Rattle.machine.specs.Good.{SleepsOn}
use Rattle.kept.specs.Allowed.{allowed}
use Rattle.history.proofs.Sound.{Sound}
use Rattle.history.specs.History.{on_rendez, Says, open_history}
use Rattle.history.proofs.Lists.{get_or-set, get_or-set_kept, and_left, and_true}
use Rattle.history.proofs.View.{View, view, sleeps_v, nobody, Change, wakes, gives_way, goes_asleep}
use Rattle.history.proofs.Facts.{has_record}
use Rattle.history.proofs.Waking.{view_ext, view-kept}
use Rattle.history.proofs.Changes.{Changes, into, unseen, up-current, up-lives, step}

pub name_changes : (m : Machine) (k : Bool) (BYTES : List ℕ) → Changes m (step k (name BYTES)) (name_of BYTES m)
unfolding name_of open_outcome open_history open_update
name_changes m k BYTES =
    unseen (view-kept (current m) (with_name (BYTES ++ replicate (28 - length BYTES) 0) (process m (current m))) m refl refl refl refl)

-- each step that needs one who runs
pub yield_changes : (m : Machine) → Sound m → (k : Bool) → refusal m (step k yield) ≡ none → Changes m (step k yield) (yield_of m)
unfolding yield_of open_outcome open_history open_update open_places open_table open_step elem open_machine
yield_changes m g k h =
    let u : m.up ≡ some (current m) = up-current m (and_true (is_none m.up) (allowed m (step k yield) h 4 refl)) in
    gives_way (current m) u (up-lives m g (current m) u)

-- asleep on a free Rendez
sleep_on-view : (i r : ℕ) (call : Resume) (m : Machine) → i < length m.processes → r < length m.sleepers → view (sleep_on i r call m) ≡ sleeps_v i r call (view m)
unfolding open_machine open_update open_places
sleep_on-view i r call m there room =
    let p : Process = with_resume call (process m i) in
    view_ext refl refl (λ k. get_or-set (λ (x : Option ℕ). x) m.sleepers r (some i) none k room) (λ q. refl)
    (λ k. get_or-set_kept (λ (x : Process). x.on_waitr) m.processes i p free k refl)
    (λ k. get_or-set_kept (λ (x : Process). x.pid) m.processes i p free k refl)
    (λ k. get_or-set (λ (x : Process). x.resume) m.processes i p free k there)
    (λ k. get_or-set_kept (λ (x : Process). x.quantum_end) m.processes i p free k refl)
    refl (length-set m.sleepers r (some i)) refl refl refl

-- n is the machine once its timer is added
sleeps_changes : (m n : Machine) → Sound m → (R : ℕ) (call : Resume)
    → view n ≡ view m
    → length n.sleepers ≡ length m.sleepers
    → R < m.sizes.rendez
    → is_none m.up ≡ false
    → sleeper m R ≡ none
    → SleepsOn R call
    → Change (view m) (Says.sleeps (on_rendez R)) [] [] 0 (view (sleep_on (current m) R call n))
sleeps_changes m n g R call same long in_range_lem busy room fits =
    let i : ℕ = current m in
    let u : m.up ≡ some i = up-current m busy in
    let l : 0 < pid_of m i = up-lives m g i u in
    let l' : 0 < pid_of n i = subst (λ (v : View). 0 < v.pid i) (sym same) l in
    into (sleep_on-view i R call n (has_record n i l') (omega (arith, g.rendez)) ∙ ap (sleeps_v i R call) same)
    (goes_asleep i R call (omega (arith, g.rendez)) u l room fits)

free-there : (m : Machine) (R C : ℕ) → condition m C ≡ false → taken m R C ≡ false → sleeper m R ≡ none
unfolding taken
free-there m R C c h = go (sleeper m R) (rw c at h)
  where
    go : (o : Option ℕ) → is_some o ≡ false → o ≡ none
    go none e = refl
    go (some j) e = absurd (let z : ◌≡◌ {A = ℕ} 0 1 = cc in omega arith)

or_false : (a b : Bool) → (a || b) ≡ false → a ≡ false
or_false true b h = h
or_false false b h = refl

sleep-facts : (m : Machine) (k : Bool) (R C : ℕ) → refusal m (step k (sleep R C)) ≡ none → condition m C ≡ false
    → (R < m.sizes.rendez) × (is_none m.up ≡ false) × (sleeper m R ≡ none)
unfolding open_table open_step elem
sleep-facts m k R C h c = (
  ltb-true R m.sizes.rendez (and_left (ltb R m.sizes.rendez) (ltb C 256) (allowed m (step k (sleep R C)) h 2 refl)),
  and_true (is_none m.up) (rw c at (allowed m (step k (sleep R C)) h 4 refl)),
  free-there m R C c (or_false (taken m R C) false (or_false (taken m R C || false) false (allowed m (step k (sleep R C)) h 5 refl))),
)

pub sleep_changes : (m : Machine) → Sound m → (k : Bool) (R C : ℕ) → refusal m (step k (sleep R C)) ≡ none → Changes m (step k (sleep R C)) (sleep_of R C m)
unfolding sleep_of open_outcome open_history
sleep_changes m g k R C h = go (condition m C) refl
  where
    go : (b : Bool) → condition m C ≡ b → Changes m (step k (sleep R C)) (sleep_of R C m)
    go true c = rw (c, sleep_of) (wakes nobody)
    go false c =
        let f : (R < m.sizes.rendez) × (is_none m.up ≡ false) × (sleeper m R ≡ none) = sleep-facts m k R C h c in
        rw (c, sleep_of) (sleeps_changes m m g R (in_sleep R C) refl refl f.0 f.1 f.2 refl)

tsleep-facts : (m : Machine) (k : Bool) (R C S N NOW : ℕ) → refusal m (step k (tsleep R C S N NOW)) ≡ none → condition m C ≡ false
    → (R < m.sizes.rendez) × (is_none m.up ≡ false) × (sleeper m R ≡ none)
unfolding open_table open_step elem
tsleep-facts m k R C S N NOW h c = (
  ltb-true R m.sizes.rendez (range (ltb R m.sizes.rendez) (ltb C 256) _ _ _ (allowed m (step k (tsleep R C S N NOW)) h 2 refl)),
  and_true (is_none m.up) (allowed m (step k (tsleep R C S N NOW)) h 4 refl),
  free-there m R C c (or_false (taken m R C) false (allowed m (step k (tsleep R C S N NOW)) h 5 refl)),
)
  where
    range : (a b c d e : Bool) → not (a && b && c && d && e) ≡ false → a ≡ true
    range true b c d e t = refl
    range false b c d e t = sym t

pub tsleep_changes : (m : Machine) → Sound m → (k : Bool) (R C S N NOW : ℕ) → refusal m (step k (tsleep R C S N NOW)) ≡ none → Changes m (step k (tsleep R C S N NOW)) (tsleep_of R C S N NOW m)
unfolding tsleep_of open_outcome open_history open_update open_machine add delete
tsleep_changes m g k R C S N NOW h = go (condition m C) refl
  where
    go : (b : Bool) → condition m C ≡ b → Changes m (step k (tsleep R C S N NOW)) (tsleep_of R C S N NOW m)
    go true c = rw (c, tsleep_of) (wakes nobody)
    go false c =
        let f : (R < m.sizes.rendez) × (is_none m.up ≡ false) × (sleeper m R ≡ none) = tsleep-facts m k R C S N NOW h c in
        rw (c, tsleep_of) (sleeps_changes m (add _ _ (with_last_now NOW m)) g R (in_tsleep R C) refl refl f.0 f.1 f.2 refl)
