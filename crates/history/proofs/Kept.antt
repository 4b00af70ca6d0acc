-- What `Demand3` rests on holds of every machine that steps make from a fresh one.
use Rattle.std.specs.Prelude.{◌≡◌, refl, List, ℕ, suc, ◌+◌, ◌≤◌, ◌<◌}
use Rattle.std.proofs.Common.{sym, ap, ◌∙◌, subst, arith}
use Rattle.machine.specs.Machine.{Machine, Sizes, Resume, nothing, in_sleep, in_tsleep, in_qlock, in_wait, process, pid_of}
use Rattle.machine.specs.Good.{SleepsOn}
use Rattle.history.specs.History.{Input, gives, Says, at}
use Rattle.history.proofs.Lists.{at_cases}
use Rattle.history.proofs.View.{View, view, Wakes, nobody, ticking, from_rendez, from_lock, from_waitr, ◌next◌, Change, wakes, makes, dispatches, dozes, waits_on, gives_way, goes_asleep, waits, queues, leaves, spends}
use Rattle.history.proofs.Sound.{CallFits, Sound}
use Rattle.history.proofs.Gives.{gives_changes}
use Rattle.history.proofs.Sums.{to-view, from_view}
use Rattle.history.proofs.OneKept.{change_one}
use Rattle.history.proofs.Ticks.{change_ticks}

-- what no change touches, and what a waking leaves
abbrev Frame : Type 0
Frame = record { rendezs : ℕ; lock_count : ℕ; sizes : Sizes }

abbrev frame : View → Frame
frame v = record { rendezs = v.rendezs; lock_count = v.lock_count; sizes = v.sizes }

abbrev Rest : Type 0
Rest = record { pid : ℕ → ℕ; resume : ℕ → Resume; quantum_end : ℕ → ℕ; next_pid : ℕ; frame : Frame }

abbrev rest : View → Rest
rest v = record { pid = v.pid; resume = v.resume; quantum_end = v.quantum_end; next_pid = v.next_pid; frame = frame v }

wakes-rest : {v w : View} {rs : List ℕ} {f : ℕ} → Wakes v rs f w → rest w ≡ rest v
wakes-rest nobody = refl
wakes-rest ticking = refl
wakes-rest (from_rendez r i there e) = refl
wakes-rest (from_lock q i rest there e) = refl
wakes-rest (from_waitr i e) = refl
wakes-rest (a next b) = wakes-rest b ∙ wakes-rest a

change_frame : {v w : View} {says : Says} {rs ds : List ℕ} {f : ℕ} → Change v says rs ds f w → frame w ≡ frame v
change_frame (wakes a) = ap (λ (r : Rest). r.frame) (wakes-rest a)
change_frame (makes i n same pos unused under out) = refl
change_frame (dispatches i rest u e l) = refl
change_frame (dozes i rest r there u e l s t) = refl
change_frame (waits_on i rest u e l t) = refl
change_frame (gives_way i u l) = refl
change_frame (goes_asleep i r call there u l s t) = refl
change_frame (waits i u l) = refl
change_frame (queues i q there u l) = refl
change_frame (leaves i u l out a) = ap (λ (r : Rest). r.frame) (wakes-rest a)
change_frame spends = refl

-- the calls
call_fits : (R L r : ℕ) (call : Resume) → r < R → SleepsOn r call → CallFits R L call
call_fits R L r nothing l s = tt
call_fits R L r (in_sleep t c) l s = subst (λ (x : ℕ). x < R) (sym s) l
call_fits R L r (in_tsleep t c) l s = subst (λ (x : ℕ). x < R) (sym s) l
call_fits R L r (in_qlock q) l s = absurd s
call_fits R L r in_wait l s = tt

abbrev Calls : View → (ℕ → Resume) → Type 0
Calls v resume = (i : ℕ) → CallFits v.rendezs v.lock_count (resume i)

calls_at : (v : View) (resume : ℕ → Resume) → Calls v resume → (i : ℕ) (call : Resume) → CallFits v.rendezs v.lock_count call → Calls v (at i call resume)
calls_at v resume h i call c j = at_cases (CallFits v.rendezs v.lock_count) i call resume j (λ d. c) (λ d. h j)

change_calls : {v w : View} {says : Says} {rs ds : List ℕ} {f : ℕ} → Change v says rs ds f w → Calls v v.resume → Calls v w.resume
change_calls {v} (wakes a) h = subst (λ (r : Rest). Calls v r.resume) (sym (wakes-rest a)) h
change_calls {v} (makes i n same pos unused under out) h = calls_at v v.resume h i nothing tt
change_calls {v} (dispatches i rest u e l) h = calls_at v v.resume h i nothing tt
change_calls (dozes i rest r there u e l s t) h = h
change_calls (waits_on i rest u e l t) h = h
change_calls (gives_way i u l) h = h
change_calls {v} (goes_asleep i r call there u l s t) h = calls_at v v.resume h i call (call_fits v.rendezs v.lock_count r call there t)
change_calls {v} (waits i u l) h = calls_at v v.resume h i in_wait tt
change_calls {v} (queues i q there u l) h = calls_at v v.resume h i (in_qlock q) there
change_calls {v} (leaves i u l out a) h = subst (λ (r : Rest). Calls v r.resume) (sym (wakes-rest a)) (calls_at v v.resume h i nothing tt)
change_calls spends h = h

-- living pids differ
abbrev Apart : (ℕ → ℕ) → Type 0
Apart pid = (i j : ℕ) → 0 < pid i → pid i ≡ pid j → i ≡ j

made-apart : (pid : ℕ → ℕ) → Apart pid → (i n : ℕ) → ((j : ℕ) → pid j < n) → Apart (at i n pid)
made-apart pid h i n under j k l e =
    at_cases (λ (a : ℕ). 0 < a → a ≡ at i n pid k → j ≡ k) i n pid j
    (λ d t x. at_cases (λ (b : ℕ). n ≡ b → j ≡ k) i n pid k (λ d' y. sym d ∙ d') (λ d' y. absurd (omega (arith, under k))) x)
    (λ d t x. at_cases (λ (b : ℕ). pid j ≡ b → j ≡ k) i n pid k (λ d' y. absurd (omega (arith, under j))) (λ d' y. h j k t y) x)
    l e

gone-apart : (pid : ℕ → ℕ) → Apart pid → (i : ℕ) → Apart (at i 0 pid)
gone-apart pid h i j k l e =
    at_cases (λ (a : ℕ). 0 < a → a ≡ at i 0 pid k → j ≡ k) i 0 pid j
    (λ d t x. absurd (omega arith))
    (λ d t x. at_cases (λ (b : ℕ). pid j ≡ b → j ≡ k) i 0 pid k (λ d' y. absurd (omega arith)) (λ d' y. h j k t y) x)
    l e

change_apart : {v w : View} {says : Says} {rs ds : List ℕ} {f : ℕ} → Change v says rs ds f w → Apart v.pid → Apart w.pid
change_apart (wakes a) h = subst (λ (r : Rest). Apart r.pid) (sym (wakes-rest a)) h
change_apart {v} (makes i n same pos unused under out) h = made-apart v.pid h i n under
change_apart (dispatches i rest u e l) h = h
change_apart (dozes i rest r there u e l s t) h = h
change_apart (waits_on i rest u e l t) h = h
change_apart (gives_way i u l) h = h
change_apart (goes_asleep i r call there u l s t) h = h
change_apart (waits i u l) h = h
change_apart (queues i q there u l) h = h
change_apart {v} (leaves i u l out a) h = subst (λ (r : Rest). Apart r.pid) (sym (wakes-rest a)) (gone-apart v.pid h i)
change_apart spends h = h

-- from 1 to below the next pid
pub record Below (pid : ℕ → ℕ) (next_pid : ℕ) : Type 0 where
  pub positive : 1 ≤ next_pid
  pub below : (i : ℕ) → pid i < next_pid

change_below : {v w : View} {says : Says} {rs ds : List ℕ} {f : ℕ} → Change v says rs ds f w → Below v.pid v.next_pid → Below w.pid w.next_pid
change_below (wakes a) h = subst (λ (r : Rest). Below r.pid r.next_pid) (sym (wakes-rest a)) h
change_below {v} (makes i n same pos unused under out) h =
    record { positive = omega arith; below = λ j. at_cases (λ (a : ℕ). a < suc v.next_pid) i n v.pid j (λ d. omega arith) (λ d. omega (arith, h.below j)) }
change_below (dispatches i rest u e l) h = h
change_below (dozes i rest r there u e l s t) h = h
change_below (waits_on i rest u e l t) h = h
change_below (gives_way i u l) h = h
change_below (goes_asleep i r call there u l s t) h = h
change_below (waits i u l) h = h
change_below (queues i q there u l) h = h
change_below {v} (leaves i u l out a) h =
    subst (λ (r : Rest). Below r.pid r.next_pid) (sym (wakes-rest a))
    (record { positive = h.positive; below = λ j. at_cases (λ (b : ℕ). b < v.next_pid) i 0 v.pid j (λ d. h.positive) (λ d. h.below j) })
change_below {v} spends h = record { positive = omega arith; below = λ j. omega (arith, h.below j) }

-- quantum_end is at most ticks + 10
abbrev Quanta : View → (ℕ → ℕ) → Type 0
Quanta v quantum_end = (i : ℕ) → quantum_end i ≤ v.ticks + 10

quanta-at : (v : View) (q : ℕ → ℕ) → Quanta v q → (i n : ℕ) → n ≤ v.ticks + 10 → Quanta v (at i n q)
quanta-at v q h i n l j = at_cases (λ (a : ℕ). a ≤ v.ticks + 10) i n q j (λ d. l) (λ d. h j)

change_quanta : {v w : View} {says : Says} {rs ds : List ℕ} {f : ℕ} → Change v says rs ds f w → Quanta v v.quantum_end → Quanta v w.quantum_end
change_quanta {v} (wakes a) h = subst (λ (r : Rest). Quanta v r.quantum_end) (sym (wakes-rest a)) h
change_quanta {v} (makes i n same pos unused under out) h = quanta-at v v.quantum_end h i 0 (omega arith)
change_quanta {v} (dispatches i rest u e l) h = quanta-at v v.quantum_end h i (v.ticks + 10) (omega arith)
change_quanta {v} (dozes i rest r there u e l s t) h = quanta-at v v.quantum_end h i (v.ticks + 10) (omega arith)
change_quanta {v} (waits_on i rest u e l t) h = quanta-at v v.quantum_end h i (v.ticks + 10) (omega arith)
change_quanta (gives_way i u l) h = h
change_quanta (goes_asleep i r call there u l s t) h = h
change_quanta (waits i u l) h = h
change_quanta (queues i q there u l) h = h
change_quanta {v} (leaves i u l out a) h =
    subst (λ (r : Rest). Quanta v r.quantum_end) (sym (wakes-rest a)) (quanta-at v v.quantum_end h i 0 (omega arith))
change_quanta spends h = h

-- Kept by every input, refused or done.
pub sound-gives : (m : Machine) → Sound m → (x : Input) → Sound (gives m x).after
sound-gives m s x =
    let n : Machine = (gives m x).after in
    let c = gives_changes m s x in
    let e : frame (view n) ≡ frame (view m) = change_frame c in
    let b : Below (pid_of n) n.next_pid = change_below c (record { positive = s.next_pid; below = s.below }) in
    record {
      rendez = ap (λ (f : Frame). f.rendezs) e ∙ s.rendez ∙ sym (ap (λ (f : Frame). f.sizes.rendez) e);
      locks = ap (λ (f : Frame). f.lock_count) e ∙ s.locks ∙ sym (ap (λ (f : Frame). f.sizes.locks) e);
      calls = λ i. subst (λ (f : Frame). CallFits f.rendezs f.lock_count (process n i).resume) (sym e) (change_calls c s.calls i);
      next_pid = b.positive;
      in_one_place = from_view n (change_one c (to-view m s.in_one_place));
      apart = change_apart c s.apart;
      below = b.below;
      quantum = λ i. let q : (process n i).quantum_end ≤ m.ticks + 10 = change_quanta c s.quantum i in let t = change_ticks c in omega arith;
    }
