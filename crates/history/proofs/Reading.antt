-- Each change, read from its event, leaves what is read in agreement with what is held.
use Rattle.std.specs.Prelude.{◌≡◌, true, false, List, [], ◌∷◌, ◌++◌, ℕ, ◌≤◌, ◌<◌}
use Rattle.std.proofs.Common.{sym, ap, ◌∙◌, subst, arith}
use Rattle.std.proofs.Math.Option.{Option, none, some}
use Rattle.machine.specs.Basics.{count}
use Rattle.machine.specs.Machine.{Resume, nothing, in_sleep, in_tsleep, in_qlock, in_wait}
use Rattle.machine.specs.Good.{SleepsOn}
use Rattle.history.specs.History.{Place, absent, running, in_run_queue, on_rendez, on_own_waitr, in_lock_queue, at}
use Rattle.history.proofs.Lists.{at_same, at_other, at_cases}
use Rattle.history.proofs.View.{View, runs_v, again_v, waits_again_v, yields_v, sleeps_v, waits_v, queues_v, gone_v}
use Rattle.history.proofs.Agrees.{Held, OldFits, Apart, still_in, in_tail}

-- who runs is in no other place
abbrev pub Alone : View → Type 0
Alone v = (i : ℕ) (p : Place) → v.up ≡ some i → Held v i p → p ≡ running

pub not_none : {A : Type 0} (o : Option A) (a : A) → o ≡ none → o ≡ some a → ⊥
not_none o a e d = let z : ◌≡◌ {A = ℕ} 0 1 = cc in omega arith

-- whoever does not move, stays: the head of the run queue leaves
module _ (v : View) (i : ℕ) (rest : List ℕ) (u : v.up ≡ none) (e : v.run ≡ i ∷ rest) where
  behind : (j : ℕ) → (j ≡ i → ⊥) → 1 ≤ count j v.run → 1 ≤ count j rest
  behind j n h = in_tail j i rest n (subst (λ (l : List ℕ). 1 ≤ count j l) e h)

  pub run-others : (j : ℕ) (p : Place) → (j ≡ i → ⊥) → Held v j p → Held (runs_v i rest v) j p
  run-others j absent n h = h
  run-others j running n h = absurd (not_none v.up j u h)
  run-others j in_run_queue n h = behind j n h
  run-others j (on_rendez r) n h = h
  run-others j on_own_waitr n h = h
  run-others j (in_lock_queue q) n h = h

  pub doze_others : (r : ℕ) → v.sleeper r ≡ none → (j : ℕ) (p : Place) → (j ≡ i → ⊥) → Held v j p → Held (again_v i rest r v) j p
  doze_others r s j absent n h = h
  doze_others r s j running n h = absurd (not_none v.up j u h)
  doze_others r s j in_run_queue n h = behind j n h
  doze_others r s j (on_rendez t) n h = at_other r (some i) v.sleeper t (λ (d : r ≡ t). not_none (v.sleeper r) j s (ap v.sleeper d ∙ h)) ∙ h
  doze_others r s j on_own_waitr n h = h
  doze_others r s j (in_lock_queue q) n h = h

  pub waitr-others : (j : ℕ) (p : Place) → (j ≡ i → ⊥) → Held v j p → Held (waits_again_v i rest v) j p
  waitr-others j absent n h = h
  waitr-others j running n h = absurd (not_none v.up j u h)
  waitr-others j in_run_queue n h = behind j n h
  waitr-others j (on_rendez t) n h = h
  waitr-others j on_own_waitr n h = at_other i true v.on_waitr j (λ (d : i ≡ j). n (sym d)) ∙ h
  waitr-others j (in_lock_queue q) n h = h

-- who runs leaves
module _ (v : View) (i : ℕ) (u : v.up ≡ some i) where
  not-up : (j : ℕ) → (j ≡ i → ⊥) → v.up ≡ some j → ⊥
  not-up j n h = n (let d : some j ≡ some i = sym h ∙ u in cc)

  pub yield-others : (j : ℕ) (p : Place) → (j ≡ i → ⊥) → Held v j p → Held (yields_v i v) j p
  yield-others j absent n h = h
  yield-others j running n h = absurd (not-up j n h)
  yield-others j in_run_queue n h = still_in j i v.run h
  yield-others j (on_rendez t) n h = h
  yield-others j on_own_waitr n h = h
  yield-others j (in_lock_queue q) n h = h

  pub sleep-others : (r : ℕ) (call : Resume) → v.sleeper r ≡ none → (j : ℕ) (p : Place) → (j ≡ i → ⊥) → Held v j p → Held (sleeps_v i r call v) j p
  sleep-others r call s j absent n h = h
  sleep-others r call s j running n h = absurd (not-up j n h)
  sleep-others r call s j in_run_queue n h = h
  sleep-others r call s j (on_rendez t) n h = at_other r (some i) v.sleeper t (λ (d : r ≡ t). not_none (v.sleeper r) j s (ap v.sleeper d ∙ h)) ∙ h
  sleep-others r call s j on_own_waitr n h = h
  sleep-others r call s j (in_lock_queue q) n h = h

  pub wait-others : (j : ℕ) (p : Place) → (j ≡ i → ⊥) → Held v j p → Held (waits_v i v) j p
  wait-others j absent n h = h
  wait-others j running n h = absurd (not-up j n h)
  wait-others j in_run_queue n h = h
  wait-others j (on_rendez t) n h = h
  wait-others j on_own_waitr n h = at_other i true v.on_waitr j (λ (d : i ≡ j). n (sym d)) ∙ h
  wait-others j (in_lock_queue q) n h = h

  pub queue-others : (q j : ℕ) (p : Place) → (j ≡ i → ⊥) → Held v j p → Held (queues_v i q v) j p
  queue-others q j absent n h = h
  queue-others q j running n h = absurd (not-up j n h)
  queue-others q j in_run_queue n h = h
  queue-others q j (on_rendez t) n h = h
  queue-others q j on_own_waitr n h = h
  queue-others q j (in_lock_queue s) n h =
      at_cases (λ (l : List ℕ). 1 ≤ count j l) q (v.waiters q ++ i ∷ []) v.waiters s
      (λ d. still_in j i (v.waiters q) (subst (λ (x : ℕ). 1 ≤ count j (v.waiters x)) (sym d) h)) (λ d. h)

  pub gone-others : (j : ℕ) (p : Place) → (j ≡ i → ⊥) → Held v j p → Held (gone_v i v) j p
  gone-others j absent n h = h
  gone-others j running n h = absurd (not-up j n h)
  gone-others j in_run_queue n h = h
  gone-others j (on_rendez t) n h = h
  gone-others j on_own_waitr n h = at_other i false v.on_waitr j (λ (d : i ≡ j). n (sym d)) ∙ h
  gone-others j (in_lock_queue q) n h = h

-- the call of i changes, and where it last went asleep with it
pub old_move : (v : View) → Apart v → (i : ℕ) → 0 < v.pid i → (call : Resume) (p : Place) → OldFits call p → (old : ℕ → Place)
    → ((j : ℕ) → 0 < v.pid j → OldFits (v.resume j) (old (v.pid j)))
    → (j : ℕ) → 0 < v.pid j → OldFits (at i call v.resume j) (at (v.pid i) p old (v.pid j))
old_move v apart i l call p fits old h j lj =
    at_cases (λ (c : Resume). OldFits c (at (v.pid i) p old (v.pid j))) i call v.resume j
    (λ d. subst (λ (q : Place). OldFits call q) (sym (at_same (v.pid i) p old) ∙ ap (at (v.pid i) p old) (ap v.pid d)) fits)
    (λ d. subst (λ (q : Place). OldFits (v.resume j) q) (sym (at_other (v.pid i) p old (v.pid j) (λ (t : v.pid i ≡ v.pid j). d (apart i j l t)))) (h j lj))

-- the call of i has returned
pub old-gone : (v : View) (i : ℕ) (old : ℕ → Place) → ((j : ℕ) → 0 < v.pid j → OldFits (v.resume j) (old (v.pid j)))
    → (j : ℕ) → 0 < v.pid j → OldFits (at i nothing v.resume j) (old (v.pid j))
old-gone v i old h j lj = at_cases (λ (c : Resume). OldFits c (old (v.pid j))) i nothing v.resume j (λ d. tt) (λ d. h j lj)

pub fits-rendez : (r : ℕ) (call : Resume) → SleepsOn r call → OldFits call (on_rendez r)
fits-rendez r nothing h = tt
fits-rendez r (in_sleep s c) h = ap on_rendez (sym h)
fits-rendez r (in_tsleep s c) h = ap on_rendez (sym h)
fits-rendez r (in_qlock q) h = tt
fits-rendez r in_wait h = absurd h

pub old-rendez : (r : ℕ) (call : Resume) (p : Place) → SleepsOn r call → OldFits call p → p ≡ on_rendez r
old-rendez r nothing p h f = absurd h
old-rendez r (in_sleep s c) p h f = f ∙ ap on_rendez h
old-rendez r (in_tsleep s c) p h f = f ∙ ap on_rendez h
old-rendez r (in_qlock q) p h f = absurd h
old-rendez r in_wait p h f = absurd h
