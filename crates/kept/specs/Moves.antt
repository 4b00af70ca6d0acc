-- A process leaves a place for limbo, or enters one from there; in limbo its call may change.
use Rattle.std.proofs.Common.{eqb-true, ◌∙◌, inl, inr, arith}
use Rattle.std.proofs.lemmas.Bool.{eqb-false}
use Rattle.std.proofs.Math.Dec.{eqb}
use Rattle.std.proofs.Math.Path.{◌≡◌, refl, sym, ap, subst}
use Rattle.std.specs.Prelude.{Bool, ℕ, ◌+◌, ◌≤◌, ◌<◌, List, [], ◌∷◌, ◌++◌}
use Rattle.std.proofs.Math.Bool.{true, false}
use Rattle.std.proofs.Math.Option.{Option, none, some}
use Rattle.machine.specs.Basics.{count, concat_map}
use Rattle.machine.specs.Machine.{Resume, nothing, in_qlock, in_wait, Lock, Machine, free, process, sleeper, lock, living}
use Rattle.machine.specs.Update.{with_up, with_run, with_process, with_sleeper, with_lock, with_resume, with_on_waitr}
use Rattle.machine.specs.Places.{ready}
use Rattle.machine.specs.Good.{ProcessInRange, ResumeInRange, SleepsOn, IsTsleep, running_in}
use Rattle.lists.specs.Lists.{bit, bit-small, each-get, count_self, count-other, count-only, count-append}
use Rattle.kept.specs.Fine.{at, unheld, lock_at, waiters_of, timers_of, Fine, option_in}
use Rattle.kept.specs.SpotsLaws.{low, pid-low, spots-run, spots-sleeper, spots-lock}
use Rattle.kept.specs.FineLaws.{fine_up, fine-run, fine-sleeper, fine-lock, fine-call, counted-lives}

-- Nothing is counted in an empty list, and in limbo one process is.
pub count_none : (k : ℕ) → count k (running_in none) ≡ 0
unfolding count running_in
count_none k = refl

-- One in limbo is counted as in a list of one.
pub count-some : (k i : ℕ) → count k (running_in (some i)) ≡ count k (i ∷ [])
unfolding running_in
count-some k i = refl

module _ {w : List ℕ} (m : Machine) (f : Fine none w m) where
  -- Who is somewhere lives.
  pub up-lives : (i : ℕ) → m.up ≡ some i → 0 < (at m.processes i).pid
  up-lives i e = counted-lives m f i (omega (arith, option_in m.up i e))

  -- The runner stops running.
  pub leave-up : (i : ℕ) → m.up ≡ some i → Fine (some i) w (with_up none m)
  leave-up i e =
      fine_up m f (some i) none
      (spots-run f.spots (some i) none m.run (λ k. omega (arith, count_none k, ap {B = ℕ} (λ o. count k (running_in o)) e)) (λ k l. absurd (omega (arith, count_none k))))

  -- The head of the run queue is taken off.
  pub leave-run : (i : ℕ) (rest : List ℕ) → m.run ≡ i ∷ rest → Fine (some i) w (with_run rest m)
  unfolding count running_in
  leave-run i rest e = fine-run m f (some i) rest (spots-run f.spots (some i) m.up rest (λ k. omega (arith, ap (count k) e)) f.spots.runner)

  -- A sleeper leaves its Rendez.
  pub leave-sleeper : (r i : ℕ) → sleeper m r ≡ some i → Fine (some i) w (with_sleeper r none m)
  unfolding sleeper
  leave-sleeper r i e =
      fine-sleeper m f (some i) r none
      (spots-sleeper f.spots (some i) r none (low m.sleepers r none (λ n. let y : none ≡ some i = sym n ∙ e in let x : ◌≡◌ {A = ℕ} 0 1 = cc in omega arith))
      (λ k. omega (arith, count_none k, ap {B = ℕ} (λ o. count k (running_in o)) e))
      (λ k l. absurd (omega (arith, count_none k))))

  -- The first waiter leaves a lock's queue, and the lock stays held.
  pub leave-lock : (q i : ℕ) (rest : List ℕ) → (lock m q).waiters ≡ i ∷ rest → Fine (some i) w (with_lock q (record { held = true; waiters = rest }) m)
  unfolding lock count running_in
  leave-lock q i rest e =
      fine-lock m f (some i) q (record { held = true; waiters = rest })
      (spots-lock f.spots (some i) q (record { held = true; waiters = rest })
      (low m.locks q unheld (λ n. let y : i ∷ rest ≡ [] = sym e ∙ ap {B = List ℕ} (λ x. x.waiters) n in let x : ◌≡◌ {A = ℕ} 0 1 = cc in omega arith))
      (λ k. omega (arith, ap (count k) e))
      (λ k l. f.spots.queuer q k (omega (arith, ap (count k) e)))
      (λ n. let x : ◌≡◌ {A = ℕ} 0 1 = cc in absurd (omega arith)))

  -- One on its own waitr leaves it.
  pub leave-waitr : (i : ℕ) → (process m i).on_waitr ≡ true → Fine (some i) w (with_process i (with_on_waitr false (process m i)) m)
  unfolding process with_on_waitr
  leave-waitr i e =
      let a : 0 < (at m.processes i).pid = counted-lives m f i (omega (arith, ap bit e)) in
      let p : ProcessInRange m.sizes (at m.processes i) = each-get (ProcessInRange m.sizes) m.processes i free f.records.each (pid-low m.processes i a) in
      fine-call m f (some i) i (with_on_waitr false (process m i)) a refl refl refl refl refl
      (record { name = p.name; bytes = p.bytes; exits = p.exits; each = p.each; resume = p.resume })
      (f.tsleeping i)
      (λ k d. count-some k i ∙ count-other k i d ∙ sym (count_none k))
      (omega (arith, count-some i i, count_self i, count_none i, ap bit e))
      (inl refl)
      (λ n. let x : ◌≡◌ {A = ℕ} 0 1 = cc in absurd (omega arith))

module _ {w : List ℕ} {i : ℕ} (m : Machine) (f : Fine (some i) w m) where
  -- Who is in limbo lives, and is nowhere else.
  pub limbo-lives : 0 < (at m.processes i).pid
  limbo-lives = counted-lives m f i (omega (arith, count-some i i, count_self i))

  -- In no place is anybody counted who is in limbo.
  pub limbo-only : count i (running_in m.up) + count i m.run + count i (concat_map running_in m.sleepers) + bit (at m.processes i).on_waitr + count i (concat_map waiters_of m.locks) ≡ 0
  limbo-only = omega (arith, count-some i i, count_self i, f.spots.placed i, bit-small (living (at m.processes i)))

  -- The record of one in limbo is in range.
  pub limbo-range : ProcessInRange m.sizes (at m.processes i)
  limbo-range = each-get (ProcessInRange m.sizes) m.processes i free f.records.each (pid-low m.processes i limbo-lives)

  -- It runs, where nobody does and its call has returned.
  pub enter_up : m.up ≡ none → (process m i).resume ≡ nothing → Fine none w (with_up (some i) m)
  unfolding process
  enter_up e r =
      fine_up m f none (some i)
      (spots-run f.spots none (some i) m.run (λ k. omega (arith, count_none k, ap {B = ℕ} (λ o. count k (running_in o)) e))
      (λ k l. subst (λ (j : ℕ). (at m.processes j).resume ≡ nothing) (sym (count-only k i (omega (arith, count-some k i)))) r))

  -- It is ready.
  pub enter_run : Fine none w (ready i m)
  unfolding ready
  enter_run =
      fine-run m f none (m.run ++ i ∷ [])
      (spots-run f.spots none m.up (m.run ++ i ∷ []) (λ k. omega (arith, count_none k, count-some k i, count-append k m.run (i ∷ []))) f.spots.runner)

  -- It sleeps on a Rendez where nobody does, if its call fits.
  pub enter_sleeper : (r : ℕ) → r < m.sizes.rendez → sleeper m r ≡ none → SleepsOn r (process m i).resume → Fine none w (with_sleeper r (some i) m)
  unfolding sleeper process
  enter_sleeper r l e h =
      fine-sleeper m f none r (some i)
      (spots-sleeper f.spots none r (some i) (omega (arith, f.spots.rendez))
      (λ k. omega (arith, count_none k, ap {B = ℕ} (λ o. count k (running_in o)) e))
      (λ k l. subst (λ (j : ℕ). SleepsOn r (at m.processes j).resume) (sym (count-only k i (omega (arith, count-some k i)))) h))

  -- It waits for a lock, last.
  pub enter_lock : (q : ℕ) → q < m.sizes.locks → (process m i).resume ≡ in_qlock q → Fine none w (with_lock q (record { held = true; waiters = (lock m q).waiters ++ i ∷ [] }) m)
  unfolding lock process
  enter_lock q l e =
      fine-lock m f none q (record { held = true; waiters = (lock m q).waiters ++ i ∷ [] })
      (spots-lock f.spots none q (record { held = true; waiters = (lock m q).waiters ++ i ∷ [] }) (omega (arith, f.spots.locks))
      (λ k. omega (arith, count_none k, count-some k i, count-append k (lock_at m.locks q).waiters (i ∷ [])))
      queues
      (λ n. let x : ◌≡◌ {A = ℕ} 0 1 = cc in absurd (omega arith)))
    where
      queues : (k : ℕ) → 1 ≤ count k ((lock_at m.locks q).waiters ++ i ∷ []) → (at m.processes k).resume ≡ in_qlock q
      queues k c = go (eqb k i) refl
        where
          go : (b : Bool) → eqb k i ≡ b → (at m.processes k).resume ≡ in_qlock q
          go true n = subst (λ (j : ℕ). (at m.processes j).resume ≡ in_qlock q) (sym (eqb-true k i n)) e
          go false n = f.spots.queuer q k (omega (arith, count-append k (lock_at m.locks q).waiters (i ∷ []), count-other k i (eqb-false k i n)))

  -- In limbo a call changes; with a `wait` the process may go to its own waitr at once.
  pub change_call : (r : Resume) → ResumeInRange m.sizes r → (1 ≤ count (m.sizes.timers + i) (timers_of m.queued) → IsTsleep r) → Fine (some i) w (with_process i (with_resume r (process m i)) m)
  unfolding process with_resume
  change_call r h own =
      fine-call m f (some i) i (with_resume r (process m i)) limbo-lives refl refl refl refl refl
      (record { name = limbo-range.name; bytes = limbo-range.bytes; exits = limbo-range.exits; each = limbo-range.each; resume = h })
      own (λ k d. refl) refl
      (inr (omega (arith, limbo-only)))
      (λ n. absurd (omega (arith, limbo-only, ap bit n)))

  -- It sleeps on its own waitr, with a `wait`.
  pub enter_waitr : (1 ≤ count (m.sizes.timers + i) (timers_of m.queued) → ⊥) → Fine none w (with_process i (with_on_waitr true (with_resume in_wait (process m i))) m)
  unfolding process with_resume with_on_waitr
  enter_waitr own =
      fine-call m f none i (with_on_waitr true (with_resume in_wait (process m i))) limbo-lives refl refl refl refl refl
      (record { name = limbo-range.name; bytes = limbo-range.bytes; exits = limbo-range.exits; each = limbo-range.each; resume = tt })
      own
      (λ k d. sym (count-some k i ∙ count-other k i d ∙ sym (count_none k)))
      (omega (arith, count-some i i, count_self i, count_none i, limbo-only))
      (inr (omega (arith, limbo-only)))
      (λ n. refl)

-- A lock is taken or freed: its waiters stay.
pub set-lock : {o : Option ℕ} {w : List ℕ} (m : Machine) (f : Fine o w m) (q : ℕ) (v : Lock)
    → q < m.sizes.locks
    → v.waiters ≡ (lock m q).waiters
    → (v.held ≡ false → v.waiters ≡ [])
    → Fine o w (with_lock q v m)
unfolding lock
set-lock {o} m f q v l e h =
    fine-lock m f o q v
    (spots-lock f.spots o q v (omega (arith, f.spots.locks)) (λ k. omega (arith, ap (count k) e)) (λ k c. f.spots.queuer q k (omega (arith, ap (count k) e))) h)
