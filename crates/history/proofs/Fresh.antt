-- A fresh machine, whatever its sizes, is sound: nobody lives, and nobody is in any place.
use Rattle.std.specs.Prelude.{◌≡◌, refl, false, not, [], ℕ, zero, suc, eqb}
use Rattle.std.proofs.Common.{sym, ap, subst, arith}
use Rattle.std.proofs.Math.Option.{none}
use Rattle.std.proofs.lemmas.List.{length-replicate}
use Rattle.machine.specs.Basics.{count}
use Rattle.machine.specs.Machine.{Process, Sizes, Lock, free, fresh, process, sleeper, lock, pid_of, open_machine}
use Rattle.machine.specs.Good.{running_in}
use Rattle.kept.specs.Fresh.{get_replicate}
use Rattle.history.proofs.View.{view}
use Rattle.history.proofs.Sound.{CallFits, Sound}
use Rattle.history.proofs.Sums.{sum_to, hit, bit, in_view, asleep_in, OnePlace, from_view}

pub fresh-process : (z : Sizes) (i : ℕ) → process (fresh z) i ≡ free
unfolding open_machine
fresh-process z i = get_replicate z.processes i free

pub fresh-pid : (z : Sizes) (i : ℕ) → pid_of (fresh z) i ≡ 0
unfolding open_machine
fresh-pid z i = ap (λ (p : Process). p.pid) (fresh-process z i)

sum-none : (n : ℕ) (f : ℕ → ℕ) → ((k : ℕ) → f k ≡ 0) → sum_to n f ≡ 0
unfolding sum_to
sum-none zero f h = refl
sum-none (suc n) f h = omega (arith, h 0, sum-none n (λ k. f (suc k)) (λ k. h (suc k)))

fresh-sleeper : (z : Sizes) (r : ℕ) → sleeper (fresh z) r ≡ none
unfolding open_machine
fresh-sleeper z r = get_replicate z.rendez r none

fresh-lock : (z : Sizes) (q : ℕ) → (lock (fresh z) q).waiters ≡ []
unfolding open_machine
fresh-lock z q = ap (λ (l : Lock). l.waiters) (get_replicate z.locks q (record { held = false; waiters = [] }))

fresh-one : (z : Sizes) → OnePlace (view (fresh z))
unfolding in_view asleep_in fresh free running_in count hit
fresh-one z i =
    let a : sum_to (view (fresh z)).rendezs (λ r. hit i (sleeper (fresh z) r)) ≡ 0 =
    sum-none (view (fresh z)).rendezs (λ r. hit i (sleeper (fresh z) r)) (λ r. ap (hit i) (fresh-sleeper z r)) in
    let b : bit (process (fresh z) i).on_waitr ≡ 0 = ap (λ (p : Process). bit p.on_waitr) (fresh-process z i) in
    let c : sum_to (view (fresh z)).lock_count (λ q. count i (lock (fresh z) q).waiters) ≡ 0 =
    sum-none (view (fresh z)).lock_count (λ q. count i (lock (fresh z) q).waiters) (λ q. ap (count i) (fresh-lock z q)) in
    let d : bit (not (eqb (pid_of (fresh z) i) 0)) ≡ 0 = ap (λ (n : ℕ). bit (not (eqb n 0))) (fresh-pid z i) in
    omega arith

pub sound-fresh : (z : Sizes) → Sound (fresh z)
unfolding fresh free
sound-fresh z =
    record {
      rendez = length-replicate z.rendez none;
      locks = length-replicate z.locks (record { held = false; waiters = [] });
      calls = λ i. subst (λ (p : Process). CallFits (view (fresh z)).rendezs (view (fresh z)).lock_count p.resume) (sym (fresh-process z i)) tt;
      next_pid = omega arith;
      in_one_place = from_view (fresh z) (fresh-one z);
      apart = λ i j l e. absurd (omega (arith, fresh-pid z i));
      below = λ i. omega (arith, fresh-pid z i);
      quantum = λ i. let e : (process (fresh z) i).quantum_end ≡ 0 = ap (λ (p : Process). p.quantum_end) (fresh-process z i) in omega arith;
    }
