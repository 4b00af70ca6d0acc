-- A fresh state is well formed.
use Rattle.std.specs.Prelude.{◌≡◌, refl, Bool, true, false, List, [], ℕ, zero, suc, ◌-◌, ◌^◌, ◌≤◌, ◌<◌, get_or, replicate}
use Rattle.std.proofs.Common.{sym, ap, ◌∙◌, inl, inr, arith, length-set, get_or-set_same}
use Rattle.std.proofs.Math.Option.{Option, none}
use Rattle.std.proofs.lemmas.List.{length-replicate}
use Rattle.clock.specs.Counts.{counts_of, nanos_of}
use Rattle.clock.specs.Laws.{counts_mono, counts-positive}
use Rattle.machine.specs.Basics.{count, concat_map}
use Rattle.machine.specs.Machine.{Sizes, Lock, Setting, free, fresh, living}
use Rattle.machine.specs.Good.{Good, Each, Byte, SizesInRange, ProcessInRange, SettingInRange, running_in}
use Rattle.lists.specs.Lists.{bit, each_set}
use Rattle.kept.specs.Fine.{at, unheld, cells_in, waiters_of, Fine, good}

-- Lists of one thing over and over.
pub get_replicate : {A : Type 0} (n i : ℕ) (a : A) → get_or (replicate n a) i a ≡ a
get_replicate zero i a = refl
get_replicate (suc n) zero a = refl
get_replicate (suc n) (suc i) a = get_replicate n i a

-- what it has, each of them has
pub each-replicate : {A : Type 0} (P : A → Type 0) (n : ℕ) (a : A) → P a → Each P (replicate n a)
each-replicate P zero a p = tt
each-replicate P (suc n) a p = (p, each-replicate P n a p)

-- and nothing is counted where it holds nothing
count-replicate : {A : Type 0} (f : A → List ℕ) (n : ℕ) (a : A) (k : ℕ) → f a ≡ [] → count k (concat_map f (replicate n a)) ≡ 0
unfolding concat_map count
count-replicate f zero a k e = refl
count-replicate f (suc n) a k e = rw e (count-replicate f n a k e)

-- The counts of ten milliseconds are in range, at any frequency: no fewer than those of 100 µs, and at least one.
pub ten_small : (hz : ℕ) → hz ≤ 4294967295 → counts_of hz 0 10000000 ≤ 2 ^ 63 - 1
unfolding counts_of nanos_of
ten_small hz h = omega arith

-- ten milliseconds are no shorter than 100 µs
pub ten_long : (hz : ℕ) → counts_of hz 0 100000 ≤ counts_of hz 0 10000000
unfolding nanos_of
ten_long hz = counts_mono hz 0 100000 0 10000000 (omega arith)

-- and take at least one count
pub ten_positive : (hz : ℕ) → 1 ≤ hz → 0 < counts_of hz 0 10000000
unfolding nanos_of
ten_positive hz h = counts-positive hz 0 10000000 h (omega arith)

-- A free record is in range.
pub free-fine : (z : Sizes) → ProcessInRange z free
unfolding free
free-fine z = record { name = refl; bytes = each-replicate Byte 28 0 (omega arith); exits = omega arith; each = tt; resume = tt }

-- A fresh machine, group by group: nobody is anywhere, and nothing is queued.
fresh-fine : (z : Sizes) → SizesInRange z → Fine none [] (fresh z)
unfolding fresh free living running_in count
fresh-fine z h =
    record {
      sizes = h;
      next = (omega arith, omega arith);
      conditions = length-replicate 256 false;
      records = record {
        size = length-replicate z.processes free;
        each = each-replicate (ProcessInRange z) z.processes free (free-fine z);
        freed = λ i e. same i;
        cells = λ c. omega (arith, count-replicate cells_in z.processes free c refl);
        quantum = λ i. omega (arith, ap {B = ℕ} (λ p. p.quantum_end) (same i));
      };
      kin = record {
        nchild = λ i l. absurd (nobody i l);
        apart = λ i j l e. absurd (nobody i l);
        below = λ i. omega (arith, ap {B = ℕ} (λ p. p.pid) (same i));
        parent = λ i l. absurd (nobody i l);
      };
      clockwork = record {
        size = length-set settings 0 first ∙ length-replicate z.timers once;
        settings = each_set (SettingInRange z) settings 0 first (each-replicate (SettingInRange z) z.timers once (record { period = inl refl; rendez = h.rendez.0 })) (record { period = inr (ten_long z.hz, ten_small z.hz h.hz.1); rendez = h.rendez.0 });
        hzclock = ap {B = ℕ} (λ s. s.period) (get_or-set_same settings 0 first once (omega (arith, h.timers, length-replicate z.timers once)));
        queued = tt;
        last_now = omega arith;
        by_deadline = tt;
        once = λ t. omega arith;
        passed = omega arith;
        tick = tt;
      };
      tsleeping = λ i l. absurd (omega arith);
      spots = record {
        rendez = length-replicate z.rendez none;
        locks = length-replicate z.locks unheld;
        placed = λ k. omega (arith, count-replicate running_in z.rendez none k refl, count-replicate waiters_of z.locks unheld k refl, ap {B = ℕ} (λ p. bit p.on_waitr) (same k), ap {B = ℕ} (λ p. bit (living p)) (same k));
        runner = λ k l. absurd (omega arith);
        sleeper = λ r k l. absurd (omega (arith, ap (λ (o : Option ℕ). count k (running_in o)) (get_replicate z.rendez r none)));
        waiter = λ k e. absurd (let w : false ≡ true = sym (ap {B = Bool} (λ p. p.on_waitr) (same k)) ∙ e in let y : ◌≡◌ {A = ℕ} 0 1 = cc in omega arith);
        queuer = λ q k l. absurd (omega (arith, ap (λ (x : Lock). count k x.waiters) (get_replicate z.locks q unheld)));
        held = λ q e. ap {B = List ℕ} (λ x. x.waiters) (get_replicate z.locks q unheld);
      };
    }
  where
    once : Setting
    once = record { period = 0; rendez = 0 }

    first : Setting
    first = record { period = counts_of z.hz 0 10000000; rendez = 0 }

    settings : List Setting
    settings = replicate z.timers once

    same : (i : ℕ) → at (replicate z.processes free) i ≡ free
    same i = get_replicate z.processes i free

    nobody : (i : ℕ) → 0 < (at (replicate z.processes free) i).pid → ⊥
    nobody i l = omega (arith, ap {B = ℕ} (λ p. p.pid) (same i))

-- A fresh state of sizes in range is well formed.
pub good-fresh : (z : Sizes) → SizesInRange z → Good (fresh z)
good-fresh z h = good (fresh z) (fresh-fine z h)
