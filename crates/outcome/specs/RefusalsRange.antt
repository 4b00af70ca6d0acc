-- When the fields of each step are in range, test by test; a step without fields always is.
use Rattle.std.specs.Prelude.{◌≡◌, true, ◌&&◌, List, ℕ, ◌^◌, leb, ltb, length}
use Rattle.std.proofs.Math.Path.{refl}
use Rattle.machine.specs.Machine.{Sizes}
use Rattle.machine.specs.Step.{start, rfork, name, sched, yield, sleep, tsleep, wakeup, qlock, canqlock, qunlock, cond, clock, tadd, tdel, intr, due, exit, wait}
use Rattle.machine.specs.Table.{in_range, all_bytes}

module _ (z : Sizes) where
  pub range-start : (M : ℕ) → in_range z (start M) ≡ (leb M 2)
  unfolding in_range
  range-start M = refl

  pub range-rfork : (F M : ℕ) → in_range z (rfork F M) ≡ (ltb F (2 ^ 32) && leb M 3)
  unfolding in_range
  range-rfork F M = refl

  pub range-name : (BYTES : List ℕ) → in_range z (name BYTES) ≡ (leb (length BYTES) 28 && all_bytes BYTES)
  unfolding in_range
  range-name BYTES = refl

  pub range-sched : in_range z sched ≡ true
  unfolding in_range
  range-sched = refl

  pub range-yield : in_range z yield ≡ true
  unfolding in_range
  range-yield = refl

  pub range-sleep : (R C : ℕ) → in_range z (sleep R C) ≡ (ltb R z.rendez && ltb C 256)
  unfolding in_range
  range-sleep R C = refl

  pub range-tsleep
      : (R C S N NOW : ℕ)
      → in_range z (tsleep R C S N NOW) ≡ (ltb R z.rendez && ltb C 256 && ltb S (2 ^ 64) && ltb N 1000000000 && ltb NOW (2 ^ 64))
  unfolding in_range
  range-tsleep R C S N NOW = refl

  pub range-wakeup : (R : ℕ) → in_range z (wakeup R) ≡ (ltb R z.rendez)
  unfolding in_range
  range-wakeup R = refl

  pub range-qlock : (Q : ℕ) → in_range z (qlock Q) ≡ (ltb Q z.locks)
  unfolding in_range
  range-qlock Q = refl

  pub range-canqlock : (Q : ℕ) → in_range z (canqlock Q) ≡ (ltb Q z.locks)
  unfolding in_range
  range-canqlock Q = refl

  pub range-qunlock : (Q : ℕ) → in_range z (qunlock Q) ≡ (ltb Q z.locks)
  unfolding in_range
  range-qunlock Q = refl

  pub range-cond : (C v : ℕ) → in_range z (cond C v) ≡ (ltb C 256 && leb v 1)
  unfolding in_range
  range-cond C v = refl

  pub range-clock : (NOW : ℕ) → in_range z (clock NOW) ≡ (ltb NOW (2 ^ 64))
  unfolding in_range
  range-clock NOW = refl

  pub range-tadd
      : (T KIND S N R NOW : ℕ)
      → in_range z (tadd T KIND S N R NOW) ≡ (leb 1 T && ltb T z.timers && leb KIND 1 && ltb S (2 ^ 64) && ltb N 1000000000 && ltb R z.rendez && ltb NOW (2 ^ 64))
  unfolding in_range
  range-tadd T KIND S N R NOW = refl

  pub range-tdel : (T : ℕ) → in_range z (tdel T) ≡ (leb 1 T && ltb T z.timers)
  unfolding in_range
  range-tdel T = refl

  pub range-intr : (NOW : ℕ) → in_range z (intr NOW) ≡ (ltb NOW (2 ^ 64))
  unfolding in_range
  range-intr NOW = refl

  pub range-due : in_range z due ≡ true
  unfolding in_range
  range-due = refl

  pub range-exit : (BYTES : List ℕ) → in_range z (exit BYTES) ≡ (all_bytes BYTES)
  unfolding in_range
  range-exit BYTES = refl

  pub range-wait : in_range z wait ≡ true
  unfolding in_range
  range-wait = refl
