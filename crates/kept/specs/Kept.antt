-- A refused step keeps a machine well formed. proofs/Kept.antt has every step.
use Rattle.std.specs.Prelude.{if◌then◌else◌, ◌≡◌, refl, Bool, true, false, ◌&&◌, [], ℕ, suc, eqb}
use Rattle.std.proofs.Common.{ap, subst, arith, eqb-true}
use Rattle.std.proofs.Math.Option.{none, some}
use Rattle.machine.specs.Machine.{Machine}
use Rattle.machine.specs.Update.{with_next_pid}
use Rattle.machine.specs.Step.{Body, start, rfork, name, sched, yield, sleep, tsleep, wakeup, qlock, canqlock, qunlock, cond, clock, tadd, tdel, intr, due, exit, wait, open_step}
use Rattle.machine.specs.Flags.{has, RFPROC}
use Rattle.machine.specs.Table.{refusal, on, open_table}
use Rattle.machine.specs.StepOf.{left_by}
use Rattle.kept.specs.Fine.{Fine}
use Rattle.kept.specs.FineLaws.{fine-next}
use Rattle.kept.specs.Allowed.{and_left, and_right, step, before, earlier, caused, pid-left}

-- The body for which 11 raises the next pid is an rfork whose page copy fails.
pub copy_fails : (b : Body) → on 2 "rfork" (λ F M. eqb M 3) b ≡ true → (F : ℕ) × (b ≡ rfork F 3)
unfolding open_table open_step
copy_fails (rfork F M) e = (F, ap {B = Body} (λ x. rfork F x) (eqb-true M 3 e))
copy_fails (start M) e = let x : ◌≡◌ {A = ℕ} 0 1 = cc in absurd (omega arith)
copy_fails (name BYTES) e = let x : ◌≡◌ {A = ℕ} 0 1 = cc in absurd (omega arith)
copy_fails sched e = let x : ◌≡◌ {A = ℕ} 0 1 = cc in absurd (omega arith)
copy_fails yield e = let x : ◌≡◌ {A = ℕ} 0 1 = cc in absurd (omega arith)
copy_fails (sleep R C) e = let x : ◌≡◌ {A = ℕ} 0 1 = cc in absurd (omega arith)
copy_fails (tsleep R C S N NOW) e = let x : ◌≡◌ {A = ℕ} 0 1 = cc in absurd (omega arith)
copy_fails (wakeup R) e = let x : ◌≡◌ {A = ℕ} 0 1 = cc in absurd (omega arith)
copy_fails (qlock Q) e = let x : ◌≡◌ {A = ℕ} 0 1 = cc in absurd (omega arith)
copy_fails (canqlock Q) e = let x : ◌≡◌ {A = ℕ} 0 1 = cc in absurd (omega arith)
copy_fails (qunlock Q) e = let x : ◌≡◌ {A = ℕ} 0 1 = cc in absurd (omega arith)
copy_fails (cond C v) e = let x : ◌≡◌ {A = ℕ} 0 1 = cc in absurd (omega arith)
copy_fails (clock NOW) e = let x : ◌≡◌ {A = ℕ} 0 1 = cc in absurd (omega arith)
copy_fails (tadd T KIND S N R NOW) e = let x : ◌≡◌ {A = ℕ} 0 1 = cc in absurd (omega arith)
copy_fails (tdel T) e = let x : ◌≡◌ {A = ℕ} 0 1 = cc in absurd (omega arith)
copy_fails (intr NOW) e = let x : ◌≡◌ {A = ℕ} 0 1 = cc in absurd (omega arith)
copy_fails due e = let x : ◌≡◌ {A = ℕ} 0 1 = cc in absurd (omega arith)
copy_fails (exit BYTES) e = let x : ◌≡◌ {A = ℕ} 0 1 = cc in absurd (omega arith)
copy_fails wait e = let x : ◌≡◌ {A = ℕ} 0 1 = cc in absurd (omega arith)

-- Before 11 the table has tested 16: the next pid is not the last one.
raises : (m : Machine) (k : Bool) (F : ℕ) → refusal m (step k (rfork F 3)) ≡ some 11 → Fine none [] m → Fine none [] (with_next_pid (suc m.next_pid) m)
unfolding open_table open_step before
raises m k F e f =
    let h : has F RFPROC ≡ true = and_left (has F RFPROC) true (caused m (step k (rfork F 3)) 11 e) in
    fine-next m f (omega (arith, pid-left m k (rfork F 3) (earlier m (step k (rfork F 3)) 11 e 16 refl) (rw h), f.next.1))

-- A step that is refused.
pub left : (m : Machine) (k : Bool) (b : Body) (n : ℕ) → refusal m (step k b) ≡ some n → Fine none [] m → Fine none [] (left_by n b m)
unfolding left_by
left m k b n e f = go (eqb n 11 && on 2 "rfork" (λ F M. eqb M 3) b) refl
  where
    go : (c : Bool) → eqb n 11 && on 2 "rfork" (λ F M. eqb M 3) b ≡ c → Fine none [] (if c then with_next_pid (suc m.next_pid) m else m)
    go false h = f
    go true h =
        let r : (F : ℕ) × (b ≡ rfork F 3) = copy_fails b (and_right (eqb n 11) (on 2 "rfork" (λ F M. eqb M 3) b) h) in
        let z : n ≡ 11 = eqb-true n 11 (and_left (eqb n 11) (on 2 "rfork" (λ F M. eqb M 3) b) h) in
        raises m k r.0 (subst (λ (x : ℕ). refusal m (step k (rfork r.0 3)) ≡ some x) z (subst (λ (y : Body). refusal m (step k y) ≡ some n) r.1 e)) f
