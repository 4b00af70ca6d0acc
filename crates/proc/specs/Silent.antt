-- Only `wait` and `sched` tell a message.
use Rattle.std.specs.Prelude.{if◌then◌else◌, ◌≡◌, refl, Bool, true, false, not, ℕ}
use Rattle.std.proofs.Common.{true≢false}
use Rattle.std.proofs.Math.Option.{Option, none, some}
use Rattle.machine.specs.Flags.{has, RFPROC, RFNOWAIT}
use Rattle.machine.specs.Machine.{Machine, condition, lock}
use Rattle.machine.specs.Outcome.{Answer, Reply, answer, refused, Outcome, open_outcome}
use Rattle.machine.specs.Perform.{perform, open_perform}
use Rattle.machine.specs.Step.{Step, Body, start, rfork, name, sched, yield, sleep, tsleep, wakeup, qlock, canqlock, qunlock, cond, clock, tadd, tdel, intr, due, exit, wait}
use Rattle.machine.specs.StepOf.{step_of, refusing}
use Rattle.machine.specs.Table.{refusal}

-- Whether a step may tell a message.
unfoldable pub tells : Body → Bool
tells (start M) = false
tells (rfork F M) = false
tells (name BYTES) = false
tells sched = true
tells yield = false
tells (sleep R C) = false
tells (tsleep R C S N NOW) = false
tells (wakeup R) = false
tells (qlock Q) = false
tells (canqlock Q) = false
tells (qunlock Q) = false
tells (cond C v) = false
tells (clock NOW) = false
tells (tadd T KIND S N R NOW) = false
tells (tdel T) = false
tells (intr NOW) = false
tells due = false
tells (exit BYTES) = false
tells wait = true

-- Whether a reply tells one.
abbrev pub is_child : Reply → Bool
is_child (answer (Answer.pid n)) = false
is_child (answer (Answer.run n)) = false
is_child (answer (Answer.run_child n c m)) = true
is_child (answer Answer.done) = false
is_child (answer Answer.asleep) = false
is_child (answer (Answer.yes_no b)) = false
is_child (answer (Answer.fired f k)) = false
is_child (answer (Answer.exit n st)) = false
is_child (answer (Answer.child n m)) = true
is_child (answer Answer.idle) = false
is_child (answer Answer.end) = false
is_child (refused n) = false

-- Neither of two outcomes tells one.
neither : (b : Bool) (x y : Outcome) → is_child x.reply ≡ false → is_child y.reply ≡ false → is_child (if b then x else y).reply ≡ false
neither true x y p q = p
neither false x y p q = q

silent-done : (b : Body) (m : Machine) → tells b ≡ false → is_child (perform b m).reply ≡ false
unfolding tells open_perform open_outcome
silent-done (start M) m e = refl
silent-done (rfork F M) m e = neither (not (has F RFPROC)) _ _ refl (neither (has F RFNOWAIT) _ _ refl refl)
silent-done (name BYTES) m e = refl
silent-done sched m e = absurd (true≢false e)
silent-done yield m e = refl
silent-done (sleep R C) m e = neither (condition m C) _ _ refl refl
silent-done (tsleep R C S N NOW) m e = neither (condition m C) _ _ refl refl
silent-done (wakeup R) m e = refl
silent-done (qlock Q) m e = neither (lock m Q).held _ _ refl refl
silent-done (canqlock Q) m e = neither (lock m Q).held _ _ refl refl
silent-done (qunlock Q) m e = refl
silent-done (cond C v) m e = refl
silent-done (clock NOW) m e = refl
silent-done (tadd T KIND S N R NOW) m e = refl
silent-done (tdel T) m e = refl
silent-done (intr NOW) m e = refl
silent-done due m e = refl
silent-done (exit BYTES) m e = refl
silent-done wait m e = absurd (true≢false e)

-- A step of another kind tells none, done or refused.
pub silent : (m : Machine) (x : Step) → tells x.body ≡ false → is_child (step_of m x).reply ≡ false
unfolding step_of refusing
silent m x e = go (refusal m x) refl
  where
    go : (o : Option ℕ) → refusal m x ≡ o → is_child (step_of m x).reply ≡ false
    go none q = rw q (silent-done x.body m e)
    go (some n) q = rw q
