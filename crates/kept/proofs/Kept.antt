-- Every step keeps a machine well formed, done or refused.
use Rattle.std.specs.Prelude.{if◌then◌else◌, ◌≡◌, refl, Bool, [], ℕ, ltb}
use Rattle.std.proofs.Math.Option.{Option, none, some}
use Rattle.machine.specs.Machine.{Machine}
use Rattle.machine.specs.Step.{Step, Body, start, rfork, name, sched, yield, sleep, tsleep, wakeup, qlock, canqlock, qunlock, cond, clock, tadd, tdel, intr, due, exit, wait}
use Rattle.machine.specs.Table.{refusal}
use Rattle.machine.specs.Perform.{perform}
use Rattle.machine.specs.StepOf.{left_by, refusing, step_of, outcome_of}
use Rattle.machine.specs.Good.{Good}
use Rattle.lists.specs.Lists.{either}
use Rattle.kept.specs.Fine.{Fine, fine, good}
use Rattle.kept.specs.Allowed.{step}
use Rattle.kept.specs.Simple.{kept-cond, kept-due, kept-tdel, kept-wakeup, kept-qunlock, kept-canqlock, kept-yield, kept-name, kept-clock, kept-tadd}
use Rattle.kept.specs.Sleeping.{kept-qlock, kept-sleep, kept-tsleep, kept-wait}
use Rattle.kept.specs.Sched.{kept-sched}
use Rattle.kept.specs.Making.{kept-start, kept-rfork}
use Rattle.kept.proofs.Exiting.{kept-exit}
use Rattle.kept.proofs.Firings.{kept-intr}
use Rattle.kept.specs.Kept.{left}

-- A step that is done.
kept : (m : Machine) (k : Bool) (b : Body) → refusal m (step k b) ≡ none → Fine none [] m → Fine none [] (perform b m).after
kept m k (start M) e f = kept-start m k M e f
kept m k (rfork F M) e f = kept-rfork m k F M e f
kept m k (name BYTES) e f = kept-name m k BYTES e f
kept m k sched e f = kept-sched m k e f
kept m k yield e f = kept-yield m k e f
kept m k (sleep R C) e f = kept-sleep m k R C e f
kept m k (tsleep R C S N NOW) e f = kept-tsleep m k R C S N NOW e f
kept m k (wakeup R) e f = kept-wakeup m R f
kept m k (qlock Q) e f = kept-qlock m k Q e f
kept m k (canqlock Q) e f = kept-canqlock m k Q e f
kept m k (qunlock Q) e f = kept-qunlock m k Q e f
kept m k (cond C v) e f = kept-cond m C v f
kept m k (clock NOW) e f = kept-clock m k NOW e f
kept m k (tadd T KIND S N R NOW) e f = kept-tadd m k T KIND S N R NOW e f
kept m k (tdel T) e f = kept-tdel m T f
kept m k (intr NOW) e f = kept-intr m k NOW e f
kept m k due e f = kept-due m f
kept m k (exit BYTES) e f = kept-exit m k BYTES e f
kept m k wait e f = kept-wait m k e f

-- The law: every step, whatever its fields and mark, done or refused, keeps the machine well formed.
pub good-step : (m : Machine) (s : Step) → Good m → Good (step_of m s).after
unfolding step_of refusing
good-step m s g = go (refusal m s) refl
  where
    go : (o : Option ℕ) → refusal m s ≡ o → Good (step_of m s).after
    go none e = rw (e, step_of) (good (perform s.body m).after (kept m s.marked s.body e (fine m g)))
    go (some n) e = rw (e, step_of) (good (left_by n s.body m) (left m s.marked s.body n e (fine m g)))

-- So does whatever is handed in.
pub good-outcome : (m : Machine) (s : Option Step) (buffer : ℕ) → Good m → Good (outcome_of m s buffer).after
unfolding outcome_of refusing
good-outcome m none buffer g = g
good-outcome m (some s) buffer g = either (λ (b : Bool). Good (if b then refusing 2 m else step_of m s).after) (ltb buffer 127) g (good-step m s g)
