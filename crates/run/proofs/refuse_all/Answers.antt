-- `run::refuse_all` meets its contract: each need by its law.
use Rattle.std.specs.Prelude.{refl}
use Rattle.std.proofs.Common.{arith}
use Rattle.run.specs.One.{one-refused}
use Rattle.run.specs.Loop.{so_far-start, ran-ended, ran-full, so_far_more}
use Rattle.run.proofs.refuse_all.Goals as goal

pub loop-i-init : goal.loop-i-init
loop-i-init c = (refl, λ s w. so_far-start)

pub returns-in_default : goal.returns-in_default
returns-in_default c = record { ran = λ s w. ran-ended (c.loop-i.invariant.1 s w) c.in_default.ensures }

pub loop-i-preserved : goal.loop-i-preserved
loop-i-preserved c = (
  omega (arith, c.loop-i.invariant.0),
  λ s w. so_far_more (c.loop-i.invariant.1 s w) c.in-Some.ensures (omega (arith, c.loop-i-test.true, c.loop-i.invariant.0)) (one-refused w c.from-refused.ensures c.write_words.ensures) refl,
)

pub returns : goal.returns
returns c =
    record { ran = λ s w. ran-full (c.loop-i.invariant.1 s w) (omega (arith, c.loop-i-test.false, c.loop-i.invariant.0)) (omega (arith, c.loop-i-test.false, c.loop-i.auto)) }
