-- `run::run_formed` meets its contract: each need by its law.
use Rattle.std.specs.Prelude.{refl}
use Rattle.std.proofs.Common.{◌∙◌, arith}
use Rattle.run.specs.Loop.{so_far-start, ran-ended, ran-full, so_far_more}
use Rattle.run.proofs.run_formed.Goals as goal

pub loop-i-init : goal.loop-i-init
loop-i-init c = (c.requires, record { sizes = refl; lender = refl }, refl, so_far-start)

pub returns-in_default-clause-done : goal.returns-in_default-clause-done
returns-in_default-clause-done c = ran-ended c.loop-i.invariant.3 c.in_default.ensures

pub loop-i-preserved : goal.loop-i-preserved
loop-i-preserved c = (
  rw c.run_one.ensures.same.sizes c.run_one.ensures.done.well,
  record {
    sizes = c.run_one.ensures.same.sizes ∙ c.loop-i.invariant.1.sizes;
    lender = c.run_one.ensures.same.lender ∙ c.loop-i.invariant.1.lender;
  },
  omega (arith, c.loop-i.invariant.2),
  so_far_more c.loop-i.invariant.3 c.in-Some.ensures (omega (arith, c.loop-i-test.true, c.loop-i.invariant.2)) c.run_one.ensures.done.ran refl,
)

pub returns-clause-done : goal.returns-clause-done
returns-clause-done c =
    ran-full c.loop-i.invariant.3 (omega (arith, c.loop-i-test.false, c.loop-i.invariant.2)) (omega (arith, c.loop-i-test.false, c.loop-i.auto))
