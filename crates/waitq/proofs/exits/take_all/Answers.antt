-- `waitq::exits::take_all` meets its contract: one exit after another.
use native.Mathlib.Numerals.{unary_clauses}
use Rattle.std.specs.Prelude.{refl}
use Rattle.std.proofs.Common.{arith}
use Rattle.state.specs.Sets.{same_join}
use Rattle.waitq.specs.Clear.{clear-reach, clear-start, clear-take, clear_step, clear-end}
use Rattle.waitq.proofs.exits.take_all.Goals as goal

pub get-n-requires : goal.get-n-requires
get-n-requires c = search clear-reach

pub loop-taken-init : goal.loop-taken-init
loop-taken-init c = (record { sizes = refl; lender = refl }, simp unary_clauses (clear-start c.requires c.get-n.ensures.value))

pub take-requires : goal.take-requires
take-requires c = rw c.loop-taken.invariant.0.sizes (clear-take c.loop-taken.invariant.1 (omega (arith, c.loop-taken-test.true)))

pub loop-taken-preserved : goal.loop-taken-preserved
loop-taken-preserved c = (
  same_join c.loop-taken.invariant.0 c.take.ensures.same,
  clear_step c.loop-taken.invariant.1 (omega (arith, c.loop-taken-test.true)) (rw c.loop-taken.invariant.0.sizes at c.take.ensures.taken) (omega arith),
)

pub returns-clause-cleared : goal.returns-clause-cleared
returns-clause-cleared c = clear-end c.loop-taken.invariant.1 (omega (arith, c.loop-taken-test.false))
