-- `walks::count_set` meets its contract: the records below i were counted.
use Rattle.std.specs.Prelude.{ℕ}
use Rattle.std.proofs.Common.{arith}
use Rattle.state.specs.Abs.{is_set}
use Rattle.state.specs.Places.{cell_in}
use Rattle.state.specs.Regions.{slot_of}
use Rattle.rules.specs.Reach.{reach}
use Rattle.rules.specs.Counting.{count_few}
use Rattle.walks.specs.Counts.{count-none, count-yes, count-no}
use Rattle.walks.proofs.count_set.Goals as goal
use Rattle.walks.proofs.count_set.Goals.{then-value-ne0, else-value-ne0}

pub loop-i-init : goal.loop-i-init
loop-i-init g c = count-none (λ k. is_set (cell_in c.args.v.now.sizes c.args.v.now.bytes.now (slot_of c.args.f g.T.Number.width) k))

pub get-requires : goal.get-requires
get-requires g c = reach c.args.v.now.whole c.requires.inside (omega (arith, c.requires.records, c.loop-i-test.true))

pub overflow_add-count : goal.overflow_add-count
overflow_add-count g c =
    omega (arith, c.loop-i.invariant, count_few c.loop-i.i (λ k. is_set (cell_in c.args.v.now.sizes c.args.v.now.bytes.now (slot_of c.args.f g.T.Number.width) k)), c.loop-i-test.true)

pub loop-i-preserved : goal.loop-i-preserved
loop-i-preserved g c =
    let f : ℕ → ℕ = λ k. cell_in c.args.v.now.sizes c.args.v.now.bytes.now (slot_of c.args.f g.T.Number.width) k in
    elim c.if-value-ne0.branch [
      | then-value-ne0 w ↦ rw w.count-is (count-yes f c.loop-i.invariant c.value.ensures c.get.ensures.value w.if-value-ne0.true)
      | else-value-ne0 w ↦ rw w.count-is (count-no f c.loop-i.invariant c.value.ensures c.get.ensures.value w.if-value-ne0.false)
    ]
