-- `steps::take_all` meets its contract: it goes on so far.
use Rattle.std.proofs.Common.{◌∙◌, arith}
use Rattle.steps.specs.All.{all-more}
use Rattle.steps.proofs.take_all.Goals as goal

pub loop-turn-preserved : goal.loop-turn-preserved
loop-turn-preserved g c =
    let w = c.loop-turn.invariant in
    let t = rw (w.sizes, c.if-not-branch.false) at c.in_ok-take_some.ensures.taken in
    record {
      going = all-more w.going (omega arith) t (omega arith) (omega arith);
      sizes = c.take_some.ensures.sizes ∙ w.sizes;
    }
