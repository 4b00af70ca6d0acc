-- `proc_intr::fire_due` meets its contract: a turn takes the head off and fires it.
use Rattle.std.specs.Prelude.{refl}
use Rattle.std.proofs.Common.{arith}
use Rattle.state.specs.Sets.{same_join}
use Rattle.proc_intr.specs.Interrupt.{int_start, int_less, int_room, int_step, int_end}
use Rattle.proc_intr.specs.Turn.{turn-fire, turn-fired, turn-none}
use Rattle.proc_intr.proofs.fire_due.Goals as goal

pub loop-t-init : goal.loop-t-init
loop-t-init c = (record { sizes = refl; lender = refl }, int_start c.requires)

pub fire-requires : goal.fire-requires
fire-requires c = turn-fire c.loop-t.invariant.0 c.loop-t.invariant.1 c.in-Some.ensures.same c.in-Some.ensures.popped

pub overflow_add-fired : goal.overflow_add-fired
overflow_add-fired c =
    omega (
      arith,
      int_room c.loop-t.invariant.1
          (turn-fired c.loop-t.invariant.0 c.loop-t.invariant.1 c.in-Some.ensures.same c.in-Some.ensures.popped c.fire.ensures.done)
          refl,
    )

pub loop-t-smaller : goal.loop-t-smaller
loop-t-smaller c =
    int_less
    (turn-fired c.loop-t.invariant.0 c.loop-t.invariant.1 c.in-Some.ensures.same c.in-Some.ensures.popped c.fire.ensures.done) refl

pub loop-t-preserved : goal.loop-t-preserved
loop-t-preserved c = (
  same_join c.loop-t.invariant.0 (same_join c.in-Some.ensures.same c.fire.ensures.same),
  int_step c.loop-t.invariant.1
      (turn-fired c.loop-t.invariant.0 c.loop-t.invariant.1 c.in-Some.ensures.same c.in-Some.ensures.popped c.fire.ensures.done) refl,
)

pub returns-clause-done : goal.returns-clause-done
returns-clause-done c =
    int_end c.loop-t.invariant.1 (turn-none c.loop-t.invariant.0 c.loop-t.invariant.1 c.in_default.ensures.popped) refl
