-- `waitq::exits::take_all` meets its contract: one exit after another.
use Rattle.std.specs.Prelude.{◌-◌}
use Rattle.state.specs.Lent.{Same}
use Rattle.waitq.specs.Clear.{Clearing}
use Rattle.waitq.proofs.exits.take_all.Given as goal

abbrev pub invariant-loop-taken : goal.invariant-loop-taken
invariant-loop-taken l = Same l.initial.s l.s × Clearing l.initial.s.sizes l.initial.s.bytes.now l.s.bytes.now l.i (l.n - l.taken)
