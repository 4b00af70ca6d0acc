-- `clockwork::quantum::preempt_due` meets its contract: each return cites its law of specs/Lent.antt.
use Rattle.std.proofs.lemmas.Bool.{lt-leb}
use Rattle.clockwork.specs.Lent.{nobody-up, runs-reach, runs-on, ready-decides}
use Rattle.clockwork.proofs.quantum.preempt_due.Goals as goal

pub returns-in-None : goal.returns-in-None
returns-in-None c = nobody-up c.in-None.ensures.value

pub get-end-requires : goal.get-end-requires
get-end-requires c = runs-reach c.requires c.in-Some.ensures.value

pub returns-then-end-get : goal.returns-then-end-get
returns-then-end-get c =
    ready-decides c.requires c.in-Some.ensures.value _ c.get-end.ensures.value c.get-in-Some.ensures.value c.if-end-get.true c.get-then-end-get.ensures.value
    c.is_some.ensures

pub returns-else-end-get : goal.returns-else-end-get
returns-else-end-get c =
    rw (lt-leb _ _ c.if-end-get.false) (runs-on c.requires c.in-Some.ensures.value c.get-end.ensures.value c.get-in-Some.ensures.value c.if-end-get.false)
