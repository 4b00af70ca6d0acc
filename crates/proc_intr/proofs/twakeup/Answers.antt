-- `proc_intr::twakeup` meets its contract: each need by its law.
use Rattle.proc_intr.specs.Twakeup.{twakeup-wakes, twoken, twoken-other}
use Rattle.proc_intr.proofs.twakeup.Goals as goal

pub returns-in_default-clause-done : goal.returns-in_default-clause-done
returns-in_default-clause-done c =
    record {
      woke = 0;
      took =
          twoken-other c.requires (rw (c.view.ensures.bytes, c.view.ensures.sizes) at c.load-call.ensures) c.in_default.not-Tsleep;
    }

pub wakeup-requires : goal.wakeup-requires
wakeup-requires c = twakeup-wakes c.requires (rw (c.view.ensures.bytes, c.view.ensures.sizes) at c.in-Tsleep.ensures)

pub returns-clause-done : goal.returns-clause-done
returns-clause-done c =
    record {
      woke = _;
      took = twoken c.requires (rw (c.view.ensures.bytes, c.view.ensures.sizes) at c.in-Tsleep.ensures) c.wakeup.ensures.done;
    }
