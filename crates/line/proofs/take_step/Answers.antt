-- `line::take_step` meets its contract: each case by its law.
use Rattle.std.specs.Prelude.{refl}
use Rattle.std.proofs.Common.{arith}
use Rattle.proc.specs.Arms.{some-call}
use Rattle.line.specs.Took.{exit-asks, exit-took, other-took, none-took}
use Rattle.line.proofs.take_step.Goals as goal

pub returns-in_default-clause-took : goal.returns-in_default-clause-took
returns-in_default-clause-took c =
    none-took c.requires c.decode.ensures c.in_default.is (rw (c.view.ensures.bytes, c.view.ensures.sizes) at c.line.ensures.put)

pub line-requires-in-Exit : goal.line-requires-in-Exit
line-requires-in-Exit c =
    rw (c.view-in-Exit.ensures.bytes, c.view-in-Exit.ensures.sizes, c.take_call-reply.ensures.same.sizes)
    (exit-asks c.requires c.decode.ensures c.in-Some.is c.in-Exit.is (some-call refl c.take_call-reply.ensures.done))

pub returns-in-Exit-clause-took : goal.returns-in-Exit-clause-took
returns-in-Exit-clause-took c =
    exit-took c.requires c.decode.ensures c.in-Some.is c.in-Exit.is (some-call refl c.take_call-reply.ensures.done)
    (rw (c.view-in-Exit.ensures.bytes, c.view-in-Exit.ensures.sizes, c.take_call-reply.ensures.same.sizes) at c.line-in-Exit.ensures.put)

pub returns-in_default-call : goal.returns-in_default-call
returns-in_default-call c =
    record {
      same = c.take_call-reply.ensures.same;
      took =
          other-took c.requires c.decode.ensures c.in-Some.is c.in_default-call.not-Exit (some-call refl c.take_call-reply.ensures.done) (omega arith)
          (rw (c.view-in_default-call.ensures.bytes, c.view-in_default-call.ensures.sizes, c.take_call-reply.ensures.same.sizes) at c.line-in_default-call.ensures.put);
      out = c.line-in_default-call.ensures.name;
    }
