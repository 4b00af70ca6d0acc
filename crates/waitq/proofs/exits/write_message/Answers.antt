-- `waitq::exits::write_message` meets its contract: by its law of specs/WriteCode.antt.
use Rattle.std.specs.Prelude.{refl}
use Rattle.std.proofs.Common.{arith}
use Rattle.waitq.specs.WriteCode.{part_end, message_in_lem}
use Rattle.waitq.proofs.exits.write_message.Goals as goal

pub slice_bounds-write_message-end : goal.slice_bounds-write_message-end
slice_bounds-write_message-end c = search part_end

pub returns-clause-written : goal.returns-clause-written
returns-clause-written c = message_in_lem c.requires c.message_at-start.ensures.value c.write_message.ensures refl (λ k. omega (arith, c.slice_known-1.given k))
