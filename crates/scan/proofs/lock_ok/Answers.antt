-- `scan::lock_ok` meets its contract: the walk decides it.
use Rattle.std.proofs.Common.{arith}
use Rattle.state.specs.Fields as fields
use Rattle.state.specs.Places.{mem_in}
use Rattle.rules.specs.Read.{field-most}
use Rattle.scan.specs.Queues.{lock_walked}
use Rattle.scan.proofs.lock_ok.Goals as goal

pub line_ok-requires : goal.line_ok-requires
line_ok-requires c = omega (arith, c.get-head.ensures.value, field-most c.args.v.now.whole fields.lock_head c.args.q)

pub returns : goal.returns
returns c =
    lock_walked c.args.v.now.sizes (mem_in c.args.v.now.sizes c.args.v.now.bytes.now) c.args.q c.args.left _ _ c.line_ok.result
    (c.held_ok.ensures.0 c.if-not-held_ok.false) c.get-head.ensures.value c.get-tail.ensures.value c.line_ok.ensures
