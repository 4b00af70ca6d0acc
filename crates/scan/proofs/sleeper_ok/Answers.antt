-- `scan::sleeper_ok` meets its contract: a link that is read leads to a record.
use Rattle.std.proofs.Common.{arith}
use Rattle.state.specs.Fields as fields
use Rattle.state.specs.Places.{mem_in}
use Rattle.rules.specs.Facts.{SleepsHere}
use Rattle.rules.specs.Read.{field-most}
use Rattle.rules.specs.Tests.{as_true}
use Rattle.scan.specs.Asks.{link_some}
use Rattle.scan.proofs.sleeper_ok.Goals as goal

pub sleeps_here-requires : goal.sleeps_here-requires
sleeps_here-requires c = omega (arith, c.in-Some.ensures.value, field-most c.args.v.now.whole fields.sleeper_of c.args.r)

pub returns-in-Some : goal.returns-in-Some
returns-in-Some c =
    as_true (link_some {P = SleepsHere (mem_in c.args.v.now.sizes c.args.v.now.bytes.now) c.args.r} c.in-Some.ensures.value c.sleeps_here.ensures)
    (λ f. record { asleep = f }) (λ h. h.asleep)
