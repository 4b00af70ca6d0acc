-- `scan::up_ok` meets its contract: a link that is read leads to a record.
use Rattle.std.specs.Prelude.{◌≡◌, ℕ}
use Rattle.std.proofs.Common.{rules, arith}
use Rattle.state.specs.Fields as fields
use Rattle.state.specs.Places.{mem_in}
use Rattle.rules.specs.Read.{field-most}
use Rattle.rules.specs.Reach.{reach}
use Rattle.scan.specs.Asks.{link_some}
use Rattle.scan.proofs.up_ok.Goals as goal

pub get-requires-in-Some : goal.get-requires-in-Some
get-requires-in-Some c = reach c.args.v.now.whole (search rules) (omega (arith, c.in-Some.ensures.value, field-most c.args.v.now.whole fields.up 0))

pub returns-in-Some : goal.returns-in-Some
returns-in-Some c =
    link_some {P = λ (j : ℕ). mem_in c.args.v.now.sizes c.args.v.now.bytes.now fields.state_of j ≡ 1} c.in-Some.ensures.value (search rules)
