-- `idle::cells_ok` meets its contract: by the test of one.
use Rattle.std.specs.Prelude.{refl}
use Rattle.std.proofs.Common.{rules}
use Rattle.state.specs.Places.{mem_in}
use Rattle.rules.specs.Below.{all_below_by}
use Rattle.idle.specs.Idle.{CellIdle}
use Rattle.idle.proofs.cells_ok.Goals as goal

pub returns : goal.returns
returns c = all_below_by _ (CellIdle (mem_in c.args.v.now.sizes c.args.v.now.bytes.now)) refl c.all.ensures.ran (λ x q k. search rules) (λ x q k. search rules)
