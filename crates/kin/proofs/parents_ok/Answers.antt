-- `kin::parents_ok` meets its contract.
use Rattle.std.specs.Prelude.{refl}
use Rattle.std.proofs.Common.{rules}
use Rattle.state.specs.Places.{sizes_in}
use Rattle.rules.specs.Code.{mem_in}
use Rattle.rules.specs.Below.{all_below_by}
use Rattle.kin.specs.Living.{ParentOk}
use Rattle.kin.proofs.parents_ok.Goals as goal

pub returns : goal.returns
returns c = all_below_by _ (ParentOk (sizes_in c.args.v.now.sizes) (mem_in c.args.v.now.sizes c.args.v.now.bytes.now)) refl c.all.ensures.ran (λ x q k. search rules) (λ x q k. search rules)
