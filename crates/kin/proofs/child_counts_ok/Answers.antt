-- `kin::child_counts_ok` meets its contract: the array is zeros at first.
use Rattle.std.specs.Prelude.{refl}
use Rattle.std.proofs.Common.{rules}
use Rattle.layout.specs.Zeros.{zeros-at}
use Rattle.state.specs.Places.{sizes_in}
use Rattle.rules.specs.Code.{mem_in}
use Rattle.rules.specs.Below.{all_below_by}
use Rattle.kin.specs.Kin.{Children}
use Rattle.kin.proofs.child_counts_ok.Goals as goal

pub count_children-requires : goal.count_children-requires
count_children-requires c = record { size = search rules; zero = λ j. zeros-at 4096 j }

pub returns : goal.returns
returns c = all_below_by _ (Children (sizes_in c.args.v.now.sizes) (mem_in c.args.v.now.sizes c.args.v.now.bytes.now)) refl c.all.ensures.ran (λ x q k. search rules) (λ x q k. search rules)
