-- `scan::rendez_ok` meets its contract: by the test of one.
use Rattle.std.specs.Prelude.{refl}
use Rattle.std.proofs.Common.{rules}
use Rattle.state.specs.Places.{mem_in}
use Rattle.rules.specs.Below.{all_below_by}
use Rattle.rules.specs.Tests.{as_true}
use Rattle.scan.specs.Records.{SleeperOk}
use Rattle.scan.proofs.rendez_ok.Goals as goal

pub returns : goal.returns
returns c =
    as_true
    (all_below_by _ (SleeperOk (mem_in c.args.v.now.sizes c.args.v.now.bytes.now)) refl c.all.ensures.ran (λ x q k. search rules) (λ x q k. search rules))
    (λ f r l. (f r l).asleep) (λ f r l. record { asleep = f r l })
