-- `message::name_len` meets its contract: the first zero byte, or the end.
use Rattle.std.proofs.Common.{rules, tests}
use Rattle.std.proofs.lemmas.Iterator.{YieldsList-from_slice}
use Rattle.std.proofs.lemmas.Iterator.Search.{position_from_yields_List}
use Rattle.message.specs.Text.{name-ends}
use Rattle.message.proofs.name_len.Goals as goal

pub returns : goal.returns
returns c =
    name-ends
    (position_from_yields_List _ _ _ _ c.position-zero.ensures.ran (YieldsList-from_slice c.args.name.now cc) (λ x b q k. search (rules, tests)))
    c.unwrap_or.ensures
