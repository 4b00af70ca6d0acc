-- `walks::exits_of` meets its contract: a used record has as many exits as it says, and no more than the field's maximum.
use Rattle.std.proofs.Common.{◌∙◌}
use Rattle.walks.specs.AllExits.{exits-yes}
use Rattle.walks.proofs.exits_of.Goals as goal

pub returns : goal.returns
returns c =
    exits-yes c.get.ensures.value c.if-get-eq0.false c.args.v.now.whole (c.exits_ok.ensures.0 c.if-not-exits_ok.false)
    (c.from.ensures ∙ c.get-2.ensures.value)
