-- `message::Text::goes_on` meets its contract: by whether there is a byte, and by which.
use Rattle.std.proofs.Common.{rules}
use Rattle.message.specs.Cut.{goes_low, goes_high, goes_middle, goes-none}
use Rattle.message.proofs.Text.goes_on.Goals as goal

pub returns-in-Some-128-to-191 : goal.returns-in-Some-128-to-191
returns-in-Some-128-to-191 c = goes_middle c.in-Some-128-to-191.ensures (search rules) (search rules)

pub returns-in_default : goal.returns-in_default
returns-in_default c = goes_low c.in_default.ensures (search rules)

pub returns-in_default-2 : goal.returns-in_default-2
returns-in_default-2 c = goes_high c.in_default.ensures (search rules)

pub returns-in_default-3 : goal.returns-in_default-3
returns-in_default-3 c = goes-none (rw c.in_default.is at c.byte_at.ensures)
