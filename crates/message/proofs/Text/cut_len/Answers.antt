-- `message::Text::cut_len` meets its contract: each return cites its law of specs/Cut.antt.
use Rattle.message.specs.Cut.{cut-whole, cut_sum, cut_status}
use Rattle.message.proofs.Text.cut_len.Goals as goal

pub returns-then-self-gt127 : goal.returns-then-self-gt127
returns-then-self-gt127 c = search cut_status

pub returns-then-n-le127 : goal.returns-then-n-le127
returns-then-n-le127 c = search cut-whole

pub returns : goal.returns
returns c = search cut_sum
