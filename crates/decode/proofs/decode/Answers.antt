-- `decode::decode` meets its contract: each need by its law.
use Rattle.std.proofs.Common.{arith}
use Rattle.decode.specs.Decodes.{decodes-short, decodes-step, decodes-unfit, decodes_unmarked}
use Rattle.decode.proofs.decode.Goals as goal

pub returns-then-b-lt2 : goal.returns-then-b-lt2
returns-then-b-lt2 c = search decodes-short

pub returns-then-mark-gt1 : goal.returns-then-mark-gt1
returns-then-mark-gt1 c = decodes_unmarked (omega arith) (omega arith)

pub returns-in_err-call : goal.returns-in_err-call
returns-in_err-call c = rw c.from_residual.ensures (search (decodes-unfit, c.in_err-call.ensures))

pub returns : goal.returns
returns c = search (decodes-step, c.in_ok-call.ensures)
