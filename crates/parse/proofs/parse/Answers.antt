-- `parse::parse` meets its contract: each return cites its law.
use Rattle.std.proofs.Common.{arith}
use Rattle.parse.specs.Parsed.{parsed-long, parsed-marked, parsed-plain}
use Rattle.parse.proofs.parse.Goals as goal

pub returns-then-line-gt-LINE_MOST : goal.returns-then-line-gt-LINE_MOST
returns-then-line-gt-LINE_MOST c = parsed-long c.args.line.now (omega arith)

pub returns-in-Some : goal.returns-in-Some
returns-in-Some c =
    let prefix = rw c.as_slice.ensures at c.in-Some.ensures.cases.0 in
    let rest = rw c.as_slice.ensures at c.in-Some.ensures.cases.1 in
    parsed-marked c.args.line.now _ _ _ (omega arith) prefix (rw rest at c.body.ensures)

pub returns-in-None : goal.returns-in-None
returns-in-None c =
    let prefix = rw c.as_slice.ensures at c.in-None.ensures.cases in
    parsed-plain c.args.line.now _ _ _ (omega arith) prefix c.body-in-None.ensures
