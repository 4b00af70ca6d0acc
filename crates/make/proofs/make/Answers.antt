-- `make::make` meets its contract, by each way out.
use Rattle.make.specs.Answers.{sizes-ranged, make-unfit, make-short, make-done}
use Rattle.std.proofs.Common.{rules}
use Rattle.make.proofs.make.Goals as goal

pub returns-in_default : goal.returns-in_default
returns-in_default c = make-unfit c.in_default.ensures

pub returns-then-s-total : goal.returns-then-s-total
returns-then-s-total c = make-short c.in-Some.sizes c.in-Some.ensures c.total.ensures.value c.if-s-total.true

pub fill-requires : goal.fill-requires
fill-requires c = sizes-ranged c.args.p c.args.r c.args.q c.args.k c.args.c c.args.hz c.in-Some.sizes c.in-Some.ensures

pub returns : goal.returns
returns c = make-done c.in-Some.sizes c.in-Some.ensures c.total.ensures.value c.if-s-total.false (search rules)
