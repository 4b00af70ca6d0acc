-- `message::Digits::of` meets its contract: the digits from `from` are there, and those of `left` are left. The measure is `left`.
use Rattle.message.specs.Digits.{digits-start, digits_more, digits-end}
use Rattle.std.proofs.Common.{rules, arith}
use Rattle.message.proofs.Digits.of.Goals as goal

pub loop-left-init : goal.loop-left-init
loop-left-init c = digits-start c.args.n (omega arith) (search rules)

pub overflow_sub-from : goal.overflow_sub-from
overflow_sub-from c = omega arith

pub loop-left-preserved : goal.loop-left-preserved
loop-left-preserved c = search digits_more

pub overflow_sub-from-2 : goal.overflow_sub-from-2
overflow_sub-from-2 c = omega arith

pub returns : goal.returns
returns c = search digits-end
