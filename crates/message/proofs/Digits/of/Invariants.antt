-- `message::Digits::of` meets its contract: the digits from `from` are there, and those of `left` are left. The measure is `left`.
use Rattle.message.specs.Digits.{Writing}
use Rattle.message.proofs.Digits.of.Given as goal

abbrev pub invariant-loop-left : goal.invariant-loop-left
invariant-loop-left l = Writing l.n l.bytes l.from l.left

abbrev pub decreases-loop-left : goal.decreases-loop-left
decreases-loop-left l = l.left
