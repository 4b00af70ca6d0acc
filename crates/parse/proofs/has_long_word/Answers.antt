-- `parse::has_long_word` meets its contract: the first nine bytes tell it, where there are so many.
use Rattle.std.specs.Prelude.{length}
use Rattle.std.proofs.Common.{arith, ltb-true}
use Rattle.parse.specs.Words.{length-word, long-word}
use Rattle.parse.proofs.has_long_word.Goals as goal

pub returns-then-line-gt-WORD_MOST : goal.returns-then-line-gt-WORD_MOST
returns-then-line-gt-WORD_MOST c = long-word c.args.line.now _ _ (omega arith) c.space.ensures c.is_none.ensures

pub returns-else-line-gt-WORD_MOST : goal.returns-else-line-gt-WORD_MOST
returns-else-line-gt-WORD_MOST c = (λ t. absurd (omega (arith, ltb-true 8 (length c.args.line.now) t)), λ h. absurd (omega (arith, length-word c.args.line.now)))
