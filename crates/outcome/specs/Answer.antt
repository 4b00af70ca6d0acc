-- The answer to a question.
use Rattle.std.specs.Prelude.{Bool, true, false}
use Rattle.outcome.specs.declared.Reply.{Reply}
use Rattle.outcome.specs.declared.Reply.TheVariants.{Yes, No}

abbrev pub yes_no : Bool → Reply
yes_no true = Yes
yes_no false = No
