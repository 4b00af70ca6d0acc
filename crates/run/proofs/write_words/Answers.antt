-- `run::write_words` meets its contract: each need by its law.
use Rattle.run.specs.Record.{written-refused, written-words}
use Rattle.std.proofs.Common.{rules}
use Rattle.run.proofs.write_words.Goals as goal

pub returns-then-w-lt-DONE : goal.returns-then-w-lt-DONE
returns-then-w-lt-DONE c = search written-refused

pub returns : goal.returns
returns c = search (rules, written-words)
