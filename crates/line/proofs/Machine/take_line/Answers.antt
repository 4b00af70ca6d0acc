-- `line::Machine::take_line` meets its contract: the bytes are those of the line's step.
use Rattle.machine.specs.Parse.{parse_line}
use Rattle.parse.specs.Parsed.{Parsed, parsed-or}
use Rattle.line.specs.Took.{line_takes}
use Rattle.line.proofs.Machine.take_line.Goals as goal

pub returns-clause-taken : goal.returns-clause-taken
returns-clause-taken c =
    let p : Parsed (parse_line c.args.line.now) c.args.self.now.step c.parse.new.out c.unwrap_or-k.result =
    rw c.unwrap_or-k.ensures (parsed-or _ _ _ _ c.parse.ensures)
    in
    line_takes p c.take_step.ensures.took
