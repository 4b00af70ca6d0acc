-- `proc_fork::flags::Flags::are_bad` meets its contract: each need by its law.
use Rattle.proc_fork.specs.Flags.{bad-is}
use Rattle.proc_fork.proofs.flags.Flags.are_bad.Goals as goal

pub returns : goal.returns
returns c = search bad-is
