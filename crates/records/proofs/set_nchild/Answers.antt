-- `records::set_nchild` meets its contract: each need by its law.
use Rattle.std.specs.Prelude.{◌≤◌}
use Rattle.std.proofs.Common.{rules, arith}
use Rattle.records.specs.Own.{living-low}
use Rattle.records.specs.Nchild.{nchild-set}
use Rattle.records.proofs.set_nchild.Goals as goal

pub set-requires-clause-reach : goal.set-requires-clause-reach
set-requires-clause-reach c = search (rules, living-low c.requires)

pub returns-clause-done : goal.returns-clause-done
returns-clause-done c = let h : c.args.n ≤ 65535 = omega arith in search nchild-set
