-- `dat::set_resume` meets its contract: each need by its law.
use Rattle.dat.specs.Own.{call-load, called}
use Rattle.dat.proofs.set_resume.Goals as goal

pub store-requires : goal.store-requires
store-requires c = (call-load c.requires).index

pub returns-clause-done : goal.returns-clause-done
returns-clause-done c = search called
