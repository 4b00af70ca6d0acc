-- `records::set_name` meets its contract: each need by its law.
use Rattle.records.specs.Rename.{name-load, name_set}
use Rattle.records.proofs.set_name.Goals as goal

pub store-requires : goal.store-requires
store-requires c = (name-load c.requires).index

pub returns-clause-done : goal.returns-clause-done
returns-clause-done c = name_set c.requires c.store.ensures.stored
