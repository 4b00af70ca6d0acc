-- `parse::put_numbers` meets its contract: the kind, the mark and the numbers.
use Rattle.parse.specs.Puts.{numbers-put}
use Rattle.parse.proofs.put_numbers.Goals as goal

pub returns : goal.returns
returns c = numbers-put c.requires c.put_head.ensures c.store.ensures
