-- `parse::put_string` meets its contract: the kind, the mark, the length and the bytes.
use Rattle.std.proofs.Common.{rules}
use Rattle.parse.specs.Puts.{text-put}
use Rattle.parse.proofs.put_string.Goals as goal

pub returns : goal.returns
returns c = text-put c.requires c.put_head.ensures c.store.ensures (search rules)
