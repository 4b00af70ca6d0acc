-- `waitq::exits::add` meets its contract: by its law of specs/AddCode.antt.
use Rattle.std.proofs.Common.{rules}
use Rattle.waitq.specs.AddCode.{add_words, add_use, add-write, add_push, added}
use Rattle.waitq.proofs.exits.add.Goals as goal

pub find_cell-requires : goal.find_cell-requires
find_cell-requires c = rw (c.view.ensures.bytes, c.view.ensures.sizes) (add_words c.requires)

pub use_cell-requires : goal.use_cell-requires
use_cell-requires c = add_use c.requires (rw (c.view.ensures.bytes, c.view.ensures.sizes) at c.in-Some.ensures)

pub write_message-length-requires : goal.write_message-length-requires
write_message-length-requires c =
    rw c.use_cell.ensures.same.sizes
    (add-write c.requires (rw (c.view.ensures.bytes, c.view.ensures.sizes) at c.in-Some.ensures) c.use_cell.ensures.done)

pub push-requires : goal.push-requires
push-requires c =
    let k = c.use_cell.ensures.same.sizes in
    let w = rw k at c.write_message-length.ensures.written in
    rw (c.write_message-length.ensures.same.sizes, k)
    (add_push c.requires (rw (c.view.ensures.bytes, c.view.ensures.sizes) at c.in-Some.ensures) c.use_cell.ensures.done w w.within)

pub returns-clause-added : goal.returns-clause-added
returns-clause-added c =
    let done =
    let k = c.use_cell.ensures.same.sizes in
    added c.requires (rw (c.view.ensures.bytes, c.view.ensures.sizes) at c.in-Some.ensures) c.use_cell.ensures.done
    (rw k at c.write_message-length.ensures.written)
    (rw (c.write_message-length.ensures.same.sizes, k) at c.push.ensures.pushed)
    in search rules
