-- `records::alloc` meets its contract: each need by its law.
use Rattle.std.proofs.Common.{rules}
use Rattle.std.specs.Prelude.{refl}
use Rattle.records.specs.Alloc.{alloc-occupy, alloc_find, alloc-none, alloc-one}
use Rattle.records.proofs.alloc.Goals as goal

pub find_record-requires : goal.find_record-requires
find_record-requires c = rw (c.view.ensures.bytes, c.view.ensures.sizes) (alloc_find c.requires)

pub returns-in_err-i-clause-done : goal.returns-in_err-i-clause-done
returns-in_err-i-clause-done c =
    rw c.from_residual.ensures
    (let done = alloc-none c.requires (rw (c.view.ensures.bytes, c.view.ensures.sizes) at c.in_err-i.ensures) refl in search rules)

pub occupy-requires : goal.occupy-requires
occupy-requires c =
    rw c.next_pid-pid.ensures.same.sizes
    (alloc-occupy c.requires (rw (c.view.ensures.bytes, c.view.ensures.sizes) at c.in_ok-i.ensures) c.next_pid-pid.ensures.done)

pub returns-clause-done : goal.returns-clause-done
returns-clause-done c =
    let done =
    alloc-one c.requires (rw (c.view.ensures.bytes, c.view.ensures.sizes) at c.in_ok-i.ensures) c.next_pid-pid.ensures.done
    (rw c.next_pid-pid.ensures.same.sizes at c.occupy.ensures.done)
    in search rules
