-- `free::find_cell` meets its contract: each return cites its law of specs/FindCell.antt.
use Rattle.std.proofs.Common.{arith}
use Rattle.free.specs.FindCell.{in_16, bit_there, cell_there, reach-above, reach-cell_word, cell_word-fits, cell_bit-fits, found-cell}
use Rattle.free.proofs.find_cell.Goals as goal

pub returns-in_err-v : goal.returns-in_err-v
returns-in_err-v c = absurd (omega (arith, in_16 c.requires c.get.ensures.value c.in_err-v.ensures.none))

pub get-requires-2 : goal.get-requires-2
get-requires-2 c = reach-above c.requires c.get.ensures.value c.in_ok-v.ensures.some.0

pub returns-in_err-b : goal.returns-in_err-b
returns-in_err-b c =
    absurd
    (omega (arith, bit_there c.requires c.get.ensures.value c.in_ok-v.ensures.some.0 c.get-2.ensures.value c.in_err-b.ensures.none))

pub get-requires-3 : goal.get-requires-3
get-requires-3 c =
    reach-cell_word c.requires c.get.ensures.value c.in_ok-v.ensures.some.0 c.get-2.ensures.value c.in_ok-b.ensures.some.0

pub returns-in_err-c : goal.returns-in_err-c
returns-in_err-c c =
    absurd
    (omega (
      arith,
      cell_there c.requires c.get.ensures.value c.in_ok-v.ensures.some.0 c.get-2.ensures.value c.in_ok-b.ensures.some.0 c.get-3.ensures.value
          c.in_err-c.ensures.none,
    ))

pub overflow_mul-w-2 : goal.overflow_mul-w-2
overflow_mul-w-2 c =
    cell_word-fits c.requires c.get.ensures.value c.in_ok-v.ensures.some.0 c.get-2.ensures.value c.in_ok-b.ensures.some.0

pub overflow_add-w-2 : goal.overflow_add-w-2
overflow_add-w-2 c =
    cell_bit-fits c.requires c.get.ensures.value c.in_ok-v.ensures.some.0 c.get-2.ensures.value c.in_ok-b.ensures.some.0
    c.in_ok-c.ensures.some.0

pub returns : goal.returns
returns c =
    found-cell c.requires c.get.ensures.value c.in_ok-v.ensures.some.0 c.get-2.ensures.value c.in_ok-b.ensures.some.0 c.get-3.ensures.value
    c.in_ok-c.ensures.some.0 c.from_last.ensures
