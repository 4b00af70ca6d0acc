-- `free::find_record` meets its contract: each return cites its law of specs/FindRecord.antt.
use Rattle.std.specs.Prelude.{refl}
use Rattle.std.proofs.Common.{arith}
use Rattle.free.specs.FindRecord.{found_none, found-record, bit-there}
use Rattle.free.proofs.find_record.Goals as goal

pub returns-in_err-w : goal.returns-in_err-w
returns-in_err-w c = rw c.from_residual.ensures (found_none c.requires c.get.ensures.value c.in_err-w.ensures.none refl)

pub returns-in_err-b : goal.returns-in_err-b
returns-in_err-b c =
    let w = c.in_ok-w.ensures.some in
    absurd (omega (arith, bit-there c.requires c.get.ensures.value w.0 w.1 c.get-2.ensures.value c.in_err-b.ensures.none))

pub returns : goal.returns
returns c =
    let w = c.in_ok-w.ensures.some in
    found-record c.requires c.get.ensures.value w.0 w.1 c.get-2.ensures.value c.in_ok-b.ensures.some.0 c.from_last.ensures
