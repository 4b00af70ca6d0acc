-- `verify::state_ok` meets its contract: what is in range is the same bytes at the same sizes.
use Rattle.std.specs.Prelude.{refl}
use Rattle.exact.proofs.Exact.{whole-checked}
use Rattle.rules.specs.Tests.{as_true}
use Rattle.verify.proofs.state_ok.Goals as goal

pub returns-in-Some : goal.returns-in-Some
returns-in-Some c =
    let e = c.in-Some.ensures.same in
    let m = c.marks_ok.ensures.0 c.if-marks_ok.true in
    as_true (rw (e.1, e.0) at c.facts_ok.ensures)
    (whole-checked {z = c.args.v.now.sizes} (record { sizes = c.requires; state = c.in-Some.ensures.exact.0 refl }) m.mark m.layout)
    (λ x. x.facts)
