-- What the code's arithmetic rests on: strides are small, and so is what a record's number makes of them.
use Rattle.std.specs.Prelude.{ℕ, ◌*◌, ◌≤◌, ◌<◌, leb, get_or}
use Rattle.std.proofs.Common.{mul-le-mul, arith, leb→le}
use Rattle.std.proofs.Math.Nat.{le-pred_of_lt}
use Rattle.machine.specs.Basics.{all}
use Rattle.layout.specs.Tests.{all-at}
use Rattle.state.specs.Fields.{strides}

pub stride-small : (r : ℕ) → r < 13 → get_or strides r 0 ≤ 80
unfolding all
stride-small r h = leb→le (get_or strides r 0) 80 (all-at (λ (x : ℕ). leb x 80) 0 strides tt r h)

pub part_small : (i t : ℕ) → i < 65536 → t ≤ 80 → i * t ≤ 5242800
part_small i t h l = omega (arith, mul-le-mul {n₂ = 65535} {m₂ = 80} (le-pred_of_lt h) l)
