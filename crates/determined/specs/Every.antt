-- Two memories of one machine hold the same wherever the machine uses it: what that says of a field. proofs/Every.antt proves it of each.
use Rattle.std.specs.Prelude.{◌≡◌, ℕ, ◌<◌}
use Rattle.machine.specs.Machine.{Sizes}
use Rattle.layout.specs.Memory.{Memory}
use Rattle.holds.specs.Use.{used_in}

-- Where the machine uses field f, the memories hold the same.
abbrev pub Agrees : Sizes → Memory → Memory → ℕ → Type 0
Agrees z m m' f = (i : ℕ) → 0 < used_in z m f i → m' f i ≡ m f i
