-- There is room in the count of those asleep: they are no more than there are records.
use Rattle.std.specs.Prelude.{◌≡◌, List, ℕ, ◌<◌}
use Rattle.std.proofs.Common.{arith}
use Rattle.machine.specs.Machine.{asleep}
use Rattle.state.specs.Fields as fields
use Rattle.state.specs.Places.{sizes_in, mem_in}
use Rattle.state.specs.declared.Sizes.{Sizes}
use Rattle.rules.specs.Facts.{count_below, is_asleep}
use Rattle.rules.specs.Counting.{count_few}
use Rattle.exact.specs.Bounds.{InBounds}
use Rattle.exact.specs.Spots.{spots-asleep}
use Rattle.exact.specs.WellSpots.{well-spots}
use Rattle.holds.specs.Whole.{holds-bounds, tagged_of}
use Rattle.holds.specs.Did.{machine_in}
use Rattle.outcome.specs.Stepped.{Well}

pub well-room : {z : Sizes} {s : List ℕ} → Well z s → mem_in z s fields.asleep_count 0 < 65535
well-room {z} {s} w =
    let b : InBounds (sizes_in z) (mem_in z s) = holds-bounds w.holds in
    let e : asleep (machine_in z s) ≡ count_below z.processes (is_asleep (mem_in z s)) =
    spots-asleep b (well-spots b (tagged_of w.holds.keeps.placed) w.good)
    in
    omega (
      arith,
      w.holds.keeps.placed.asleep,
      e,
      count_few z.processes (is_asleep (mem_in z s)),
      w.holds.sizes.processes.1,
    )
