-- The running process, as the memory has it.
use Rattle.std.specs.Prelude.{◌≡◌, List, ℕ, suc}
use Rattle.std.proofs.Common.{arith}
use Rattle.state.specs.Fields as fields
use Rattle.state.specs.Places.{mem_in}
use Rattle.state.specs.declared.Sizes.{Sizes}
use Rattle.holds.specs.Holds.{Holds}
use Rattle.places.specs.Nowhere.{state-used}
use Rattle.records.specs.Own.{LivingAsks}

-- It lives.
pub runs-lives : {z : Sizes} {s : List ℕ} {i : ℕ} → Holds z s 0 → mem_in z s fields.up 0 ≡ suc i → LivingAsks z s i
runs-lives {i = i} h r =
    record { owed = 0; holds = h; used = state-used h.keeps.placed i (omega (arith, h.keeps.placed.running i r)) }
