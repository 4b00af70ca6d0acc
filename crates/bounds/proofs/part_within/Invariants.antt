-- `bounds::part_within` meets its contract: `fits` says whether the records below i are within.
use Rattle.std.specs.Prelude.{ℕ, ◌<◌, ◌≤◌, ◌↔◌, IsTrue}
use Rattle.state.specs.Places.{cell_in}
use Rattle.state.specs.Regions.{slot_of}
use Rattle.bounds.proofs.part_within.Given as goal

abbrev pub invariant-loop-i : goal.invariant-loop-i
invariant-loop-i g l =
    IsTrue l.fits ↔ ((k : ℕ) → l.from ≤ k → k < l.i → cell_in l.v.sizes l.v.bytes.now (slot_of l.f g.T.Number.width) k ≤ l.most)
