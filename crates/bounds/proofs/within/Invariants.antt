-- `bounds::within` meets its contract: the records of the blocks before this one are within.
use Rattle.std.specs.Prelude.{ℕ, ◌<◌, ◌≤◌, ◌*◌}
use Rattle.state.specs.Regions.{slot_of}
use Rattle.state.specs.Places.{cell_in}
use Rattle.bounds.proofs.within.Given as goal

abbrev pub invariant-loop-block : goal.invariant-loop-block
invariant-loop-block g l = (k : ℕ) → k < l.block * 8 → k < l.n → cell_in l.v.sizes l.v.bytes.now (slot_of l.f g.T.Number.width) k ≤ l.most
