-- `walks::count_set` meets its contract: the records below i were counted.
use Rattle.std.specs.Prelude.{◌≡◌}
use Rattle.state.specs.Abs.{is_set}
use Rattle.state.specs.Places.{cell_in}
use Rattle.state.specs.Regions.{slot_of}
use Rattle.rules.specs.Facts.{count_below}
use Rattle.walks.proofs.count_set.Given as goal

abbrev pub invariant-loop-i : goal.invariant-loop-i
invariant-loop-i g l = l.count ≡ count_below l.i (λ k. is_set (cell_in l.v.sizes l.v.bytes.now (slot_of l.f g.T.Number.width) k))
