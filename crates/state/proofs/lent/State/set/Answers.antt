-- The place is within the bytes, and what is put there is the store.
use Rattle.std.proofs.Common.{arith}
use Rattle.layout.specs.Memory.{reach-end, put-at}
use Rattle.state.proofs.lent.State.set.Goals as goal

pub store-requires-clause-inside : goal.store-requires-clause-inside
store-requires-clause-inside g c = omega (arith, reach-end)

pub returns-clause-put : goal.returns-clause-put
returns-clause-put g c = search put-at
