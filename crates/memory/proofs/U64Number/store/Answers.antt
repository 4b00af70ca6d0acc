-- The eight bytes, as std makes them.
use Rattle.std.specs.Prelude.{refl}
use Rattle.memory.specs.Bytes.{bytes-written}
use Rattle.memory.proofs.U64Number.store.Goals as goal

pub returns : goal.returns
returns c =
    bytes-written 8 c.args.s.now c.args.at c.args.self c.requires.inside (rw (c.copy_from_slice.ensures.after, c.to_le_bytes.ensures) refl)
