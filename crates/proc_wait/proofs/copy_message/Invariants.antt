-- `proc_wait::copy_message` meets its contract: the first bytes are copied, and no other is changed.
use Rattle.std.specs.Prelude.{◌≡◌, ◌++◌, take, drop}
use Rattle.proc_wait.proofs.copy_message.Given as goal

abbrev pub invariant-loop-j : goal.invariant-loop-j
invariant-loop-j l = l.buffer ≡ take l.j (drop l.at l.v.bytes.now) ++ drop l.j l.initial.buffer
