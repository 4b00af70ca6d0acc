-- To put a number in one byte is to set that byte.
use Rattle.memory.specs.Le.{put_one}
use Rattle.memory.proofs.U8Number.store.Goals as goal

pub returns : goal.returns
returns c = search put_one
