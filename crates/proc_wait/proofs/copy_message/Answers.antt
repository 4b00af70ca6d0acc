-- `proc_wait::copy_message` meets its contract: the bytes of the cell.
use Rattle.std.specs.Prelude.{refl}
use Rattle.std.proofs.Common.{arith}
use Rattle.proc_wait.specs.Copy.{copied-all, copy-fits, copy-more}
use Rattle.proc_wait.proofs.copy_message.Goals as goal

pub loop-j-init : goal.loop-j-init
loop-j-init c = refl

pub bounds-v-at : goal.bounds-v-at
bounds-v-at c =
    omega (arith, c.requires.short, c.get-length.ensures.value, c.from-n.ensures, copy-fits c.requires c.message_at-at.ensures.value)

pub bounds-buffer-j : goal.bounds-buffer-j
bounds-buffer-j c = omega (arith, c.requires.short, c.requires.room, c.get-length.ensures.value, c.from-n.ensures)

pub loop-j-preserved : goal.loop-j-preserved
loop-j-preserved c =
    copy-more c.args.v.now.bytes.now c.args.buffer.now c.message_at-at.result c.loop-j.j c.loop-j.invariant
    (omega (arith, c.requires.short, c.get-length.ensures.value, c.from-n.ensures, copy-fits c.requires c.message_at-at.ensures.value))
    (omega (arith, c.requires.short, c.requires.room, c.get-length.ensures.value, c.from-n.ensures))
    refl

pub returns : goal.returns
returns c =
    copied-all c.requires c.message_at-at.ensures.value c.get-length.ensures.value c.loop-j.invariant (omega (arith, c.from-n.ensures))
