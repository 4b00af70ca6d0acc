-- `index::word_of` meets its contract: the j highest bits have made the word.
use Rattle.std.specs.Prelude.{true, false, ◌-◌}
use Rattle.std.proofs.Common.{sym, ◌∙◌, rules, arith}
use Rattle.index.specs.Bits.{gather_start, gather_more, gather_end, can-double, room-more}
use Rattle.index.proofs.word_of.Goals as goal
use Rattle.index.proofs.word_of.Goals.{then-bit, else-bit}

pub loop-j-init : goal.loop-j-init
loop-j-init g c = (omega arith, λ f e. gather_start f c.args.n)

pub overflow_mul-word : goal.overflow_mul-word
overflow_mul-word g c = omega (arith, can-double c.loop-j.j c.loop-j-test.true c.requires.small c.loop-j.invariant.0)

pub overflow_add-word : goal.overflow_add-word
overflow_add-word g c = omega (arith, can-double c.loop-j.j c.loop-j-test.true c.requires.small c.loop-j.invariant.0)

pub loop-j-preserved : goal.loop-j-preserved
loop-j-preserved g c =
    elim c.if-bit.branch [
      | then-bit w ↦ (
        room-more c.loop-j.j true c.loop-j.invariant.0 (omega (arith, w.word-is)),
        λ f e.
            gather_more f c.args.n c.loop-j.j c.loop-j.word true c.loop-j-test.true (c.loop-j.invariant.1 f e)
            (sym w.if-bit.true ∙ e (c.args.n - 1 - c.loop-j.j) c.bit.result (omega (arith, c.loop-j-test.true)) c.bit.ensures) (omega (arith, w.word-is)),
      )
      | else-bit w ↦ (
        room-more c.loop-j.j false c.loop-j.invariant.0 (omega (arith, w.word-is)),
        λ f e.
            gather_more f c.args.n c.loop-j.j c.loop-j.word false c.loop-j-test.true (c.loop-j.invariant.1 f e)
            (sym w.if-bit.false ∙ e (c.args.n - 1 - c.loop-j.j) c.bit.result (omega (arith, c.loop-j-test.true)) c.bit.ensures) (omega (arith, w.word-is)),
      )
    ]

pub returns : goal.returns
returns g c = λ f e. gather_end f c.args.n c.loop-j.word (search rules)
