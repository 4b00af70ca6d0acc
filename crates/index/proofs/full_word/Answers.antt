-- `index::full_word` meets its contract: the words past the n-th are not full.
use Rattle.std.specs.Prelude.{◌+◌}
use Rattle.std.proofs.Common.{◌∙◌, rules, tests}
use Rattle.state.specs.Regions.{slot_of}
use Rattle.index.specs.Bits.{span-end}
use Rattle.index.specs.Words.{full_bit}
use Rattle.index.proofs.full_word.Goals as goal

pub returns : goal.returns
returns c =
    c.word_of.ensures (full_bit c.args.v.now.sizes c.args.v.now.bytes.now (slot_of c.args.words 8) c.args.base) (λ k t l e. search (rules, tests))
    ∙ span-end c.span.ensures (λ k l. c.requires.reach.past (c.args.base + k) l)
