-- `index::used_word` meets its contract: the bits past the last record, or cell, are not set.
use Rattle.std.specs.Prelude.{◌+◌, ◌*◌}
use Rattle.std.proofs.Common.{◌∙◌, rules, tests}
use Rattle.state.specs.Places.{cell_in}
use Rattle.state.specs.Regions.{slot_of}
use Rattle.index.specs.Bits.{used_bit, in_use_lem}
use Rattle.index.proofs.used_word.Goals as goal

pub returns : goal.returns
returns g c =
    let u = cell_in c.args.v.now.sizes c.args.v.now.bytes.now (slot_of c.args.of g.T.Number.width) in
    c.word_of.ensures (λ k. used_bit c.args.n u (64 * c.args.w + k)) (λ k t l e. search (rules, tests))
    ∙ in_use_lem c.args.w u c.span.ensures
