-- `index::full_words_ok` meets its contract.
use Rattle.std.specs.Prelude.{◌≡◌, ◌*◌, refl}
use Rattle.std.proofs.Common.{rules, tests}
use Rattle.layout.specs.Table.{slot}
use Rattle.state.specs.Places.{cell_in}
use Rattle.rules.specs.Below.{all_below_by}
use Rattle.index.specs.Words.{full_word}
use Rattle.index.proofs.full_words_ok.Goals as goal

pub returns : goal.returns
returns c =
    let z = c.args.v.now.sizes in
    let s = c.args.v.now.bytes.now in
    all_below_by 16 (λ w. cell_in z s (slot 11 0 8) w ≡ full_word z s (slot 10 0 8) (64 * w) 64) refl c.all.ensures.ran (λ x q k. search (rules, tests)) (λ x q k. search (rules, tests))
