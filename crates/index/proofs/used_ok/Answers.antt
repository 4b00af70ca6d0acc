-- `index::used_ok` meets its contract: the words that have a bit for one are as computed, and the others 0.
use Rattle.std.specs.Prelude.{◌≡◌, refl}
use Rattle.std.proofs.Common.{rules, tests, arith}
use Rattle.rules.specs.Below.{all_below_by, all_from_by}
use Rattle.index.specs.All.{compared-all, compared-not}
use Rattle.index.specs.Bits.{unused}
use Rattle.state.specs.Places.{cell_in}
use Rattle.state.specs.Regions.{slot_of}
use Rattle.state.specs.WellFormed.{in_use}
use Rattle.index.proofs.used_ok.Goals as goal

pub returns-then-all : goal.returns-then-all
returns-then-all g c =
    let z = c.args.v.now.sizes in
    let s = c.args.v.now.bytes.now in
    let f = cell_in z s (slot_of c.args.words 8) in
    let u = cell_in z s (slot_of c.args.of g.T.Number.width) in
    let e = c.words_for-end.result in
    compared-all f (λ w. in_use c.args.n u w 64) e c.args.all _ _
    (λ i. unused u c.words_for-end.ensures.words)
    (omega (arith, c.requires.words.room, c.words_for-end.ensures.words.least))
    (all_below_by e (λ i. f i ≡ in_use c.args.n u i 64) refl c.all.ensures.ran (λ x q k. search (rules, tests)) (λ x q k. search (rules, tests)))
    (all_from_by e c.args.all (λ i. f i ≡ 0) refl c.all-then-all.ensures.ran (λ x q k. search (rules, tests)) (λ x q k. search (rules, tests)))
    c.if-all.true

pub returns-else-all : goal.returns-else-all
returns-else-all g c =
    let z = c.args.v.now.sizes in
    let s = c.args.v.now.bytes.now in
    let f = cell_in z s (slot_of c.args.words 8) in
    let u = cell_in z s (slot_of c.args.of g.T.Number.width) in
    let e = c.words_for-end.result in
    compared-not f (λ w. in_use c.args.n u w 64) e c.args.all _
    (omega (arith, c.requires.words.room, c.words_for-end.ensures.words.least))
    (all_below_by e (λ i. f i ≡ in_use c.args.n u i 64) refl c.all.ensures.ran (λ x q k. search (rules, tests)) (λ x q k. search (rules, tests)))
    c.if-all.false
