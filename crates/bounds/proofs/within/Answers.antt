-- `bounds::within` meets its contract: the records of the blocks before this one are within.
use Rattle.std.specs.Prelude.{◌≡◌, refl, Bool, true, false, ℕ, ◌+◌, ◌*◌, ◌/◌, ◌≤◌, ◌<◌, ltb}
use Rattle.std.proofs.Common.{sym, ◌∙◌, arith, ltb-true, ltb-false}
use Rattle.state.specs.Places.{cell_in}
use Rattle.state.specs.Regions.{slot_of}
use Rattle.bounds.specs.Column.{Within, WithinFrom}
use Rattle.bounds.proofs.within.Goals as goal

pub loop-block-init : goal.loop-block-init
loop-block-init g c = λ k h l. omega arith

pub returns-then-not-part_within : goal.returns-then-not-part_within
unfolding Within WithinFrom
returns-then-not-part_within g c = (
  λ t. absurd (cc),
  λ w. sym c.if-not-part_within.true ∙ c.part_within.ensures.1 (λ k b h. w k (omega (arith, c.loop-block-test.true))),
)

pub loop-block-preserved : goal.loop-block-preserved
unfolding WithinFrom
loop-block-preserved g c = λ k h l. go k h l (ltb k (c.loop-block.block * 8)) refl
  where
    go
        : (k : ℕ)
        → k < (c.loop-block.block + 1) * 8
        → k < c.args.n
        → (t : Bool)
        → ltb k (c.loop-block.block * 8) ≡ t
        → cell_in c.args.v.now.sizes c.args.v.now.bytes.now (slot_of c.args.f g.T.Number.width) k ≤ c.args.most
    go k h l true e = c.loop-block.invariant k (ltb-true k (c.loop-block.block * 8) e) l
    go k h l false e =
        c.part_within.ensures.0 c.if-not-part_within.false k (omega (arith, ltb-false k (c.loop-block.block * 8) e)) (omega arith)

pub returns : goal.returns
unfolding Within WithinFrom
returns g c = (λ t k l. go t k l (ltb k (c.args.n / 8 * 8)) refl, λ w. c.part_within-2.ensures.1 (λ k b l. w k l))
  where
    go
        : c.part_within-2.result ≡ true
        → (k : ℕ)
        → k < c.args.n
        → (t : Bool)
        → ltb k (c.args.n / 8 * 8) ≡ t
        → cell_in c.args.v.now.sizes c.args.v.now.bytes.now (slot_of c.args.f g.T.Number.width) k ≤ c.args.most
    go r k l true e =
        c.loop-block.invariant k (omega (arith, c.loop-block-test.false, ltb-true k (c.args.n / 8 * 8) e)) l
    go r k l false e = c.part_within-2.ensures.0 r k (omega (arith, ltb-false k (c.args.n / 8 * 8) e)) l
