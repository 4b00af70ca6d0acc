-- `walks::exits_ok` meets its contract: k cells were met.
use Rattle.std.proofs.Common.{sym, ◌∙◌, rules, eq-eqb, eqb-true}
use Rattle.rules.specs.Reach.{reach}
use Rattle.walks.specs.Exits.{exit-start, exit-index, exit-more, exit-long, exit-other, exit-counted, exit-end}
use Rattle.walks.proofs.exits_ok.Goals as goal

pub loop-at-init : goal.loop-at-init
loop-at-init c = exit-start c.args.v.now.whole c.get-at.ensures.value

pub returns-then-k-n : goal.returns-then-k-n
returns-then-k-n c =
    (λ t. absurd (cc), λ o. absurd (exit-long (rw c.in-Some.is at c.loop-at.invariant) c.get-n.ensures.value c.if-k-n.true o))

pub get-requires : goal.get-requires
get-requires c = reach c.args.v.now.whole (search rules) (exit-index (rw c.in-Some.is at c.loop-at.invariant))

pub returns-then-value-me : goal.returns-then-value-me
returns-then-value-me c = (
  λ t. absurd (cc),
  λ o. absurd (exit-other (rw c.in-Some.is at c.loop-at.invariant) (c.value.ensures ∙ c.get.ensures.value) (λ e. c.if-value-me.true (e ∙ sym c.value-me.ensures)) o),
)

pub get-at-requires-in-Some : goal.get-at-requires-in-Some
get-at-requires-in-Some c = reach c.args.v.now.whole (search rules) (exit-index (rw c.in-Some.is at c.loop-at.invariant))

pub loop-at-preserved : goal.loop-at-preserved
loop-at-preserved c =
    exit-more (rw c.in-Some.is at c.loop-at.invariant) c.args.v.now.whole c.get-n.ensures.value c.if-k-n.false (c.value.ensures ∙ c.get.ensures.value)
    (c.if-value-me.false ∙ c.value-me.ensures) c.get-at-in-Some.ensures.value

pub returns : goal.returns
returns c = (
  λ t. exit-end c.args.v.now.whole (rw c.in_default.is at c.loop-at.invariant) c.get-n.ensures.value (eqb-true _ _ t),
  λ o. eq-eqb _ _ (exit-counted c.args.v.now.whole (rw c.in_default.is at c.loop-at.invariant) c.get-n.ensures.value o),
)
