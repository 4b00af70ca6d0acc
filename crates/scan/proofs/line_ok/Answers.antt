-- `scan::line_ok` meets its contract, by each way out.
use Rattle.std.proofs.Common.{sym, ◌∙◌, rules, arith}
use Rattle.std.proofs.lemmas.Bool.{false≢true}
use Rattle.state.specs.Fields as fields
use Rattle.rules.specs.Read.{field-most}
use Rattle.rules.specs.Reach.{reach}
use Rattle.scan.specs.Lines.{line-start, line-more, line-long, line-bad, line-ended, line-tail, line-yes}
use Rattle.scan.proofs.line_ok.Goals as goal

pub loop-at-init : goal.loop-at-init
loop-at-init c = line-start c.requires

pub returns-then-n-most : goal.returns-then-n-most
returns-then-n-most c = line-long (rw c.in-Some.is at c.loop-at.invariant) c.if-n-most.true

pub member_ok-requires : goal.member_ok-requires
member_ok-requires c = omega (arith, (rw c.in-Some.is at c.loop-at.invariant).range)

pub returns-then-not-member_ok : goal.returns-then-not-member_ok
returns-then-not-member_ok c =
    line-bad (rw c.in-Some.is at c.loop-at.invariant) (λ h. false≢true (sym c.if-not-member_ok.true ∙ c.member_ok.ensures.1 h))

pub get-at-requires : goal.get-at-requires
get-at-requires c = reach c.args.v.now.whole (search rules) (omega (arith, (rw c.in-Some.is at c.loop-at.invariant).range))

pub loop-at-preserved : goal.loop-at-preserved
loop-at-preserved c =
    line-more (rw c.in-Some.is at c.loop-at.invariant) c.if-n-most.false (c.member_ok.ensures.0 c.if-not-member_ok.false) c.get-at.ensures.value
    (omega (arith, c.get-at.ensures.value, field-most c.args.v.now.whole fields.next c.in-Some.i))

pub returns-then-same : goal.returns-then-same
returns-then-same c =
    line-yes (line-ended c.args.v.now.whole c.requires (rw c.in_default.is at c.loop-at.invariant)) c.loop-at.invariant.few (c.same.ensures.0 c.if-same.true)

pub returns-else-same : goal.returns-else-same
returns-else-same c =
    line-tail (line-ended c.args.v.now.whole c.requires (rw c.in_default.is at c.loop-at.invariant)) (λ e. false≢true (sym c.if-same.false ∙ c.same.ensures.1 e))
