-- `kin::parent_of` meets its contract, by each way out.
use Rattle.std.proofs.Common.{rules, arith}
use Rattle.rules.specs.Code.{mem_in}
use Rattle.kin.specs.Link.{link-free, link-none, link-zero, link-some, link-other}
use Rattle.rules.specs.Reach.{records-few, reach}
use Rattle.kin.specs.Kin.{parent-range}
use Rattle.kin.proofs.parent_of.Goals as goal

pub returns-then-get-eq0-clause-value : goal.returns-then-get-eq0-clause-value
returns-then-get-eq0-clause-value c = link-free (mem_in c.args.v.now.sizes c.args.v.now.bytes.now) c.get.ensures.value c.if-get-eq0.true

pub get-parent-requires : goal.get-parent-requires
get-parent-requires c = reach c.args.v.now.whole (search rules) (search rules)

pub returns-then-parent-eq0-clause-value : goal.returns-then-parent-eq0-clause-value
returns-then-parent-eq0-clause-value c =
    link-none (mem_in c.args.v.now.sizes c.args.v.now.bytes.now) c.get.ensures.value c.if-get-eq0.false c.get-parent.ensures.value c.if-parent-eq0.true

pub get-requires-2 : goal.get-requires-2
get-requires-2 c = reach c.args.v.now.whole (search rules) (search rules)

pub returns-in_err-at-clause-value : goal.returns-in_err-at-clause-value
returns-in_err-at-clause-value c =
    rw c.from_residual.ensures
    (link-zero (mem_in c.args.v.now.sizes c.args.v.now.bytes.now) c.get.ensures.value c.if-get-eq0.false c.get-parent.ensures.value c.if-parent-eq0.false c.in_err-at.ensures.value)

pub get-pid-requires : goal.get-pid-requires
get-pid-requires c = reach c.args.v.now.whole (search rules) (omega (arith, c.in_ok-at.ensures.value, parent-range c.args.v.now.whole c.args.i))

pub returns-then-pid-parent-clause-value : goal.returns-then-pid-parent-clause-value
returns-then-pid-parent-clause-value c =
    link-some (mem_in c.args.v.now.sizes c.args.v.now.bytes.now) c.get.ensures.value c.if-get-eq0.false c.get-parent.ensures.value c.if-parent-eq0.false
    c.in_ok-at.ensures.value c.get-pid.ensures.value c.if-pid-parent.true

pub returns-then-pid-parent-clause-small : goal.returns-then-pid-parent-clause-small
returns-then-pid-parent-clause-small c =
    omega (arith, c.in_ok-at.ensures.value, parent-range c.args.v.now.whole c.args.i, (records-few c.args.v.now.whole).1)

pub returns-else-pid-parent-clause-value : goal.returns-else-pid-parent-clause-value
returns-else-pid-parent-clause-value c =
    link-other (mem_in c.args.v.now.sizes c.args.v.now.bytes.now) c.get.ensures.value c.if-get-eq0.false c.get-parent.ensures.value c.if-parent-eq0.false
    c.in_ok-at.ensures.value c.get-pid.ensures.value c.if-pid-parent.false
