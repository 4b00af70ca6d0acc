-- `parse::first_number` meets its contract: the bytes passed are of the first word, and digits of the value so far.
use Rattle.std.specs.Prelude.{List, ℕ, ◌+◌, ◌-◌, length, drop}
use Rattle.std.proofs.Common.{sym, ap, ◌∙◌, arith, rules, tests, length-drop}
use Rattle.std.proofs.Math.Option.{some}
use Rattle.std.proofs.Math.Seq.{take_all}
use Rattle.parse.specs.Numeral.{in-empty, in-blank, in-start, in-space, in-other, in-big, in-more, in-end}
use Rattle.parse.proofs.first_number.Goals as goal
use Rattle.parse.proofs.first_number.Goals.{then-is_empty-via-then-is_empty, then-is_empty-via-else-is_empty+then-line-eq32}

pub returns-then-is_empty-clause-none : goal.returns-then-is_empty-clause-none
returns-then-is_empty-clause-none c =
    elim c.then-is_empty.branch [
      | then-is_empty-via-then-is_empty w ↦ in-empty c.args.line.now (search (rules, tests))
      | then-is_empty-via-else-is_empty+then-line-eq32 w ↦ in-blank c.args.line.now (search (rules, tests)) w.if-line-eq32.true
    ]

pub loop-i-init : goal.loop-i-init
loop-i-init c = in-start c.args.line.now (search (rules, tests)) (search (rules, tests))

pub returns-then-b-eq32-clause-found : goal.returns-then-b-eq32-clause-found
returns-then-b-eq32-clause-found c = (in-space c.loop-i.invariant (omega arith) (search (rules, tests))).0

pub returns-then-b-eq32-clause-rest : goal.returns-then-b-eq32-clause-rest
returns-then-b-eq32-clause-rest c =
    let line : List ℕ = c.args.line.now in
    let i = c.loop-i.i in
    ap (λ (xs : List ℕ). some xs) (take_all (length line - (i + 1)) (drop (i + 1) line) (omega (arith, length-drop (i + 1) line)))
    ∙ sym (in-space c.loop-i.invariant (omega arith) (search (rules, tests))).1

pub returns-then-not-is_ascii_digit-clause-none : goal.returns-then-not-is_ascii_digit-clause-none
returns-then-not-is_ascii_digit-clause-none c =
    in-other c.loop-i.invariant (omega arith) (search (rules, tests)) c.if-not-is_ascii_digit.ensures.cases

pub returns-in_err-checked_mul-clause-none : goal.returns-in_err-checked_mul-clause-none
returns-in_err-checked_mul-clause-none c =
    let h = c.if-not-is_ascii_digit.ensures.cases in
    let big = c.in_err-checked_mul.ensures in
    rw c.from_residual.ensures (in-big c.loop-i.invariant (omega arith) (search (rules, tests)) h.0 h.1 (omega (arith, big)))

pub returns-in_err-value-clause-none : goal.returns-in_err-value-clause-none
returns-in_err-value-clause-none c =
    let h = c.if-not-is_ascii_digit.ensures.cases in
    let ten = c.in_ok-checked_mul.ensures in
    let big = c.in_err-value.ensures in
    rw c.from_residual-in_err-value.ensures
    (in-big c.loop-i.invariant (omega arith) (search (rules, tests)) h.0 h.1 (omega (arith, ten.1, big, c.from.ensures)))

pub loop-i-preserved : goal.loop-i-preserved
loop-i-preserved c =
    let h = c.if-not-is_ascii_digit.ensures.cases in
    let ten = c.in_ok-checked_mul.ensures in
    let one = c.in_ok-value.ensures in
    rw (one.1, ten.1, c.from.ensures) (in-more c.loop-i.invariant (omega arith) (search (rules, tests)) h.0 h.1 (omega (arith, one.0, ten.1, c.from.ensures)))

pub returns-clause-found : goal.returns-clause-found
returns-clause-found c = (in-end c.loop-i.invariant (omega arith)).0

pub returns-clause-rest : goal.returns-clause-rest
returns-clause-rest c = sym (in-end c.loop-i.invariant (omega arith)).1
