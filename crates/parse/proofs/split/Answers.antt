-- `parse::split` meets its contract: what the place of the first space says.
use Rattle.std.specs.Prelude.{List, ℕ, ◌+◌, ◌-◌, length, drop}
use Rattle.std.proofs.Common.{sym, ap, ◌∙◌, arith, length-drop}
use Rattle.std.proofs.Math.Option.{some}
use Rattle.std.proofs.Math.Seq.{take_all}
use Rattle.parse.specs.Words.{splits, SplitAt, Unsplit}
use Rattle.parse.proofs.split.Goals as goal

pub returns-in-Some-clause-word : goal.returns-in-Some-clause-word
returns-in-Some-clause-word c =
    let w : SplitAt c.args.line.now c.in-Some.i = rw c.in-Some.is at (splits c.args.line.now _ c.space.ensures) in
    w.word

pub returns-in-Some-clause-rest : goal.returns-in-Some-clause-rest
returns-in-Some-clause-rest c =
    let line : List ℕ = c.args.line.now in
    let w : SplitAt line c.in-Some.i = rw c.in-Some.is at (splits line _ c.space.ensures) in
    ap (λ (xs : List ℕ). some xs) (take_all (length line - (c.in-Some.i + 1)) (drop (c.in-Some.i + 1) line) (omega (arith, length-drop (c.in-Some.i + 1) line))) ∙ sym w.rest

pub returns-in-None-clause-word : goal.returns-in-None-clause-word
returns-in-None-clause-word c =
    let w : Unsplit c.args.line.now = rw c.in-None.is at (splits c.args.line.now _ c.space.ensures) in
    w.word

pub returns-in-None-clause-rest : goal.returns-in-None-clause-rest
returns-in-None-clause-rest c =
    let w : Unsplit c.args.line.now = rw c.in-None.is at (splits c.args.line.now _ c.space.ensures) in
    sym w.rest
