-- `listing::split_line` meets its contract: what the place of the first line end says.
use Rattle.std.specs.Prelude.{List, ℕ, ◌-◌, ◌+◌, length, drop}
use Rattle.std.proofs.Common.{arith, take_all, length-drop}
use Rattle.listing.specs.Rest.{splits}
use Rattle.listing.proofs.split_line.Goals as goal

pub returns-in-Some-clause-line : goal.returns-in-Some-clause-line
returns-in-Some-clause-line c =
    let line : List ℕ = c.args.chunk.now in
    let i : ℕ = c.in-Some.i in
    rw (take_all (length line - (i + 1)) (drop (i + 1) line) (omega (arith, length-drop (i + 1) line)))
    (rw c.in-Some.is at (splits line _ c.newline.ensures))

pub returns-in-None-clause-none : goal.returns-in-None-clause-none
returns-in-None-clause-none c = rw c.in-None.is at (splits c.args.chunk.now _ c.newline.ensures)
