-- `index::word_of` meets its contract: the j highest bits have made the word.
use Rattle.std.specs.Prelude.{◌≡◌, Bool, ℕ, ◌-◌, ◌^◌, ◌<◌}
use Rattle.index.specs.Bits.{Gathered}
use Rattle.index.proofs.word_of.Given as goal

abbrev pub invariant-loop-j : goal.invariant-loop-j
invariant-loop-j g l =
    (l.word < 2 ^ l.j)
    × ((f : ℕ → Bool) → ((k : ℕ) (t : Bool) → k < l.fn.n → goal.F-post g l.bit k t → t ≡ f k) → Gathered f l.fn.n (l.fn.n - l.j) l.word)
