-- A fresh state of the sizes that `steps` uses.
use Rattle.std.specs.Prelude.{◌≡◌, refl, List, ℕ, ◌≤◌, length}
use Rattle.std.proofs.Common.{sym, ap, subst, ◌∙◌, arith, le-ltb}
use Rattle.machine.specs.Machine.{fresh}
use Rattle.machine.specs.Good.{Good, SizesInRange}
use Rattle.machine.specs.Listing.{steps_sizes}
use Rattle.layout.specs.Table.{start}
use Rattle.state.specs.Abs.{sizes_of, abs}
use Rattle.state.specs.WellFormed.{WellFormed}
use Rattle.state.specs.Places.{sizes_in}
use Rattle.state.specs.declared.Sizes.{Sizes}
use Rattle.holds.specs.Holds.{Holds}
use Rattle.holds.specs.Whole.{well-holds, holds-machine}
use Rattle.holds.specs.Did.{machine_in}
use Rattle.outcome.specs.Stepped.{Well}
use Rattle.make.specs.Fresh.{total_for, counts_fit, sizes_fit, fresh_bytes, make_bytes}
use Rattle.make.specs.Answers.{MakeAnswers, sizes_fit_lem}
use Rattle.make.specs.Made.{fresh-sizes}
use Rattle.make.specs.Holds.{fresh-well, fresh-abs}

-- How many bytes such a state takes.
abbrev pub state_size : ℕ
state_size = 47888

-- The front of s holds a fresh machine of these sizes; what is behind it stays.
pub record Started (s s' : List ℕ) (z : Sizes) : Type 0 where
  pub sizes : sizes_in z ≡ steps_sizes
  pub bytes : s' ≡ fresh_bytes steps_sizes s
  pub well : Well z s'
  pub machine : machine_in z s' ≡ fresh steps_sizes

total-is : total_for steps_sizes ≡ state_size
unfolding start steps_sizes
total-is = refl

pub started
    : {s s' : List ℕ} {z : Sizes} {n : ℕ}
    → state_size ≤ length s
    → MakeAnswers 16 16 16 16 256 1000000 s s' n
    → sizes_in z ≡ steps_sizes
    → Started s s' z
unfolding make_bytes sizes_fit counts_fit steps_sizes
started {s} {s'} {z} {n} h a e =
    let b : s' ≡ fresh_bytes steps_sizes s = a.bytes ∙ rw (le-ltb (length s) (total_for steps_sizes) (omega (arith, total-is))) refl in
    let range : SizesInRange steps_sizes = sizes_fit_lem 16 16 16 16 256 1000000 refl in
    let formed : WellFormed s' = subst WellFormed (sym b) (fresh-well steps_sizes range s) in
    let holds : Holds z s' 0 = well-holds (e ∙ sym (ap sizes_of b ∙ fresh-sizes steps_sizes range s)) formed in
    record {
      sizes = e;
      bytes = b;
      well = record { holds = holds; good = subst Good (holds-machine holds) formed.good };
      machine = sym (holds-machine holds) ∙ ap abs b ∙ fresh-abs steps_sizes range s;
    }
