-- Which readings of the clock are refused.
use Rattle.std.specs.Prelude.{◌≡◌, Bool, true, false, List, ℕ, ◌≤◌, ◌<◌, ltb}
use Rattle.std.proofs.Common.{sym, lt-ltb, le-ltb, ltb-false}
use Rattle.machine.specs.Table.{bad_now}
use Rattle.state.specs.Fields as fields
use Rattle.state.specs.Abs.{machine_of}
use Rattle.state.specs.Places.{mem_in}
use Rattle.state.specs.declared.Sizes.{Sizes}
use Rattle.exact.specs.Sums.{true-false}
use Rattle.holds.specs.Did.{machine_in}

-- Whether a reading is refused; one that is not is small.
pub record BadNow (z : Sizes) (s : List ℕ) (n : ℕ) (b : Bool) : Type 0 where
  pub answer : b ≡ bad_now (machine_in z s) n
  pub small : b ≡ false → n ≤ 2251799813685247

pub bad_early : {z : Sizes} {s : List ℕ} {n last : ℕ} → last ≡ mem_in z s fields.last_now 0 → n < last → BadNow z s n true
unfolding bad_now machine_of
bad_early {z} {s} {n} {last} e l =
    record { answer = sym (rw (← e, lt-ltb n last l)); small = λ f. absurd (true-false f) }

pub bad_late : {z : Sizes} {s : List ℕ} {n last : ℕ} → last ≡ mem_in z s fields.last_now 0 → last ≤ n → BadNow z s n (ltb 2251799813685247 n)
unfolding bad_now machine_of
bad_late {z} {s} {n} {last} e l =
    record { answer = sym (rw (← e, le-ltb n last l)); small = λ f. ltb-false 2251799813685247 n f }
