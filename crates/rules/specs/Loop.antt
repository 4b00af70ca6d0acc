-- What a test that decides shows, and loops that test each number below a bound: stated once for every loop of the check.
use Rattle.std.specs.Prelude.{◌≡◌, Bool, true, false, not, ℕ, ◌+◌, ◌≤◌, ◌<◌}
use Rattle.std.proofs.Common.{sym, arith, below_more}
use Rattle.std.proofs.lemmas.Bool.{false≢true}
use Rattle.rules.specs.Code.{Decides}

-- What a test that was passed, and one that was not, shows.
pub passed : {P : Type 0} (b : Bool) → Decides b P → not b ≡ false → P
passed true d e = d
passed false d e = absurd (false≢true (sym e))

pub failed : {P : Type 0} (b : Bool) → Decides b P → not b ≡ true → P → ⊥
failed true d e = absurd (false≢true e)
failed false d e = d

-- The same where the test itself is known.
pub yes_of : (b : Bool) (P : Type 0) → b ≡ true → Decides b P → P
yes_of true P e d = d
yes_of false P e d = absurd (false≢true e)

pub no_of : (b : Bool) (P : Type 0) → b ≡ false → Decides b P → P → ⊥
no_of true P e d = absurd (false≢true (sym e))
no_of false P e d = d

-- A test that decides a statement decides another that is as true.
pub decides_as : {P Q : Type 0} (b : Bool) → (P → Q) → (Q → P) → Decides b P → Decides b Q
decides_as true f g d = f d
decides_as false f g d = λ q. d (g q)

-- What a loop over the numbers below n has shown so far: each number below i meets P.
pub record Passing (P : ℕ → Type 0) (n i : ℕ) : Type 0 where
  pub within : i ≤ n
  pub each : (j : ℕ) → j < i → P j

pub pass_start : {P : ℕ → Type 0} {n : ℕ} → Passing P n 0
pass_start = record { within = omega arith; each = λ j l. absurd (omega arith) }

pub pass_more : {P : ℕ → Type 0} {n i j : ℕ} → Passing P n i → i < n → P i → j ≡ i + 1 → Passing P n j
pass_more {P} {n} {i} p l h e = record { within = omega arith; each = rw e (below_more P i p.each h) }

pub pass_end : {P : ℕ → Type 0} {n i : ℕ} → Passing P n i → n ≤ i → (j : ℕ) → j < n → P j
pass_end p l j h = p.each j (omega arith)
