-- A field in its range, and one that is not.
use Rattle.std.specs.Prelude.{◌≡◌, ◌⊎◌, Bool, true, false, ℕ, ◌≤◌, ◌<◌}
use Rattle.std.proofs.Common.{sym, ◌∙◌, arith, inl, inr, ltb-true, ltb-false}
use Rattle.std.proofs.Math.Path.{refl}
use Rattle.lists.specs.Lists.{bit}
use Rattle.clock.specs.Counts.{valid_duration}
use Rattle.clock.specs.declared.Duration.{Duration}
use Rattle.outcome.specs.declared.Refusal.{Refusal}
use Rattle.outcome.specs.declared.Refusal.TheVariants.{NoSuchStep}

-- The field is i, and below n.
pub record Within (n field i : ℕ) : Type 0 where
  pub same : i ≡ field
  pub low : i < n

-- It is not below n.
pub record Beyond (n field : ℕ) (e : Refusal) : Type 0 where
  pub cause : e ≡ NoSuchStep
  pub high : n ≤ field

-- The field is the value of a condition.
pub record Truth (field : ℕ) (v : Bool) : Type 0 where
  pub same : bit v ≡ field

-- It is kernel timer t of n, and not timer 0.
pub record IsKernel (n field t : ℕ) : Type 0 where
  pub same : t ≡ field
  pub some : 1 ≤ t
  pub low : t < n

pub record NotKernel (n field : ℕ) (e : Refusal) : Type 0 where
  pub cause : e ≡ NoSuchStep
  pub out : (field < 1) ⊎ (n ≤ field)

-- The two fields are a length of time.
pub record Lasting (S N : ℕ) (d : Duration) : Type 0 where
  pub secs : d.secs ≡ S
  pub nanos : d.nanos ≡ N
  pub valid : d.nanos < 1000000000

-- What the code of `kernel_timer` shows.
pub is-kernel : {n field t : ℕ} → 1 ≤ field → Within n field t → IsKernel n field t
is-kernel l w = record { same = w.same; some = rw w.same l; low = w.low }

pub beyond-kernel : {n field : ℕ} {e : Refusal} → Beyond n field e → NotKernel n field e
beyond-kernel b = record { cause = b.cause; out = inr b.high }

pub not_kernel : {n field : ℕ} → field < 1 → NotKernel n field NoSuchStep
not_kernel l = record { cause = refl; out = inl l }

-- What the code of `duration_of` shows.
pub lasting : {S N n : ℕ} {b : Bool} → n ≡ N → b ≡ valid_duration S n → b ≡ true → Lasting S N (record { secs = S; nanos = n })
unfolding valid_duration
lasting {S} {N} {n} q v t = record { secs = refl; nanos = q; valid = ltb-true n 1000000000 (sym v ∙ t) }

pub not_lasting : (S : ℕ) {N n : ℕ} {b : Bool} → n ≡ N → b ≡ valid_duration S n → b ≡ false → Beyond 1000000000 N NoSuchStep
unfolding valid_duration
not_lasting S {N} {n} q v f = record { cause = refl; high = omega (arith, q, ltb-false n 1000000000 (sym v ∙ f)) }

pub too_long : {N : ℕ} → (N < 4294967296 → ⊥) → Beyond 1000000000 N NoSuchStep
too_long f = record { cause = refl; high = omega (arith, f) }
