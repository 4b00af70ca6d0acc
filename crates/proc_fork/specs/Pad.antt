-- A name, zero-filled to twenty-eight bytes.
use Rattle.std.specs.Prelude.{◌≡◌, refl, true, List, [], ◌∷◌, ◌++◌, ℕ, zero, suc, ◌-◌, ◌≤◌, ◌<◌, length, get_or, drop, replicate}
use Rattle.std.proofs.Common.{ap, ◌∙◌, arith, lt-ltb, length-append}
use Rattle.std.proofs.lemmas.List.{length-replicate, drop-replicate}
use Rattle.machine.specs.Basics.{all}
use Rattle.machine.specs.Good.{Each}
use Rattle.machine.specs.Table.{all_bytes}
use Rattle.records.specs.Names.{IsName}

-- The bytes, and zeros behind them.
abbrev pub padding : List ℕ → List ℕ
padding bytes = bytes ++ replicate (28 - length bytes) 0

pub record Padded (bytes r : List ℕ) : Type 0 where
  pub text : r ≡ padding bytes

pub padding-length : (bytes : List ℕ) → length bytes ≤ 28 → length (padding bytes) ≡ 28
padding-length bytes l =
    length-append bytes (replicate (28 - length bytes) 0) ∙ omega (arith, length-replicate {A = ℕ} (28 - length bytes) 0, l)

pub padded_lem : (bytes : List ℕ) → Padded bytes (bytes ++ drop (length bytes) (replicate 28 0))
padded_lem bytes = record { text = ap (λ (x : List ℕ). bytes ++ x) (drop-replicate (length bytes) 28 0) }

-- It is a name.
each-zeros : (n : ℕ) → Each (λ b. b ≤ 255) (replicate n 0)
each-zeros zero = tt
each-zeros (suc n) = (omega arith, each-zeros n)

-- Numbers below 256, each by its place.
abbrev pub Bytes : List ℕ → Type 0
Bytes bytes = (k : ℕ) → get_or bytes k 0 < 256

pub all_bytes_lem : (bytes : List ℕ) → Bytes bytes → all_bytes bytes ≡ true
unfolding all_bytes all
all_bytes_lem [] h = refl
all_bytes_lem (b ∷ bytes) h = rw (lt-ltb b 256 (h 0)) (all_bytes_lem bytes (λ k. h (suc k)))

each-padding : (bytes : List ℕ) (n : ℕ) → Bytes bytes → Each (λ b. b ≤ 255) (bytes ++ replicate n 0)
each-padding [] n h = each-zeros n
each-padding (b ∷ bytes) n h = (omega (arith, h 0), each-padding bytes n (λ k. h (suc k)))

pub padding-name : (bytes : List ℕ) → length bytes ≤ 28 → Bytes bytes → IsName (padding bytes)
padding-name bytes l e = record { length = padding-length bytes l; bytes = each-padding bytes (28 - length bytes) e }
