-- The functions on one word: its lowest clear bit, and a bit set or cleared.
use Rattle.std.specs.Prelude.{◌≡◌, Bool, List, ℕ, ◌+◌, ◌-◌, ◌*◌, ◌%◌, ◌^◌, ◌≤◌, ◌<◌, eqb}
use Rattle.std.proofs.Common.{sym, subst, ◌∙◌, arith, one-mul, shl_exact}
use Rattle.std.specs.Int.Count.{count_trailing_zeros}
use Rattle.std.proofs.lemmas.Nat.{trailing_le}
use Rattle.layout.specs.Table.{slot}
use Rattle.state.specs.WellFormed.{bits, is_full}
use Rattle.state.specs.Places.{cell_in, ReachIn, PutIn}
use Rattle.state.specs.declared.Sizes.{Sizes}
use Rattle.free.specs.First.{first_clear, zeros-first}

-- r is the lowest clear bit of a word, and 64 where it has none: of a word of at most 64 bits f, the first that f clears.
pub record FirstClear (word r : ℕ) : Type 0 where
  pub clear : (f : ℕ → Bool) (n : ℕ) → n ≤ 64 → word ≡ bits f n → r ≡ first_clear f n
  pub range : r ≤ 64

-- The word is a field of a state, and bit b of it has room to be set, or is set.
pub record SetAsks (z : Sizes) (s : List ℕ) (r o w b : ℕ) : Type 0 where
  pub reach : ReachIn z s (slot r o 8) w
  pub bit : b < 64
  pub room : cell_in z s (slot r o 8) w + 2 ^ b ≤ 18446744073709551615

pub record ClearAsks (z : Sizes) (s : List ℕ) (r o w b : ℕ) : Type 0 where
  pub reach : ReachIn z s (slot r o 8) w
  pub bit : b < 64
  pub room : 2 ^ b ≤ cell_in z s (slot r o 8) w

-- It has been set, and t says whether the word is full now; it has been cleared, and t says whether the word was full.
pub record SetDone (z : Sizes) (s s' : List ℕ) (r o w b : ℕ) (t : Bool) : Type 0 where
  pub put : PutIn z s s' (slot r o 8) w (cell_in z s (slot r o 8) w + 2 ^ b)
  pub full : t ≡ is_full (cell_in z s (slot r o 8) w + 2 ^ b)

pub record ClearDone (z : Sizes) (s s' : List ℕ) (r o w b : ℕ) (t : Bool) : Type 0 where
  pub put : PutIn z s s' (slot r o 8) w (cell_in z s (slot r o 8) w - 2 ^ b)
  pub full : t ≡ is_full (cell_in z s (slot r o 8) w)

-- The zeros below the lowest bit that a word lacks: what the code shows at each return.
pub first_clear_lem : (word : ℕ) → FirstClear word (count_trailing_zeros 64 (18446744073709551615 - word))
first_clear_lem word =
    record {
      clear = λ f n h e. rw e (zeros-first f n 64 h);
      range = trailing_le 64 (18446744073709551615 - word);
    }

pub first-some
    : (word : ℕ) {b : ℕ} → b ≡ count_trailing_zeros 64 (18446744073709551615 - word) → b < 64 → FirstClear word b × (b < 64)
first-some word e l = (subst (FirstClear word) (sym e) (first_clear_lem word), l)

pub first-none : (word : ℕ) {b : ℕ} → b ≡ count_trailing_zeros 64 (18446744073709551615 - word) → 64 ≤ b → FirstClear word 64
first-none word {b} e l =
    let d : b ≡ 64 = omega (arith, l, e, trailing_le 64 (18446744073709551615 - word)) in
    subst (FirstClear word) (sym e ∙ d) (first_clear_lem word)

-- A 1 shifted by b is 2 to the b.
shifted : (b : ℕ) → b < 64 → 1 * 2 ^ b % 18446744073709551616 ≡ 2 ^ b
shifted b h = shl_exact 1 b 64 (omega arith) (omega arith) ∙ one-mul (2 ^ b)

pub bit-set
    : {z : Sizes} {s s' : List ℕ} {r o w b old : ℕ}
    → SetAsks z s r o w b
    → old ≡ cell_in z s (slot r o 8) w
    → PutIn z s s' (slot r o 8) w (old + 1 * 2 ^ b % 18446744073709551616)
    → SetDone z s s' r o w b (eqb (old + 1 * 2 ^ b % 18446744073709551616) 18446744073709551615)
bit-set {z} {s} {s'} {r} {o} {w} {b} {old} a e p =
    let n : old + 1 * 2 ^ b % 18446744073709551616 ≡ cell_in z s (slot r o 8) w + 2 ^ b = rw (shifted b a.bit, e) in
    record { put = rw n at p; full = rw n }

pub bit-cleared
    : {z : Sizes} {s s' : List ℕ} {r o w b old : ℕ}
    → ClearAsks z s r o w b
    → old ≡ cell_in z s (slot r o 8) w
    → PutIn z s s' (slot r o 8) w (old - 1 * 2 ^ b % 18446744073709551616)
    → ClearDone z s s' r o w b (eqb old 18446744073709551615)
bit-cleared {z} {s} {s'} {r} {o} {w} {b} {old} a e p =
    let n : old - 1 * 2 ^ b % 18446744073709551616 ≡ cell_in z s (slot r o 8) w - 2 ^ b = rw (shifted b a.bit, e) in
    record { put = rw n at p; full = rw e }
