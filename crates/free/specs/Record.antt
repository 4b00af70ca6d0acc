-- The bit of a record, or cell, and what becomes of the words of the records when one is taken or dropped.
use Rattle.std.specs.Prelude.{◌≡◌, true, false, ℕ, ◌+◌, ◌-◌, ◌*◌, ◌/◌, ◌%◌, ◌^◌, ◌≤◌, ◌<◌}
use Rattle.std.proofs.Common.{sym, subst, arith, mod-lt}
use Rattle.std.proofs.Math.Nat.{div-add-mod, one-le-pow}
use Rattle.state.specs.WellFormed.{is_full}
use Rattle.free.specs.Bits.{Sets}
use Rattle.free.specs.Words.{used, add_bit, cut_bit, used-set, words-add, words-cut, add-room, cut-room, not_full}
use Rattle.free.specs.Above.{add_if, cut_if, top-add, top-cut, top-add-room, top-cut-room}
use Rattle.free.specs.Right.{RecordWords}

-- The word and the bit of number i of n: the highest number first.
abbrev pub word_of : ℕ → ℕ → ℕ
word_of n i = (n - 1 - i) / 64

abbrev pub bit_of : ℕ → ℕ → ℕ
bit_of n i = (n - 1 - i) % 64

pub bit-small : (n i : ℕ) → bit_of n i < 64
bit-small n i = mod-lt (n - 1 - i) (omega arith)

pub word_in : (n i c : ℕ) → i < n → n ≤ 64 * c → word_of n i < c
word_in n i c l h = omega (arith, div-add-mod (n - 1 - i) 64)

-- g but at i.
abbrev pub ElseSame : ℕ → (ℕ → ℕ) → (ℕ → ℕ) → Type 0
ElseSame i g p = (j : ℕ) → (j ≡ i → ⊥) → p j ≡ g j

-- Number i is taken, or dropped: its bit is set, or cleared.
pub taken : (n : ℕ) (g p : ℕ → ℕ) (i : ℕ) → i < n → g i ≡ 0 → 0 < p i → ElseSame i g p → Sets (used n g) (used n p) (64 * word_of n i + bit_of n i)
taken n g p i l off on rest =
    subst (λ (k : ℕ). Sets (used n g) (used n p) k) (sym (div-add-mod (n - 1 - i) 64)) (used-set n g p i l off on rest)

pub dropped : (n : ℕ) (g p : ℕ → ℕ) (i : ℕ) → i < n → 0 < g i → p i ≡ 0 → ElseSame i g p → Sets (used n p) (used n g) (64 * word_of n i + bit_of n i)
dropped n g p i l on off rest = taken n p g i l off on (λ j ne. sym (rest j ne))

module _ {n : ℕ} {g x t : ℕ → ℕ} (p : ℕ → ℕ) (i : ℕ) (h : n ≤ 4096) (r : RecordWords n g x t) (l : i < n) (rest : ElseSame i g p) where
  in_64 : word_of n i < 64
  in_64 = word_in n i 64 l (omega arith)

  -- taken
  module _ (off : g i ≡ 0) (on : 0 < p i) where
    set : Sets (used n g) (used n p) (64 * word_of n i + bit_of n i)
    set = taken n g p i l off on rest

    pub take-room : x (word_of n i) + 2 ^ bit_of n i ≤ 18446744073709551615
    take-room = add-room (word_of n i) (bit_of n i) r.words (bit-small n i) in_64 set

    was-not : is_full (x (word_of n i)) ≡ false
    was-not = not_full (x (word_of n i)) (2 ^ bit_of n i) (one-le-pow (bit_of n i) 2 (omega arith)) take-room

    pub take-top : is_full (x (word_of n i) + 2 ^ bit_of n i) ≡ true → t 0 + 2 ^ word_of n i ≤ 18446744073709551615
    take-top e = top-add-room x t 64 (word_of n i) (x (word_of n i) + 2 ^ bit_of n i) r.full in_64 (omega arith) was-not e

    pub take_words : RecordWords n p (add_bit x (word_of n i) (bit_of n i)) (add_if (is_full (x (word_of n i) + 2 ^ bit_of n i)) t 0 (word_of n i))
    take_words =
        record {
          words = words-add (word_of n i) (bit_of n i) r.words (bit-small n i) in_64 set;
          full = top-add x t 64 (word_of n i) (x (word_of n i) + 2 ^ bit_of n i) r.full in_64 was-not;
        }

  -- dropped
  module _ (on : 0 < g i) (off : p i ≡ 0) where
    cut : Sets (used n p) (used n g) (64 * word_of n i + bit_of n i)
    cut = dropped n g p i l on off rest

    pub drop-room : (2 ^ bit_of n i ≤ x (word_of n i)) × (x (word_of n i) ≤ 18446744073709551615)
    drop-room = cut-room (word_of n i) (bit_of n i) r.words (bit-small n i) in_64 cut

    is-not : is_full (x (word_of n i) - 2 ^ bit_of n i) ≡ false
    is-not =
        not_full (x (word_of n i) - 2 ^ bit_of n i) (2 ^ bit_of n i) (one-le-pow (bit_of n i) 2 (omega arith)) (omega (arith, drop-room.0, drop-room.1))

    pub drop-top : is_full (x (word_of n i)) ≡ true → 2 ^ word_of n i ≤ t 0
    drop-top e = top-cut-room x t 64 (word_of n i) (x (word_of n i) - 2 ^ bit_of n i) r.full in_64 e is-not

    pub drop-words : RecordWords n p (cut_bit x (word_of n i) (bit_of n i)) (cut_if (is_full (x (word_of n i))) t 0 (word_of n i))
    drop-words =
        record {
          words = words-cut (word_of n i) (bit_of n i) r.words (bit-small n i) in_64 cut;
          full = top-cut x t 64 (word_of n i) (x (word_of n i) - 2 ^ bit_of n i) r.full in_64 is-not;
        }
