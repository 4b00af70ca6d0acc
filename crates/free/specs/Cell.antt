-- What becomes of the words of the cells when one is taken or dropped.
use Rattle.std.specs.Prelude.{◌≡◌, refl, Bool, true, false, ◌&&◌, ℕ, ◌+◌, ◌-◌, ◌*◌, ◌/◌, ◌%◌, ◌^◌, ◌≤◌, ◌<◌}
use Rattle.std.proofs.Common.{sym, arith, mod-lt}
use Rattle.std.proofs.Math.Nat.{div-add-mod, one-le-pow}
use Rattle.state.specs.WellFormed.{bits, is_full}
use Rattle.free.specs.Bits.{Sets}
use Rattle.free.specs.Words.{used, full_of, add_bit, cut_bit, words-add, words-cut, add-room, cut-room, not_full}
use Rattle.free.specs.Above.{add_if, cut_if, top-add, top-cut, top-add-room, top-cut-room, more-at, less-at, middle-add, middle-cut}
use Rattle.free.specs.Right.{CellWords}
use Rattle.free.specs.Record.{word_of, bit_of, bit-small, word_in, ElseSame, taken, dropped}

-- The word above, and its bit, of the word of cell i of n.
abbrev pub above_of : ℕ → ℕ → ℕ
above_of n i = word_of n i / 64

abbrev pub above_bit : ℕ → ℕ → ℕ
above_bit n i = word_of n i % 64

pub above-small : (n i : ℕ) → above_bit n i < 64
above-small n i = mod-lt (word_of n i) (omega arith)

pub cell_in_lem : (n i : ℕ) → i < n → n ≤ 65000 → (word_of n i < 1016) × (above_of n i < 16)
cell_in_lem n i l h =
    let w : word_of n i < 1016 = word_in n i 1016 l (omega arith) in
    (w, omega (arith, div-add-mod (word_of n i) 64))

module _ {n : ℕ} {g x y t : ℕ → ℕ} (p : ℕ → ℕ) (i : ℕ) (h : n ≤ 65000) (r : CellWords n g x y t) (l : i < n) (rest : ElseSame i g p) where
  in_1016 : word_of n i < 1016
  in_1016 = (cell_in_lem n i l h).0

  in_16 : above_of n i < 16
  in_16 = (cell_in_lem n i l h).1

  at : word_of n i ≡ 64 * above_of n i + above_bit n i
  at = sym (div-add-mod (word_of n i) 64)

  -- taken
  module _ (off : g i ≡ 0) (on : 0 < p i) where
    set : Sets (used n g) (used n p) (64 * word_of n i + bit_of n i)
    set = taken n g p i l off on rest

    pub take-cell-room : x (word_of n i) + 2 ^ bit_of n i ≤ 18446744073709551615
    take-cell-room = add-room (word_of n i) (bit_of n i) r.words (bit-small n i) in_1016 set

    was-not : is_full (x (word_of n i)) ≡ false
    was-not = not_full (x (word_of n i)) (2 ^ bit_of n i) (one-le-pow (bit_of n i) 2 (omega arith)) take-cell-room

    pub take-middle : is_full (x (word_of n i) + 2 ^ bit_of n i) ≡ true → y (above_of n i) + 2 ^ above_bit n i ≤ 18446744073709551615
    take-middle e =
        add-room (above_of n i) (above_bit n i) r.middle (above-small n i) in_16
        (more-at x (word_of n i) (x (word_of n i) + 2 ^ bit_of n i) (above_of n i) (above_bit n i) r.middle at (above-small n i) in_16 was-not e)

    middle-not : is_full (x (word_of n i) + 2 ^ bit_of n i) ≡ true → is_full (y (above_of n i)) ≡ false
    middle-not e = not_full (y (above_of n i)) (2 ^ above_bit n i) (one-le-pow (above_bit n i) 2 (omega arith)) (take-middle e)

    pub take-cell-top
        : is_full (x (word_of n i) + 2 ^ bit_of n i) ≡ true
        → is_full (y (above_of n i) + 2 ^ above_bit n i) ≡ true
        → t 0 + 2 ^ above_of n i ≤ 18446744073709551615
    take-cell-top e d = top-add-room y t 16 (above_of n i) (y (above_of n i) + 2 ^ above_bit n i) r.full in_16 (omega arith) (middle-not e) d

    pub take-cells
        : CellWords n p (add_bit x (word_of n i) (bit_of n i)) (add_if (is_full (x (word_of n i) + 2 ^ bit_of n i)) y (above_of n i) (above_bit n i))
        (add_if (is_full (x (word_of n i) + 2 ^ bit_of n i) && is_full (y (above_of n i) + 2 ^ above_bit n i)) t 0 (above_of n i))
    take-cells =
        record {
          words = words-add (word_of n i) (bit_of n i) r.words (bit-small n i) in_1016 set;
          middle =
              middle-add x (word_of n i) (x (word_of n i) + 2 ^ bit_of n i) (above_of n i) (above_bit n i) r.middle at (above-small n i) in_16 was-not;
          full = go (is_full (x (word_of n i) + 2 ^ bit_of n i)) refl;
        }
      where
        go
            : (b : Bool)
            → is_full (x (word_of n i) + 2 ^ bit_of n i) ≡ b
            → add_if (b && is_full (y (above_of n i) + 2 ^ above_bit n i)) t 0 (above_of n i) 0
            ≡ bits (full_of (add_if b y (above_of n i) (above_bit n i))) 16
        go true e = top-add y t 16 (above_of n i) (y (above_of n i) + 2 ^ above_bit n i) r.full in_16 (middle-not e)
        go false e = r.full

  -- dropped
  module _ (on : 0 < g i) (off : p i ≡ 0) where
    cut : Sets (used n p) (used n g) (64 * word_of n i + bit_of n i)
    cut = dropped n g p i l on off rest

    pub drop_cell-room : (2 ^ bit_of n i ≤ x (word_of n i)) × (x (word_of n i) ≤ 18446744073709551615)
    drop_cell-room = cut-room (word_of n i) (bit_of n i) r.words (bit-small n i) in_1016 cut

    is-not : is_full (x (word_of n i) - 2 ^ bit_of n i) ≡ false
    is-not =
        not_full (x (word_of n i) - 2 ^ bit_of n i) (2 ^ bit_of n i) (one-le-pow (bit_of n i) 2 (omega arith))
        (omega (arith, drop_cell-room.0, drop_cell-room.1))

    pub drop-middle
        : is_full (x (word_of n i)) ≡ true
        → (2 ^ above_bit n i ≤ y (above_of n i)) × (y (above_of n i) ≤ 18446744073709551615)
    drop-middle e =
        cut-room (above_of n i) (above_bit n i) r.middle (above-small n i) in_16
        (less-at x (word_of n i) (x (word_of n i) - 2 ^ bit_of n i) (above_of n i) (above_bit n i) r.middle at (above-small n i) in_16 e is-not)

    middle-is-not : is_full (x (word_of n i)) ≡ true → is_full (y (above_of n i) - 2 ^ above_bit n i) ≡ false
    middle-is-not e =
        not_full (y (above_of n i) - 2 ^ above_bit n i) (2 ^ above_bit n i) (one-le-pow (above_bit n i) 2 (omega arith))
        (omega (arith, (drop-middle e).0, (drop-middle e).1))

    pub drop_cell-top : is_full (x (word_of n i)) ≡ true → is_full (y (above_of n i)) ≡ true → 2 ^ above_of n i ≤ t 0
    drop_cell-top e d = top-cut-room y t 16 (above_of n i) (y (above_of n i) - 2 ^ above_bit n i) r.full in_16 d (middle-is-not e)

    pub drop-cells
        : CellWords n p (cut_bit x (word_of n i) (bit_of n i)) (cut_if (is_full (x (word_of n i))) y (above_of n i) (above_bit n i))
        (cut_if (is_full (x (word_of n i)) && is_full (y (above_of n i))) t 0 (above_of n i))
    drop-cells =
        record {
          words = words-cut (word_of n i) (bit_of n i) r.words (bit-small n i) in_1016 cut;
          middle =
              middle-cut x (word_of n i) (x (word_of n i) - 2 ^ bit_of n i) (above_of n i) (above_bit n i) r.middle at (above-small n i) in_16 is-not;
          full = go (is_full (x (word_of n i))) refl;
        }
      where
        go
            : (b : Bool)
            → is_full (x (word_of n i)) ≡ b
            → cut_if (b && is_full (y (above_of n i))) t 0 (above_of n i) 0 ≡ bits (full_of (cut_if b y (above_of n i) (above_bit n i))) 16
        go true e = top-cut y t 16 (above_of n i) (y (above_of n i) - 2 ^ above_bit n i) r.full in_16 (middle-is-not e)
        go false e = r.full
