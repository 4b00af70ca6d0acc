-- What `find_cell` finds: the free cell of the highest number.
use Rattle.std.specs.Prelude.{◌≡◌, Bool, false, List, ℕ, suc, ◌+◌, ◌-◌, ◌*◌, ◌≤◌, ◌<◌}
use Rattle.std.proofs.Common.{sym, subst, ◌∙◌, arith, Fits}
use Rattle.std.specs.Int.{w16}
use Rattle.machine.specs.Exits.{free_cell}
use Rattle.layout.specs.Table.{slot}
use Rattle.layout.specs.Memory.{Ranged}
use Rattle.state.specs.Fields as fields
use Rattle.state.specs.Abs.{link_to, machine_of}
use Rattle.state.specs.Places.{sizes_in, mem_in, cell_in, ReachIn}
use Rattle.state.specs.WellFormed.{Cells}
use Rattle.state.specs.declared.Sizes.{Sizes}
use Rattle.free.specs.First.{first_clear, first-le, first_below, first-here}
use Rattle.free.specs.Words.{used, full_of}
use Rattle.free.specs.Bit.{FirstClear}
use Rattle.free.specs.Highest.{highest_free, highest_free_lem, highest-used}
use Rattle.free.specs.FreeCell.{free_cell_lem}
use Rattle.free.specs.Levels.{AllSet, all_words, all-before, clear_low, clear_at, few_words}
use Rattle.free.specs.Asks.{StateIn, CellsIn}

-- The link to it, which is the machine's free cell where the exits are in order; 0 where there is none.
pub record CellFound (z : Sizes) (s : List ℕ) (r : ℕ) : Type 0 where
  pub link : link_to r ≡ highest_free z.cells (mem_in z s fields.owner)
  pub machine : Cells (sizes_in z) (mem_in z s) → link_to r ≡ free_cell (machine_of (sizes_in z) (mem_in z s))
  pub free : (c : ℕ) → r ≡ suc c → (c < z.cells) × (mem_in z s fields.owner c ≡ 0)
  pub range : r ≤ z.cells

-- An owner is a process.
owner-range : (z : Sizes) {s : List ℕ} → StateIn z s → (c : ℕ) → mem_in z s fields.owner c ≤ z.processes
unfolding Ranged
owner-range z a c = a.ranged fields.owner c

cell-found : {z : Sizes} {s : List ℕ} {r : ℕ} → StateIn z s → link_to r ≡ highest_free z.cells (mem_in z s fields.owner) → r ≤ z.cells → CellFound z s r
cell-found {z} {s} {r} a e l =
    record {
      link = e;
      machine = λ x. e ∙ sym (free_cell_lem x (owner-range z a));
      free = λ c d. highest_free_lem z.cells (mem_in z s fields.owner) c (subst (λ (x : ℕ). link_to x ≡ highest_free z.cells (mem_in z s fields.owner)) d e);
      range = l;
    }

-- The words, and which of them, and of the words above them, are full.
abbrev in_use_at : Sizes → List ℕ → ℕ → Bool
in_use_at z s = used z.cells (mem_in z s fields.owner)

abbrev full_word : Sizes → List ℕ → ℕ → Bool
full_word z s = full_of (mem_in z s fields.used_cells)

abbrev full_above : Sizes → List ℕ → ℕ → Bool
full_above z s = full_of (mem_in z s fields.full_cell_words)

module _ {z : Sizes} {s : List ℕ} {full v : ℕ} (a : CellsIn z s (mem_in z s fields.owner)) (read : full ≡ cell_in z s (slot 0 72 8) 0) (first : FirstClear full v) where
  few : (w : ℕ) → AllSet (full_word z s) w → w < 1016
  few w all = few_words z.cells (mem_in z s fields.owner) w a.right.words a.sizes.cells.1 all

  which : v ≡ first_clear (full_above z s) 16
  which = first.clear (full_above z s) 16 (omega arith) (read ∙ a.right.full)

  before : AllSet (full_above z s) v
  before j l = first_below (full_above z s) 16 j (rw (← which) l)

  pub in_16 : v < 16
  in_16 =
      let h : v ≤ 16 = omega (arith, first-le (full_above z s) 16, which) in
      omega (arith, few (64 * v) (all_words v a.right.middle h before))

  off : full_above z s v ≡ false
  off = subst (λ (x : ℕ). full_above z s x ≡ false) (sym which) (first-here (full_above z s) 16 (rw which at in_16))

  pub reach-above : ReachIn z s (slot 11 0 8) v
  reach-above = record { inside = record { region = omega arith; end = omega arith }; index = in_16; long = a.state.long }

  -- The first word that is not full.
  module _ {words b : ℕ} (read₁ : words ≡ cell_in z s (slot 11 0 8) v) (first₁ : FirstClear words b) where
    which₁ : b ≡ first_clear (λ k. full_word z s (64 * v + k)) 64
    which₁ = first₁.clear (λ k. full_word z s (64 * v + k)) 64 (omega arith) (read₁ ∙ a.right.middle.word v in_16)

    pub bit_there : b < 64
    bit_there = clear_low v b a.right.middle in_16 which₁ off

    before₁ : AllSet (full_word z s) (64 * v + b)
    before₁ = all-before v b a.right.middle in_16 which₁ before

    in_1016 : 64 * v + b < 1016
    in_1016 = few (64 * v + b) before₁

    pub reach-cell_word : ReachIn z s (slot 10 0 8) (64 * v + b)
    reach-cell_word = record { inside = record { region = omega arith; end = omega arith }; index = in_1016; long = a.state.long }

    pub cell_word-fits : Fits w16 (64 * (64 * v + b))
    cell_word-fits = omega (arith, in_1016)

    pub cell_bit-fits : {word c : ℕ} → FirstClear word c → Fits w16 (64 * (64 * v + b) + c)
    cell_bit-fits f = omega (arith, in_1016, f.range)

    -- The first cell of that word.
    module _ {word c : ℕ} (e : word ≡ cell_in z s (slot 10 0 8) (64 * v + b)) (f : FirstClear word c) where
      here : c ≡ first_clear (λ j. in_use_at z s (64 * (64 * v + b) + j)) 64
      here = f.clear (λ j. in_use_at z s (64 * (64 * v + b) + j)) 64 (omega arith) (e ∙ a.right.words.word (64 * v + b) in_1016)

      clear : full_word z s (64 * v + b) ≡ false
      clear = clear_at v b a.right.middle in_16 which₁ off

      pub cell_there : c < 64
      cell_there = clear_low (64 * v + b) c a.right.words in_1016 here clear

      -- What the code shows at its return.
      pub found-cell : {r : ℕ} → r ≡ z.cells - (64 * (64 * v + b) + c) → CellFound z s r
      found-cell d =
          cell-found a.state
          (rw d
          (highest-used z.cells (mem_in z s fields.owner) (64 * (64 * v + b) + c)
          (all-before (64 * v + b) c a.right.words in_1016 here before₁)
          (λ l. clear_at (64 * v + b) c a.right.words in_1016 here clear)))
          (omega arith)
