-- The words of a state, as the code computes them.
use Rattle.std.specs.Prelude.{◌≡◌, refl, Bool, true, false, List, ℕ, ◌+◌, ◌*◌, ◌≤◌, ◌<◌, ltb, length}
use Rattle.std.proofs.Common.{sym, ap, ◌∙◌, zero-add, rules, le-ltb, ltb-true, ltb-false}
use Rattle.std.proofs.Math.Path.{fun_ext}
use Rattle.layout.specs.Table.{Slot, slot, count}
use Rattle.layout.specs.Place.{Inside}
use Rattle.layout.specs.Memory.{cell}
use Rattle.state.specs.Fields as fields
use Rattle.state.specs.Fields.{layout1, counts}
use Rattle.state.specs.Places.{sizes_in, total_in, cell_in}
use Rattle.state.specs.WellFormed.{bits, in_use, is_full, Index}
use Rattle.state.specs.declared.Sizes.{Sizes}
use Rattle.rules.specs.Code.{mem_in}
use Rattle.index.specs.Bits.{WordsFor, unused}

-- What the code asks of a field of the first n records of a region.
pub record Asks (z : Sizes) (s : List ℕ) (a : Slot) (n : ℕ) : Type 0 where
  pub inside : Inside layout1 a
  pub records : n ≤ count layout1 (counts (sizes_in z)) a.region
  pub long : total_in z ≤ length s

-- What it asks of a region of all words, of which those that have a bit for one of n are a part.
pub record WordsAsk (z : Sizes) (s : List ℕ) (a : Slot) (all n : ℕ) : Type 0 where
  pub asks : Asks z s a all
  pub some : 1 ≤ n
  pub room : n ≤ 64 * all

-- A word of the records, or cells, in use is right; all of them are.
abbrev pub UsedWord : Sizes → List ℕ → Slot → Slot → ℕ → ℕ → Type 0
UsedWord z s a b n w = cell_in z s a w ≡ in_use n (cell_in z s b) w 64

abbrev pub UsedWords : Sizes → List ℕ → Slot → ℕ → Slot → ℕ → Type 0
UsedWords z s a all b n = (w : ℕ) → w < all → UsedWord z s a b n w

-- The word of which of the n words from `base` on are full.
abbrev pub full_bit : Sizes → List ℕ → Slot → ℕ → ℕ → Bool
full_bit z s a base b = is_full (cell_in z s a (base + b))

abbrev pub full_word : Sizes → List ℕ → Slot → ℕ → ℕ → ℕ
full_word z s a base n = bits (full_bit z s a base) n

-- What the code asks of a region of words, of which only the first n may be full.
pub record FullAsk (z : Sizes) (s : List ℕ) (a : Slot) (n : ℕ) : Type 0 where
  pub asks : Asks z s a n
  pub past : (i : ℕ) → n ≤ i → is_full (cell_in z s a i) ≡ false

-- The words that say which records and cells are in use are right, and those that say which words are full.
abbrev pub RecordWords : Sizes → List ℕ → Type 0
RecordWords z s = UsedWords z s (slot 9 0 8) 64 (slot 1 0 8) z.processes

abbrev pub CellWords : Sizes → List ℕ → Type 0
CellWords z s = UsedWords z s (slot 10 0 8) 1016 (slot 6 10 2) z.cells

pub record FullAsks (z : Sizes) (s : List ℕ) : Type 0 where
  pub few_records : (1 ≤ z.processes) × (z.processes ≤ 4096)
  pub few_cells : (1 ≤ z.cells) × (z.cells ≤ 65000)
  pub long : total_in z ≤ length s
  pub records : RecordWords z s
  pub cells : CellWords z s

abbrev pub FullWords : Sizes → List ℕ → Type 0
FullWords z s = (w : ℕ) → w < 16 → cell_in z s (slot 11 0 8) w ≡ full_word z s (slot 10 0 8) (64 * w) 64

pub record FullIn (z : Sizes) (s : List ℕ) : Type 0 where
  pub records : cell_in z s (slot 0 64 8) 0 ≡ full_word z s (slot 9 0 8) 0 64
  pub cells : cell_in z s (slot 0 72 8) 0 ≡ full_word z s (slot 11 0 8) 0 16
  pub words : FullWords z s

abbrev pub IndexIn : Sizes → List ℕ → Type 0
IndexIn z s = Index (sizes_in z) (mem_in z s)

-- A word past the region's end is 0.
word-past : (z : Sizes) (s : List ℕ) (a : Slot) (i : ℕ) → count layout1 (counts (sizes_in z)) a.region ≤ i → cell_in z s a i ≡ 0
unfolding cell
word-past z s a i h = rw (le-ltb i (count layout1 (counts (sizes_in z)) a.region) h)

-- Where f is as g below m, and 0 from there on, and g is 0 from n on, no word from n on is full.
none-full
    : (f g : ℕ → ℕ) (m n : ℕ)
    → ((i : ℕ) → i < m → f i ≡ g i)
    → ((i : ℕ) → m ≤ i → f i ≡ 0)
    → ((i : ℕ) → n ≤ i → g i ≡ 0)
    → (i : ℕ)
    → n ≤ i
    → is_full (f i) ≡ false
none-full f g m n c p q i h = go (ltb i m) refl
  where
    go : (b : Bool) → ltb i m ≡ b → is_full (f i) ≡ false
    go true t = rw (c i (ltb-true i m t), q i h)
    go false t = rw (p i (ltb-false i m t))

pub full_records_lem : {z : Sizes} {s : List ℕ} {n : ℕ} → FullAsks z s → WordsFor z.processes n → FullAsk z s (slot 9 0 8) n
full_records_lem {z} {s} {n} a f =
    record {
      asks = record { inside = search rules; records = search rules; long = search rules };
      past = none-full (cell_in z s (slot 9 0 8)) (λ w. in_use z.processes (mem_in z s fields.pid) w 64) 64 n a.records (word-past z s (slot 9 0 8)) (λ i. unused (mem_in z s fields.pid) f);
    }

pub full_cells_lem : {z : Sizes} {s : List ℕ} {n : ℕ} → FullAsks z s → WordsFor z.cells n → FullAsk z s (slot 10 0 8) n
full_cells_lem {z} {s} {n} a f =
    record {
      asks = record { inside = search rules; records = search rules; long = search rules };
      past = none-full (cell_in z s (slot 10 0 8)) (λ w. in_use z.cells (mem_in z s fields.owner) w 64) 1016 n a.cells (word-past z s (slot 10 0 8)) (λ i. unused (mem_in z s fields.owner) f);
    }

pub full-words : {z : Sizes} {s : List ℕ} → FullAsks z s → FullAsk z s (slot 11 0 8) 16
full-words {z} {s} a =
    record {
      asks = record { inside = search rules; records = search rules; long = search rules };
      past = λ i h. rw (word-past z s (slot 11 0 8) i h);
    }

-- Words from word 0 on.
from_0 : (z : Sizes) (s : List ℕ) (a : Slot) (n : ℕ) → full_word z s a 0 n ≡ bits (λ b. is_full (cell_in z s a b)) n
from_0 z s a n = ap (λ (f : ℕ → Bool). bits f n) (fun_ext (λ b. ap (λ (i : ℕ). is_full (cell_in z s a i)) (zero-add b)))

-- The three parts are the whole.
pub index-all : {z : Sizes} {s : List ℕ} → RecordWords z s → CellWords z s → FullIn z s → IndexIn z s
index-all {z} {s} r c f =
    record {
      records = r;
      full_records = f.records ∙ from_0 z s (slot 9 0 8) 64;
      cells = c;
      full_cell_words = f.words;
      full_cells = f.cells ∙ from_0 z s (slot 11 0 8) 16;
    }

pub index-full : {z : Sizes} {s : List ℕ} → IndexIn z s → FullIn z s
index-full {z} {s} i =
    record {
      records = i.full_records ∙ sym (from_0 z s (slot 9 0 8) 64);
      cells = i.full_cells ∙ sym (from_0 z s (slot 11 0 8) 16);
      words = i.full_cell_words;
    }
