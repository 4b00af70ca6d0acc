-- The message of a cell, copied to the front of a buffer.
use Rattle.std.specs.Prelude.{◌≡◌, List, ◌++◌, ℕ, ◌+◌, ◌*◌, ◌≤◌, ◌<◌, length, get_or, set, take, drop, ◌-◌}
use Rattle.std.proofs.Common.{sym, ap, ◌∙◌, arith, add-one, lit<, length-drop, length-take-le, get_or-take, get_or-drop}
use Rattle.std.proofs.lemmas.List.{ext_get_or}
use Rattle.message.specs.Cut.{copy_step}
use Rattle.memory.specs.Le.{le, le-one}
use Rattle.layout.specs.Table.{slot}
use Rattle.layout.specs.Memory.{Reach, reach-end, cell_in_lem}
use Rattle.state.specs.Fields as fields
use Rattle.state.specs.Abs.{table}
use Rattle.state.specs.Tables.{table-length, table-get}
use Rattle.holds.specs.Parts.{table_same}
use Rattle.state.specs.Places.{sizes_in, total_in, start_in, mem_in}
use Rattle.state.specs.declared.Sizes.{Sizes}

-- There is such a cell, its message is no longer than a cell, and the buffer has room for any.
pub record CopyAsks (z : Sizes) (s : List ℕ) (c : ℕ) (buffer : List ℕ) : Type 0 where
  pub index : c < z.cells
  pub long : total_in z ≤ length s
  pub short : mem_in z s fields.message_length c ≤ 127
  pub room : 127 ≤ length buffer

-- The message of cell c.
abbrev pub message_in : Sizes → List ℕ → ℕ → List ℕ
message_in z s c = table (mem_in z s fields.message_length c) (λ j. mem_in z s fields.message_byte (127 * c + j))

-- The answer is its length; it stands at the front of the buffer, and behind it what stood there.
pub record Copied (z : Sizes) (s : List ℕ) (c : ℕ) (b b' : List ℕ) (r : ℕ) : Type 0 where
  pub answer : r ≡ mem_in z s fields.message_length c
  pub bytes : b' ≡ message_in z s c ++ drop (mem_in z s fields.message_length c) b
  pub within : r ≤ 127

-- The n bytes from a place on.
abbrev pub bytes_from : List ℕ → ℕ → ℕ → List ℕ
bytes_from s at n = table n (λ k. get_or s (at + k) 0)

byte-reach : {z : Sizes} {s : List ℕ} {c : ℕ} {b : List ℕ} (j : ℕ) → CopyAsks z s c b → j < 127 → Reach fields.layout1 (fields.counts (sizes_in z)) s (slot 7 0 1) (127 * c + j)
byte-reach j a l = record { inside = record { region = lit< tt; end = lit< tt }; index = omega (arith, a.index); long = a.long }

message_byte_lem : (z : Sizes) (s : List ℕ) (c j : ℕ) → c < z.cells → j < 127 → get_or s (start_in z 7 + c * 127 + j) 0 ≡ mem_in z s fields.message_byte (127 * c + j)
message_byte_lem z s c j i l =
    sym (le-one s (start_in z 7 + c * 127 + j))
    ∙ ap (λ (k : ℕ). le 1 s k) (omega arith)
    ∙ cell_in_lem fields.layout1 (fields.counts (sizes_in z)) s (slot 7 0 1) (127 * c + j) (omega (arith, i))

-- As it goes: one byte more.
pub copy-more
    : (s b₀ : List ℕ) {b b' : List ℕ} (at j : ℕ)
    → b ≡ take j (drop at s) ++ drop j b₀
    → at + j < length s
    → j < length b₀
    → b' ≡ set b j (get_or s (at + j) 0)
    → b' ≡ take (j + 1) (drop at s) ++ drop (j + 1) b₀
copy-more s b₀ at j e h l d =
    rw add-one
    (d
    ∙ ap (λ (x : List ℕ). set x j (get_or s (at + j) 0)) e
    ∙ ap (λ (x : ℕ). set (take j (drop at s) ++ drop j b₀) j x) (sym (get_or-drop at s j 0))
    ∙ copy_step j (drop at s) b₀ (omega (arith, length-drop at s)) l)

-- The copy reads inside the bytes, and writes inside the buffer.
pub copy-fits : {z : Sizes} {s : List ℕ} {c at : ℕ} {b : List ℕ} → CopyAsks z s c b → at ≡ start_in z 7 + c * 127 → at + 127 ≤ length s
copy-fits {z} a e = omega (arith, e, reach-end (byte-reach {z = z} 126 a (lit< tt)))

bytes-slice : (s : List ℕ) (at n : ℕ) → at + n ≤ length s → take n (drop at s) ≡ bytes_from s at n
bytes-slice s at n h =
    let d : length (drop at s) ≡ length s - at = length-drop at s in
    let l : length (take n (drop at s)) ≡ n = length-take-le n (drop at s) (omega arith) in
    ext_get_or 0 (take n (drop at s)) (bytes_from s at n) (l ∙ sym (table-length n (λ k. get_or s (at + k) 0)))
    (λ i g. get_or-take n (drop at s) i 0 (omega (arith, l)) ∙ get_or-drop at s i 0 ∙ sym (table-get n (λ k. get_or s (at + k) 0) i 0 (omega (arith, l))))

-- They are the message's.
from_cell : (z : Sizes) (s : List ℕ) (c at n : ℕ) → c < z.cells → n ≤ 127 → at ≡ start_in z 7 + c * 127 → bytes_from s at n ≡ table n (λ j. mem_in z s fields.message_byte (127 * c + j))
from_cell z s c at n l h e =
    table_same n (λ j. mem_in z s fields.message_byte (127 * c + j)) (λ k. get_or s (at + k) 0)
    (λ k i. rw e (message_byte_lem z s c k l (omega arith)))

pub copied
    : {z : Sizes} {s : List ℕ} {c at n : ℕ} {b : List ℕ}
    → CopyAsks z s c b
    → at ≡ start_in z 7 + c * 127
    → n ≡ mem_in z s fields.message_length c
    → Copied z s c b (take (at + n - at) (drop at s) ++ drop n b) n
copied {z} {s} {c} {at} {n} {b} a e d =
    let h : n ≤ 127 = omega (arith, d, a.short) in
    let x : at + n - at ≡ n = omega arith in
    record {
      answer = d;
      bytes =
          ap (λ (k : ℕ). take k (drop at s) ++ drop n b) x
          ∙ ap (λ (y : List ℕ). y ++ drop n b) (bytes-slice s at n (omega (arith, copy-fits a e)) ∙ from_cell z s c at n a.index h e)
          ∙ ap (λ (k : ℕ). table k (λ m. mem_in z s fields.message_byte (127 * c + m)) ++ drop k b) d;
      within = h;
    }

-- All of them, where as many are copied as the message has.
pub copied-all
    : {z : Sizes} {s : List ℕ} {c at n j : ℕ} {b b' : List ℕ}
    → CopyAsks z s c b
    → at ≡ start_in z 7 + c * 127
    → n ≡ mem_in z s fields.message_length c
    → b' ≡ take j (drop at s) ++ drop j b
    → j ≡ n
    → Copied z s c b b' n
copied-all {z} {s} {c} {at} {n} {j} {b} {b'} a e d w k =
    let x : at + n - at ≡ n = omega arith in
    rw (w, k) (rw x at (copied a e d))
