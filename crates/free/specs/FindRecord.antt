-- What `find_record` finds: the free record of the highest number.
use Rattle.std.specs.Prelude.{◌≡◌, false, List, ℕ, suc, ◌+◌, ◌-◌, ◌*◌, ◌≤◌, ◌<◌}
use Rattle.std.proofs.Common.{sym, ap, subst, ◌∙◌, arith}
use Rattle.machine.specs.Exits.{free_record}
use Rattle.layout.specs.Table.{slot}
use Rattle.state.specs.Fields as fields
use Rattle.state.specs.Abs.{link_to, machine_of}
use Rattle.state.specs.Places.{sizes_in, mem_in, cell_in}
use Rattle.state.specs.declared.Sizes.{Sizes}
use Rattle.free.specs.First.{first_clear, first_below, first-here}
use Rattle.free.specs.Words.{used, full_of}
use Rattle.free.specs.Bit.{FirstClear}
use Rattle.free.specs.Highest.{highest_free, highest_free_lem, highest-used, free_record_lem}
use Rattle.free.specs.Levels.{AllSet, all_words, all-before, clear_low, clear_at}
use Rattle.free.specs.Asks.{RecordsIn}

-- The link to it, which is the machine's free record; 0 where there is none.
pub record RecordFound (z : Sizes) (s : List ℕ) (r : ℕ) : Type 0 where
  pub link : link_to r ≡ highest_free z.processes (mem_in z s fields.pid)
  pub machine : link_to r ≡ free_record (machine_of (sizes_in z) (mem_in z s))
  pub free : (i : ℕ) → r ≡ suc i → (i < z.processes) × (mem_in z s fields.pid i ≡ 0)
  pub range : r ≤ z.processes

record_found : {z : Sizes} {s : List ℕ} {r : ℕ} → link_to r ≡ highest_free z.processes (mem_in z s fields.pid) → r ≤ z.processes → RecordFound z s r
record_found {z} {s} {r} e l =
    record {
      link = e;
      machine = e ∙ sym (free_record_lem (sizes_in z) (mem_in z s));
      free = λ i d. highest_free_lem z.processes (mem_in z s fields.pid) i (subst (λ (x : ℕ). link_to x ≡ highest_free z.processes (mem_in z s fields.pid)) d e);
      range = l;
    }

-- The full words before the first that is not.
module _ {z : Sizes} {s : List ℕ} {full w : ℕ} (a : RecordsIn z s (mem_in z s fields.pid)) (read : full ≡ cell_in z s (slot 0 64 8) 0) (first : FirstClear full w) where
  which : w ≡ first_clear (full_of (mem_in z s fields.used_records)) 64
  which = first.clear (full_of (mem_in z s fields.used_records)) 64 (omega arith) (read ∙ a.right.full)

  before : AllSet (full_of (mem_in z s fields.used_records)) w
  before j l = first_below (full_of (mem_in z s fields.used_records)) 64 j (rw (← which) l)

  -- the word after them, where it is there
  module _ {word b : ℕ} (h : w < 64) (e : word ≡ cell_in z s (slot 9 0 8) w) (f : FirstClear word b) where
    here : b ≡ first_clear (λ k. used z.processes (mem_in z s fields.pid) (64 * w + k)) 64
    here = f.clear (λ k. used z.processes (mem_in z s fields.pid) (64 * w + k)) 64 (omega arith) (e ∙ a.right.words.word w h)

    off : full_of (mem_in z s fields.used_records) w ≡ false
    off = subst (λ (x : ℕ). full_of (mem_in z s fields.used_records) x ≡ false) (sym which) (first-here (full_of (mem_in z s fields.used_records)) 64 (rw which at h))

    pub bit-there : b < 64
    bit-there = clear_low w b a.right.words h here off

    -- What the code shows where it finds one.
    pub found-record : {r : ℕ} → r ≡ z.processes - (64 * w + b) → RecordFound z s r
    found-record d =
        record_found
        (rw d
        (highest-used z.processes (mem_in z s fields.pid) (64 * w + b)
        (all-before w b a.right.words h here before)
        (λ l. clear_at w b a.right.words h here off)))
        (omega arith)

  -- Where no word is left.
  pub found_none : w ≡ 64 → RecordFound z s 0
  found_none e =
      let d : z.processes - 4096 ≡ 0 = omega (arith, a.sizes.processes.1) in
      let all : AllSet (used z.processes (mem_in z s fields.pid)) 4096 =
      all_words 64 a.right.words (omega arith) (λ j l. before j (rw e l))
      in
      record_found
      (ap link_to (sym d) ∙ highest-used z.processes (mem_in z s fields.pid) 4096 all (λ l. absurd (omega (arith, a.sizes.processes.1))))
      (omega arith)
