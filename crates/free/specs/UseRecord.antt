-- What `use_record` and `drop_record` do: to the bytes, to the memory, and to the words of the records in use.
use Rattle.std.specs.Prelude.{if◌then◌else◌, ◌≡◌, Bool, List, [], ◌∷◌, ℕ, ◌+◌, ◌-◌, ◌^◌, ◌<◌}
use Rattle.std.proofs.Common.{arith}
use Rattle.layout.specs.Memory.{Memory, alter, set_field}
use Rattle.layout.specs.Writes.{Write, to}
use Rattle.state.specs.Fields as fields
use Rattle.state.specs.Places.{mem_in}
use Rattle.state.specs.WellFormed.{is_full}
use Rattle.state.specs.declared.Sizes.{Sizes}
use Rattle.free.specs.Asks.{StateIn, writes_in, WritableIn, RecordsIn}
use Rattle.free.specs.FindRecord.{RecordFound}
use Rattle.free.specs.Record.{word_of, bit_of, ElseSame}

-- The stores: v to word w of the records, and where t holds the value u to the word above.
abbrev pub record_writes : ℕ → ℕ → Bool → ℕ → List Write
record_writes w v t u = to fields.used_records w v ∷ (if t then to fields.full_records 0 u ∷ [] else [])

abbrev pub use_record_writes : ℕ → Memory → ℕ → List Write
use_record_writes n m i =
    record_writes (word_of n i) (m fields.used_records (word_of n i) + 2 ^ bit_of n i)
    (is_full (m fields.used_records (word_of n i) + 2 ^ bit_of n i))
    (m fields.full_records 0 + 2 ^ word_of n i)

abbrev pub drop_record_writes : ℕ → Memory → ℕ → List Write
drop_record_writes n m i =
    record_writes (word_of n i) (m fields.used_records (word_of n i) - 2 ^ bit_of n i)
    (is_full (m fields.used_records (word_of n i)))
    (m fields.full_records 0 - 2 ^ word_of n i)

-- The memory then: each field as a whole.
abbrev pub record_mem : Memory → ℕ → ℕ → Bool → ℕ → Memory
record_mem m w v t u =
    set_field (set_field m fields.used_records (alter (m fields.used_records) w v)) fields.full_records
    (if t then alter (m fields.full_records) 0 u else m fields.full_records)

abbrev pub use_record_mem : ℕ → Memory → ℕ → Memory
use_record_mem n m i =
    record_mem m (word_of n i) (m fields.used_records (word_of n i) + 2 ^ bit_of n i)
    (is_full (m fields.used_records (word_of n i) + 2 ^ bit_of n i))
    (m fields.full_records 0 + 2 ^ word_of n i)

abbrev pub drop_record_mem : ℕ → Memory → ℕ → Memory
drop_record_mem n m i =
    record_mem m (word_of n i) (m fields.used_records (word_of n i) - 2 ^ bit_of n i)
    (is_full (m fields.used_records (word_of n i)))
    (m fields.full_records 0 - 2 ^ word_of n i)

-- The words are right for some pids, in which record i is free, or is in use: those of the state, or others if a pid has been set already.
pub record UseRecordAsks (z : Sizes) (s : List ℕ) (i : ℕ) : Type 0 where
  pub pids : ℕ → ℕ
  pub words : RecordsIn z s pids
  pub index : i < z.processes
  pub free : pids i ≡ 0

pub record DropRecordAsks (z : Sizes) (s : List ℕ) (i : ℕ) : Type 0 where
  pub pids : ℕ → ℕ
  pub words : RecordsIn z s pids
  pub index : i < z.processes
  pub used : 0 < pids i

-- Those of the state.
pub use_asks : {z : Sizes} {s : List ℕ} {i : ℕ} → RecordsIn z s (mem_in z s fields.pid) → i < z.processes → mem_in z s fields.pid i ≡ 0 → UseRecordAsks z s i
use_asks {z} {s} r l e = record { pids = mem_in z s fields.pid; words = r; index = l; free = e }

pub drop-asks : {z : Sizes} {s : List ℕ} {i : ℕ} → RecordsIn z s (mem_in z s fields.pid) → i < z.processes → 0 < mem_in z s fields.pid i → DropRecordAsks z s i
drop-asks {z} {s} r l h = record { pids = mem_in z s fields.pid; words = r; index = l; used = h }

-- A record that was found can be marked as in use.
pub found-asks : {z : Sizes} {s : List ℕ} {r : ℕ} → RecordsIn z s (mem_in z s fields.pid) → RecordFound z s r → (r ≡ 0 → ⊥) → UseRecordAsks z s (r - 1)
found-asks {z} {s} {r} a f ne = let h = f.free (r - 1) (omega arith) in use_asks a h.0 h.1

-- The state is in range after; the bytes and the memory; and words that were right for pids g are right for any p that has a pid at i,
-- or none there, and is g elsewhere.
pub record UseRecordDone (z : Sizes) (s s' : List ℕ) (i : ℕ) : Type 0 where
  pub state : StateIn z s'
  pub bytes : s' ≡ writes_in z s (use_record_writes z.processes (mem_in z s) i)
  pub writable : WritableIn z (use_record_writes z.processes (mem_in z s) i)
  pub memory : mem_in z s' ≡ use_record_mem z.processes (mem_in z s) i
  pub words : (g p : ℕ → ℕ) → RecordsIn z s g → g i ≡ 0 → 0 < p i → ElseSame i g p → RecordsIn z s' p

pub record DropRecordDone (z : Sizes) (s s' : List ℕ) (i : ℕ) : Type 0 where
  pub state : StateIn z s'
  pub bytes : s' ≡ writes_in z s (drop_record_writes z.processes (mem_in z s) i)
  pub writable : WritableIn z (drop_record_writes z.processes (mem_in z s) i)
  pub memory : mem_in z s' ≡ drop_record_mem z.processes (mem_in z s) i
  pub words : (g p : ℕ → ℕ) → RecordsIn z s g → 0 < g i → p i ≡ 0 → ElseSame i g p → RecordsIn z s' p
