-- What the code of `use_record` shows.
use Rattle.std.specs.Prelude.{◌≡◌, Bool, true, false, List, ℕ, ◌+◌, ◌^◌, ◌<◌}
use Rattle.std.proofs.Common.{sym, subst, ◌∙◌, arith}
use Rattle.layout.specs.Table.{slot}
use Rattle.layout.specs.Memory.{Memory, alter}
use Rattle.chain.specs.Links.{alter-same, alter-other}
use Rattle.state.specs.Fields as fields
use Rattle.state.specs.Places.{mem_in, PutIn}
use Rattle.state.specs.WellFormed.{is_full}
use Rattle.state.specs.declared.Sizes.{Sizes}
use Rattle.free.specs.Bit.{SetAsks, SetDone}
use Rattle.free.specs.Right.{RecordWords}
use Rattle.free.specs.Asks.{StateIn, writes_in}
use Rattle.free.specs.Record.{word_of, bit_of, bit-small, word_in, take-room, take-top, take_words}
use Rattle.free.specs.UseRecord.{use_record_writes, use_record_mem, UseRecordAsks, UseRecordDone}
use Rattle.free.specs.RecordStores.{RecordFits, record_writable, record_done, above_kept, one_store, two-stores}

-- The values that are stored.
abbrev word_then : Sizes → List ℕ → ℕ → ℕ
word_then z s i = mem_in z s fields.used_records (word_of z.processes i) + 2 ^ bit_of z.processes i

abbrev above_then : Sizes → List ℕ → ℕ → ℕ
above_then z s i = mem_in z s fields.full_records 0 + 2 ^ word_of z.processes i

module _ {z : Sizes} {s : List ℕ} {i : ℕ} (a : UseRecordAsks z s i) where
  else_same : (j : ℕ) → (j ≡ i → ⊥) → alter a.pids i 1 j ≡ a.pids j
  else_same j ne = alter-other a.pids i 1 j (λ e. ne (sym e))

  one-here : 0 < alter a.pids i 1 i
  one-here = rw (alter-same a.pids i 1) (omega arith)

  fits : RecordFits (word_of z.processes i) (word_then z s i) (is_full (word_then z s i)) (above_then z s i)
  fits =
      record {
        index = word_in z.processes i 64 a.index a.words.sizes.processes.1;
        word = take-room (alter a.pids i 1) i a.words.sizes.processes.1 a.words.right a.index else_same a.free one-here;
        above = take-top (alter a.pids i 1) i a.words.sizes.processes.1 a.words.right a.index else_same a.free one-here;
      }

  use_by : {s' : List ℕ} → s' ≡ writes_in z s (use_record_writes z.processes (mem_in z s) i) → UseRecordDone z s s' i
  use_by {s'} e =
      let d : StateIn z s' × (mem_in z s' ≡ use_record_mem z.processes (mem_in z s) i) = record_done a.words.sizes a.words.state fits e in
      record {
        state = d.0;
        bytes = e;
        writable = record_writable z (word_of z.processes i) (word_then z s i) (is_full (word_then z s i)) (above_then z s i) fits;
        memory = d.1;
        words = λ g p r off on e'.
            record {
              sizes = a.words.sizes;
              state = d.0;
              right =
                  subst (λ (k : Memory). RecordWords z.processes p (k fields.used_records) (k fields.full_records)) (sym d.1)
                  (take_words p i a.words.sizes.processes.1 r.right a.index e' off on);
            };
      }

  -- What each store asks, and what the code shows at each return.
  pub use_first : SetAsks z s 9 0 (word_of z.processes i) (bit_of z.processes i)
  use_first =
      record {
        reach = record { inside = record { region = omega arith; end = omega arith }; index = fits.index; long = a.words.state.long };
        bit = bit-small z.processes i;
        room = fits.word;
      }

  module _ {s₁ : List ℕ} {t : Bool} (p : SetDone z s s₁ 9 0 (word_of z.processes i) (bit_of z.processes i) t) where
    kept : mem_in z s₁ fields.full_records 0 ≡ mem_in z s fields.full_records 0
    kept = above_kept a.words.sizes a.words.state fits p.put

    pub use_second : t ≡ true → SetAsks z s₁ 0 64 0 (word_of z.processes i)
    use_second e =
        record {
          reach = record { inside = record { region = omega arith; end = omega arith }; index = omega arith; long = p.put.long };
          bit = fits.index;
          room = rw kept (fits.above (sym p.full ∙ e));
        }

    pub used-not_full : t ≡ false → UseRecordDone z s s₁ i
    used-not_full e = use_by (one_store a.words.sizes a.words.state fits p.put (sym p.full ∙ e))

    pub used-full : {s₂ : List ℕ} {t₂ : Bool} → t ≡ true → SetDone z s₁ s₂ 0 64 0 (word_of z.processes i) t₂ → UseRecordDone z s s₂ i
    used-full {s₂} e q =
        use_by
        (two-stores a.words.sizes a.words.state fits p.put (sym p.full ∙ e)
        (subst (λ (x : ℕ). PutIn z s₁ s₂ (slot 0 64 8) 0 (x + 2 ^ word_of z.processes i)) kept q.put))
