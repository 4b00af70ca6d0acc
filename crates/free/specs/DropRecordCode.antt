-- What the code of `drop_record` shows.
use Rattle.std.specs.Prelude.{◌≡◌, Bool, true, false, List, ℕ, ◌-◌, ◌^◌, ◌≤◌}
use Rattle.std.proofs.Common.{sym, subst, ◌∙◌, arith}
use Rattle.layout.specs.Table.{slot}
use Rattle.layout.specs.Memory.{Memory, alter}
use Rattle.chain.specs.Links.{alter-same, alter-other}
use Rattle.state.specs.Fields as fields
use Rattle.state.specs.Places.{mem_in, PutIn}
use Rattle.state.specs.WellFormed.{is_full}
use Rattle.state.specs.declared.Sizes.{Sizes}
use Rattle.free.specs.Bit.{ClearAsks, ClearDone}
use Rattle.free.specs.Right.{RecordWords}
use Rattle.free.specs.Asks.{StateIn, writes_in}
use Rattle.free.specs.Record.{word_of, bit_of, bit-small, word_in, drop-room, drop-top, drop-words}
use Rattle.free.specs.UseRecord.{drop_record_writes, drop_record_mem, DropRecordAsks, DropRecordDone}
use Rattle.free.specs.RecordStores.{RecordFits, record_writable, record_done, above_kept, one_store, two-stores, above-range}

-- The word before, and the values that are stored.
abbrev word_before : Sizes → List ℕ → ℕ → ℕ
word_before z s i = mem_in z s fields.used_records (word_of z.processes i)

abbrev word_then : Sizes → List ℕ → ℕ → ℕ
word_then z s i = word_before z s i - 2 ^ bit_of z.processes i

abbrev above_then : Sizes → List ℕ → ℕ → ℕ
above_then z s i = mem_in z s fields.full_records 0 - 2 ^ word_of z.processes i

module _ {z : Sizes} {s : List ℕ} {i : ℕ} (a : DropRecordAsks z s i) where
  else_same : (j : ℕ) → (j ≡ i → ⊥) → alter a.pids i 0 j ≡ a.pids j
  else_same j ne = alter-other a.pids i 0 j (λ e. ne (sym e))

  none_here : alter a.pids i 0 i ≡ 0
  none_here = alter-same a.pids i 0

  -- the bits that are set
  word_set : (2 ^ bit_of z.processes i ≤ word_before z s i) × (word_before z s i ≤ 18446744073709551615)
  word_set = drop-room (alter a.pids i 0) i a.words.sizes.processes.1 a.words.right a.index else_same a.used none_here

  above-set : is_full (word_before z s i) ≡ true → 2 ^ word_of z.processes i ≤ mem_in z s fields.full_records 0
  above-set = drop-top (alter a.pids i 0) i a.words.sizes.processes.1 a.words.right a.index else_same a.used none_here

  fits : RecordFits (word_of z.processes i) (word_then z s i) (is_full (word_before z s i)) (above_then z s i)
  fits =
      record {
        index = word_in z.processes i 64 a.index a.words.sizes.processes.1;
        word = omega (arith, word_set.1);
        above = λ e. omega (arith, above-range z a.words.state);
      }

  drop_by : {s' : List ℕ} → s' ≡ writes_in z s (drop_record_writes z.processes (mem_in z s) i) → DropRecordDone z s s' i
  drop_by {s'} e =
      let d : StateIn z s' × (mem_in z s' ≡ drop_record_mem z.processes (mem_in z s) i) = record_done a.words.sizes a.words.state fits e in
      record {
        state = d.0;
        bytes = e;
        writable = record_writable z (word_of z.processes i) (word_then z s i) (is_full (word_before z s i)) (above_then z s i) fits;
        memory = d.1;
        words = λ g p r on off e'.
            record {
              sizes = a.words.sizes;
              state = d.0;
              right =
                  subst (λ (k : Memory). RecordWords z.processes p (k fields.used_records) (k fields.full_records)) (sym d.1)
                  (drop-words p i a.words.sizes.processes.1 r.right a.index e' on off);
            };
      }

  -- What each store asks, and what the code shows at each return.
  pub drop-first : ClearAsks z s 9 0 (word_of z.processes i) (bit_of z.processes i)
  drop-first =
      record {
        reach = record { inside = record { region = omega arith; end = omega arith }; index = fits.index; long = a.words.state.long };
        bit = bit-small z.processes i;
        room = word_set.0;
      }

  module _ {s₁ : List ℕ} {t : Bool} (p : ClearDone z s s₁ 9 0 (word_of z.processes i) (bit_of z.processes i) t) where
    kept : mem_in z s₁ fields.full_records 0 ≡ mem_in z s fields.full_records 0
    kept = above_kept a.words.sizes a.words.state fits p.put

    pub drop-second : t ≡ true → ClearAsks z s₁ 0 64 0 (word_of z.processes i)
    drop-second e =
        record {
          reach = record { inside = record { region = omega arith; end = omega arith }; index = omega arith; long = p.put.long };
          bit = fits.index;
          room = rw kept (above-set (sym p.full ∙ e));
        }

    pub dropped-not_full : t ≡ false → DropRecordDone z s s₁ i
    dropped-not_full e = drop_by (one_store a.words.sizes a.words.state fits p.put (sym p.full ∙ e))

    pub dropped-full : {s₂ : List ℕ} {t₂ : Bool} → t ≡ true → ClearDone z s₁ s₂ 0 64 0 (word_of z.processes i) t₂ → DropRecordDone z s s₂ i
    dropped-full {s₂} e q =
        drop_by
        (two-stores a.words.sizes a.words.state fits p.put (sym p.full ∙ e)
        (subst (λ (x : ℕ). PutIn z s₁ s₂ (slot 0 64 8) 0 (x - 2 ^ word_of z.processes i)) kept q.put))
