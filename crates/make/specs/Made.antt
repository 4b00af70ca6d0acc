-- The bytes of a fresh state hold a fresh machine.
use Rattle.std.specs.Prelude.{◌≡◌, List, ℕ, ◌≤◌, ◌<◌, drop, replicate}
use Rattle.std.proofs.Math.Path.{refl, ap, subst}
use Rattle.std.proofs.Common.{sym, ◌∙◌, arith, lit<}
use Rattle.std.proofs.Math.ListN.{length-append}
use Rattle.memory.specs.Le.{le}
use Rattle.clock.specs.Counts.{nanos_of, counts_of}
use Rattle.clock.specs.Laws.{counts-within-one}
use Rattle.machine.specs.Machine.{Sizes}
use Rattle.machine.specs.Good.{SizesInRange}
use Rattle.layout.specs.Table.{start, place, field, count}
use Rattle.layout.specs.Memory.{Memory, mem, Ranged, cell_in_lem}
use Rattle.layout.specs.Writes.{State, updates, Writable, written, state-writes}
use Rattle.layout.specs.Zeros.{nothing, mem-zeros, length-zeros}
use Rattle.state.specs.Fields as fields
use Rattle.state.proofs.Ranges.{ranges}
use Rattle.state.specs.Abs.{sizes_of}
use Rattle.make.specs.Fresh.{total_for, fresh_stores, zeroed, fresh_bytes}

-- the counts of 10 ms are few
tick-small : (hz : ℕ) → hz ≤ 4294967295 → counts_of hz 0 10000000 ≤ 42949673
unfolding nanos_of
tick-small hz h = omega (arith, counts-within-one hz 0 10000000)

-- each store of a fresh state is in range
writable : (z : Sizes) → SizesInRange z → Writable fields.layout1 (fields.most_of z) (fields.counts z) (fresh_stores z)
unfolding fresh_stores
writable z h = omega (arith, tick-small z.hz h.hz.1)

module _ (z : Sizes) (h : SizesInRange z) (s : List ℕ) where
  zero-memory : mem fields.layout1 (fields.counts z) (zeroed z s) ≡ nothing
  unfolding zeroed
  zero-memory = mem-zeros fields.layout1 (ranges z h).sound (fields.counts z) (drop (total_for z) s)

  zero-state : State fields.layout1 (fields.most_of z) (fields.counts z) (zeroed z s)
  unfolding Ranged zeroed
  zero-state =
      record {
        long = omega (arith, length-append (replicate (total_for z) 0) (drop (total_for z) s), length-zeros (total_for z));
        ranged = subst (λ (m : Memory). Ranged (fields.most_of z) m) (sym zero-memory) (λ f i. omega arith);
      }

  -- The bytes hold a whole state with every field in range.
  pub fresh-state : State fields.layout1 (fields.most_of z) (fields.counts z) (fresh_bytes z s)
  unfolding fresh_bytes
  fresh-state = state-writes (ranges z h) zero-state (fresh_stores z) (writable z h)

  -- Its memory is 0 but for the stores.
  pub fresh_memory_lem : mem fields.layout1 (fields.counts z) (fresh_bytes z s) ≡ updates nothing (fresh_stores z)
  unfolding fresh_bytes
  fresh_memory_lem =
      written (ranges z h) zero-state (fresh_stores z) (writable z h) ∙ ap (λ (m : Memory). updates m (fresh_stores z)) zero-memory

  -- The header names the sizes.
  pub fresh-sizes : sizes_of (fresh_bytes z s) ≡ z
  unfolding sizes_of start fresh_stores
  fresh-sizes = λ j. record {
    processes = at2 fields.size_processes 16 refl (lit< tt) j;
    rendez = at2 fields.size_rendez 18 refl (lit< tt) j;
    locks = at2 fields.size_locks 20 refl (lit< tt) j;
    timers = at2 fields.size_timers 22 refl (lit< tt) j;
    cells = at2 fields.size_cells 24 refl (lit< tt) j;
    hz = at2 fields.hz 12 refl (lit< tt) j;
  }
    where
      at2 : (f at : ℕ) → place fields.layout1 (fields.counts z) (field fields.layout1 f) 0 ≡ at → 0 < count fields.layout1 (fields.counts z) (field fields.layout1 f).region → le (field fields.layout1 f).width (fresh_bytes z s) at ≡ updates nothing (fresh_stores z) f 0
      at2 f at e l =
          ap (λ (k : ℕ). le (field fields.layout1 f).width (fresh_bytes z s) k) (sym e)
          ∙ cell_in_lem fields.layout1 (fields.counts z) (fresh_bytes z s) (field fields.layout1 f) 0 l
          ∙ ap (λ (m : Memory). m f 0) fresh_memory_lem
