-- What `occupy` asks and ensures, and what its code shows.
use Rattle.std.specs.Prelude.{◌≡◌, List, ◌++◌, ℕ, ◌≤◌, ◌<◌}
use Rattle.std.proofs.Math.Path.{refl}
use Rattle.std.proofs.Common.{sym, ap, subst, ◌∙◌, arith}
use Rattle.machine.specs.Update.{with_process}
use Rattle.memory.specs.Link.{link}
use Rattle.layout.specs.Memory.{Memory}
use Rattle.layout.specs.Writes.{Write}
use Rattle.chain.specs.Links.{alter-same}
use Rattle.state.specs.Fields as fields
use Rattle.state.specs.Places.{sizes_in, mem_in, Wrote, wrote-runs}
use Rattle.state.specs.WellFormed.{Index, Ages}
use Rattle.state.specs.declared.Sizes.{Sizes}
use Rattle.record.specs.declared.Proc.{Proc}
use Rattle.record.specs.Loads.{LoadAsks, Loaded}
use Rattle.record.specs.Stores.{LinksFit, record_stores}
use Rattle.exact.specs.Bounds.{InBounds, in_bounds, at_most}
use Rattle.holds.specs.Holds.{Holds}
use Rattle.holds.specs.Whole.{holds-bounds}
use Rattle.holds.specs.Frames.{ages-same}
use Rattle.holds.specs.Did.{Did, machine_in, same, writes_in, WritableIn, writable_join}
use Rattle.places.specs.Nowhere.{Nowhere}
use Rattle.free.specs.Asks.{records_in}
use Rattle.free.specs.UseRecord.{use_record_writes, UseRecordAsks, UseRecordDone, use_asks}
use Rattle.free.specs.Restored.{ButPid, used_record}
use Rattle.ages.specs.Ties.{Stored, stores-done}
use Rattle.ages.specs.In.{age_in_stores, age_in_mem, AgeInAsks, AgedIn}
use Rattle.records.specs.Names.{IsName}
use Rattle.records.specs.Store.{did-stored, Fits, stored_mem, stored_mem_lem, stored-writable}
use Rattle.records.specs.New.{link_of, number-of, of-number, link-fits, newborn, new_record, new_process, Newcomer}
use Rattle.records.specs.Occupy.{taken_mem, occupy_stores, occupy_mem, occupy_else, occupy-machine, occupy-nowhere, occupy-keeps}
use Rattle.records.specs.InUse.{occupy-in_use}
use Rattle.records.specs.Else.{part_of, Else}
use Rattle.machine.specs.Basics.{elem}

-- Record i is free, and the pid v is a newcomer's.
pub record OccupyAsks (z : Sizes) (s : List ℕ) (i : ℕ) (p : Proc) (v : ℕ) : Type 0 where
  pub owed : ℕ
  pub holds : Holds z s owed
  pub index : i < z.processes
  pub free : mem_in z s fields.pid i ≡ 0
  pub new : Newcomer (mem_in z s) p v
  pub high : v ≤ 18446744073709551615
  pub link : link p.parent_at ≤ z.processes
  pub text : IsName p.text

-- Record i has the new process, which is nowhere.
pub record Occupied (z : Sizes) (s s' : List ℕ) (i : ℕ) (p : Proc) (v : ℕ) : Type 0 where
  pub did
      : Did z s s' same same (occupy_stores z.processes (mem_in z s) i p v) (occupy_mem z.processes (mem_in z s) i p v)
      (with_process i (new_process v p) (machine_in z s))
  pub nowhere : Nowhere (sizes_in z) (mem_in z s') i

module _ {z : Sizes} {s : List ℕ} {i : ℕ} {p : Proc} {v : ℕ} (a : OccupyAsks z s i p v) where
  -- What the calls ask.
  pub occupy_use : UseRecordAsks z s i
  occupy_use = use_asks (records_in a.holds.sizes a.holds.state a.holds.keeps.index) a.index a.free

  module _ {s₁ : List ℕ} (d₁ : UseRecordDone z s s₁ i) where
    marked-ages : Ages (sizes_in z) (mem_in z s₁)
    marked-ages =
        subst (λ (x : Memory). Ages (sizes_in z) x) (sym d₁.memory) (ages-same refl refl refl refl refl refl refl a.holds.keeps.ages)

    pub occupy_age : AgeInAsks z s₁ i
    occupy_age =
        record {
          aged = record { whole = record { sizes = a.holds.sizes; state = d₁.state }; ages = marked-ages };
          index = a.index;
          free = ap (λ (x : Memory). x fields.pid i) d₁.memory ∙ a.free;
        }

    module _ {s₂ : List ℕ} (d₂ : AgedIn z s₁ s₂ i) where
      pub occupy-load : LoadAsks z s₂ i
      occupy-load = record { index = a.index; long = d₂.state.long }

      taken : mem_in z s₂ ≡ taken_mem z.processes (mem_in z s) i
      taken = d₂.memory ∙ ap (λ (x : Memory). age_in_mem x i) d₁.memory

      bounds : InBounds (sizes_in z) (mem_in z s₂)
      bounds = in_bounds a.holds.sizes d₂.state

      number-low : {n k : ℕ} → n ≤ k → link (link_of n) ≤ k
      number-low {n} {k} h = subst (λ (x : ℕ). x ≤ k) (sym (number-of n)) h

      fits : Fits z (new_record (mem_in z s₂) i p v)
      fits =
          record {
            pid = a.high;
            parent = omega (arith, a.high, a.new.parent);
            quantum_end = omega arith;
            next = number-low (at_most bounds fields.next i);
            older = number-low (at_most bounds fields.older i);
            younger = number-low (at_most bounds fields.younger i);
            parent_at = a.link;
            nchild = omega arith;
            exits = omega arith;
            nexits = omega arith;
            state = omega arith;
            call = omega arith;
            object = omega arith;
            condition = omega arith;
            text = a.text;
          }

      -- The words are right.
      words : Index (sizes_in z) (occupy_mem z.processes (mem_in z s) i p v)
      unfolding part_of elem
      words =
          let e : Else (mem_in z s) (occupy_mem z.processes (mem_in z s) i p v) i = occupy_else z.processes (mem_in z s) i p v a.text.length in
          used_record a.holds.sizes a.holds.state a.holds.keeps.index (occupy_mem z.processes (mem_in z s) i p v) d₁ a.free
          (subst (λ (x : Memory). ButPid x (occupy_mem z.processes (mem_in z s) i p v) i) (sym d₁.memory)
          (record {
            records = record { words = refl; full = refl };
            cells = record { words = refl; middle = refl; full = refl };
            owner = refl;
            pid = λ j ne. e.other fields.pid j refl (λ x. ne (sym x));
          }))
          (omega (arith, alter-same (mem_in z s fields.pid) i v, a.new.above i))

      module _ {old new : Proc} (l : Loaded z s₂ i old) (r : new ≡ newborn old.next old.older old.younger p v) where
        made : new ≡ new_record (mem_in z s₂) i p v
        made = r ∙ (λ k. newborn (of-number old.next l.next k) (of-number old.older l.older k) (of-number old.younger l.younger k) p v)

        -- What the store asks.
        pub occupy-fit : LinksFit new
        occupy-fit =
            let small : z.processes ≤ 65535 = omega (arith, a.holds.sizes.processes.1) in
            subst LinksFit (sym made)
            (record {
              next = link-fits (link_of (mem_in z s₂ fields.next i)) fits.next small;
              older = link-fits (link_of (mem_in z s₂ fields.older i)) fits.older small;
              younger = link-fits (link_of (mem_in z s₂ fields.younger i)) fits.younger small;
              parent_at = link-fits p.parent_at a.link small;
              exits = tt;
            })

        module _ {s₃ : List ℕ} (w : Wrote z s₂ s₃ (record_stores i new)) where
          stored : Stored z s₂ s₃ (record_stores i (new_record (mem_in z s₂) i p v)) (stored_mem (mem_in z s₂) i (new_record (mem_in z s₂) i p v))
          stored =
              stores-done (record { sizes = a.holds.sizes; state = d₂.state })
              (stored-writable z i (new_record (mem_in z s₂) i p v) a.index fits)
              (subst (λ (x : Proc). Wrote z s₂ s₃ (record_stores i x)) made w)
              (stored_mem_lem (mem_in z s₂) i (new_record (mem_in z s₂) i p v) (record { next = number-of _; older = number-of _; younger = number-of _ }))

          pub occupied : Occupied z s s₃ i p v
          occupied =
              let m : Memory = mem_in z s in
              let k : Memory = occupy_mem z.processes m i p v in
              let e : mem_in z s₃ ≡ k =
              stored.memory ∙ ap (λ (x : Memory). stored_mem x i (new_record x i p v)) taken
              in
              let first : Wrote z s s₁ (use_record_writes z.processes m i) = record { bytes = d₁.bytes; long = d₁.state.long } in
              let next : Wrote z s₁ s₂ (age_in_stores m i) =
              record { bytes = d₂.bytes ∙ ap (λ (x : Memory). writes_in z s₁ (age_in_stores x i)) d₁.memory; long = d₂.state.long }
              in
              let last : Wrote z s₂ s₃ (record_stores i (new_record (taken_mem z.processes m i) i p v)) =
              record {
                bytes = stored.bytes ∙ ap (λ (x : Memory). writes_in z s₂ (record_stores i (new_record x i p v))) taken;
                long = stored.state.long;
              }
              in
              let all : List Write = use_record_writes z.processes m i ++ age_in_stores m i in
              let new : List Write = record_stores i (new_record (taken_mem z.processes m i) i p v) in
              let ok : WritableIn z (all ++ new) =
              writable_join z all new
              (writable_join z (use_record_writes z.processes m i) (age_in_stores m i) d₁.writable
              (subst (λ (x : Memory). WritableIn z (age_in_stores x i)) d₁.memory d₂.writable))
              (subst (λ (x : Memory). WritableIn z (record_stores i (new_record x i p v))) taken stored.writable)
              in
              let b : InBounds (sizes_in z) m = holds-bounds a.holds in
              record {
                did =
                    did-stored a.holds stored.state (wrote-runs first next last).bytes ok e
                    (λ n q. occupy-keeps b a.index a.free a.text.length a.new q words)
                    (occupy-machine b a.index a.free a.text.length a.new)
                    (occupy-in_use z.processes i p v a.holds.keeps.ages a.free a.new a.text.length);
                nowhere =
                    subst (λ (x : Memory). Nowhere (sizes_in z) x i) (sym e)
                    (occupy-nowhere b a.index a.free a.text.length a.new a.holds.keeps.placed);
              }
