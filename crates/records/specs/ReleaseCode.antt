-- What `release` asks and ensures, and what its code shows.
use Rattle.std.specs.Prelude.{◌≡◌, List, ◌++◌, ℕ, ◌<◌}
use Rattle.std.proofs.Math.Path.{refl, ap, subst}
use Rattle.std.proofs.Common.{sym, ◌∙◌, arith}
use Rattle.machine.specs.Basics.{elem}
use Rattle.machine.specs.Machine.{free}
use Rattle.machine.specs.Update.{with_process}
use Rattle.machine.specs.Exits.{found}
use Rattle.layout.specs.Table.{slot}
use Rattle.layout.specs.Memory.{Memory}
use Rattle.chain.specs.Links.{alter-same}
use Rattle.layout.specs.Writes.{Write}
use Rattle.state.specs.Fields as fields
use Rattle.state.specs.Abs.{machine_of}
use Rattle.state.specs.Places.{sizes_in, mem_in, PutIn, Wrote, wrote-runs}
use Rattle.state.specs.WellFormed.{Used, Index}
use Rattle.state.specs.declared.Sizes.{Sizes}
use Rattle.exact.specs.Bounds.{InBounds, inside}
use Rattle.holds.specs.Holds.{Holds}
use Rattle.holds.specs.Whole.{holds-bounds}
use Rattle.holds.specs.Frames.{index_same}
use Rattle.holds.specs.Use.{Smaller}
use Rattle.holds.specs.Leftover.{Ceased}
use Rattle.holds.specs.Did.{Did, machine_in, same, writes_in, WritableIn, writable_join, wrote_2}
use Rattle.places.specs.Nowhere.{Nowhere}
use Rattle.free.specs.Asks.{records_in}
use Rattle.free.specs.UseRecord.{drop_record_writes, drop_record_mem, DropRecordAsks, DropRecordDone, drop-asks}
use Rattle.free.specs.Restored.{ButPid, dropped_record}
use Rattle.ages.specs.Ties.{Stored, stores-done}
use Rattle.ages.specs.Kept.{LivingIn, holds-ages, living_in}
use Rattle.ages.specs.Out.{age_out_stores, age_out_mem, AgedOut}
use Rattle.records.specs.Else.{part_of}
use Rattle.records.specs.Store.{did-stored}
use Rattle.records.specs.Release.{gone_stores, release_stores, gone_mem, release_mem, release_else, release-machine, release-found, release-keeps}
use Rattle.records.specs.Exits.{exits-none}
use Rattle.records.specs.InUse.{release-in_use, release-smaller, release-ceased}

-- The process is nowhere, and has no exits left.
pub record ReleaseAsks (z : Sizes) (s : List ℕ) (i : ℕ) : Type 0 where
  pub owed : ℕ
  pub holds : Holds z s owed
  pub nowhere : Nowhere (sizes_in z) (mem_in z s) i
  pub exits : mem_in z s fields.nexits i ≡ 0

-- Record i is free.
pub record Released (z : Sizes) (s s' : List ℕ) (i : ℕ) : Type 0 where
  pub did
      : Did z s s' same same (release_stores z.processes (mem_in z s) i) (release_mem z.processes (mem_in z s) i)
      (with_process i free (machine_in z s))
  pub smaller : Smaller z (mem_in z s) (mem_in z s')
  pub ceased : Ceased z (mem_in z s) (mem_in z s')
  -- whoever is found by another pid still is
  pub found : (q : ℕ) → (mem_in z s fields.pid i ≡ q → ⊥) → found q (machine_in z s') ≡ found q (machine_in z s)

module _ {z : Sizes} {s : List ℕ} {i : ℕ} (a : ReleaseAsks z s i) where
  -- What the calls ask.
  pub release_age : LivingIn z s i
  release_age = living_in (holds-ages a.holds) a.nowhere.used

  pub release-low : i < z.processes
  release-low = inside (holds-bounds a.holds) fields.pid i a.nowhere.used

  module _ {s₁ : List ℕ} (d₁ : AgedOut z s s₁ i) where
    out_index : Index (sizes_in z) (mem_in z s₁)
    out_index =
        subst (λ (x : Memory). Index (sizes_in z) x) (sym d₁.memory) (index_same refl refl refl refl refl refl refl a.holds.keeps.index)

    out_used : Used (mem_in z s₁) i
    out_used = subst (λ (x : Memory). Used x i) (sym d₁.memory) a.nowhere.used

    pub release-drop : DropRecordAsks z s₁ i
    release-drop = drop-asks (records_in a.holds.sizes d₁.state out_index) release-low out_used

    -- What the code shows.
    pub released
        : {s₂ s₃ s₄ : List ℕ}
        → DropRecordDone z s₁ s₂ i
        → PutIn z s₂ s₃ (slot 1 0 8) i 0
        → PutIn z s₃ s₄ (slot 1 37 1) i 0
        → Released z s s₄ i
    unfolding part_of elem
    released {s₂} {s₃} {s₄} d₂ p₁ p₂ =
        let m : Memory = mem_in z s in
        let n : ℕ = z.processes in
        let b : InBounds (sizes_in z) m = holds-bounds a.holds in
        let last : Stored z s₂ s₄ (gone_stores i) (gone_mem (mem_in z s₂) i) =
        stores-done (record { sizes = a.holds.sizes; state = d₂.state })
        (record { listed = omega arith; index = release-low }, omega arith, (record { listed = omega arith; index = release-low }, omega arith, tt))
        (wrote_2 p₁ p₂)
        refl
        in
        let dropped : mem_in z s₂ ≡ drop_record_mem n (age_out_mem m i) i = d₂.memory ∙ ap (λ (x : Memory). drop_record_mem n x i) d₁.memory in
        let first : Wrote z s s₁ (age_out_stores m i) = record { bytes = d₁.bytes; long = d₁.state.long } in
        let next : Wrote z s₁ s₂ (drop_record_writes n m i) =
        record { bytes = d₂.bytes ∙ ap (λ (x : Memory). writes_in z s₁ (drop_record_writes n x i)) d₁.memory; long = d₂.state.long }
        in
        let then : Wrote z s₂ s₄ (gone_stores i) = record { bytes = last.bytes; long = last.state.long } in
        let all : List Write = age_out_stores m i ++ drop_record_writes n m i in
        let ok : WritableIn z (all ++ gone_stores i) =
        writable_join z all (gone_stores i)
        (writable_join z (age_out_stores m i) (drop_record_writes n m i) d₁.writable
        (subst (λ (x : Memory). WritableIn z (drop_record_writes n x i)) d₁.memory d₂.writable))
        last.writable
        in
        let words : Index (sizes_in z) (release_mem n m i) =
        dropped_record a.holds.sizes d₁.state out_index (release_mem n m i) d₂ out_used
        (subst (λ (x : Memory). ButPid x (release_mem n m i) i) (sym dropped)
        (record {
          records = record { words = refl; full = refl };
          cells = record { words = refl; middle = refl; full = refl };
          owner = refl;
          pid = λ j ne. (release_else n m i).other fields.pid j refl (λ x. ne (sym x));
        }))
        (alter-same (m fields.pid) i 0)
        in
        let e : mem_in z s₄ ≡ release_mem n m i = last.memory ∙ ap (λ (x : Memory). gone_mem x i) dropped in
        record {
          did =
              did-stored a.holds last.state (wrote-runs first next then).bytes ok e
              (λ o q. release-keeps b a.nowhere a.exits q words)
              (release-machine b a.nowhere)
              (release-in_use n i a.holds.keeps.ages a.nowhere.used);
          smaller = subst (Smaller z m) (sym e) (release-smaller n m i);
          ceased =
              subst (Ceased z m) (sym e)
              (release-ceased n m i a.holds.keeps.ages a.nowhere (exits-none a.holds.keeps.cells a.nowhere.used a.exits) a.exits);
          found = λ q ne.
              ap (λ (x : Memory). found q (machine_of (sizes_in z) x)) e ∙ release-found b a.nowhere a.holds.keeps.ages q ne;
        }
