-- How many living children a process has: what `set_nchild` ensures.
use Rattle.std.specs.Prelude.{◌≡◌, refl, List, [], ◌∷◌, ℕ, ◌≤◌}
use Rattle.std.proofs.Common.{sym, ap, ◌∙◌, arith}
use Rattle.machine.specs.Basics.{elem}
use Rattle.machine.specs.Machine as machine
use Rattle.machine.specs.Machine.{process}
use Rattle.machine.specs.Update.{with_process, with_nchild}
use Rattle.layout.specs.Table.{slot}
use Rattle.layout.specs.Memory.{Memory, upd}
use Rattle.layout.specs.Writes.{to}
use Rattle.chain.specs.Links.{alter-same}
use Rattle.state.specs.Fields as fields
use Rattle.state.specs.Abs.{exit_list, waits_on, exit_at, process_at, machine_of}
use Rattle.state.specs.Places.{sizes_in, mem_in, PutIn}
use Rattle.state.specs.WellFormed.{Used}
use Rattle.state.specs.declared.Sizes.{Sizes}
use Rattle.exact.specs.Bounds.{InBounds}
use Rattle.exact.specs.Parts.{used_at, used_at_lem, used_of}
use Rattle.holds.specs.Whole.{holds-bounds}
use Rattle.holds.specs.Frames.{placed_same}
use Rattle.holds.specs.Use.{used_by, none, more, before}
use Rattle.holds.specs.Did.{Did, did, machine_in, same, wrote_1}
use Rattle.places.specs.Others.{others, keeps_with}
use Rattle.records.specs.Else.{part_of, Else, else_none, else_put}
use Rattle.records.specs.Own.{LivingAsks, living-low, own-machine, own-asleep}

-- nchild is stored.
abbrev pub nchild_mem : Memory → ℕ → ℕ → Memory
nchild_mem m i v = upd m fields.nchild i v

pub record NchildSet (z : Sizes) (s s' : List ℕ) (i v : ℕ) : Type 0 where
  pub did
      : Did z s s' same same (to fields.nchild i v ∷ []) (nchild_mem (mem_in z s) i v)
      (with_process i (with_nchild v (process (machine_in z s) i)) (machine_in z s))

nchild_else : (m : Memory) (i v : ℕ) → Else m (nchild_mem m i v) i
unfolding part_of elem
nchild_else m i v = else_put (else_none m i) fields.nchild v refl

nchild-process
    : {z : machine.Sizes} {m : Memory} {i : ℕ} (v : ℕ)
    → InBounds z m
    → Used m i
    → process_at (nchild_mem m i v) i ≡ with_nchild v (process (machine_of z m) i)
unfolding with_nchild exit_list exit_at waits_on
nchild-process {z} {m} {i} v b u =
    used_at_lem (nchild_mem m i v) i u
    ∙ (λ k. record {
      pid = m fields.pid i;
      name = (used_at m i).name;
      parent = m fields.parent i;
      nchild = alter-same (m fields.nchild) i v k;
      exits = (used_at m i).exits;
      quantum_end = m fields.quantum_end i;
      resume = (used_at m i).resume;
      on_waitr = (used_at m i).on_waitr;
    })
    ∙ ap (with_nchild v) (sym (used_of b i u))

-- What the code shows.
pub nchild-set
    : {z : Sizes} {s s₁ : List ℕ} {i v : ℕ} → LivingAsks z s i → v ≤ 65535 → PutIn z s s₁ (slot 1 32 2) i v → NchildSet z s s₁ i v
unfolding with_nchild used_by
nchild-set {z} {s} {s₁} {i} {v} a h q =
    let m : Memory = mem_in z s in
    let b : InBounds (sizes_in z) m = holds-bounds a.holds in
    let p : process_at (nchild_mem m i v) i ≡ with_nchild v (process (machine_in z s) i) = nchild-process v b a.used in
    record {
      did =
          did (to fields.nchild i v ∷ []) (nchild_mem m i v) (with_process i (with_nchild v (process (machine_in z s) i)) (machine_in z s)) a.holds
          (wrote_1 {z = z} {f = fields.nchild} q).bytes
          (record { listed = omega arith; index = living-low a }, h, tt)
          refl
          (λ n x.
          keeps_with (others x)
          (placed_same n refl refl refl refl refl refl refl refl refl refl refl refl refl (own-asleep b a.used (nchild_else m i v) p refl) x.placed))
          (own-machine b a.used (nchild_else m i v) p)
          (more (before a.used) none);
    }
