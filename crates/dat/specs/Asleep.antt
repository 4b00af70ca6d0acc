-- How many are asleep, and `awaken`: what they ask and ensure.
use Rattle.std.specs.Prelude.{◌≡◌, refl, List, [], ◌∷◌, ℕ, suc, ◌+◌, ◌-◌, ◌≤◌, ◌<◌}
use Rattle.std.proofs.Common.{sym, ap, subst, arith, add-one}
use Rattle.machine.specs.Places.{ready}
use Rattle.layout.specs.Table.{slot}
use Rattle.layout.specs.Memory.{Memory}
use Rattle.layout.specs.Writes.{Write, to}
use Rattle.state.specs.Fields as fields
use Rattle.state.specs.Places.{sizes_in, mem_in, PutIn}
use Rattle.state.specs.declared.Sizes.{Sizes}
use Rattle.rules.specs.Code.{Long}
use Rattle.exact.specs.Bounds.{at_most}
use Rattle.holds.specs.Holds.{Holds}
use Rattle.holds.specs.Whole.{holds-bounds}
use Rattle.holds.specs.Use.{used_by, EachInUse, before, same_use}
use Rattle.holds.specs.Did.{Did, did, did_join, did_as, machine_in, same, more}
use Rattle.places.specs.Nowhere.{Nowhere}
use Rattle.places.specs.Others.{others, keeps_with}
use Rattle.places.specs.Run.{ready_mem}
use Rattle.places.specs.Own.{asleep_mem, asleep-machine, asleep-placed, asleep-nowhere}
use Rattle.dat.specs.Run.{ready_stores, ReadyAsks, Readied}

-- The count of those asleep.
abbrev pub asleep_in : Memory → ℕ
asleep_in m = m fields.asleep_count 0

-- One who was taken off its place is still counted.
pub record LessAsks (z : Sizes) (s : List ℕ) : Type 0 where
  pub owed : ℕ
  pub holds : Holds z s (suc owed)

-- There is room for one more in the count.
pub record MoreAsks (z : Sizes) (s : List ℕ) : Type 0 where
  pub owed : ℕ
  pub holds : Holds z s owed
  pub room : asleep_in (mem_in z s) < 65535

pub record Less (z : Sizes) (s s' : List ℕ) : Type 0 where
  pub did : Did z s s' more same (to fields.asleep_count 0 (asleep_in (mem_in z s) - 1) ∷ []) (asleep_mem (mem_in z s) (asleep_in (mem_in z s) - 1)) (machine_in z s)

pub record More (z : Sizes) (s s' : List ℕ) : Type 0 where
  pub did : Did z s s' same more (to fields.asleep_count 0 (suc (asleep_in (mem_in z s))) ∷ []) (asleep_mem (mem_in z s) (suc (asleep_in (mem_in z s)))) (machine_in z s)

pub less-long : {z : Sizes} {s : List ℕ} → LessAsks z s → Long z s
less-long a = record { sizes = a.holds.sizes; long = a.holds.state.long }

-- Somebody is counted.
pub less-some : {z : Sizes} {s : List ℕ} → LessAsks z s → 1 ≤ asleep_in (mem_in z s)
less-some a = omega (arith, a.holds.keeps.placed.asleep)

-- What the code shows.
pub lessened : {z : Sizes} {s s₁ : List ℕ} {v : ℕ} → LessAsks z s → v ≡ mem_in z s fields.asleep_count 0 → PutIn z s s₁ (slot 0 32 2) 0 (v - 1) → Less z s s₁
unfolding used_by
lessened {z} {s} {s₁} {v} a e p =
    let m : Memory = mem_in z s in
    record {
      did =
          did (to fields.asleep_count 0 (asleep_in m - 1) ∷ []) (asleep_mem m (asleep_in m - 1)) (machine_in z s) a.holds
          (rw e at p.bytes)
          (record { listed = omega arith; index = omega arith }, omega (arith, at_most (holds-bounds a.holds) fields.asleep_count 0), tt)
          refl
          (λ n k. keeps_with (others k) (asleep-placed k.placed (asleep_in m - 1) n (omega (arith, k.placed.asleep))))
          (asleep-machine a.holds.keeps.placed (asleep_in m - 1) a.owed)
          (EachInUse.more (before (omega arith)) EachInUse.none);
    }

pub raised : {z : Sizes} {s s₁ : List ℕ} {v : ℕ} → MoreAsks z s → v ≡ mem_in z s fields.asleep_count 0 → PutIn z s s₁ (slot 0 32 2) 0 (v + 1) → More z s s₁
unfolding used_by
raised {z} {s} {s₁} {v} a e p =
    let m : Memory = mem_in z s in
    record {
      did =
          did (to fields.asleep_count 0 (suc (asleep_in m)) ∷ []) (asleep_mem m (suc (asleep_in m))) (machine_in z s) a.holds
          (rw (e, add-one) at p.bytes)
          (record { listed = omega arith; index = omega arith }, omega (arith, a.room), tt)
          refl
          (λ n k. keeps_with (others k) (asleep-placed k.placed (suc (asleep_in m)) (suc n) (omega arith)))
          (asleep-machine a.holds.keeps.placed (suc (asleep_in m)) a.owed)
          (EachInUse.more (before (omega arith)) EachInUse.none);
    }

-- The stores of `awaken`: one less is asleep, and i is readied.
abbrev pub awaken_mem : Memory → ℕ → Memory
awaken_mem m i = ready_mem (asleep_mem m (asleep_in m - 1)) i

abbrev pub awaken_stores : Memory → ℕ → List Write
awaken_stores m i = to fields.asleep_count 0 (asleep_in m - 1) ∷ ready_stores m i

-- i was taken off its place, and is still counted.
pub record AwakenAsks (z : Sizes) (s : List ℕ) (i : ℕ) : Type 0 where
  pub owed : ℕ
  pub holds : Holds z s (suc owed)
  pub nowhere : Nowhere (sizes_in z) (mem_in z s) i

pub record Awakened (z : Sizes) (s s' : List ℕ) (i : ℕ) : Type 0 where
  pub did : Did z s s' more same (awaken_stores (mem_in z s) i) (awaken_mem (mem_in z s) i) (ready i (machine_in z s))

pub awaken-less : {z : Sizes} {s : List ℕ} {i : ℕ} → AwakenAsks z s i → LessAsks z s
awaken-less a = record { owed = a.owed; holds = a.holds }

pub awaken-ready : {z : Sizes} {s s₁ : List ℕ} {i : ℕ} → AwakenAsks z s i → Less z s s₁ → ReadyAsks z s₁ i
awaken-ready {z} {s} {s₁} {i} a l =
    record {
      owed = a.owed;
      holds = l.did.holds a.owed a.holds;
      nowhere =
          subst (λ (k : Memory). Nowhere (sizes_in z) k i) (sym l.did.memory) (asleep-nowhere (asleep_in (mem_in z s) - 1) a.nowhere);
    }

pub awakened : {z : Sizes} {s s₁ s₂ : List ℕ} {i : ℕ} → AwakenAsks z s i → Less z s s₁ → Readied z s₁ s₂ i → Awakened z s s₂ i
awakened {z} {s} {s₁} {s₂} {i} a l r =
    let e : mem_in z s₁ ≡ asleep_mem (mem_in z s) (asleep_in (mem_in z s) - 1) = l.did.memory in
    record {
      did =
          did_as (did_join l.did r.did (same_use refl refl refl refl refl refl refl refl refl)) (ap (λ (k : Memory). to fields.asleep_count 0 (asleep_in (mem_in z s) - 1) ∷ ready_stores k i) e)
          (ap (λ (k : Memory). ready_mem k i) e) (ap (ready i) l.did.machine);
    }
