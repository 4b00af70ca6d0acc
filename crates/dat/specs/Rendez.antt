-- Rendez: what `wakeup` and `sleep_on` ask and ensure.
use Rattle.std.specs.Prelude.{◌≡◌, refl, List, [], ◌∷◌, ℕ, zero, suc, ◌≤◌, ◌<◌}
use Rattle.std.proofs.Common.{sym, ap, subst, ◌∙◌, arith}
use Rattle.std.proofs.Math.Option.{none, some}
use Rattle.machine.specs.Machine.{Machine, sleeper, pid_of}
use Rattle.machine.specs.Update.{with_sleeper}
use Rattle.machine.specs.Places.{ready, wake}
use Rattle.layout.specs.Table.{slot}
use Rattle.layout.specs.Memory.{Memory}
use Rattle.layout.specs.Writes.{Write, to}
use Rattle.state.specs.Fields as fields
use Rattle.state.specs.Places.{sizes_in, mem_in, PutIn}
use Rattle.state.specs.declared.Sizes.{Sizes}
use Rattle.exact.specs.Bounds.{InBounds, at_most, inside}
use Rattle.exact.specs.Parts.{sleeper_of_lem, pid_of_lem}
use Rattle.holds.specs.Holds.{Holds}
use Rattle.holds.specs.Whole.{holds-bounds}
use Rattle.holds.specs.Use.{used_by, EachInUse, before, same_use}
use Rattle.holds.specs.Did.{Did, did, did_join, did_as, machine_in, same, more, wrote_2}
use Rattle.holds.specs.Touched.{Touched, touched_none, touched-did}
use Rattle.places.specs.Nowhere.{Nowhere}
use Rattle.places.specs.Others.{others, keeps_with}
use Rattle.places.specs.Own.{asleep_mem, asleep-nowhere}
use Rattle.places.specs.Rendez.{CallsRendez, sleep_mem, sleep-machine, sleep-placed, woken_mem, woken-machine, woken-placed, woken-nowhere}
use Rattle.dat.specs.Asleep.{asleep_in, MoreAsks, More, AwakenAsks, Awakened, awaken_mem, awaken_stores}

-- `wakeup` on Rendez r: the stores that take the sleeper i off and awaken it.
abbrev pub wake_stores : Memory → ℕ → ℕ → List Write
wake_stores m r i = to fields.sleeper_of r 0 ∷ awaken_stores m i

abbrev pub wake_mem : Memory → ℕ → ℕ → Memory
wake_mem m r i = awaken_mem (woken_mem m r) i

pub record WakeAsks (z : Sizes) (s : List ℕ) (r : ℕ) : Type 0 where
  pub owed : ℕ
  pub holds : Holds z s owed
  pub index : r < z.rendez

-- The pid of whom a link names, as a list.
abbrev pub pids_of : Memory → ℕ → List ℕ
pids_of m zero = []
pids_of m (suc i) = m fields.pid i ∷ []

-- The answer is the link of the sleeper, 0 for none. Then nothing is stored; else it is taken off and ready. Either is the machine's `wake`.
pub record Woke (z : Sizes) (s s' : List ℕ) (r l : ℕ) : Type 0 where
  pub answer : l ≡ mem_in z s fields.sleeper_of r
  pub nobody : l ≡ 0 → s' ≡ s
  pub somebody : (i : ℕ) → l ≡ suc i → Did z s s' same same (wake_stores (mem_in z s) r i) (wake_mem (mem_in z s) r i) (ready i (with_sleeper r none (machine_in z s)))
  pub holds : (n : ℕ) → Holds z s n → Holds z s' n
  pub machine : machine_in z s' ≡ (wake r (machine_in z s)).machine
  pub readied : pids_of (mem_in z s) l ≡ (wake r (machine_in z s)).readied
  pub range : l ≤ z.processes
  pub touched : Touched z s s'

wake-none : (m : Machine) (r : ℕ) → sleeper m r ≡ none → ((wake r m).machine ≡ m) × ((wake r m).readied ≡ [])
unfolding wake
wake-none m r e = (rw e, rw e)

wake-some
    : (m : Machine) (r i : ℕ)
    → sleeper m r ≡ some i
    → ((wake r m).machine ≡ ready i (with_sleeper r none m)) × ((wake r m).readied ≡ pid_of m i ∷ [])
unfolding wake
wake-some m r i e = (rw e, rw e)

-- Nobody sleeps there.
pub woke_none : {z : Sizes} {s : List ℕ} {r l : ℕ} → WakeAsks z s r → l ≡ mem_in z s fields.sleeper_of r → l ≡ 0 → Woke z s s r 0
woke_none {z} {s} {r} {l} a e d =
    let o : sleeper (machine_in z s) r ≡ none = sleeper_of_lem (holds-bounds a.holds) r ∙ rw (← e, d) in
    record {
      answer = sym d ∙ e;
      nobody = λ _. refl;
      somebody = λ i x. absurd (omega (arith, x));
      holds = λ n h. h;
      machine = sym (wake-none (machine_in z s) r o).0;
      readied = sym (wake-none (machine_in z s) r o).1;
      range = omega arith;
      touched = touched_none;
    }

-- The store that takes the sleeper off.
pub record TakenOff (z : Sizes) (s s₁ : List ℕ) (r i : ℕ) : Type 0 where
  pub did : Did z s s₁ same more (to fields.sleeper_of r 0 ∷ []) (woken_mem (mem_in z s) r) (with_sleeper r none (machine_in z s))
  pub nowhere : Nowhere (sizes_in z) (mem_in z s₁) i

taken-off
    : {z : Sizes} {s s₁ : List ℕ} {r i : ℕ}
    → WakeAsks z s r
    → mem_in z s fields.sleeper_of r ≡ suc i
    → PutIn z s s₁ (slot 3 0 2) r 0
    → TakenOff z s s₁ r i
unfolding used_by
taken-off {z} {s} {s₁} {r} {i} a e p =
    let m : Memory = mem_in z s in
    let b : InBounds (sizes_in z) m = holds-bounds a.holds in
    let d : Did z s s₁ same more (to fields.sleeper_of r 0 ∷ []) (woken_mem m r) (with_sleeper r none (machine_in z s)) =
    did (to fields.sleeper_of r 0 ∷ []) (woken_mem m r) (with_sleeper r none (machine_in z s)) a.holds p.bytes
    (record { listed = omega arith; index = a.index }, omega arith, tt)
    refl
    (λ n k. keeps_with (others k) (woken-placed b k.placed e))
    (woken-machine b a.holds.keeps.placed e)
    (EachInUse.more (before (omega arith)) EachInUse.none)
    in
    record {
      did = d;
      nowhere = subst (λ (k : Memory). Nowhere (sizes_in z) k i) (sym d.memory) (woken-nowhere b a.holds.keeps.placed e);
    }

pub wake-awaken
    : {z : Sizes} {s s₁ : List ℕ} {r i : ℕ}
    → WakeAsks z s r
    → suc i ≡ mem_in z s fields.sleeper_of r
    → PutIn z s s₁ (slot 3 0 2) r 0
    → AwakenAsks z s₁ i
wake-awaken {z} {s} {s₁} {r} {i} a e p =
    let t : TakenOff z s s₁ r i = taken-off a (sym e) p in
    record { owed = a.owed; holds = t.did.holds a.owed a.holds; nowhere = t.nowhere }

-- Somebody does.
pub woke_one
    : {z : Sizes} {s s₁ s₂ : List ℕ} {r i : ℕ}
    → WakeAsks z s r
    → suc i ≡ mem_in z s fields.sleeper_of r
    → PutIn z s s₁ (slot 3 0 2) r 0
    → Awakened z s₁ s₂ i
    → Woke z s s₂ r (suc i)
woke_one {z} {s} {s₁} {s₂} {r} {i} a e p w =
    let m : Memory = mem_in z s in
    let x : m fields.sleeper_of r ≡ suc i = sym e in
    let t : TakenOff z s s₁ r i = taken-off a x p in
    let o : sleeper (machine_in z s) r ≡ some i = sleeper_of_lem (holds-bounds a.holds) r ∙ rw x in
    let d : Did z s s₂ same same (wake_stores m r i) (wake_mem m r i) (ready i (with_sleeper r none (machine_in z s))) =
    did_as (did_join t.did w.did (same_use refl refl refl refl refl refl refl refl refl))
    (ap (λ (k : Memory). to fields.sleeper_of r 0 ∷ awaken_stores k i) t.did.memory)
    (ap (λ (k : Memory). awaken_mem k i) t.did.memory)
    (ap (ready i) t.did.machine)
    in
    record {
      answer = e;
      nobody = λ y. absurd (omega (arith, y));
      somebody = λ j y. subst (λ (k : ℕ). Did z s s₂ same same (wake_stores m r k) (wake_mem m r k) (ready k (with_sleeper r none (machine_in z s)))) (omega (arith, y)) d;
      holds = d.holds;
      machine = d.machine ∙ sym (wake-some (machine_in z s) r i o).0;
      readied = ap (λ (k : ℕ). k ∷ []) (sym (pid_of_lem (holds-bounds a.holds) i)) ∙ sym (wake-some (machine_in z s) r i o).1;
      range = omega (arith, e, at_most (holds-bounds a.holds) fields.sleeper_of r);
      touched = touched-did d (same_use refl refl refl refl refl refl refl refl refl);
    }

-- `sleep_on`: i, whose call is a `sleep` or `tsleep` on r, goes asleep there, where nobody is.
pub record SleepAsks (z : Sizes) (s : List ℕ) (i r : ℕ) : Type 0 where
  pub owed : ℕ
  pub holds : Holds z s owed
  pub nowhere : Nowhere (sizes_in z) (mem_in z s) i
  pub call : CallsRendez (mem_in z s) r i
  pub index : r < z.rendez
  pub empty : mem_in z s fields.sleeper_of r ≡ 0
  pub room : asleep_in (mem_in z s) < 65535

abbrev pub sleep_stores : Memory → ℕ → ℕ → List Write
sleep_stores m i r = to fields.asleep_count 0 (suc (asleep_in m)) ∷ to fields.sleeper_of r (suc i) ∷ to fields.state_of i 3 ∷ []

abbrev pub slept_mem : Memory → ℕ → ℕ → Memory
slept_mem m i r = sleep_mem (asleep_mem m (suc (asleep_in m))) i r

pub record Slept (z : Sizes) (s s' : List ℕ) (i r : ℕ) : Type 0 where
  pub did : Did z s s' same same (sleep_stores (mem_in z s) i r) (slept_mem (mem_in z s) i r) (with_sleeper r (some i) (machine_in z s))

pub sleep-more : {z : Sizes} {s : List ℕ} {i r : ℕ} → SleepAsks z s i r → MoreAsks z s
sleep-more a = record { owed = a.owed; holds = a.holds; room = a.room }

pub sleep-low : {z : Sizes} {s : List ℕ} {i r : ℕ} → SleepAsks z s i r → i < z.processes
sleep-low {i = i} a = inside (holds-bounds a.holds) fields.pid i a.nowhere.used

pub sleep-small : {z : Sizes} {s : List ℕ} {i r : ℕ} → SleepAsks z s i r → i < 4096
sleep-small a = omega (arith, sleep-low a, a.holds.sizes.processes.1)

pub slept
    : {z : Sizes} {s s₁ s₂ s₃ : List ℕ} {i r : ℕ}
    → SleepAsks z s i r
    → More z s s₁
    → PutIn z s₁ s₂ (slot 3 0 2) r (suc i)
    → PutIn z s₂ s₃ (slot 1 37 1) i 3
    → Slept z s s₃ i r
unfolding used_by
slept {z} {s} {s₁} {s₂} {s₃} {i} {r} a o p₁ p₂ =
    let m : Memory = mem_in z s in
    let m₁ : Memory = asleep_mem m (suc (asleep_in m)) in
    let h₁ : Holds z s₁ (suc a.owed) = o.did.holds a.owed a.holds in
    let b : InBounds (sizes_in z) (mem_in z s₁) = holds-bounds h₁ in
    let e : mem_in z s₁ ≡ m₁ = o.did.memory in
    let w : Nowhere (sizes_in z) (mem_in z s₁) i = subst (λ (k : Memory). Nowhere (sizes_in z) k i) (sym e) (asleep-nowhere (suc (asleep_in m)) a.nowhere) in
    let c : CallsRendez (mem_in z s₁) r i =
    subst (λ (k : Memory). CallsRendez k r i) (sym e) (record { kind = a.call.kind; object = a.call.object })
    in
    let f : mem_in z s₁ fields.sleeper_of r ≡ 0 = ap (λ (k : Memory). k fields.sleeper_of r) e ∙ a.empty in
    let d : Did z s₁ s₃ more same (to fields.sleeper_of r (suc i) ∷ to fields.state_of i 3 ∷ []) (sleep_mem (mem_in z s₁) i r) (with_sleeper r (some i) (machine_in z s₁)) =
    did (to fields.sleeper_of r (suc i) ∷ to fields.state_of i 3 ∷ []) (sleep_mem (mem_in z s₁) i r) (with_sleeper r (some i) (machine_in z s₁)) h₁
    (wrote_2 {z = z} {f₁ = fields.sleeper_of} {f₂ = fields.state_of} p₁ p₂).bytes
    (record { listed = omega arith; index = a.index }, sleep-low a, (record { listed = omega arith; index = sleep-low a }, omega arith, tt))
    refl
    (λ n k. keeps_with (others k) (sleep-placed b k.placed w c a.index f))
    (sleep-machine b h₁.keeps.placed w c a.index f)
    (EachInUse.more (before (omega arith)) (EachInUse.more (before w.used) EachInUse.none))
    in
    record { did = did_as (did_join o.did d (same_use refl refl refl refl refl refl refl refl refl)) refl (ap (λ (k : Memory). sleep_mem k i r) e) (ap (with_sleeper r (some i)) o.did.machine) }
