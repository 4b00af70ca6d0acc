-- The own waitr: what `wait_on` and `wake_waitr` ask and ensure.
use Rattle.std.specs.Prelude.{◌≡◌, refl, Bool, true, false, not, List, [], ◌∷◌, ℕ, suc, ◌<◌, eqb}
use Rattle.std.proofs.Common.{sym, ap, subst, ◌∙◌, arith, ne_eqb}
use Rattle.std.proofs.lemmas.Bool.{both_ways}
use Rattle.machine.specs.Machine.{Machine, process}
use Rattle.machine.specs.Update.{with_process, with_on_waitr}
use Rattle.machine.specs.Places.{ready}
use Rattle.machine.specs.Exits.{wake_waitr}
use Rattle.layout.specs.Table.{slot}
use Rattle.layout.specs.Memory.{Memory}
use Rattle.layout.specs.Writes.{Write, to}
use Rattle.state.specs.Fields as fields
use Rattle.state.specs.Abs.{waits_on}
use Rattle.state.specs.Places.{sizes_in, mem_in, PutIn}
use Rattle.state.specs.declared.Sizes.{Sizes}
use Rattle.exact.specs.Bounds.{InBounds, inside}
use Rattle.exact.specs.Parts.{waitr_of}
use Rattle.holds.specs.Holds.{Holds}
use Rattle.holds.specs.Whole.{holds-bounds}
use Rattle.holds.specs.Use.{used_by, EachInUse, before, same_use}
use Rattle.holds.specs.Did.{Did, did, did_join, did_as, machine_in, same, more}
use Rattle.holds.specs.Touched.{Touched, touched_none, touched-did}
use Rattle.places.specs.Nowhere.{Nowhere, waits-state}
use Rattle.places.specs.Others.{others, keeps_with}
use Rattle.places.specs.Own.{asleep_mem, asleep-nowhere}
use Rattle.places.specs.Waitr.{state_mem, wait-machine, wait-placed, waits-asleep, unwait_machine, unwait_placed, unwait_nowhere}
use Rattle.dat.specs.Asleep.{asleep_in, MoreAsks, More, AwakenAsks, Awakened, awaken_mem, awaken_stores}

-- i, whose call is a `wait`, goes asleep on its waitr.
pub record WaitAsks (z : Sizes) (s : List ℕ) (i : ℕ) : Type 0 where
  pub owed : ℕ
  pub holds : Holds z s owed
  pub nowhere : Nowhere (sizes_in z) (mem_in z s) i
  pub call : mem_in z s fields.resume_kind i ≡ 4
  pub room : asleep_in (mem_in z s) < 65535

abbrev pub wait_stores : Memory → ℕ → List Write
wait_stores m i = to fields.asleep_count 0 (suc (asleep_in m)) ∷ to fields.state_of i 3 ∷ []

pub record Waited (z : Sizes) (s s' : List ℕ) (i : ℕ) : Type 0 where
  pub did
      : Did z s s' same same (wait_stores (mem_in z s) i) (state_mem (asleep_mem (mem_in z s) (suc (asleep_in (mem_in z s)))) i 3)
      (with_process i (with_on_waitr true (process (machine_in z s) i)) (machine_in z s))

pub wait-more : {z : Sizes} {s : List ℕ} {i : ℕ} → WaitAsks z s i → MoreAsks z s
wait-more a = record { owed = a.owed; holds = a.holds; room = a.room }

pub wait-low : {z : Sizes} {s : List ℕ} {i : ℕ} → WaitAsks z s i → i < z.processes
wait-low {i = i} a = inside (holds-bounds a.holds) fields.pid i a.nowhere.used

pub waited : {z : Sizes} {s s₁ s₂ : List ℕ} {i : ℕ} → WaitAsks z s i → More z s s₁ → PutIn z s₁ s₂ (slot 1 37 1) i 3 → Waited z s s₂ i
unfolding used_by
waited {z} {s} {s₁} {s₂} {i} a o p =
    let m : Memory = mem_in z s in
    let e : mem_in z s₁ ≡ asleep_mem m (suc (asleep_in m)) = o.did.memory in
    let h : Holds z s₁ (suc a.owed) = o.did.holds a.owed a.holds in
    let b : InBounds (sizes_in z) (mem_in z s₁) = holds-bounds h in
    let w : Nowhere (sizes_in z) (mem_in z s₁) i = subst (λ (k : Memory). Nowhere (sizes_in z) k i) (sym e) (asleep-nowhere (suc (asleep_in m)) a.nowhere) in
    let c : mem_in z s₁ fields.resume_kind i ≡ 4 = ap (λ (k : Memory). k fields.resume_kind i) e ∙ a.call in
    let d : Did z s₁ s₂ more same (to fields.state_of i 3 ∷ []) (state_mem (mem_in z s₁) i 3) (with_process i (with_on_waitr true (process (machine_in z s₁) i)) (machine_in z s₁)) =
    did (to fields.state_of i 3 ∷ []) (state_mem (mem_in z s₁) i 3) (with_process i (with_on_waitr true (process (machine_in z s₁) i)) (machine_in z s₁)) h p.bytes
    (record { listed = omega arith; index = wait-low a }, omega arith, tt)
    refl
    (λ n k. keeps_with (others k) (wait-placed b k.placed w c))
    (wait-machine b h.keeps.placed w c)
    (EachInUse.more (before w.used) EachInUse.none)
    in
    record {
      did =
          did_as (did_join o.did d (same_use refl refl refl refl refl refl refl refl refl)) refl (ap (λ (k : Memory). state_mem k i 3) e)
          (ap (λ (x : Machine). with_process i (with_on_waitr true (process x i)) x) o.did.machine);
    }

-- `wake_waitr`: i is readied where it sleeps on its waitr.
pub record OwnAsks (z : Sizes) (s : List ℕ) (i : ℕ) : Type 0 where
  pub owed : ℕ
  pub holds : Holds z s owed
  pub index : i < z.processes

abbrev pub own_stores : Memory → ℕ → List Write
own_stores m i = to fields.state_of i 2 ∷ awaken_stores m i

-- Whether i sleeps on its waitr.
pub record OnWaitr (z : Sizes) (s : List ℕ) (i : ℕ) (t : Bool) : Type 0 where
  pub answer : t ≡ waits_on (mem_in z s) i

pub on-awake : {z : Sizes} {s : List ℕ} {i v : ℕ} → OwnAsks z s i → v ≡ mem_in z s fields.state_of i → (v ≡ 3 → ⊥) → OnWaitr z s i (eqb v 3)
on-awake {z} {s} {i} {v} a e ne = record { answer = ne_eqb v 3 ne ∙ sym (waits-state (mem_in z s) i (λ d. ne (e ∙ d))) }

pub on_call
    : {z : Sizes} {s : List ℕ} {i v k : ℕ}
    → OwnAsks z s i
    → v ≡ mem_in z s fields.state_of i
    → v ≡ 3
    → k ≡ mem_in z s fields.resume_kind i
    → OnWaitr z s i (eqb k 4)
on_call {z} {s} {i} {v} {k} a e d f =
    record { answer = ap (λ (x : ℕ). eqb x 4) f ∙ sym (waits-asleep (mem_in z s) i (sym e ∙ d)) }

-- The answer is whether it slept there; then these are the stores, else there are none. Either is the machine's.
pub record WokeOwn (z : Sizes) (s s' : List ℕ) (i : ℕ) (t : Bool) : Type 0 where
  pub answer : t ≡ waits_on (mem_in z s) i
  pub no : t ≡ false → s' ≡ s
  pub yes : t ≡ true → Did z s s' same same (own_stores (mem_in z s) i) (awaken_mem (state_mem (mem_in z s) i 2) i) (wake_waitr i (machine_in z s)).machine
  pub holds : (n : ℕ) → Holds z s n → Holds z s' n
  pub machine : machine_in z s' ≡ (wake_waitr i (machine_in z s)).machine
  pub asleep : (process (machine_in z s) i).on_waitr ≡ t
  pub touched : Touched z s s'

wakes-no : (m : Machine) (i : ℕ) → (process m i).on_waitr ≡ false → (wake_waitr i m).machine ≡ m
unfolding wake_waitr
wakes-no m i e = rw e

wakes-yes : (m : Machine) (i : ℕ) → (process m i).on_waitr ≡ true → (wake_waitr i m).machine ≡ ready i (with_process i (with_on_waitr false (process m i)) m)
unfolding wake_waitr
wakes-yes m i e = rw e

own-no : {z : Sizes} {s : List ℕ} {i : ℕ} → OwnAsks z s i → waits_on (mem_in z s) i ≡ false → WokeOwn z s s i false
own-no {z} {s} {i} a e =
    let o : (process (machine_in z s) i).on_waitr ≡ false = waitr_of (holds-bounds a.holds) i (a.holds.keeps.placed.free i) ∙ e in
    record {
      answer = sym e;
      no = λ _. refl;
      yes = λ x. absurd (both_ways _ (sym x) refl);
      holds = λ n h. h;
      machine = sym (wakes-no (machine_in z s) i o);
      asleep = o;
      touched = touched_none;
    }

pub own-not : {z : Sizes} {s : List ℕ} {i : ℕ} {t : Bool} → OwnAsks z s i → OnWaitr z s i t → t ≡ false → WokeOwn z s s i false
own-not a o e = own-no a (sym o.answer ∙ e)

-- The store that takes it off.
pub record OwnOff (z : Sizes) (s s₁ : List ℕ) (i : ℕ) : Type 0 where
  pub did
      : Did z s s₁ same more (to fields.state_of i 2 ∷ []) (state_mem (mem_in z s) i 2)
      (with_process i (with_on_waitr false (process (machine_in z s) i)) (machine_in z s))
  pub nowhere : Nowhere (sizes_in z) (mem_in z s₁) i

own-off : {z : Sizes} {s s₁ : List ℕ} {i : ℕ} → OwnAsks z s i → waits_on (mem_in z s) i ≡ true → PutIn z s s₁ (slot 1 37 1) i 2 → OwnOff z s s₁ i
unfolding used_by
own-off {z} {s} {s₁} {i} a e p =
    let b : InBounds (sizes_in z) (mem_in z s) = holds-bounds a.holds in
    let d : Did z s s₁ same more (to fields.state_of i 2 ∷ []) (state_mem (mem_in z s) i 2) (with_process i (with_on_waitr false (process (machine_in z s) i)) (machine_in z s)) =
    did (to fields.state_of i 2 ∷ []) (state_mem (mem_in z s) i 2) (with_process i (with_on_waitr false (process (machine_in z s) i)) (machine_in z s)) a.holds p.bytes
    (record { listed = omega arith; index = a.index }, omega arith, tt)
    refl
    (λ n k. keeps_with (others k) (unwait_placed b k.placed i e))
    (unwait_machine b a.holds.keeps.placed i e)
    (EachInUse.more (before (unwait_nowhere b a.holds.keeps.placed i e).used) EachInUse.none)
    in
    record {
      did = d;
      nowhere = subst (λ (k : Memory). Nowhere (sizes_in z) k i) (sym d.memory) (unwait_nowhere b a.holds.keeps.placed i e);
    }

pub own-awaken
    : {z : Sizes} {s s₁ : List ℕ} {i : ℕ} {t : Bool}
    → OwnAsks z s i
    → OnWaitr z s i t
    → t ≡ true
    → PutIn z s s₁ (slot 1 37 1) i 2
    → AwakenAsks z s₁ i
own-awaken {z} {s} {s₁} {i} {t} a o e p =
    let u : OwnOff z s s₁ i = own-off a (sym o.answer ∙ e) p in
    record { owed = a.owed; holds = u.did.holds a.owed a.holds; nowhere = u.nowhere }

pub own-woken
    : {z : Sizes} {s s₁ s₂ : List ℕ} {i : ℕ} {t : Bool}
    → OwnAsks z s i
    → OnWaitr z s i t
    → t ≡ true
    → PutIn z s s₁ (slot 1 37 1) i 2
    → Awakened z s₁ s₂ i
    → WokeOwn z s s₂ i true
own-woken {z} {s} {s₁} {s₂} {i} {t} a v e p w =
    let x : waits_on (mem_in z s) i ≡ true = sym v.answer ∙ e in
    let u : OwnOff z s s₁ i = own-off a x p in
    let o : (process (machine_in z s) i).on_waitr ≡ true = waitr_of (holds-bounds a.holds) i (a.holds.keeps.placed.free i) ∙ x in
    let y : Did z s s₂ same same (own_stores (mem_in z s) i) (awaken_mem (state_mem (mem_in z s) i 2) i) (wake_waitr i (machine_in z s)).machine =
    did_as (did_join u.did w.did (same_use refl refl refl refl refl refl refl refl refl))
    (ap (λ (k : Memory). to fields.state_of i 2 ∷ awaken_stores k i) u.did.memory)
    (ap (λ (k : Memory). awaken_mem k i) u.did.memory)
    (ap (ready i) u.did.machine ∙ sym (wakes-yes (machine_in z s) i o))
    in
    record {
      answer = sym x;
      no = λ q. absurd (both_ways _ q refl);
      yes = λ _. y;
      holds = y.holds;
      machine = y.machine;
      asleep = o;
      touched = touched-did y (same_use refl refl refl refl refl refl refl refl refl);
    }
