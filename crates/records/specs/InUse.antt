-- What the stores to records go to: the machine uses it.
use Rattle.std.specs.Prelude.{if◌then◌else◌, ◌≡◌, refl, Bool, true, false, List, [], ◌∷◌, ℕ, suc, ◌+◌, ◌-◌, ◌*◌, ◌/◌, ◌^◌, ◌≤◌, ◌<◌, eqb, length}
use Rattle.std.proofs.Common.{ap, subst, ◌∙◌, arith, eqb-true, eq-eqb, ne_eqb, lit<}
use Rattle.std.proofs.lemmas.Bool.{eqb-false}
use Rattle.machine.specs.Basics.{elem}
use Rattle.memory.specs.Link.{link}
use Rattle.layout.specs.Memory.{Memory, alter}
use Rattle.layout.specs.Writes.{to}
use Rattle.chain.specs.Links.{alter-same, alter-other}
use Rattle.state.specs.Fields as fields
use Rattle.state.specs.Places.{sizes_in}
use Rattle.state.specs.WellFormed.{Used, Ages, is_full}
use Rattle.state.specs.declared.Sizes.{Sizes}
use Rattle.record.specs.declared.Proc.{Proc}
use Rattle.record.specs.Stores.{id_stores, tie_stores, count_stores, resume_stores, name_stores, record_stores}
use Rattle.holds.specs.Use.{from_to, kin_use, used_by, EachInUse, more, before, after, in_use-runs, Calm, Smaller}
use Rattle.holds.specs.Leftover.{cleared, leftover, Ceased, in_range_lem, none, ◌and◌, from_at, Alive, ceased_by, ceased_grown}
use Rattle.holds.specs.Fewer.{shrunk_alter, smaller_by}
use Rattle.free.specs.Record.{word_of, bit_of}
use Rattle.free.specs.UseRecord.{record_writes, use_record_writes, drop_record_writes}
use Rattle.places.specs.Nowhere.{Nowhere}
use Rattle.ages.specs.InUse.{in_in_use, out_in_use, younger_out, older_out}
use Rattle.records.specs.New.{new_record, HasKin, orphan, child, Newcomer}
use Rattle.records.specs.Occupy.{taken_mem, occupy_stores, occupy_mem}
use Rattle.records.specs.Release.{release_stores, release_mem}

-- The words of the records always.
words_in_use : {z : Sizes} {m m' : Memory} (w v : ℕ) (t : Bool) (u : ℕ) → EachInUse z m m' (record_writes w v t u)
unfolding used_by
words_in_use w v true u = more (before (lit< tt)) (more (before (lit< tt)) EachInUse.none)
words_in_use w v false u = more (before (lit< tt)) EachInUse.none

mark-in_use : {z : Sizes} {m' : Memory} (n : ℕ) (m : Memory) (i : ℕ) → EachInUse z m m' (use_record_writes n m i)
mark-in_use n m i = words_in_use _ _ (is_full (m fields.used_records (word_of n i) + 2 ^ bit_of n i)) _

unmark_in_use : {z : Sizes} {m' : Memory} (n : ℕ) (m : Memory) (i : ℕ) → EachInUse z m m' (drop_record_writes n m i)
unmark_in_use n m i = words_in_use _ _ (is_full (m fields.used_records (word_of n i))) _

-- The bytes of a name from number j of it on, k being where that is, of i who lives after.
pub name-in_use
    : {z : Sizes} {m m' : Memory} (i k j : ℕ) (bs : List ℕ) → 0 < m' fields.pid i → k ≡ 28 * i + j → j + length bs ≤ 28 → EachInUse z m m' (name_stores k bs)
unfolding used_by name_stores
name-in_use i k j [] u e l = EachInUse.none
name-in_use i k j (b ∷ bs) u e l =
    let q : k / 28 ≡ i = omega arith in
    more {w = to fields.name_byte k b} (after (rw q u)) (name-in_use i (suc k) (suc j) bs u (omega arith) (omega arith))

-- A whole record, of i who lives after.
module _ {z : Sizes} {m m' : Memory} (i : ℕ) (p : Proc) (u : 0 < m' fields.pid i) (k : 0 < kin_use (m' fields.pid) (m' fields.parent) (m' fields.parent_at) i) where
  ids_in_use : EachInUse z m m' (id_stores i p)
  unfolding used_by
  ids_in_use = more (after u) (more (after u) (more (after u) EachInUse.none))

  ties_in_use : EachInUse z m m' (tie_stores i p)
  unfolding used_by
  ties_in_use = more (after u) (more (after u) (more (after u) (more (after k) EachInUse.none)))

  counts-in_use : EachInUse z m m' (count_stores i p)
  unfolding used_by
  counts-in_use = more (after u) (more (after u) (more (after u) (more (after u) EachInUse.none)))

  calls-in_use : EachInUse z m m' (resume_stores i p.resume)
  unfolding used_by
  calls-in_use = more (after u) (more (after u) (more (after u) EachInUse.none))

  record_in_use : length p.text ≡ 28 → EachInUse z m m' (record_stores i p)
  record_in_use w =
      in_use-runs (in_use-runs (in_use-runs (in_use-runs ids_in_use ties_in_use) counts-in_use) calls-in_use)
      (name-in_use i (28 * i) 0 p.text u (omega arith) (omega arith))

-- The link of a new process to its parent, who lives, or to none.
born-kin
    : (g ps ls : ℕ → ℕ) (i v p l : ℕ) → g i ≡ 0 → 0 < v → HasKin g p l → 0 < kin_use (alter g i v) (alter ps i p) (alter ls i l) i
born-kin g ps ls i v p l f h (orphan e n) = rw (alter-same ps i p, e, alter-same g i v) h
born-kin g ps ls i v p l f h (child q e) =
    let d : eqb (alter g i v (l - 1)) p ≡ true =
    eq-eqb (alter g i v (l - 1)) p (alter-other g i v (l - 1) (λ x. omega (arith, q, e, f, ap g x)) ∙ e)
    in
    rw (alter-same ps i p, alter-same ls i l, d, ne_eqb p 0 (λ x. omega (arith, x, q)), alter-same g i v) h

-- A new process in record i.
pub occupy-in_use
    : {z : Sizes} {m : Memory} (n i : ℕ) (p : Proc) (v : ℕ) → Ages (sizes_in z) m → m fields.pid i ≡ 0 → Newcomer m p v → length p.text ≡ 28
    → EachInUse z m (occupy_mem n m i p v) (occupy_stores n m i p v)
occupy-in_use {m = m} n i p v a f c w =
    let h : 0 < v = omega (arith, c.above i) in
    let u : 0 < occupy_mem n m i p v fields.pid i = rw (alter-same (m fields.pid) i v) h in
    in_use-runs (in_use-runs (mark-in_use n m i) (in_in_use i a u)) (record_in_use i (new_record (taken_mem n m i) i p v) u (born-kin (m fields.pid) (m fields.parent) (m fields.parent_at) i v p.parent (link p.parent_at) f h c.kin) w)

pub occupy-alive : (n : ℕ) (m : Memory) (i : ℕ) (p : Proc) (v : ℕ) → 0 < v → Alive m (occupy_mem n m i p v)
occupy-alive n m i p v h = record { alive = λ j u. go j u (eqb i j) }
  where
    go : (j : ℕ) → 0 < m fields.pid j → (b : Bool) → 0 < (if b then v else m fields.pid j)
    go j u true = h
    go j u false = u

-- The record of i, who lived, is freed; nothing more is used then.
pub release-in_use
    : {z : Sizes} {m m' : Memory} (n i : ℕ) → Ages (sizes_in z) m → Used m i → EachInUse z m m' (release_stores n m i)
unfolding used_by
release-in_use {m = m} n i a u =
    in_use-runs (in_use-runs (out_in_use i a u) (unmark_in_use n m i)) (more (before u) (more (before u) EachInUse.none))

release-calm : (n : ℕ) (m : Memory) (i : ℕ) → Calm m (release_mem n m i)
release-calm n m i = record { parents = refl; deadlines = refl; exit_pids = refl; lengths = refl; bytes = refl }

pub release-smaller : {z : Sizes} (n : ℕ) (m : Memory) (i : ℕ) → Smaller z m (release_mem n m i)
release-smaller n m i = smaller_by (shrunk_alter (m fields.pid) i) refl (λ j e. e) (λ j e. e) (release-calm n m i)

-- What it leaves of the record: it was nowhere, and had no exits.
pub release-ceased
    : {z : Sizes} (n : ℕ) (m : Memory) (i : ℕ)
    → Ages (sizes_in z) m
    → Nowhere (sizes_in z) m i
    → m fields.exits i ≡ 0
    → m fields.nexits i ≡ 0
    → Ceased z m (release_mem n m i)
unfolding cleared leftover elem
release-ceased {z} n m i a w x k =
    ceased_by (release-calm n m i) refl (λ f j r u v. go f j r u v (eqb i j) refl) (λ t u v. absurd (omega (arith, u, v))) (λ c u v. absurd (omega (arith, u, v)))
  where
    of_record : (f : ℕ) → from_to fields.pid fields.resume_object f ≡ true → release_mem n m i f i ≡ leftover f (m f i)
    of_record f r =
        let q : (20 ≤ f) × (f ≤ 33) = in_range_lem fields.pid fields.resume_object f r in
        from_at {P = λ f. release_mem n m i f i ≡ leftover f (m f i)}
        (none
        and alter-same (m fields.pid) i 0
        and refl
        and refl
        and w.next
        and older_out a i w.used
        and younger_out a i w.used
        and refl
        and refl
        and x
        and k
        and alter-same (m fields.state_of) i 0
        and refl
        and refl
        and refl)
        f q.0 (omega (arith, q.1))

    go
        : (f j : ℕ)
        → from_to fields.pid fields.resume_object f ≡ true
        → 0 < m fields.pid j
        → release_mem n m i fields.pid j ≡ 0
        → (b : Bool)
        → eqb i j ≡ b
        → release_mem n m i f j ≡ leftover f (m f j)
    go f j r u v true e = subst (λ (y : ℕ). release_mem n m i f y ≡ leftover f (m f y)) (eqb-true i j e) (of_record f r)
    go f j r u v false e = absurd (omega (arith, u, v, alter-other (m fields.pid) i 0 j (eqb-false i j e)))

-- A new process ceases to use nothing.
pub occupy-ceased : {z : Sizes} (n : ℕ) (m : Memory) (i : ℕ) (p : Proc) (v : ℕ) → m fields.pid i ≡ 0 → 0 < v → Ceased z m (occupy_mem n m i p v)
occupy-ceased n m i p v f h =
    ceased_grown (occupy-alive n m i p v h)
    (λ j u. alter-other (m fields.parent_at) i (link p.parent_at) j (λ e. omega (arith, u, f, ap (m fields.pid) e)))
    (λ t u. u) (λ c u. u) (λ c u. refl)
