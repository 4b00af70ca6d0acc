-- The highest free number, and the machine's free record.
use Rattle.std.specs.Prelude.{if◌then◌else◌, ◌≡◌, refl, Bool, true, false, not, ◌&&◌, ℕ, zero, suc, ◌-◌, ◌<◌, eqb, ltb, get_or}
use Rattle.std.proofs.Common.{sym, arith, eqb-true, ltb-true, lt-ltb}
use Rattle.std.proofs.Math.Option.{Option, some}
use Rattle.std.proofs.lemmas.Bool.{not-true, not-false}
use Rattle.lists.specs.Lists.{highest-some}
use Rattle.machine.specs.Basics.{highest_below}
use Rattle.machine.specs.Machine.{Sizes, free, process, living}
use Rattle.machine.specs.Exits.{free_record}
use Rattle.layout.specs.Memory.{Memory}
use Rattle.state.specs.Fields as fields
use Rattle.state.specs.Abs.{link_to, is_set, table, process_at, machine_of}
use Rattle.state.specs.Tables.{table-length, table-get}
use Rattle.free.specs.Words.{used}

-- The highest number below n at which g is 0.
abbrev pub highest_free : ℕ → (ℕ → ℕ) → Option ℕ
highest_free n g = highest_below n (λ i. eqb (g i) 0)

-- It is below n, and g is 0 there.
pub highest_free_lem : (n : ℕ) (g : ℕ → ℕ) (i : ℕ) → some i ≡ highest_free n g → (i < n) × (g i ≡ 0)
highest_free_lem n g i e = let h = highest-some n (λ j. eqb (g j) 0) i (sym e) in (h.0, eqb-true (g i) 0 h.1)

-- One number more.
highest-step : (n : ℕ) (test : ℕ → Bool) → highest_below (suc n) test ≡ (if test n then some n else highest_below n test)
unfolding highest_below
highest-step n test = go (test n)
  where
    go : (t : Bool) → elim t [ true ↦ some n | false ↦ highest_below n test ] ≡ (if t then some n else highest_below n test)
    go true = refl
    go false = refl

-- Two tests that agree below n.
pub highest-same : (n : ℕ) (test test' : ℕ → Bool) → ((i : ℕ) → i < n → test i ≡ test' i) → highest_below n test ≡ highest_below n test'
unfolding highest_below
highest-same zero test test' h = refl
highest-same (suc n) test test' h =
    rw (highest-step n test, highest-step n test', h n (omega arith), highest-same n test test' (λ i l. h i (omega arith)))

-- The highest number that passes is n − 1 − k where those above it fail.
pub highest-at
    : (n k : ℕ) (test : ℕ → Bool)
    → ((j : ℕ) → j < k → (j < n) × (test (n - 1 - j) ≡ false))
    → (k < n → test (n - 1 - k) ≡ true)
    → link_to (n - k) ≡ highest_below n test
unfolding highest_below
highest-at zero k test below here = let e : 0 - k ≡ 0 = omega arith in rw e
highest-at (suc n) zero test below here =
    let e : suc n - 1 - 0 ≡ n = omega arith in
    let t : test n ≡ true = rw e at (here (omega arith)) in
    let d : suc n - 0 ≡ suc n = omega arith in
    rw (d, highest-step n test, t)
highest-at (suc n) (suc k) test below here =
    let e : suc n - 1 - 0 ≡ n = omega arith in
    let t : test n ≡ false = rw e at (below 0 (omega arith)).1 in
    let d : suc n - suc k ≡ n - k = omega arith in
    rw (d, highest-step n test, t) (highest-at n k test under (λ l. rw (shift k) at (here (omega arith))))
  where
    shift : (j : ℕ) → suc n - 1 - suc j ≡ n - 1 - j
    shift j = omega arith

    under : (j : ℕ) → j < k → (j < n) × (test (n - 1 - j) ≡ false)
    under j l = let b = below (suc j) (omega arith) in (omega (arith, b.0), rw (shift j) at b.1)

-- In the words' terms: number n − 1 − k is the highest free one where those before k are in use, and k is not.
pub used_in_lem : (n : ℕ) (g : ℕ → ℕ) (k : ℕ) → used n g k ≡ true → (k < n) × (is_set (g (n - 1 - k)) ≡ true)
used_in_lem n g k e = go (ltb k n) refl e
  where
    go : (t : Bool) → ltb k n ≡ t → (t && is_set (g (n - 1 - k))) ≡ true → (k < n) × (is_set (g (n - 1 - k)) ≡ true)
    go true d e = (ltb-true k n d, e)
    go false d e = let x : ◌≡◌ {A = ℕ} 0 1 = cc in absurd (omega arith)

pub highest-used
    : (n : ℕ) (g : ℕ → ℕ) (k : ℕ)
    → ((j : ℕ) → j < k → used n g j ≡ true)
    → (k < n → used n g k ≡ false)
    → link_to (n - k) ≡ highest_free n g
highest-used n g k below here =
    highest-at n k (λ i. eqb (g i) 0)
    (λ j l. let b = used_in_lem n g j (below j l) in (b.0, not-true (eqb (g (n - 1 - j)) 0) b.1))
    (λ l. not-false (eqb (g (n - 1 - k)) 0) (rw (lt-ltb k n l) at (here l)))

-- The machine's free record.
record_free : (m : Memory) (i : ℕ) → not (not (eqb (process_at m i).pid 0)) ≡ eqb (m fields.pid i) 0
unfolding process_at free
record_free m i = go (eqb (m fields.pid i) 0) refl
  where
    go : (t : Bool) → eqb (m fields.pid i) 0 ≡ t → not (not (eqb (process_at m i).pid 0)) ≡ t
    go true e = rw e
    go false e = rw e (rw e)

pub free_record_lem : (z : Sizes) (m : Memory) → free_record (machine_of z m) ≡ highest_free z.processes (m fields.pid)
unfolding free_record machine_of process living
free_record_lem z m =
    rw (table-length z.processes (process_at m))
    (highest-same z.processes (λ i. not (not (eqb (get_or (table z.processes (process_at m)) i free).pid 0))) (λ i. eqb (m fields.pid i) 0)
    (λ i l. rw (table-get z.processes (process_at m) i free l) (record_free m i)))
