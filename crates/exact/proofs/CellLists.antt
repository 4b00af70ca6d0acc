-- The cells of the living: lists that are apart, since each cell names its owner.
use Rattle.std.specs.Prelude.{if◌then◌else◌, ◌≡◌, refl, Bool, true, false, List, [], map, ℕ, suc, ◌-◌, ◌≤◌, length}
use Rattle.std.proofs.Common.{sym, ap, ◌∙◌, arith}
use Rattle.machine.specs.Basics.{count}
use Rattle.machine.specs.Machine.{Sizes, Process, Exit, free}
use Rattle.machine.specs.Good.{Each}
use Rattle.machine.specs.Exits.{cells_used}
use Rattle.layout.specs.Memory.{Memory}
use Rattle.chain.specs.Lists.{Below, Distinct, all_map}
use Rattle.chain.specs.Links.{Chain}
use Rattle.state.specs.Fields as fields
use Rattle.state.specs.Abs.{is_set, exit_list, exit_at, process_at, machine_of}
use Rattle.state.specs.WellFormed.{Used}
use Rattle.rules.specs.Facts.{sum_below}
use Rattle.lists.specs.Lists.{bit-small}
use Rattle.exact.specs.Sums.{Family, sum_same}
use Rattle.exact.proofs.Sums.{family-most}
use Rattle.exact.specs.Tables.{count_concat, map_back}
use Rattle.exact.specs.Resumes.{set_test, unset_test, test_set}
use Rattle.exact.specs.Parts.{either-at}

-- The cells of record i, none where it is free.
abbrev pub exits_of : Memory → ℕ → List ℕ
exits_of m i = if is_set (m fields.pid i) then exit_list m i else []

pub exits_case : (P : List ℕ → Type 0) (m : Memory) (i : ℕ) → P [] → (Used m i → P (exit_list m i)) → P (exits_of m i)
exits_case P m i n u = go (is_set (m fields.pid i)) refl
  where
    go : (b : Bool) → is_set (m fields.pid i) ≡ b → P (if b then exit_list m i else [])
    go true e = u (test_set (m fields.pid i) e)
    go false e = n

pub exits-used : (m : Memory) (i : ℕ) → Used m i → exits_of m i ≡ exit_list m i
exits-used m i u = rw (set_test (m fields.pid i) u)

-- A cell that stands there is one of somebody who lives.
pub exits_in : (m : Memory) (i c : ℕ) → 1 ≤ count c (exits_of m i) → Used m i × (1 ≤ count c (exit_list m i))
unfolding count
exits_in m i c = exits_case (λ xs. 1 ≤ count c xs → Used m i × (1 ≤ count c (exit_list m i))) m i (λ h. absurd (omega arith)) (λ u h. (u, h))

-- What links and owners make of them.
pub record Owning (z : Sizes) (m : Memory) : Type 0 where
  pub chain : (i : ℕ) → Used m i → Chain z.cells (m fields.cell_next) (m fields.exits i) (exit_list m i)
  pub owned : (i : ℕ) → Used m i → Each (λ c. m fields.owner c ≡ suc i) (exit_list m i)

pub owning_family
    : {z : Sizes} {m : Memory}
    → Owning z m
    → Family z.cells z.processes (exits_of m) (λ c. m fields.owner c - 1) (λ c. is_set (m fields.owner c))
owning_family {z} {m} o =
    record {
      distinct = λ i l. exits_case Distinct m i tt (λ u. (o.chain i u).distinct);
      below = λ i l. exits_case (Below z.cells) m i tt (λ u. (o.chain i u).below);
      passing = λ i l.
          exits_case (Each (λ c. is_set (m fields.owner c) ≡ true)) m i tt
          (λ u. all_map (λ c e. set_test (m fields.owner c) (omega arith)) (exit_list m i) (o.owned i u));
      named = λ i l.
          exits_case (Each (λ c. m fields.owner c - 1 ≡ i)) m i tt (λ u. all_map (λ c e. omega arith) (exit_list m i) (o.owned i u));
    }

-- As many as the records say.
pub exits-counted
    : (z : Sizes) (m : Memory)
    → ((i : ℕ) → Used m i → length (exit_list m i) ≡ m fields.nexits i)
    → sum_below z.processes (λ i. length (exits_of m i)) ≡ sum_below z.processes (λ i. if is_set (m fields.pid i) then m fields.nexits i else 0)
exits-counted z m h =
    sum_same z.processes (λ i. length (exits_of m i)) (λ i. if is_set (m fields.pid i) then m fields.nexits i else 0) (λ i l. each i)
  where
    each : (i : ℕ) → length (exits_of m i) ≡ (if is_set (m fields.pid i) then m fields.nexits i else 0)
    each i = go (is_set (m fields.pid i)) refl
      where
        go : (b : Bool) → is_set (m fields.pid i) ≡ b → length (if b then exit_list m i else []) ≡ (if b then m fields.nexits i else 0)
        go true e = h i (test_set (m fields.pid i) e)
        go false e = refl

-- The machine's cells in use are these.
cells_at : (m : Memory) (i : ℕ) → map (λ (e : Exit). e.cell) (process_at m i).exits ≡ exits_of m i
unfolding free exit_at
cells_at m i =
    either-at (λ (p : Process). map (λ (e : Exit). e.cell) p.exits ≡ exits_of m i) m i
    (λ e. rw (unset_test (m fields.pid i) e))
    (λ u. map_back (exit_at m) (λ (e : Exit). e.cell) (λ c. refl) (exit_list m i) ∙ sym (exits-used m i u))

pub cells_count : (z : Sizes) (m : Memory) (c : ℕ) → count c (cells_used (machine_of z m)) ≡ sum_below z.processes (λ i. count c (exits_of m i))
unfolding cells_used machine_of
cells_count z m c =
    count_concat z.processes (process_at m) (λ (p : Process). map (λ (e : Exit). e.cell) p.exits) c
    ∙ sum_same z.processes (λ i. count c (map (λ (e : Exit). e.cell) (process_at m i).exits)) (λ i. count c (exits_of m i))
    (λ i l. ap (count c) (cells_at m i))

pub cells-once : {z : Sizes} {m : Memory} → Owning z m → (c : ℕ) → count c (cells_used (machine_of z m)) ≤ 1
cells-once {z} {m} o c = omega (arith, cells_count z m c, family-most (owning_family o) c, bit-small (is_set (m fields.owner c)))
