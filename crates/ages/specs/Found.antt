-- The living process with a pid, in the memory's terms.
use Rattle.std.specs.Prelude.{◌≡◌, refl, Bool, true, false, ℕ, ◌<◌, eqb, length, get_or}
use Rattle.std.proofs.Common.{sym, ap, ◌∙◌, arith, eqb-true}
use Rattle.std.proofs.Math.Option.{Option, none, some}
use Rattle.std.proofs.lemmas.Bool.{eqb-false}
use Rattle.machine.specs.Basics.{first_that}
use Rattle.machine.specs.Machine.{Sizes, Process, free}
use Rattle.machine.specs.Exits.{found}
use Rattle.lists.specs.Lists.{first_some, first-none}
use Rattle.layout.specs.Memory.{Memory}
use Rattle.state.specs.Fields as fields
use Rattle.state.specs.Abs.{table, process_at, machine_of}
use Rattle.state.specs.Tables.{table-get, table-length}
use Rattle.state.specs.WellFormed.{Used, Ages}
use Rattle.exact.specs.Parts.{pid-at}
use Rattle.ages.specs.Kept.{used-below, pids-apart, Later}

-- Record j is that of the living process with the pid p.
pub record Named (m : Memory) (p j : ℕ) : Type 0 where
  pub used : Used m j
  pub pid : m fields.pid j ≡ p

-- What the search tests, and the pid of the process at a number.
abbrev has_pid : ℕ → Process → Bool
has_pid p x = eqb x.pid p

table-pid : (z : Sizes) (m : Memory) (j : ℕ) → j < z.processes → (get_or (table z.processes (process_at m)) j free).pid ≡ m fields.pid j
table-pid z m j l = ap (λ (x : Process). x.pid) (table-get z.processes (process_at m) j free l) ∙ pid-at m j

-- Whoever is found has the pid.
pub found-named : (z : Sizes) (m : Memory) (p j : ℕ) → found p (machine_of z m) ≡ some j → Named m p j
unfolding found machine_of
found-named z m p j e = go (eqb p 0) refl
  where
    go : (b : Bool) → eqb p 0 ≡ b → Named m p j
    go true q = absurd (let y : none ≡ some j = rw (q, found) at e in let x : ◌≡◌ {A = ℕ} 0 1 = cc in omega arith)
    go false q =
        let y : first_that (has_pid p) (table z.processes (process_at m)) ≡ some j = rw (q, found) at e in
        let r : (j < length (table z.processes (process_at m))) × (has_pid p (get_or (table z.processes (process_at m)) j free) ≡ true) =
        first_some (has_pid p) free (table z.processes (process_at m)) j y
        in
        let l : j < z.processes = omega (arith, r.0, table-length z.processes (process_at m)) in
        let d : m fields.pid j ≡ p = sym (table-pid z m j l) ∙ eqb-true (get_or (table z.processes (process_at m)) j free).pid p r.1 in
        record { used = omega (arith, d, eqb-false p 0 q); pid = d }

-- Where none is found, nobody has the pid.
none_named : (z : Sizes) (m : Memory) (p : ℕ) → found p (machine_of z m) ≡ none → (j : ℕ) → j < z.processes → Named m p j → ⊥
unfolding found machine_of
none_named z m p e j l n = go (eqb p 0) refl
  where
    go : (b : Bool) → eqb p 0 ≡ b → ⊥
    go true q = absurd (omega (arith, n.used, n.pid, eqb-true p 0 q))
    go false q =
        let y : first_that (has_pid p) (table z.processes (process_at m)) ≡ none = rw (q, found) at e in
        eqb-false (get_or (table z.processes (process_at m)) j free).pid p
        (first-none (has_pid p) free (table z.processes (process_at m)) y j (omega (arith, l, table-length z.processes (process_at m))))
        (table-pid z m j l ∙ n.pid)

-- Where nobody has the pid, none is found.
pub found_none : (z : Sizes) (m : Memory) (p : ℕ) → ((j : ℕ) → Named m p j → ⊥) → found p (machine_of z m) ≡ none
found_none z m p h = go (found p (machine_of z m)) refl
  where
    go : (o : Option ℕ) → found p (machine_of z m) ≡ o → found p (machine_of z m) ≡ none
    go none e = e
    go (some j) e = absurd (h j (found-named z m p j e))

module _ {z : Sizes} {m : Memory} (a : Ages z m) where
  -- Where links of age are right, whoever has the pid is found, and where none is found nobody has it.
  pub nobody-named : (p : ℕ) → found p (machine_of z m) ≡ none → (j : ℕ) → Named m p j → ⊥
  nobody-named p e j n = none_named z m p e j (used-below a j n.used) n

  pub found_some : (p j : ℕ) → Named m p j → found p (machine_of z m) ≡ some j
  found_some p j n = go (found p (machine_of z m)) refl
    where
      go : (o : Option ℕ) → found p (machine_of z m) ≡ o → found p (machine_of z m) ≡ some j
      go none e = absurd (nobody-named p e j n)
      go (some k) e =
          let f : Named m p k = found-named z m p k e in
          e ∙ ap some (pids-apart a k j f.used (f.pid ∙ sym n.pid))

-- Who is found stays so when a process with another pid goes.
pub found-gone
    : {z : Sizes} {m m' m'' : Memory} {i : ℕ}
    → Ages z m''
    → Later m m' m'' i
    → m'' fields.pid i ≡ 0
    → (p : ℕ)
    → (m fields.pid i ≡ p → ⊥)
    → found p (machine_of z m'') ≡ found p (machine_of z m)
found-gone {z} {m} {m'} {m''} {i} a l gone p ne = go (found p (machine_of z m)) refl
  where
    here : (j : ℕ) → Named m'' p j → Named m p j
    here j n =
        let w : m'' fields.pid j ≡ m fields.pid j = l.pid j (λ e. absurd (omega (arith, n.used, gone, ap (m'' fields.pid) e))) in
        record { used = omega (arith, n.used, w); pid = sym w ∙ n.pid }

    go : (o : Option ℕ) → found p (machine_of z m) ≡ o → found p (machine_of z m'') ≡ found p (machine_of z m)
    go none e = found_none z m'' p (λ j n. none_named z m p e j (used-below a j n.used) (here j n)) ∙ sym e
    go (some j) e =
        let f : Named m p j = found-named z m p j e in
        let w : m'' fields.pid j ≡ m fields.pid j = l.pid j (λ d. ne (ap (m fields.pid) d ∙ f.pid)) in
        found_some a p j (record { used = omega (arith, f.used, w); pid = w ∙ f.pid }) ∙ sym e
