-- The parts of the machine that a memory holds, by their numbers: in range and past it.
use Rattle.std.specs.Prelude.{◌≡◌, Bool, ℕ, zero, suc, ◌+◌, ◌*◌, ◌≤◌, ◌<◌, eqb, [], map}
use Rattle.std.proofs.Math.Path.{refl, sym, ap}
use Rattle.std.proofs.Common.{subst, ◌∙◌, arith, eqb-true, eq-eqb, ne_eqb, ltb-true, ltb-false}
use Rattle.std.proofs.Math.Bool.{true, false}
use Rattle.std.proofs.lemmas.Bool.{eqb-false}
use Rattle.std.proofs.Math.Option.{none}
use Rattle.std.proofs.Math.Dec.{ltb}
use Rattle.std.proofs.Math.ListN.{get_or}
use Rattle.machine.specs.Machine.{Sizes, Resume, Process, Lock, free, process, sleeper, lock, setting, pid_of, living}
use Rattle.layout.specs.Memory.{Memory}
use Rattle.chain.specs.Links.{walk}
use Rattle.state.specs.Fields as fields
use Rattle.state.specs.Abs.{table, link_to, is_set, resume_of, waiter_list, exit_list, waits_on, exit_at, process_at, machine_of}
use Rattle.state.specs.WellFormed.{Used}
use Rattle.exact.specs.Bounds.{InBounds}
use Rattle.state.specs.Tables.{table-get, table-past}

pub walk_none : (n : ℕ) (g : ℕ → ℕ) (h : ℕ) → h ≡ 0 → walk n g h ≡ []
unfolding walk
walk_none zero g h e = refl
walk_none (suc n) g h e = rw e

abbrev pub resume_at : Memory → ℕ → Resume
resume_at m i = resume_of (m fields.resume_kind i) (m fields.resume_object i) (m fields.resume_condition i)

-- A record in use.
abbrev pub used_at : Memory → ℕ → Process
used_at m i =
    record {
      pid = m fields.pid i;
      name = table 28 (λ j. m fields.name_byte (28 * i + j));
      parent = m fields.parent i;
      nchild = m fields.nchild i;
      exits = map (exit_at m) (exit_list m i);
      quantum_end = m fields.quantum_end i;
      resume = resume_at m i;
      on_waitr = waits_on m i;
    }

pub free-at : (m : Memory) (i : ℕ) → m fields.pid i ≡ 0 → process_at m i ≡ free
unfolding process_at
free-at m i e = rw (eq-eqb (m fields.pid i) 0 e)

pub used_at_lem : (m : Memory) (i : ℕ) → Used m i → process_at m i ≡ used_at m i
unfolding process_at
used_at_lem m i u = rw (ne_eqb (m fields.pid i) 0 (λ e. omega arith))

-- A record is free or in use.
pub either-at : (P : Process → Type 0) (m : Memory) (i : ℕ) → (m fields.pid i ≡ 0 → P free) → (Used m i → P (used_at m i)) → P (process_at m i)
either-at P m i f u = go (eqb (m fields.pid i) 0) refl
  where
    go : (b : Bool) → eqb (m fields.pid i) 0 ≡ b → P (process_at m i)
    go true e = let d : m fields.pid i ≡ 0 = eqb-true (m fields.pid i) 0 e in subst P (sym (free-at m i d)) (f d)
    go false e = let d : 0 < m fields.pid i = omega (arith, eqb-false (m fields.pid i) 0 e) in subst P (sym (used_at_lem m i d)) (u d)

pub pid-at : (m : Memory) (i : ℕ) → (process_at m i).pid ≡ m fields.pid i
unfolding free
pid-at m i = either-at (λ (p : Process). p.pid ≡ m fields.pid i) m i (λ e. sym e) (λ u. refl)

module _ {z : Sizes} {m : Memory} (b : InBounds z m) where
  pub process_of : (i : ℕ) → process (machine_of z m) i ≡ process_at m i
  unfolding process machine_of
  process_of i = go (ltb i z.processes) refl
    where
      go : (c : Bool) → ltb i z.processes ≡ c → get_or (table z.processes (process_at m)) i free ≡ process_at m i
      go true e = table-get z.processes (process_at m) i free (ltb-true i z.processes e)
      go false e =
          let l : z.processes ≤ i = ltb-false i z.processes e in
          table-past z.processes (process_at m) i free l ∙ sym (free-at m i (b.past fields.pid i l))

  pub pid_of_lem : (i : ℕ) → pid_of (machine_of z m) i ≡ m fields.pid i
  unfolding pid_of
  pid_of_lem i = ap (λ (p : Process). p.pid) (process_of i) ∙ pid-at m i

  -- the record of whoever lives
  pub used_of : (i : ℕ) → Used m i → process (machine_of z m) i ≡ used_at m i
  used_of i u = process_of i ∙ used_at_lem m i u

  pub resume_of_lem : (i : ℕ) → Used m i → (process (machine_of z m) i).resume ≡ resume_at m i
  resume_of_lem i u = ap (λ (p : Process). p.resume) (used_of i u)

  pub sleeper_of_lem : (r : ℕ) → sleeper (machine_of z m) r ≡ link_to (m fields.sleeper_of r)
  unfolding sleeper machine_of
  sleeper_of_lem r = go (ltb r z.rendez) refl
    where
      go : (c : Bool) → ltb r z.rendez ≡ c → get_or (table z.rendez (λ r. link_to (m fields.sleeper_of r))) r none ≡ link_to (m fields.sleeper_of r)
      go true e = table-get z.rendez (λ r. link_to (m fields.sleeper_of r)) r none (ltb-true r z.rendez e)
      go false e =
          let l : z.rendez ≤ r = ltb-false r z.rendez e in
          table-past z.rendez (λ r. link_to (m fields.sleeper_of r)) r none l ∙ sym (ap link_to (b.past fields.sleeper_of r l))

  abbrev pub lock_at : ℕ → Lock
  lock_at q = record { held = is_set (m fields.held q); waiters = waiter_list z m q }

  pub lock_of : (q : ℕ) → lock (machine_of z m) q ≡ lock_at q
  unfolding lock machine_of waiter_list
  lock_of q = go (ltb q z.locks) refl
    where
      go : (c : Bool) → ltb q z.locks ≡ c → get_or (table z.locks lock_at) q (record { held = false; waiters = [] }) ≡ lock_at q
      go true e = table-get z.locks lock_at q (record { held = false; waiters = [] }) (ltb-true q z.locks e)
      go false e =
          let l : z.locks ≤ q = ltb-false q z.locks e in
          let h : m fields.held q ≡ 0 = b.past fields.held q l in
          let w : walk z.processes (m fields.next) (m fields.lock_head q) ≡ [] = walk_none z.processes (m fields.next) (m fields.lock_head q) (b.past fields.lock_head q l) in
          table-past z.locks lock_at q (record { held = false; waiters = [] }) l ∙ (λ j. record { held = is_set (sym h j); waiters = sym w j })

  pub setting_of_lem : (t : ℕ) → t < z.timers → setting (machine_of z m) t ≡ record { period = m fields.period t; rendez = m fields.timer_rendez t }
  unfolding setting machine_of
  setting_of_lem t l = table-get z.timers (λ t. record { period = m fields.period t; rendez = m fields.timer_rendez t }) t (record { period = 0; rendez = 0 }) l

  -- a sleeper, a waiter and who runs are by these the records'
  pub waitr_of : (i : ℕ) → (m fields.pid i ≡ 0 → m fields.state_of i ≡ 0) → (process (machine_of z m) i).on_waitr ≡ waits_on m i
  unfolding waits_on free
  waitr_of i f = ap (λ (p : Process). p.on_waitr) (process_of i) ∙ either-at (λ (p : Process). p.on_waitr ≡ waits_on m i) m i (λ e. rw (f e)) (λ u. refl)

  pub living_of : (i : ℕ) → living (process (machine_of z m) i) ≡ is_set (m fields.pid i)
  unfolding living pid_of
  living_of i = ap (λ (x : ℕ). is_set x) (pid_of_lem i)
