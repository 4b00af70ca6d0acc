-- In which of the five places each record is: as its state and call say. From this follow the places of `Good`, and who is asleep.
use Rattle.std.specs.Prelude.{◌≡◌, Bool, true, false, eqb, List, ◌++◌, ℕ, ◌+◌, ◌≤◌, ◌<◌}
use Rattle.std.proofs.Math.Path.{refl, ap}
use Rattle.std.proofs.Common.{sym, ◌∙◌, arith, eqb-true}
use Rattle.std.proofs.lemmas.Bool.{eqb-false}
use Rattle.std.proofs.Math.Option.{Option}
use Rattle.machine.specs.Basics.{count, concat_map, present, numbers_from}
use Rattle.machine.specs.Machine.{Sizes, Process, Lock, free, process, asleep_on, asleep}
use Rattle.machine.specs.Good.{running_in, places, InOnePlace}
use Rattle.layout.specs.Memory.{Memory}
use Rattle.state.specs.Fields as fields
use Rattle.state.specs.Abs.{table, link_to, is_set, run_list, waiter_list, waits_on, process_at, machine_of}
use Rattle.state.specs.WellFormed.{Used}
use Rattle.rules.specs.Facts.{count_below, sum_below, is_ready, is_asleep, is_queueing}
use Rattle.exact.specs.Sums.{bit-true, met_all}
use Rattle.exact.specs.Tables.{count_concat}
use Rattle.exact.specs.Bounds.{InBounds, inside, at_most}
use Rattle.exact.specs.Resumes.{in_sleeps, five, five-all, asleep-three, set_test, unset_test, test_set}
use Rattle.exact.specs.Parts.{waitr_of, living_of}
use Rattle.lists.specs.Lists.{bit, count-append, count-each, present_concat, count-numbers}

-- How often record i is found on a Rendez, and in a lock's queue.
abbrev pub on_rendez : Sizes → Memory → ℕ → ℕ
on_rendez z m i = sum_below z.rendez (λ r. count i (running_in (link_to (m fields.sleeper_of r))))

abbrev pub in_locks : Sizes → Memory → ℕ → ℕ
in_locks z m i = sum_below z.locks (λ q. count i (waiter_list z m q))

-- A record's state is 0 exactly where it is free.
pub record Tags (m : Memory) : Type 0 where
  pub free : (i : ℕ) → m fields.pid i ≡ 0 → m fields.state_of i ≡ 0
  pub used : (i : ℕ) → Used m i → 0 < m fields.state_of i

pub record Spots (z : Sizes) (m : Memory) : Type 0 where
  pub tags : Tags m
  pub running : (i : ℕ) → count i (running_in (link_to (m fields.up 0))) ≡ bit (eqb (m fields.state_of i) 1)
  pub ready : (i : ℕ) → count i (run_list z m) ≡ bit (is_ready m i)
  pub sleeping : (i : ℕ) → on_rendez z m i ≡ bit (in_sleeps (m fields.state_of i) (m fields.resume_kind i))
  pub queueing : (i : ℕ) → in_locks z m i ≡ bit (is_queueing m i)
  pub call : (i : ℕ) → m fields.state_of i ≡ 3 → m fields.resume_kind i ≡ 0 → ⊥

-- Whoever has a state lives.
pub tags-used : {m : Memory} → Tags m → (i : ℕ) → 0 < m fields.state_of i → Used m i
tags-used {m} t i h = go (eqb (m fields.pid i) 0) refl
  where
    go : (b : Bool) → eqb (m fields.pid i) 0 ≡ b → Used m i
    go true e = absurd (omega (arith, t.free i (eqb-true (m fields.pid i) 0 e)))
    go false e = omega (arith, eqb-false (m fields.pid i) 0 e)

pub tags-set : {m : Memory} → Tags m → (i : ℕ) → bit (is_set (m fields.pid i)) ≡ bit (is_set (m fields.state_of i))
tags-set {m} t i = go (is_set (m fields.state_of i)) refl
  where
    go : (b : Bool) → is_set (m fields.state_of i) ≡ b → bit (is_set (m fields.pid i)) ≡ bit b
    go true e = ap bit (set_test (m fields.pid i) (tags-used t i (test_set (m fields.state_of i) e)))
    go false e = go₂ (eqb (m fields.pid i) 0) refl
      where
        go₂ : (c : Bool) → eqb (m fields.pid i) 0 ≡ c → bit (is_set (m fields.pid i)) ≡ 0
        go₂ true q = ap bit (unset_test (m fields.pid i) (eqb-true (m fields.pid i) 0 q))
        go₂ false q =
            let u : 0 < m fields.pid i = omega (arith, eqb-false (m fields.pid i) 0 q) in
            absurd (omega (arith, ap bit (sym e ∙ set_test (m fields.state_of i) (t.used i u))))

module _ {z : Sizes} {m : Memory} (b : InBounds z m) (t : Tags m) where
  waitr-count : (i : ℕ) → count i (numbers_from 0 (λ (p : Process). p.on_waitr) (table z.processes (process_at m))) ≡ bit (waits_on m i)
  unfolding process machine_of free
  waitr-count i =
      count-numbers (λ (p : Process). p.on_waitr) free refl (table z.processes (process_at m)) i ∙ ap bit (waitr_of b i (t.free i))

  -- How often a record is asleep, and in any place.
  pub asleep_count_lem : (i : ℕ) → count i (asleep_on (machine_of z m)) ≡ on_rendez z m i + (bit (waits_on m i) + in_locks z m i)
  unfolding asleep_on machine_of
  asleep_count_lem i =
      let sleepers : List (Option ℕ) = table z.rendez (λ r. link_to (m fields.sleeper_of r)) in
      let waitr : List ℕ = numbers_from 0 (λ (p : Process). p.on_waitr) (table z.processes (process_at m)) in
      let locks : List Lock = table z.locks (λ q. record { held = is_set (m fields.held q); waiters = waiter_list z m q }) in
      let queues : List ℕ = concat_map (λ (l : Lock). l.waiters) locks in
      let p : count i (present sleepers) ≡ on_rendez z m i =
      ap (count i) (present_concat sleepers) ∙ count_concat z.rendez (λ r. link_to (m fields.sleeper_of r)) running_in i
      in
      let q : count i queues ≡ in_locks z m i =
      count_concat z.locks (λ q. record { held = is_set (m fields.held q); waiters = waiter_list z m q }) (λ (l : Lock). l.waiters) i
      in
      count-append i (present sleepers ++ waitr) queues ∙ omega (arith, count-append i (present sleepers) waitr, waitr-count i)

  pub place-count
      : (i : ℕ)
      → count i (places (machine_of z m))
      ≡ count i (running_in (link_to (m fields.up 0))) + (count i (run_list z m) + (on_rendez z m i + (bit (waits_on m i) + in_locks z m i)))
  unfolding places machine_of
  place-count i =
      count-append i (running_in (link_to (m fields.up 0)) ++ run_list z m) (asleep_on (machine_of z m))
      ∙ omega (arith, count-append i (running_in (link_to (m fields.up 0))) (run_list z m), asleep_count_lem i)

module _ {z : Sizes} {m : Memory} (b : InBounds z m) (s : Spots z m) where
  spots-five : (i : ℕ) → five (m fields.state_of i) (m fields.resume_kind i) ≡ bit (is_set (m fields.state_of i))
  spots-five i = five-all (m fields.state_of i) (m fields.resume_kind i) (at_most b fields.state_of i) (at_most b fields.resume_kind i) (s.call i)

  -- Each living process is in one place, and nobody else in any.
  pub spots-places : InOnePlace (machine_of z m)
  unfolding waits_on
  spots-places i =
      place-count b s.tags i
      ∙ omega (arith, s.running i, s.ready i, s.sleeping i, s.queueing i, spots-five i, tags-set s.tags i, ap bit (living_of b i))

  -- Who is asleep is who has state 3.
  pub spots-asleep_at : (i : ℕ) → count i (asleep_on (machine_of z m)) ≡ bit (is_asleep m i)
  unfolding waits_on
  spots-asleep_at i =
      asleep_count_lem b s.tags i
      ∙ omega (
        arith,
        s.sleeping i,
        s.queueing i,
        asleep-three (m fields.state_of i) (m fields.resume_kind i) (at_most b fields.state_of i) (spots-five i),
      )

  pub spots-asleep : asleep (machine_of z m) ≡ count_below z.processes (is_asleep m)
  unfolding asleep
  spots-asleep =
      met_all z.processes (asleep_on (machine_of z m)) (is_asleep m)
      (count-each (λ i. i < z.processes) (asleep_on (machine_of z m)) below)
      (λ i l. spots-asleep_at i)
    where
      below : (i : ℕ) → 1 ≤ count i (asleep_on (machine_of z m)) → i < z.processes
      below i h =
          let e : m fields.state_of i ≡ 3 = eqb-true (m fields.state_of i) 3 (bit-true (is_asleep m i) (omega (arith, spots-asleep_at i))) in
          inside b fields.state_of i (omega arith)
