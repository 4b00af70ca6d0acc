-- What a well-formed machine tells of its places, and what a step that is not refused tells.
use Rattle.std.specs.Prelude.{if◌then◌else◌, ◌≡◌, refl, Bool, true, false, not, List, [], ◌∷◌, ◌++◌, ℕ, suc, ◌+◌, ◌≤◌, ◌<◌, eqb, ltb, length}
use Rattle.std.proofs.Common.{sym, ap, ◌∙◌, arith, eqb-true, ltb-true, ltb-false, eq-eqb}
use Rattle.std.proofs.Math.Option.{some}
use Rattle.std.proofs.lemmas.Bool.{eqb-false}
use Rattle.std.proofs.Math.ListN.{get_or-eq_default}
use Rattle.machine.specs.Basics.{count}
use Rattle.machine.specs.Machine.{Machine, Process, free, process, pid_of, living, asleep_on, open_machine}
use Rattle.machine.specs.Exits.{free_record}
use Rattle.machine.specs.Good.{InOnePlace, running_in, places}
use Rattle.history.proofs.Lists.{count-here}
use Rattle.lists.specs.Lists.{count-append, highest-some}

-- the places of a record, added up
abbrev pub in_places : Machine → ℕ → ℕ
in_places m i = count i (running_in m.up) + count i m.run + count i (asleep_on m)

pub in_places_lem : (m : Machine) (i : ℕ) → count i (places m) ≡ in_places m i
unfolding places
in_places_lem m i = count-append i (running_in m.up ++ m.run) (asleep_on m) ∙ ap (λ (k : ℕ). k + count i (asleep_on m)) (count-append i (running_in m.up) m.run)

living_cases : (m : Machine) (i : ℕ) → InOnePlace m → (b : Bool) → eqb (pid_of m i) 0 ≡ b → in_places m i ≡ (if not b then 1 else 0)
unfolding open_machine
living_cases m i h b e = sym (in_places_lem m i) ∙ h i ∙ ap (λ (c : Bool). if not c then 1 else 0) e

pub places-at_most : (m : Machine) (i : ℕ) → InOnePlace m → in_places m i ≤ 1
places-at_most m i h = go (eqb (pid_of m i) 0) refl
  where
    go : (b : Bool) → eqb (pid_of m i) 0 ≡ b → in_places m i ≤ 1
    go true e = let z : in_places m i ≡ 0 = living_cases m i h true e in omega arith
    go false e = let z : in_places m i ≡ 1 = living_cases m i h false e in omega arith

-- whoever is in a place lives, and a free record is in none
pub lives_of : (m : Machine) (i : ℕ) → InOnePlace m → 1 ≤ in_places m i → 0 < pid_of m i
lives_of m i h l = go (eqb (pid_of m i) 0) refl
  where
    go : (b : Bool) → eqb (pid_of m i) 0 ≡ b → 0 < pid_of m i
    go true e = absurd (let z : in_places m i ≡ 0 = living_cases m i h true e in omega arith)
    go false e = omega (arith, eqb-false (pid_of m i) 0 e)

pub none_of : (m : Machine) (i : ℕ) → InOnePlace m → pid_of m i ≡ 0 → in_places m i ≡ 0
none_of m i h e = living_cases m i h true (eq-eqb (pid_of m i) 0 e)

pub once_of : (m : Machine) (i : ℕ) → InOnePlace m → 0 < pid_of m i → in_places m i ≡ 1
once_of m i h l = go (eqb (pid_of m i) 0) refl
  where
    go : (b : Bool) → eqb (pid_of m i) 0 ≡ b → in_places m i ≡ 1
    go true e = absurd (let z : pid_of m i ≡ 0 = eqb-true (pid_of m i) 0 e in omega arith)
    go false e = living_cases m i h false e

pub up-count : (m : Machine) (i : ℕ) → m.up ≡ some i → count i (running_in m.up) ≡ 1
unfolding running_in count
up-count m i e = rw e (count-here i [])

pub head-count : (m : Machine) (i : ℕ) (rest : List ℕ) → m.run ≡ i ∷ rest → count i m.run ≡ suc (count i rest)
head-count m i rest e = ap (count i) e ∙ count-here i rest

-- whoever lives has a record
pub has_record : (m : Machine) (i : ℕ) → 0 < pid_of m i → i < length m.processes
unfolding open_machine
has_record m i l = go (ltb i (length m.processes)) refl
  where
    go : (b : Bool) → ltb i (length m.processes) ≡ b → i < length m.processes
    go true e = ltb-true i (length m.processes) e
    go false e =
        absurd
        (let z : pid_of m i ≡ 0 = ap (λ (p : Process). p.pid) (get_or-eq_default m.processes free {n = i} (ltb-false i (length m.processes) e)) in
        omega arith)

-- the highest free record is free, and there
pub free_record_lem : (m : Machine) (i : ℕ) → free_record m ≡ some i → (i < length m.processes) × (pid_of m i ≡ 0)
unfolding free_record open_machine
free_record_lem m i e =
    let h = highest-some (length m.processes) (λ k. not (living (process m k))) i e in
    (h.0, go (eqb (pid_of m i) 0) refl h.1)
  where
    go : (b : Bool) → eqb (pid_of m i) 0 ≡ b → not (living (process m i)) ≡ true → pid_of m i ≡ 0
    go true d t = eqb-true (pid_of m i) 0 d
    go false d t = absurd (let z : ◌≡◌ {A = Bool} false true = sym (ap (λ (c : Bool). not (not c)) d) ∙ t in let y : ◌≡◌ {A = ℕ} 0 1 = cc in omega arith)
