-- The machine without a process, and with its parent told.
use Rattle.std.specs.Prelude.{◌≡◌, refl, Bool, true, false, ◌&&◌, List, [], ◌∷◌, ℕ, zero, suc, ◌-◌, ◌≤◌, ◌<◌, eqb, length, get_or, set}
use Rattle.std.proofs.Common.{ap, ◌∙◌, arith, eq-eqb, ne_eqb, get_or-set_same, get_or-set_other, set-set}
use Rattle.std.proofs.Math.Option
use Rattle.std.proofs.Math.Option.{Option, none, some}
use Rattle.lists.specs.Lists.{bit, count_that-get}
use Rattle.machine.specs.Basics.{first_that}
use Rattle.machine.specs.Machine.{Machine, Process, Exit, free, process, pid_of, living}
use Rattle.machine.specs.Update.{with_up, with_process, with_nchild, with_exits}
use Rattle.machine.specs.Message.{message}
use Rattle.machine.specs.Good.{Lives, children}
use Rattle.machine.specs.Exits.{found, free_cell, without, has_room, wake_waitr, tell_parent}

-- The first that passes is the same where one that is stored passes as the one that stood there.
first-set : {A : Type 0} (test : A → Bool) (xs : List A) (i : ℕ) (v d : A) → test v ≡ test (get_or xs i d) → first_that test (set xs i v) ≡ first_that test xs
unfolding first_that
first-set test [] i v d e = refl
first-set test (x ∷ xs) zero v d e = rw e
first-set test (x ∷ xs) (suc i) v d e = go (test x) refl (first-set test xs i v d e)
  where
    go : (b : Bool) → test x ≡ b → first_that test (set xs i v) ≡ first_that test xs → first_that test (x ∷ set xs i v) ≡ first_that test (x ∷ xs)
    go true t rec = rw (t, first_that)
    go false t rec = rw (t, first_that) (rw rec)

-- Exits taken and then the record freed: the record is freed.
pub gone : (m : Machine) (i : ℕ) (p : Process) → with_process i free (with_up none (with_process i p m)) ≡ without i m
unfolding with_process with_up without
gone m i p =
    ap (λ (ps : List Process). record { sizes = m.sizes; next_pid = m.next_pid; ticks = m.ticks; last_now = m.last_now; up = none; run = m.run; processes = ps; sleepers = m.sleepers; locks = m.locks; settings = m.settings; queued = m.queued; conditions = m.conditions })
    (set-set m.processes i p free)

-- Whoever is found by a pid does not depend on exits, or on who runs.
pub found-still : (m : Machine) (i q : ℕ) → found q (with_up none (with_process i (with_exits [] (process m i)) m)) ≡ found q m
unfolding found with_process with_up with_exits process
found-still m i q = rw (first-set (λ (p : Process). eqb p.pid q) m.processes i (with_exits [] (process m i)) free refl)

-- `tell_parent` where no parent lives.
pub told-nobody : (m : Machine) (child : Process) (status : List ℕ) → found child.parent m ≡ none → (tell_parent child status m).machine ≡ m
unfolding tell_parent
told-nobody m child status e = rw (e, tell_parent)

-- Another process's record is as it was.
pub others : (m : Machine) (i j : ℕ) → (j ≡ i → ⊥) → process (without i m) j ≡ process m j
unfolding without with_up with_process process
others m i j ne = get_or-set_other m.processes i j free free ne

-- A living process is one of the children of its parent.
pub counted : (m : Machine) (i : ℕ) → i < length m.processes → Lives m i → 1 ≤ children m (process m i).parent
unfolding children process pid_of living
counted m i l u =
    let p : Process = get_or m.processes i free in
    let t : (living p && eqb p.parent p.parent) ≡ true = rw (ne_eqb p.pid 0 (λ e. omega (arith, e, u)), eq-eqb p.parent p.parent refl) in
    omega (arith, ap bit t, count_that-get (λ (x : Process). living x && eqb x.parent p.parent) m.processes i free l)

-- The exit of a child, in the cell found for it.
abbrev pub new_exit : Option ℕ → ℕ → List ℕ → List ℕ → Exit
new_exit cell pid name status = record { cell = Option.get_or cell 0; pid = pid; message = message name pid status }

-- The machine with that of one more child at j.
abbrev pub with_exit : Machine → ℕ → ℕ → List ℕ → List ℕ → Machine
with_exit m j pid name status =
    with_process j (with_exits (new_exit (free_cell m) pid name status ∷ (process m j).exits) (process m j)) m

-- The parent with one child less, and with one exit more.
abbrev pub fewer : Machine → ℕ → Process
fewer m j = with_nchild ((process m j).nchild - 1) (process m j)

abbrev pub queued : Machine → ℕ → ℕ → List ℕ → List ℕ → Process
queued m j pid name status = with_exits (new_exit (free_cell m) pid name status ∷ (process m j).exits) (fewer m j)

-- `tell_parent` where the parent has room, and where it has none.
pub told-room
    : (m : Machine) (child : Process) (status : List ℕ) (j : ℕ)
    → found child.parent m ≡ some j
    → has_room (process m j) ≡ true
    → (tell_parent child status m).machine ≡ (wake_waitr j (with_process j (queued m j child.pid child.name status) m)).machine
unfolding tell_parent has_room with_nchild
told-room m child status j e b = rw (e, tell_parent, b)

pub told-full
    : (m : Machine) (child : Process) (status : List ℕ) (j : ℕ)
    → found child.parent m ≡ some j
    → has_room (process m j) ≡ false
    → (tell_parent child status m).machine ≡ with_process j (fewer m j) m
unfolding tell_parent has_room with_nchild
told-full m child status j e b = rw (e, tell_parent, b)

-- An exit queued at a process whose record is p already.
pub queue-again
    : (m x : Machine) (j : ℕ) (p : Process) (e : Exit)
    → x ≡ with_process j p m
    → j < length m.processes
    → with_process j (with_exits (e ∷ (process x j).exits) (process x j)) x ≡ with_process j (with_exits (e ∷ p.exits) p) m
unfolding with_process process
queue-again m x j p e d l =
    ap (λ (y : Machine). with_process j (with_exits (e ∷ (process y j).exits) (process y j)) y) d
    ∙ ap (λ (ps : List Process). record { sizes = m.sizes; next_pid = m.next_pid; ticks = m.ticks; last_now = m.last_now; up = m.up; run = m.run; processes = ps; sleepers = m.sleepers; locks = m.locks; settings = m.settings; queued = m.queued; conditions = m.conditions })
    (set-set m.processes j p (with_exits (e ∷ (get_or (set m.processes j p) j free).exits) (get_or (set m.processes j p) j free))
    ∙ ap (λ (q : Process). set m.processes j (with_exits (e ∷ q.exits) q)) (get_or-set_same m.processes j p free l))
