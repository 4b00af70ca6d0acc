-- One firing of a machine: the head of the queue, which is due.
use Rattle.std.specs.Prelude.{◌≡◌, refl, Bool, true, false, List, [], ◌∷◌, ℕ, ◌+◌, ◌≤◌, ◌<◌, eqb}
use Rattle.std.proofs.Common.{sym, ap, subst, ◌∙◌, arith, eqb-true, eq-eqb}
use Rattle.std.proofs.Math.Option.{none}
use Rattle.std.proofs.lemmas.Bool.{eqb-false}
use Rattle.lists.specs.Lists.{bit}
use Rattle.machine.specs.Basics.{count}
use Rattle.machine.specs.Machine.{Machine, Process, Queued, process, pid_of, free}
use Rattle.machine.specs.Update.{with_queued}
use Rattle.machine.specs.Timers.{callback, readd, own_timer, Firing, fire, firings_owed}
use Rattle.machine.proofs.TimersLaws.{fire-owed}
use Rattle.machine.specs.Good.{Good, IsTsleep}
use Rattle.kept.specs.Fine.{Fine, Clockwork, Tsleeping, fine, good}
use Rattle.kept.specs.FineLaws.{fine-queued}
use Rattle.kept.specs.ClockLaws.{clock-tail, own-tail}
use Rattle.kept.proofs.Firings.{fine-fire}

-- The head of M's queue was due at a reading, and M' is M after it fired.
pub record OneFired (M M' : Machine) (reading : ℕ) : Type 0 where
  pub head : Queued
  pub rest : List Queued
  pub queue : M.queued ≡ head ∷ rest
  pub due : head.deadline ≤ reading
  pub machine : M' ≡ readd head (callback head.timer (with_queued rest M)).machine

-- Taking the head off leaves a well-formed machine.
pub rest-good : (M : Machine) (x : Queued) (rest : List Queued) → Good M → M.queued ≡ x ∷ rest → Good (with_queued rest M)
rest-good M x rest g e =
    let f : Fine none [] M = fine M g in
    let c : Clockwork M.sizes M.settings (x ∷ rest) M.ticks M.last_now =
    subst (λ (y : List Queued). Clockwork M.sizes M.settings y M.ticks M.last_now) e f.clockwork
    in
    let t : Tsleeping M.sizes M.processes (x ∷ rest) = subst (λ (y : List Queued). Tsleeping M.sizes M.processes y) e f.tsleeping in
    good (with_queued rest M) (fine-queued M f rest (clock-tail c) (own-tail M.sizes M.processes x rest t))

-- Whoever is in a `tsleep` lives.
tsleep-lives : (M : Machine) (i : ℕ) → Good M → IsTsleep (process M i).resume → 0 < pid_of M i
unfolding free
tsleep-lives M i g t = go (eqb (pid_of M i) 0) refl
  where
    go : (b : Bool) → eqb (pid_of M i) 0 ≡ b → 0 < pid_of M i
    go true e = absurd (subst (λ (p : Process). IsTsleep p.resume) (g.in_range.freed i (eqb-true (pid_of M i) 0 e)) t)
    go false e = omega (arith, eqb-false (pid_of M i) 0 e)

-- So the process lives whose own timer is at the head.
pub head-lives
    : (M : Machine) (x : Queued) (rest : List Queued) (i : ℕ)
    → Good M
    → M.queued ≡ x ∷ rest
    → M.sizes.timers + i ≡ x.timer
    → 0 < pid_of (with_queued rest M) i
unfolding pid_of process with_queued own_timer count
head-lives M x rest i g e q =
    tsleep-lives M i g (g.tsleeping i (rw e (omega (arith, ap bit (eq-eqb (M.sizes.timers + i) x.timer q)))))

-- Nothing has fired yet at machine M.
abbrev begun : Machine → Firing
begun M = record { machine = M; count = 0; ticks = 0; readied = [] }

-- A firing keeps the machine well formed, and the last reading.
pub one-good : (M M' : Machine) (reading : ℕ) → Good M → M.last_now ≡ reading → OneFired M M' reading → (Good M') × (M'.last_now ≡ reading)
unfolding fire
one-good M M' reading g l o =
    let f : Firing = begun M in
    let k : (Fine none [] (fire o.head o.rest f).machine) × ((fire o.head o.rest f).machine.last_now ≡ reading) =
    fine-fire o.head o.rest reading f (fine M g) l o.queue o.due
    in
    (subst Good (sym o.machine) (good (fire o.head o.rest f).machine k.0), ap (λ (y : Machine). y.last_now) o.machine ∙ k.1)

-- It leaves fewer to come.
pub one_less : (M M' : Machine) (reading : ℕ) → OneFired M M' reading → firings_owed reading M'.queued < firings_owed reading M.queued
unfolding fire
one_less M M' reading o =
    let l : firings_owed reading (fire o.head o.rest (begun M)).machine.queued < firings_owed reading (o.head ∷ o.rest) =
    fire-owed reading o.head o.rest (begun M) o.due
    in
    subst (λ (q : List Queued). firings_owed reading M'.queued < firings_owed reading q) (sym o.queue)
    (subst (λ (y : Machine). firings_owed reading y.queued < firings_owed reading (o.head ∷ o.rest)) (sym o.machine) l)
