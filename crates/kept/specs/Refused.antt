-- What a refusal leaves, and the causes that never refuse.
use Rattle.std.specs.Prelude.{if◌then◌else◌, ◌≡◌, refl, Bool, true, false, not, ◌&&◌, List, [], ◌∷◌, ◌⊎◌, ℕ, suc, eqb}
use Rattle.std.proofs.Common.{ap, ◌∙◌, subst, inl, inr, eqb-true}
use Rattle.std.proofs.Math.Option.{Option, none, some}
use Rattle.machine.specs.Basics.{is_empty}
use Rattle.machine.specs.Machine.{Resume, nothing, in_sleep, in_tsleep, in_qlock, in_wait, Machine, process, lock, condition}
use Rattle.machine.specs.Update.{with_next_pid}
use Rattle.machine.specs.Step.{Step, Body, start, rfork, name, sched, yield, sleep, tsleep, wakeup, qlock, canqlock, qunlock, cond, clock, tadd, tdel, intr, due, exit, wait, open_step}
use Rattle.machine.specs.Outcome.{Outcome, Reply, answer, refused, open_outcome}
use Rattle.machine.specs.Table.{refusal, on, open_table}
use Rattle.machine.specs.Perform.{perform, resumes, sched_of, checks_again, tsleep_checks, current, open_perform}
use Rattle.machine.specs.Timers.{is_queued, own_timer}
use Rattle.machine.specs.Flags.{has, RFPROC, RFNOWAIT}
use Rattle.machine.specs.StepOf.{left_by, refusing, step_of}
use Rattle.kept.specs.Allowed.{and_left, and_right, step}
use Rattle.kept.specs.Kept.{copy_fails}

-- A reply that is an answer, and no refusal.
abbrev IsAnswer : Reply → Type 0
IsAnswer (answer a) = Unit {0}
IsAnswer (refused n) = ⊥

-- an outcome with an answer
abbrev Answers : Outcome → Type 0
Answers o = IsAnswer o.reply

-- Two outcomes that answer, whichever a test chooses.
answers_if : (b : Bool) (x y : Outcome) → Answers x → Answers y → Answers (if b then x else y)
answers_if true x y a c = a
answers_if false x y a c = c

-- Whether a sleeper runs or sleeps again, there is an answer.
answers-check : (b : Bool) (i r : ℕ) (m : Machine) → Answers (checks_again b i r m)
unfolding open_perform open_outcome
answers-check true i r m = tt
answers-check false i r m = tt

-- And so for a `tsleep`.
answers-tsleep : (b : Bool) (i r : ℕ) (m : Machine) → Answers (tsleep_checks b i r m)
unfolding open_perform open_outcome
answers-tsleep true i r m = tt
answers-tsleep false i r m = tt

-- Wherever a process goes on.
answers-resumes : (call : Resume) (i : ℕ) (m : Machine) → Answers (resumes call i m)
unfolding open_perform open_outcome
answers-resumes nothing i m = tt
answers-resumes (in_sleep r c) i m = answers-check (condition m c) i r m
answers-resumes (in_tsleep r c) i m = answers-tsleep (if is_queued (own_timer i m) m then condition m c else true) i r m
answers-resumes (in_qlock q) i m = tt
answers-resumes in_wait i m = answers_if (is_empty (process m i).exits) _ _ tt tt

-- Whoever is dispatched, or nobody.
answers-sched : (m : Machine) → Answers (sched_of m)
unfolding sched_of open_outcome
answers-sched m = go m.run refl
  where
    go : (run : List ℕ) → m.run ≡ run → Answers (sched_of m)
    go [] e = rw (e, sched_of) tt
    go (i ∷ rest) e = rw (e, sched_of) (answers-resumes (process m i).resume i _)

-- What is not refused by the table is answered.
answers : (b : Body) (m : Machine) → Answers (perform b m)
unfolding open_perform open_outcome
answers (start M) m = tt
answers (rfork F M) m = answers_if (not (has F RFPROC)) _ _ tt (answers_if (has F RFNOWAIT) _ _ tt tt)
answers (name BYTES) m = tt
answers sched m = answers-sched m
answers yield m = tt
answers (sleep R C) m = answers_if (condition m C) _ _ tt tt
answers (tsleep R C S N NOW) m = answers_if (condition m C) _ _ tt tt
answers (wakeup R) m = tt
answers (qlock Q) m = answers_if (lock m Q).held _ _ tt tt
answers (canqlock Q) m = answers_if (lock m Q).held _ _ tt tt
answers (qunlock Q) m = tt
answers (cond C v) m = tt
answers (clock NOW) m = tt
answers (tadd T KIND S N R NOW) m = tt
answers (tdel T) m = tt
answers (intr NOW) m = tt
answers due m = tt
answers (exit BYTES) m = tt
answers wait m = answers_if (is_empty (process m (current m)).exits) _ _ tt tt

-- A step that is refused with n is one where the table says n. (`Total.antt` has the other direction.)
pub refused_by_lem : (m : Machine) (s : Step) (n : ℕ) → (step_of m s).reply ≡ refused n → refusal m s ≡ some n
unfolding step_of refusing
refused_by_lem m s n e = go (refusal m s) refl
  where
    go : (o : Option ℕ) → refusal m s ≡ o → refusal m s ≡ some n
    go none h = absurd (subst IsAnswer (rw (h, step_of) at e) (answers s.body m))
    go (some k) h =
        let y : refused k ≡ refused n = rw (h, step_of) at e in
        let z : k ≡ n = cc in
        h ∙ ap {B = Option ℕ} some z

-- The machine that a refusal leaves: the machine before, or for 11 on an rfork with M = 3 that with the next pid one higher.
pub refused-after : (m : Machine) (s : Step) (n : ℕ) → (step_of m s).reply ≡ refused n → (step_of m s).after ≡ left_by n s.body m
unfolding step_of refusing
refused-after m s n e = rw (refused_by_lem m s n e, step_of)

-- A refusal leaves the machine as it was, but for 11 on an rfork with M = 3: there the next pid is one higher.
pub refused-leaves : (m : Machine) (s : Step) (n : ℕ)
    → (step_of m s).reply ≡ refused n
    → ((step_of m s).after ≡ m) ⊎ ((n ≡ 11) × ((F : ℕ) × (s.body ≡ rfork F 3)) × ((step_of m s).after ≡ with_next_pid (suc m.next_pid) m))
unfolding left_by
refused-leaves m s n e = go (eqb n 11 && on 2 "rfork" (λ F M. eqb M 3) s.body) refl
  where
    b : Bool
    b = on 2 "rfork" (λ F M. eqb M 3) s.body

    go : (c : Bool) → eqb n 11 && b ≡ c → ((step_of m s).after ≡ m) ⊎ ((n ≡ 11) × ((F : ℕ) × (s.body ≡ rfork F 3)) × ((step_of m s).after ≡ with_next_pid (suc m.next_pid) m))
    go false h = inl (refused-after m s n e ∙ rw h)
    go true h = inr (eqb-true n 11 (and_left (eqb n 11) b h), copy_fails s.body (and_right (eqb n 11) b h), refused-after m s n e ∙ rw h)

-- It is that one, where such an rfork is refused with 11.
pub refused-raises : (m : Machine) (k : Bool) (F : ℕ) → (step_of m (step k (rfork F 3))).reply ≡ refused 11 → (step_of m (step k (rfork F 3))).after ≡ with_next_pid (suc m.next_pid) m
unfolding left_by open_table open_step
refused-raises m k F e = refused-after m (step k (rfork F 3)) 11 e
