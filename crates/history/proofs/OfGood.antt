-- Every well-formed machine is sound; so a step from a well-formed machine keeps these four clauses of `Good`.
use Rattle.std.specs.Prelude.{◌≡◌, refl, Bool, true, false, List, [], ◌∷◌, ℕ, zero, suc, ◌<◌, ltb, length, get_or}
use Rattle.std.proofs.Common.{sym, subst, arith, ltb-true, ltb-false}
use Rattle.std.proofs.Math.Option.{some}
use Rattle.std.proofs.Math.ListN.{get_or-eq_default}
use Rattle.machine.specs.Machine.{Machine, Process, Sizes, Resume, nothing, in_sleep, in_tsleep, in_qlock, in_wait, free, process, open_machine}
use Rattle.machine.specs.Step.{Step}
use Rattle.machine.specs.StepOf.{step_of, outcome_of}
use Rattle.machine.specs.Good.{Good, Each, ProcessInRange, ResumeInRange}
use Rattle.history.proofs.Sound.{CallFits, Sound}
use Rattle.history.proofs.Kept.{sound-gives}

each_at : {A : Type 0} (P : A → Type 0) (l : List A) (i : ℕ) (d : A) → i < length l → Each P l → P (get_or l i d)
each_at P [] i d h e = absurd (omega arith)
each_at P (x ∷ xs) zero d h e = e.0
each_at P (x ∷ xs) (suc i) d h e = each_at P xs i d (omega arith) e.1

fits : (z : Sizes) (call : Resume) → ResumeInRange z call → CallFits z.rendez z.locks call
fits z nothing h = tt
fits z (in_sleep r c) h = h.0
fits z (in_tsleep r c) h = h.0
fits z (in_qlock q) h = h
fits z in_wait h = tt

calls_fit_lem : (m : Machine) → Good m → (i : ℕ) → CallFits m.sizes.rendez m.sizes.locks (process m i).resume
unfolding open_machine
calls_fit_lem m g i = go (ltb i (length m.processes)) refl
  where
    go : (b : Bool) → ltb i (length m.processes) ≡ b → CallFits m.sizes.rendez m.sizes.locks (get_or m.processes i free).resume
    go true e = fits m.sizes (get_or m.processes i free).resume (each_at (ProcessInRange m.sizes) m.processes i free (ltb-true i (length m.processes) e) g.in_range.each).resume
    go false e = subst (λ (p : Process). CallFits m.sizes.rendez m.sizes.locks p.resume) (sym (get_or-eq_default m.processes free {n = i} (ltb-false i (length m.processes) e))) tt

pub good-sound : (m : Machine) → Good m → Sound m
good-sound m g =
    record {
      rendez = g.in_range.rendez;
      locks = g.in_range.locks;
      calls = λ i. subst (λ (k : ℕ). CallFits k (length m.locks) (process m i).resume) (sym g.in_range.rendez) (subst (λ (k : ℕ). CallFits m.sizes.rendez k (process m i).resume) (sym g.in_range.locks) (calls_fit_lem m g i));
      next_pid = g.in_range.next_pid.0;
      in_one_place = g.in_one_place;
      apart = g.apart;
      below = g.below;
      quantum = g.quantum;
    }

-- `in_one_place`, `apart`, `below` and `quantum` of the machine after a step.
pub step-sound : (m : Machine) → Good m → (s : Step) → Sound (step_of m s).after
unfolding outcome_of
step-sound m g s = sound-gives m (good-sound m g) (record { step = some s; buffer = 127 })
