-- The text that a line prints: the status that an `exit` was given, or the message.
use Rattle.std.specs.Prelude.{if◌then◌else◌, ◌≡◌, refl, Bool, true, false, not, List, [], ◌∷◌, ℕ, eqb, ltb, Result, Ok, Err}
use Rattle.std.proofs.Common.{true≢false}
use Rattle.std.proofs.Math.Option.{Option, none, some}
use Rattle.machine.specs.Basics.{is_empty}
use Rattle.machine.specs.Flags.{has, RFPROC, RFNOWAIT}
use Rattle.machine.specs.Machine.{Machine, Resume, nothing, in_sleep, in_tsleep, in_qlock, in_wait, condition, lock, asleep_on, asleep, process}
use Rattle.machine.specs.Step.{Step, Body, start, rfork, name, sched, yield, sleep, tsleep, wakeup, qlock, canqlock, qunlock, cond, clock, tadd, tdel, intr, due, exit, wait}
use Rattle.machine.specs.Outcome as machine
use Rattle.machine.specs.Outcome.{Answer, answer, refused, Outcome, open_outcome}
use Rattle.machine.specs.Perform.{perform, runs, checks_again, tsleep_checks, wait_checks, resumes, sched_of, current, open_perform}
use Rattle.machine.specs.Timers.{own_timer, is_queued}
use Rattle.machine.specs.StepOf.{step_of, outcome_of, refusing}
use Rattle.machine.specs.Table.{refusal}
use Rattle.outcome.specs.declared.Reply.{Reply}
use Rattle.outcome.specs.declared.Refusal.{Refusal}
use Rattle.outcome.specs.declared.Reply.TheVariants.{Pid, Run, RunChild, Done, Asleep, Yes, No, Fired, Exit, Child, Idle, End}
use Rattle.outcome.specs.Means.{means, told}
use Rattle.proc.specs.Silent.{tells, is_child, silent}

-- Whether a body is an `exit`, and whether a reply tells of one.
unfoldable pub exits : Body → Bool
exits (start M) = false
exits (rfork F M) = false
exits (name BYTES) = false
exits sched = false
exits yield = false
exits (sleep R C) = false
exits (tsleep R C S N NOW) = false
exits (wakeup R) = false
exits (qlock Q) = false
exits (canqlock Q) = false
exits (qunlock Q) = false
exits (cond C v) = false
exits (clock NOW) = false
exits (tadd T KIND S N R NOW) = false
exits (tdel T) = false
exits (intr NOW) = false
exits due = false
exits (exit BYTES) = true
exits wait = false

abbrev pub tells_exit : machine.Reply → Bool
tells_exit (answer (Answer.pid n)) = false
tells_exit (answer (Answer.run n)) = false
tells_exit (answer (Answer.run_child n c m)) = false
tells_exit (answer Answer.done) = false
tells_exit (answer Answer.asleep) = false
tells_exit (answer (Answer.yes_no b)) = false
tells_exit (answer (Answer.fired f k)) = false
tells_exit (answer (Answer.exit n st)) = true
tells_exit (answer (Answer.child n m)) = false
tells_exit (answer Answer.idle) = false
tells_exit (answer Answer.end) = false
tells_exit (refused n) = false

-- Neither of two outcomes tells of one.
neither : (b : Bool) (x y : Outcome) → tells_exit x.reply ≡ false → tells_exit y.reply ≡ false → tells_exit (if b then x else y).reply ≡ false
neither true x y p q = p
neither false x y p q = q

checks : (b : Bool) (i r : ℕ) (m : Machine) → tells_exit (checks_again b i r m).reply ≡ false
unfolding open_perform open_outcome
checks true i r m = refl
checks false i r m = refl

tchecks : (b : Bool) (i r : ℕ) (m : Machine) → tells_exit (tsleep_checks b i r m).reply ≡ false
unfolding open_perform open_outcome
tchecks true i r m = refl
tchecks false i r m = refl

goes_on : (u : Resume) (i : ℕ) (m : Machine) → tells_exit (resumes u i m).reply ≡ false
unfolding resumes runs wait_checks open_outcome
goes_on nothing i m = refl
goes_on (in_sleep r c) i m = checks (condition m c) i r m
goes_on (in_tsleep r c) i m = tchecks (if is_queued (own_timer i m) m then condition m c else true) i r m
goes_on (in_qlock q) i m = refl
goes_on in_wait i m = neither (is_empty (process m i).exits) _ _ refl refl

end-idle : (b : Bool) → tells_exit (answer (if b then Answer.end else Answer.idle)) ≡ false
end-idle true = refl
end-idle false = refl

sched-tells : (m : Machine) (xs : List ℕ) → m.run ≡ xs → tells_exit (sched_of m).reply ≡ false
unfolding sched_of open_outcome asleep asleep_on process
sched-tells m [] e = rw e (end-idle (eqb (asleep m) 0))
sched-tells m (i ∷ rest) e = rw e (goes_on (process m i).resume i _)

done-tells : (b : Body) (m : Machine) → exits b ≡ false → tells_exit (perform b m).reply ≡ false
unfolding exits open_perform open_outcome
done-tells (start M) m e = refl
done-tells (rfork F M) m e = neither (not (has F RFPROC)) _ _ refl (neither (has F RFNOWAIT) _ _ refl refl)
done-tells (name BYTES) m e = refl
done-tells sched m e = sched-tells m m.run refl
done-tells yield m e = refl
done-tells (sleep R C) m e = neither (condition m C) _ _ refl refl
done-tells (tsleep R C S N NOW) m e = neither (condition m C) _ _ refl refl
done-tells (wakeup R) m e = refl
done-tells (qlock Q) m e = neither (lock m Q).held _ _ refl refl
done-tells (canqlock Q) m e = neither (lock m Q).held _ _ refl refl
done-tells (qunlock Q) m e = refl
done-tells (cond C v) m e = refl
done-tells (clock NOW) m e = refl
done-tells (tadd T KIND S N R NOW) m e = refl
done-tells (tdel T) m e = refl
done-tells (intr NOW) m e = refl
done-tells due m e = refl
done-tells (exit BYTES) m e = absurd (true≢false e)
done-tells wait m e = neither (is_empty (process m (current m)).exits) _ _ refl refl

-- No other step tells of an exit, done or refused.
pub other-tells : (m : Machine) (x : Step) → exits x.body ≡ false → tells_exit (step_of m x).reply ≡ false
unfolding step_of refusing
other-tells m x e = go (refusal m x) refl
  where
    go : (o : Option ℕ) → refusal m x ≡ o → tells_exit (step_of m x).reply ≡ false
    go none q = rw q (done-tells x.body m e)
    go (some n) q = rw q

-- The same for whatever is handed in.
either : (f : machine.Reply → Bool) (b : Bool) (x y : Outcome) → f x.reply ≡ false → f y.reply ≡ false → f (if b then x else y).reply ≡ false
either f true x y p q = p
either f false x y p q = q

pub given-tells : (m : Machine) (x : Step) (k : ℕ) → exits x.body ≡ false → tells_exit (outcome_of m (some x) k).reply ≡ false
unfolding outcome_of refusing
given-tells m x k e = either tells_exit (ltb k 127) _ _ refl (other-tells m x e)

pub given-silent : (m : Machine) (x : Step) (k : ℕ) → tells x.body ≡ false → is_child (outcome_of m (some x) k).reply ≡ false
unfolding outcome_of refusing
given-silent m x k e = either is_child (ltb k 127) _ _ refl (silent m x e)

-- A reply that tells no message means the same with another buffer, and one that tells of no exit with another status.
pub other-buffer : (r : Result Reply Refusal) (m m' st : List ℕ) → is_child (means r m st) ≡ false → means r m' st ≡ means r m st
unfolding means
other-buffer (Ok (Pid n)) m m' st e = refl
other-buffer (Ok (Run n)) m m' st e = refl
other-buffer (Ok (RunChild n c l)) m m' st e = absurd (true≢false e)
other-buffer (Ok Done) m m' st e = refl
other-buffer (Ok Asleep) m m' st e = refl
other-buffer (Ok Yes) m m' st e = refl
other-buffer (Ok No) m m' st e = refl
other-buffer (Ok (Fired f k)) m m' st e = refl
other-buffer (Ok (Exit n)) m m' st e = refl
other-buffer (Ok (Child n l)) m m' st e = absurd (true≢false e)
other-buffer (Ok Idle) m m' st e = refl
other-buffer (Ok End) m m' st e = refl
other-buffer (Err n) m m' st e = refl

pub other_status : (r : Result Reply Refusal) (m st st' : List ℕ) → tells_exit (means r m st) ≡ false → means r m st' ≡ means r m st
unfolding means
other_status (Ok (Pid n)) m st st' e = refl
other_status (Ok (Run n)) m st st' e = refl
other_status (Ok (RunChild n c l)) m st st' e = refl
other_status (Ok Done) m st st' e = refl
other_status (Ok Asleep) m st st' e = refl
other_status (Ok Yes) m st st' e = refl
other_status (Ok No) m st st' e = refl
other_status (Ok (Fired f k)) m st st' e = refl
other_status (Ok (Exit n)) m st st' e = absurd (true≢false e)
other_status (Ok (Child n l)) m st st' e = refl
other_status (Ok Idle) m st st' e = refl
other_status (Ok End) m st st' e = refl
other_status (Err n) m st st' e = refl

-- A reply that tells no message has none.
pub silent-told : (r : machine.Reply) → is_child r ≡ false → told r ≡ []
unfolding told
silent-told (answer (Answer.pid n)) e = refl
silent-told (answer (Answer.run n)) e = refl
silent-told (answer (Answer.run_child n c m)) e = absurd (true≢false e)
silent-told (answer Answer.done) e = refl
silent-told (answer Answer.asleep) e = refl
silent-told (answer (Answer.yes_no b)) e = refl
silent-told (answer (Answer.fired f k)) e = refl
silent-told (answer (Answer.exit n st)) e = refl
silent-told (answer (Answer.child n m)) e = absurd (true≢false e)
silent-told (answer Answer.idle) e = refl
silent-told (answer Answer.end) e = refl
silent-told (refused n) e = refl
