-- Each case of what the step bytes ask.
use denote.Ref.{Bor}
use Rattle.std.specs.Prelude.{◌≡◌, Bool, List, ℕ, ◌≤◌, Option, Some, None, Result, Err}
use Rattle.std.proofs.Math.Path.{refl}
use Rattle.std.proofs.Common.{sym, subst}
use Rattle.std.proofs.Math.Option as math
use Rattle.std.proofs.Math.Option.{some}
use Rattle.std.proofs.Math.ListN.{length}
use Rattle.machine.specs.Bytes.{decode}
use Rattle.machine.specs.Step.{Step, start, rfork, name, sleep, wakeup, qlock, canqlock, qunlock, cond, clock, tdel, intr, due}
use Rattle.state.specs.declared.Sizes.{Sizes}
use Rattle.decode.specs.declared.TsleepFields.{TsleepFields}
use Rattle.decode.specs.declared.TaddFields.{TaddFields}
use Rattle.decode.specs.declared.Call.{Call}
use Rattle.decode.specs.declared.Call.TheVariants.{Start, Rfork, Name, Sched, Yield, Sleep, Tsleep, Wakeup, Qlock, Canqlock, Qunlock, Cond, Clock, Tadd, Tdel, Intr, Due, Exit, Wait}
use Rattle.decode.specs.declared.Decoded.{Decoded}
use Rattle.decode.specs.Means.{tsleep_of, tadd_of, body_of, step_of}
use Rattle.decode.specs.Decodes.{Decodes, is-step, is_none}
use Rattle.outcome.specs.declared.Reply.{Reply}
use Rattle.outcome.specs.declared.Refusal.{Refusal}
use Rattle.outcome.specs.declared.Refusal.TheVariants.{NoSuchStep}
use Rattle.outcome.specs.Stepped.{Well}
use Rattle.outcome.specs.Took.{Took}
use Rattle.outcome.specs.Refusals.{step}
use Rattle.proc_exit.specs.Exit.{Exited}
use Rattle.proc_sched.specs.Sched.{SchedTook}
use Rattle.proc_sleep.specs.Yield.{Yielded}
use Rattle.proc_wait.specs.Wait.{WaitTook}
use Rattle.proc.specs.Plain.{Plain, took-plain}
use Rattle.proc.specs.Silent.{tells}
use Rattle.proc.specs.Taken.{Taken, taken-step, taken-plain, taken_none}

-- A state that is well formed, with a message buffer that is long enough.
pub record CallAsks (z : Sizes) (s m : List ℕ) : Type 0 where
  pub well : Well z s
  pub room : 127 ≤ length m

-- It is taken as the step that it stands for.
pub record CallTook (z : Sizes) (s s' : List ℕ) (k : Bool) (c : Call) (m m' : List ℕ) (r : Result Reply Refusal) : Type 0 where
  pub taken : Taken z s s' (some (step k (body_of c))) m m' r

-- A call with a known case.
as_step
    : {z : Sizes} {s s' : List ℕ} {k : Bool} {c d : Call} {m m' : List ℕ} {r : Result Reply Refusal}
    → c ≡ d
    → Taken z s s' (some (step k (body_of d))) m m' r
    → CallTook z s s' k c m m' r
as_step {z} {s} {s'} {k} {m = m} {m'} {r} e t =
    record { taken = subst (λ (x : Call). Taken z s s' (some (step k (body_of x))) m m' r) (sym e) t }

module _ {z : Sizes} {s s' : List ℕ} {k : Bool} {c : Call} {m : List ℕ} {r : Result Reply Refusal} (a : CallAsks z s m) where
  pub call-start : {how : ℕ} → c ≡ Start how → Plain z s s' k (start how) r → CallTook z s s' k c m m r
  unfolding body_of tells
  call-start e t = as_step e (taken-plain a.room refl t)

  pub call-rfork : {flags how : ℕ} → c ≡ Rfork flags how → Plain z s s' k (rfork flags how) r → CallTook z s s' k c m m r
  unfolding body_of tells
  call-rfork e t = as_step e (taken-plain a.room refl t)

  pub call-sleep : {R C : ℕ} → c ≡ Sleep R C → Plain z s s' k (sleep R C) r → CallTook z s s' k c m m r
  unfolding body_of tells
  call-sleep e t = as_step e (taken-plain a.room refl t)

  pub call-tsleep : {f : TsleepFields} → c ≡ Tsleep f → Plain z s s' k (tsleep_of f) r → CallTook z s s' k c m m r
  unfolding body_of tells
  call-tsleep e t = as_step e (taken-plain a.room refl t)

  pub call-wakeup : {R : ℕ} → c ≡ Wakeup R → Plain z s s' k (wakeup R) r → CallTook z s s' k c m m r
  unfolding body_of tells
  call-wakeup e t = as_step e (taken-plain a.room refl t)

  pub call-qlock : {q : ℕ} → c ≡ Qlock q → Plain z s s' k (qlock q) r → CallTook z s s' k c m m r
  unfolding body_of tells
  call-qlock e t = as_step e (taken-plain a.room refl t)

  pub call-canqlock : {q : ℕ} → c ≡ Canqlock q → Plain z s s' k (canqlock q) r → CallTook z s s' k c m m r
  unfolding body_of tells
  call-canqlock e t = as_step e (taken-plain a.room refl t)

  pub call-qunlock : {q : ℕ} → c ≡ Qunlock q → Plain z s s' k (qunlock q) r → CallTook z s s' k c m m r
  unfolding body_of tells
  call-qunlock e t = as_step e (taken-plain a.room refl t)

  pub call-cond : {C v : ℕ} → c ≡ Cond C v → Plain z s s' k (cond C v) r → CallTook z s s' k c m m r
  unfolding body_of tells
  call-cond e t = as_step e (taken-plain a.room refl t)

  pub call-tadd : {f : TaddFields} → c ≡ Tadd f → Plain z s s' k (tadd_of f) r → CallTook z s s' k c m m r
  unfolding body_of tells
  call-tadd e t = as_step e (taken-plain a.room refl t)

  pub call-tdel : {i : ℕ} → c ≡ Tdel i → Plain z s s' k (tdel i) r → CallTook z s s' k c m m r
  unfolding body_of tells
  call-tdel e t = as_step e (taken-plain a.room refl t)

  pub call-clock : {NOW : ℕ} → c ≡ Clock NOW → Took z s s' (clock NOW) r → CallTook z s s' k c m m r
  unfolding body_of tells
  call-clock e t = as_step e (taken-plain a.room refl (took-plain t))

  pub call-intr : {NOW : ℕ} → c ≡ Intr NOW → Took z s s' (intr NOW) r → CallTook z s s' k c m m r
  unfolding body_of tells
  call-intr e t = as_step e (taken-plain a.room refl (took-plain t))

  pub call-due : c ≡ Due → Took z s s' due r → CallTook z s s' k c m m r
  unfolding body_of tells
  call-due e t = as_step e (taken-plain a.room refl (took-plain t))

  pub call-yield : c ≡ Yield → Yielded z s s' k r → CallTook z s s' k c m m r
  unfolding body_of tells
  call-yield e t = as_step e (taken-plain a.room refl (record { stepped = t.stepped }))

  pub call-name : {n : Bor (List ℕ)} → c ≡ Name n → Plain z s s' k (name n.now) r → CallTook z s s' k c m m r
  unfolding body_of tells
  call-name e t = as_step e (taken-plain a.room refl t)

  pub call-exit : {n : Bor (List ℕ)} → c ≡ Exit n → Exited z s s' k n.now r → CallTook z s s' k c m m r
  unfolding body_of tells
  call-exit e t = as_step e (taken-plain a.room refl (record { stepped = t.stepped }))

  pub call-sched : {m' : List ℕ} → c ≡ Sched → SchedTook z s s' k m m' r → CallTook z s s' k c m m' r
  unfolding body_of
  call-sched e t = as_step e (taken-step a.room t.stepped t.long t.buffer)

  pub call-wait : {m' : List ℕ} → c ≡ Wait → WaitTook z s s' k m m' r → CallTook z s s' k c m m' r
  unfolding body_of
  call-wait e t = as_step e (taken-step a.room t.stepped t.long t.buffer)

-- No call was read, or one with its mark: what was read is taken as the step that it stands for.
pub call_none
    : {z : Sizes} {s m : List ℕ} {o : Option Decoded} → CallAsks z s m → o ≡ None → Taken z s s (step_of o) m m (Err NoSuchStep)
unfolding step_of
call_none {z} {s} {m} a e = subst (λ (x : Option Decoded). Taken z s s (step_of x) m m (Err NoSuchStep)) (sym e) (taken_none a.well)

pub call_some
    : {z : Sizes} {s s' m m' : List ℕ} {o : Option Decoded} {d : Decoded} {r : Result Reply Refusal}
    → o ≡ Some d
    → CallTook z s s' d.marked d.call m m' r
    → Taken z s s' (step_of o) m m' r
unfolding step_of
call_some {z} {s} {s'} {m} {m'} {r = r} e t = subst (λ (x : Option Decoded). Taken z s s' (step_of x) m m' r) (sym e) t.taken

pub some-call
    : {z : Sizes} {s s' m m' : List ℕ} {o : Option Decoded} {d : Decoded} {r : Result Reply Refusal}
    → o ≡ Some d
    → Taken z s s' (step_of o) m m' r
    → CallTook z s s' d.marked d.call m m' r
unfolding step_of
some-call {z} {s} {s'} {m} {m'} {r = r} e t = record { taken = subst (λ (x : Option Decoded). Taken z s s' (step_of x) m m' r) e t }

-- The call is what was read from the bytes.
pub take-read
    : {z : Sizes} {s s' b m m' : List ℕ} {o : Option Decoded} {r : Result Reply Refusal}
    → Decodes b o
    → Taken z s s' (step_of o) m m' r
    → Taken z s s' (decode b) m m' r
take-read {z} {s} {s'} {m = m} {m'} {r = r} h t = subst (λ (x : math.Option Step). Taken z s s' x m m' r) h.step t

pub take-took
    : {z : Sizes} {s s' b m m' : List ℕ} {o : Option Decoded} {d : Decoded} {r : Result Reply Refusal}
    → Decodes b o
    → o ≡ Some d
    → CallTook z s s' d.marked d.call m m' r
    → Taken z s s' (decode b) m m' r
take-took {z} {s} {s'} {m = m} {m'} {r = r} h e t =
    subst (λ (x : math.Option Step). Taken z s s' x m m' r) (sym (is-step h e)) t.taken

-- What is no step.
pub take-none
    : {z : Sizes} {s b m : List ℕ} {o : Option Decoded} → Well z s → Decodes b o → o ≡ None → Taken z s s (decode b) m m (Err NoSuchStep)
take-none {z} {s} {m = m} w h e = subst (λ (x : math.Option Step). Taken z s s x m m (Err NoSuchStep)) (sym (is_none h e)) (taken_none w)
