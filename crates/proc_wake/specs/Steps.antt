-- wakeup, canqlock, qunlock, cond and due: what the code shows at each return.
use Rattle.std.specs.Prelude.{if◌then◌else◌, ◌≡◌, refl, Option, None, Some, is_some, Bool, true, false, not, List, [], ◌∷◌, ℕ, suc, ◌-◌, ◌<◌, eqb, Result, Ok, Err}
use Rattle.std.proofs.Common.{sym, ap, subst, ◌∙◌, arith, lt-ltb, le-leb}
use Rattle.std.proofs.Math.Option.{none, some}
use Rattle.std.proofs.lemmas.Bool.{not-true, not-false}
use Rattle.memory.specs.Link.{link}
use Rattle.lists.specs.Lists.{bit}
use Rattle.machine.specs.Basics.{is_empty}
use Rattle.machine.specs.Machine.{Machine, Lock, lock}
use Rattle.machine.specs.Step.{wakeup, canqlock, qunlock, cond, due}
use Rattle.machine.specs.Table.{refusal, in_range, held_lock}
use Rattle.machine.specs.Outcome.{Reply, Answer, answer, open_outcome}
use Rattle.machine.specs.Update.{with_lock, with_condition}
use Rattle.machine.specs.Places.{wake}
use Rattle.machine.specs.Perform.{perform, preempt_due, open_perform}
use Rattle.machine.specs.StepOf.{left_by}
use Rattle.state.specs.Fields as fields
use Rattle.state.specs.Abs.{waiter_list, machine_of}
use Rattle.state.specs.Places.{sizes_in, mem_in}
use Rattle.state.specs.declared.Sizes.{Sizes}
use Rattle.lists.specs.Lists.{bit-small}
use Rattle.exact.specs.Parts.{lock_of}
use Rattle.holds.specs.Holds.{Holds}
use Rattle.holds.specs.Whole.{holds-bounds}
use Rattle.holds.specs.Did.{machine_in}
use Rattle.holds.specs.Use.{same_use}
use Rattle.holds.specs.Touched.{spares-none, touched-same, touched-did}
use Rattle.dat.specs.Rendez.{WakeAsks, Woke, pids_of}
use Rattle.qlock.specs.Queue.{LockAsks}
use Rattle.qlock.specs.Hold.{Tried, HandAsks, Handed, GivenUp}
use Rattle.timer.specs.Only.{Owing}
use Rattle.clockwork.specs.Stores.{Became}
use Rattle.clockwork.specs.Preempt.{PreemptDue}
use Rattle.clockwork.specs.Conditions.{condition_stores}
use Rattle.outcome.specs.declared.Reply as code
use Rattle.outcome.specs.declared.Reply.TheVariants.{Done, Yes, No}
use Rattle.outcome.specs.declared.Refusal.{Refusal}
use Rattle.outcome.specs.declared.Refusal.TheVariants.{NotLocked}
use Rattle.outcome.specs.Answer.{yes_no}
use Rattle.outcome.specs.Means.{means, told}
use Rattle.outcome.specs.Took.{Took}
use Rattle.outcome.specs.Stepped.{Well, Stepped, left_bytes}
use Rattle.outcome.specs.Laws.{stepped-done, stepped-refused}
use Rattle.outcome.specs.Refusals.{step}
use Rattle.outcome.specs.RefusalsRun.{refusal-wakeup, refusal-cond}
use Rattle.outcome.specs.RefusalsLock.{refusal-canqlock, refusal-qunlock}
use Rattle.outcome.specs.RefusalsTime.{refusal-due}

-- The state is well formed, and there is such a Rendez, or lock.
pub record RendezAsks (z : Sizes) (s : List ℕ) (r : ℕ) : Type 0 where
  pub well : Well z s
  pub index : r < z.rendez

pub record LockAsked (z : Sizes) (s : List ℕ) (q : ℕ) : Type 0 where
  pub well : Well z s
  pub index : q < z.locks

sizes_in_lem : (z : Sizes) (s : List ℕ) → (machine_in z s).sizes ≡ sizes_in z
unfolding machine_of
sizes_in_lem z s = refl

-- wakeup
pub wakeup-asks : {z : Sizes} {s : List ℕ} {r : ℕ} → RendezAsks z s r → WakeAsks z s r
wakeup-asks a = record { owed = 0; holds = a.well.holds; index = a.index }

wakeup-allowed : {z : Sizes} {s : List ℕ} {r : ℕ} → RendezAsks z s r → (k : Bool) → refusal (machine_in z s) (step k (wakeup r)) ≡ none
unfolding machine_of in_range
wakeup-allowed {z} {s} {r} a k = refusal-wakeup (machine_in z s) k r ∙ rw (lt-ltb r z.rendez a.index)

wakeup-reply : (m : Machine) (r : ℕ) (ps : List ℕ) → (wake r m).readied ≡ ps → (perform (wakeup r) m).reply ≡ answer (Answer.yes_no (not (is_empty ps)))
unfolding open_perform open_outcome
wakeup-reply m r ps e = rw e

wakeup-after : (m : Machine) (r : ℕ) → (perform (wakeup r) m).after ≡ (wake r m).machine
unfolding open_perform open_outcome
wakeup-after m r = refl

wakeup-no : {z : Sizes} {s s₁ : List ℕ} {r l : ℕ} → RendezAsks z s r → Woke z s s₁ r l → l ≡ 0 → Took z s s₁ (wakeup r) (Ok No)
unfolding means told
wakeup-no {z} {s} {s₁} {r} {l} a w e =
    let t : (perform (wakeup r) (machine_in z s)).reply ≡ answer (Answer.yes_no false) =
    wakeup-reply (machine_in z s) r [] (sym w.readied ∙ ap (pids_of (mem_in z s)) e)
    in
    record {
      stepped = λ k.
          stepped-done (wakeup-allowed a k) (w.holds 0 a.well.holds) w.touched.spares (sym t) (ap told (sym t))
          (w.machine ∙ sym (wakeup-after (machine_in z s) r));
    }

wakeup-yes : {z : Sizes} {s s₁ : List ℕ} {r l : ℕ} → RendezAsks z s r → Woke z s s₁ r l → (l ≡ 0 → ⊥) → Took z s s₁ (wakeup r) (Ok Yes)
unfolding means told
wakeup-yes {z} {s} {s₁} {r} {l} a w ne =
    let e : l ≡ suc (l - 1) = omega arith in
    let t : (perform (wakeup r) (machine_in z s)).reply ≡ answer (Answer.yes_no true) =
    wakeup-reply (machine_in z s) r (mem_in z s fields.pid (l - 1) ∷ []) (sym w.readied ∙ ap (pids_of (mem_in z s)) e)
    in
    record {
      stepped = λ k.
          stepped-done (wakeup-allowed a k) (w.holds 0 a.well.holds) w.touched.spares (sym t) (ap told (sym t))
          (w.machine ∙ sym (wakeup-after (machine_in z s) r));
    }

-- Whom it woke, if anybody, is the answer.
pub woken : {z : Sizes} {s s₁ : List ℕ} {r : ℕ} {b : Bool} {a : code.Reply} (o : Option ℕ)
    → RendezAsks z s r → Woke z s s₁ r (link o) → b ≡ is_some o → a ≡ yes_no b → Took z s s₁ (wakeup r) (Ok a)
woken {z} {s} {s₁} {r} {b} {a} o k w e d =
    subst (λ (x : code.Reply). Took z s s₁ (wakeup r) (Ok x)) (sym (d ∙ ap yes_no e)) (go o w)
  where
    go : (o : Option ℕ) → Woke z s s₁ r (link o) → Took z s s₁ (wakeup r) (Ok (yes_no (is_some o)))
    go None w = wakeup-no k w refl
    go (Some i) w = wakeup-yes k w (λ e. absurd (omega (arith, e)))

-- canqlock
pub canqlock-asks : {z : Sizes} {s : List ℕ} {q : ℕ} → LockAsked z s q → LockAsks z s q
canqlock-asks a = record { owed = 0; holds = a.well.holds; index = a.index }

canqlock-allowed : {z : Sizes} {s : List ℕ} {q : ℕ} → LockAsked z s q → (k : Bool) → refusal (machine_in z s) (step k (canqlock q)) ≡ none
unfolding machine_of in_range
canqlock-allowed {z} {s} {q} a k = refusal-canqlock (machine_in z s) k q ∙ rw (lt-ltb q z.locks a.index)

canqlock-free : (m : Machine) (q : ℕ) → (lock m q).held ≡ false
    → ((perform (canqlock q) m).reply ≡ answer (Answer.yes_no true)) × ((perform (canqlock q) m).after ≡ with_lock q (record { held = true; waiters = (lock m q).waiters }) m)
unfolding open_perform open_outcome
canqlock-free m q e = (rw e, rw e)

canqlock-held : (m : Machine) (q : ℕ) → (lock m q).held ≡ true
    → ((perform (canqlock q) m).reply ≡ answer (Answer.yes_no false)) × ((perform (canqlock q) m).after ≡ m)
unfolding open_perform open_outcome
canqlock-held m q e = (rw e, rw e)

canqlock-yes : {z : Sizes} {s s₁ : List ℕ} {q : ℕ} {t : Bool} → LockAsked z s q → Tried z s s₁ q t → t ≡ true → Took z s s₁ (canqlock q) (Ok Yes)
unfolding means told
canqlock-yes {z} {s} {s₁} {q} {t} a w e =
    let f : ((perform (canqlock q) (machine_in z s)).reply ≡ answer (Answer.yes_no true)) × ((perform (canqlock q) (machine_in z s)).after ≡ with_lock q (record { held = true; waiters = (lock (machine_in z s) q).waiters }) (machine_in z s)) =
    canqlock-free (machine_in z s) q (not-true (lock (machine_in z s) q).held (sym w.answer ∙ e))
    in
    record {
      stepped = λ k.
          stepped-done (canqlock-allowed a k) ((w.yes e).holds 0 a.well.holds) (touched-did (w.yes e) (same_use refl refl refl refl refl refl refl refl refl)).spares (sym f.0) (ap told (sym f.0))
          ((w.yes e).machine ∙ sym f.1);
    }

canqlock-no : {z : Sizes} {s s₁ : List ℕ} {q : ℕ} {t : Bool} → LockAsked z s q → Tried z s s₁ q t → t ≡ false → Took z s s₁ (canqlock q) (Ok No)
unfolding means told
canqlock-no {z} {s} {s₁} {q} {t} a w e =
    let f : ((perform (canqlock q) (machine_in z s)).reply ≡ answer (Answer.yes_no false)) × ((perform (canqlock q) (machine_in z s)).after ≡ machine_in z s) =
    canqlock-held (machine_in z s) q (not-false (lock (machine_in z s) q).held (sym w.answer ∙ e))
    in
    let b : s₁ ≡ s = w.no e in
    record {
      stepped = λ k.
          stepped-done (canqlock-allowed a k) (subst (λ (x : List ℕ). Holds z x 0) (sym b) a.well.holds) (touched-same b).spares (sym f.0)
          (ap told (sym f.0))
          (ap (machine_in z) b ∙ sym f.1);
    }

pub asked : {z : Sizes} {s s₁ : List ℕ} {q : ℕ} {t : Bool} {a : code.Reply} → LockAsked z s q → Tried z s s₁ q t → a ≡ yes_no t → Took z s s₁ (canqlock q) (Ok a)
asked {z} {s} {s₁} {q} {t} {a} k w d = subst (λ (x : code.Reply). Took z s s₁ (canqlock q) (Ok x)) (sym d) (go t w)
  where
    go : (t : Bool) → Tried z s s₁ q t → Took z s s₁ (canqlock q) (Ok (yes_no t))
    go true w = canqlock-yes k w refl
    go false w = canqlock-no k w refl

-- qunlock
pub qunlock-asks : {z : Sizes} {s : List ℕ} {q : ℕ} → LockAsked z s q → HandAsks z s q
qunlock-asks {z} {s} {q} a =
    let l : lock (machine_in z s) q ≡ record { held = not (eqb (mem_in z s fields.held q) 0); waiters = waiter_list (sizes_in z) (mem_in z s) q } =
    lock_of (holds-bounds a.well.holds) q
    in
    record {
      owed = 0;
      holds = a.well.holds;
      index = a.index;
      held = λ e. sym (ap (λ (x : Lock). x.waiters) l) ∙ a.well.good.held q (ap (λ (x : Lock). x.held) l ∙ rw e);
    }

qunlock-number
    : {z : Sizes} {s : List ℕ} {q : ℕ}
    → LockAsked z s q
    → (k : Bool)
    → refusal (machine_in z s) (step k (qunlock q)) ≡ (if not (lock (machine_in z s) q).held then some 6 else none)
unfolding machine_of in_range held_lock
qunlock-number {z} {s} {q} a k = refusal-qunlock (machine_in z s) k q ∙ rw (lt-ltb q z.locks a.index)

pub qunlock-no : {z : Sizes} {s s₁ : List ℕ} {q l : ℕ} → LockAsked z s q → GivenUp z s s₁ q false l → Took z s s₁ (qunlock q) (Err NotLocked)
unfolding left_by left_bytes
qunlock-no {z} {s} {s₁} {q} a w =
    let n : (k : Bool) → refusal (machine_in z s) (step k (qunlock q)) ≡ some 6 = λ k. qunlock-number a k ∙ rw (← w.answer) in
    subst (λ (x : List ℕ). Took z s x (qunlock q) (Err NotLocked)) (sym (w.no refl))
    (record { stepped = λ k. stepped-refused (n k) a.well.holds refl refl })

handed : {z : Sizes} {s s₁ : List ℕ} {q l : ℕ} → LockAsked z s q → (lock (machine_in z s) q).held ≡ true → Handed z s s₁ q l → Took z s s₁ (qunlock q) (Ok Done)
unfolding open_perform open_outcome means told
handed {z} {s} {s₁} {q} a e h =
    record { stepped = λ k. stepped-done (qunlock-number a k ∙ rw e) (h.holds 0 a.well.holds) h.touched.spares refl refl h.machine }

pub qunlock-done : {z : Sizes} {s s₁ : List ℕ} {q l : ℕ} → LockAsked z s q → GivenUp z s s₁ q true l → Took z s s₁ (qunlock q) (Ok Done)
qunlock-done a w = handed a (sym w.answer) (w.yes refl)

-- cond
pub well-owing : {z : Sizes} {s : List ℕ} → Well z s → Owing z s
well-owing w = record { owed = 0; holds = w.holds }

bit-one : (v : Bool) → eqb (bit v) 1 ≡ v
bit-one true = refl
bit-one false = refl

cond-allowed : (m : Machine) (c : ℕ) (v : Bool) → c < 256 → (k : Bool) → refusal m (step k (cond c (bit v))) ≡ none
unfolding in_range
cond-allowed m c v l k = refusal-cond m k c (bit v) ∙ rw (lt-ltb c 256 l, le-leb (bit v) 1 (bit-small v))

pub record CondTook (z : Sizes) (s s' : List ℕ) (c : ℕ) (v : Bool) (r : Result code.Reply Refusal) : Type 0 where
  pub stepped : (k : Bool) → Stepped z s s' (step k (cond c (bit v))) [] r

pub cond-done
    : {z : Sizes} {s s₁ : List ℕ} {c : ℕ} {v : Bool}
    → Well z s
    → c < 256
    → Became z s s₁ (condition_stores c v) (with_condition c v (machine_in z s))
    → CondTook z s s₁ c v (Ok Done)
unfolding open_perform open_outcome means told
cond-done {z} {s} {s₁} {c} {v} w l b =
    record {
      stepped = λ k.
          stepped-done (cond-allowed (machine_in z s) c v l k) (b.holds 0 w.holds) b.touched.spares refl refl
          (b.machine ∙ ap (λ (x : Bool). with_condition c x (machine_in z s)) (sym (bit-one v)));
    }

-- due
due-reply : (m : Machine) (t : Bool) → t ≡ preempt_due m → ((perform due m).reply ≡ answer (Answer.yes_no t)) × ((perform due m).after ≡ m)
unfolding open_perform open_outcome
due-reply m t e = (ap {B = Reply} (λ (x : Bool). answer (Answer.yes_no x)) (sym e), refl)

due-yes : {z : Sizes} {s : List ℕ} {t : Bool} → Well z s → PreemptDue z s t → t ≡ true → Took z s s due (Ok Yes)
unfolding means told
due-yes {z} {s} {t} w d e =
    let f : ((perform due (machine_in z s)).reply ≡ answer (Answer.yes_no true)) × ((perform due (machine_in z s)).after ≡ machine_in z s) =
    due-reply (machine_in z s) true (sym e ∙ d.answer)
    in
    record { stepped = λ k. stepped-done (refusal-due (machine_in z s) k) w.holds spares-none (sym f.0) (ap told (sym f.0)) (sym f.1) }

due-no : {z : Sizes} {s : List ℕ} {t : Bool} → Well z s → PreemptDue z s t → t ≡ false → Took z s s due (Ok No)
unfolding means told
due-no {z} {s} {t} w d e =
    let f : ((perform due (machine_in z s)).reply ≡ answer (Answer.yes_no false)) × ((perform due (machine_in z s)).after ≡ machine_in z s) =
    due-reply (machine_in z s) false (sym e ∙ d.answer)
    in
    record { stepped = λ k. stepped-done (refusal-due (machine_in z s) k) w.holds spares-none (sym f.0) (ap told (sym f.0)) (sym f.1) }

pub due-said : {z : Sizes} {s : List ℕ} {t : Bool} {a : code.Reply} → Well z s → PreemptDue z s t → a ≡ yes_no t → Took z s s due (Ok a)
due-said {z} {s} {t} {a} w p d = subst (λ (x : code.Reply). Took z s s due (Ok x)) (sym d) (go t p)
  where
    go : (t : Bool) → PreemptDue z s t → Took z s s due (Ok (yes_no t))
    go true p = due-yes w p refl
    go false p = due-no w p refl
