-- The timers and the clock, when the queue, a setting, the last NOW or the ticks change.
use Rattle.std.specs.Prelude.{if◌then◌else◌, ◌≡◌, refl, Bool, true, false, not, List, [], ◌∷◌, ℕ, suc, ◌+◌, ◌-◌, ◌^◌, ◌≤◌, ◌<◌, eqb, leb, length, set}
use Rattle.std.proofs.Common.{sym, ap, ◌∙◌, arith, eqb-true, eq-eqb, ne_eqb, leb-true, leb-false, length-set, get_or-set_other}
use Rattle.std.proofs.lemmas.Bool.{eqb-false}
use Rattle.machine.specs.Basics.{count, filter}
use Rattle.machine.specs.Machine.{Sizes, Process, Setting, Queued, free}
use Rattle.machine.specs.Timers.{insert, remove}
use Rattle.machine.specs.Good.{Each, SettingInRange, QueuedInRange, ByDeadline, IsTsleep}
use Rattle.lists.specs.Lists.{bit, either, each_set, each_map, count_self, count-other}
use Rattle.kept.specs.Fine.{at, timers_of, Records, Clockwork, Tsleeping}
use Rattle.kept.specs.SpotsLaws.{get_cases}

-- What all queued timers have, they have after one is inserted and after one is removed.
pub each-insert : (P : Queued → Type 0) (x : Queued) (qd : List Queued) → P x → Each P qd → Each P (insert x qd)
unfolding insert
each-insert P x [] p h = (p, tt)
each-insert P x (y ∷ ys) p h =
    either (λ (b : Bool). Each P (if b then y ∷ insert x ys else x ∷ y ∷ ys)) (leb y.deadline x.deadline) (h.0, each-insert P x ys p h.1) (p, h)

-- and after one is removed
pub each-remove : (P : Queued → Type 0) (t : ℕ) (qd : List Queued) → Each P qd → Each P (remove t qd)
unfolding remove filter
each-remove P t [] h = tt
each-remove P t (y ∷ ys) h =
    either (λ (b : Bool). Each P (if not b then y ∷ remove t ys else remove t ys)) (eqb y.timer t) (each-remove P t ys h.1) (h.0, each-remove P t ys h.1)

-- They stand by deadline as before.
sorted_insert : (x : Queued) (qd : List Queued) → ByDeadline qd → ByDeadline (insert x qd)
unfolding insert
sorted_insert x [] h = (tt, tt)
sorted_insert x (y ∷ ys) h = go (leb y.deadline x.deadline) refl (sorted_insert x ys h.1)
  where
    go : (b : Bool) → leb y.deadline x.deadline ≡ b → ByDeadline (insert x ys) → ByDeadline (if b then y ∷ insert x ys else x ∷ y ∷ ys)
    go true e r = (each-insert (λ (u : Queued). y.deadline ≤ u.deadline) x ys (leb-true y.deadline x.deadline e) h.0, r)
    go false e r =
        let l : x.deadline < y.deadline = leb-false y.deadline x.deadline e in
        ((omega arith, each_map (λ (u : Queued). y.deadline ≤ u.deadline) (λ (u : Queued). x.deadline ≤ u.deadline) ys (λ u k. omega arith) h.0), h)

-- and after one is removed
sorted-remove : (t : ℕ) (qd : List Queued) → ByDeadline qd → ByDeadline (remove t qd)
unfolding remove filter
sorted-remove t [] h = tt
sorted-remove t (y ∷ ys) h =
    either (λ (b : Bool). ByDeadline (if not b then y ∷ remove t ys else remove t ys)) (eqb y.timer t) (sorted-remove t ys h.1)
    (each-remove (λ (u : Queued). y.deadline ≤ u.deadline) t ys h.0, sorted-remove t ys h.1)

-- An inserted timer is counted, and a removed one is not there.
pub count-insert : (k : ℕ) (x : Queued) (qd : List Queued) → count k (timers_of (insert x qd)) ≡ count k (x.timer ∷ []) + count k (timers_of qd)
unfolding insert count
count-insert k x [] = omega arith
count-insert k x (y ∷ ys) =
    either (λ (b : Bool). count k (timers_of (if b then y ∷ insert x ys else x ∷ y ∷ ys)) ≡ count k (x.timer ∷ []) + count k (timers_of (y ∷ ys))) (leb y.deadline x.deadline)
    (omega (arith, count-insert k x ys)) (omega arith)

-- A removed timer is not queued.
pub count-removed : (t : ℕ) (qd : List Queued) → count t (timers_of (remove t qd)) ≡ 0
unfolding remove filter count
count-removed t [] = refl
count-removed t (y ∷ ys) = go (eqb y.timer t) refl (count-removed t ys)
  where
    go : (b : Bool) → eqb y.timer t ≡ b → count t (timers_of (remove t ys)) ≡ 0 → count t (timers_of (if not b then y ∷ remove t ys else remove t ys)) ≡ 0
    go true e r = r
    go false e r = omega (arith, ap bit (ne_eqb t y.timer (λ f. eqb-false y.timer t e (sym f))))

-- No timer is queued more often after one is removed.
pub count-remove : (k t : ℕ) (qd : List Queued) → count k (timers_of (remove t qd)) ≤ count k (timers_of qd)
unfolding remove filter count
count-remove k t [] = omega arith
count-remove k t (y ∷ ys) =
    either (λ (b : Bool). count k (timers_of (if not b then y ∷ remove t ys else remove t ys)) ≤ count k (timers_of (y ∷ ys))) (eqb y.timer t)
    (omega (arith, count-remove k t ys)) (omega (arith, count-remove k t ys))

-- A timer that is not queued: whatever is said of it holds of every queued one.
each-absent : (P : Queued → Type 0) (t : ℕ) (qd : List Queued) → count t (timers_of qd) ≡ 0 → Each (λ (x : Queued). x.timer ≡ t → P x) qd
unfolding count
each-absent P t [] h = tt
each-absent P t (y ∷ ys) h = ((λ e. absurd (omega (arith, ap bit (eq-eqb t y.timer (sym e))))), each-absent P t ys (omega arith))

module _ {z : Sizes} {st : List Setting} {qd : List Queued} {ticks last : ℕ} (s : Clockwork z st qd ticks last) where
  -- A timer is added that is not queued.
  pub clock-insert : (x : Queued)
      → count x.timer (timers_of qd) ≡ 0
      → QueuedInRange z x
      → (x.timer ≡ 0 → ticks < x.deadline)
      → Clockwork z st (insert x qd) ticks last
  clock-insert x c r d =
      record {
        size = s.size;
        settings = s.settings;
        hzclock = s.hzclock;
        queued = each-insert (QueuedInRange z) x qd r s.queued;
        last_now = s.last_now;
        by_deadline = sorted_insert x qd s.by_deadline;
        once = λ t. go t (eqb t x.timer) refl;
        passed = s.passed;
        tick = each-insert (λ (x : Queued). x.timer ≡ 0 → ticks < x.deadline) x qd d s.tick;
      }
    where
      go : (t : ℕ) (b : Bool) → eqb t x.timer ≡ b → count t (timers_of (insert x qd)) ≤ 1
      go t true e = rw (eqb-true t x.timer e) (omega (arith, count-insert x.timer x qd, count_self x.timer))
      go t false e = omega (arith, count-insert t x qd, count-other t x.timer (eqb-false t x.timer e), s.once t)

  -- A timer is removed.
  pub clock-remove : (t : ℕ) → Clockwork z st (remove t qd) ticks last
  clock-remove t =
      record {
        size = s.size;
        settings = s.settings;
        hzclock = s.hzclock;
        queued = each-remove (QueuedInRange z) t qd s.queued;
        last_now = s.last_now;
        by_deadline = sorted-remove t qd s.by_deadline;
        once = λ k. omega (arith, count-remove k t qd, s.once k);
        passed = s.passed;
        tick = each-remove (λ (x : Queued). x.timer ≡ 0 → ticks < x.deadline) t qd s.tick;
      }

  -- NOW is accepted.
  pub clock_now : (now : ℕ) → last ≤ now → now ≤ 2 ^ 51 - 1 → Clockwork z st qd ticks now
  clock_now now l h =
      record {
        size = s.size;
        settings = s.settings;
        hzclock = s.hzclock;
        queued = s.queued;
        last_now = h;
        by_deadline = s.by_deadline;
        once = s.once;
        passed = omega arith;
        tick = s.tick;
      }

  -- A kernel timer other than timer 0 is set.
  pub clock-setting : (t : ℕ) (v : Setting) → 1 ≤ t → SettingInRange z v → Clockwork z (set st t v) qd ticks last
  clock-setting t v l r =
      record {
        size = length-set st t v ∙ s.size;
        settings = each_set (SettingInRange z) st t v s.settings r;
        hzclock = ap {B = ℕ} (λ x. x.period) (get_or-set_other st t 0 v (record { period = 0; rendez = 0 }) (λ e. omega arith)) ∙ s.hzclock;
        queued = s.queued;
        last_now = s.last_now;
        by_deadline = s.by_deadline;
        once = s.once;
        passed = s.passed;
        tick = s.tick;
      }

  -- A tick passes while timer 0 is not queued.
  pub clock-tick : suc ticks ≤ last → count 0 (timers_of qd) ≡ 0 → Clockwork z st qd (suc ticks) last
  clock-tick l c =
      record {
        size = s.size;
        settings = s.settings;
        hzclock = s.hzclock;
        queued = s.queued;
        last_now = s.last_now;
        by_deadline = s.by_deadline;
        once = s.once;
        passed = l;
        tick = each-absent (λ (x : Queued). suc ticks < x.deadline) 0 qd c;
      }

-- The head of the queue is taken off, and is not in the rest.
pub clock-tail : {z : Sizes} {st : List Setting} {x : Queued} {rest : List Queued} {ticks last : ℕ} → Clockwork z st (x ∷ rest) ticks last → Clockwork z st rest ticks last
unfolding count
clock-tail {rest} s =
    record {
      size = s.size;
      settings = s.settings;
      hzclock = s.hzclock;
      queued = s.queued.1;
      last_now = s.last_now;
      by_deadline = s.by_deadline.1;
      once = λ t. omega (arith, s.once t);
      passed = s.passed;
      tick = s.tick.1;
    }

-- The head is queued once, so it is not in the rest.
pub head-gone : {z : Sizes} {st : List Setting} {x : Queued} {rest : List Queued} {ticks last : ℕ} → Clockwork z st (x ∷ rest) ticks last → count x.timer (timers_of rest) ≡ 0
unfolding count
head-gone {x} s = omega (arith, s.once x.timer, ap bit (eq-eqb x.timer x.timer refl))

-- A tick changes no record, and every quantum ends as soon as it did.
pub records-tick : {z : Sizes} {ps : List Process} {ticks : ℕ} → Records z ps ticks → Records z ps (suc ticks)
records-tick r = record { size = r.size; each = r.each; freed = r.freed; cells = r.cells; quantum = λ k. omega (arith, r.quantum k) }

-- Own timers: one is inserted whose process is in a `tsleep`, others removed, and a record changes.
pub own-insert : (z : Sizes) (ps : List Process) (qd : List Queued) (x : Queued)
    → Tsleeping z ps qd
    → ((k : ℕ) → z.timers + k ≡ x.timer → IsTsleep (at ps k).resume)
    → Tsleeping z ps (insert x qd)
own-insert z ps qd x s h k c = go (eqb (z.timers + k) x.timer) refl
  where
    go : (b : Bool) → eqb (z.timers + k) x.timer ≡ b → IsTsleep (at ps k).resume
    go true e = h k (eqb-true (z.timers + k) x.timer e)
    go false e = s k (omega (arith, count-insert (z.timers + k) x qd, count-other (z.timers + k) x.timer (eqb-false (z.timers + k) x.timer e)))

-- Removing a timer queues none.
pub own-remove : (z : Sizes) (ps : List Process) (qd : List Queued) (t : ℕ) → Tsleeping z ps qd → Tsleeping z ps (remove t qd)
own-remove z ps qd t s k c = s k (omega (arith, count-remove (z.timers + k) t qd))

-- Nor does taking the head off.
pub own-tail : (z : Sizes) (ps : List Process) (x : Queued) (rest : List Queued) → Tsleeping z ps (x ∷ rest) → Tsleeping z ps rest
unfolding count
own-tail z ps x rest s k c = s k (omega arith)

-- A record changes: if its timer is queued, its call is a `tsleep`.
pub own-process : (z : Sizes) (ps : List Process) (qd : List Queued) (i : ℕ) (v : Process)
    → Tsleeping z ps qd
    → i < length ps
    → (1 ≤ count (z.timers + i) (timers_of qd) → IsTsleep v.resume)
    → Tsleeping z (set ps i v) qd
own-process z ps qd i v s l h k =
    get_cases (λ (k : ℕ) (x : Process). 1 ≤ count (z.timers + k) (timers_of qd) → IsTsleep x.resume) ps i v free k l h (λ n. s k)
