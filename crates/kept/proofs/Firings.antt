-- `intr`: every timer that is due fires.
use Rattle.std.specs.Prelude.{if◌then◌else◌, ◌≡◌, Bool, ◌⊎◌, ℕ, zero, suc, ◌+◌, ◌-◌, ◌^◌, ◌≤◌, ◌<◌, leb, length, get_or, List, [], ◌∷◌}
use Rattle.std.proofs.Math.Path.{refl, ap}
use Rattle.std.proofs.Common.{sym, ◌∙◌, subst, inl, inr, arith, eqb-true, leb-true}
use Rattle.std.proofs.Math.Bool.{true, false}
use Rattle.std.proofs.lemmas.Bool.{eqb-false}
use Rattle.std.proofs.Math.Option.{Option, none, some}
use Rattle.std.proofs.Math.Dec.{eqb, ltb}
use Rattle.clock.specs.Counts.{counts_of}
use Rattle.machine.specs.Basics.{elem, count}
use Rattle.machine.specs.Machine.{Resume, nothing, in_sleep, in_tsleep, in_qlock, in_wait, Machine, Setting, Queued, process, sleeper, setting}
use Rattle.machine.specs.Update.{with_ticks, with_queued, with_last_now, with_run, with_sleeper}
use Rattle.machine.specs.Step.{intr, open_step}
use Rattle.machine.specs.Places.{ready, wake}
use Rattle.machine.specs.Timers.{insert, twakeup, callback, period_of, readd, Firing, fire, fire_due, firings_owed, interrupt}
use Rattle.machine.specs.Table.{refusal, open_table}
use Rattle.machine.specs.Perform.{perform, intr_of}
use Rattle.machine.specs.Good.{SettingInRange}
use Rattle.lists.specs.Lists.{either, each-get}
use Rattle.kept.specs.Fine.{timers_of, Clockwork, Tsleeping, Fine}
use Rattle.kept.specs.SpotsLaws.{low}
use Rattle.kept.specs.ClockLaws.{clock-insert, clock-tick, clock-tail, head-gone, records-tick, own-insert, own-tail}
use Rattle.kept.specs.FineLaws.{fine-queued, fine-ticks}
use Rattle.kept.specs.Allowed.{allowed, step, now_fits}
use Rattle.kept.specs.Simple.{fine-accepted, fine-wake}

-- A machine in which timer x, due at now, is off the queue and may have done what it does.
record Fired (x : Queued) (rest : List Queued) (now : ℕ) (m : Machine) : Type 0 where
  fine : Fine none [] m
  queued : m.queued ≡ rest
  last : m.last_now ≡ now
  ticked : x.timer ≡ 0 → m.ticks ≤ x.deadline
  timer : x.timer < m.sizes.timers + m.sizes.processes

module _ (x : Queued) (rest : List Queued) (now : ℕ) where
  -- Whoever sleeps on a Rendez is woken.
  fired-wake : (m : Machine) → Fired x rest now m → (r : ℕ) → Fired x rest now (wake r m).machine
  unfolding wake ready with_run with_sleeper
  fired-wake m h r = go (sleeper m r) refl
    where
      go : (o : Option ℕ) → sleeper m r ≡ o → Fired x rest now (wake r m).machine
      go none e = rw (e, wake) h
      go (some i) e =
          rw (e, wake)
          (record { fine = rw (e, wake) at (fine-wake m h.fine r); queued = h.queued; last = h.last; ticked = h.ticked; timer = h.timer })

  -- And so by the timer of a `tsleep`.
  fired-twakeup : (m : Machine) → Fired x rest now m → (call : Resume) → Fired x rest now (twakeup call m).machine
  unfolding twakeup
  fired-twakeup m h nothing = h
  fired-twakeup m h (in_sleep r c) = h
  fired-twakeup m h (in_tsleep r c) = fired-wake m h r
  fired-twakeup m h (in_qlock q) = h
  fired-twakeup m h in_wait = h

  -- What timer x does: for timer 0 a tick, which is not after its deadline.
  fired-callback : (m : Machine) → Fired x rest now m → x.deadline ≤ now → (x.timer ≡ 0 → m.ticks < x.deadline) → count x.timer (timers_of rest) ≡ 0 → Fired x rest now (callback x.timer m).machine
  unfolding callback with_ticks
  fired-callback m h d k c = go (eqb x.timer 0) refl
    where
      go : (b : Bool) → eqb x.timer 0 ≡ b
          → Fired x rest now
          (if b
          then record { machine = with_ticks (suc m.ticks) m; readied = [] }
          else if ltb x.timer m.sizes.timers then wake (setting m x.timer).rendez m else twakeup (process m (x.timer - m.sizes.timers)).resume m).machine
      go true e =
          let z : x.timer ≡ 0 = eqb-true x.timer 0 e in
          let l : m.ticks < x.deadline = k z in
          let g : Fine none [] m = h.fine in
          record {
            fine = fine-ticks m g (suc m.ticks)
                (clock-tick g.clockwork (omega (arith, h.last)) (ap {B = ℕ} (λ t. count t (timers_of m.queued)) (sym z) ∙ ap {B = ℕ} (λ q. count x.timer (timers_of q)) h.queued ∙ c))
                (records-tick g.records);
            queued = h.queued;
            last = h.last;
            ticked = λ e. l;
            timer = h.timer;
          }
      go false e =
          either (λ (b : Bool). Fired x rest now (if b then wake (setting m x.timer).rendez m else twakeup (process m (x.timer - m.sizes.timers)).resume m).machine) (ltb x.timer m.sizes.timers)
          (fired-wake m h (setting m x.timer).rendez)
          (fired-twakeup m h (process m (x.timer - m.sizes.timers)).resume)

  -- A periodic one returns.
  fired-readd : (m : Machine) → Fired x rest now m → x.deadline ≤ now → count x.timer (timers_of rest) ≡ 0 → (Fine none [] (readd x m)) × ((readd x m).last_now ≡ now)
  unfolding readd period_of setting with_queued
  fired-readd m h d c = go (eqb (period_of x.timer m) 0) refl
    where
      none-set : Setting
      none-set = record { period = 0; rendez = 0 }

      go : (b : Bool) → eqb (period_of x.timer m) 0 ≡ b → (Fine none [] (readd x m)) × ((readd x m).last_now ≡ now)
      go true e = rw (e, readd) (h.fine, h.last)
      go false e =
          let g : Fine none [] m = h.fine in
          let p : ℕ = (get_or m.settings x.timer none-set).period in
          let n : (p ≡ 0 → ⊥) = eqb-false p 0 e in
          let l : x.timer < length m.settings = low m.settings x.timer none-set (λ q. n (ap {B = ℕ} (λ s. s.period) q)) in
          let r : SettingInRange m.sizes (get_or m.settings x.timer none-set) = each-get (SettingInRange m.sizes) m.settings x.timer none-set g.clockwork.settings l in
          let y : Queued = record { timer = x.timer; deadline = x.deadline + p } in
          rw (e, readd) (
            fine-queued m g (insert y m.queued)
                (clock-insert g.clockwork y (ap {B = ℕ} (λ q. count x.timer (timers_of q)) h.queued ∙ c)
                (record { timer = h.timer; deadline = omega (arith, h.last, g.clockwork.last_now, short p n r.period) })
                (λ z. omega (arith, h.ticked z, n)))
                (own-insert m.sizes m.processes m.queued y g.tsleeping (λ j z. absurd (omega (arith, l, g.clockwork.size)))),
            h.last,
          )
        where
          short : (p : ℕ) → (p ≡ 0 → ⊥) → (p ≡ 0) ⊎ ((counts_of m.sizes.hz 0 100000 ≤ p) × (p ≤ 2 ^ 63 - 1)) → p ≤ 2 ^ 63 - 1
          short p n (inl z) = absurd (n z)
          short p n (inr b) = b.1

-- The head, due at now, fires.
pub fine-fire : (x : Queued) (rest : List Queued) (now : ℕ) (f : Firing)
    → Fine none [] f.machine
    → f.machine.last_now ≡ now
    → f.machine.queued ≡ x ∷ rest
    → x.deadline ≤ now
    → (Fine none [] (fire x rest f).machine) × ((fire x rest f).machine.last_now ≡ now)
unfolding fire with_queued
fine-fire x rest now f g l q d =
    let m : Machine = f.machine in
    let c : Clockwork m.sizes m.settings (x ∷ rest) m.ticks m.last_now = subst (λ (y : List Queued). Clockwork m.sizes m.settings y m.ticks m.last_now) q g.clockwork in
    let t : Tsleeping m.sizes m.processes (x ∷ rest) = subst (λ (y : List Queued). Tsleeping m.sizes m.processes y) q g.tsleeping in
    let n : Machine = with_queued rest m in
    let h : Fired x rest now n = record { fine = fine-queued m g rest (clock-tail c) (own-tail m.sizes m.processes x rest t); queued = refl; last = l; ticked = λ z. omega (arith, c.tick.0 z); timer = c.queued.0.timer } in
    fired-readd x rest now (callback x.timer n).machine (fired-callback x rest now n h d c.tick.0 (head-gone c)) d (head-gone c)

-- Firing goes on while the head is due.
fine-due : (n now : ℕ) (f : Firing) → Fine none [] f.machine → f.machine.last_now ≡ now → Fine none [] (fire_due n now f).machine
unfolding fire_due
fine-due zero now f g l = g
fine-due (suc n) now f g l = go f.machine.queued refl (λ h a b. fine-due n now h a b)
  where
    go : (q : List Queued) → f.machine.queued ≡ q
        → ((h : Firing) → Fine none [] h.machine → h.machine.last_now ≡ now → Fine none [] (fire_due n now h).machine)
        → Fine none [] (fire_due (suc n) now f).machine
    go [] e again = rw (e, fire_due) g
    go (x ∷ rest) e again = fires (leb x.deadline now) refl
      where
        fires : (b : Bool) → leb x.deadline now ≡ b → Fine none [] (fire_due (suc n) now f).machine
        fires true d = let p : (Fine none [] (fire x rest f).machine) × ((fire x rest f).machine.last_now ≡ now) = fine-fire x rest now f g l e (leb-true x.deadline now d) in rw (e, fire_due, d) (again (fire x rest f) p.0 p.1)
        fires false d = rw (e, fire_due, d) g

-- `intr`: NOW is accepted, and what is due fires.
pub kept-intr : (m : Machine) (k : Bool) (NOW : ℕ) → refusal m (step k (intr NOW)) ≡ none → Fine none [] m → Fine none [] (perform (intr NOW) m).after
unfolding perform intr_of interrupt with_last_now open_table open_step elem
kept-intr m k NOW e f =
    fine-due (firings_owed NOW m.queued) NOW (record { machine = with_last_now NOW m; count = 0; ticks = 0; readied = [] })
    (fine-accepted m f NOW (now_fits m NOW (allowed m (step k (intr NOW)) e 8 refl))) refl
