-- Whatever wakes, wakes only: `wakeup`, a lock handed over, an exit told to the parent, and `interrupt`.
use Rattle.std.specs.Prelude.{if◌then◌else◌, ◌≡◌, refl, Bool, true, false, List, [], ◌∷◌, ◌++◌, ℕ, zero, suc, ◌+◌, ◌-◌, ◌<◌, eqb, leb, ltb, length}
use Rattle.std.proofs.Common.{sym, ap, ◌∙◌, subst, append_assoc, append-nil, arith, length-set}
use Rattle.std.proofs.Math.Option.{Option, none, some}
use Rattle.machine.specs.Machine.{Machine, Process, Lock, Queued, Resume, nothing, in_sleep, in_tsleep, in_qlock, in_wait, free, process, sleeper, lock, setting, pid_of, open_machine}
use Rattle.machine.specs.Update.{with_ticks, with_queued, with_process, with_nchild, with_on_waitr, open_update}
use Rattle.machine.specs.Places.{Woken, ready, wake, hand_over, open_places}
use Rattle.machine.specs.Exits.{found, has_room, wake_waitr, tell_parent}
use Rattle.machine.specs.Timers.{Firing, twakeup, callback, period_of, readd, fire, fire_due, firings_owed, interrupt}
use Rattle.kept.specs.SpotsLaws.{low}
use Rattle.history.proofs.Lists.{get_or-set, get_or-set_kept}
use Rattle.history.proofs.View.{View, view, from_rendez_v, from_lock_v, from_waitr_v, Wakes, nobody, ticking, from_rendez, from_lock, from_waitr, ◌next◌}

-- two views that agree in everything
pub view_ext : {v w : View}
    → v.up ≡ w.up
    → v.run ≡ w.run
    → ((r : ℕ) → v.sleeper r ≡ w.sleeper r)
    → ((q : ℕ) → v.waiters q ≡ w.waiters q)
    → ((i : ℕ) → v.on_waitr i ≡ w.on_waitr i)
    → ((i : ℕ) → v.pid i ≡ w.pid i)
    → ((i : ℕ) → v.resume i ≡ w.resume i)
    → ((i : ℕ) → v.quantum_end i ≡ w.quantum_end i)
    → v.ticks ≡ w.ticks
    → v.rendezs ≡ w.rendezs
    → v.lock_count ≡ w.lock_count
    → v.sizes ≡ w.sizes
    → v.next_pid ≡ w.next_pid
    → v ≡ w
view_ext a b c d e f g h k l n z x =
    λ t. record { up = a t; run = b t; sleeper = λ r. c r t; waiters = λ q. d q t; on_waitr = λ i. e i t; pid = λ i. f i t; resume = λ i. g i t; quantum_end = λ i. h i t; ticks = k t; rendezs = l t; lock_count = n t; sizes = z t; next_pid = x t }

-- a record that is replaced by one with the same pid, call, quantum and waitr
pub view-kept : (i : ℕ) (p : Process) (m : Machine)
    → p.on_waitr ≡ (process m i).on_waitr
    → p.pid ≡ (process m i).pid
    → p.resume ≡ (process m i).resume
    → p.quantum_end ≡ (process m i).quantum_end
    → view (with_process i p m) ≡ view m
unfolding open_machine open_update
view-kept i p m a b c d =
    view_ext refl refl (λ r. refl) (λ q. refl)
    (λ j. get_or-set_kept (λ (x : Process). x.on_waitr) m.processes i p free j a)
    (λ j. get_or-set_kept (λ (x : Process). x.pid) m.processes i p free j b)
    (λ j. get_or-set_kept (λ (x : Process). x.resume) m.processes i p free j c)
    (λ j. get_or-set_kept (λ (x : Process). x.quantum_end) m.processes i p free j d)
    refl refl refl refl refl

-- the machine after a waking, and whom it readied
abbrev pub Woke : Machine → ℕ → Woken → Type 0
Woke m f w = Wakes (view m) w.readied f (view w.machine)

pub wake-wakes : (r : ℕ) (m : Machine) → Woke m 0 (wake r m)
unfolding open_machine open_update open_places
wake-wakes r m = go (sleeper m r) refl
  where
    go : (o : Option ℕ) → sleeper m r ≡ o → Woke m 0 (wake r m)
    go none e = rw (e, wake) nobody
    go (some i) e =
        let there : r < length m.sleepers = low m.sleepers r none (λ (d : sleeper m r ≡ none). let z : ◌≡◌ {A = ℕ} 0 1 = cc in omega arith) in
        let w : view (wake r m).machine ≡ from_rendez_v r i (view m) =
        rw (e, wake)
        (view_ext refl refl (λ k. get_or-set (λ (x : Option ℕ). x) m.sleepers r none none k there) (λ q. refl) (λ j. refl) (λ j. refl) (λ j. refl) (λ j. refl) refl (length-set m.sleepers r none) refl refl refl) in
        let d : (wake r m).readied ≡ pid_of m i ∷ [] = rw (e, wake) in
        rw (w, d) (from_rendez r i there e)

pub hand_over-wakes : (q : ℕ) (m : Machine) → Woke m 0 (hand_over q m)
unfolding open_machine open_update open_places
hand_over-wakes q m = go (lock m q).waiters refl
  where
    bare : Lock
    bare = record { held = false; waiters = [] }

    ws : Lock → List ℕ
    ws x = x.waiters

    go : (l : List ℕ) → (lock m q).waiters ≡ l → Woke m 0 (hand_over q m)
    go [] e =
        let w : view (hand_over q m).machine ≡ view m =
        rw (e, hand_over)
        (view_ext refl refl (λ r. refl) (λ k. get_or-set_kept ws m.locks q bare bare k (sym e)) (λ j. refl) (λ j. refl) (λ j. refl) (λ j. refl) refl refl (length-set m.locks q bare) refl refl) in
        let d : (hand_over q m).readied ≡ [] = rw (e, hand_over) in
        rw (w, d) nobody
    go (i ∷ rest) e =
        let there : q < length m.locks = low m.locks q bare (λ (d : lock m q ≡ bare). let y : (lock m q).waiters ≡ [] = ap ws d in let z : ◌≡◌ {A = ℕ} 0 1 = cc in omega arith) in
        let w : view (hand_over q m).machine ≡ from_lock_v q i rest (view m) =
        rw (e, hand_over)
        (view_ext refl refl (λ r. refl) (λ k. get_or-set ws m.locks q (record { held = true; waiters = rest }) bare k there) (λ j. refl) (λ j. refl) (λ j. refl) (λ j. refl) refl refl (length-set m.locks q (record { held = true; waiters = rest })) refl refl) in
        let d : (hand_over q m).readied ≡ pid_of m i ∷ [] = rw (e, hand_over) in
        rw (w, d) (from_lock q i rest there e)

waitr-view : (j : ℕ) (m : Machine) → (process m j).on_waitr ≡ true → view (ready j (with_process j (with_on_waitr false (process m j)) m)) ≡ from_waitr_v j (view m)
unfolding open_machine open_update open_places
waitr-view j m e =
    let there : j < length m.processes = low m.processes j free (λ (d : process m j ≡ free). let y : (process m j).on_waitr ≡ false = ap (λ (x : Process). x.on_waitr) d in let z : ◌≡◌ {A = ℕ} 0 1 = cc in omega arith) in
    let p : Process = with_on_waitr false (process m j) in
    view_ext refl refl (λ r. refl) (λ q. refl)
    (λ k. get_or-set (λ (x : Process). x.on_waitr) m.processes j p free k there)
    (λ k. get_or-set_kept (λ (x : Process). x.pid) m.processes j p free k refl)
    (λ k. get_or-set_kept (λ (x : Process). x.resume) m.processes j p free k refl)
    (λ k. get_or-set_kept (λ (x : Process). x.quantum_end) m.processes j p free k refl)
    refl refl refl refl refl

wake_waitr-wakes : (j : ℕ) (m : Machine) → Woke m 0 (wake_waitr j m)
unfolding wake_waitr
wake_waitr-wakes j m = go (process m j).on_waitr refl
  where
    go
        : (b : Bool) → (process m j).on_waitr ≡ b
        → Woke m 0 (if b then record { machine = ready j (with_process j (with_on_waitr false (process m j)) m); readied = pid_of m j ∷ [] } else record { machine = m; readied = [] })
    go true e = rw (waitr-view j m e) (from_waitr j e)
    go false e = nobody

-- the parent's record is changed where `Demand3` does not look, and then its waitr is woken
told : (j : ℕ) (p : Process) (m : Machine)
    → p.on_waitr ≡ (process m j).on_waitr
    → p.pid ≡ (process m j).pid
    → p.resume ≡ (process m j).resume
    → p.quantum_end ≡ (process m j).quantum_end
    → Woke m 0 (wake_waitr j (with_process j p m))
told j p m a b c d =
    let after : Machine = with_process j p m in
    subst (λ (v : View). Wakes v (wake_waitr j after).readied 0 (view (wake_waitr j after).machine)) (view-kept j p m a b c d) (wake_waitr-wakes j after)

-- `tell_parent` wakes the parent at most.
pub tell_parent-wakes : (child : Process) (status : List ℕ) (m : Machine) → Woke m 0 (tell_parent child status m)
unfolding open_update tell_parent
tell_parent-wakes child status m = go (found child.parent m) refl
  where
    go : (o : Option ℕ) → found child.parent m ≡ o → Woke m 0 (tell_parent child status m)
    go none e = rw (e, tell_parent) nobody
    go (some j) e = room (has_room p) refl
      where
        p : Process
        p = with_nchild ((process m j).nchild - 1) (process m j)

        room : (b : Bool) → has_room p ≡ b → Woke m 0 (tell_parent child status m)
        room true h = rw (e, tell_parent, h) (told j _ m refl refl refl refl)
        room false h = rw (e, tell_parent, h) (rw (view-kept j p m refl refl refl refl) nobody)

twakeup-wakes : (call : Resume) (m : Machine) → Woke m 0 (twakeup call m)
unfolding twakeup
twakeup-wakes nothing m = nobody
twakeup-wakes (in_sleep r c) m = nobody
twakeup-wakes (in_tsleep r c) m = wake-wakes r m
twakeup-wakes (in_qlock q) m = nobody
twakeup-wakes in_wait m = nobody

-- Timer 0 ticks; any other timer wakes at most.
callback-wakes : (t : ℕ) (m : Machine) → Woke m (if eqb t 0 then 1 else 0) (callback t m)
unfolding callback with_ticks open_machine
callback-wakes t m = go (eqb t 0) (ltb t m.sizes.timers)
  where
    go
        : (a b : Bool)
        → Woke m (if a then 1 else 0)
        (if a
        then record { machine = with_ticks (suc m.ticks) m; readied = [] }
        else if b then wake (setting m t).rendez m else twakeup (process m (t - m.sizes.timers)).resume m)
    go true b = ticking
    go false true = wake-wakes (setting m t).rendez m
    go false false = twakeup-wakes (process m (t - m.sizes.timers)).resume m

readd-view : (x : Queued) (m : Machine) → view (readd x m) ≡ view m
unfolding readd with_queued open_machine
readd-view x m = go (eqb (period_of x.timer m) 0) refl
  where
    go : (b : Bool) → eqb (period_of x.timer m) 0 ≡ b → view (readd x m) ≡ view m
    go true e = rw (e, readd)
    go false e = rw (e, readd)

-- What some firings have done.
pub record Fires (f g : Firing) : Type 0 where
  pub woken : List ℕ
  pub ticked : ℕ
  pub wakes : Wakes (view f.machine) woken ticked (view g.machine)
  pub readied : g.readied ≡ f.readied ++ woken
  pub ticks : g.ticks ≡ f.ticks + ticked

fires-not : (f : Firing) → Fires f f
fires-not f = record { woken = []; ticked = 0; wakes = nobody; readied = sym (append-nil f.readied); ticks = omega arith }

fires-next : {f g h : Firing} → Fires f g → Fires g h → Fires f h
fires-next {f} {g} {h} a b =
    record {
      woken = a.woken ++ b.woken;
      ticked = a.ticked + b.ticked;
      wakes = a.wakes next b.wakes;
      readied = b.readied ∙ ap (λ (l : List ℕ). l ++ b.woken) a.readied ∙ append_assoc f.readied a.woken b.woken;
      ticks = omega (arith, a.ticks, b.ticks);
    }

fire-fires : (x : Queued) (rest : List Queued) (f : Firing) → Fires f (fire x rest f)
unfolding fire with_queued open_machine
fire-fires x rest f =
    let m : Machine = with_queued rest f.machine in
    let w : Woken = callback x.timer m in
    record {
      woken = w.readied;
      ticked = if eqb x.timer 0 then 1 else 0;
      wakes = subst (λ (v : View). Wakes (view m) w.readied (if eqb x.timer 0 then 1 else 0) v) (sym (readd-view x w.machine)) (callback-wakes x.timer m);
      readied = refl;
      ticks = go (eqb x.timer 0);
    }
  where
    go : (b : Bool) → (if b then suc f.ticks else f.ticks) ≡ f.ticks + (if b then 1 else 0)
    go true = omega arith
    go false = omega arith

fire_due-fires : (n now : ℕ) (f : Firing) → Fires f (fire_due n now f)
unfolding fire_due
fire_due-fires zero now f = fires-not f
fire_due-fires (suc n) now f = go f.machine.queued (λ (g : Firing). fire_due-fires n now g)
  where
    fires : (x : Queued) (rest : List Queued) → ((g : Firing) → Fires g (fire_due n now g)) → (b : Bool)
        → Fires f (elim b as (λ (c : Bool). Firing) [ true ↦ fire_due n now (fire x rest f) | false ↦ f ])
    fires x rest more true = fires-next (fire-fires x rest f) (more (fire x rest f))
    fires x rest more false = fires-not f

    go : (q : List Queued) → ((g : Firing) → Fires g (fire_due n now g))
        → Fires f
        (elim q as (λ (c : List Queued). Firing) [
          | [] ↦ f
          | x ∷ rest ↦ elim (leb x.deadline now) as (λ (c : Bool). Firing) [ true ↦ fire_due n now (fire x rest f) | false ↦ f ]
        ])
    go [] more = fires-not f
    go (x ∷ rest) more = fires x rest more (leb x.deadline now)

-- `interrupt` wakes and ticks, and says whom and how often.
pub interrupt-wakes : (now : ℕ) (m : Machine) → Wakes (view m) (interrupt now m).readied (interrupt now m).ticks (view (interrupt now m).machine)
unfolding interrupt
interrupt-wakes now m =
    let f : Fires (record { machine = m; count = 0; ticks = 0; readied = [] }) (interrupt now m) = fire_due-fires (firings_owed now m.queued) now (record { machine = m; count = 0; ticks = 0; readied = [] }) in
    let t : (interrupt now m).ticks ≡ f.ticked = omega (arith, f.ticks) in
    rw (f.readied, t) f.wakes
