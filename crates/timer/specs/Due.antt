-- The head of the queue is taken off where it is due.
use Rattle.std.specs.Prelude.{◌≡◌, refl, List, [], ◌∷◌, ℕ, zero, suc, ◌-◌, ◌≤◌, ◌<◌}
use Rattle.std.proofs.Common.{sym, ap, subst, ◌∙◌, arith}
use Rattle.machine.specs.Machine.{Machine, Queued}
use Rattle.machine.specs.Timers.{delete, remove}
use Rattle.machine.specs.Update.{with_queued}
use Rattle.layout.specs.Memory.{Memory, Ranged}
use Rattle.layout.specs.Writes.{Write}
use Rattle.chain.specs.Links.{Chain, alter-other}
use Rattle.state.specs.Fields as fields
use Rattle.state.specs.Abs.{timer_list}
use Rattle.state.specs.Places.{mem_in, Wrote}
use Rattle.state.specs.declared.Sizes.{Sizes}
use Rattle.timers.specs.Find.{timers_in, queue_in, from_link}
use Rattle.timers.specs.Entries.{entries}
use Rattle.timers.specs.Insert.{queued_in, queued-machine}
use Rattle.exact.specs.Parts.{walk_none}
use Rattle.holds.specs.Holds.{Holds}
use Rattle.holds.specs.Use.{kin-same, calm-none, Fewer}
use Rattle.holds.specs.Touched.{Spares, spares-none}
use Rattle.timer.specs.Only.{Owing}
use Rattle.timer.specs.Del.{machine_in, del_stores, del_mem, Deleted}
use Rattle.timer.specs.Pop.{PopAsks, pop-asks, split-head, head-on, remove-head}

-- The stores, and the memory then, where the answer is r: a link to the timer that was due, or 0.
abbrev pub pop_stores : Sizes → Memory → ℕ → List Write
pop_stores z m zero = []
pop_stores z m (suc t) = del_stores z m t

abbrev pub pop_mem : Sizes → Memory → ℕ → Memory
pop_mem z m zero = m
pop_mem z m (suc t) = del_mem z m t

-- The queue is empty, or its head is later than a reading.
abbrev pub Later : ℕ → List Queued → Type 0
Later reading [] = Unit {0}
Later reading (x ∷ rest) = reading < x.deadline

-- The machine's queue began with timer t at a deadline d that is due at a reading, and M' has the rest of it.
pub record HeadDue (M M' : Machine) (reading t d : ℕ) : Type 0 where
  pub rest : List Queued
  pub queue : M.queued ≡ record { timer = t; deadline = d } ∷ rest
  pub due : d ≤ reading
  pub machine : M' ≡ with_queued rest M

pub record PoppedDue (z : Sizes) (s s' : List ℕ) (reading r : ℕ) : Type 0 where
  pub holds : (n : ℕ) → Holds z s n → Holds z s' n
  pub owing : Owing z s'
  pub wrote : Wrote z s s' (pop_stores z (mem_in z s) r)
  pub memory : mem_in z s' ≡ pop_mem z (mem_in z s) r
  pub range : r ≤ timers_in z
  -- 0: nothing is due
  pub later : r ≡ 0 → Later reading (machine_in z s).queued
  -- t + 1: it was t, which is off the queue, and was on it
  pub head : (t : ℕ) → r ≡ suc t → HeadDue (machine_in z s) (machine_in z s') reading t (mem_in z s fields.deadline t)
  pub off : (t : ℕ) → r ≡ suc t → mem_in z s' fields.is_queued t ≡ 0
  pub on : (t : ℕ) → r ≡ suc t → 0 < mem_in z s fields.is_queued t
  pub others : (t : ℕ) → (r ≡ suc t → ⊥) → mem_in z s' fields.is_queued t ≡ mem_in z s fields.is_queued t
  pub periods : mem_in z s' fields.period ≡ mem_in z s fields.period
  pub spares : Spares z s s'
  pub fewer : Fewer z (mem_in z s) (mem_in z s')

-- What the code of `pop_due` shows: no head, a later one, and one that is due.
nothing-due : {z : Sizes} {s : List ℕ} {reading : ℕ} → Owing z s → Later reading (queued_in z (mem_in z s)) → PoppedDue z s s reading 0
nothing-due {z} {s} {reading} o l =
    record {
      holds = λ n h. h;
      owing = o;
      wrote = record { bytes = refl; long = o.holds.state.long };
      memory = refl;
      range = omega arith;
      later = λ e. subst (Later reading) (sym (queued-machine z (mem_in z s))) l;
      head = λ t e. absurd (omega (arith, e));
      off = λ t e. absurd (omega (arith, e));
      on = λ t e. absurd (omega (arith, e));
      others = λ t _. refl;
      periods = refl;
      spares = spares-none;
      fewer = record { fewer = λ f i e. e; kin = kin-same refl; calm = calm-none };
    }

pub popped-none : {z : Sizes} {s : List ℕ} {reading link : ℕ} → Owing z s → link ≡ mem_in z s fields.timer_head 0 → link ≡ 0 → PoppedDue z s s reading 0
unfolding timer_list
popped-none {z} {s} {reading} {link} o e n =
    let m : Memory = mem_in z s in
    let w : queue_in z m ≡ [] = walk_none (timers_in z) (m fields.timer_next) (m fields.timer_head 0) (sym e ∙ n) in
    nothing-due o (subst (λ (xs : List ℕ). Later reading (entries (m fields.deadline) xs)) (sym w) tt)

pub popped-later
    : {z : Sizes} {s : List ℕ} {reading link deadline : ℕ}
    → Owing z s
    → link ≡ mem_in z s fields.timer_head 0
    → (link ≡ 0 → ⊥)
    → deadline ≡ mem_in z s fields.deadline (link - 1)
    → reading < deadline
    → PoppedDue z s s reading 0
popped-later {z} {s} {reading} {link} o e ne q l =
    let m : Memory = mem_in z s in
    let w : queue_in z m ≡ (link - 1) ∷ from_link z m (m fields.timer_next (link - 1)) = split-head z s (link - 1) o (sym e ∙ omega arith) in
    nothing-due o (subst (λ (xs : List ℕ). Later reading (entries (m fields.deadline) xs)) (sym w) (rw q at l))

head-due
    : (z : Sizes) (s s' : List ℕ) (reading t : ℕ)
    → PopAsks z s t
    → mem_in z s fields.deadline t ≤ reading
    → Deleted z s s' t
    → HeadDue (machine_in z s) (machine_in z s') reading t (mem_in z s fields.deadline t)
unfolding delete timer_list
head-due z s s' reading t a l d =
    let m : Memory = mem_in z s in
    let ys : List ℕ = from_link z m (m fields.timer_next t) in
    let w : queue_in z m ≡ t ∷ ys = split-head z s t a.owing a.head in
    let c : Chain (timers_in z) (m fields.timer_next) (m fields.timer_head 0) (t ∷ ys) =
    subst (λ (xs : List ℕ). Chain (timers_in z) (m fields.timer_next) (m fields.timer_head 0) xs) w a.owing.holds.keeps.timed.chain
    in
    let q : (machine_in z s).queued ≡ entries (m fields.deadline) (t ∷ ys) = queued-machine z m ∙ ap (entries (m fields.deadline)) w in
    record {
      rest = entries (m fields.deadline) ys;
      queue = q;
      due = l;
      machine =
          d.machine
          ∙ ap (λ (xs : List Queued). with_queued (remove t xs) (machine_in z s)) q
          ∙ ap (λ (xs : List Queued). with_queued xs (machine_in z s)) (remove-head (m fields.deadline) t ys c.distinct.0);
    }

pub popped-due
    : {z : Sizes} {s s' : List ℕ} {reading link deadline : ℕ}
    → Owing z s
    → link ≡ mem_in z s fields.timer_head 0
    → (link ≡ 0 → ⊥)
    → deadline ≡ mem_in z s fields.deadline (link - 1)
    → deadline ≤ reading
    → Deleted z s s' (link - 1)
    → PoppedDue z s s' reading link
unfolding Ranged
popped-due {z} {s} {s'} {reading} {link} {deadline} o e ne q l d =
    let a : PopAsks z s (link - 1) = pop-asks o e ne in
    let f : HeadDue (machine_in z s) (machine_in z s') reading (link - 1) (mem_in z s fields.deadline (link - 1)) =
    head-due z s s' reading (link - 1) a (rw q at l) d
    in
    go (link - 1) link (omega arith) a.index d f (head-on a)
  where
    go
        : (t r : ℕ)
        → suc t ≡ r
        → t < timers_in z
        → Deleted z s s' t
        → HeadDue (machine_in z s) (machine_in z s') reading t (mem_in z s fields.deadline t)
        → 0 < mem_in z s fields.is_queued t
        → PoppedDue z s s' reading r
    go t r x i k f on =
        subst (λ (v : ℕ). PoppedDue z s s' reading v) x
        (record {
          holds = k.holds;
          owing = k.owing;
          wrote = k.wrote;
          memory = k.memory;
          range = i;
          later = λ y. absurd (omega (arith, y));
          head = λ u y.
              let h : t ≡ u = omega (arith, y) in
              subst (λ (v : ℕ). HeadDue (machine_in z s) (machine_in z s') reading v (mem_in z s fields.deadline v)) h f;
          off = λ u y. let h : t ≡ u = omega (arith, y) in subst (λ (v : ℕ). mem_in z s' fields.is_queued v ≡ 0) h k.off;
          on = λ u y. let h : t ≡ u = omega (arith, y) in subst (λ (v : ℕ). 0 < mem_in z s fields.is_queued v) h on;
          others = λ u ne.
              ap (λ (m : Memory). m fields.is_queued u) k.memory ∙ alter-other (mem_in z s fields.is_queued) t 0 u (λ e. ne (ap suc e));
          periods = ap (λ (m : Memory). m fields.period) k.memory;
          spares = k.spares;
          fewer = k.fewer;
        })
