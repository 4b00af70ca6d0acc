-- What a timer does when it fires.
use Rattle.std.specs.Prelude.{if◌then◌else◌, ◌≡◌, refl, List, ℕ, ◌-◌, ◌≤◌, ◌<◌, eqb, ltb}
use Rattle.std.proofs.Common.{sym, ap, subst, ◌∙◌, arith, ne_eqb, lt-ltb, le-ltb}
use Rattle.machine.specs.Machine.{Machine, Setting, process, setting}
use Rattle.machine.specs.Places.{wake}
use Rattle.machine.specs.Timers.{twakeup, callback}
use Rattle.layout.specs.Memory.{Memory}
use Rattle.layout.specs.Writes.{Write}
use Rattle.state.specs.Fields as fields
use Rattle.state.specs.Abs.{machine_of}
use Rattle.state.specs.Places.{mem_in}
use Rattle.state.specs.WellFormed.{Used}
use Rattle.state.specs.declared.Sizes.{Sizes}
use Rattle.exact.specs.Bounds.{at_most}
use Rattle.exact.specs.Parts.{setting_of_lem}
use Rattle.timers.specs.Find.{timers_in}
use Rattle.holds.specs.Whole.{holds-bounds}
use Rattle.holds.specs.Did.{machine_in}
use Rattle.dat.specs.Rendez.{WakeAsks, Woke}
use Rattle.clockwork.specs.Stores.{Became}
use Rattle.clockwork.specs.Clock.{TickAsks, tick_stores, ticked}
use Rattle.outcome.specs.Stepped.{Well}
use Rattle.proc_intr.specs.declared.Whose.{Whose}
use Rattle.proc_intr.specs.declared.Whose.TheVariants.{Clock, Kernel, Process}
use Rattle.proc_intr.specs.Readies.{link_stores, Readies, readies_woke, readies_as}
use Rattle.proc_intr.specs.Twakeup.{TwakeupAsks, Twoken}

-- `callback` of timer t; where it is a process's own, the process lives.
pub record CallbackAsks (z : Sizes) (s : List ℕ) (t : ℕ) : Type 0 where
  pub well : Well z s
  pub index : t < timers_in z
  pub lives : z.timers ≤ t → Used (mem_in z s) (t - z.timers)

-- Whose timer t is, of K kernel timers.
abbrev pub WhoseIs : ℕ → ℕ → Whose → Type 0
WhoseIs K t Clock = t ≡ 0
WhoseIs K t Kernel = (t ≡ 0 → ⊥) × (t < K)
WhoseIs K t (Process i) = (t ≡ 0 → ⊥) × (K ≤ t) × (i ≡ t - K)

-- The Rendez that timer t, other than timer 0, wakes.
abbrev pub rendez_of : Sizes → Memory → ℕ → ℕ
rendez_of z m t = if ltb t z.timers then m fields.timer_rendez t else m fields.resume_object (t - z.timers)

-- The stores, where it woke whom the link l names.
abbrev pub callback_stores : Sizes → Memory → (t l : ℕ) → List Write
callback_stores z m t l = if eqb t 0 then tick_stores m else link_stores m (rendez_of z m t) l

-- It did what the machine's `callback` does; l is the link to whom it woke, 0 for nobody.
pub record CalledBack (z : Sizes) (s s' : List ℕ) (t l : ℕ) : Type 0 where
  pub did : Readies z s s' (callback_stores z (mem_in z s) t l) (callback t (machine_in z s)) l

-- It did so, whoever it woke.
pub record DidCallback (z : Sizes) (s s' : List ℕ) (t : ℕ) : Type 0 where
  pub woke : ℕ
  pub took : CalledBack z s s' t woke

pub callback-ticks : {z : Sizes} {s : List ℕ} {t : ℕ} → CallbackAsks z s t → TickAsks z s
unfolding machine_of
callback-ticks a =
    record {
      owing = record { owed = 0; holds = a.well.holds };
      room = omega (arith, a.well.good.ticks, a.well.good.in_range.last_now);
    }

-- Timer 0.
pub called-tick
    : {z : Sizes} {s s' : List ℕ} {t : ℕ}
    → CallbackAsks z s t
    → t ≡ 0
    → Became z s s' (tick_stores (mem_in z s)) (ticked (machine_in z s))
    → CalledBack z s s' t 0
unfolding callback
called-tick {z} {s} {s'} {t} a e b =
    record {
      did = record {
        holds = b.holds;
        bytes = rw e b.wrote.bytes;
        machine = rw e b.machine;
        readied = rw e;
        flags = ap (λ (x : Memory). x fields.is_queued) b.memory;
        periods = ap (λ (x : Memory). x fields.period) b.memory;
        touched = b.touched;
      };
    }

-- A process's own.
pub callback-own : {z : Sizes} {s : List ℕ} {t i : ℕ} → CallbackAsks z s t → WhoseIs z.timers t (Process i) → TwakeupAsks z s i
callback-own {z} {s} a h =
    subst (TwakeupAsks z s) (sym h.2) (record { well = a.well; index = omega (arith, a.index, h.1); lives = a.lives h.1 })

own-callback
    : (M : Machine) (t : ℕ) → (t ≡ 0 → ⊥) → M.sizes.timers ≤ t → callback t M ≡ twakeup (process M (t - M.sizes.timers)).resume M
unfolding callback
own-callback M t ne l = rw (ne_eqb t 0 ne, le-ltb t M.sizes.timers l)

pub called-own
    : {z : Sizes} {s s' : List ℕ} {t i l : ℕ}
    → CallbackAsks z s t
    → WhoseIs z.timers t (Process i)
    → Twoken z s s' i l
    → CalledBack z s s' t l
unfolding machine_of
called-own {z} {s} {s'} {t} {i} {l} a h x =
    let w : Twoken z s s' (t - z.timers) l = subst (λ (j : ℕ). Twoken z s s' j l) h.2 x in
    record { did = readies_as w.did (rw (ne_eqb t 0 h.0, le-ltb t z.timers h.1)) (own-callback (machine_in z s) t h.0 h.1) }

-- A kernel timer.
pub callback-wakes
    : {z : Sizes} {s : List ℕ} {t r : ℕ} → CallbackAsks z s t → r ≡ mem_in z s fields.timer_rendez t → WakeAsks z s r
callback-wakes {z} {s} {t} a e =
    record {
      owed = 0;
      holds = a.well.holds;
      index = omega (arith, e, at_most (holds-bounds a.well.holds) fields.timer_rendez t, a.well.holds.sizes.rendez.0);
    }

kernel_callback : (M : Machine) (t : ℕ) → (t ≡ 0 → ⊥) → t < M.sizes.timers → callback t M ≡ wake (setting M t).rendez M
unfolding callback
kernel_callback M t ne l = rw (ne_eqb t 0 ne, lt-ltb t M.sizes.timers l)

pub called_kernel
    : {z : Sizes} {s s' : List ℕ} {t r l : ℕ}
    → CallbackAsks z s t
    → WhoseIs z.timers t Kernel
    → r ≡ mem_in z s fields.timer_rendez t
    → Woke z s s' r l
    → CalledBack z s s' t l
unfolding machine_of
called_kernel {z} {s} {s'} {t} {r} {l} a h e w =
    let M : Machine = machine_in z s in
    let x : (setting M t).rendez ≡ r = ap (λ (y : Setting). y.rendez) (setting_of_lem (holds-bounds a.well.holds) t h.1) ∙ sym e in
    record {
      did =
          readies_as (readies_woke (wake r M) w refl)
          (rw (ne_eqb t 0 h.0, lt-ltb t z.timers h.1) (ap (λ (y : ℕ). link_stores (mem_in z s) y l) e))
          (kernel_callback M t h.0 h.1 ∙ ap (λ (y : ℕ). wake y M) x);
    }
