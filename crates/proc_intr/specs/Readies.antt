-- What waking on a Rendez does to the bytes and to the machine, and that it changes no timer.
use Rattle.std.specs.Prelude.{◌≡◌, refl, List, [], ℕ, zero, suc}
use Rattle.std.proofs.Common.{sym, ap, ◌∙◌}
use Rattle.machine.specs.Machine.{Machine}
use Rattle.machine.specs.Places.{Woken, wake}
use Rattle.layout.specs.Memory.{Memory}
use Rattle.layout.specs.Writes.{Write}
use Rattle.state.specs.Fields as fields
use Rattle.state.specs.Places.{mem_in}
use Rattle.state.specs.declared.Sizes.{Sizes}
use Rattle.holds.specs.Holds.{Holds}
use Rattle.holds.specs.Did.{machine_in, writes_in}
use Rattle.holds.specs.Touched.{Touched, touched_none}
use Rattle.dat.specs.Rendez.{Woke, wake_stores, pids_of}

-- The stores of a `wakeup` on Rendez r that woke whom the link l names, 0 for nobody.
abbrev pub link_stores : Memory → ℕ → ℕ → List Write
link_stores m r zero = []
link_stores m r (suc i) = wake_stores m r i

-- The stores ws made of the machine that of w, and who was readied for w is who the link l names. The timers' flags and periods stay.
pub record Readies (z : Sizes) (s s' : List ℕ) (ws : List Write) (w : Woken) (l : ℕ) : Type 0 where
  pub holds : (n : ℕ) → Holds z s n → Holds z s' n
  pub bytes : s' ≡ writes_in z s ws
  pub machine : machine_in z s' ≡ w.machine
  pub readied : pids_of (mem_in z s) l ≡ w.readied
  pub flags : mem_in z s' fields.is_queued ≡ mem_in z s fields.is_queued
  pub periods : mem_in z s' fields.period ≡ mem_in z s fields.period
  pub touched : Touched z s s'

-- Nobody is readied, and nothing else done.
abbrev pub idle : Machine → Woken
idle M = record { machine = M; readied = [] }

pub readies-none : {z : Sizes} {s : List ℕ} (w : Woken) → w ≡ idle (machine_in z s) → Readies z s s [] w 0
readies-none w e =
    record {
      holds = λ n h. h;
      bytes = refl;
      machine = ap (λ (x : Woken). x.machine) (sym e);
      readied = ap (λ (x : Woken). x.readied) (sym e);
      flags = refl;
      periods = refl;
      touched = touched_none;
    }

-- What a `wakeup` leaves: its stores, and the timers.
record Left (z : Sizes) (s s' : List ℕ) (r l : ℕ) : Type 0 where
  bytes : s' ≡ writes_in z s (link_stores (mem_in z s) r l)
  flags : mem_in z s' fields.is_queued ≡ mem_in z s fields.is_queued
  periods : mem_in z s' fields.period ≡ mem_in z s fields.period

left : {z : Sizes} {s s' : List ℕ} {r l : ℕ} → Woke z s s' r l → Left z s s' r l
left {z} {s} {s'} {r} {l} k = go l refl
  where
    go : (v : ℕ) → l ≡ v → Left z s s' r v
    go zero q =
        let b : s' ≡ s = k.nobody q in
        record { bytes = b; flags = ap (λ (x : List ℕ). mem_in z x fields.is_queued) b; periods = ap (λ (x : List ℕ). mem_in z x fields.period) b }
    go (suc i) q =
        record {
          bytes = (k.somebody i q).bytes;
          flags = ap (λ (x : Memory). x fields.is_queued) (k.somebody i q).memory;
          periods = ap (λ (x : Memory). x fields.period) (k.somebody i q).memory;
        }

pub readies_woke
    : {z : Sizes} {s s' : List ℕ} {r l : ℕ} (w : Woken)
    → Woke z s s' r l
    → w ≡ wake r (machine_in z s)
    → Readies z s s' (link_stores (mem_in z s) r l) w l
readies_woke w k e =
    record {
      holds = k.holds;
      bytes = (left k).bytes;
      machine = k.machine ∙ ap (λ (x : Woken). x.machine) (sym e);
      readied = k.readied ∙ ap (λ (x : Woken). x.readied) (sym e);
      flags = (left k).flags;
      periods = (left k).periods;
      touched = k.touched;
    }

-- The same, said of other stores and of another word for the machine's part.
pub readies_as
    : {z : Sizes} {s s' : List ℕ} {ws ws' : List Write} {w v : Woken} {l : ℕ}
    → Readies z s s' ws w l
    → ws ≡ ws'
    → v ≡ w
    → Readies z s s' ws' v l
readies_as {z} {s} {s'} {l = l} r d e =
    record {
      holds = r.holds;
      bytes = r.bytes ∙ ap (writes_in z s) d;
      machine = r.machine ∙ ap (λ (x : Woken). x.machine) (sym e);
      readied = r.readied ∙ ap (λ (x : Woken). x.readied) (sym e);
      flags = r.flags;
      periods = r.periods;
      touched = r.touched;
    }
