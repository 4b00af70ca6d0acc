-- tsleep of a process that runs: a number is met, or it goes by the condition and the Rendez.
use Rattle.std.specs.Prelude.{if◌then◌else◌, ◌≡◌, refl, Bool, true, false, ◌&&◌, List, ℕ, ◌+◌, eqb, Result, Err}
use Rattle.std.proofs.Common.{sym, ap, subst, ◌∙◌, arith, Fits}
use Rattle.std.proofs.Math.Bool.{and-false}
use Rattle.std.proofs.Math.Option.{Option, none, some}
use Rattle.std.specs.Int.{w8, w64}
use Rattle.clock.specs.Counts.{counts_of, zero_duration}
use Rattle.clock.specs.declared.Duration.{Duration}
use Rattle.machine.specs.Basics.{is_none}
use Rattle.machine.specs.Machine.{Machine}
use Rattle.machine.specs.Step.{tsleep, open_step}
use Rattle.machine.specs.Table.{refusal, taken, bad_now, long_counts, open_table}
use Rattle.machine.specs.Outcome.{Outcome}
use Rattle.machine.specs.Timers.{own_timer}
use Rattle.machine.specs.Perform.{perform, open_perform}
use Rattle.machine.specs.StepOf.{left_by}
use Rattle.state.specs.Abs.{link_to, machine_of}
use Rattle.state.specs.declared.Sizes.{Sizes}
use Rattle.holds.specs.Did.{machine_in}
use Rattle.outcome.specs.declared.Reply as code
use Rattle.outcome.specs.declared.Refusal.{Refusal}
use Rattle.outcome.specs.declared.Refusal.TheVariants.{RendezTaken}
use Rattle.outcome.specs.Means.{number, told, status_of}
use Rattle.outcome.specs.Stepped.{left_bytes}
use Rattle.outcome.specs.Laws.{stepped-done, stepped-refused}
use Rattle.outcome.specs.Refusals.{step}
use Rattle.outcome.specs.RefusalsTsleep.{refusal-tsleep}
use Rattle.outcome.specs.Room.{well-room}
use Rattle.outcome.specs.Running.{current-is}
use Rattle.proc_timer.specs.declared.Deadline.{Deadline}
use Rattle.proc_timer.specs.Counting.{number_for, CountedTo, DeadlineFor, NotCounted}
use Rattle.proc_timer.specs.For.{ForAsks, for_of, Came, SleptFor}
use Rattle.proc_timer.specs.Tsleep.{Tslept, tsleep-range, RunningAsks}

up_is : {z : Sizes} {s : List ℕ} {i r : ℕ} {d : Duration} → RunningAsks z s i r d → (machine_in z s).up ≡ some i
unfolding machine_of
up_is a = ap link_to a.runs

-- The first number, or else the second.
abbrev first : Option ℕ → Option ℕ → Option ℕ
first (some x) o = some x
first none o = o

first-number
    : (a b c : Bool) (o : Option ℕ)
    → (if a then some 7 else if b then some 8 else if c then some 9 else o)
    ≡ first (if a then some 7 else if b then some 8 else if c then some 9 else none) o
first-number true b c o = refl
first-number false true c o = refl
first-number false false true o = refl
first-number false false false o = refl

tsleep-number
    : {z : Sizes} {s : List ℕ} {i r c : ℕ} {d : Duration} {n : ℕ}
    → RunningAsks z s i r d
    → Fits w64 d.secs
    → Fits w64 n
    → Fits w8 c
    → refusal (machine_in z s) (step false (tsleep r c d.secs d.nanos n))
    ≡ first (number_for (machine_in z s) 0 d.secs d.nanos n) (if taken (machine_in z s) r c then some 5 else none)
tsleep-number {z} {s} {i} {r} {c} {d} {n} a x y f =
    let m : Machine = machine_in z s in
    let up : is_none m.up ≡ false = ap (is_none {A = ℕ}) (up_is a) in
    refusal-tsleep m false r c d.secs d.nanos n
    ∙ rw (tsleep-range a.asks f x y, up)
    (first-number (zero_duration d.secs d.nanos) (bad_now m n) (long_counts m d.secs d.nanos) (if taken m r c then some 5 else none))

-- A number is met.
pub tsleep-refused
    : {z : Sizes} {s : List ℕ} {i r c : ℕ} {d : Duration} {n : ℕ} {e : Refusal}
    → RunningAsks z s i r d
    → Fits w8 c
    → NotCounted z s 0 d n e
    → Tslept z s s false r c d n (Err e)
unfolding left_by left_bytes open_table open_step
tsleep-refused {z} {s} {i} {r} {c} {d} {n} {e} a f x =
    let o : eqb (number e) 11 && false ≡ false = and-false (eqb (number e) 11) in
    record {
      stepped =
          stepped-refused
          (tsleep-number a x.secs x.reading f ∙ ap (λ (v : Option ℕ). first v (if taken (machine_in z s) r c then some 5 else none)) x.number)
          a.asks.well.holds (rw o) (rw o);
    }

-- None is: it goes by the condition and the Rendez.
pub tsleep-asks
    : {z : Sizes} {s : List ℕ} {i r : ℕ} {d : Duration} {n : ℕ} {at : Deadline}
    → RunningAsks z s i r d
    → DeadlineFor z s 0 d n at
    → ForAsks z s i r at.reading at.counts
tsleep-asks a x =
    record {
      up = record { holds = a.asks.well.holds; runs = a.runs };
      index = a.asks.index;
      room = well-room a.asks.well;
      small = omega (arith, x.reading, x.counted.lasts.small);
      few = x.counted.lasts.few;
    }

tsleep-is
    : (m : Machine) (i r c S N n counts : ℕ)
    → m.up ≡ some i
    → counts ≡ counts_of m.sizes.hz S N
    → perform (tsleep r c S N n) m ≡ for_of m (own_timer i m) i r c n counts
unfolding open_perform
tsleep-is m i r c S N n counts u e =
    ap (λ (j : ℕ). for_of m (own_timer j m) j r c n (counts_of m.sizes.hz S N)) (current-is m i u) ∙ ap (for_of m (own_timer i m) i r c n) (sym e)

tsleep-counted
    : {z : Sizes} {s s₁ : List ℕ} {i r c : ℕ} {d : Duration} {n counts : ℕ} {a : Result code.Reply Refusal}
    → RunningAsks z s i r d
    → Fits w8 c
    → CountedTo z s 0 d n counts
    → SleptFor z s s₁ i r c n counts a
    → Tslept z s s₁ false r c d n a
unfolding left_by left_bytes status_of machine_of own_timer
tsleep-counted {z} {s} {s₁} {i} {r} {c} {d} {n} {counts} {a} x f q y = go (taken m r c) refl
  where
    m : Machine
    m = machine_in z s

    number : (t : Bool) → taken m r c ≡ t → refusal m (step false (tsleep r c d.secs d.nanos n)) ≡ (if t then some 5 else none)
    number t g =
        tsleep-number x q.secs q.reading f
        ∙ ap (λ (v : Option ℕ). first v (if taken m r c then some 5 else none)) q.number
        ∙ ap (λ (v : Bool). if◌then◌else◌ {A = Option ℕ} v (some 5) none) g

    is : perform (tsleep r c d.secs d.nanos n) m ≡ for_of m (own_timer i m) i r c n counts
    is = tsleep-is m i r c d.secs d.nanos n counts (up_is x) q.lasts.counts

    go : (t : Bool) → taken m r c ≡ t → Tslept z s s₁ false r c d n a
    go true g =
        let b : (a ≡ Err RendezTaken) × (s₁ ≡ s) = y.refused g in
        let t : Tslept z s s false r c d n (Err RendezTaken) = record { stepped = stepped-refused (number true g) x.asks.well.holds refl refl } in
        subst (λ (v : List ℕ). Tslept z s v false r c d n a) (sym b.1) (subst (Tslept z s s false r c d n) (sym b.0) t)
    go false g =
        let o : Came z s s₁ a (for_of m (z.timers + i) i r c n counts) = y.done g in
        record {
          stepped =
              stepped-done (number false g) o.holds o.spares (o.reply ∙ ap (λ (v : Outcome). v.reply) (sym is))
              (o.told ∙ ap (λ (v : Outcome). told v.reply) (sym is)) (o.machine ∙ ap (λ (v : Outcome). v.after) (sym is));
        }

pub tsleep_for
    : {z : Sizes} {s s₁ : List ℕ} {i r c : ℕ} {d : Duration} {n : ℕ} {at : Deadline} {a : Result code.Reply Refusal}
    → RunningAsks z s i r d
    → Fits w8 c
    → DeadlineFor z s 0 d n at
    → SleptFor z s s₁ i r c at.reading at.counts a
    → Tslept z s s₁ false r c d n a
tsleep_for {z} {s} {s₁} {i} {r} {c} {d} {n} {at} {a} x f q y =
    tsleep-counted x f q.counted (subst (λ (k : ℕ). SleptFor z s s₁ i r c k at.counts a) q.reading y)
