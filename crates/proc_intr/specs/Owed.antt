-- How many firings are owed at a reading: they fit 64 bits.
use Rattle.std.specs.Prelude.{◌≡◌, refl, Bool, true, false, List, [], ◌∷◌, ◌⊎◌, ℕ, suc, ◌*◌, ◌≤◌, ◌<◌, eqb, length}
use Rattle.std.proofs.Common.{sym, subst, inl, inr, arith, eqb-true}
use Rattle.std.proofs.lemmas.Bool.{eqb-false}
use Rattle.chain.specs.Lists.{Absent, distinct-fits}
use Rattle.chain.specs.Links.{Chain}
use Rattle.machine.specs.Machine.{Queued}
use Rattle.machine.specs.Timers.{firings_owed}
use Rattle.machine.specs.Good.{Good, Each}
use Rattle.layout.specs.Memory.{Memory}
use Rattle.state.specs.Fields as fields
use Rattle.state.specs.Places.{mem_in}
use Rattle.state.specs.declared.Sizes.{Sizes}
use Rattle.timers.specs.Find.{timers_in, queue_in}
use Rattle.timers.specs.Entries.{entries}
use Rattle.timers.specs.Insert.{queued_in, queued-machine}
use Rattle.holds.specs.Did.{machine_in}
use Rattle.proc_intr.specs.Due.{DueAsks}

-- How many firings the machine of the bytes owes at a reading.
abbrev pub owed_in : Sizes → List ℕ → ℕ → ℕ
owed_in z s reading = firings_owed reading (machine_in z s).queued

-- At a reading below 2^51 a queued timer owes at most 2^51 firings, and timer 0, whose deadline is past the ticks, one fewer.
owed-most
    : (reading ticks : ℕ) (key : ℕ → ℕ) (xs : List ℕ)
    → reading ≤ 2251799813685247
    → Each (λ (x : Queued). x.timer ≡ 0 → ticks < x.deadline) (entries key xs)
    → (Absent 0 xs × (firings_owed reading (entries key xs) ≤ length xs * 2251799813685248))
    ⊎ (firings_owed reading (entries key xs) < length xs * 2251799813685248)
unfolding firings_owed
owed-most reading ticks key [] l h = inl (tt, omega arith)
owed-most reading ticks key (x ∷ xs) l h = go (eqb x 0) refl (owed-most reading ticks key xs l h.1)
  where
    go
        : (b : Bool)
        → eqb x 0 ≡ b
        → (Absent 0 xs × (firings_owed reading (entries key xs) ≤ length xs * 2251799813685248))
        ⊎ (firings_owed reading (entries key xs) < length xs * 2251799813685248)
        → (Absent 0 (x ∷ xs) × (firings_owed reading (entries key (x ∷ xs)) ≤ length (x ∷ xs) * 2251799813685248))
        ⊎ (firings_owed reading (entries key (x ∷ xs)) < length (x ∷ xs) * 2251799813685248)
    go true e (inl r) = let d : ticks < key x = h.0 (eqb-true x 0 e) in inr (omega arith)
    go true e (inr r) = inr (omega arith)
    go false e (inl r) = inl (((λ q. eqb-false x 0 e (sym q)), r.0), omega arith)
    go false e (inr r) = inr (omega arith)

-- So the firings fit 64 bits: 4,096 kernel timers and as many of processes are 2^13.
owed-fits
    : (n reading ticks : ℕ) (key g : ℕ → ℕ) (h : ℕ) (xs : List ℕ)
    → 1 ≤ n
    → n ≤ 8192
    → Chain n g h xs
    → reading ≤ 2251799813685247
    → Each (λ (x : Queued). x.timer ≡ 0 → ticks < x.deadline) (entries key xs)
    → firings_owed reading (entries key xs) ≤ 18446744073709551615
owed-fits n reading ticks key g h xs a b c l e = go (owed-most reading ticks key xs l e)
  where
    go
        : (Absent 0 xs × (firings_owed reading (entries key xs) ≤ length xs * 2251799813685248))
        ⊎ (firings_owed reading (entries key xs) < length xs * 2251799813685248)
        → firings_owed reading (entries key xs) ≤ 18446744073709551615
    go (inl r) = let f : suc (length xs) ≤ n = distinct-fits n (0 ∷ xs) (r.0, c.distinct) (a, c.below) in omega arith
    go (inr r) = let f : length xs ≤ n = distinct-fits n xs c.distinct c.below in omega arith

pub owed-room : {z : Sizes} {s : List ℕ} {reading : ℕ} → DueAsks z s reading → owed_in z s reading ≤ 18446744073709551615
owed-room {z} {s} {reading} a =
    let m : Memory = mem_in z s in
    let g : Good (machine_in z s) = a.well.good in
    let q : (machine_in z s).queued ≡ queued_in z m = queued-machine z m in
    subst (λ (x : List Queued). firings_owed reading x ≤ 18446744073709551615) (sym q)
    (owed-fits (timers_in z) reading (machine_in z s).ticks (m fields.deadline) (m fields.timer_next) (m fields.timer_head 0) (queue_in z m)
    (omega (arith, a.well.holds.sizes.timers.0))
    (omega (arith, a.well.holds.sizes.timers.1, a.well.holds.sizes.processes.1))
    a.well.holds.keeps.timed.chain
    (omega (arith, a.last, g.in_range.last_now))
    (subst (Each (λ (x : Queued). x.timer ≡ 0 → (machine_in z s).ticks < x.deadline)) q g.tick))
