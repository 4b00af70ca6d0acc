-- Whether a timer is queued.
use Rattle.std.specs.Prelude.{if◌then◌else◌, ◌≡◌, refl, Bool, true, false, not, List, [], ◌∷◌, ℕ, ◌+◌, eqb}
use Rattle.std.proofs.Common.{sym, ap, ◌∙◌, eqb-true, eq-eqb, ne_eqb, arith}
use Rattle.std.proofs.Math.Option.{Option, none, some}
use Rattle.std.proofs.lemmas.Bool.{eqb-false}
use Rattle.machine.specs.Basics.{is_some, count, first_that}
use Rattle.machine.specs.Machine.{Queued}
use Rattle.machine.specs.Timers.{is_queued}
use Rattle.state.specs.Fields as fields
use Rattle.state.specs.Abs.{is_set, machine_of}
use Rattle.state.specs.Places.{mem_in}
use Rattle.state.specs.declared.Sizes.{Sizes}
use Rattle.timers.specs.Find.{queue_in}
use Rattle.timers.specs.Entries.{entries}
use Rattle.timer.specs.Del.{machine_in, TimerAsks}

-- The answer is the machine's.
pub record IsQueued (z : Sizes) (s : List ℕ) (t : ℕ) (r : Bool) : Type 0 where
  pub answer : r ≡ is_queued t (machine_in z s)

abbrev names : ℕ → Queued → Bool
names t x = eqb x.timer t

-- The machine looks for it in its queue, which is to count it.
first_count : (key : ℕ → ℕ) (t : ℕ) (xs : List ℕ) → is_some (first_that (names t) (entries key xs)) ≡ is_set (count t xs)
unfolding first_that count
first_count key t [] = refl
first_count key t (x ∷ xs) = go (eqb x t) refl (first_that (names t) (entries key xs)) refl (first_count key t xs)
  where
    go
        : (b : Bool)
        → eqb x t ≡ b
        → (o : Option ℕ)
        → first_that (names t) (entries key xs) ≡ o
        → is_some (first_that (names t) (entries key xs)) ≡ is_set (count t xs)
        → is_some (first_that (names t) (entries key (x ∷ xs))) ≡ is_set ((if eqb t x then 1 else 0) + count t xs)
    go true e o f h =
        let q : eqb t x ≡ true = eq-eqb t x (sym (eqb-true x t e)) in
        rw (e, first_that, q) (sym (ap (λ (b : Bool). not b) (ne_eqb (1 + count t xs) 0 (λ d. absurd (omega (arith, d))))))
    go false e none f h =
        let q : eqb t x ≡ false = ne_eqb t x (λ d. eqb-false x t e (sym d)) in
        let w : 0 + count t xs ≡ count t xs = omega arith in
        rw (e, first_that, f, q, w) (rw f at h)
    go false e (some i) f h =
        let q : eqb t x ≡ false = ne_eqb t x (λ d. eqb-false x t e (sym d)) in
        let w : 0 + count t xs ≡ count t xs = omega arith in
        rw (e, first_that, f, q, w) (rw f at h)

queued_of : (z : Sizes) (s : List ℕ) (t : ℕ) → TimerAsks z s t → is_queued t (machine_in z s) ≡ is_set (mem_in z s fields.is_queued t)
unfolding is_queued machine_of
queued_of z s t a =
    first_count (mem_in z s fields.deadline) t (queue_in z (mem_in z s))
    ∙ ap (λ (v : ℕ). is_set v) (sym (a.owing.holds.keeps.timed.queued t))

pub is_queued_lem : {z : Sizes} {s : List ℕ} {t : ℕ} {v : Bool} → TimerAsks z s t → v ≡ is_set (mem_in z s fields.is_queued t) → IsQueued z s t v
is_queued_lem {z} {s} {t} a e = record { answer = e ∙ sym (queued_of z s t a) }
