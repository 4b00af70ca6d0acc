-- What the loop over all records shows of their exits.
use Rattle.std.specs.Prelude.{if◌then◌else◌, ◌≡◌, refl, Option, Some, None, List, ℕ, ◌+◌, ◌*◌, ◌≤◌, ◌<◌}
use Rattle.std.proofs.Common.{sym, subst, ◌∙◌, add-one, arith, ne_eqb, below_more}
use Rattle.layout.specs.Memory.{Memory}
use Rattle.state.specs.Fields as fields
use Rattle.state.specs.Abs.{is_set}
use Rattle.state.specs.Places.{sizes_in}
use Rattle.state.specs.WellFormed.{Used}
use Rattle.state.specs.declared.Sizes.{Sizes}
use Rattle.rules.specs.Facts.{ExitsOk, sum_below}
use Rattle.rules.specs.Code.{mem_in, Whole}
use Rattle.rules.specs.Read.{field-most}
use Rattle.walks.specs.Counts.{Counts}

-- The exits that record i has, none where it is free; and that they are in order.
abbrev pub exit_count : Memory → ℕ → ℕ
exit_count m i = if is_set (m fields.pid i) then m fields.nexits i else 0

pub record ExitsFine (z : Sizes) (s : List ℕ) (i : ℕ) : Type 0 where
  pub fine : Used (mem_in z s) i → ExitsOk (sizes_in z) (mem_in z s) i

-- What is answered of one record: how many exits it has, no more than 128, where they are in order.
abbrev pub ExitsHere : Sizes → List ℕ → ℕ → Option ℕ → Type 0
ExitsHere z s i None = ExitsFine z s i → ⊥
ExitsHere z s i (Some k) = ExitsFine z s i × (k ≡ exit_count (mem_in z s) i) × (k ≤ 128)

pub exits-free : {z : Sizes} {s : List ℕ} {i p : ℕ} → p ≡ mem_in z s fields.pid i → p ≡ 0 → ExitsHere z s i (Some 0)
exits-free {z} {s} {i} {p} e f =
    let q : mem_in z s fields.pid i ≡ 0 = sym e ∙ f in
    (record { fine = λ u. absurd (omega (arith, q, u)) }, rw q refl, omega arith)

module _ {z : Sizes} {s : List ℕ} {i p : ℕ} (e : p ≡ mem_in z s fields.pid i) (ne : p ≡ 0 → ⊥) where
  pub exits-yes : {n : ℕ} → ∥ Whole z s ∥₁ → ExitsOk (sizes_in z) (mem_in z s) i → n ≡ mem_in z s fields.nexits i → ExitsHere z s i (Some n)
  exits-yes {n} w d f =
      (record { fine = λ u. d }, rw (ne_eqb (mem_in z s fields.pid i) 0 (λ h. ne (e ∙ h))) f, omega (arith, f, field-most w fields.nexits i))

  pub exits-no : (ExitsOk (sizes_in z) (mem_in z s) i → ⊥) → ExitsHere z s i None
  exits-no d f = d (f.fine (omega (arith, e, ne)))

-- The records below i are in order, and have n exits.
pub record ExitsSumming (z : Sizes) (s : List ℕ) (i n : ℕ) : Type 0 where
  pub within : i ≤ z.processes
  pub all : (k : ℕ) → k < i → ExitsFine z s k
  pub sum : n ≡ sum_below i (exit_count (mem_in z s))
  pub few : n ≤ 128 * i

abbrev pub AllExits : Sizes → List ℕ → Option ℕ → Type 0
AllExits z s r =
    Counts ((i : ℕ) → i < z.processes → Used (mem_in z s) i → ExitsOk (sizes_in z) (mem_in z s) i)
    (sum_below z.processes (λ i. if is_set (mem_in z s fields.pid i) then mem_in z s fields.nexits i else 0))
    r

pub exits-start : {z : Sizes} {s : List ℕ} → ExitsSumming z s 0 0
unfolding sum_below
exits-start = record { within = omega arith; all = λ k l. absurd (omega arith); sum = refl; few = omega arith }

module _ {z : Sizes} {s : List ℕ} {i n : ℕ} (t : ExitsSumming z s i n) where
  pub exits-more : {d : ℕ} → i < z.processes → ExitsHere z s i (Some d) → ExitsSumming z s (i + 1) (n + d)
  unfolding sum_below
  exits-more {d} l h =
      record {
        within = omega arith;
        all = below_more (ExitsFine z s) i t.all h.0;
        sum = rw (add-one, h.1, t.sum) refl;
        few = omega (arith, t.few, h.2);
      }

  pub exits-bad : i < z.processes → ExitsHere z s i None → AllExits z s None
  exits-bad l h f = h (record { fine = f i l })

  pub exits-end : z.processes ≤ i → AllExits z s (Some n)
  exits-end l =
      let q : i ≡ z.processes = omega (arith, t.within) in
      (λ k h. (t.all k (omega arith)).fine, subst (λ (e : ℕ). n ≡ sum_below e (exit_count (mem_in z s))) q t.sum)
