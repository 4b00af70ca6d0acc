-- Every field is in range exactly where each group of columns is: the other fields are as wide as their maxima.
use Rattle.std.specs.Prelude.{if◌then◌else◌, ◌≡◌, refl, Bool, true, false, IsTrue, ◌↔◌, List, ℕ, zero, suc, ◌^◌, ◌≤◌, ◌<◌, ltb, length, get_or}
use Rattle.std.proofs.Common.{subst, arith, not-suc-le-zero, ltb-true, ltb-false}
use Rattle.memory.specs.Le.{le, le-bound}
use Rattle.layout.specs.Table.{Slot, slot, count, place}
use Rattle.layout.specs.Memory.{cell, mem-past, Ranged}
use Rattle.layout.specs.Writes.{State}
use Rattle.state.specs.Fields.{layout1, counts, most_of}
use Rattle.state.specs.Places.{sizes_in, total_in, mem_in, cell_in}
use Rattle.state.specs.declared.Sizes.{Sizes}
use Rattle.bounds.specs.Column.{Column, Within}
use Rattle.bounds.specs.Groups.{All, heads, ends, links, states, locks, timers, cells}

-- The bytes are below 256.
abbrev pub Bytes : List ℕ → Type 0
Bytes s = (k : ℕ) → get_or s k 0 < 256

abbrev pub StateIn : Sizes → List ℕ → Type 0
StateIn z s = State layout1 (most_of (sizes_in z)) (counts (sizes_in z)) s

-- All groups.
pub record Groups (z : Sizes) (s : List ℕ) : Type 0 where
  pub heads : All z s (heads z)
  pub ends : All z s (ends z)
  pub links : All z s (links z)
  pub states : All z s (states z)
  pub locks : All z s (locks z)
  pub timers : All z s (timers z)
  pub cells : All z s (cells z)

pub groups_of : {z : Sizes} {s : List ℕ} → StateIn z s → Groups z s
unfolding Ranged All Within
groups_of {z} {s} t =
    let r : (f i : ℕ) → mem_in z s f i ≤ most_of (sizes_in z) f = t.ranged in
    record {
      heads = (λ i l. r 8 i, (λ i l. r 9 i, (λ i l. r 10 i, (λ i l. r 12 i, tt))));
      ends = (λ i l. r 13 i, (λ i l. r 14 i, tt));
      links = (λ i l. r 23 i, (λ i l. r 24 i, (λ i l. r 25 i, (λ i l. r 26 i, tt))));
      states = (λ i l. r 28 i, (λ i l. r 29 i, (λ i l. r 30 i, (λ i l. r 31 i, tt))));
      locks = (λ i l. r 35 i, (λ i l. r 36 i, (λ i l. r 37 i, (λ i l. r 38 i, tt))));
      timers = (λ i l. r 40 i, (λ i l. r 41 i, (λ i l. r 42 i, (λ i l. r 43 i, tt))));
      cells = (λ i l. r 45 i, (λ i l. r 46 i, (λ i l. r 47 i, (λ i l. r 49 i, tt))));
    }

-- A cell is below 256 to its width.
whole : (z : Sizes) (s : List ℕ) → Bytes s → (a : Slot) {v : ℕ} → suc v ≡ 256 ^ a.width → (i : ℕ) → cell_in z s a i ≤ v
unfolding cell
whole z s b a {v} e i = go (ltb i (count layout1 (counts (sizes_in z)) a.region))
  where
    go : (t : Bool) → (if t then le a.width s (place layout1 (counts (sizes_in z)) a i) else 0) ≤ v
    go true = omega (arith, le-bound a.width s (place layout1 (counts (sizes_in z)) a i) b)
    go false = omega arith

-- Past the last record of a region there is 0.
past_end
    : (z : Sizes) (s : List ℕ) (c : Column)
    → Within z s c
    → count layout1 (counts (sizes_in z)) c.place.region ≡ c.records
    → (i : ℕ)
    → cell_in z s c.place i ≤ c.most
unfolding cell Within
past_end z s c h e i = go (ltb i (count layout1 (counts (sizes_in z)) c.place.region)) refl
  where
    go
        : (t : Bool)
        → ltb i (count layout1 (counts (sizes_in z)) c.place.region) ≡ t
        → (if t then le c.place.width s (place layout1 (counts (sizes_in z)) c.place i) else 0) ≤ c.most
    go true q = rw q at (h i (omega (arith, ltb-true i (count layout1 (counts (sizes_in z)) c.place.region) q)))
    go false q = omega arith

-- What holds of each number below n.
abbrev Upto : (ℕ → Type 0) → ℕ → Type 0
Upto P zero = Unit {0}
Upto P (suc n) = Upto P n × P n

upto_at : (P : ℕ → Type 0) (n : ℕ) → Upto P n → (f : ℕ) → f < n → P f
upto_at P zero u f h = absurd (not-suc-le-zero h)
upto_at P (suc n) u f h = go (upto_at P n u.0 f) (ltb f n) refl
  where
    go : (f < n → P f) → (b : Bool) → ltb f n ≡ b → P f
    go r true e = r (ltb-true f n e)
    go r false e = let q : n ≡ f = omega (arith, ltb-false f n e) in subst P q u.1

abbrev FieldFits : Sizes → List ℕ → ℕ → Type 0
FieldFits z s f = (i : ℕ) → mem_in z s f i ≤ most_of (sizes_in z) f

-- The table, field by field.
each-field : (z : Sizes) (s : List ℕ) → Bytes s → Groups z s → Upto (FieldFits z s) 53
unfolding All
each-field z s b h =
    let t0 : Upto (FieldFits z s) 0 = tt in
    let t1 : Upto (FieldFits z s) 1 = (t0, whole z s b (slot 0 0 8) refl) in
    let t2 : Upto (FieldFits z s) 2 = (t1, whole z s b (slot 0 8 4) refl) in
    let t3 : Upto (FieldFits z s) 3 = (t2, whole z s b (slot 0 12 4) refl) in
    let t4 : Upto (FieldFits z s) 4 = (t3, whole z s b (slot 0 16 2) refl) in
    let t5 : Upto (FieldFits z s) 5 = (t4, whole z s b (slot 0 18 2) refl) in
    let t6 : Upto (FieldFits z s) 6 = (t5, whole z s b (slot 0 20 2) refl) in
    let t7 : Upto (FieldFits z s) 7 = (t6, whole z s b (slot 0 22 2) refl) in
    let t8 : Upto (FieldFits z s) 8 = (t7, whole z s b (slot 0 24 2) refl) in
    let t9 : Upto (FieldFits z s) 9 = (t8, past_end z s _ h.heads.0 refl) in
    let t10 : Upto (FieldFits z s) 10 = (t9, past_end z s _ h.heads.1.0 refl) in
    let t11 : Upto (FieldFits z s) 11 = (t10, past_end z s _ h.heads.1.1.0 refl) in
    let t12 : Upto (FieldFits z s) 12 = (t11, whole z s b (slot 0 32 2) refl) in
    let t13 : Upto (FieldFits z s) 13 = (t12, past_end z s _ h.heads.1.1.1.0 refl) in
    let t14 : Upto (FieldFits z s) 14 = (t13, past_end z s _ h.ends.0 refl) in
    let t15 : Upto (FieldFits z s) 15 = (t14, past_end z s _ h.ends.1.0 refl) in
    let t16 : Upto (FieldFits z s) 16 = (t15, whole z s b (slot 0 40 8) refl) in
    let t17 : Upto (FieldFits z s) 17 = (t16, whole z s b (slot 0 48 8) refl) in
    let t18 : Upto (FieldFits z s) 18 = (t17, whole z s b (slot 0 56 8) refl) in
    let t19 : Upto (FieldFits z s) 19 = (t18, whole z s b (slot 0 64 8) refl) in
    let t20 : Upto (FieldFits z s) 20 = (t19, whole z s b (slot 0 72 8) refl) in
    let t21 : Upto (FieldFits z s) 21 = (t20, whole z s b (slot 1 0 8) refl) in
    let t22 : Upto (FieldFits z s) 22 = (t21, whole z s b (slot 1 8 8) refl) in
    let t23 : Upto (FieldFits z s) 23 = (t22, whole z s b (slot 1 16 8) refl) in
    let t24 : Upto (FieldFits z s) 24 = (t23, past_end z s _ h.links.0 refl) in
    let t25 : Upto (FieldFits z s) 25 = (t24, past_end z s _ h.links.1.0 refl) in
    let t26 : Upto (FieldFits z s) 26 = (t25, past_end z s _ h.links.1.1.0 refl) in
    let t27 : Upto (FieldFits z s) 27 = (t26, past_end z s _ h.links.1.1.1.0 refl) in
    let t28 : Upto (FieldFits z s) 28 = (t27, whole z s b (slot 1 32 2) refl) in
    let t29 : Upto (FieldFits z s) 29 = (t28, past_end z s _ h.states.0 refl) in
    let t30 : Upto (FieldFits z s) 30 = (t29, past_end z s _ h.states.1.0 refl) in
    let t31 : Upto (FieldFits z s) 31 = (t30, past_end z s _ h.states.1.1.0 refl) in
    let t32 : Upto (FieldFits z s) 32 = (t31, past_end z s _ h.states.1.1.1.0 refl) in
    let t33 : Upto (FieldFits z s) 33 = (t32, whole z s b (slot 1 39 1) refl) in
    let t34 : Upto (FieldFits z s) 34 = (t33, whole z s b (slot 1 40 2) refl) in
    let t35 : Upto (FieldFits z s) 35 = (t34, whole z s b (slot 2 0 1) refl) in
    let t36 : Upto (FieldFits z s) 36 = (t35, past_end z s _ h.locks.0 refl) in
    let t37 : Upto (FieldFits z s) 37 = (t36, past_end z s _ h.locks.1.0 refl) in
    let t38 : Upto (FieldFits z s) 38 = (t37, past_end z s _ h.locks.1.1.0 refl) in
    let t39 : Upto (FieldFits z s) 39 = (t38, past_end z s _ h.locks.1.1.1.0 refl) in
    let t40 : Upto (FieldFits z s) 40 = (t39, whole z s b (slot 5 0 8) refl) in
    let t41 : Upto (FieldFits z s) 41 = (t40, past_end z s _ h.timers.0 refl) in
    let t42 : Upto (FieldFits z s) 42 = (t41, past_end z s _ h.timers.1.0 refl) in
    let t43 : Upto (FieldFits z s) 43 = (t42, past_end z s _ h.timers.1.1.0 refl) in
    let t44 : Upto (FieldFits z s) 44 = (t43, past_end z s _ h.timers.1.1.1.0 refl) in
    let t45 : Upto (FieldFits z s) 45 = (t44, whole z s b (slot 6 0 8) refl) in
    let t46 : Upto (FieldFits z s) 46 = (t45, past_end z s _ h.cells.0 refl) in
    let t47 : Upto (FieldFits z s) 47 = (t46, past_end z s _ h.cells.1.0 refl) in
    let t48 : Upto (FieldFits z s) 48 = (t47, past_end z s _ h.cells.1.1.0 refl) in
    let t49 : Upto (FieldFits z s) 49 = (t48, whole z s b (slot 7 0 1) refl) in
    let t50 : Upto (FieldFits z s) 50 = (t49, past_end z s _ h.cells.1.1.1.0 refl) in
    let t51 : Upto (FieldFits z s) 51 = (t50, whole z s b (slot 9 0 8) refl) in
    let t52 : Upto (FieldFits z s) 52 = (t51, whole z s b (slot 10 0 8) refl) in
    let t53 : Upto (FieldFits z s) 53 = (t52, whole z s b (slot 11 0 8) refl) in
    t53

pub state_of_lem : {z : Sizes} {s : List ℕ} → total_in z ≤ length s → Bytes s → Groups z s → StateIn z s
unfolding Ranged
state_of_lem {z} {s} l b h = record { long = l; ranged = λ f i. go f i (ltb f 53) refl }
  where
    go : (f i : ℕ) (t : Bool) → ltb f 53 ≡ t → mem_in z s f i ≤ most_of (sizes_in z) f
    go f i true e = upto_at (FieldFits z s) 53 (each-field z s b h) f (ltb-true f 53 e) i
    go f i false e = omega (arith, mem-past layout1 (counts (sizes_in z)) s f i (ltb-false f 53 e))

-- So the groups answer for the state.
pub groups-decide : {z : Sizes} {s : List ℕ} {t : Bool} → total_in z ≤ length s → Bytes s → IsTrue t ↔ Groups z s → IsTrue t ↔ StateIn z s
groups-decide l b d = (λ e. state_of_lem l b (d.0 e), λ x. d.1 (groups_of x))
