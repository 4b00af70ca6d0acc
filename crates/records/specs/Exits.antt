-- Where a record that owns no message cell alone differs, the message cells are kept.
use Rattle.std.specs.Prelude.{◌≡◌, refl, List, [], ◌∷◌, ℕ, suc, length}
use Rattle.std.proofs.Common.{sym, ap, ◌∙◌, arith}
use Rattle.machine.specs.Basics.{elem, count}
use Rattle.machine.specs.Machine.{Sizes}
use Rattle.machine.specs.Good.{Each}
use Rattle.layout.specs.Memory.{Memory}
use Rattle.chain.specs.Links.{Chain}
use Rattle.state.specs.Fields as fields
use Rattle.state.specs.Abs.{exit_list}
use Rattle.state.specs.WellFormed.{Used, Cells}
use Rattle.exact.specs.Parts.{walk_none}
use Rattle.places.specs.Nowhere.{at_or_other}
use Rattle.records.specs.Else.{part_of, Else}

-- No cell names record i as its owner.
abbrev pub OwnsNone : Memory → ℕ → Type 0
OwnsNone m i = (c : ℕ) → m fields.owner c ≡ suc i → ⊥

-- A free record owns none, nor does one without exits.
pub free_owns : {z : Sizes} {m : Memory} {i : ℕ} → Cells z m → m fields.pid i ≡ 0 → OwnsNone m i
free_owns {i = i} k f c e = absurd (omega (arith, f, (k.owner c i e).0))

count-empty : (c : ℕ) (xs : List ℕ) → length xs ≡ 0 → count c xs ≡ 0
unfolding count
count-empty c [] e = refl
count-empty c (x ∷ xs) e = absurd (omega (arith, e))

pub empty_owns : {z : Sizes} {m : Memory} {i : ℕ} → Cells z m → Used m i → m fields.nexits i ≡ 0 → OwnsNone m i
empty_owns {m = m} {i = i} k u d c e =
    absurd (omega (arith, (k.owner c i e).1, count-empty c (exit_list m i) (k.counted i u ∙ d)))

-- The link of a record without exits.
pub exits-none : {z : Sizes} {m : Memory} {i : ℕ} → Cells z m → Used m i → m fields.nexits i ≡ 0 → m fields.exits i ≡ 0
exits-none {z} {m} {i} k u d = go (exit_list m i) (k.counted i u ∙ d) (k.chain i u)
  where
    go : (xs : List ℕ) → length xs ≡ 0 → Chain z.cells (m fields.cell_next) (m fields.exits i) xs → m fields.exits i ≡ 0
    go [] e c = c.links
    go (x ∷ xs) e c = absurd (omega (arith, e))

-- A record without exits has an empty list of them.
pub no-exits : (m : Memory) (i : ℕ) → m fields.exits i ≡ 0 → exit_list m i ≡ []
unfolding exit_list
no-exits m i e = walk_none 128 (m fields.cell_next) (m fields.exits i) e

-- What the exits of record j must be.
record ExitsOk (z : Sizes) (m : Memory) (j : ℕ) : Type 0 where
  chain : Chain z.cells (m fields.cell_next) (m fields.exits j) (exit_list m j)
  counted : length (exit_list m j) ≡ m fields.nexits j
  owned : Each (λ c. m fields.owner c ≡ suc j) (exit_list m j)

-- The record has no process then, or one without exits.
pub else_cells
    : {z : Sizes} {m m' : Memory} {i : ℕ}
    → Else m m' i
    → OwnsNone m i
    → (Used m' i → (m' fields.exits i ≡ 0) × (m' fields.nexits i ≡ 0))
    → Cells z m
    → Cells z m'
unfolding part_of elem exit_list
else_cells {z} {m} {m'} {i} e none empty k =
    record {
      chain = λ j u. (ok j u).chain;
      counted = λ j u. (ok j u).counted;
      owned = λ j u. (ok j u).owned;
      owner = λ c j d.
          let d' : m fields.owner c ≡ suc j = sym (ap (λ (g : ℕ → ℕ). g c) (e.same fields.owner refl)) ∙ d in
          let ne : i ≡ j → ⊥ = λ x. none c (d' ∙ ap suc (sym x)) in
          (omega (arith, (k.owner c j d').0, e.other fields.pid j refl ne), rw (list j ne) (k.owner c j d').1);
    }
  where
    list : (j : ℕ) → (i ≡ j → ⊥) → exit_list m' j ≡ exit_list m j
    list j ne = rw (e.same fields.cell_next refl, e.other fields.exits j refl ne)

    here : Used m' i → ExitsOk z m' i
    here u =
        let x : exit_list m' i ≡ [] = no-exits m' i (empty u).0 in
        record {
          chain = rw x (record { links = (empty u).0; distinct = tt; below = tt });
          counted = ap length x ∙ sym (empty u).1;
          owned = rw x tt;
        }

    there : (j : ℕ) → (i ≡ j → ⊥) → Used m' j → ExitsOk z m' j
    there j ne u =
        let v : Used m j = omega (arith, u, e.other fields.pid j refl ne) in
        record {
          chain = rw (list j ne, e.same fields.cell_next refl, e.other fields.exits j refl ne) (k.chain j v);
          counted = rw (list j ne, e.other fields.nexits j refl ne) (k.counted j v);
          owned = rw (list j ne, e.same fields.owner refl) (k.owned j v);
        }

    ok : (j : ℕ) → Used m' j → ExitsOk z m' j
    ok = at_or_other (λ (j : ℕ). Used m' j → ExitsOk z m' j) i here there
