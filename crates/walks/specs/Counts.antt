-- What is counted: a field of the first records, and what a function answers that decides and counts.
use Rattle.std.specs.Prelude.{◌≡◌, refl, Bool, true, false, not, List, Option, Some, None, IsTrue, ◌↔◌, ℕ, zero, suc, ◌+◌, ◌≤◌, eqb}
use Rattle.std.specs.Option.{option_eq}
use Rattle.std.proofs.Common.{sym, ap, ◌∙◌, add-one, arith, eq-eqb, ne_eqb, eqb-true}
use Rattle.std.proofs.lemmas.Bool.{false≢true, not-true, not-false}
use Rattle.memory.specs.Link.{link}
use Rattle.layout.specs.Table.{Slot, count}
use Rattle.layout.specs.Place.{Inside}
use Rattle.state.specs.Abs.{is_set}
use Rattle.state.specs.Fields as fields
use Rattle.state.specs.Fields.{layout1, counts}
use Rattle.state.specs.Places.{sizes_in}
use Rattle.state.specs.declared.Sizes.{Sizes}
use Rattle.rules.specs.Code.{mem_in, Whole}
use Rattle.rules.specs.Counting.{count_same}
use Rattle.rules.specs.Facts.{count_below}
use Rattle.rules.specs.Read.{field-most}

-- A field of the first n records of a region.
pub record Asks (z : Sizes) (a : Slot) (n : ℕ) : Type 0 where
  pub inside : Inside layout1 a
  pub records : n ≤ count layout1 (counts (sizes_in z)) a.region

-- One more was looked at.
pub count-none : (test : ℕ → Bool) → 0 ≡ count_below 0 test
unfolding count_below
count-none test = refl

pub count-yes : {i n v x : ℕ} (f : ℕ → ℕ) → n ≡ count_below i (λ k. is_set (f k)) → x ≡ v → v ≡ f i → (x ≡ 0 → ⊥) → n + 1 ≡ count_below (i + 1) (λ k. is_set (f k))
unfolding count_below
count-yes {i} f e d h ne = let r : i + 1 ≡ suc i = add-one i in rw (r, ne_eqb (f i) 0 (λ q. ne (d ∙ h ∙ q))) (omega (arith, e))

pub count-no : {i n v x : ℕ} (f : ℕ → ℕ) → n ≡ count_below i (λ k. is_set (f k)) → x ≡ v → v ≡ f i → x ≡ 0 → n ≡ count_below (i + 1) (λ k. is_set (f k))
unfolding count_below
count-no {i} f e d h q = let r : i + 1 ≡ suc i = add-one i in rw (r, eq-eqb (f i) 0 (sym h ∙ sym d ∙ q)) (omega (arith, e))

-- Whether a timer is queued is 0 or 1.
pub queued-count
    : {z : Sizes} {s : List ℕ} (n : ℕ)
    → ∥ Whole z s ∥₁
    → count_below n (λ t. is_set (mem_in z s fields.is_queued t)) ≡ count_below n (λ t. eqb (mem_in z s fields.is_queued t) 1)
queued-count {z} {s} n w =
    count_same n (λ t. is_set (mem_in z s fields.is_queued t)) (λ t. eqb (mem_in z s fields.is_queued t) 1)
    (λ t l. bit (mem_in z s fields.is_queued t) (field-most w fields.is_queued t))
  where
    bit : (x : ℕ) → x ≤ 1 → is_set x ≡ eqb x 1
    bit zero h = refl
    bit (suc zero) h = refl
    bit (suc (suc x)) h = absurd (omega arith)

-- What a function answers that counts n things where P holds, and else gives no answer.
abbrev pub Counts : Type 0 → ℕ → Option ℕ → Type 0
Counts P n None = P → ⊥
Counts P n (Some k) = P × (k ≡ n)

-- Such an answer compared with a number.
pub counted-as
    : {P : Type 0} {n : ℕ} (r : Option ℕ) (k : ℕ) (t : Bool)
    → Counts P n r
    → t ≡ option_eq eqb r (Some k)
    → IsTrue t ↔ (P × (n ≡ k))
counted-as None k t c e = (λ y. absurd (false≢true (sym e ∙ y)), λ p. absurd (c p.0))
counted-as (Some x) k t c e =
    (λ y. (c.0, sym c.1 ∙ eqb-true x k (sym e ∙ y)), λ p. e ∙ eq-eqb x k (c.1 ∙ p.1))

-- Links compared, and tested to differ.
pub links-same : (a b : Option ℕ) (t : Bool) → t ≡ option_eq eqb a b → t ≡ true → link a ≡ link b
links-same None None t e y = refl
links-same None (Some y') t e y = absurd (false≢true (sym e ∙ y))
links-same (Some x) None t e y = absurd (false≢true (sym e ∙ y))
links-same (Some x) (Some y') t e y = ap suc (eqb-true x y' (sym e ∙ y))

pub links-other : (a b : Option ℕ) (t : Bool) → t ≡ option_eq eqb a b → t ≡ false → link a ≡ link b → ⊥
links-other None None t e y d = false≢true (sym y ∙ e)
links-other None (Some y') t e y d = omega arith
links-other (Some x) None t e y d = omega arith
links-other (Some x) (Some y') t e y d = false≢true (sym y ∙ e ∙ eq-eqb x y' (omega arith))

pub links-ne : (a b : Option ℕ) (t : Bool) → t ≡ not (option_eq eqb a b) → t ≡ true → link a ≡ link b → ⊥
links-ne a b t e y = links-other a b (option_eq eqb a b) refl (not-true (option_eq eqb a b) (sym e ∙ y))

pub links-eq : (a b : Option ℕ) (t : Bool) → t ≡ not (option_eq eqb a b) → t ≡ false → link a ≡ link b
links-eq a b t e y = links-same a b (option_eq eqb a b) refl (not-false (option_eq eqb a b) (sym e ∙ y))
