-- Where fields lie, and that two places do not overlap: for any table that passes the test.
use Rattle.std.specs.Prelude.{◌≡◌, refl, not, ◌||◌, List, [], ◌∷◌, ◌⊎◌, ℕ, zero, suc, ◌+◌, ◌*◌, ◌-◌, ◌≤◌, ◌<◌, leb, ltb, eqb, length, get_or}
use Rattle.std.proofs.Common.{sym, ap, subst, inl, inr, arith, add-zero, add-suc, mul-le-mul_right, le_of_suc-le-suc, not-suc-le-zero, T_not, leb→le, ltb→lt}
use Rattle.std.proofs.Math.Logic.{⊎_elim}
use Rattle.std.proofs.Math.Dec.{T, eqb_refl}
use Rattle.machine.specs.Basics.{all}
use Rattle.layout.specs.Tests.{and_left, and_right, or_cases, all-at}
use Rattle.layout.specs.Table.{Slot, slot, Layout, stride, field, count, start, total, place, inside, split, pairwise, sound}

-- What the test says of one field, and of two.
pub record Inside (l : Layout) (a : Slot) : Type 0 where
  pub region : a.region < length l.strides
  pub end : a.inner + a.width ≤ stride l a.region

abbrev pub Split : Slot → Slot → Type 0
Split a b = (a.region ≡ b.region → ⊥) ⊎ ((a.inner + a.width ≤ b.inner) ⊎ (b.inner + b.width ≤ a.inner))

pub inside_is : (l : Layout) (a : Slot) → T (inside l a) → Inside l a
unfolding inside
inside_is l a t =
    record {
      region = ltb→lt a.region (length l.strides) (and_left (ltb a.region (length l.strides)) (leb (a.inner + a.width) (stride l a.region)) t);
      end = leb→le (a.inner + a.width) (stride l a.region) (and_right (ltb a.region (length l.strides)) (leb (a.inner + a.width) (stride l a.region)) t);
    }

split-is : (a b : Slot) → T (split a b) → Split a b
unfolding split
split-is a b x =
    ⊎_elim (λ y. inl (λ e. T_not (eqb a.region b.region) y (subst (λ (k : ℕ). T (eqb a.region k)) e (eqb_refl a.region)))) (λ y. inr
    (⊎_elim (λ w. inl (leb→le (a.inner + a.width) b.inner w)) (λ w. inr (leb→le (b.inner + b.width) a.inner w))
    (or_cases (leb (a.inner + a.width) b.inner) (leb (b.inner + b.width) a.inner) y)))
    (or_cases (not (eqb a.region b.region)) (leb (a.inner + a.width) b.inner || leb (b.inner + b.width) a.inner) x)

split_sym : (a b : Slot) → Split a b → Split b a
split_sym a b s = ⊎_elim (λ d. inl (λ e. d (sym e))) (λ v. inr (⊎_elim (λ x. inr x) (λ x. inl x) v)) s

order : (m n : ℕ) → (m < n) ⊎ ((m ≡ n) ⊎ (n < m))
order zero zero = inr (inl refl)
order zero (suc n) = inl (omega arith)
order (suc m) zero = inr (inr (omega arith))
order (suc m) (suc n) = ⊎_elim (λ l. inl (omega arith)) (λ x. inr (⊎_elim (λ e. inl (ap suc e)) (λ l. inr (omega arith)) x)) (order m n)

-- Two fields, the first earlier in the table.
earlier : (d : Slot) (xs : List Slot) → T (pairwise xs) → (f g : ℕ) → f < g → g < length xs → Split (get_or xs f d) (get_or xs g d)
unfolding pairwise
earlier d [] t f g h k = absurd (not-suc-le-zero k)
earlier d (x ∷ xs) t zero zero h k = absurd (not-suc-le-zero h)
earlier d (x ∷ xs) t zero (suc g) h k =
    split-is x (get_or xs g d) (all-at (split x) d xs (and_left (all (split x) xs) (pairwise xs) t) g (le_of_suc-le-suc k))
earlier d (x ∷ xs) t (suc f) zero h k = absurd (not-suc-le-zero h)
earlier d (x ∷ xs) t (suc f) (suc g) h k =
    earlier d xs (and_right (all (split x) xs) (pairwise xs) t) f g (le_of_suc-le-suc h) (le_of_suc-le-suc k)

module _ (l : Layout) (ok : T (sound l)) where
  pub inside-at : (f : ℕ) → f < length l.fields → Inside l (field l f)
  unfolding sound
  inside-at f h =
      inside_is l (field l f)
      (all-at (inside l) (slot (length l.strides) 0 0) l.fields (and_left (all (inside l) l.fields) (pairwise l.fields) ok) f h)

  pub split_at : (f g : ℕ) → f < length l.fields → g < length l.fields → (f ≡ g → ⊥) → Split (field l f) (field l g)
  unfolding sound
  split_at f g h k ne =
      let d : Slot = slot (length l.strides) 0 0 in
      let t : T (pairwise l.fields) = and_right (all (inside l) l.fields) (pairwise l.fields) ok in
      ⊎_elim (λ a. earlier d l.fields t f g a k) (λ x. ⊎_elim (λ e. absurd (ne e)) (λ a. split_sym (field l g) (field l f) (earlier d l.fields t g f a h)) x) (order f g)

start_up : (l : Layout) (ns : List ℕ) (r d : ℕ) → start l ns r ≤ start l ns (r + d)
unfolding start
start_up l ns r zero = rw add-zero (omega arith)
start_up l ns r (suc d) = rw add-suc (omega (arith, start_up l ns r d))

start_mono : (l : Layout) (ns : List ℕ) (r q : ℕ) → r ≤ q → start l ns r ≤ start l ns q
start_mono l ns r q h = let e : r + (q - r) ≡ q = omega arith in rw e at (start_up l ns r (q - r))

module _ (l : Layout) (ns : List ℕ) where
  -- A field of a record in range ends before the next record, and so before the next region.
  ends : (a : Slot) → Inside l a → (i n : ℕ) → i < n → i * stride l a.region + a.inner + a.width ≤ n * stride l a.region
  ends a t i n h = omega (arith, t.end, mul-le-mul_right (stride l a.region) h)

  below_next : (a : Slot) → Inside l a → (i : ℕ) → i < count l ns a.region → place l ns a i + a.width ≤ start l ns (suc a.region)
  unfolding start
  below_next a t i h = omega (arith, ends a t i (count l ns a.region) h)

  pub below_total : (a : Slot) → Inside l a → (i : ℕ) → i < count l ns a.region → place l ns a i + a.width ≤ total l ns
  below_total a t i h = omega (arith, below_next a t i h, start_mono l ns (suc a.region) (length l.strides) t.region)

  -- The places of two fields do not overlap, unless they are one place.
  clear_regions : (a b : Slot) → Inside l a → (i j : ℕ) → i < count l ns a.region → a.region < b.region → place l ns a i + a.width ≤ place l ns b j
  clear_regions a b t i j h k = omega (arith, below_next a t i h, start_mono l ns (suc a.region) b.region k)

  clear-records : (a b : Slot) → Inside l a → a.region ≡ b.region → (i j : ℕ) → i < j → place l ns a i + a.width ≤ place l ns b j
  clear-records a b t e i j k = rw (← e) (omega (arith, ends a t i j k))

  clear-inside : (a b : Slot) → a.region ≡ b.region → (i j : ℕ) → i ≡ j → a.inner + a.width ≤ b.inner → place l ns a i + a.width ≤ place l ns b j
  clear-inside a b e i j q k = rw (e, q) (omega arith)

abbrev pub Clear : Layout → List ℕ → Slot → ℕ → Slot → ℕ → Type 0
Clear l ns a i b j = (place l ns b j + b.width ≤ place l ns a i) ⊎ (place l ns a i + a.width ≤ place l ns b j)

pub clear
    : (l : Layout) (ns : List ℕ) (a b : Slot)
    → Inside l a
    → Inside l b
    → (i j : ℕ)
    → i < count l ns a.region
    → j < count l ns b.region
    → (i ≡ j → Split a b)
    → Clear l ns a i b j
clear l ns a b t u i j h k p =
    ⊎_elim (λ y. inr (clear_regions l ns a b t i j h y)) (λ x. ⊎_elim (λ e.
    ⊎_elim (λ y. inr (clear-records l ns a b t e i j y)) (λ y. ⊎_elim (λ q.
    ⊎_elim (λ d. absurd (d e)) (λ v.
    ⊎_elim (λ w. inr (clear-inside l ns a b e i j q w)) (λ w. inl (clear-inside l ns b a (sym e) j i (sym q) w))
    v) (p q))
    (λ w. inl (clear-records l ns b a u (sym e) j i w)) y) (order i j))
    (λ w. inl (clear_regions l ns b a u j i k w)) x) (order a.region b.region)
