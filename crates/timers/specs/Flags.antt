-- The flags of timers: how often each stands in the queue.
use Rattle.std.specs.Prelude.{if◌then◌else◌, ◌≡◌, refl, Bool, true, false, not, List, [], ◌∷◌, ℕ, ◌+◌, eqb, ltb}
use Rattle.std.proofs.Common.{sym, subst, ◌∙◌, arith, eqb-true, eq-eqb, ne_eqb}
use Rattle.std.proofs.lemmas.Bool.{eqb-false}
use Rattle.machine.specs.Basics.{count, filter}
use Rattle.layout.specs.Memory.{Memory, alter}
use Rattle.chain.specs.Lists.{Absent, count-absent}
use Rattle.chain.specs.Ordered.{insert_by}
use Rattle.state.specs.Fields as fields
use Rattle.state.specs.declared.Sizes.{Sizes}
use Rattle.timers.specs.Find.{queue_in}
use Rattle.timers.specs.Out.{without}

-- Each flag says how often its timer stands in a list.
abbrev pub Counted : (ℕ → ℕ) → List ℕ → Type 0
Counted flag xs = (i : ℕ) → flag i ≡ count i xs

-- Each timer's flag says whether it is queued.
abbrev pub Flagged : Sizes → Memory → Type 0
Flagged z m = Counted (m fields.is_queued) (queue_in z m)

count-insert : (key : ℕ → ℕ) (t i : ℕ) (xs : List ℕ) → count i (insert_by key t xs) ≡ (if eqb i t then 1 else 0) + count i xs
unfolding count
count-insert key t i [] = refl
count-insert key t i (x ∷ xs) = go (ltb (key t) (key x)) (count-insert key t i xs)
  where
    go
        : (b : Bool)
        → count i (insert_by key t xs) ≡ (if eqb i t then 1 else 0) + count i xs
        → count i (if b then t ∷ x ∷ xs else x ∷ insert_by key t xs) ≡ (if eqb i t then 1 else 0) + ((if eqb i x then 1 else 0) + count i xs)
    go true h = refl
    go false h = omega (arith, h)

pub counted-insert
    : (key flag : ℕ → ℕ) (t : ℕ) (xs : List ℕ) → Absent t xs → Counted flag xs → Counted (alter flag t 1) (insert_by key t xs)
counted-insert key flag t xs a f i = go (eqb t i) refl
  where
    go : (b : Bool) → eqb t i ≡ b → (if b then 1 else flag i) ≡ count i (insert_by key t xs)
    go true e =
        let q : eqb i t ≡ true = eq-eqb i t (sym (eqb-true t i e)) in
        let n : count i xs ≡ 0 = subst (λ (k : ℕ). count k xs ≡ 0) (eqb-true t i e) (count-absent xs t a) in
        rw (count-insert key t i xs, q) (omega (arith, n))
    go false e =
        let q : eqb i t ≡ false = ne_eqb i t (λ d. eqb-false t i e (sym d)) in
        rw (count-insert key t i xs, q) (omega (arith, f i))

pub count_out : (t : ℕ) (xs : List ℕ) → count t (without t xs) ≡ 0
unfolding count filter
count_out t [] = refl
count_out t (x ∷ xs) = go (eqb x t) refl (count_out t xs)
  where
    go : (b : Bool) → eqb x t ≡ b → count t (without t xs) ≡ 0 → count t (if not b then x ∷ without t xs else without t xs) ≡ 0
    go true e h = h
    go false e h = let q : eqb t x ≡ false = ne_eqb t x (λ d. eqb-false x t e (sym d)) in rw q (omega (arith, h))

count-other : (t i : ℕ) (xs : List ℕ) → (t ≡ i → ⊥) → count i (without t xs) ≡ count i xs
unfolding count filter
count-other t i [] ne = refl
count-other t i (x ∷ xs) ne = go (eqb x t) refl (count-other t i xs ne)
  where
    go
        : (b : Bool)
        → eqb x t ≡ b
        → count i (without t xs) ≡ count i xs
        → count i (if not b then x ∷ without t xs else without t xs) ≡ (if eqb i x then 1 else 0) + count i xs
    go true e h =
        let q : eqb i x ≡ false = ne_eqb i x (λ d. ne (sym (eqb-true x t e) ∙ sym d)) in
        rw q (omega (arith, h))
    go false e h = omega (arith, h)

pub counted-without : (flag : ℕ → ℕ) (t : ℕ) (xs : List ℕ) → Counted flag xs → Counted (alter flag t 0) (without t xs)
counted-without flag t xs f i = go (eqb t i) refl
  where
    go : (b : Bool) → eqb t i ≡ b → (if b then 0 else flag i) ≡ count i (without t xs)
    go true e = sym (subst (λ (k : ℕ). count k (without t xs) ≡ 0) (eqb-true t i e) (count_out t xs))
    go false e = f i ∙ sym (count-other t i xs (eqb-false t i e))
