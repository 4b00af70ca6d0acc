-- A number is taken out of a chain.
use Rattle.std.specs.Prelude.{◌≡◌, List, [], ◌∷◌, ◌++◌, ℕ, ◌<◌}
use Rattle.std.proofs.Common.{sym, ◌∙◌}
use Rattle.machine.specs.Good.{Each}
use Rattle.layout.specs.Memory.{alter}
use Rattle.chain.specs.Lists.{Absent, Distinct, all_both}
use Rattle.chain.specs.Links.{Links, Chain, links-frame, alter-same, alter-other, all_right, distinct-left}

-- the links after the number i, which stands behind t, is taken out
abbrev pub out_links : (ℕ → ℕ) → ℕ → ℕ → ℕ → ℕ
out_links g t i = alter (alter g t (g i)) i 0

links_out_lem
    : (g k : ℕ → ℕ) (h : ℕ) (xs : List ℕ) (t i : ℕ) (ys : List ℕ)
    → Each (λ j. k j ≡ g j) xs
    → Each (λ j. k j ≡ g j) ys
    → k t ≡ g i
    → Links g h (xs ++ t ∷ i ∷ ys)
    → Links k h (xs ++ t ∷ ys)
links_out_lem g k h [] t i ys a b p e = (e.0, rw p (links-frame g k (g i) ys b e.1.1))
links_out_lem g k h (x ∷ xs) t i ys a b p e = (e.0, rw a.0 (links_out_lem g k (g x) xs t i ys a.1 b p e.1))

-- without i an each-statement, and with it distinctness, still hold
each_out : (p : ℕ → Type 0) (xs : List ℕ) (t i : ℕ) (ys : List ℕ) → Each p (xs ++ t ∷ i ∷ ys) → Each p (xs ++ t ∷ ys)
each_out p [] t i ys a = (a.0, a.1.1)
each_out p (x ∷ xs) t i ys a = (a.0, each_out p xs t i ys a.1)

distinct_out : (xs : List ℕ) (t i : ℕ) (ys : List ℕ) → Distinct (xs ++ t ∷ i ∷ ys) → Distinct (xs ++ t ∷ ys)
distinct_out [] t i ys d = (d.0.1, d.1.1)
distinct_out (x ∷ xs) t i ys d = (each_out (λ y. x ≡ y → ⊥) xs t i ys d.0, distinct_out xs t i ys d.1)

-- the two neighbours are apart from the rest
behind-distinct : (xs : List ℕ) (t i : ℕ) (ys : List ℕ) → Distinct (xs ++ t ∷ i ∷ ys) → (t ≡ i → ⊥) × Absent t ys × Absent i ys × Absent i xs
behind-distinct [] t i ys d = (d.0.0, d.0.1, d.1.0, tt)
behind-distinct (x ∷ xs) t i ys d =
    let r : (t ≡ i → ⊥) × Absent t ys × Absent i ys × Absent i xs = behind-distinct xs t i ys d.1 in
    (r.0, r.1, r.2, ((λ e. (all_right (λ y. x ≡ y → ⊥) xs t (i ∷ ys) d.0).1.0 (sym e)), r.3))

pub chain_out
    : {n : ℕ} {g : ℕ → ℕ} {h : ℕ} (xs : List ℕ) (t i : ℕ) (ys : List ℕ)
    → Chain n g h (xs ++ t ∷ i ∷ ys)
    → Chain n (out_links g t i) h (xs ++ t ∷ ys)
chain_out {n} {g} {h} xs t i ys c =
    let k : ℕ → ℕ = out_links g t i in
    let r : (t ≡ i → ⊥) × Absent t ys × Absent i ys × Absent i xs = behind-distinct xs t i ys c.distinct in
    let same : (j : ℕ) → (t ≡ j → ⊥) → (i ≡ j → ⊥) → k j ≡ g j =
    λ j p q. alter-other (alter g t (g i)) i 0 j q ∙ alter-other g t (g i) j p
    in
    record {
      links =
          links_out_lem g k h xs t i ys
          (all_both same xs (distinct-left xs t (i ∷ ys) c.distinct) r.3)
          (all_both same ys r.1 r.2)
          (alter-other (alter g t (g i)) i 0 t (λ e. r.0 (sym e)) ∙ alter-same g t (g i))
          c.links;
      distinct = distinct_out xs t i ys c.distinct;
      below = each_out (λ x. x < n) xs t i ys c.below;
    }
