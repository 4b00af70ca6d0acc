-- A list that is linked both ways: g i is the link of i to the next, h to the first; k i is the link to the one before, t to the last.
use Rattle.std.specs.Prelude.{if◌then◌else◌, ◌≡◌, refl, Bool, true, false, List, [], ◌∷◌, ◌++◌, reverse, ℕ, zero, suc, ◌<◌, eqb}
use Rattle.std.proofs.Common.{sym, subst, ◌∙◌, append_assoc, ⊎_elim, eqb-true}
use Rattle.std.proofs.Math.Path.{fun_ext}
use Rattle.std.proofs.lemmas.List.{reverse-append}
use Rattle.layout.specs.Memory.{alter}
use Rattle.chain.specs.Lists.{Absent}
use Rattle.chain.specs.Links.{Links, Chain, Queue, links-alter, alter-same, distinct-right, chain-rest, chain_head, first_link, final, final-split, push_links, push_first, queue-push}
use Rattle.chain.specs.Prefix.{links-distinct}
use Rattle.chain.specs.Removed.{chain_out}
use Rattle.rules.specs.Walk.{reverse_about}
use Rattle.ages.specs.Lists.{each-reverse, first-reverse, final-reverse}

pub record Both (n : ℕ) (g k : ℕ → ℕ) (h t : ℕ) (xs : List ℕ) : Type 0 where
  pub forth : Chain n g h xs
  pub back : Links k t (reverse xs)

-- Backwards it is a chain too, and so the link to the last is right.
back-chain : {n : ℕ} {g k : ℕ → ℕ} {h t : ℕ} {xs : List ℕ} → Both n g k h t xs → Chain n k t (reverse xs)
back-chain {n} {g} {k} {h} {t} {xs} b =
    record {
      links = b.back;
      distinct = links-distinct k t (reverse xs) b.back;
      below = each-reverse (λ x. x < n) xs b.forth.below;
    }

pub both-queue : {n : ℕ} {g k : ℕ → ℕ} {h t : ℕ} {xs : List ℕ} → Both n g k h t xs → Queue n g h t xs
both-queue {xs = xs} b = record { chain = b.forth; ends = chain_head (back-chain b) ∙ first-reverse xs }

-- The links after the link of i is cleared and the link `at` is tied to v, and the first link then: 0 stands for the place before the first.
abbrev pub tie_links : (ℕ → ℕ) → ℕ → ℕ → ℕ → ℕ → ℕ
tie_links g zero v i = alter g i 0
tie_links g (suc t) v i = alter (alter g i 0) t v

abbrev pub tie_first : ℕ → ℕ → ℕ → ℕ
tie_first h zero v = v
tie_first h (suc t) v = h

-- To put i behind the last is to tie the last to it.
push_ties : (n : ℕ) (g : ℕ → ℕ) (h t i : ℕ) (xs : List ℕ) → Chain n (push_links g t i) (push_first h t i) xs → Chain n (tie_links g t (suc i) i) (tie_first h t (suc i)) xs
push_ties n g h zero i xs c = c
push_ties n g h (suc t) i xs c = c

-- i is put behind the last.
pub both_in
    : {n : ℕ} {g k : ℕ → ℕ} {h t : ℕ} {xs : List ℕ} (i : ℕ)
    → i < n
    → Absent i xs
    → Both n g k h t xs
    → Both n (tie_links g t (suc i) i) (alter k i t) (tie_first h t (suc i)) (suc i) (xs ++ i ∷ [])
both_in {n} {g} {k} {h} {t} {xs} i l a b =
    record {
      forth = push_ties n g h t i (xs ++ i ∷ []) (queue-push i l a (both-queue b)).chain;
      back =
          subst (Links (alter k i t) (suc i)) (sym (reverse-append xs (i ∷ [])))
          (refl, rw (alter-same k i t) (links-alter k i t t (reverse xs) (each-reverse (λ x. i ≡ x → ⊥) xs a) b.back));
    }

-- Two numbers that are set, in either order.
alter_swap : (g : ℕ → ℕ) (i a t b : ℕ) → (i ≡ t → ⊥) → alter (alter g i a) t b ≡ alter (alter g t b) i a
alter_swap g i a t b ne = fun_ext (λ j. go j (eqb i j) refl (eqb t j) refl)
  where
    go
        : (j : ℕ) (p : Bool)
        → eqb i j ≡ p
        → (q : Bool)
        → eqb t j ≡ q
        → (if q then b else (if p then a else g j)) ≡ (if p then a else (if q then b else g j))
    go j true e true d = absurd (ne (eqb-true i j e ∙ sym (eqb-true t j d)))
    go j true e false d = refl
    go j false e true d = refl
    go j false e false d = refl

-- A chain in which the one before i is tied to the one behind it.
chain_tie
    : {n : ℕ} {g : ℕ → ℕ} {h : ℕ} (us : List ℕ) (i : ℕ) (vs : List ℕ)
    → Chain n g h (us ++ i ∷ vs)
    → Chain n (tie_links g (final 0 us) (g i) i) (tie_first h (final 0 us) (g i)) (us ++ vs)
chain_tie {n} {g} {h} us i vs c = ⊎_elim none some (final-split us)
  where
    none : (us ≡ []) × (final 0 us ≡ 0) → Chain n (tie_links g (final 0 us) (g i) i) (tie_first h (final 0 us) (g i)) (us ++ vs)
    none e = rw (e.1, e.0) (chain-rest 0 (subst (λ (l : List ℕ). Chain n g h (l ++ i ∷ vs)) e.0 c))

    some
        : (ws : List ℕ) × (t : ℕ) × (us ≡ ws ++ t ∷ []) × (final 0 us ≡ suc t)
        → Chain n (tie_links g (final 0 us) (g i) i) (tie_first h (final 0 us) (g i)) (us ++ vs)
    some e =
        let d : Chain n g h ((e.0 ++ e.1 ∷ []) ++ i ∷ vs) = subst (λ (l : List ℕ). Chain n g h (l ++ i ∷ vs)) e.2 c in
        let o : Chain n g h (e.0 ++ e.1 ∷ i ∷ vs) = rw append_assoc at d in
        let ne : i ≡ e.1 → ⊥ = λ q. (distinct-right e.0 e.1 (i ∷ vs) o.distinct).0 (sym q) in
        rw (e.3, e.2, append_assoc, alter_swap g i 0 e.1 (g i) ne) (chain_out e.0 e.1 i vs o)

-- Whom i is linked to.
links-next : (g : ℕ → ℕ) (h : ℕ) (us : List ℕ) (i : ℕ) (vs : List ℕ) → Links g h (us ++ i ∷ vs) → g i ≡ first_link vs
links-next g h [] i [] e = e.1
links-next g h [] i (v ∷ vs) e = e.1.0
links-next g h (u ∷ us) i vs e = links-next g (g u) us i vs e.1

-- i is taken out: its neighbours are tied to each other, both ways.
pub both_out
    : {n : ℕ} {g k : ℕ → ℕ} {h t : ℕ} (us : List ℕ) (i : ℕ) (vs : List ℕ)
    → Both n g k h t (us ++ i ∷ vs)
    → Both n (tie_links g (k i) (g i) i) (tie_links k (g i) (k i) i) (tie_first h (k i) (g i)) (tie_first t (g i) (k i)) (us ++ vs)
both_out {n} {g} {k} {h} {t} us i vs b =
    let c : Chain n k t (reverse vs ++ i ∷ reverse us) = subst (Chain n k t) (reverse_about us i vs) (back-chain b) in
    let before : final 0 us ≡ k i = sym (links-next k t (reverse vs) i (reverse us) c.links ∙ first-reverse us) in
    let after : final 0 (reverse vs) ≡ g i = final-reverse vs ∙ sym (links-next g h us i vs b.forth.links) in
    record {
      forth =
          subst (λ (p : ℕ). Chain n (tie_links g p (g i) i) (tie_first h p (g i)) (us ++ vs)) before
          (chain_tie us i vs b.forth);
      back =
          subst (Links (tie_links k (g i) (k i) i) (tie_first t (g i) (k i))) (sym (reverse-append us vs))
          (subst (λ (p : ℕ). Chain n (tie_links k p (k i) i) (tie_first t p (k i)) (reverse vs ++ reverse us)) after
          (chain_tie (reverse vs) i (reverse us) c)
          ).links;
    }
