-- What the walk of the living by age shows.
use Rattle.std.specs.Prelude.{◌≡◌, refl, Option, List, [], ◌∷◌, ◌++◌, reverse, ℕ, suc, ◌+◌, ◌≤◌, ◌<◌, length}
use Rattle.std.proofs.Common.{sym, subst, ◌∙◌, arith}
use Rattle.chain.specs.Lists.{all_map}
use Rattle.chain.specs.Links.{Links, Chain, chain-walk, final}
use Rattle.machine.specs.Good.{Each}
use Rattle.state.specs.Fields as fields
use Rattle.state.specs.Places.{sizes_in}
use Rattle.state.specs.WellFormed.{Used, age_list}
use Rattle.state.specs.declared.Sizes.{Sizes}
use Rattle.rules.specs.Facts.{AgesOk}
use Rattle.rules.specs.Code.{mem_in, Whole}
use Rattle.rules.specs.Read.{field-most}
use Rattle.walks.specs.Counts.{Counts}
use Rattle.walks.specs.Order.{Trail, trail-start, trail_more, trail-long, trail-chain, trail-split, Ordered, rising_of, ordered-rising, Ranked, ranked-start, ranked-more, ranked-bad, back_more, back-same}

-- What is to be decided and counted.
abbrev pub AgeCounts : Sizes → List ℕ → Option ℕ → Type 0
AgeCounts z s r = Counts (AgesOk (sizes_in z) (mem_in z s)) (length (age_list (sizes_in z) (mem_in z s))) r

-- k of the living were met, the last of them by the link `last`, of pid p; the next link is `link`.
pub record AgeWalking (z : Sizes) (s : List ℕ) (link last p k : ℕ) : Type 0 where
  pub seen : List ℕ
  pub trail : Trail (mem_in z s fields.younger) (Used (mem_in z s)) (mem_in z s fields.oldest 0) link last k seen
  pub ranked : Ranked (mem_in z s fields.pid) (λ i. suc (mem_in z s fields.pid i)) 1 (suc p) seen
  pub back : Links (mem_in z s fields.older) last (reverse seen)
  pub range : link ≤ z.processes
  pub few : k ≤ z.processes

pub age_start : {z : Sizes} {s : List ℕ} {link : ℕ} → ∥ Whole z s ∥₁ → link ≡ mem_in z s fields.oldest 0 → AgeWalking z s link 0 0 0
age_start {z} {s} {link} w e =
    record {
      seen = [];
      trail = rw e trail-start;
      ranked = ranked-start;
      back = refl;
      range = omega (arith, e, field-most w fields.oldest 0);
      few = omega arith;
    }

module _ {z : Sizes} {s : List ℕ} {i last p k : ℕ} (t : AgeWalking z s (suc i) last p k) where
  pub age-index : i < z.processes
  age-index = omega (arith, t.range)

  pub age-more
      : {o p' link' : ℕ}
      → ∥ Whole z s ∥₁
      → (k ≡ z.processes → ⊥)
      → o ≡ mem_in z s fields.older i
      → o ≡ last
      → p' ≡ mem_in z s fields.pid i
      → p < p'
      → link' ≡ mem_in z s fields.younger i
      → AgeWalking z s link' (suc i) p' (k + 1)
  age-more {o} {p'} {link'} w nf e f g l n =
      record {
        seen = t.seen ++ i ∷ [];
        trail = trail_more t.trail (omega (arith, g, l)) n;
        ranked = rw g (ranked-more i (omega arith) t.ranked (omega (arith, g, l)));
        back = back_more (mem_in z s fields.older) last t.seen i t.back (sym e ∙ f);
        range = omega (arith, n, field-most w fields.younger i);
        few = omega (arith, t.few, nf);
      }

  -- no more than there are
  pub age_long : k ≡ z.processes → AgesOk (sizes_in z) (mem_in z s) → ⊥
  age_long e o = trail-long t.trail (omega (arith, e)) o.younger.chain

  split : AgesOk (sizes_in z) (mem_in z s) → (vs : List ℕ) × (age_list (sizes_in z) (mem_in z s) ≡ t.seen ++ i ∷ vs)
  split a = trail-split t.trail a.younger.chain.links

  -- linked back to another
  pub age_unlinked : {o : ℕ} → o ≡ mem_in z s fields.older i → (o ≡ last → ⊥) → AgesOk (sizes_in z) (mem_in z s) → ⊥
  age_unlinked {o} e f a =
      let r : (vs : List ℕ) × (age_list (sizes_in z) (mem_in z s) ≡ t.seen ++ i ∷ vs) = split a in
      f (e ∙ back-same (mem_in z s fields.older) last (mem_in z s fields.youngest 0) t.seen i r.0 t.back
      (subst (λ (xs : List ℕ). Links (mem_in z s fields.older) (mem_in z s fields.youngest 0) (reverse xs)) r.1 a.older))

  -- free, or no younger than the one before
  pub age_low : {p' : ℕ} → p' ≡ mem_in z s fields.pid i → p' ≤ p → AgesOk (sizes_in z) (mem_in z s) → ⊥
  age_low {p'} e l a =
      let r : (vs : List ℕ) × (age_list (sizes_in z) (mem_in z s) ≡ t.seen ++ i ∷ vs) = split a in
      let key : ℕ → ℕ = mem_in z s fields.pid in
      ranked-bad i r.0 t.ranked (omega (arith, e, l))
      (subst (λ (xs : List ℕ). Each (λ y. 1 ≤ key y) xs) r.1 (all_map (λ y h. omega (arith, h)) (age_list (sizes_in z) (mem_in z s)) a.used))
      (subst (λ (xs : List ℕ). Ordered key (λ j. suc (key j)) xs) r.1 (ordered-rising key (age_list (sizes_in z) (mem_in z s)) a.rising))

-- the walk has ended
module _ {z : Sizes} {s : List ℕ} (w : ∥ Whole z s ∥₁) {last p k : ℕ} (t : AgeWalking z s 0 last p k) where
  chained : Chain z.processes (mem_in z s fields.younger) (mem_in z s fields.oldest 0) t.seen
  chained = trail-chain t.trail (field-most w fields.oldest 0) (λ i. field-most w fields.younger i)

  listed : age_list (sizes_in z) (mem_in z s) ≡ t.seen
  unfolding age_list
  listed = chain-walk chained

  pub age_other : {y : ℕ} → y ≡ mem_in z s fields.youngest 0 → (last ≡ y → ⊥) → AgesOk (sizes_in z) (mem_in z s) → ⊥
  age_other {y} f ne a =
      ne (t.trail.ends ∙ sym (subst (λ (xs : List ℕ). mem_in z s fields.youngest 0 ≡ final 0 xs) listed a.younger.ends) ∙ sym f)

  pub age_end
      : {y : ℕ} → y ≡ mem_in z s fields.youngest 0 → last ≡ y → AgesOk (sizes_in z) (mem_in z s) × (k ≡ length (age_list (sizes_in z) (mem_in z s)))
  age_end {y} f d =
      let q : age_list (sizes_in z) (mem_in z s) ≡ t.seen = listed in
      let b : last ≡ mem_in z s fields.youngest 0 = d ∙ f in (
        record {
          younger = rw q (record { chain = chained; ends = sym b ∙ t.trail.ends });
          older = rw (q, ← b) t.back;
          rising = rw q (rising_of (mem_in z s fields.pid) t.seen t.ranked.ordered);
          used = rw q t.trail.each;
        },
        rw q (sym t.trail.count),
      )
