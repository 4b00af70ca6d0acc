-- What the walk of one record's exits shows.
use Rattle.std.specs.Prelude.{◌≡◌, List, [], ◌∷◌, ◌++◌, ℕ, suc, ◌+◌, ◌≤◌, ◌<◌, length}
use Rattle.std.proofs.Common.{◌∙◌, sym, arith}
use Rattle.chain.specs.Links.{walk-links, Links}
use Rattle.chain.specs.Prefix.{prefix-links, prefix-end, links-distinct, links-below}
use Rattle.state.specs.Fields as fields
use Rattle.state.specs.Abs.{exit_list}
use Rattle.state.specs.Places.{sizes_in}
use Rattle.state.specs.declared.Sizes.{Sizes}
use Rattle.rules.specs.Facts.{ExitsOk}
use Rattle.rules.specs.Code.{mem_in, Whole}
use Rattle.rules.specs.Read.{field-most}
use Rattle.walks.specs.Order.{Trail, trail-start, trail_more, trail-bad}

-- k cells of record i were met; the next link is `link`.
pub record ExitWalking (z : Sizes) (s : List ℕ) (i link k : ℕ) : Type 0 where
  pub last : ℕ
  pub seen : List ℕ
  pub trail : Trail (mem_in z s fields.cell_next) (λ c. mem_in z s fields.owner c ≡ suc i) (mem_in z s fields.exits i) link last k seen
  pub range : link ≤ z.cells
  pub few : k ≤ mem_in z s fields.nexits i

pub exit-start : {z : Sizes} {s : List ℕ} {i link : ℕ} → ∥ Whole z s ∥₁ → link ≡ mem_in z s fields.exits i → ExitWalking z s i link 0
exit-start {z} {s} {i} {link} w e =
    record { last = 0; seen = []; trail = rw e trail-start; range = omega (arith, e, field-most w fields.exits i); few = omega arith }

module _ {z : Sizes} {s : List ℕ} {i c k : ℕ} (t : ExitWalking z s i (suc c) k) where
  pub exit-index : c < z.cells
  exit-index = omega (arith, t.range)

  pub exit-more
      : {n o link' : ℕ}
      → ∥ Whole z s ∥₁
      → n ≡ mem_in z s fields.nexits i
      → (k ≡ n → ⊥)
      → o ≡ mem_in z s fields.owner c
      → o ≡ suc i
      → link' ≡ mem_in z s fields.cell_next c
      → ExitWalking z s i link' (k + 1)
  exit-more {n} {o} {link'} w m nf e f l =
      record {
        last = suc c;
        seen = t.seen ++ c ∷ [];
        trail = trail_more t.trail (sym e ∙ f) l;
        range = omega (arith, l, field-most w fields.cell_next c);
        few = omega (arith, t.few, m, nf);
      }

  -- more cells than it says
  pub exit-long : {n : ℕ} → n ≡ mem_in z s fields.nexits i → k ≡ n → ExitsOk (sizes_in z) (mem_in z s) i → ⊥
  exit-long {n} m e o =
      let d : suc c ≡ 0 =
      prefix-end (mem_in z s fields.cell_next) (mem_in z s fields.exits i) t.seen (exit_list (mem_in z s) i) (suc c)
      t.trail.prefix o.chain.links (omega (arith, o.counted, t.trail.count, m, e))
      in
      omega (arith, d)

  -- a cell of another's
  pub exit-other : {o : ℕ} → o ≡ mem_in z s fields.owner c → (o ≡ suc i → ⊥) → ExitsOk (sizes_in z) (mem_in z s) i → ⊥
  exit-other e b x = trail-bad t.trail (λ h. b (e ∙ h)) x.chain x.owned

module _ {z : Sizes} {s : List ℕ} (w : ∥ Whole z s ∥₁) {i k n : ℕ} (t : ExitWalking z s i 0 k) (m : n ≡ mem_in z s fields.nexits i) where
  -- the list is what was met
  met : Links (mem_in z s fields.cell_next) (mem_in z s fields.exits i) t.seen × (exit_list (mem_in z s) i ≡ t.seen)
  unfolding exit_list
  met =
      let l : Links (mem_in z s fields.cell_next) (mem_in z s fields.exits i) t.seen =
      prefix-links (mem_in z s fields.cell_next) (mem_in z s fields.exits i) t.seen t.trail.prefix
      in (
        l,
        walk-links 128 (mem_in z s fields.cell_next) (mem_in z s fields.exits i) t.seen l
            (omega (arith, t.trail.count, t.few, field-most w fields.nexits i)),
      )

  -- fewer cells than it says
  pub exit-counted : ExitsOk (sizes_in z) (mem_in z s) i → k ≡ n
  exit-counted o =
      let c : length t.seen ≡ mem_in z s fields.nexits i = rw met.1 at o.counted in
      omega (arith, c, t.trail.count, m)

  pub exit-end : k ≡ n → ExitsOk (sizes_in z) (mem_in z s) i
  exit-end f =
      let g : ℕ → ℕ = mem_in z s fields.cell_next in
      let h : ℕ = mem_in z s fields.exits i in
      let l : Links g h t.seen = met.0 in
      record {
        chain = rw met.1 (record {
          links = l;
          distinct = links-distinct g h t.seen l;
          below = links-below z.cells g h t.seen (field-most w fields.exits i) (λ c. field-most w fields.cell_next c) l;
        });
        counted = rw met.1 (t.trail.count ∙ f ∙ m);
        owned = rw met.1 t.trail.each;
      }
