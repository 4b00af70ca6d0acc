-- The records and the kinship, when one record changes.
use Rattle.std.specs.Prelude.{◌≡◌, refl, Bool, true, false, not, ◌&&◌, List, [], ◌∷◌, eqb, length, set, ℕ, suc, ◌+◌, ◌≤◌, ◌<◌}
use Rattle.std.proofs.Common.{sym, ap₂, ◌∙◌, subst, arith, eqb-true, eq-eqb, ne_eqb, length-set}
use Rattle.std.proofs.Math.Path.{ap}
use Rattle.std.proofs.lemmas.Bool.{eqb-false}
use Rattle.machine.specs.Basics.{count, count_that, concat_map}
use Rattle.machine.specs.Machine.{Sizes, Process, free, living}
use Rattle.machine.specs.Good.{ProcessInRange}
use Rattle.lists.specs.Lists.{bit, each_set, count_concat_set, count_that-set, count_that-none, count_self, count-other}
use Rattle.kept.specs.Fine.{at, cells_in, is_child, Records, Kin}
use Rattle.kept.specs.SpotsLaws.{get_cases, pid-lives}

-- One record replaced by one that is in range, holds nothing if it is free, and shares no cell with the others.
pub records-set : {z : Sizes} {ps : List Process} {ticks : ℕ} → Records z ps ticks → (i : ℕ) (v : Process)
    → i < length ps
    → ProcessInRange z v
    → (v.pid ≡ 0 → v ≡ free)
    → ((c : ℕ) → count c (concat_map cells_in ps) + count c (cells_in v) ≤ 1 + count c (cells_in (at ps i)))
    → v.quantum_end ≤ ticks + 10
    → Records z (set ps i v) ticks
records-set {z} {ps} {ticks} r i v l p f c q =
    record {
      size = length-set ps i v ∙ r.size;
      each = each_set (ProcessInRange z) ps i v r.each p;
      freed = λ k. get_cases (λ (k : ℕ) (x : Process). x.pid ≡ 0 → x ≡ free) ps i v free k l f (λ n. r.freed k);
      cells = λ k. omega (arith, c k, count_concat_set cells_in ps i v free k l);
      quantum = λ k. get_cases (λ (k : ℕ) (x : Process). x.quantum_end ≤ ticks + 10) ps i v free k l q (λ n. r.quantum k);
    }

-- Who is a child of a pid, and who is not.
pub is_child_lem : (p : Process) (a : ℕ) → 0 < p.pid → p.parent ≡ a → is_child a p ≡ true
is_child_lem p a l e = ap₂ (λ (x y : Bool). x && y) (pid-lives p l) (eq-eqb p.parent a e)

-- A free record, and one with another parent, is no child.
pub not-child : (p : Process) (a : ℕ) → (0 < p.pid → p.parent ≡ a → ⊥) → is_child a p ≡ false
unfolding living
not-child p a h = go (eqb p.pid 0) refl
  where
    go : (b : Bool) → eqb p.pid 0 ≡ b → is_child a p ≡ false
    go true e = rw e
    go false e = rw (e, ne_eqb p.parent a (h (omega (arith, eqb-false p.pid 0 e))))

-- A process that lives is counted as a child exactly of its parent.
pub child_of : (p : Process) (a : ℕ) → 0 < p.pid → bit (is_child a p) ≡ count a (p.parent ∷ [])
child_of p a l = go (eqb p.parent a) refl
  where
    go : (b : Bool) → eqb p.parent a ≡ b → bit (is_child a p) ≡ count a (p.parent ∷ [])
    go true e =
        ap bit (is_child_lem p a l (eqb-true p.parent a e)) ∙ sym (count_self a) ∙ ap {B = ℕ} (λ x. count a (x ∷ [])) (sym (eqb-true p.parent a e))
    go false e = ap bit (not-child p a (λ n. eqb-false p.parent a e)) ∙ sym (count-other a p.parent (λ f. eqb-false p.parent a e (sym f)))

module _ {w : List ℕ} {ps : List Process} {next : ℕ} (s : Kin w ps next) where
  -- What is owed changes only for pids that nobody has.
  pub kin-owed : (w' : List ℕ) → ((k : ℕ) → 0 < (at ps k).pid → count (at ps k).pid w' ≡ count (at ps k).pid w) → Kin w' ps next
  kin-owed w' h = record { nchild = λ k l. omega (arith, s.nchild k l, h k l); apart = s.apart; below = s.below; parent = s.parent }

  -- The next pid rises.
  pub kin-next : Kin w ps (suc next)
  kin-next = record { nchild = s.nchild; apart = s.apart; below = λ k. omega (arith, s.below k); parent = s.parent }

  -- A record keeps its pid and parent, and its number of children fits what is owed to it.
  pub kin_change : (w' : List ℕ) (i : ℕ) (v : Process)
      → i < length ps
      → v.pid ≡ (at ps i).pid
      → v.parent ≡ (at ps i).parent
      → (0 < (at ps i).pid → v.nchild + count (at ps i).pid w ≡ (at ps i).nchild + count (at ps i).pid w')
      → ((k : ℕ) → (k ≡ i → ⊥) → 0 < (at ps k).pid → count (at ps k).pid w' ≡ count (at ps k).pid w)
      → Kin w' (set ps i v) next
  unfolding living
  kin_change w' i v l pe qe h n =
      record {
        nchild = λ k. get_cases (λ (k : ℕ) (x : Process). 0 < x.pid → x.nchild ≡ count_that (is_child x.pid) (set ps i v) + count x.pid w') ps i v free k l
            (subst (λ (a : ℕ). 0 < a → v.nchild ≡ count_that (is_child a) (set ps i v) + count a w') (sym pe) (λ q. omega (arith, h q, s.nchild i q, kids (at ps i).pid)))
            (λ d q. omega (arith, n k d q, s.nchild k q, kids (at ps k).pid));
        apart = λ a b q e. s.apart a b (omega (arith, same a)) (sym (same a) ∙ e ∙ same b);
        below = λ k. omega (arith, same k, s.below k);
        parent = λ k. get_cases (λ (k : ℕ) (x : Process). 0 < x.pid → x.parent < x.pid) ps i v free k l (λ q. omega (arith, s.parent i (omega arith))) (λ d. s.parent k);
      }
    where
      same : (k : ℕ) → (at (set ps i v) k).pid ≡ (at ps k).pid
      same k = get_cases (λ (k : ℕ) (x : Process). x.pid ≡ (at ps k).pid) ps i v free k l pe (λ d. refl)

      kids : (a : ℕ) → count_that (is_child a) (set ps i v) ≡ count_that (is_child a) ps
      kids a = omega (arith, count_that-set (is_child a) ps i v free l, ap₂ {C = ℕ} (λ x y. bit (not (eqb x 0) && eqb y a)) pe qe)

  -- A process goes, and its parent is owed one.
  pub kin-die : (i : ℕ) (v : Process)
      → i < length ps
      → 0 < (at ps i).pid
      → v.pid ≡ 0
      → ((a : ℕ) → count a w ≡ 0)
      → Kin ((at ps i).parent ∷ []) (set ps i v) next
  kin-die i v l q e none =
      record {
        nchild = λ k. get_cases (λ (k : ℕ) (x : Process). 0 < x.pid → x.nchild ≡ count_that (is_child x.pid) (set ps i v) + count x.pid ((at ps i).parent ∷ [])) ps i v free k l
            (λ c. absurd (omega arith))
            (λ d c. omega (arith, s.nchild k c, none (at ps k).pid, kids (at ps k).pid));
        apart = λ a b. get_cases (λ (a : ℕ) (x : Process). 0 < x.pid → x.pid ≡ (at (set ps i v) b).pid → a ≡ b) ps i v free a l
            (λ c. absurd (omega arith))
            (λ d. get_cases (λ (b : ℕ) (x : Process). 0 < (at ps a).pid → (at ps a).pid ≡ x.pid → a ≡ b) ps i v free b l (λ c f. absurd (omega arith)) (λ d. s.apart a b));
        below = λ k. get_cases (λ (k : ℕ) (x : Process). x.pid < next) ps i v free k l (omega (arith, s.below i)) (λ d. s.below k);
        parent = λ k. get_cases (λ (k : ℕ) (x : Process). 0 < x.pid → x.parent < x.pid) ps i v free k l (λ c. absurd (omega arith)) (λ d. s.parent k);
      }
    where
      kids : (a : ℕ) → count_that (is_child a) ps ≡ count_that (is_child a) (set ps i v) + count a ((at ps i).parent ∷ [])
      kids a = omega (arith, count_that-set (is_child a) ps i v free l, child_of (at ps i) a q, ap bit (not-child v a (λ c f. omega arith)))

  -- A process is made with the next pid, and was owed to its parent.
  pub kin-born : (i : ℕ) (v : Process)
      → i < length ps
      → (at ps i).pid ≡ 0
      → 0 < next
      → v.pid ≡ next
      → v.nchild ≡ 0
      → v.parent < next
      → ((a : ℕ) → 0 < a → count a w ≡ count a (v.parent ∷ []))
      → Kin [] (set ps i v) (suc next)
  unfolding count
  kin-born i v l z p e c q owed =
      record {
        nchild = λ k. get_cases (λ (k : ℕ) (x : Process). 0 < x.pid → x.nchild ≡ count_that (is_child x.pid) (set ps i v) + count x.pid []) ps i v free k l
            (λ u. omega (arith, kids v.pid, count-other v.pid v.parent (λ f. omega arith), count_that-none (is_child v.pid) free ps (λ k d. not-child (at ps k) v.pid (λ a b. omega (arith, s.below k, s.parent k a)))))
            (λ d u. omega (arith, s.nchild k u, owed (at ps k).pid u, kids (at ps k).pid));
        apart = λ a b. get_cases (λ (a : ℕ) (x : Process). 0 < x.pid → x.pid ≡ (at (set ps i v) b).pid → a ≡ b) ps i v free a l
            (get_cases (λ (b : ℕ) (x : Process). 0 < v.pid → v.pid ≡ x.pid → i ≡ b) ps i v free b l (λ u f. refl) (λ d u f. absurd (omega (arith, s.below b))))
            (λ d. get_cases (λ (b : ℕ) (x : Process). 0 < (at ps a).pid → (at ps a).pid ≡ x.pid → a ≡ b) ps i v free b l (λ u f. absurd (omega (arith, s.below a))) (λ d. s.apart a b));
        below = λ k. get_cases (λ (k : ℕ) (x : Process). x.pid < suc next) ps i v free k l (omega arith) (λ d. omega (arith, s.below k));
        parent = λ k. get_cases (λ (k : ℕ) (x : Process). 0 < x.pid → x.parent < x.pid) ps i v free k l (λ u. omega arith) (λ d. s.parent k);
      }
    where
      kids : (a : ℕ) → count_that (is_child a) (set ps i v) ≡ count_that (is_child a) ps + count a (v.parent ∷ [])
      kids a = omega (arith, count_that-set (is_child a) ps i v free l, child_of v a (omega arith), ap bit (not-child (at ps i) a (λ c f. omega arith)))
