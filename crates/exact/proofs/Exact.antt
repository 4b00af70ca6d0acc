-- A state is well formed exactly where its sizes, ranges, mark, layout number and the facts that the check decides are right.
use Rattle.std.specs.Prelude.{◌≡◌, Bool, true, false, List, ◌↔◌, ℕ}
use Rattle.std.proofs.Common.{sym, subst}
use Rattle.machine.specs.Machine.{Sizes}
use Rattle.state.specs.Fields as fields
use Rattle.state.specs.Abs.{sizes_of, memory_of, abs}
use Rattle.state.specs.Places.{sizes_in}
use Rattle.state.specs.declared.Sizes as declared
use Rattle.state.specs.WellFormed.{mark_value, Queues, Tagged, Cells, Ages, WellFormed}
use Rattle.rules.specs.Facts.{Facts}
use Rattle.rules.specs.Code.{mem_in, Whole, Decides}
use Rattle.exact.specs.Bounds.{InBounds, in_bounds}
use Rattle.exact.proofs.FactsRep.{facts-rep, facts-idle}
use Rattle.exact.proofs.FactsGood.{facts-good}
use Rattle.exact.proofs.WellFacts.{well-facts}
use Rattle.exact.specs.Exact.{Checked}

pub well-checked : {s : List ℕ} → WellFormed s → Checked (sizes_of s) s
unfolding abs
well-checked {s} w =
    record {
      sizes = w.rep.sizes;
      state = w.rep.state;
      mark = w.rep.mark;
      layout = w.rep.layout;
      facts =
          well-facts (in_bounds w.rep.sizes w.rep.state) w.rep.queues w.rep.tagged w.rep.cells w.rep.ages w.rep.index w.rep.idle w.good;
    }

pub checked-well : {s : List ℕ} → Checked (sizes_of s) s → WellFormed s
unfolding abs
checked-well {s} c =
    let b : InBounds (sizes_of s) (memory_of s) = in_bounds c.sizes c.state in
    let r : Queues (sizes_of s) (memory_of s) × Tagged (sizes_of s) (memory_of s) × Cells (sizes_of s) (memory_of s) × Ages (sizes_of s) (memory_of s) =
    facts-rep b c.facts
    in
    record {
      rep =
          record {
            sizes = c.sizes;
            state = c.state;
            mark = c.mark;
            layout = c.layout;
            queues = r.0;
            tagged = r.1;
            cells = r.2;
            ages = r.3;
            index = c.facts.index;
            idle = facts-idle b c.facts.idle;
          };
      good = facts-good b c.facts;
    }

-- At the sizes that the header names, the two say the same.
pub exact : {z : Sizes} {s : List ℕ} → z ≡ sizes_of s → (WellFormed s ↔ Checked z s)
exact {z} {s} e = (
  (λ w. subst (λ (y : Sizes). Checked y s) (sym e) (well-checked w)),
  (λ c. checked-well (subst (λ (y : Sizes). Checked y s) e c)),
)

-- So a test that decides the one decides the other.
pub decides-well : (z : Sizes) (s : List ℕ) (r : Bool) → z ≡ sizes_of s → Decides r (Checked z s) → Decides r (WellFormed s)
decides-well z s true e c = (exact e).1 c
decides-well z s false e n = λ w. n ((exact e).0 w)

-- At the sizes that the code carries.
pub whole-bounds : {z : declared.Sizes} {s : List ℕ} → Whole z s → InBounds (sizes_in z) (mem_in z s)
whole-bounds w = in_bounds w.sizes w.state

pub whole-checked
    : {z : declared.Sizes} {s : List ℕ}
    → Whole z s
    → mem_in z s fields.mark 0 ≡ mark_value
    → mem_in z s fields.layout_number 0 ≡ 1
    → Facts (sizes_in z) (mem_in z s)
    → Checked (sizes_in z) s
whole-checked w k l f = record { sizes = w.sizes; state = w.state; mark = k; layout = l; facts = f }

pub checked-whole : {z : declared.Sizes} {s : List ℕ} → Checked (sizes_in z) s → Whole z s
checked-whole c = record { sizes = c.sizes; state = c.state }
