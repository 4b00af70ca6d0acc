-- What the search for a parent's pid says. No clause cites this file, since it imports std's proofs of searches.
use Rattle.std.specs.Prelude.{◌≡◌, refl, Bool, true, false, Option, Some, None, Result, Ok, Err, is_err, IsTrue, ◌↔◌, List, ℕ, ◌≤◌, ltb}
use Rattle.std.specs.Option.{is_some}
use Rattle.std.proofs.Common.{sym, ◌∙◌, arith, ltb-true, ltb-false}
use Rattle.std.proofs.lemmas.Bool.{false≢true}
use Rattle.std.specs.List.Sorted.{IsBinarySearchResult}
use Rattle.std.specs.Ordering.{nat_cmp}
use Rattle.std.proofs.lemmas.List.Sorted.{searched}
use Rattle.memory.specs.Link.{link}
use Rattle.machine.specs.Machine.{Sizes}
use Rattle.layout.specs.Memory.{Memory}
use Rattle.state.specs.Fields as fields
use Rattle.kin.specs.Age.{Aged}
use Rattle.kin.specs.Link.{kin_link}
use Rattle.kin.specs.Living.{Filled, Has, ParentOk, filled_rises, named-link, named-gone, named-not}

-- The pids do not have the parent's: then it lives no more, else the record should have been linked.
pub named_search
    : {z : Sizes} {m : Memory} {ps : List ℕ} {i p q : ℕ} (r : Result ℕ ℕ) (t : Bool)
    → Aged z m
    → Filled z m ps
    → p ≡ m fields.pid i
    → (p ≡ 0 → ⊥)
    → q ≡ m fields.parent i
    → (q ≡ 0 → ⊥)
    → 0 ≡ kin_link m i
    → IsBinarySearchResult (λ y. nat_cmp y q) ps r
    → t ≡ is_err r
    → IsTrue t ↔ ParentOk z m i
named_search {ps = ps} {q = q} (Ok x) t a f e ne d nd k b w =
    let h = searched ps q (Ok x) b (filled_rises a f) in (
      λ y. absurd (false≢true (sym w ∙ y)),
      λ ok. absurd (named-not a f d e ne nd k (record { at = x; below = h.0; same = h.1 }) ok.named),
    )
named_search {ps = ps} {q = q} (Err x) t a f e ne d nd k b w =
    let h = searched ps q (Err x) b (filled_rises a f) in
    (λ y. record { named = named-gone a f d (λ s. none s (ltb s.at x) refl) }, λ ok. w)
  where
    none : (s : Has ps q) (u : Bool) → ltb s.at x ≡ u → ⊥
    none s true c = omega (arith, (searched ps q (Err x) b (filled_rises a f)).1 s.at (ltb-true s.at x c), s.same)
    none s false c = omega (arith, (searched ps q (Err x) b (filled_rises a f)).2 s.at (ltb-false s.at x c) s.below, s.same)

-- The link to the parent was found, and it was not.
pub named_some
    : {z : Sizes} {m : Memory} {i : ℕ} (r : Option ℕ) (t : Bool)
    → Aged z m
    → ((k : ℕ) → m fields.parent_at k ≤ z.processes)
    → link r ≡ kin_link m i
    → t ≡ is_some r
    → t ≡ true
    → IsTrue t ↔ ParentOk z m i
named_some None t a l e s y = absurd (false≢true (sym s ∙ y))
named_some (Some x) t a l e s y = (λ h. record { named = named-link a l e }, λ k. y)

pub none_link : {k : ℕ} (r : Option ℕ) (t : Bool) → link r ≡ k → t ≡ is_some r → t ≡ false → 0 ≡ k
none_link None t e s n = e
none_link (Some x) t e s n = absurd (false≢true (sym n ∙ s))
