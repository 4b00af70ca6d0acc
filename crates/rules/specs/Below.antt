-- A test of each number below a bound, or from one bound on and below another, as `(m..n).all(..)` makes it. No clause cites this file, since it
-- imports std's proofs of iterators.
use Rattle.std.specs.Prelude.{◌≡◌, refl, Bool, true, false, Option, MatchBool, MatchOption, IsTrue, ◌↔◌, HoldsAt, List, ℕ, ◌+◌, ◌-◌, ◌≤◌, ◌<◌, length}
use Rattle.std.proofs.Common.{sym, subst, ◌∙◌, arith}
use Rattle.std.specs.Fn.{Mut, Called}
use Rattle.std.specs.Iterator.{YieldsThen}
use Rattle.std.specs.List.{FoldsTo, AllWithin, range_with_len}
use Rattle.std.specs.declared.ops.Range.{Range}
use Rattle.std.proofs.iter.Yields.{nat_range_steps}
use Rattle.std.proofs.lemmas.Iterator.{cases_from_all, YieldsList-from_range}
use Rattle.std.proofs.lemmas.List.FromFn.{length-range_with_len, get_or-range_with_len}

-- The answer of a test of all numbers from m on and below n: it is true exactly where P holds of each.
pub all_from
    : (m n : ℕ) (r : Bool) (P : ℕ → Type 0)
    → MatchBool r (AllWithin P (range_with_len m (n - m)) 0 (length (range_with_len m (n - m))))
    ((k : ℕ) × (k < length (range_with_len m (n - m))) × HoldsAt (λ i. P i → ⊥) (range_with_len m (n - m)) k)
    → IsTrue r ↔ ((i : ℕ) → m ≤ i → i < n → P i)
all_from m n true P h = (
  λ t i b l.
      subst P (get_or-range_with_len m (n - m) (i - m) 0 (omega arith) ∙ omega arith)
      (h (i - m) 0 (omega arith) (omega (arith, length-range_with_len m (n - m)))),
  λ f. refl,
)
all_from m n false P (k, l, fails) =
    let l' : k < n - m = omega (arith, length-range_with_len m (n - m)) in
    (λ t. absurd (cc), λ f. absurd (fails 0 (subst P (sym (get_or-range_with_len m (n - m) k 0 l')) (f (m + k) (omega arith) (omega arith)))))

-- What `(m..n).all(f)` ensures, where f keeps what it holds, answers `true` only where P holds, and `false` only where not.
pub all_from_by
    : {F : Type 0} {g : Mut F (ℕ × Unit {0}) Bool} {s u : Range ℕ} {f : F} {r : Bool} (m n : ℕ) (P : ℕ → Type 0)
    → s ≡ record { start = m; end = n }
    → (xs : List ℕ)
    × (o : Option ℕ)
    × (j : F)
    × YieldsThen nat_range_steps s xs o u
    × FoldsTo (λ p x q. Called g p (x, tt) true q) f xs j
    × MatchOption o (r ≡ true) (λ x. (r ≡ false) × ((h : F) × Called g j (x, tt) false h))
    → ((x : ℕ) (q : F) → Called g f (x, tt) true q → (q ≡ f) × P x)
    → ((x : ℕ) (q : F) → Called g f (x, tt) false q → P x → ⊥)
    → IsTrue r ↔ ((i : ℕ) → m ≤ i → i < n → P i)
all_from_by {F} {g} {s} {u} {f} {r} m n P e ran hit miss =
    all_from m n r P (cases_from_all u f r P (λ i. P i → ⊥) ran (YieldsList-from_range m n (n - m) e refl) hit miss)

-- The same of a test of all numbers below n.
pub all_below_by
    : {F : Type 0} {g : Mut F (ℕ × Unit {0}) Bool} {s u : Range ℕ} {f : F} {r : Bool} (n : ℕ) (P : ℕ → Type 0)
    → s ≡ record { start = 0; end = n }
    → (xs : List ℕ)
    × (o : Option ℕ)
    × (j : F)
    × YieldsThen nat_range_steps s xs o u
    × FoldsTo (λ p x q. Called g p (x, tt) true q) f xs j
    × MatchOption o (r ≡ true) (λ x. (r ≡ false) × ((h : F) × Called g j (x, tt) false h))
    → ((x : ℕ) (q : F) → Called g f (x, tt) true q → (q ≡ f) × P x)
    → ((x : ℕ) (q : F) → Called g f (x, tt) false q → P x → ⊥)
    → IsTrue r ↔ ((i : ℕ) → i < n → P i)
all_below_by {r = r} n P e ran hit miss =
    let h : IsTrue r ↔ ((i : ℕ) → 0 ≤ i → i < n → P i) = all_from_by 0 n P e ran hit miss in
    (λ t i l. h.0 t i (omega arith) l, λ f. h.1 (λ i b l. f i l))
