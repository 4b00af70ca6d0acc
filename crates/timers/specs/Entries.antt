-- A queue of timers by number, and the machine's queue of timers with their deadlines.
use Rattle.std.specs.Prelude.{if◌then◌else◌, ◌≡◌, refl, Bool, true, false, List, [], ◌∷◌, map, ℕ, suc, ltb, leb}
use Rattle.std.proofs.Common.{ap, ap₂, arith, ltb-true, ltb-false, le-leb}
use Rattle.std.proofs.lemmas.Bool.{lt-leb}
use Rattle.machine.specs.Good.{Each}
use Rattle.machine.specs.Machine.{Queued}
use Rattle.machine.specs.Timers.{insert}
use Rattle.layout.specs.Memory.{alter}
use Rattle.chain.specs.Lists.{Absent, all_map, all_both}
use Rattle.chain.specs.Links.{alter-other}
use Rattle.chain.specs.Ordered.{insert_by, spot, Sorted}

abbrev pub entry : (ℕ → ℕ) → ℕ → Queued
entry key t = record { timer = t; deadline = key t }

abbrev pub entries : (ℕ → ℕ) → List ℕ → List Queued
entries key xs = map (λ t. record { timer = t; deadline = key t }) xs

-- Keys that agree on a list.
abbrev pub Alike : (ℕ → ℕ) → (ℕ → ℕ) → List ℕ → Type 0
Alike key key' = Each (λ x. key' x ≡ key x)

pub alike_absent : (key : ℕ → ℕ) (t d : ℕ) (xs : List ℕ) → Absent t xs → Alike key (alter key t d) xs
alike_absent key t d xs a = all_map (λ i ne. alter-other key t d i ne) xs a

pub entries_alike : (key key' : ℕ → ℕ) (xs : List ℕ) → Alike key key' xs → entries key' xs ≡ entries key xs
entries_alike key key' [] a = refl
entries_alike key key' (x ∷ xs) a =
    ap₂ (λ (d : ℕ) (l : List Queued). record { timer = x; deadline = d } ∷ l) a.0 (entries_alike key key' xs a.1)

pub spot_alike : (key key' : ℕ → ℕ) (k p : ℕ) (xs : List ℕ) → Alike key key' xs → spot key' k p xs ≡ spot key k p xs
spot_alike key key' k p [] a = refl
spot_alike key key' k p (x ∷ xs) a = rw (a.0, spot_alike key key' k (suc x) xs a.1)

pub sorted_alike : (key key' : ℕ → ℕ) (xs : List ℕ) → Alike key key' xs → Sorted key xs → Sorted key' xs
sorted_alike key key' [] a s = tt
sorted_alike key key' (x ∷ xs) a s =
    (all_both (λ y e l. omega (arith, a.0)) xs a.1 s.0, sorted_alike key key' xs a.1 s.1)

-- Insertion by deadline is the machine's.
pub insert-entries
    : (key key' : ℕ → ℕ) (t : ℕ) (xs : List ℕ)
    → Alike key key' xs
    → entries key' (insert_by key' t xs) ≡ insert (entry key' t) (entries key xs)
unfolding insert
insert-entries key key' t [] a = refl
insert-entries key key' t (x ∷ xs) a = go (ltb (key' t) (key' x)) refl (insert-entries key key' t xs a.1)
  where
    go
        : (b : Bool)
        → ltb (key' t) (key' x) ≡ b
        → entries key' (insert_by key' t xs) ≡ insert (entry key' t) (entries key xs)
        → entries key' (if b then t ∷ x ∷ xs else x ∷ insert_by key' t xs)
        ≡ (if leb (key x) (key' t) then entry key x ∷ insert (entry key' t) (entries key xs) else entry key' t ∷ entry key x ∷ entries key xs)
    go true e h =
        let l : leb (key x) (key' t) ≡ false = lt-leb (key x) (key' t) (omega (arith, ltb-true (key' t) (key' x) e, a.0)) in
        rw l (ap (λ (l : List Queued). entry key' t ∷ l) (entries_alike key key' (x ∷ xs) a))
    go false e h =
        let l : leb (key x) (key' t) ≡ true = le-leb (key x) (key' t) (omega (arith, ltb-false (key' t) (key' x) e, a.0)) in
        rw l (ap₂ (λ (d : ℕ) (l : List Queued). record { timer = x; deadline = d } ∷ l) a.0 h)
