-- Fields, read from bytes.
use Rattle.std.specs.Prelude.{◌≡◌, refl, Bool, true, false, ◌&&◌, List, ℕ, ◌+◌, ◌*◌, ◌-◌, ◌≤◌, ◌<◌, eqb, leb, length, get_or, set, take, drop}
use Rattle.std.proofs.Common.{sym, subst, ◌∙◌, arith, eqb-true, length-set, length-drop, take_all, get_or-set_same, get_or-set_other}
use Rattle.std.proofs.lemmas.Bool.{eqb-false}
use Rattle.memory.specs.Le.{le}
use Rattle.decode.specs.Means.{Below}

-- There is a field j, and its number is r.
pub record Behind (b : List ℕ) (j : ℕ) : Type 0 where
  pub room : 10 + 8 * j ≤ length b

pub record Number (b : List ℕ) (j r : ℕ) : Type 0 where
  pub value : r ≡ le 8 b (2 + 8 * j)
  pub below : Below r

-- n numbers are all the bytes behind the kind and the mark, and these are xs.
pub record Fields (n : ℕ) (b xs : List ℕ) : Type 0 where
  pub exact : length b ≡ 2 + 8 * n
  pub number : (j : ℕ) → j < n → Number b j (get_or xs j 0)

-- As they are read: the first j stand.
pub record Filled (n : ℕ) (b xs : List ℕ) (j : ℕ) : Type 0 where
  pub exact : length b ≡ 2 + 8 * n
  pub whole : length xs ≡ n
  pub number : (k : ℕ) → k < j → Number b k (get_or xs k 0)

pub filling : {n : ℕ} {b xs : List ℕ} → length b ≡ 2 + 8 * n → length xs ≡ n → Filled n b xs 0
filling e l = record { exact = e; whole = l; number = λ k h. absurd (omega arith) }

pub filled_behind : {n : ℕ} {b xs : List ℕ} {j : ℕ} → Filled n b xs j → j < n → Behind b j
filled_behind f h = record { room = omega (arith, f.exact) }

pub filled_more : {n : ℕ} {b xs : List ℕ} {j v : ℕ} → Filled n b xs j → j < n → Number b j v → Filled n b (set xs j v) (j + 1)
filled_more {n} {b} {xs} {j} {v} f h w =
    record { exact = f.exact; whole = length-set xs j v ∙ f.whole; number = λ k l. go k (eqb j k) refl (omega arith) }
  where
    go : (k : ℕ) (c : Bool) → eqb j k ≡ c → k ≤ j → Number b k (get_or (set xs j v) k 0)
    go k true x l =
        let y : j ≡ k = eqb-true j k x in
        subst (λ (i : ℕ). Number b i (get_or (set xs j v) i 0)) y
        (subst (Number b j) (sym (get_or-set_same xs j v 0 (omega (arith, f.whole)))) w)
    go k false x l =
        subst (Number b k) (sym (get_or-set_other xs j k v 0 (λ y. eqb-false j k x (sym y)))) (f.number k (omega (arith, eqb-false j k x)))

pub filled : {n : ℕ} {b xs : List ℕ} → Filled n b xs n → Fields n b xs
filled f = record { exact = f.exact; number = f.number }

-- A byte string s is all of them behind its length; there is none.
pub record IsString (b s : List ℕ) : Type 0 where
  pub exact : length b ≡ 6 + le 4 b 2
  pub value : s ≡ drop 6 b

pub record NoString (b : List ℕ) : Type 0 where
  pub unfit : (leb 6 (length b) && eqb (length b) (6 + le 4 b 2)) ≡ false

-- What the code of `string` shows.
pub is-string : {b s : List ℕ} {n : ℕ} → n ≡ le 4 b 2 → length b ≡ 6 + n → s ≡ take (length b - 6) (drop 6 b) → IsString b s
is-string {b} e l v =
    record { exact = omega (arith, e, l); value = v ∙ take_all (length b - 6) (drop 6 b) (simp length-drop (omega arith)) }
