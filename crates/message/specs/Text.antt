-- The whole text of a message, byte by byte, and the name up to its first zero byte.
use denote.Ref.{Bor}
use Rattle.std.specs.Prelude.{if◌then◌else◌, ◌≡◌, refl, Bool, true, false, not, Option, None, Some, MatchOption, unwrap_or, List, [], ◌∷◌, ◌++◌, ℕ, suc, ◌+◌, ◌-◌, ◌≤◌, ◌<◌, ltb, eqb, length, get_or, take, position}
use Rattle.std.specs.List.{position_or_len}
use Rattle.std.specs.Option.{option_copied}
use Rattle.std.specs.Slice.{IsItemAt}
use Rattle.std.proofs.Common.{ltb-false, sym, ap, ◌∙◌, append_assoc, arith, length-append, get_or-append-add, length-take-le}
use Rattle.std.proofs.Math.ListN.{get_or-append}
use Rattle.machine.specs.Basics.{ascii}
use Rattle.machine.specs.Message.{up_to_zero, decimal}

-- a name, a space, digits, a colon, a space, a status
unfoldable pub text : List ℕ → List ℕ → List ℕ → List ℕ
text name digits status = name ++ (32 ∷ (digits ++ (58 ∷ 32 ∷ status)))

-- it is what the definition of a message cuts
pub text-is : (name : List ℕ) (pid : ℕ) (status : List ℕ)
    → up_to_zero name ++ ascii " " ++ decimal pid ++ ascii ": " ++ status ≡ text (up_to_zero name) (decimal pid) status
unfolding text ascii
text-is name pid status = simp append_assoc

pub text-length : (name digits status : List ℕ) → length (text name digits status) ≡ length name + length digits + length status + 3
unfolding text
text-length name digits status =
    length-append name (32 ∷ (digits ++ (58 ∷ 32 ∷ status))) ∙ omega (arith, length-append digits (58 ∷ 32 ∷ status))

-- past the first of two lists
get_or-past : (xs ys : List ℕ) (k : ℕ) → length xs ≤ k → get_or (xs ++ ys) k 0 ≡ get_or ys (k - length xs) 0
get_or-past xs ys k h =
    let e : k ≡ length xs + (k - length xs) = omega arith in
    ap (λ (j : ℕ). get_or (xs ++ ys) j 0) e ∙ get_or-append-add xs ys (k - length xs) 0

two-more : (x : ℕ) → (x ≡ 0 → ⊥) → (x ≡ 1 → ⊥) → x ≡ suc (suc (x - 2))
two-more x n0 n1 = omega arith

-- byte k of the text
pub record TextAt (name digits status : List ℕ) (k r : ℕ) : Type 0 where
  pub byte : r ≡ get_or (text name digits status) k 0

-- what the code shows at each return of `Text::byte_at`
pub at_name : {name digits status : List ℕ} {k : ℕ} → k < length name → TextAt name digits status k (get_or name k 0)
unfolding text
at_name {name} {digits} {status} {k} h = record { byte = sym (get_or-append name (32 ∷ (digits ++ (58 ∷ 32 ∷ status))) 0 k h) }

module _ (name digits status : List ℕ) (k : ℕ) (h : length name ≤ k) where
  past-name : get_or (text name digits status) k 0 ≡ get_or (32 ∷ (digits ++ (58 ∷ 32 ∷ status))) (k - length name) 0
  unfolding text
  past-name = get_or-past name (32 ∷ (digits ++ (58 ∷ 32 ∷ status))) k h

  past_space : (k - length name ≡ 0 → ⊥) → get_or (text name digits status) k 0 ≡ get_or (digits ++ (58 ∷ 32 ∷ status)) (k - length name - 1) 0
  past_space ne =
      let e : k - length name ≡ suc (k - length name - 1) = omega arith in
      past-name ∙ ap (λ (j : ℕ). get_or (32 ∷ (digits ++ (58 ∷ 32 ∷ status))) j 0) e

  past-digits : (k - length name ≡ 0 → ⊥) → length digits ≤ k - length name - 1
      → get_or (text name digits status) k 0 ≡ get_or (58 ∷ 32 ∷ status) (k - length name - 1 - length digits) 0
  past-digits ne l = past_space ne ∙ get_or-past digits (58 ∷ 32 ∷ status) (k - length name - 1) l

  past_colon : (k - length name ≡ 0 → ⊥) → length digits ≤ k - length name - 1 → (k - length name - 1 - length digits ≡ 0 → ⊥)
      → (k - length name - 1 - length digits ≡ 1 → ⊥)
      → get_or (text name digits status) k 0 ≡ get_or status (k - length name - 1 - length digits - 2) 0
  past_colon ne l n0 n1 =
      let e : k - length name - 1 - length digits ≡ suc (suc (k - length name - 1 - length digits - 2))
      = two-more (k - length name - 1 - length digits) n0 n1 in
      past-digits ne l ∙ ap (λ (j : ℕ). get_or (58 ∷ 32 ∷ status) j 0) e

module _ {name digits status : List ℕ} {k : ℕ} (h : length name ≤ k) where
  pub at_space : k - length name ≡ 0 → TextAt name digits status k 32
  at_space e = record { byte = sym (past-name name digits status k h ∙ ap (λ (j : ℕ). get_or (32 ∷ (digits ++ (58 ∷ 32 ∷ status))) j 0) e) }

  pub at-digit : (k - length name ≡ 0 → ⊥) → k - length name - 1 < length digits
      → TextAt name digits status k (get_or digits (k - length name - 1) 0)
  at-digit ne l = record { byte = sym (past_space name digits status k h ne ∙ get_or-append digits (58 ∷ 32 ∷ status) 0 (k - length name - 1) l) }

  pub at_colon : (k - length name ≡ 0 → ⊥) → length digits ≤ k - length name - 1 → k - length name - 1 - length digits ≡ 0
      → TextAt name digits status k 58
  at_colon ne l e = record { byte = sym (past-digits name digits status k h ne l ∙ ap (λ (j : ℕ). get_or (58 ∷ 32 ∷ status) j 0) e) }

  pub at_second : (k - length name ≡ 0 → ⊥) → length digits ≤ k - length name - 1 → k - length name - 1 - length digits ≡ 1
      → TextAt name digits status k 32
  at_second ne l e = record { byte = sym (past-digits name digits status k h ne l ∙ ap (λ (j : ℕ). get_or (58 ∷ 32 ∷ status) j 0) e) }

  pub at_status : (k - length name ≡ 0 → ⊥) → length digits ≤ k - length name - 1 → (k - length name - 1 - length digits ≡ 0 → ⊥)
      → (k - length name - 1 - length digits ≡ 1 → ⊥)
      → TextAt name digits status k (get_or status (k - length name - 1 - length digits - 2) 0)
  at_status ne l n0 n1 = record { byte = sym (past_colon name digits status k h ne l n0 n1) }

-- a byte of the status, or none
pub at_rest
    : (name digits status : List ℕ) (k : ℕ) → length name ≤ k → (k - length name ≡ 0 → ⊥) → length digits ≤ k - length name - 1
    → (k - length name - 1 - length digits ≡ 0 → ⊥) → (k - length name - 1 - length digits ≡ 1 → ⊥)
    → (g : Option (Bor ℕ)) → IsItemAt status (k - length name - 1 - length digits - 2) g
    → MatchOption (option_copied g) (length (text name digits status) ≤ k) (TextAt name digits status k)
at_rest name digits status k h ne l n0 n1 None i = omega (arith, text-length name digits status, i.3)
at_rest name digits status k h ne l n0 n1 (Some x) i =
    let s : TextAt name digits status k (get_or status (k - length name - 1 - length digits - 2) 0) = at_status h ne l n0 n1 in
    record { byte = i.4 (omega arith) 0 ∙ s.byte }

-- The name ends at r: at its first zero byte, or where the list ends.
pub record NameEnds (name : List ℕ) (r : ℕ) : Type 0 where
  pub within : r ≤ length name
  pub front : take r name ≡ up_to_zero name

pub ends-length : {name : List ℕ} {r : ℕ} → NameEnds name r → r ≡ length (take r name)
ends-length {name} {r} e = sym (length-take-le r name e.within)

-- it is the first place at which the test for zero passes
first-zero : (name : List ℕ) → take (position_or_len (λ b. eqb b 0) name) name ≡ up_to_zero name
unfolding up_to_zero
first-zero [] = refl
first-zero (b ∷ bs) = go (eqb b 0) (position_or_len (λ x. eqb x 0) bs) (first-zero bs)
  where
    go : (t : Bool) (n : ℕ) → take n bs ≡ up_to_zero bs → take (if not t then 1 + n else 0) (b ∷ bs) ≡ (if t then [] else b ∷ up_to_zero bs)
    go true n h = refl
    go false n h = let e : 1 + n ≡ suc n = omega arith in rw e (ap (λ (l : List ℕ). b ∷ l) h)

place-within : (name : List ℕ) → position_or_len (λ b. eqb b 0) name ≤ length name
place-within [] = omega arith
place-within (b ∷ bs) = go (eqb b 0) (position_or_len (λ x. eqb x 0) bs) (place-within bs)
  where
    go : (t : Bool) (n : ℕ) → n ≤ length bs → (if not t then 1 + n else 0) ≤ suc (length bs)
    go true n h = omega arith
    go false n h = omega (arith, h)

place-or : (k n : ℕ) → k ≤ n → unwrap_or (if ltb k n then Some k else None) n ≡ k
place-or k n h = go (ltb k n) refl
  where
    go : (t : Bool) → ltb k n ≡ t → unwrap_or (if t then Some k else None) n ≡ k
    go true e = refl
    go false e = omega (arith, ltb-false k n e)

-- what the code shows
pub name-ends : {name : List ℕ} {o : Option ℕ} {r : ℕ} → o ≡ position (λ b. eqb b 0) name → r ≡ unwrap_or o (length name) → NameEnds name r
name-ends {name} {o} {r} e d =
    let k : ℕ = position_or_len (λ b. eqb b 0) name in
    let q : r ≡ k = d ∙ ap (λ (x : Option ℕ). unwrap_or x (length name)) e ∙ place-or k (length name) (place-within name) in
    record { within = rw q (place-within name); front = rw q (first-zero name) }
