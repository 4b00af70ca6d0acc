-- An exit message is at most 127 bytes; and the parts of it are bytes.
use Rattle.std.specs.Prelude.{if◌then◌else◌, ◌≡◌, refl, Bool, true, false, List, [], ◌∷◌, ◌++◌, ℕ, zero, suc, ◌+◌, ◌/◌, ◌%◌, ◌≤◌, eqb, leb, ltb, length, get_or, take}
use Rattle.std.proofs.Common.{arith, leb-true, ltb-true, ltb-false, length-take}
use Rattle.machine.specs.Basics.{is_empty, ascii}
use Rattle.machine.specs.Message.{digits, decimal, up_to_zero, continuation, move_back, cut, message}
use Rattle.machine.specs.Good.{Each, Byte}
use Rattle.lists.specs.Lists.{either, each_append}

-- The first few of a list have what all have.
each_take : {A : Type 0} (P : A → Type 0) (n : ℕ) (xs : List A) → Each P xs → Each P (take n xs)
each_take P zero xs h = tt
each_take P (suc n) [] h = tt
each_take P (suc n) (x ∷ xs) h = (h.0, each_take P n xs h.1)

-- Digits are bytes, where the fuel is enough.
pub digit-bytes : (fuel n : ℕ) → n ≤ fuel → Each Byte (digits fuel n)
unfolding digits
digit-bytes zero n h = (omega arith, tt)
digit-bytes (suc fuel) n h = go (ltb n 10) refl (λ l. digit-bytes fuel (n / 10) l)
  where
    go : (b : Bool) → ltb n 10 ≡ b → (n / 10 ≤ fuel → Each Byte (digits fuel (n / 10))) → Each Byte (digits (suc fuel) n)
    go true e rec = rw (e, digits) (omega (arith, ltb-true n 10 e), tt)
    go false e rec = rw (e, digits) (each_append Byte (digits fuel (n / 10)) ((48 + n % 10) ∷ []) (rec (omega (arith, ltb-false n 10 e))) (omega arith, tt))

-- A name up to its first zero byte is bytes.
pub name-bytes : (bs : List ℕ) → Each Byte bs → Each Byte (up_to_zero bs)
unfolding up_to_zero
name-bytes [] h = tt
name-bytes (b ∷ bs) h = either (λ (c : Bool). Each Byte (if c then [] else b ∷ up_to_zero bs)) (eqb b 0) tt (h.0, name-bytes bs h.1)

-- Moving back ends no later than it began.
moved_back : (bytes : List ℕ) (n : ℕ) → move_back bytes n ≤ n
unfolding move_back
moved_back bytes zero = omega arith
moved_back bytes (suc n) = go (continuation (get_or bytes (suc n) 0)) refl (moved_back bytes n)
  where
    go : (b : Bool) → continuation (get_or bytes (suc n) 0) ≡ b → move_back bytes n ≤ n → move_back bytes (suc n) ≤ suc n
    go true e rec = rw (e, move_back) (omega arith)
    go false e rec = rw (e, move_back) (omega arith)

-- What is cut has at most 127 bytes.
cut-length : (bytes : List ℕ) → length (cut bytes) ≤ 127
unfolding cut
cut-length bytes = go (leb (length bytes) 127) refl
  where
    go : (b : Bool) → leb (length bytes) 127 ≡ b → length (if b then bytes else take (move_back bytes 127) bytes) ≤ 127
    go true e = leb-true (length bytes) 127 e
    go false e = omega (arith, length-take (move_back bytes 127) bytes, moved_back bytes 127)

-- And they are bytes.
pub cut-bytes : (bytes : List ℕ) → Each Byte bytes → Each Byte (cut bytes)
unfolding cut
cut-bytes bytes h = either (λ (b : Bool). Each Byte (if b then bytes else take (move_back bytes 127) bytes)) (leb (length bytes) 127) h (each_take Byte (move_back bytes 127) bytes h)

-- A message has at most 127 bytes.
pub message_length_lem : (name : List ℕ) (pid : ℕ) (status : List ℕ) → length (message name pid status) ≤ 127
unfolding message
message_length_lem name pid status =
    let all : List ℕ = up_to_zero name ++ ascii " " ++ decimal pid ++ ascii ": " ++ status in
    either (λ (b : Bool). length (if b then [] else cut all) ≤ 127) (is_empty status) (omega arith) (cut-length all)
