-- Exit messages.
use Rattle.std.specs.Prelude.{if◌then◌else◌, Bool, true, false, ◌&&◌, List, [], ◌∷◌, ◌++◌, ℕ, zero, suc, ◌+◌, ◌/◌, ◌%◌, eqb, leb, ltb, length, get_or, take}
use Rattle.machine.specs.Basics.{is_empty, ascii}

-- Numbers are in decimal. The digits of n, for n below 10 to the power of fuel + 1.
unfoldable pub digits : ℕ → ℕ → List ℕ
digits zero n = (48 + n) ∷ []
digits (suc fuel) n = elim (ltb n 10) [ true ↦ (48 + n) ∷ [] | false ↦ digits fuel (n / 10) ++ (48 + n % 10) ∷ [] ]

-- A number in decimal.
unfoldable pub decimal : ℕ → List ℕ
decimal n = digits n n

-- A name up to its first zero byte.
unfoldable pub up_to_zero : List ℕ → List ℕ
up_to_zero [] = []
up_to_zero (b ∷ bs) = if eqb b 0 then [] else b ∷ up_to_zero bs

-- A byte that is 10xxxxxx in binary.
unfoldable pub continuation : ℕ → Bool
continuation b = leb 128 b && ltb b 192

-- Moving back while the first dropped byte is 10xxxxxx in binary.
unfoldable pub move_back : List ℕ → ℕ → ℕ
move_back bytes zero = 0
move_back bytes (suc n) = elim (continuation (get_or bytes (suc n) 0)) [ true ↦ move_back bytes n | false ↦ suc n ]

-- Over 127 bytes it is cut at 127, moving back so. (ERRMAX is 128.)
unfoldable pub cut : List ℕ → List ℕ
cut bytes = if leb (length bytes) 127 then bytes else take (move_back bytes 127) bytes

-- exits(2): an empty string is normal termination; otherwise the parent's message holds the program's name, its pid and the
-- string. docs/MACHINE.md, "Exit messages": of an empty status an empty one; else the name up to its first zero byte, a space, the
-- pid, a colon, a space and the status.
unfoldable pub message : List ℕ → ℕ → List ℕ → List ℕ
message name pid status = if is_empty status then [] else cut (up_to_zero name ++ ascii " " ++ decimal pid ++ ascii ": " ++ status)

-- All of this module, for whoever computes with it.
unfoldable pub open_message : Unit {0}
unfolding digits decimal up_to_zero continuation move_back cut message
open_message = tt
