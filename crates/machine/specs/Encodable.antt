-- What of a step can be encoded: `decode-encode` of proofs/BytesLaws.antt speaks of it.
use Rattle.std.specs.Prelude.{List, [], ◌∷◌, ℕ, ◌^◌, ◌<◌, length}
use Rattle.machine.specs.Step.{Fields, numbers, bytes}

-- Each of some numbers is below n. What can be encoded: fields below 2^64, and a byte string shorter than 2^32 bytes.
abbrev pub AllBelow : ℕ → List ℕ → Type 0
AllBelow n [] = Unit {0}
AllBelow n (x ∷ xs) = (x < n) × AllBelow n xs

-- Fields that can be encoded.
abbrev pub Encodable : Fields → Type 0
Encodable (numbers xs) = AllBelow (2 ^ 64) xs
Encodable (bytes bs) = length bs < 2 ^ 32
