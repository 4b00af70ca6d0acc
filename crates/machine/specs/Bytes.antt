-- Steps as bytes.
use Rattle.std.specs.Prelude.{if◌then◌else◌, true, false, ◌&&◌, List, [], ◌∷◌, ◌++◌, ℕ, zero, suc, ◌+◌, ◌*◌, ◌/◌, ◌%◌, eqb, leb, ltb, length, get_or, drop}
use Rattle.std.proofs.Math.Option.{Option, none, some}
use lib.Text.{eqt}
use Rattle.memory.specs.Le.{le}
use Rattle.machine.specs.Basics.{concat_map}
use Rattle.machine.specs.Step.{Step, Body, Form, takes_numbers, takes_bytes, Kind, kinds, fill, Fields, numbers, bytes, word_of, fields_of}

-- The n bytes of a number, little end first.
unfoldable pub bytes_of : ℕ → ℕ → List ℕ
bytes_of zero v = []
bytes_of (suc n) v = v % 256 ∷ bytes_of n (v / 256)

-- The number of a step's kind.
unfoldable pub kind_number : List Kind → Body → ℕ
kind_number [] b = 0
kind_number (k ∷ ks) b = elim (eqt (word_of b) k.word) [ true ↦ k.number | false ↦ kind_number ks b ]

-- Its fields as 64-bit little-endian numbers, and any byte string after a 32-bit little-endian length.
unfoldable pub encode_fields : Fields → List ℕ
encode_fields (numbers xs) = concat_map (bytes_of 8) xs
encode_fields (bytes bs) = bytes_of 4 (length bs) ++ bs

-- A step is a kind byte, a context byte (1 where marked, else 0), and its fields.
unfoldable pub encode : Step → List ℕ
encode s = kind_number kinds s.body ∷ (if s.marked then 1 else 0) ∷ encode_fields (fields_of s.body)

-- The n numbers of 64 bits from a place on.
unfoldable pub numbers_at : ℕ → List ℕ → ℕ → List ℕ
numbers_at zero s at = []
numbers_at (suc n) s at = le 8 s at ∷ numbers_at n s (at + 8)

-- The fields fill the bytes behind the kind and the context exactly.
unfoldable pub decode_form : Form → List ℕ → Option Body
decode_form (takes_numbers n f) s = if eqb (length s) (2 + 8 * n) then fill n f (numbers_at n s 2) else none
decode_form (takes_bytes f) s = if leb 6 (length s) && eqb (length s) (6 + le 4 s 2) then some (f (drop 6 s)) else none

-- The kind of step that the kind byte names.
unfoldable pub decode_body : List Kind → List ℕ → Option Body
decode_body [] s = none
decode_body (k ∷ ks) s = elim (eqb k.number (get_or s 0 0)) [ true ↦ decode_form k.form s | false ↦ decode_body ks s ]

-- The context byte: 1 where marked, else 0; any other is no step.
unfoldable pub marking : ℕ → Option Body → Option Step
marking mark none = none
marking mark (some b) =
    if eqb mark 0
    then some (record { marked = false; body = b })
    else if eqb mark 1 then some (record { marked = true; body = b }) else none

-- The step that bytes are, if they are one.
unfoldable pub decode : List ℕ → Option Step
decode s = if ltb (length s) 2 then none else marking (get_or s 1 0) (decode_body kinds s)

-- All of this module, for whoever computes with it.
unfoldable pub open_bytes : Unit {0}
unfolding bytes_of kind_number encode_fields encode numbers_at decode_form decode_body marking decode
open_bytes = tt
