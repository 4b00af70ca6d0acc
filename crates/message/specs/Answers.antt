-- What the message writer asks and ensures, and what the code shows at each way out.
use Rattle.std.specs.Prelude.{◌≡◌, refl, List, [], ◌∷◌, ◌++◌, ℕ, ◌≤◌, length, take, drop}
use Rattle.std.proofs.Common.{sym, ap, ◌∙◌, arith, length-drop}
use Rattle.std.proofs.lemmas.List.{nil_from_length}
use Rattle.machine.specs.Message.{message, cut, up_to_zero, decimal}
use Rattle.message.specs.Text.{text, text-is, NameEnds, ends-length}
use Rattle.message.specs.Digits.{Written}
use Rattle.message.specs.Cut.{CutAsks, CutLength, Copied}

-- A cell is 127 bytes long, a name at most 28.
pub record MessageAsks (cell name : List ℕ) : Type 0 where
  pub cell_long : length cell ≡ 127
  pub name_fits : length name ≤ 28

-- The answer is the message's length; the cell holds the message, and behind it what it held.
pub record MessageWritten (cell cell' name : List ℕ) (pid : ℕ) (status : List ℕ) (r : ℕ) : Type 0 where
  pub answer : r ≡ length (message name pid status)
  pub bytes : cell' ≡ message name pid status ++ drop (length (message name pid status)) cell
  pub within : r ≤ 127

message-none : (name : List ℕ) (pid : ℕ) → message name pid [] ≡ []
unfolding message
message-none name pid = refl

message-some : (name : List ℕ) (pid : ℕ) (status : List ℕ) → (length status ≡ 0 → ⊥)
    → message name pid status ≡ cut (text (up_to_zero name) (decimal pid) status)
unfolding message
message-some name pid [] ne = absurd (ne refl)
message-some name pid (b ∷ status) ne = ap cut (text-is name pid (b ∷ status))

-- an empty status
pub written_none : {cell name : List ℕ} {pid : ℕ} {status : List ℕ} → length status ≡ 0 → MessageWritten cell cell name pid status 0
written_none {cell} {name} {pid} {status} e =
    let m : message name pid status ≡ [] = rw (nil_from_length status e) (message-none name pid) in
    record { answer = rw m; bytes = rw m; within = omega arith }

-- the parts that are handed on are short
pub parts_fit : {cell name ds : List ℕ} {pid : ℕ} {d : List ℕ} {from end : ℕ} → MessageAsks cell name → Written pid d from → ds ≡ drop from d → NameEnds name end
    → CutAsks (take end name) ds
parts_fit {cell} {name} {ds} {pid} {d} {from} {end} a w s e =
    record { name_fits = omega (arith, ends-length e, e.within, a.name_fits); digits_fit = omega (arith, ap length s, length-drop from d, w.long) }

-- any other status
pub written-some : {cell cell' name ds : List ℕ} {pid : ℕ} {status d : List ℕ} {from end n : ℕ} → (length status ≡ 0 → ⊥)
    → Written pid d from → ds ≡ drop from d → NameEnds name end → CutLength (take end name) ds status n
    → Copied cell (take end name) ds status n cell' → MessageWritten cell cell' name pid status n
written-some {cell} {cell'} {name} {ds} {pid} {status} {d} {from} {end} {n} ne w s e c k =
    let bytes : List ℕ = text (take end name) ds status in
    let t : bytes ≡ text (up_to_zero name) (decimal pid) status = rw (e.front, s ∙ w.digits) in
    let m : message name pid status ≡ cut bytes = message-some name pid status ne ∙ ap cut (sym t) in
    record {
      answer = c.size ∙ ap length (sym m);
      bytes = rw (m, ← c.size, ← c.front) k.bytes;
      within = c.within;
    }
