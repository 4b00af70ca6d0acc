-- The bytes of messages: stores of them, and what is read of the memory then.
use Rattle.std.specs.Prelude.{◌≡◌, refl, List, [], ◌∷◌, ℕ, suc, ◌+◌, ◌*◌, ◌≤◌, ◌<◌, length}
use Rattle.std.proofs.Common.{sym, ap, ◌∙◌, arith}
use Rattle.layout.specs.Memory.{Memory, alter, set_field, upd, set_same, set_twice}
use Rattle.layout.specs.Writes.{Write, to, updates}
use Rattle.chain.specs.Links.{alter-same, alter-other}
use Rattle.state.specs.Fields as fields
use Rattle.state.specs.Abs.{table}
use Rattle.holds.specs.Parts.{table_same}

-- Bytes to the messages, from number k of theirs on.
unfoldable pub message_stores : ℕ → List ℕ → List Write
message_stores k [] = []
message_stores k (b ∷ bs) = to fields.message_byte k b ∷ message_stores (suc k) bs

-- g with the numbers bs from k on.
unfoldable pub overlay : (ℕ → ℕ) → ℕ → List ℕ → ℕ → ℕ
overlay g k [] = g
overlay g k (b ∷ bs) = overlay (alter g k b) (suc k) bs

-- The memory with the bytes bs at the front of the message of cell c.
abbrev pub message_mem : Memory → ℕ → List ℕ → Memory
message_mem m c bs = set_field m fields.message_byte (overlay (m fields.message_byte) (127 * c) bs)

pub updates-message : (m : Memory) (k : ℕ) (bs : List ℕ) → updates m (message_stores k bs) ≡ set_field m fields.message_byte (overlay (m fields.message_byte) k bs)
unfolding message_stores overlay
updates-message m k [] = sym (set_same m fields.message_byte)
updates-message m k (b ∷ bs) =
    updates-message (upd m fields.message_byte k b) (suc k) bs
    ∙ set_twice m fields.message_byte (alter (m fields.message_byte) k b) (overlay (alter (m fields.message_byte) k b) (suc k) bs)

-- What is read of them: before, behind, and among them.
pub overlay-before : (g : ℕ → ℕ) (k : ℕ) (bs : List ℕ) (x : ℕ) → x < k → overlay g k bs x ≡ g x
unfolding overlay
overlay-before g k [] x h = refl
overlay-before g k (b ∷ bs) x h = overlay-before (alter g k b) (suc k) bs x (omega arith) ∙ alter-other g k b x (λ e. omega arith)

pub overlay-behind : (g : ℕ → ℕ) (k : ℕ) (bs : List ℕ) (x : ℕ) → k + length bs ≤ x → overlay g k bs x ≡ g x
unfolding overlay
overlay-behind g k [] x h = refl
overlay-behind g k (b ∷ bs) x h = overlay-behind (alter g k b) (suc k) bs x (omega arith) ∙ alter-other g k b x (λ e. omega arith)

pub overlay-table : (g : ℕ → ℕ) (k : ℕ) (bs : List ℕ) → table (length bs) (λ j. overlay g k bs (k + j)) ≡ bs
unfolding overlay table
overlay-table g k [] = refl
overlay-table g k (b ∷ bs) =
    let e : overlay (alter g k b) (suc k) bs (k + 0) ≡ b =
    overlay-before (alter g k b) (suc k) bs (k + 0) (omega arith) ∙ ap (alter g k b) (omega arith) ∙ alter-same g k b
    in
    let h : ℕ → ℕ = overlay (alter g k b) (suc k) bs in
    λ y. e y ∷ (table_same (length bs) (λ j. h (suc k + j)) (λ j. h (k + suc j)) (λ j l. ap h (omega arith)) ∙ overlay-table (alter g k b) (suc k) bs) y
