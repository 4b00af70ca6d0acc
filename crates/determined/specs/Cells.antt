-- The exits and their cells in two memories of one machine.
use Rattle.std.specs.Prelude.{◌≡◌, refl, List, map, ℕ, zero, suc, ◌+◌, ◌*◌, ◌/◌, ◌%◌, ◌≤◌, ◌<◌, length, get_or}
use Rattle.std.proofs.Common.{sym, subst, ◌∙◌, arith}
use Rattle.std.proofs.Math.Path.{ap}
use Rattle.std.proofs.Math.Nat.{div-add-mod}
use Rattle.machine.specs.Basics.{count}
use Rattle.machine.specs.Machine.{Sizes, Process, Exit}
use Rattle.layout.specs.Memory.{Memory}
use Rattle.state.specs.Fields as fields
use Rattle.state.specs.Abs.{table, exit_list, exit_at}
use Rattle.state.specs.Tables.{table-length, table-get}
use Rattle.state.specs.Reads.{cells-back}
use Rattle.state.specs.WellFormed.{Used}
use Rattle.lists.specs.Lists.{each-count}
use Rattle.determined.specs.Chains.{LinksSame, same-chain, map_same}
use Rattle.determined.specs.Twins.{Twins, Same, twins_back}
use Rattle.determined.specs.Records.{same_use, same-process}

module _ {z : Sizes} {m m' : Memory} (w : Twins z m m') where
  -- The exits of a record in use.
  exits-same : (i : ℕ) → Used m i → map (exit_at m') (exit_list m' i) ≡ map (exit_at m) (exit_list m i)
  exits-same i u = ap (λ (p : Process). p.exits) (same-process w i u)

  -- So the cells are the same, in order, with their links and as many.
  pub same-exits : (i : ℕ) → Used m i → exit_list m' i ≡ exit_list m i
  same-exits i u = sym (cells-back m' (exit_list m' i)) ∙ ap (map (λ (e : Exit). e.cell)) (exits-same i u) ∙ cells-back m (exit_list m i)

  pub exit-links : (i : ℕ) → Used m i → LinksSame (m fields.cell_next) (m' fields.cell_next) (m fields.exits i) (m' fields.exits i) (exit_list m i)
  exit-links i u = same-chain (same-exits i u) (w.one.keeps.cells.chain i u) (w.two.keeps.cells.chain i (same_use w i u))

  pub same-nexits : (i : ℕ) → Used m i → m' fields.nexits i ≡ m fields.nexits i
  same-nexits i u =
      sym (w.two.keeps.cells.counted i (same_use w i u)) ∙ ap length (same-exits i u) ∙ w.one.keeps.cells.counted i u

  -- A cell that names an owner is in that owner's list, and names it in both memories.
  owner_too : (c i : ℕ) → m fields.owner c ≡ suc i → m' fields.owner c ≡ suc i
  owner_too c i e =
      let p : Used m i × (1 ≤ count c (exit_list m i)) = w.one.keeps.cells.owner c i e in
      each-count (λ c. m' fields.owner c ≡ suc i) (exit_list m' i) (w.two.keeps.cells.owned i (same_use w i p.0)) c
      (subst (λ (xs : List ℕ). 1 ≤ count c xs) (sym (same-exits i p.0)) p.1)

-- Owners are the same everywhere.
pub same-owner : {z : Sizes} {m m' : Memory} → Twins z m m' → Same m m' fields.owner
same-owner {z} {m} {m'} w c = go (m fields.owner c) refl (m' fields.owner c) refl
  where
    go : (o : ℕ) → m fields.owner c ≡ o → (o' : ℕ) → m' fields.owner c ≡ o' → o' ≡ o
    go zero e zero e' = refl
    go zero e (suc i) e' = sym (owner_too (twins_back w) c i e') ∙ e
    go (suc i) e o' e' = sym e' ∙ owner_too w c i e

-- A cell that is in use, and whose it is.
record Owned (m : Memory) (c : ℕ) : Type 0 where
  whose : ℕ
  used : Used m whose
  stands : 1 ≤ count c (exit_list m whose)

module _ {z : Sizes} {m m' : Memory} (w : Twins z m m') where
  owned : (c : ℕ) → 0 < m fields.owner c → Owned m c
  owned c u = go (m fields.owner c) refl
    where
      go : (o : ℕ) → m fields.owner c ≡ o → Owned m c
      go zero e = absurd (omega arith)
      go (suc i) e =
          let p : Used m i × (1 ≤ count c (exit_list m i)) = w.one.keeps.cells.owner c i e in
          record { whose = i; used = p.0; stands = p.1 }

  -- It keeps the same exit.
  exit-same : (c : ℕ) → 0 < m fields.owner c → exit_at m' c ≡ exit_at m c
  exit-same c u =
      let o : Owned m c = owned c u in
      each-count (λ c. exit_at m' c ≡ exit_at m c) (exit_list m o.whose)
      (map_same (exit_at m) (exit_at m') (exit_list m o.whose) (ap (map (exit_at m')) (sym (same-exits w o.whose o.used)) ∙ exits-same w o.whose o.used))
      c o.stands

  -- Its link, and the child's pid.
  pub same-cell_next : (c : ℕ) → 0 < m fields.owner c → m' fields.cell_next c ≡ m fields.cell_next c
  same-cell_next c u =
      let o : Owned m c = owned c u in
      (exit-links w o.whose o.used).member c o.stands

  pub same-exit_pid : (c : ℕ) → 0 < m fields.owner c → m' fields.exit_pid c ≡ m fields.exit_pid c
  unfolding exit_at
  same-exit_pid c u = ap (λ (e : Exit). e.pid) (exit-same c u)

  -- The message: its length, and each byte of it.
  message-same
      : (c : ℕ)
      → 0 < m fields.owner c
      → table (m' fields.message_length c) (λ j. m' fields.message_byte (127 * c + j)) ≡ table (m fields.message_length c) (λ j. m fields.message_byte (127 * c + j))
  unfolding exit_at
  message-same c u = ap (λ (e : Exit). e.message) (exit-same c u)

  pub same_length : (c : ℕ) → 0 < m fields.owner c → m' fields.message_length c ≡ m fields.message_length c
  same_length c u =
      sym (table-length (m' fields.message_length c) (λ (j : ℕ). m' fields.message_byte (127 * c + j)))
      ∙ ap length (message-same c u)
      ∙ table-length (m fields.message_length c) (λ (j : ℕ). m fields.message_byte (127 * c + j))

  -- Byte j of the message of cell c.
  byte-same : (c j : ℕ) → 0 < m fields.owner c → j < m fields.message_length c → m' fields.message_byte (127 * c + j) ≡ m fields.message_byte (127 * c + j)
  byte-same c j u l =
      sym (table-get (m' fields.message_length c) (λ (j : ℕ). m' fields.message_byte (127 * c + j)) j 0 (omega (arith, same_length c u)))
      ∙ ap (λ (xs : List ℕ). get_or xs j 0) (message-same c u)
      ∙ table-get (m fields.message_length c) (λ (j : ℕ). m fields.message_byte (127 * c + j)) j 0 l

  -- Byte i is one of cell i / 127.
  pub same_byte
      : (i : ℕ) → 0 < m fields.owner (i / 127) → i % 127 < m fields.message_length (i / 127) → m' fields.message_byte i ≡ m fields.message_byte i
  same_byte i u l =
      subst (λ (k : ℕ). m' fields.message_byte k ≡ m fields.message_byte k) (div-add-mod i 127) (byte-same (i / 127) (i % 127) u l)
