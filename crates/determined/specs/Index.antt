-- The words of what is in use, in two memories of one machine.
use Rattle.std.specs.Prelude.{◌≡◌, ℕ, ◌+◌, ◌*◌}
use Rattle.std.proofs.Common.{sym, ap, ◌∙◌}
use Rattle.std.proofs.Math.Path.{fun_ext}
use Rattle.machine.specs.Machine.{Sizes}
use Rattle.layout.specs.Memory.{Memory}
use Rattle.state.specs.Fields as fields
use Rattle.state.specs.WellFormed.{bits, in_use, is_full, Index}
use Rattle.determined.specs.Twins.{Twins, Same, within}
use Rattle.determined.specs.Plain.{same-pid}
use Rattle.determined.specs.Cells.{same-owner}

module _ {z : Sizes} {m m' : Memory} (w : Twins z m m') where
  -- What each says of its words.
  index-one : Index z m
  index-one = w.one.keeps.index

  index-two : Index z m'
  index-two = w.two.keeps.index

  -- Which records are in use goes by the pids, and which cells by the owners.
  pub same-used_records : Same m m' fields.used_records
  same-used_records =
      within w fields.used_records
      (λ v l. index-two.records v l ∙ ap (λ (g : ℕ → ℕ). in_use z.processes g v 64) (fun_ext (same-pid w)) ∙ sym (index-one.records v l))

  pub same-used_cells : Same m m' fields.used_cells
  same-used_cells =
      within w fields.used_cells
      (λ v l. index-two.cells v l ∙ ap (λ (g : ℕ → ℕ). in_use z.cells g v 64) (fun_ext (same-owner w)) ∙ sym (index-one.cells v l))

  -- Which words are full goes by the words.
  pub same-full_records : m' fields.full_records 0 ≡ m fields.full_records 0
  same-full_records =
      index-two.full_records ∙ ap (λ (g : ℕ → ℕ). bits (λ v. is_full (g v)) 64) (fun_ext same-used_records) ∙ sym index-one.full_records

  pub same-full_cell_words : Same m m' fields.full_cell_words
  same-full_cell_words =
      within w fields.full_cell_words
      (λ v l. index-two.full_cell_words v l ∙ ap (λ (g : ℕ → ℕ). bits (λ b. is_full (g (64 * v + b))) 64) (fun_ext same-used_cells) ∙ sym (index-one.full_cell_words v l))

  pub same-full_cells : m' fields.full_cells 0 ≡ m fields.full_cells 0
  same-full_cells =
      index-two.full_cells ∙ ap (λ (g : ℕ → ℕ). bits (λ v. is_full (g v)) 16) (fun_ext same-full_cell_words) ∙ sym index-one.full_cells
