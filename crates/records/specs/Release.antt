-- The record of a process that goes is freed: what that makes of the memory, of the machine and of what is kept.
use Rattle.std.specs.Prelude.{◌≡◌, List, [], ◌∷◌, ◌++◌, ℕ}
use Rattle.std.proofs.Math.Path.{refl, sym}
use Rattle.std.proofs.Common.{ap, ◌∙◌, arith}
use Rattle.machine.specs.Basics.{elem}
use Rattle.machine.specs.Machine as machine
use Rattle.machine.specs.Machine.{Process, free}
use Rattle.machine.specs.Update.{with_process}
use Rattle.machine.specs.Exits.{found}
use Rattle.layout.specs.Memory.{Memory, upd}
use Rattle.layout.specs.Writes.{Write, to}
use Rattle.chain.specs.Links.{alter-same}
use Rattle.state.specs.Fields as fields
use Rattle.state.specs.Abs.{machine_of}
use Rattle.state.specs.WellFormed.{Ages, Index}
use Rattle.exact.specs.Bounds.{InBounds, inside}
use Rattle.exact.specs.Parts.{free-at, used_of}
use Rattle.holds.specs.Holds.{Placed, Keeps}
use Rattle.places.specs.Nowhere.{Nowhere}
use Rattle.free.specs.UseRecord.{drop_record_writes, drop_record_mem}
use Rattle.ages.specs.Kept.{Later}
use Rattle.ages.specs.Out.{age_out_stores, age_out_mem}
use Rattle.ages.specs.Found.{found-gone}
use Rattle.ages.specs.Gone.{ages_out}
use Rattle.records.specs.Else.{part_of, Else, else_none, else_mark, else_put}
use Rattle.records.specs.Parts.{else_machine, else-asleep, else_header, else_timed}
use Rattle.records.specs.Off.{nowhere-off, else-placed}
use Rattle.records.specs.Exits.{empty_owns, else_cells}

-- The stores: record i of n goes from between its neighbours, from the words of those in use, and loses its pid and its state.
abbrev pub gone_stores : ℕ → List Write
gone_stores i = to fields.pid i 0 ∷ to fields.state_of i 0 ∷ []

abbrev pub release_stores : ℕ → Memory → ℕ → List Write
release_stores n m i = age_out_stores m i ++ drop_record_writes n m i ++ gone_stores i

-- The memory then.
abbrev pub gone_mem : Memory → ℕ → Memory
gone_mem m i = upd (upd m fields.pid i 0) fields.state_of i 0

abbrev pub release_mem : ℕ → Memory → ℕ → Memory
release_mem n m i = gone_mem (drop_record_mem n (age_out_mem m i) i) i

pub release_else : (n : ℕ) (m : Memory) (i : ℕ) → Else m (release_mem n m i) i
unfolding part_of elem
release_else n m i =
    let a : Else m (age_out_mem m i) i =
    else_mark (else_mark (else_mark (else_mark (else_none m i) fields.younger _ refl) fields.oldest _ refl) fields.older _ refl) fields.youngest _ refl
    in
    let b : Else m (drop_record_mem n (age_out_mem m i) i) i = else_mark (else_mark a fields.used_records _ refl) fields.full_records _ refl in
    else_put (else_put b fields.pid 0 refl) fields.state_of 0 refl

module _ {z : machine.Sizes} {m : Memory} {i : ℕ} (b : InBounds z m) (w : Nowhere z m i) where
  abbrev k : Memory
  k = release_mem z.processes m i

  e : Else m k i
  e = release_else z.processes m i

  gone : k fields.pid i ≡ 0
  gone = alter-same (m fields.pid) i 0

  pub release-machine : machine_of z k ≡ with_process i free (machine_of z m)
  release-machine = else_machine z e ∙ ap (λ (x : Process). with_process i x (machine_of z m)) (free-at k i gone)

  release-placed : {n : ℕ} → Placed z m n → Placed z k n
  unfolding free
  release-placed q =
      else-placed e (nowhere-off w) q (λ d. alter-same (m fields.state_of) i 0) (λ u. absurd (omega (arith, gone, u)))
      (λ u. absurd (omega (arith, gone, u)))
      (else-asleep z e (inside b fields.pid i w.used)
      (ap (λ (x : Process). x.on_waitr) (free-at k i gone) ∙ sym (ap (λ (x : Process). x.on_waitr) (used_of b i w.used) ∙ w.waitr)))

  later : Later m (age_out_mem m i) k i
  unfolding part_of elem
  later =
      record {
        younger = refl;
        older = refl;
        oldest = refl;
        youngest = refl;
        pid = λ j ne. e.other fields.pid j refl ne;
        parent = λ j ne. e.other fields.parent j refl ne;
        parent_at = λ j ne. e.other fields.parent_at j refl ne;
      }

  release-ages : Ages z m → Ages z k
  release-ages a = (ages_out a w.used later gone).ages

  pub release-found : Ages z m → (q : ℕ) → (m fields.pid i ≡ q → ⊥) → found q (machine_of z k) ≡ found q (machine_of z m)
  release-found a = found-gone (release-ages a) later gone

  pub release-keeps : {n : ℕ} → m fields.nexits i ≡ 0 → Keeps z m n → Index z k → Keeps z k n
  release-keeps d q x =
      record {
        header = else_header z e q.header;
        placed = release-placed q.placed;
        timed = else_timed z e q.timed;
        cells = else_cells e (empty_owns q.cells w.used d) (λ u. absurd (omega (arith, gone, u))) q.cells;
        ages = release-ages q.ages;
        index = x;
      }
