-- In a state that is well formed the next pid is a newcomer's: with no parent, or as the child of a living process.
use Rattle.std.specs.Prelude.{◌≡◌, ℕ, suc, ◌<◌}
use Rattle.std.proofs.Common.{sym, ap, ◌∙◌, arith}
use Rattle.machine.specs.Machine.{Sizes, Process}
use Rattle.machine.specs.Good.{Good}
use Rattle.memory.specs.Link.{link}
use Rattle.layout.specs.Memory.{Memory}
use Rattle.state.specs.Fields as fields
use Rattle.state.specs.Abs.{machine_of}
use Rattle.state.specs.WellFormed.{Used, Ages}
use Rattle.record.specs.declared.Proc.{Proc}
use Rattle.exact.specs.Bounds.{InBounds}
use Rattle.exact.specs.Parts.{pid_of_lem, used_of}
use Rattle.ages.specs.Kept.{pids-apart}
use Rattle.records.specs.New.{orphan, child, Newcomer}

module _ {z : Sizes} {m : Memory} (b : InBounds z m) (g : Good (machine_of z m)) where
  -- All pids are below the next one, and so are those of all parents.
  pub pids-below : (j : ℕ) → m fields.pid j < m fields.next_pid 0
  unfolding machine_of
  pids-below j = omega (arith, g.below j, pid_of_lem b j)

  pub parents-below : (j : ℕ) → Used m j → m fields.parent j < m fields.next_pid 0
  parents-below j u =
      omega (
        arith,
        g.parent j (omega (arith, u, pid_of_lem b j)),
        ap (λ (p : Process). p.parent) (used_of b j u),
        pid_of_lem b j,
        pids-below j,
      )

  -- A process without a parent.
  pub newcomer_orphan : {p : Proc} → p.parent ≡ 0 → link p.parent_at ≡ 0 → Newcomer m p (m fields.next_pid 0)
  newcomer_orphan e n =
      record {
        above = pids-below;
        parents = parents-below;
        parent = omega (arith, e, pids-below 0);
        link = λ j u d. absurd (omega (arith, u, d, e));
        kin = orphan e n;
      }

  -- The child of the process of record i.
  pub newcomer-child
      : {p : Proc} {i : ℕ}
      → Ages z m
      → Used m i
      → p.parent ≡ m fields.pid i
      → link p.parent_at ≡ suc i
      → Newcomer m p (m fields.next_pid 0)
  newcomer-child {i = i} a u e l =
      record {
        above = pids-below;
        parents = parents-below;
        parent = omega (arith, e, pids-below i);
        link = λ j v d. l ∙ ap suc (pids-apart a i j u (sym e ∙ d));
        kin = child (omega (arith, u, e)) (ap (m fields.pid) (omega (arith, l)) ∙ sym e);
      }
