-- Stores to fields that no group of what a state keeps reads.
use Rattle.std.specs.Prelude.{◌≡◌, refl, Bool, true, List, [], ◌∷◌, ℕ}
use Rattle.std.proofs.Common.{sym, ap, subst, ◌∙◌}
use Rattle.machine.specs.Machine.{Machine}
use Rattle.machine.specs.Good.{Each}
use Rattle.layout.specs.Memory.{Memory, alter, set_field}
use Rattle.layout.specs.Writes.{State, Write, updates, Writable, written, state-writes}
use Rattle.state.specs.Fields as fields
use Rattle.state.proofs.Ranges.{ranges}
use Rattle.state.specs.Abs.{machine_of}
use Rattle.state.specs.Places.{sizes_in, mem_in, Wrote}
use Rattle.state.specs.declared.Sizes.{Sizes}
use Rattle.holds.specs.Holds.{Holds}
use Rattle.holds.specs.Use.{EachInUse, SameUse, same_use}
use Rattle.holds.specs.Leftover.{ceased-lasts, lasts-same}
use Rattle.holds.specs.Touched.{Touched, spares-stores}
use Rattle.timer.specs.Only.{Owing, owing-after, Only, plain, only_none, only_set}
use Rattle.timer.specs.Aside.{holds-plain}
use Rattle.timer.specs.Del.{machine_in}

-- The stores ws were made, and the machine is then M.
pub record Became (z : Sizes) (s s' : List ℕ) (ws : List Write) (M : Machine) : Type 0 where
  pub holds : (n : ℕ) → Holds z s n → Holds z s' n
  pub owing : Owing z s'
  pub wrote : Wrote z s s' ws
  pub memory : mem_in z s' ≡ updates (mem_in z s) ws
  pub machine : machine_in z s' ≡ M
  pub touched : Touched z s s'

only-updates
    : {test : ℕ → Bool} {m m' : Memory} (ws : List Write)
    → Each (λ (w : Write). test w.field ≡ true) ws
    → Only test m m'
    → Only test m (updates m' ws)
only-updates {m' = m'} [] e o = o
only-updates {test} {m} {m' = m'} (w ∷ ws) e o =
    only-updates {m' = set_field m' w.field (alter (m' w.field) w.index w.value)} ws e.1 (only_set w.field (alter (m' w.field) w.index w.value) e.0 o)

-- Stores in range to such fields and to what is used, and what they make of the machine.
pub became
    : {z : Sizes} {s s' : List ℕ} {ws : List Write} {M : Machine}
    → Owing z s
    → Wrote z s s' ws
    → Writable fields.layout1 (fields.most_of (sizes_in z)) (fields.counts (sizes_in z)) ws
    → Each (λ (w : Write). plain w.field ≡ true) ws
    → EachInUse z (mem_in z s) (mem_in z s') ws
    → machine_of (sizes_in z) (updates (mem_in z s) ws) ≡ M
    → Became z s s' ws M
became {z} {s} {s'} {ws} {M} o w ok e u q =
    let d : mem_in z s' ≡ updates (mem_in z s) ws =
    ap (λ (x : List ℕ). mem_in z x) w.bytes ∙ written (ranges (sizes_in z) o.holds.sizes) o.holds.state ws ok
    in
    let b : Only plain (mem_in z s) (mem_in z s') =
    subst (Only plain (mem_in z s)) (sym d) (only-updates ws e (only_none plain (mem_in z s)))
    in
    let k : (n : ℕ) → Holds z s n → Holds z s' n =
    holds-plain
    (subst (λ (x : List ℕ). State fields.layout1 (fields.most_of (sizes_in z)) (fields.counts (sizes_in z)) x) (sym w.bytes)
    (state-writes (ranges (sizes_in z) o.holds.sizes) o.holds.state ws ok))
    b
    in
    let same : SameUse z (mem_in z s) (mem_in z s') =
    same_use (b.same fields.pid refl) (b.same fields.parent refl) (b.same fields.parent_at refl) (b.same fields.is_queued refl) (b.same fields.owner refl)
    (b.same fields.message_length refl) (b.same fields.deadline refl) (b.same fields.exit_pid refl) (b.same fields.message_byte refl)
    in
    record {
      holds = k;
      owing = owing-after o k;
      wrote = w;
      memory = d;
      machine = ap (λ (k : Memory). machine_of (sizes_in z) k) d ∙ q;
      touched = record { spares = spares-stores o.holds w.bytes ok refl u (ceased-lasts (lasts-same same)); same = same };
    }
