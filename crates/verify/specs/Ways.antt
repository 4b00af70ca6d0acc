-- What the parts of the check ensure, and each way out.
use Rattle.std.specs.Prelude.{◌≡◌, refl, Bool, true, false, IsTrue, ◌↔◌, List, [], ◌∷◌, ℕ, ◌≤◌, ◌<◌, length}
use Rattle.std.proofs.Common.{sym, ap, subst, arith}
use Rattle.std.proofs.lemmas.Bool.{false≢true}
use Rattle.machine.specs.Basics.{count}
use Rattle.machine.specs.Machine as machine
use Rattle.machine.specs.Good.{SizesInRange, Each}
use Rattle.layout.specs.Table.{start, total}
use Rattle.layout.specs.Memory.{Memory}
use Rattle.state.specs.Fields as fields
use Rattle.state.specs.Abs.{sizes_of, is_set}
use Rattle.state.specs.Places.{sizes_in, total_in}
use Rattle.state.specs.WellFormed.{WellFormed, Used, Index, mark_value, age_list}
use Rattle.state.specs.declared.Sizes.{Sizes}
use Rattle.rules.specs.Facts.{Facts, IdleOk}
use Rattle.rules.specs.Tests.{set_test}
use Rattle.rules.specs.Code.{mem_in, Decides}
use Rattle.exact.specs.Exact.{Checked}
use Rattle.scan.specs.All.{ProcessesOk}
use Rattle.walks.specs.Queues.{QueueFacts}
use Rattle.kin.specs.Kin.{KinFacts}
use Rattle.kin.specs.Age.{Aged}
use Rattle.exact.specs.Sums.{all_met}
use Rattle.lists.specs.Lists.{bit}

-- The header was read.
pub record SizesRead (s : List ℕ) (z : Sizes) : Type 0 where
  pub same : sizes_in z ≡ sizes_of s

-- The mark and the layout's number are right.
pub record Marks (z : Sizes) (s : List ℕ) : Type 0 where
  pub mark : mem_in z s fields.mark 0 ≡ mark_value
  pub layout : mem_in z s fields.layout_number 0 ≡ 1

abbrev pub FactsIn : Sizes → List ℕ → Type 0
FactsIn z s = Facts (sizes_in z) (mem_in z s)

abbrev pub CheckedIn : Sizes → List ℕ → Type 0
CheckedIn z s = Checked (sizes_in z) s

-- The facts, in the parts that are tested one after another.
pub facts-processes : {z : machine.Sizes} {m : Memory} → Facts z m → ProcessesOk z m
facts-processes f =
    record {
      header = f.header;
      records = f.records;
      rendez = f.rendez;
      up = f.up;
      run = f.run;
      all_ready = f.all_ready;
      locks = f.locks;
      all_queueing = f.all_queueing;
      asleep = f.asleep;
    }

pub facts-kin : {z : machine.Sizes} {m : Memory} → Facts z m → KinFacts z m
facts-kin f = record { kin = f.kin; nchild = f.nchild }

pub facts-all : {z : machine.Sizes} {m : Memory} → ProcessesOk z m → QueueFacts z m → KinFacts z m → IdleOk z m → Index z m → Facts z m
facts-all p q k i x =
    record {
      header = p.header;
      records = p.records;
      rendez = p.rendez;
      up = p.up;
      run = p.run;
      all_ready = p.all_ready;
      locks = p.locks;
      all_queueing = p.all_queueing;
      asleep = p.asleep;
      timers = q.timers;
      timer_queue = q.timer_queue;
      all_queued = q.all_queued;
      exits = q.exits;
      all_owned = q.all_owned;
      ages = q.ages;
      all_living = q.all_living;
      kin = k.kin;
      nchild = k.nchild;
      index = x;
      idle = i;
    }

-- Everyone who lives is met by age.
each_set : (m : Memory) (xs : List ℕ) → Each (Used m) xs → Each (λ i. is_set (m fields.pid i) ≡ true) xs
each_set m [] a = tt
each_set m (x ∷ xs) a = (set_test (m fields.pid x) a.0, each_set m xs a.1)

pub aged : {z : machine.Sizes} {m : Memory} → QueueFacts z m → Aged z m
aged {z} {m} q =
    record {
      ages = q.ages;
      living = λ i l u.
          let c = q.ages.younger.chain in
          let e : count i (age_list z m) ≡ bit (is_set (m fields.pid i)) =
          all_met z.processes (age_list z m) (λ j. is_set (m fields.pid j)) c.distinct c.below (each_set m (age_list z m) q.ages.used) q.all_living i l
          in
          rw (e, set_test (m fields.pid i) u) (omega arith);
    }

-- A state is at least as long as its header, and as the sizes that it names.
pub well-long : {s : List ℕ} → WellFormed s → 80 ≤ length s
unfolding start
well-long w = omega (arith, w.rep.state.long)

pub sizes_wrong : {s : List ℕ} {z : Sizes} → SizesRead s z → WellFormed s → SizesInRange (sizes_in z)
sizes_wrong r w = subst (λ (y : machine.Sizes). SizesInRange y) (sym r.same) w.rep.sizes

pub too_short : {s : List ℕ} {z : Sizes} → SizesRead s z → length s < total_in z → WellFormed s → ⊥
too_short {s} {z} r l w =
    omega (arith, w.rep.state.long, ap (λ (y : machine.Sizes). total fields.layout1 (fields.counts y)) r.same)

-- A test that is true exactly where a statement holds decides it.
pub decided : {P : Type 0} (b : Bool) → IsTrue b ↔ P → Decides b P
decided true e = e.0 refl
decided false e = λ p. absurd (false≢true (e.1 p))
