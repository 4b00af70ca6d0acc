-- The child of the running process: what `fork` asks and ensures.
use Rattle.std.specs.Prelude.{◌≡◌, refl, Bool, true, false, Option, None, Some, List, ℕ, suc, ◌+◌, ◌≤◌, ◌<◌}
use Rattle.std.proofs.Math.Path.{sym}
use Rattle.std.proofs.Common.{ap, ap₂, subst, ◌∙◌, arith, add-one}
use Rattle.std.proofs.Math.Option.{some}
use Rattle.machine.specs.Machine.{Machine, Process, process, pid_of}
use Rattle.machine.specs.Update.{with_process, with_nchild}
use Rattle.machine.specs.Exits.{free_record}
use Rattle.machine.specs.Perform.{made}
use Rattle.memory.specs.Link.{link}
use Rattle.layout.specs.Memory.{Memory}
use Rattle.state.specs.Fields as fields
use Rattle.state.specs.Places.{sizes_in, mem_in}
use Rattle.state.specs.WellFormed.{Used}
use Rattle.state.specs.declared.Sizes.{Sizes}
use Rattle.record.specs.declared.Proc.{Proc}
use Rattle.record.specs.Loads.{LoadAsks, Loaded, name_of}
use Rattle.exact.specs.Bounds.{InBounds}
use Rattle.exact.specs.Parts.{pid_of_lem, used_of}
use Rattle.holds.specs.Holds.{Holds}
use Rattle.holds.specs.Whole.{holds-bounds}
use Rattle.holds.specs.Did.{machine_in}
use Rattle.holds.specs.Use.{same_use}
use Rattle.holds.specs.Touched.{Spares, spares-after, touched-did}
use Rattle.free.specs.Highest.{highest_free, free_record_lem}
use Rattle.records.specs.Own.{LivingAsks, living-low}
use Rattle.records.specs.Names.{IsName, loaded-name}
use Rattle.records.specs.New.{Newcomer, newcomer_same}
use Rattle.records.specs.GoodPids.{newcomer_orphan, newcomer-child}
use Rattle.records.specs.Nchild.{NchildSet}
use Rattle.proc_start.specs.Begin.{BeginAsks, Begun}
use Rattle.outcome.specs.Stepped.{Well}
use Rattle.proc_fork.specs.Runs.{runs-lives}
use Rattle.proc_fork.specs.Children.{children-within}

-- A record with the name of p, the parent v and the link l to it.
pub record ChildOf (p : Proc) (v : ℕ) (l : Option ℕ) (r : Proc) : Type 0 where
  pub parent : r.parent ≡ v
  pub link : r.parent_at ≡ l
  pub text : r.text ≡ p.text

-- Process i runs; there is a free record, and a pid.
pub record ForkAsks (z : Sizes) (s : List ℕ) (i : ℕ) : Type 0 where
  pub well : Well z s
  pub runs : mem_in z s fields.up 0 ≡ suc i
  pub at : ℕ
  pub free : free_record (machine_in z s) ≡ some at
  pub pid : mem_in z s fields.next_pid 0 < 18446744073709551615

-- Its record is p.
pub record AdoptAsks (z : Sizes) (s : List ℕ) (i : ℕ) (p : Proc) : Type 0 where
  pub fork : ForkAsks z s i
  pub loaded : Loaded z s i p

-- One more counts as its child, whose record is q.
pub record Adopted (z : Sizes) (s s' : List ℕ) (i : ℕ) (p q : Proc) : Type 0 where
  pub counted : NchildSet z s s' i (p.nchild + 1)
  pub child : ChildOf p p.pid (Some i) q

-- The machine with a child of process i: dissociated, or counted as one of the living children.
abbrev pub child_made : Bool → ℕ → Machine → Machine
child_made true i m = made (process m i).name 0 m
child_made false i m =
    made (process m i).name (process m i).pid (with_process i (with_nchild (suc (process m i).nchild) (process m i)) m)

pub record Forked (z : Sizes) (s s' : List ℕ) (i : ℕ) (off : Bool) : Type 0 where
  pub holds : Holds z s' 0
  pub machine : machine_in z s' ≡ child_made off i (machine_in z s)
  pub spares : Spares z s s'

module _ {z : Sizes} {s : List ℕ} {i : ℕ} (a : ForkAsks z s i) where
  b : InBounds (sizes_in z) (mem_in z s)
  b = holds-bounds a.well.holds

  pub fork-lives : LivingAsks z s i
  fork-lives = runs-lives a.well.holds a.runs

  used : Used (mem_in z s) i
  used = fork-lives.used

  pub fork-load : LoadAsks z s i
  fork-load = record { index = living-low fork-lives; long = a.well.holds.state.long }

  pub fork-link : i + 1 ≤ 65535
  fork-link = omega (arith, living-low fork-lives, a.well.holds.sizes.processes.1)

  module _ {p : Proc} (l : Loaded z s i p) where
    name-is : p.text ≡ (process (machine_in z s) i).name
    unfolding name_of
    name-is = l.text ∙ sym (ap (λ (q : Process). q.name) (used_of b i used))

    pid-is : p.pid ≡ (process (machine_in z s) i).pid
    pid-is = l.pid ∙ sym (ap (λ (q : Process). q.pid) (used_of b i used))

    nchild-is : p.nchild ≡ (process (machine_in z s) i).nchild
    nchild-is = l.nchild ∙ sym (ap (λ (q : Process). q.nchild) (used_of b i used))

    named : {v : ℕ} {k : Option ℕ} {q : Proc} → ChildOf p v k q → IsName q.text
    named c = subst IsName (sym c.text) (loaded-name (record { sizes = a.well.holds.sizes; state = a.well.holds.state }) l)

    -- A process has no more children than there are records.
    pub fork-room : p.nchild + 1 ≤ 65535
    fork-room =
        omega (
          arith,
          nchild-is,
          a.well.good.nchild i (omega (arith, used, pid_of_lem b i)),
          children-within (machine_in z s) (pid_of (machine_in z s) i),
          a.well.good.in_range.processes,
          a.well.good.in_range.sizes.processes.1,
        )

    module _ {q : Proc} where
      pub off-begin : ChildOf p 0 None q → BeginAsks z s q
      off-begin c =
          record {
            holds = a.well.holds;
            new = newcomer_orphan b a.well.good c.parent (ap link c.link);
            at = a.at;
            free = a.free;
            pid = a.pid;
            link = omega (arith, ap link c.link);
            text = named c;
          }

      pub off-done : {s₁ : List ℕ} → ChildOf p 0 None q → Begun z s s₁ q → Forked z s s₁ i true
      off-done c d =
          record {
            holds = d.holds;
            machine =
                d.machine ∙ ap₂ (λ (x : List ℕ) (y : ℕ). made x y (machine_in z s)) (c.text ∙ name-is) c.parent;
            spares = d.spares;
          }

      module _ {s₁ : List ℕ} (o : Adopted z s s₁ i p q) where
        t : NchildSet z s s₁ i (p.nchild + 1)
        t = o.counted

        c : ChildOf p p.pid (Some i) q
        c = o.child

        newcomer : Newcomer (mem_in z s₁) q (mem_in z s₁ fields.next_pid 0)
        newcomer =
            subst (Newcomer (mem_in z s₁) q) (sym (ap (λ (x : Memory). x fields.next_pid 0) t.did.memory))
            (newcomer_same (ap (λ (x : Memory). x fields.pid) t.did.memory) (ap (λ (x : Memory). x fields.parent) t.did.memory)
            (newcomer-child b a.well.good a.well.holds.keeps.ages used (c.parent ∙ l.pid) (ap link c.link)))

        pub own-begin : BeginAsks z s₁ q
        own-begin =
            record {
              holds = t.did.holds 0 a.well.holds;
              new = newcomer;
              at = a.at;
              free =
                  free_record_lem (sizes_in z) (mem_in z s₁)
                  ∙ ap (λ (x : Memory). highest_free z.processes (x fields.pid)) t.did.memory
                  ∙ sym (free_record_lem (sizes_in z) (mem_in z s))
                  ∙ a.free;
              pid = omega (arith, ap (λ (x : Memory). x fields.next_pid 0) t.did.memory, a.pid);
              link = omega (arith, ap link c.link, living-low fork-lives);
              text = named c;
            }

        pub own-done : {s₂ : List ℕ} → Begun z s₁ s₂ q → Forked z s s₂ i false
        own-done d =
            record {
              holds = d.holds;
              machine =
                  d.machine
                  ∙ ap₂ (λ (x : List ℕ) (y : ℕ). made x y (machine_in z s₁)) (c.text ∙ name-is) (c.parent ∙ pid-is)
                  ∙ ap (made (process (machine_in z s) i).name (process (machine_in z s) i).pid)
                  (t.did.machine
                  ∙ ap (λ (n : ℕ). with_process i (with_nchild n (process (machine_in z s) i)) (machine_in z s))
                  (add-one p.nchild ∙ ap suc nchild-is));
              spares = spares-after (touched-did t.did (same_use refl refl refl refl refl refl refl refl refl)) d.spares d.alive;
            }

-- What the calls of `adopt` ask.
pub adopt-lives : {z : Sizes} {s : List ℕ} {i : ℕ} {p : Proc} → AdoptAsks z s i p → LivingAsks z s i
adopt-lives a = fork-lives a.fork

pub adopt-room : {z : Sizes} {s : List ℕ} {i : ℕ} {p : Proc} → AdoptAsks z s i p → p.nchild + 1 ≤ 65535
adopt-room a = fork-room a.fork a.loaded

-- The two ways.
pub fork_off : {z : Sizes} {s s₁ : List ℕ} {i : ℕ} {off : Bool} → off ≡ true → Forked z s s₁ i true → Forked z s s₁ i off
fork_off {z} {s} {s₁} {i} e f = subst (Forked z s s₁ i) (sym e) f

pub fork_own : {z : Sizes} {s s₁ : List ℕ} {i : ℕ} {off : Bool} → off ≡ false → Forked z s s₁ i false → Forked z s s₁ i off
fork_own {z} {s} {s₁} {i} e f = subst (Forked z s s₁ i) (sym e) f
