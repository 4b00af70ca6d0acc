-- The timer of a `tsleep` wakes whoever is on the Rendez that the call names.
use Rattle.std.specs.Prelude.{if◌then◌else◌, ◌≡◌, refl, Bool, true, false, List, ℕ, ◌<◌, eqb}
use Rattle.std.proofs.Common.{sym, ap, subst, ◌∙◌, arith}
use Rattle.lists.specs.Lists.{each-get}
use Rattle.machine.specs.Machine.{Machine, Resume, nothing, in_sleep, in_tsleep, in_qlock, in_wait, process, free}
use Rattle.machine.specs.Places.{wake}
use Rattle.machine.specs.Timers.{twakeup}
use Rattle.machine.specs.Good.{Good, ProcessInRange, ResumeInRange}
use Rattle.layout.specs.Memory.{Memory}
use Rattle.state.specs.Fields as fields
use Rattle.state.specs.Abs.{resume_of, machine_of}
use Rattle.state.specs.Places.{sizes_in, mem_in}
use Rattle.state.specs.WellFormed.{Used}
use Rattle.state.specs.declared.Sizes.{Sizes}
use Rattle.record.specs.declared.Resume as code
use Rattle.record.specs.declared.Resume.TheVariants.{Nothing, Sleep, Tsleep, Qlock, Wait}
use Rattle.record.specs.Resumes.{meaning}
use Rattle.record.specs.Loads.{ResumeLoaded}
use Rattle.exact.specs.Parts.{resume_of_lem}
use Rattle.holds.specs.Whole.{holds-bounds}
use Rattle.holds.specs.Did.{machine_in}
use Rattle.dat.specs.Rendez.{WakeAsks, Woke}
use Rattle.outcome.specs.Stepped.{Well}
use Rattle.proc_intr.specs.Readies.{link_stores, Readies, idle, readies-none, readies_woke, readies_as}

-- `twakeup` of a living process.
pub record TwakeupAsks (z : Sizes) (s : List ℕ) (i : ℕ) : Type 0 where
  pub well : Well z s
  pub index : i < z.processes
  pub lives : Used (mem_in z s) i

-- It wakes on the Rendez of the call, or nobody: l is the link to whom.
pub record Twoken (z : Sizes) (s s' : List ℕ) (i l : ℕ) : Type 0 where
  pub did : Readies z s s' (link_stores (mem_in z s) (mem_in z s fields.resume_object i) l) (twakeup (process (machine_in z s) i).resume (machine_in z s)) l

-- It does so, whoever it wakes.
pub record DidTwakeup (z : Sizes) (s s' : List ℕ) (i : ℕ) : Type 0 where
  pub woke : ℕ
  pub took : Twoken z s s' i woke

-- What the record's call is to the machine.
call-of
    : {z : Sizes} {s : List ℕ} {i : ℕ} {c : code.Resume} → TwakeupAsks z s i → ResumeLoaded z s i c → (process (machine_in z s) i).resume ≡ meaning c
call-of {i = i} a h = resume_of_lem (holds-bounds a.well.holds) i a.lives ∙ sym h.resume.means

-- Other calls name no Rendez to it.
other-call : (c : code.Resume) → ((r k : ℕ) → c ≡ Tsleep r k → ⊥) → (M : Machine) → twakeup (meaning c) M ≡ idle M
unfolding twakeup
other-call Nothing ne M = refl
other-call (Sleep r k) ne M = refl
other-call (Tsleep r k) ne M = absurd (ne r k refl)
other-call (Qlock q) ne M = refl
other-call Wait ne M = refl

-- The Rendez that a `tsleep` names, and x for other calls.
abbrev rendez_or : ℕ → Resume → ℕ
rendez_or x nothing = x
rendez_or x (in_sleep r c) = x
rendez_or x (in_tsleep r c) = r
rendez_or x (in_qlock q) = x
rendez_or x in_wait = x

-- It is the object in the record.
object-is : (kind object condition : ℕ) {r c : ℕ} → in_tsleep r c ≡ resume_of kind object condition → r ≡ object
unfolding resume_of
object-is kind o d e = ap (rendez_or o) e ∙ go (eqb kind 1) (eqb kind 2) (eqb kind 3) (eqb kind 4)
  where
    go
        : (a b f g : Bool)
        → rendez_or o (if a then in_sleep o d else if b then in_tsleep o d else if f then in_qlock o else if g then in_wait else nothing) ≡ o
    go true b f g = refl
    go false true f g = refl
    go false false true g = refl
    go false false false true = refl
    go false false false false = refl

-- What the code of `twakeup` shows: another call, and a `tsleep`.
pub twoken-other
    : {z : Sizes} {s : List ℕ} {i : ℕ} {c : code.Resume}
    → TwakeupAsks z s i
    → ResumeLoaded z s i c
    → ((r k : ℕ) → c ≡ Tsleep r k → ⊥)
    → Twoken z s s i 0
twoken-other {z} {s} {i} {c} a h ne =
    let M : Machine = machine_in z s in
    record {
      did = readies-none (twakeup (process M i).resume M) (ap (λ (x : Resume). twakeup x M) (call-of a h) ∙ other-call c ne M);
    }

-- A `tsleep` names a Rendez in range.
call-range : {z : Sizes} {s : List ℕ} {i : ℕ} → TwakeupAsks z s i → ResumeInRange (sizes_in z) (process (machine_in z s) i).resume
unfolding process machine_of
call-range {z} {s} {i} a =
    let g : Good (machine_in z s) = a.well.good in
    (each-get (ProcessInRange (sizes_in z)) (machine_in z s).processes i free g.in_range.each
    (omega (arith, g.in_range.processes, a.index))).resume

pub twakeup-wakes : {z : Sizes} {s : List ℕ} {i r k : ℕ} → TwakeupAsks z s i → ResumeLoaded z s i (Tsleep r k) → WakeAsks z s r
twakeup-wakes {z} a h =
    record { owed = 0; holds = a.well.holds; index = (subst (ResumeInRange (sizes_in z)) (call-of a h) (call-range a)).0 }

pub twoken
    : {z : Sizes} {s s' : List ℕ} {i r k l : ℕ}
    → TwakeupAsks z s i
    → ResumeLoaded z s i (Tsleep r k)
    → Woke z s s' r l
    → Twoken z s s' i l
unfolding twakeup
twoken {z} {s} {s'} {i} {r} {k} {l} a h w =
    let m : Memory = mem_in z s in
    let M : Machine = machine_in z s in
    record {
      did =
          readies_as (readies_woke (wake r M) w refl)
          (ap (λ (x : ℕ). link_stores m x l) (object-is (m fields.resume_kind i) (m fields.resume_object i) (m fields.resume_condition i) h.resume.means))
          (ap (λ (x : Resume). twakeup x M) (call-of a h));
    }
