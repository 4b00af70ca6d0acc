-- wait: what the code shows at each return.
use Rattle.std.specs.Prelude.{if◌then◌else◌, ◌≡◌, Bool, true, List, [], ◌∷◌, ◌++◌, ℕ, suc, ◌+◌, ◌-◌, ◌*◌, ◌≤◌, ◌<◌, eqb, length, take, drop, Result, Ok, Err}
use Rattle.std.proofs.Math.Path.{refl}
use Rattle.std.proofs.Common.{sym, ap, ap₂, subst, ◌∙◌, arith, lit<}
use Rattle.std.proofs.Math.Bool.{false}
use Rattle.std.proofs.Math.Option.{some}
use Rattle.std.proofs.Math.Seq.{take-length}
use Rattle.std.proofs.lemmas.Bool.{and_left, and_right}
use Rattle.machine.specs.Basics.{is_empty}
use Rattle.machine.specs.Machine as machine
use Rattle.machine.specs.Machine.{Machine, Process, Exit, process}
use Rattle.machine.specs.Step.{wait}
use Rattle.machine.specs.Outcome.{Answer, Outcome, answer, answered, open_outcome}
use Rattle.machine.specs.Update.{with_process}
use Rattle.machine.specs.Places.{sleep_on_waitr}
use Rattle.machine.specs.Perform.{perform, take_exit, newest, open_perform}
use Rattle.machine.specs.StepOf.{left_by}
use Rattle.state.specs.Fields as fields
use Rattle.state.specs.Abs.{exit_at}
use Rattle.state.specs.Places.{mem_in, ReachIn}
use Rattle.state.specs.Tables.{table-length}
use Rattle.layout.specs.Table.{slot}
use Rattle.waitq.specs.Stored.{CellThere}
use Rattle.waitq.specs.PopCode.{PopAsks, pop-some, pop-cell, pop-index}
use Rattle.state.specs.WellFormed.{Used}
use Rattle.state.specs.declared.Sizes.{Sizes}
use Rattle.exact.specs.Bounds.{at_most}
use Rattle.holds.specs.Holds.{Holds}
use Rattle.holds.specs.Whole.{holds-bounds}
use Rattle.holds.specs.Did.{machine_in}
use Rattle.holds.specs.Use.{SameKin}
use Rattle.holds.specs.Touched.{Spares, spares-did}
use Rattle.places.specs.Nowhere.{state-used}
use Rattle.waitq.specs.declared.WaitState.{WaitState}
use Rattle.waitq.specs.declared.WaitState.TheVariants.{InUse, NoChild, Take, Sleep}
use Rattle.waitq.specs.Wait.{wait_state_of, is_waiting}
use Rattle.waitq.specs.Marks.{holds-cells, exits-number}
use Rattle.waitq.specs.WaitCode.{WaitAsks, WaitIs}
use Rattle.waitq.specs.Take.{TakeAsks, TakeDone, take_mem}
use Rattle.outcome.specs.declared.Reply as code
use Rattle.outcome.specs.declared.Reply.TheVariants.{Child, Asleep}
use Rattle.outcome.specs.declared.Refusal.{Refusal}
use Rattle.outcome.specs.declared.Refusal.TheVariants as refused
use Rattle.outcome.specs.Means.{means, told, status_of}
use Rattle.outcome.specs.Stepped.{Well, Stepped, left_bytes}
use Rattle.outcome.specs.Laws.{stepped-done, stepped-refused}
use Rattle.outcome.specs.Refusals.{step}
use Rattle.outcome.specs.RefusalsExit.{is_waiting as call_waits, refused-wait_3, refused-wait_4, refused-wait_14, refused-wait-15, allowed-wait}
use Rattle.outcome.specs.Room.{well-room}
use Rattle.outcome.specs.Running.{IsRunning, NotRunning, somebody-up, current-is, not-running}
use Rattle.proc_wait.specs.declared.Gone.{Gone}
use Rattle.outcome.specs.Length.{length_of}
use Rattle.proc_wait.specs.Copy.{CopyAsks, Copied, message_in}
use Rattle.proc_wait.specs.Sleep.{AloneAsks, WentAsleep}

-- The message buffer then: the message told at its front, and behind it what stood there.
pub record WaitTook (z : Sizes) (s s' : List ℕ) (k : Bool) (b b' : List ℕ) (r : Result code.Reply Refusal) : Type 0 where
  pub message : List ℕ
  pub stepped : Stepped z s s' (step k wait) message r
  pub long : length_of r ≡ length message
  pub buffer : b' ≡ message ++ drop (length message) b

pub record WaitStepAsks (z : Sizes) (s b : List ℕ) : Type 0 where
  pub well : Well z s
  pub room : 127 ≤ length b

-- Somebody runs.
pub record PwaitAsks (z : Sizes) (s : List ℕ) (i : ℕ) (b : List ℕ) : Type 0 where
  pub well : Well z s
  pub room : 127 ≤ length b
  pub runs : mem_in z s fields.up 0 ≡ suc i

pub wait-refused : {z : Sizes} {s b : List ℕ} {k : Bool} {e : Refusal} → WaitStepAsks z s b → NotRunning z s k e → WaitTook z s s k b b (Err e)
wait-refused {z} {s} {b} {k} a n =
    record {
      message = [];
      stepped = not-running a.well.holds (refused-wait_3 (machine_in z s) k) (refused-wait_4 (machine_in z s) k) n;
      long = refl;
      buffer = refl;
    }

pub wait-pwait : {z : Sizes} {s b : List ℕ} {k : Bool} {i : ℕ} → WaitStepAsks z s b → IsRunning z s k i → PwaitAsks z s i b
wait-pwait a u = record { well = a.well; room = a.room; runs = u.runs }

pub wait-rest : {z : Sizes} {s s₁ b b₁ : List ℕ} {k : Bool} {r : Result code.Reply Refusal} → k ≡ false → WaitTook z s s₁ false b b₁ r → WaitTook z s s₁ k b b₁ r
wait-rest {z} {s} {s₁} {b} {b₁} {k} {r} e t = subst (λ (x : Bool). WaitTook z s s₁ x b b₁ r) (sym e) t

-- Who runs.
module _ {z : Sizes} {s : List ℕ} {i : ℕ} {b : List ℕ} (a : PwaitAsks z s i b) where
  runner : (machine_in z s).up ≡ some i
  runner = somebody-up z s a.runs

  used : Used (mem_in z s) i
  used = state-used a.well.holds.keeps.placed i (omega (arith, a.well.holds.keeps.placed.running i a.runs))

  pub pwait-state : WaitAsks z s i
  pwait-state = record { cells = holds-cells a.well.holds; used = used }

  pub pwait-alone : AloneAsks z s i
  pwait-alone = record { holds = a.well.holds; runs = a.runs; room = well-room a.well }

-- What a case says of a wait record's three tests: is a `wait` not returned, is there no exit, is there no child.
abbrev Says : WaitState → Bool → Bool → Bool → Type 0
Says InUse a e n = a ≡ true
Says NoChild a e n = (a ≡ false) × (e ≡ true) × (n ≡ true)
Says Take a e n = (a ≡ false) × (e ≡ false)
Says Sleep a e n = (a ≡ false) × (e ≡ true) × (n ≡ false)

says : (w : WaitState) (a e n : Bool) → w ≡ (if a then InUse else if e then if n then NoChild else Sleep else Take) → Says w a e n
says w true e n q = subst (λ (x : WaitState). Says x true e n) (sym q) refl
says w false true true q = subst (λ (x : WaitState). Says x false true true) (sym q) (refl, refl, refl)
says w false true false q = subst (λ (x : WaitState). Says x false true false) (sym q) (refl, refl, refl)
says w false false n q = subst (λ (x : WaitState). Says x false false n) (sym q) (refl, refl)

tests : (p : Process) (w : WaitState) → w ≡ wait_state_of p → Says w (is_waiting p.resume) (is_empty p.exits) (eqb p.nchild 0)
unfolding wait_state_of
tests p w q = says w (is_waiting p.resume) (is_empty p.exits) (eqb p.nchild 0) q

waiting-is : (c : machine.Resume) → is_waiting c ≡ call_waits c
unfolding is_waiting
waiting-is machine.nothing = refl
waiting-is (machine.in_sleep r c) = refl
waiting-is (machine.in_tsleep r c) = refl
waiting-is (machine.in_qlock q) = refl
waiting-is machine.in_wait = refl

module _ {z : Sizes} {s : List ℕ} {i : ℕ} {b : List ℕ} {w : WaitState} (a : PwaitAsks z s i b) (h : WaitIs z s i w) where
  abbrev here : Process
  here = process (machine_in z s) i

  shown : (v : WaitState) → w ≡ v → Says v (is_waiting here.resume) (is_empty here.exits) (eqb here.nchild 0)
  shown v e = subst (λ (x : WaitState). Says x (is_waiting here.resume) (is_empty here.exits) (eqb here.nchild 0)) e (tests here w h.state)

  pub pwait-in_use : w ≡ InUse → WaitTook z s s false b b (Err refused.InUse)
  unfolding left_by left_bytes
  pwait-in_use e =
      record {
        message = [];
        stepped =
            stepped-refused (refused-wait_14 (machine_in z s) false refl (runner a) (sym (waiting-is here.resume) ∙ shown InUse e)) a.well.holds refl refl;
        long = refl;
        buffer = refl;
      }

  pub pwait-no_child : w ≡ NoChild → WaitTook z s s false b b (Err refused.NoChild)
  unfolding left_by left_bytes
  pwait-no_child e =
      let f : (is_waiting here.resume ≡ false) × (is_empty here.exits ≡ true) × (eqb here.nchild 0 ≡ true) = shown NoChild e in
      record {
        message = [];
        stepped =
            stepped-refused
            (refused-wait-15 (machine_in z s) false refl (runner a) (sym (waiting-is here.resume) ∙ f.0) (rw (f.1, f.2)))
            a.well.holds refl refl;
        long = refl;
        buffer = refl;
      }

-- What the definition does for the process i that runs.
abbrev wait_at : ℕ → Machine → Outcome
wait_at i m =
    if is_empty (process m i).exits
    then answered Answer.asleep (sleep_on_waitr i machine.in_wait m)
    else answered (Answer.child (newest (process m i)).pid (newest (process m i)).message) (with_process i (take_exit (process m i)) m)

wait_at_lem : (m : Machine) (i : ℕ) → m.up ≡ some i → perform wait m ≡ wait_at i m
unfolding open_perform
wait_at_lem m i u = ap (λ (j : ℕ). wait_at j m) (current-is m i u)

wait-sleeps : (m : Machine) (i : ℕ) → m.up ≡ some i → is_empty (process m i).exits ≡ true
    → ((perform wait m).reply ≡ answer Answer.asleep) × ((perform wait m).after ≡ sleep_on_waitr i machine.in_wait m)
unfolding open_outcome
wait-sleeps m i u e = (ap (λ (o : Outcome). o.reply) (wait_at_lem m i u) ∙ rw e, ap (λ (o : Outcome). o.after) (wait_at_lem m i u) ∙ rw e)

wait_takes : (m : Machine) (i : ℕ) → m.up ≡ some i → is_empty (process m i).exits ≡ false
    → ((perform wait m).reply ≡ answer (Answer.child (newest (process m i)).pid (newest (process m i)).message))
    × ((perform wait m).after ≡ with_process i (take_exit (process m i)) m)
unfolding open_outcome
wait_takes m i u e = (ap (λ (o : Outcome). o.reply) (wait_at_lem m i u) ∙ rw e, ap (λ (o : Outcome). o.after) (wait_at_lem m i u) ∙ rw e)

pub pwait-asleep
    : {z : Sizes} {s s₁ : List ℕ} {i : ℕ} {b : List ℕ} {w : WaitState}
    → PwaitAsks z s i b
    → WaitIs z s i w
    → w ≡ Sleep
    → WentAsleep z s s₁ i
    → WaitTook z s s₁ false b b (Ok Asleep)
unfolding means told
pwait-asleep {z} {s} {s₁} {i} {b} {w} a h e d =
    let p : Process = process (machine_in z s) i in
    let f : (is_waiting p.resume ≡ false) × (is_empty p.exits ≡ true) × (eqb p.nchild 0 ≡ false) = shown a h Sleep e in
    let q : ((perform wait (machine_in z s)).reply ≡ answer Answer.asleep) × ((perform wait (machine_in z s)).after ≡ sleep_on_waitr i machine.in_wait (machine_in z s)) =
    wait-sleeps (machine_in z s) i (runner a) f.1
    in
    record {
      message = [];
      stepped =
          stepped-done
          (allowed-wait (machine_in z s) false refl (runner a) (sym (waiting-is p.resume) ∙ f.0) (and_left (eqb p.nchild 0) (is_empty p.exits) f.2))
          d.holds d.touched.spares (sym q.0) (ap told (sym q.0)) (d.machine ∙ sym q.1);
      long = refl;
      buffer = refl;
    }

-- There is an exit to take.
pub record ChildAsks (z : Sizes) (s : List ℕ) (i : ℕ) (b : List ℕ) : Type 0 where
  pub holds : Holds z s 0
  pub used : Used (mem_in z s) i
  pub some : 0 < mem_in z s fields.nexits i
  pub room : 127 ≤ length b

-- The newest exit is taken: the answer names the child, and its message stands at the front of the buffer.
pub record TookChild (z : Sizes) (s s' : List ℕ) (i : ℕ) (b b' : List ℕ) (g : Gone) : Type 0 where
  pub holds : Holds z s' 0
  pub machine : machine_in z s' ≡ with_process i (take_exit (process (machine_in z s) i)) (machine_in z s)
  pub memory : mem_in z s' ≡ take_mem z.cells (mem_in z s) i (mem_in z s fields.exits i - 1)
  pub pid : g.pid ≡ (newest (process (machine_in z s) i)).pid
  pub long : g.length ≡ length (newest (process (machine_in z s) i)).message
  pub buffer : b' ≡ (newest (process (machine_in z s) i)).message ++ drop (length (newest (process (machine_in z s) i)).message) b
  pub spares : Spares z s s'
  pub kin : SameKin (mem_in z s) (mem_in z s')

exits-there : {z : Sizes} {s : List ℕ} {i : ℕ} {b : List ℕ} → PwaitAsks z s i b → is_empty (process (machine_in z s) i).exits ≡ false → 0 < mem_in z s fields.nexits i
exits-there {z} {s} {i} a e = go (process (machine_in z s) i).exits refl
  where
    go : (xs : List Exit) → (process (machine_in z s) i).exits ≡ xs → 0 < mem_in z s fields.nexits i
    go [] q = absurd (let d : true ≡ false = sym (ap (is_empty {A = Exit}) q) ∙ e in let f : ◌≡◌ {A = ℕ} 0 1 = cc in omega arith)
    go (x ∷ xs) q = omega (arith, exits-number a.well.holds i (used a), ap (λ (l : List Exit). length l) q)

pub pwait-child
    : {z : Sizes} {s : List ℕ} {i : ℕ} {b : List ℕ} {w : WaitState} → PwaitAsks z s i b → WaitIs z s i w → w ≡ Take → ChildAsks z s i b
pwait-child {z} {s} {i} {b} {w} a h e =
    record {
      holds = a.well.holds;
      used = used a;
      some = exits-there a (shown a h Take e).1;
      room = a.room;
    }

pub pwait-took
    : {z : Sizes} {s s₁ : List ℕ} {i : ℕ} {b b₁ : List ℕ} {w : WaitState} {g : Gone}
    → PwaitAsks z s i b
    → WaitIs z s i w
    → w ≡ Take
    → TookChild z s s₁ i b b₁ g
    → WaitTook z s s₁ false b b₁ (Ok (Child g.pid g.length))
unfolding means told status_of
pwait-took {z} {s} {s₁} {i} {b} {b₁} {w} {g} a h e d =
    let p : Process = process (machine_in z s) i in
    let f : (is_waiting p.resume ≡ false) × (is_empty p.exits ≡ false) = shown a h Take e in
    let q : ((perform wait (machine_in z s)).reply ≡ answer (Answer.child (newest p).pid (newest p).message)) × ((perform wait (machine_in z s)).after ≡ with_process i (take_exit p) (machine_in z s)) =
    wait_takes (machine_in z s) i (runner a) f.1
    in
    let m : means (Ok (Child g.pid g.length)) (newest p).message [] ≡ answer (Answer.child (newest p).pid (newest p).message) =
    ap₂ (λ (x y : ℕ). answer (Answer.child x (take y (newest p).message))) d.pid d.long
    ∙ ap (λ (x : List ℕ). answer (Answer.child (newest p).pid x)) (take-length (newest p).message)
    in
    record {
      message = (newest p).message;
      stepped =
          stepped-done {m = (newest p).message}
          (allowed-wait (machine_in z s) false refl (runner a) (sym (waiting-is p.resume) ∙ f.0) (and_right (eqb p.nchild 0) (is_empty p.exits) f.1))
          d.holds d.spares (m ∙ sym q.0) (ap told (sym q.0)) (d.machine ∙ sym q.1);
      long = d.long;
      buffer = d.buffer;
    }

-- What the calls of `take_child` ask.
module _ {z : Sizes} {s : List ℕ} {i : ℕ} {b : List ℕ} (a : ChildAsks z s i b) where
  child-pop : PopAsks z s i
  child-pop = record { cells = holds-cells a.holds; used = a.used; some = a.some }

  pub child-reach : ReachIn z s (slot 1 34 2) i
  child-reach = record { inside = record { region = lit< tt; end = lit< tt }; index = pop-index child-pop; long = a.holds.state.long }

  pub child-some : 1 ≤ mem_in z s fields.exits i
  child-some = pop-some child-pop

  -- the cell of the newest exit
  pub child-is : {c : ℕ} → suc c ≡ mem_in z s fields.exits i → c ≡ mem_in z s fields.exits i - 1
  child-is e = omega (arith, e)

  pub child-cell : {c : ℕ} → c ≡ mem_in z s fields.exits i - 1 → ReachIn z s (slot 6 0 8) c
  child-cell e =
      let k : CellThere z s (mem_in z s fields.exits i - 1) = pop-cell child-pop refl in
      record { inside = record { region = lit< tt; end = lit< tt }; index = subst (λ (n : ℕ). n < z.cells) (sym e) k.index; long = k.long }

  pub child-copy : {c : ℕ} → c ≡ mem_in z s fields.exits i - 1 → CopyAsks z s c b
  child-copy {c} e =
      let k : CellThere z s (mem_in z s fields.exits i - 1) = pop-cell child-pop refl in
      record {
        index = subst (λ (n : ℕ). n < z.cells) (sym e) k.index;
        long = k.long;
        short = at_most (holds-bounds a.holds) fields.message_length c;
        room = a.room;
      }

  pub child-take : TakeAsks z s i
  child-take = record { owed = 0; holds = a.holds; used = a.used; some = a.some }

pub took-child
    : {z : Sizes} {s s₁ : List ℕ} {i c p n r : ℕ} {b b₁ : List ℕ}
    → ChildAsks z s i b
    → c ≡ mem_in z s fields.exits i - 1
    → p ≡ mem_in z s fields.exit_pid c
    → Copied z s c b b₁ n
    → TakeDone z s s₁ i r
    → TookChild z s s₁ i b b₁ (record { pid = p; length = n })
unfolding exit_at
took-child {z} {s} {s₁} {i} {c} {p} {n} {r} {b} {b₁} a e d w t =
    let q : r - 1 ≡ c = ap (λ (k : ℕ). k - 1) t.link ∙ sym e in
    let x : newest (process (machine_in z s) i) ≡ exit_at (mem_in z s) c = t.newest ∙ ap (λ (k : ℕ). exit_at (mem_in z s) k) q in
    let len : length (message_in z s c) ≡ mem_in z s fields.message_length c =
    table-length (mem_in z s fields.message_length c) (λ j. mem_in z s fields.message_byte (127 * c + j))
    in
    record {
      holds = t.did.holds 0 a.holds;
      machine = t.did.machine;
      memory = t.did.memory ∙ ap (λ (k : ℕ). take_mem z.cells (mem_in z s) i (k - 1)) t.link;
      pid = d ∙ ap (λ (o : Exit). o.pid) (sym x);
      long = w.answer ∙ sym len ∙ ap (λ (o : Exit). length o.message) (sym x);
      buffer =
          w.bytes
          ∙ ap (λ (k : ℕ). message_in z s c ++ drop k b) (sym len)
          ∙ ap (λ (o : Exit). o.message ++ drop (length o.message) b) (sym x);
      spares = spares-did t.did t.ceased;
      kin = t.fewer.kin;
    }
