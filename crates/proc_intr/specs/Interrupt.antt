-- The loop: the head fires until nothing is due.
use Rattle.std.specs.Prelude.{◌≡◌, refl, Bool, true, false, List, [], ◌∷◌, ℕ, zero, suc, ◌+◌, ◌-◌, ◌^◌, ◌≤◌, ◌<◌}
use Rattle.std.proofs.Common.{sym, ap, ◌∙◌, arith, add-one, le-leb}
use Rattle.std.proofs.lemmas.Bool.{lt-leb}
use Rattle.machine.specs.Machine.{Machine, Queued}
use Rattle.machine.specs.Timers.{Firing, fire, fire_due, interrupt}
use Rattle.machine.specs.NoneDue.{NoneDue}
use Rattle.state.specs.Places.{mem_in}
use Rattle.state.specs.declared.Sizes.{Sizes}
use Rattle.holds.specs.Did.{machine_in}
use Rattle.holds.specs.Use.{used, SameKin}
use Rattle.holds.specs.Touched.{Spares, spares-none, spares_join}
use Rattle.timer.specs.Rounds.{Rounds, rounds_join, rounds-same, rounds-quiet}
use Rattle.outcome.specs.Stepped.{Well}
use Rattle.proc_intr.specs.OneFired.{OneFired, one_less}
use Rattle.proc_intr.specs.Due.{DueAsks, FiredDue}
use Rattle.proc_intr.specs.Owed.{owed_in, owed-room}

-- n firings took the machine to where the definition's `interrupt` takes it, and it counts as many.
pub record Interrupted (z : Sizes) (s s' : List ℕ) (reading n : ℕ) : Type 0 where
  pub well : Well z s'
  pub machine : machine_in z s' ≡ (interrupt reading (machine_in z s)).machine
  pub count : n ≡ (interrupt reading (machine_in z s)).count
  pub spares : Spares z s s'
  pub kin : SameKin (mem_in z s) (mem_in z s')

-- What firing has done so far, at machine M with n fired.
abbrev so_far : Machine → ℕ → ℕ → List ℕ → Firing
so_far M n ticks readied = record { machine = M; count = n; ticks = ticks; readied = readied }

-- After n firings the bytes s₀ are s: from here the definition goes on to where it takes s₀, with a bound on the firings that covers what
-- is owed. What it says of ticks and of whom it readied, the loop does not count.
pub record Interrupting (z : Sizes) (s₀ s : List ℕ) (reading n : ℕ) : Type 0 where
  pub asks : DueAsks z s reading
  pub bound : ℕ
  pub ticks : ℕ
  pub readied : List ℕ
  pub owed : owed_in z s reading ≤ bound
  pub goes : fire_due bound reading (so_far (machine_in z s) n ticks readied) ≡ interrupt reading (machine_in z s₀)
  pub room : n + bound ≤ 18446744073709551615
  pub spares : Spares z s₀ s
  pub fewer : (f i : ℕ) → used z (mem_in z s₀) f i ≡ 0 → used z (mem_in z s) f i ≡ 0
  pub rounds : Rounds z (mem_in z s₀) (mem_in z s)

-- Nothing has fired.
pub int_start : {z : Sizes} {s : List ℕ} {reading : ℕ} → DueAsks z s reading → Interrupting z s s reading 0
unfolding interrupt
int_start {z} {s} {reading} a =
    record {
      asks = a;
      bound = owed_in z s reading;
      ticks = 0;
      readied = [];
      owed = omega arith;
      goes = refl;
      room = omega (arith, owed-room a);
      spares = spares-none;
      fewer = λ f i e. e;
      rounds = rounds-same refl;
    }

-- The definition, where nothing is due and where the head is.
stop-due : (P : Firing → Type 0) (n reading : ℕ) (f : Firing) → NoneDue reading f.machine.queued → P f → P (fire_due n reading f)
unfolding fire_due
stop-due P zero reading f l p = p
stop-due P (suc n) reading f l p = go f.machine.queued refl l
  where
    go : (q : List Queued) → f.machine.queued ≡ q → NoneDue reading q → P (fire_due (suc n) reading f)
    go [] e l = rw (e, fire_due) p
    go (x ∷ rest) e l = rw (e, fire_due, lt-leb x.deadline reading l) p

step-due
    : (P : Firing → Type 0) (n reading : ℕ) (f : Firing) (x : Queued) (rest : List Queued)
    → f.machine.queued ≡ x ∷ rest
    → x.deadline ≤ reading
    → P (fire_due n reading (fire x rest f))
    → P (fire_due (suc n) reading f)
unfolding fire_due
step-due P n reading f x rest e l p = rw (e, fire_due, le-leb x.deadline reading l) p

-- One firing of the machine is one of the definition.
fire-so_far
    : (M M' : Machine) (reading n ticks : ℕ) (readied : List ℕ) (o : OneFired M M' reading)
    → fire o.head o.rest (so_far M n ticks readied)
    ≡ so_far M' (n + 1) (fire o.head o.rest (so_far M n ticks readied)).ticks (fire o.head o.rest (so_far M n ticks readied)).readied
unfolding fire
fire-so_far M M' reading n ticks readied o =
    let f : Firing = fire o.head o.rest (so_far M n ticks readied) in
    let e : f.machine ≡ M' = sym o.machine in
    let c : suc n ≡ n + 1 = sym (add-one n) in
    λ j. record { machine = e j; count = c j; ticks = f.ticks; readied = f.readied }

-- What the code of `interrupt` shows at a turn in which one fired, and at the last, in which none did.
pub int_less
    : {z : Sizes} {s s' : List ℕ} {reading : ℕ} {b : Bool}
    → FiredDue z s s' reading b
    → b ≡ true
    → owed_in z s' reading < owed_in z s reading
int_less {z} {s} {s'} {reading} d e = one_less (machine_in z s) (machine_in z s') reading (d.fires e)

pub int_room
    : {z : Sizes} {s₀ s s' : List ℕ} {reading n : ℕ} {b : Bool}
    → Interrupting z s₀ s reading n
    → FiredDue z s s' reading b
    → b ≡ true
    → n + 1 < 2 ^ 64
int_room i d e = omega (arith, i.owed, i.room, int_less d e)

-- One round after others.
spares-rounds
    : {z : Sizes} {s₀ s s' : List ℕ} {reading n : ℕ} {b : Bool} → Interrupting z s₀ s reading n → FiredDue z s s' reading b → Spares z s₀ s'
spares-rounds i d = spares_join i.spares d.spares (record { between = λ f j a b. i.fewer f j a }) (rounds-quiet i.rounds d.rounds)

pub int_step
    : {z : Sizes} {s₀ s s' : List ℕ} {reading n : ℕ} {b : Bool}
    → Interrupting z s₀ s reading n
    → FiredDue z s s' reading b
    → b ≡ true
    → Interrupting z s₀ s' reading (n + 1)
int_step {z} {s₀} {s} {s'} {reading} {n} i d e =
    let M : Machine = machine_in z s in
    let o : OneFired M (machine_in z s') reading = d.fires e in
    let f : Firing = so_far M n i.ticks i.readied in
    let l : owed_in z s' reading < owed_in z s reading = int_less d e in
    let c : i.bound ≡ suc (i.bound - 1) = omega (arith, l, i.owed) in
    record {
      asks = d.again;
      bound = i.bound - 1;
      ticks = (fire o.head o.rest f).ticks;
      readied = (fire o.head o.rest f).readied;
      owed = omega (arith, l, i.owed);
      goes =
          ap (fire_due (i.bound - 1) reading) (sym (fire-so_far M (machine_in z s') reading n i.ticks i.readied o))
          ∙ step-due (λ (y : Firing). fire_due (i.bound - 1) reading (fire o.head o.rest f) ≡ y) (i.bound - 1) reading f o.head o.rest
          o.queue
          o.due
          refl
          ∙ ap (λ (k : ℕ). fire_due k reading f) (sym c)
          ∙ i.goes;
      room = omega (arith, i.room, c);
      spares = spares-rounds i d;
      fewer = λ g j x. d.fewer g j (i.fewer g j x);
      rounds = rounds_join i.rounds d.rounds;
    }

pub int_end
    : {z : Sizes} {s₀ s s' : List ℕ} {reading n : ℕ} {b : Bool}
    → Interrupting z s₀ s reading n
    → FiredDue z s s' reading b
    → b ≡ false
    → Interrupted z s₀ s' reading n
int_end {z} {s₀} {s} {s'} {reading} {n} i d e =
    let f : Firing = so_far (machine_in z s) n i.ticks i.readied in
    let x : f ≡ interrupt reading (machine_in z s₀) = stop-due (λ (y : Firing). f ≡ y) i.bound reading f (d.later e) refl ∙ i.goes in
    record {
      well = d.again.well;
      machine = ap (machine_in z) (d.bytes e) ∙ ap (λ (y : Firing). y.machine) x;
      count = ap (λ (y : Firing). y.count) x;
      spares = spares-rounds i d;
      kin = (rounds_join i.rounds d.rounds).kin;
    }
