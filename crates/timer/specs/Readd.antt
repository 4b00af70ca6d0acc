-- A timer that fired returns to the queue, if it is periodic; and whether a timer is queued.
use Rattle.std.specs.Prelude.{if◌then◌else◌, ◌≡◌, refl, Bool, true, false, List, [], ℕ, zero, suc, ◌+◌, ◌≤◌, ◌<◌, ltb, get_or}
use Rattle.std.proofs.Common.{sym, ap, subst, ◌∙◌, arith, ne_eqb, ltb-true, ltb-false, lt-ltb, le-ltb}
use Rattle.machine.specs.Machine.{Setting, setting}
use Rattle.machine.specs.Timers.{period_of, readd}
use Rattle.layout.specs.Memory.{Memory, Ranged}
use Rattle.layout.specs.Writes.{Write}
use Rattle.chain.specs.Links.{alter-same, alter-other}
use Rattle.state.specs.Fields as fields
use Rattle.state.specs.Abs.{table, machine_of}
use Rattle.state.specs.Tables.{table-get, table-past}
use Rattle.state.specs.Places.{sizes_in, mem_in, Wrote}
use Rattle.state.specs.declared.Sizes.{Sizes}
use Rattle.timers.specs.Find.{timers_in, spot_in}
use Rattle.holds.specs.Holds.{Holds}
use Rattle.holds.specs.Use.{Between}
use Rattle.holds.specs.Touched.{Spares, spares-none}
use Rattle.timer.specs.Only.{Owing}
use Rattle.timer.specs.Del.{machine_in}
use Rattle.timer.specs.Use.{insert-on}
use Rattle.timer.specs.Rounds.{period_in, Rounds, rounds-same}
use Rattle.timer.specs.Add.{queue_stores, queue_mem, QueuedAt}

-- The stores, and the memory then, where timer t has the period p.
abbrev pub readd_stores : Sizes → Memory → ℕ → ℕ → List Write
readd_stores z m t zero = []
readd_stores z m t (suc p) = queue_stores z m t (m fields.deadline t + suc p)

abbrev pub readd_mem : Sizes → Memory → ℕ → ℕ → Memory
readd_mem z m t zero = m
readd_mem z m t (suc p) = queue_mem z m t (m fields.deadline t + suc p)

-- Timer t is off the queue, and its deadline, like any period, is below 2^63.
pub record ReaddAsks (z : Sizes) (s : List ℕ) (t : ℕ) : Type 0 where
  pub owing : Owing z s
  pub index : t < timers_in z
  pub off : mem_in z s fields.is_queued t ≡ 0
  pub small : mem_in z s fields.deadline t ≤ 9223372036854775807

-- The machine has it back at the deadline that it had plus its period.
pub record Readded (z : Sizes) (s s' : List ℕ) (t : ℕ) : Type 0 where
  pub holds : (n : ℕ) → Holds z s n → Holds z s' n
  pub owing : Owing z s'
  pub wrote : Wrote z s s' (readd_stores z (mem_in z s) t (period_in z (mem_in z s) t))
  pub memory : mem_in z s' ≡ readd_mem z (mem_in z s) t (period_in z (mem_in z s) t)
  pub machine : machine_in z s' ≡ readd (record { timer = t; deadline = mem_in z s fields.deadline t }) (machine_in z s)
  pub spares : Spares z s s'
  pub rounds : Rounds z (mem_in z s) (mem_in z s')
  -- a periodic one is queued then
  pub back : (period_in z (mem_in z s) t ≡ 0 → ⊥) → 0 < mem_in z s' fields.is_queued t
  -- no more is used than before, and in a memory in which it is queued
  pub uses : (k : Memory) → 0 < k fields.is_queued t → Between z k (mem_in z s') (mem_in z s)

-- That period is the machine's.
abbrev setting_at : Memory → ℕ → Setting
setting_at m t = record { period = m fields.period t; rendez = m fields.timer_rendez t }

abbrev once : Setting
once = record { period = 0; rendez = 0 }

period_of_lem : (z : Sizes) (m : Memory) (t : ℕ) → period_of t (machine_of (sizes_in z) m) ≡ period_in z m t
unfolding period_of setting machine_of
period_of_lem z m t = go (ltb t z.timers) refl
  where
    go : (b : Bool) → ltb t z.timers ≡ b → (get_or (table z.timers (setting_at m)) t once).period ≡ (if b then m fields.period t else 0)
    go true e = ap (λ (x : Setting). x.period) (table-get z.timers (setting_at m) t once (ltb-true t z.timers e))
    go false e = ap (λ (x : Setting). x.period) (table-past z.timers (setting_at m) t once (ltb-false t z.timers e))

-- One that fires once stays off.
stays : (z : Sizes) (s : List ℕ) (t : ℕ) → Owing z s → period_in z (mem_in z s) t ≡ 0 → Readded z s s t
unfolding readd
stays z s t o e =
    record {
      holds = λ n h. h;
      owing = o;
      wrote = rw e (record { bytes = refl; long = o.holds.state.long });
      memory = rw e;
      machine = rw (period_of_lem z (mem_in z s) t, e);
      spares = spares-none;
      rounds = rounds-same refl;
      back = λ ne. absurd (ne e);
      uses = λ k h. record { between = λ f i a b. b };
    }

pub readded-own : {z : Sizes} {s : List ℕ} {t : ℕ} → ReaddAsks z s t → z.timers ≤ t → Readded z s s t
readded-own {z} {s} {t} a l = stays z s t a.owing (rw (le-ltb t z.timers l))

pub readded-once
    : {z : Sizes} {s : List ℕ} {t p : ℕ} → ReaddAsks z s t → t < z.timers → p ≡ mem_in z s fields.period t → p ≡ 0 → Readded z s s t
readded-once {z} {s} {t} {p} a l e n = stays z s t a.owing (rw (lt-ltb t z.timers l) (sym e ∙ n))

-- A periodic one returns.
pub readd-fits : {z : Sizes} {s : List ℕ} {t : ℕ} → ReaddAsks z s t → mem_in z s fields.deadline t + mem_in z s fields.period t ≤ 18446744073709551615
unfolding Ranged
readd-fits {z} {s} {t} a = omega (arith, a.small, a.owing.holds.state.ranged fields.period t)

-- To be queued at another deadline is a round of a periodic timer.
inserted-rounds
    : (z : Sizes) (s s' : List ℕ) (t d : ℕ) → (period_in z (mem_in z s) t ≡ 0 → ⊥) → mem_in z s' ≡ queue_mem z (mem_in z s) t d → Rounds z (mem_in z s) (mem_in z s')
inserted-rounds z s s' t d ne e =
    let m : Memory = mem_in z s in
    subst (Rounds z m) (sym e)
    (record {
      periods = refl;
      once = λ u o. alter-other (m fields.deadline) t d u (λ q. ne (ap (period_in z m) q ∙ o));
      stays = λ u _ h. insert-on m (spot_in z m d) t d u h;
      kin = record { pids = refl };
      parents = refl;
      exit_pids = refl;
      lengths = refl;
      bytes = refl;
    })

returns_at
    : (z : Sizes) (s s' : List ℕ) (t p : ℕ)
    → period_in z (mem_in z s) t ≡ p
    → (p ≡ 0 → ⊥)
    → QueuedAt z s s' t (mem_in z s fields.deadline t + p)
    → Readded z s s' t
unfolding readd
returns_at z s s' t zero e ne q = absurd (ne refl)
returns_at z s s' t (suc p) e ne q =
    record {
      holds = q.holds;
      owing = q.owing;
      wrote = rw e q.wrote;
      memory = rw e q.memory;
      machine = rw (period_of_lem z (mem_in z s) t, e, ne_eqb (suc p) 0 ne) q.machine;
      spares = q.spares;
      rounds = inserted-rounds z s s' t (mem_in z s fields.deadline t + suc p) (λ d. omega (arith, e, d)) q.memory;
      back = λ _. omega (arith, ap (λ (m : Memory). m fields.is_queued t) q.memory, alter-same (mem_in z s fields.is_queued) t 1);
      uses = q.uses;
    }

pub readded
    : {z : Sizes} {s s' : List ℕ} {t d p : ℕ}
    → ReaddAsks z s t
    → t < z.timers
    → p ≡ mem_in z s fields.period t
    → (p ≡ 0 → ⊥)
    → d ≡ mem_in z s fields.deadline t
    → QueuedAt z s s' t (d + p)
    → Readded z s s' t
readded {z} {s} {s'} {t} {d} {p} a l e ne x q =
    returns_at z s s' t p (rw (lt-ltb t z.timers l) (sym e)) ne (subst (λ (v : ℕ). QueuedAt z s s' t (v + p)) x q)
