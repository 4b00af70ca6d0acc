-- What a kernel timer does: its period, and the Rendez it wakes.
use Rattle.std.specs.Prelude.{◌≡◌, refl, List, [], ◌∷◌, ℕ, ◌-◌, ◌≤◌, ◌<◌}
use Rattle.std.proofs.Common.{ap, arith, eq-eqb, ne_eqb}
use Rattle.machine.specs.Machine.{Machine, Setting}
use Rattle.machine.specs.Update.{with_setting}
use Rattle.layout.specs.Memory.{Memory}
use Rattle.layout.specs.Table.{slot}
use Rattle.layout.specs.Writes.{Write, to, updates}
use Rattle.state.specs.Fields as fields
use Rattle.state.specs.Abs.{run_list, waiter_list, timer_list, exit_list, waits_on, exit_at, process_at, machine_of}
use Rattle.state.specs.Places.{sizes_in, mem_in, PutIn}
use Rattle.state.specs.declared.Sizes.{Sizes}
use Rattle.timers.specs.Insert.{wrote_2}
use Rattle.holds.specs.Parts.{table-set}
use Rattle.holds.specs.Use.{used_by, none, more, before}
use Rattle.timer.specs.Only.{Owing}
use Rattle.timer.specs.Del.{machine_in}
use Rattle.clockwork.specs.Stores.{Became, became}

abbrev pub setting_stores : ℕ → ℕ → ℕ → List Write
setting_stores t period rendez = to fields.period t period ∷ to fields.timer_rendez t rendez ∷ []

abbrev pub setting_of : ℕ → ℕ → Setting
setting_of period rendez = record { period = period; rendez = rendez }

-- There is a kernel timer t and that Rendez, and the period is below 2^63.
pub record SettingAsks (z : Sizes) (s : List ℕ) (t period rendez : ℕ) : Type 0 where
  pub owing : Owing z s
  pub index : t < z.timers
  pub range : period ≤ 9223372036854775807
  pub there : rendez < z.rendez

machine-setting
    : (z : Sizes) (m : Memory) (t p r : ℕ)
    → machine_of (sizes_in z) (updates m (setting_stores t p r)) ≡ with_setting t (setting_of p r) (machine_of (sizes_in z) m)
unfolding machine_of with_setting run_list waiter_list timer_list process_at exit_list exit_at waits_on
machine-setting z m t p r =
    let M : Machine = machine_of (sizes_in z) m in
    let set : ℕ → Setting = λ k. setting_of (m fields.period k) (m fields.timer_rendez k) in
    let set' : ℕ → Setting =
    λ k. setting_of (updates m (setting_stores t p r) fields.period k) (updates m (setting_stores t p r) fields.timer_rendez k)
    in
    ap (λ (x : List Setting). record {
      sizes = M.sizes;
      next_pid = M.next_pid;
      ticks = M.ticks;
      last_now = M.last_now;
      up = M.up;
      run = M.run;
      processes = M.processes;
      sleepers = M.sleepers;
      locks = M.locks;
      settings = x;
      queued = M.queued;
      conditions = M.conditions;
    })
    (table-set z.timers set set' t (setting_of p r) (rw (eq-eqb t t refl)) (λ k l ne. rw (ne_eqb t k ne)))

pub setting-made
    : {z : Sizes} {s s₁ s₂ : List ℕ} {t p r : ℕ}
    → SettingAsks z s t p r
    → PutIn z s s₁ (slot 5 8 8) t p
    → PutIn z s₁ s₂ (slot 5 16 2) t r
    → Became z s s₂ (setting_stores t p r) (with_setting t (setting_of p r) (machine_in z s))
unfolding used_by
setting-made {z} {s} {s₁} {s₂} {t} {p} {r} a p₁ p₂ =
    let there : 0 < z.timers - t = omega (arith, a.index) in
    became a.owing (wrote_2 p₁ p₂) (omega (arith, a.index, a.range, a.there)) (refl, (refl, tt)) (more (before there) (more (before there) none)) (machine-setting z (mem_in z s) t p r)
