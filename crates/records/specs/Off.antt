-- Where the record of a process in no place alone differs, the places and the message cells are kept.
use Rattle.std.specs.Prelude.{◌≡◌, ◌⊎◌, ℕ, suc, ◌+◌, ◌<◌}
use Rattle.std.proofs.Math.Path.{refl, sym, ap, subst, subst₃}
use Rattle.std.proofs.Common.{◌∙◌, arith}
use Rattle.machine.specs.Basics.{elem}
use Rattle.machine.specs.Machine.{Sizes, asleep}
use Rattle.layout.specs.Memory.{Memory}
use Rattle.chain.specs.Lists.{Absent, all_both}
use Rattle.state.specs.Fields as fields
use Rattle.state.specs.Abs.{run_list, waiter_list, machine_of}
use Rattle.state.specs.WellFormed.{Used, Blank, NoLink}
use Rattle.state.specs.Blanks.{no-link}
use Rattle.rules.specs.Facts.{SleepsHere, WaitsHere}
use Rattle.holds.specs.Holds.{Placed}
use Rattle.places.specs.Nowhere.{Nowhere, at_or_other, waits-state, not-running, not-ready, not-asleep, not-waiting}
use Rattle.records.specs.Else.{part_of, Else}

-- Record i is in no place, whether it has a process or not.
pub record Off (z : Sizes) (m : Memory) (i : ℕ) : Type 0 where
  pub up : m fields.up 0 ≡ suc i → ⊥
  pub run : Absent i (run_list z m)
  pub rendez : (r : ℕ) → m fields.sleeper_of r ≡ suc i → ⊥
  pub locks : (q : ℕ) → Absent i (waiter_list z m q)
  pub next : m fields.next i ≡ 0

-- Such is a free record, and a process that is nowhere.
pub free_off : {z : Sizes} {m : Memory} {n : ℕ} (i : ℕ) → Placed z m n → m fields.pid i ≡ 0 → Off z m i
free_off {m = m} i p e =
    let d : m fields.state_of i ≡ 0 = p.free i e in
    record {
      up = not-running p i 0 d (λ x. omega (arith, x));
      run = not-ready p i 0 d (λ x. omega (arith, x));
      rendez = not-asleep p i 0 d (λ x. omega (arith, x));
      locks = not-waiting p i 0 d (λ x. omega (arith, x));
      next = no-link (λ x. omega (arith, x, d)) (λ x. omega (arith, x, d)) (p.unlinked i);
    }

pub nowhere-off : {z : Sizes} {m : Memory} {i : ℕ} → Nowhere z m i → Off z m i
nowhere-off w = record { up = w.up; run = w.run; rendez = w.rendez; locks = w.locks; next = w.next }

module _ {z : Sizes} {m m' : Memory} {i : ℕ} (e : Else m m' i) (o : Off z m i) where
  else_run : run_list z m' ≡ run_list z m
  unfolding run_list part_of elem
  else_run = rw (e.same fields.next refl, e.same fields.run_head refl)

  else_waiters : (q : ℕ) → waiter_list z m' q ≡ waiter_list z m q
  unfolding waiter_list part_of elem
  else_waiters q = rw (e.same fields.next refl, e.same fields.lock_head refl)

  -- It is in no place then.
  pub else_off : Off z m' i
  unfolding part_of elem
  else_off =
      record {
        up = λ d. o.up (sym (ap (λ (g : ℕ → ℕ). g 0) (e.same fields.up refl)) ∙ d);
        run = rw else_run o.run;
        rendez = λ r d. o.rendez r (sym (ap (λ (g : ℕ → ℕ). g r) (e.same fields.sleeper_of refl)) ∙ d);
        locks = λ q. rw (else_waiters q) (o.locks q);
        next = ap (λ (g : ℕ → ℕ). g i) (e.same fields.next refl) ∙ o.next;
      }

  pub else_nowhere : Used m' i → (m' fields.state_of i ≡ 3 → ⊥) → Nowhere z m' i
  else_nowhere u ne =
      record {
        used = u;
        up = else_off.up;
        run = else_off.run;
        rendez = else_off.rendez;
        locks = else_off.locks;
        waitr = waits-state m' i ne;
        next = else_off.next;
      }

  -- The places, where the record's state says whether it has a process, and as many are asleep.
  pub else-placed
      : {n : ℕ}
      → Placed z m n
      → (m' fields.pid i ≡ 0 → m' fields.state_of i ≡ 0)
      → (Used m' i → 0 < m' fields.state_of i)
      → (Used m' i → Blank (m' fields.resume_kind i) (m' fields.resume_object i) (m' fields.resume_condition i))
      → asleep (machine_of z m') ≡ asleep (machine_of z m)
      → Placed z m' n
  unfolding part_of elem
  else-placed {n} p free used blank sleeps =
      let next : m' fields.next ≡ m fields.next = e.same fields.next refl in
      let state : (j : ℕ) → (i ≡ j → ⊥) → m' fields.state_of j ≡ m fields.state_of j = λ j ne. e.other fields.state_of j refl ne in
      record {
        free =
            at_or_other (λ (j : ℕ). m' fields.pid j ≡ 0 → m' fields.state_of j ≡ 0) i free
            (λ j ne d. state j ne ∙ p.free j (sym (e.other fields.pid j refl ne) ∙ d));
        used =
            at_or_other (λ (j : ℕ). Used m' j → 0 < m' fields.state_of j) i used
            (λ j ne u. omega (arith, state j ne, p.used j (omega (arith, u, e.other fields.pid j refl ne))));
        running = λ j d.
            let up : m fields.up 0 ≡ suc j = sym (ap (λ (g : ℕ → ℕ). g 0) (e.same fields.up refl)) ∙ d in
            state j (λ x. o.up (up ∙ ap suc (sym x))) ∙ p.running j up;
        run =
            record {
              queue = rw (else_run, next, e.same fields.run_head refl, e.same fields.run_tail refl) p.run.queue;
              ready = rw else_run (all_both (λ j ne h. state j ne ∙ h) (run_list z m) o.run p.run.ready);
            };
        rendez = λ r j d. here r j (sym (ap (λ (g : ℕ → ℕ). g r) (e.same fields.sleeper_of refl)) ∙ d);
        locks = λ q. rw (else_waiters q, next, e.same fields.lock_head refl, e.same fields.lock_tail refl) (p.locks q);
        waiting = λ q. rw (else_waiters q) (all_both (λ j ne h. there q j ne h) (waiter_list z m q) (o.locks q) (p.waiting q));
        asleep = ap (λ (g : ℕ → ℕ). g 0) (e.same fields.asleep_count refl) ∙ p.asleep ∙ ap (λ (x : ℕ). n + x) (sym sleeps);
        unlinked =
            at_or_other (λ (j : ℕ). NoLink (m' fields.state_of j) (m' fields.resume_kind j) (m' fields.next j)) i (record { zero = λ _. else_off.next })
            (λ j ne.
            subst₃ NoLink (sym (state j ne)) (sym (e.other fields.resume_kind j refl ne)) (sym (ap (λ (g : ℕ → ℕ). g j) next)) (p.unlinked j));
        blanks =
            at_or_other (λ (j : ℕ). Used m' j → Blank (m' fields.resume_kind j) (m' fields.resume_object j) (m' fields.resume_condition j)) i blank
            (λ j ne u.
            subst₃ Blank (sym (e.other fields.resume_kind j refl ne)) (sym (e.other fields.resume_object j refl ne)) (sym (e.other fields.resume_condition j refl ne))
            (p.blanks j (omega (arith, u, e.other fields.pid j refl ne))));
      }
    where
      here : (r j : ℕ) → m fields.sleeper_of r ≡ suc j → SleepsHere m' r j
      here r j d =
          let ne : i ≡ j → ⊥ = λ x. o.rendez r (d ∙ ap suc (sym x)) in
          let h : SleepsHere m r j = p.rendez r j d in
          record {
            state = e.other fields.state_of j refl ne ∙ h.state;
            kind = subst (λ (x : ℕ). (x ≡ 1) ⊎ (x ≡ 2)) (sym (e.other fields.resume_kind j refl ne)) h.kind;
            object = e.other fields.resume_object j refl ne ∙ h.object;
          }

      there : (q j : ℕ) → (i ≡ j → ⊥) → WaitsHere m q j → WaitsHere m' q j
      there q j ne h =
          record {
            state = e.other fields.state_of j refl ne ∙ h.state;
            kind = e.other fields.resume_kind j refl ne ∙ h.kind;
            object = e.other fields.resume_object j refl ne ∙ h.object;
          }
