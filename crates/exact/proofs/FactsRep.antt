-- From the facts: the links, tags, cells and ages that a well-formed state has.
use Rattle.std.specs.Prelude.{◌≡◌, Bool, ℕ, zero, suc, ◌+◌, ◌≤◌, ◌<◌, eqb, length, List}
use Rattle.std.proofs.Math.Path.{refl, subst}
use Rattle.std.proofs.Common.{sym, ap, ◌∙◌, arith, eq-eqb, ne_eqb, ltb-true, ltb-false}
use Rattle.std.proofs.Math.Bool.{true, false}
use Rattle.std.proofs.Math.Dec.{ltb}
use Rattle.machine.specs.Basics.{count}
use Rattle.machine.specs.Machine.{Sizes}
use Rattle.machine.specs.Good.{Each}
use Rattle.layout.specs.Memory.{Memory}
use Rattle.chain.specs.Lists.{all_map}
use Rattle.state.specs.Fields as fields
use Rattle.state.specs.Abs.{is_set, waiter_list, timer_list, exit_list}
use Rattle.state.specs.WellFormed.{Used, Tagged, Queues, Cells, Ages, Vacant, Idle, age_list}
use Rattle.rules.specs.Facts.{sum_below, UnlinkedAt, IdleOk, Facts, WaitsHere}
use Rattle.exact.specs.Sums.{all_met_past, sum-some}
use Rattle.exact.proofs.Sums.{family_met_past}
use Rattle.exact.specs.Bounds.{InBounds, inside, at_most}
use Rattle.exact.specs.Resumes.{set_test, unset_test}
use Rattle.exact.specs.Parts.{walk_none}
use Rattle.exact.specs.Spots.{spots-asleep}
use Rattle.exact.proofs.FactsSpots.{facts-tags, facts-spots}
use Rattle.exact.proofs.CellLists.{exits_of, exits_in, Owning, owning_family, exits-counted}
use Rattle.lists.specs.Lists.{bit, each-count}

pub bit-eqb : (v : ℕ) → v ≤ 1 → bit (eqb v 1) ≡ v
bit-eqb zero l = refl
bit-eqb (suc zero) l = refl
bit-eqb (suc (suc v)) l = absurd (omega arith)

module _ {z : Sizes} {m : Memory} (b : InBounds z m) (f : Facts z m) where
  -- Past the last lock there is no queue.
  pub facts-waiting : (q : ℕ) → Each (WaitsHere m q) (waiter_list z m q)
  unfolding waiter_list
  facts-waiting q = go (ltb q z.locks) refl
    where
      go : (c : Bool) → ltb q z.locks ≡ c → Each (WaitsHere m q) (waiter_list z m q)
      go true e = (f.locks q (ltb-true q z.locks e)).waiting
      go false e =
          subst (λ (xs : List ℕ). Each (WaitsHere m q) xs)
          (sym (walk_none z.processes (m fields.next) (m fields.lock_head q) (b.past fields.lock_head q (ltb-false q z.locks e)))) tt

  facts-queued : (t : ℕ) → m fields.is_queued t ≡ count t (timer_list z m)
  facts-queued t =
      omega (
        arith,
        bit-eqb (m fields.is_queued t) (at_most b fields.is_queued t),
        all_met_past (z.timers + z.processes) (timer_list z m) (λ t. eqb (m fields.is_queued t) 1)
            f.timer_queue.chain.distinct
            f.timer_queue.chain.below
            (all_map (λ t e. eq-eqb (m fields.is_queued t) 1 e) (timer_list z m) f.timer_queue.queued)
            (λ t l. ne_eqb (m fields.is_queued t) 1 (λ e. omega (arith, b.past fields.is_queued t l)))
            f.all_queued t,
      )

  pub facts-queues : Queues z m
  facts-queues =
      record {
        run = f.run.queue;
        locks = λ q l. (f.locks q l).queue;
        timers = f.timer_queue.chain;
        queued = facts-queued;
        asleep = f.asleep ∙ sym (spots-asleep b (facts-spots b f));
      }

  pub facts-tagged : Tagged z m
  facts-tagged =
      record {
        free = (facts-tags b f).free;
        used = (facts-tags b f).used;
        running = f.up;
        ready = f.run.ready;
        sleeping = λ r i e. (f.rendez r (inside b fields.sleeper_of r (omega arith)) i e).state;
        queueing = λ q. all_map (λ i w. w.state) (waiter_list z m q) (facts-waiting q);
        unlinked = λ i. unlinked i (ltb i z.processes) refl;
        blanks = λ i u. ((f.records i (inside b fields.pid i u)).used u).blank;
      }
    where
      unlinked : (i : ℕ) (c : Bool) → ltb i z.processes ≡ c → UnlinkedAt m i
      unlinked i true l = (f.records i (ltb-true i z.processes l)).unlinked
      unlinked i false l = record { zero = λ _. b.past fields.next i (ltb-false i z.processes l) }

  pub facts_owning : Owning z m
  facts_owning =
      record { chain = λ i u. (f.exits i (inside b fields.pid i u) u).chain; owned = λ i u. (f.exits i (inside b fields.pid i u) u).owned }

  pub facts-counted : (i : ℕ) → Used m i → length (exit_list m i) ≡ m fields.nexits i
  facts-counted i u = (f.exits i (inside b fields.pid i u) u).counted

  facts-owner : (c i : ℕ) → m fields.owner c ≡ suc i → Used m i × (1 ≤ count c (exit_list m i))
  facts-owner c i e =
      let s : sum_below z.processes (λ i. count c (exits_of m i)) ≡ bit (is_set (m fields.owner c)) =
      family_met_past (owning_family facts_owning)
      (λ c l. unset_test (m fields.owner c) (b.past fields.owner c l))
      (exits-counted z m facts-counted ∙ f.all_owned) c
      in
      let k : (k : ℕ) × (k < z.processes) × (1 ≤ count c (exits_of m k)) =
      sum-some z.processes (λ i. count c (exits_of m i)) (omega (arith, ap bit (set_test (m fields.owner c) (omega arith))))
      in
      let p : Used m k.0 × (1 ≤ count c (exit_list m k.0)) = exits_in m k.0 c k.2 in
      let d : m fields.owner c ≡ suc k.0 = each-count (λ c. m fields.owner c ≡ suc k.0) (exit_list m k.0) (facts_owning.owned k.0 p.0) c p.1 in
      let g : k.0 ≡ i = omega arith in
      subst (λ (j : ℕ). Used m j × (1 ≤ count c (exit_list m j))) g p

  pub facts-cells : Cells z m
  facts-cells = record { chain = facts_owning.chain; counted = facts-counted; owned = facts_owning.owned; owner = facts-owner }

  pub facts-ages : Ages z m
  facts-ages =
      record {
        younger = f.ages.younger;
        older = f.ages.older;
        rising = f.ages.rising;
        living =
            all_met_past z.processes (age_list z m) (λ i. is_set (m fields.pid i))
            f.ages.younger.chain.distinct
            f.ages.younger.chain.below
            (all_map (λ i u. set_test (m fields.pid i) u) (age_list z m) f.ages.used)
            (λ i l. unset_test (m fields.pid i) (b.past fields.pid i l))
            f.all_living;
        parent_at = λ i j u v. f.kin i (inside b fields.pid i u) u j (inside b fields.pid j v) v;
        orphan = λ i u. ((f.records i (inside b fields.pid i u)).used u).orphan;
      }

  -- The facts say how the bytes represent their machine.
  pub facts-rep : Queues z m × Tagged z m × Cells z m × Ages z m
  facts-rep = (facts-queues, facts-tagged, facts-cells, facts-ages)

-- What is free has nothing, and past the last of each there is nothing.
pub facts-idle : {z : Sizes} {m : Memory} → InBounds z m → IdleOk z m → Idle m
facts-idle {z} {m} b f =
    record {
      records = λ i e. vacant i e (ltb i z.processes) refl;
      cells = λ c e. cell c e (ltb c z.cells) refl;
      timers = λ t e. timer t e (ltb t (z.timers + z.processes)) refl;
    }
  where
    vacant : (i : ℕ) → m fields.pid i ≡ 0 → (c : Bool) → ltb i z.processes ≡ c → Vacant m i
    vacant i e true l = f.records i (ltb-true i z.processes l) e
    vacant i e false l =
        let k : z.processes ≤ i = ltb-false i z.processes l in
        record { older = b.past fields.older i k; younger = b.past fields.younger i k; exits = b.past fields.exits i k; nexits = b.past fields.nexits i k }

    cell : (c : ℕ) → m fields.owner c ≡ 0 → (d : Bool) → ltb c z.cells ≡ d → m fields.cell_next c ≡ 0
    cell c e true l = f.cells c (ltb-true c z.cells l) e
    cell c e false l = b.past fields.cell_next c (ltb-false c z.cells l)

    timer : (t : ℕ) → m fields.is_queued t ≡ 0 → (d : Bool) → ltb t (z.timers + z.processes) ≡ d → m fields.timer_next t ≡ 0
    timer t e true l = f.timers t (ltb-true t (z.timers + z.processes) l) e
    timer t e false l = b.past fields.timer_next t (ltb-false t (z.timers + z.processes) l)
