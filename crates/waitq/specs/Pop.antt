-- What `exits::pop` does to the memory: to the record's exits, and to the machine.
use Rattle.std.specs.Prelude.{if◌then◌else◌, ◌≡◌, refl, Bool, true, false, eqb, length, List, [], ◌∷◌, ◌++◌, map, ℕ, suc, ◌+◌, ◌-◌, ◌≤◌}
use Rattle.std.proofs.Common.{sym, ◌∙◌, arith, ne_eqb}
use Rattle.std.proofs.Math.Path.{ap, subst}
use Rattle.std.proofs.lemmas.Bool.{eqb-false}
use Rattle.machine.specs.Basics.{count}
use Rattle.machine.specs.Machine as machine
use Rattle.machine.specs.Machine.{Process, Exit, process}
use Rattle.machine.specs.Update.{with_process, with_exits}
use Rattle.machine.specs.Perform.{take_exit, newest}
use Rattle.machine.specs.Good.{Each}
use Rattle.layout.specs.Memory.{Memory, alter}
use Rattle.layout.specs.Writes.{Write, to, updates}
use Rattle.chain.specs.Lists.{all_both}
use Rattle.chain.specs.Links.{Chain, alter-same, alter-other, chain-rest}
use Rattle.state.specs.Fields as fields
use Rattle.state.specs.Abs.{exit_at, exit_list, machine_of}
use Rattle.state.specs.WellFormed.{Used, Cells}
use Rattle.exact.specs.Bounds.{InBounds, at_most}
use Rattle.exact.specs.Parts.{used_of}
use Rattle.waitq.specs.Same.{same-updates}
use Rattle.waitq.specs.Change.{Change, Changed, changed}
use Rattle.waitq.specs.Push.{head_stores}

-- The stores that free a cell.
unfoldable pub unlink_stores : ℕ → List Write
unlink_stores c = to fields.cell_next c 0 ∷ to fields.owner c 0 ∷ []

-- The newest exit of record i, which takes cell c, off its front.
unfoldable pub pop_stores : Memory → ℕ → ℕ → List Write
pop_stores m i c = unlink_stores c ++ head_stores i (m fields.cell_next c) (m fields.nexits i - 1)

abbrev pub pop_mem : Memory → ℕ → ℕ → Memory
pop_mem m i c = updates m (pop_stores m i c)

-- The newest of a record whose exits are known, and what remains.
newest-front : (p : Process) {x : Exit} {xs : List Exit} → p.exits ≡ x ∷ xs → newest p ≡ x
unfolding newest
newest-front p q = rw q

take-front : (p : Process) {x : Exit} {xs : List Exit} → p.exits ≡ x ∷ xs → take_exit p ≡ with_exits xs p
unfolding take_exit
take-front p q = rw q

module _ {z : machine.Sizes} {m : Memory} {i c : ℕ} {ys : List ℕ} (b : InBounds z m) (h : Cells z m) (u : Used m i) (e : exit_list m i ≡ c ∷ ys) where
  chain-here : Chain z.cells (m fields.cell_next) (m fields.exits i) (c ∷ ys)
  chain-here = subst (λ (xs : List ℕ). Chain z.cells (m fields.cell_next) (m fields.exits i) xs) e (h.chain i u)

  pub owned-here : Each (λ x. m fields.owner x ≡ suc i) (c ∷ ys)
  owned-here = subst (λ (xs : List ℕ). Each (λ x. m fields.owner x ≡ suc i) xs) e (h.owned i u)

  counted-here : suc (length ys) ≡ m fields.nexits i
  counted-here = ap length (sym e) ∙ h.counted i u

  -- c is in no other chain
  apart-here : (x j : ℕ) → (i ≡ j → ⊥) → m fields.owner x ≡ suc j → c ≡ x → ⊥
  apart-here x j ne o d = ne (omega (arith, ap (m fields.owner) d, owned-here.0, o))

  still-owned : (x j : ℕ) → alter (m fields.owner) c 0 x ≡ suc j → (c ≡ x → ⊥) × (m fields.owner x ≡ suc j)
  still-owned x j q = go (eqb c x) refl q
    where
      go : (b : Bool) → eqb c x ≡ b → (if b then 0 else m fields.owner x) ≡ suc j → (c ≡ x → ⊥) × (m fields.owner x ≡ suc j)
      go true p d = absurd (omega (arith, d))
      go false p d = (eqb-false c x p, d)

  still-named : (x : ℕ) → alter (m fields.owner) c 0 x ≡ suc i → 1 ≤ count x ys
  unfolding count
  still-named x q =
      let o : (c ≡ x → ⊥) × (m fields.owner x ≡ suc i) = still-owned x i q in
      let k : 1 ≤ count x (c ∷ ys) = subst (λ (xs : List ℕ). 1 ≤ count x xs) e (h.owner x i o.1).1 in
      let k' : 1 ≤ 0 + count x ys = rw (ne_eqb x c (λ d. o.0 (sym d))) at k in
      omega (arith, k')

  pop_change : Change z m (pop_mem m i c) i ys
  unfolding pop_stores unlink_stores head_stores exit_at
  pop_change =
      record {
        used = u;
        first = λ j ne. alter-other (m fields.exits) i (m fields.cell_next c) j ne;
        number = λ j ne. alter-other (m fields.nexits) i (m fields.nexits i - 1) j ne;
        next = λ x j ne o. alter-other (m fields.cell_next) c 0 x (apart-here x j ne o);
        stays = λ x j ne o. alter-other (m fields.owner) c 0 x (apart-here x j ne o) ∙ o;
        stayed = λ x j ne q. (still-owned x j q).1;
        holds = λ x j ne o. refl;
        chain = rw (alter-same (m fields.exits) i (m fields.cell_next c)) (chain-rest 0 chain-here);
        counted = rw (alter-same (m fields.nexits) i (m fields.nexits i - 1)) (omega (arith, counted-here));
        room = omega (arith, counted-here, at_most b fields.nexits i);
        owned = all_both (λ x ne o. alter-other (m fields.owner) c 0 x ne ∙ o) ys chain-here.distinct.0 owned-here.1;
        named = still-named;
      }

  pub pop-changed : Changed z m (pop_mem m i c) i ys
  unfolding pop_stores unlink_stores head_stores
  pop-changed = changed b h (same-updates m (pop_stores m i c) (refl, (refl, (refl, (refl, tt))))) pop_change

  exits-here : (process (machine_of z m) i).exits ≡ exit_at m c ∷ map (exit_at m) ys
  exits-here = ap (λ (p : Process). p.exits) (used_of b i u) ∙ ap (map (exit_at m)) e

  pub pop-newest : newest (process (machine_of z m) i) ≡ exit_at m c
  pop-newest = newest-front (process (machine_of z m) i) exits-here

  pub pop-machine : machine_of z (pop_mem m i c) ≡ with_process i (take_exit (process (machine_of z m) i)) (machine_of z m)
  unfolding pop_stores unlink_stores head_stores exit_at
  pop-machine =
      pop-changed.machine
      ∙ ap (λ (p : Process). with_process i p (machine_of z m)) (sym (take-front (process (machine_of z m) i) exits-here))
