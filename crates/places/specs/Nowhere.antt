-- A process that has been taken off its place and not yet put on another.
use Rattle.std.specs.Prelude.{◌≡◌, refl, Bool, true, false, List, [], ◌∷◌, ℕ, zero, suc, ◌<◌, eqb}
use Rattle.std.proofs.Common.{sym, ap, subst, ◌∙◌, arith, eqb-true, ne_eqb}
use Rattle.std.proofs.Math.Path.{subst₃}
use Rattle.std.proofs.lemmas.Bool.{false≢true, eqb-false, and_right}
use Rattle.machine.specs.Machine.{Sizes}
use Rattle.machine.specs.Good.{Each}
use Rattle.layout.specs.Memory.{Memory, alter}
use Rattle.chain.specs.Lists.{Absent, all_map, all_both}
use Rattle.chain.specs.Links.{final, push_links, alter-same, alter-other}
use Rattle.state.specs.Fields as fields
use Rattle.state.specs.Abs.{run_list, waiter_list, waits_on}
use Rattle.state.specs.WellFormed.{Used, is_linked, Blank, Blanks, NoLink, Unlinked}
use Rattle.queue.specs.Other.{absent_by}
use Rattle.holds.specs.Holds.{Placed}

-- Record i has a living process, and it is in no place, and linked to none.
pub record Nowhere (z : Sizes) (m : Memory) (i : ℕ) : Type 0 where
  pub used : Used m i
  pub up : m fields.up 0 ≡ suc i → ⊥
  pub run : Absent i (run_list z m)
  pub rendez : (r : ℕ) → m fields.sleeper_of r ≡ suc i → ⊥
  pub locks : (q : ℕ) → Absent i (waiter_list z m q)
  pub waitr : waits_on m i ≡ false
  pub next : m fields.next i ≡ 0

-- A field changed at i, for those who are not i.
pub each-alter : (g : ℕ → ℕ) (i v c : ℕ) (xs : List ℕ) → Absent i xs → Each (λ x. g x ≡ c) xs → Each (λ x. alter g i v x ≡ c) xs
each-alter g i v c xs a h = all_both (λ x ne e. alter-other g i v x ne ∙ e) xs a h

-- By cases, whether a number is i.
pub at_or_other : (P : ℕ → Type 0) (i : ℕ) → P i → ((j : ℕ) → (i ≡ j → ⊥) → P j) → (j : ℕ) → P j
at_or_other P i a b j = go (eqb i j) refl
  where
    go : (c : Bool) → eqb i j ≡ c → P j
    go true e = subst P (eqb-true i j e) a
    go false e = b j (eqb-false i j e)

-- Links, where a state or a call is stored for one who has none.
pub unlinked-state : {s k g : ℕ → ℕ} (i v : ℕ) → g i ≡ 0 → Unlinked s k g → Unlinked (alter s i v) k g
unlinked-state {s} {k} {g} i v e h =
    at_or_other (λ (j : ℕ). NoLink (alter s i v j) (k j) (g j)) i (record { zero = λ _. e })
    (λ j ne. subst (λ (x : ℕ). NoLink x (k j) (g j)) (sym (alter-other s i v j ne)) (h j))

pub unlinked-call : {s k g : ℕ → ℕ} (i v : ℕ) → g i ≡ 0 → Unlinked s k g → Unlinked s (alter k i v) g
unlinked-call {s} {k} {g} i v e h =
    at_or_other (λ (j : ℕ). NoLink (s j) (alter k i v j) (g j)) i (record { zero = λ _. e })
    (λ j ne. subst (λ (x : ℕ). NoLink (s j) x (g j)) (sym (alter-other k i v j ne)) (h j))

-- Where the link of one is taken off.
pub unlinked-pop : {s k g : ℕ → ℕ} (i : ℕ) → Unlinked s k g → Unlinked s k (alter g i 0)
unlinked-pop {s} {k} {g} i h =
    at_or_other (λ (j : ℕ). NoLink (s j) (k j) (alter g i 0 j)) i (record { zero = λ _. alter-same g i 0 })
    (λ j ne. subst (λ (x : ℕ). NoLink (s j) (k j) x) (sym (alter-other g i 0 j ne)) (h j))

-- And where one who has a link then is queued behind others who have one.
final_met : (P : ℕ → Type 0) (d : ℕ) (xs : List ℕ) (u : ℕ) → ((x : ℕ) → d ≡ suc x → P x) → Each P xs → final d xs ≡ suc u → P u
final_met P d [] u h a e = h u e
final_met P d (x ∷ xs) u h a e = final_met P (suc x) xs u (λ y q. subst P (omega (arith, q)) a.0) a.1 e

pub unlinked-push
    : {s k g : ℕ → ℕ} (t i : ℕ) (xs : List ℕ)
    → t ≡ final 0 xs
    → Each (λ j. is_linked (s j) (k j) ≡ true) xs
    → is_linked (s i) (k i) ≡ true
    → Unlinked s k g
    → Unlinked s k (push_links g t i)
unlinked-push {s} {k} {g} t i xs e a l h j = record { zero = λ d. go t e d ∙ (h j).zero d }
  where
    other : (x : ℕ) → is_linked (s x) (k x) ≡ true → is_linked (s j) (k j) ≡ false → x ≡ j → ⊥
    other x p q r = false≢true (sym q ∙ ap (λ (y : ℕ). is_linked (s y) (k y)) (sym r) ∙ p)

    go : (u : ℕ) → u ≡ final 0 xs → is_linked (s j) (k j) ≡ false → push_links g u i j ≡ g j
    go zero q d = alter-other g i 0 j (other i l d)
    go (suc u) q d =
        alter-other (alter g i 0) u (suc i) j
        (other u (final_met (λ (x : ℕ). is_linked (s x) (k x) ≡ true) 0 xs u (λ x r. absurd (omega (arith, r))) a (sym q)) d)
        ∙ alter-other g i 0 j (other i l d)

-- Objects and conditions, where a call is stored.
pub blanks-call
    : {p k o c : ℕ → ℕ} (i k' o' c' : ℕ) → Blank k' o' c' → Blanks p k o c → Blanks p (alter k i k') (alter o i o') (alter c i c')
blanks-call {p} {k} {o} {c} i k' o' c' b h =
    at_or_other (λ (j : ℕ). 0 < p j → Blank (alter k i k' j) (alter o i o' j) (alter c i c' j)) i
    (λ _. subst₃ Blank (sym (alter-same k i k')) (sym (alter-same o i o')) (sym (alter-same c i c')) b)
    (λ j ne u. subst₃ Blank (sym (alter-other k i k' j ne)) (sym (alter-other o i o' j ne)) (sym (alter-other c i c' j ne)) (h j u))

-- Two states or calls that differ.
pub differ : {a b x y : ℕ} → a ≡ x → b ≡ y → (x ≡ y → ⊥) → a ≡ b → ⊥
differ p q ne e = ne (sym p ∙ e ∙ q)

-- Nobody waits on the own waitr whose state is not 3, or whose call is not a `wait`.
pub waits-state : (m : Memory) (i : ℕ) → (m fields.state_of i ≡ 3 → ⊥) → waits_on m i ≡ false
unfolding waits_on
waits-state m i ne = rw (ne_eqb (m fields.state_of i) 3 ne)

pub waits-call : (m : Memory) (i : ℕ) → (m fields.resume_kind i ≡ 4 → ⊥) → waits_on m i ≡ false
unfolding waits_on
waits-call m i ne = rw (ne_eqb (m fields.resume_kind i) 4 ne) (and_right (eqb (m fields.state_of i) 3) false refl)

-- It depends on the state and the call alone.
pub waits_alike
    : (m m' : Memory) (i : ℕ)
    → m' fields.state_of i ≡ m fields.state_of i
    → m' fields.resume_kind i ≡ m fields.resume_kind i
    → waits_on m' i ≡ waits_on m i
unfolding waits_on
waits_alike m m' i e d = rw (e, d)

module _ {z : Sizes} {m : Memory} {n : ℕ} (p : Placed z m n) where
  -- The states of who is in a place, and who is absent by the state.
  pub waiting-state : (q : ℕ) → Each (λ i. m fields.state_of i ≡ 3) (waiter_list z m q)
  waiting-state q = all_map (λ i w. w.state) (waiter_list z m q) (p.waiting q)

  pub not-running : (i a : ℕ) → m fields.state_of i ≡ a → (a ≡ 1 → ⊥) → m fields.up 0 ≡ suc i → ⊥
  not-running i a e ne u = ne (sym e ∙ p.running i u)

  pub not-ready : (i a : ℕ) → m fields.state_of i ≡ a → (a ≡ 2 → ⊥) → Absent i (run_list z m)
  not-ready i a e ne = absent_by (m fields.state_of) a 2 ne i e (run_list z m) p.run.ready

  pub not-asleep : (i a : ℕ) → m fields.state_of i ≡ a → (a ≡ 3 → ⊥) → (r : ℕ) → m fields.sleeper_of r ≡ suc i → ⊥
  not-asleep i a e ne r s = ne (sym e ∙ (p.rendez r i s).state)

  pub not-waiting : (i a : ℕ) → m fields.state_of i ≡ a → (a ≡ 3 → ⊥) → (q : ℕ) → Absent i (waiter_list z m q)
  not-waiting i a e ne q = absent_by (m fields.state_of) a 3 ne i e (waiter_list z m q) (waiting-state q)

  -- Whoever has a state lives.
  pub state-used : (i : ℕ) → 0 < m fields.state_of i → Used m i
  state-used i h = go (eqb (m fields.pid i) 0) refl
    where
      go : (b : Bool) → eqb (m fields.pid i) 0 ≡ b → Used m i
      go true e = absurd (omega (arith, p.free i (eqb-true (m fields.pid i) 0 e)))
      go false e = omega (arith, eqb-false (m fields.pid i) 0 e)
