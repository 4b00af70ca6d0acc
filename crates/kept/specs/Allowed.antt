-- What a step that is not refused may rely on: each cause of the table that its order tests is false.
use Rattle.std.specs.Prelude.{if◌then◌else◌, ◌≡◌, refl, Bool, true, false, not, ◌&&◌, ◌||◌, List, [], ◌∷◌, ℕ, ◌-◌, ◌^◌, ◌≤◌, eqb, ltb}
use Rattle.std.proofs.Common.{sym, ◌∙◌, subst, arith, eqb-true, ltb-false}
use Rattle.std.proofs.Math.Option.{Option, none, some}
use Rattle.std.proofs.lemmas.Bool.{eqb-false, not-false}
use Rattle.machine.specs.Basics.{is_some, is_none, elem}
use Rattle.machine.specs.Machine.{Machine, condition}
use Rattle.machine.specs.Exits.{free_record}
use Rattle.machine.specs.Step.{Step, Body}
use Rattle.machine.specs.Table.{order, holds, first_of, refusal, table, in_range, one_of, on, held_lock, bad_now, makes, open_table}

-- Tests that are joined.
pub and_left : (a b : Bool) → a && b ≡ true → a ≡ true
and_left true b e = refl
and_left false b e = e

-- both tests pass, so the second does
pub and_right : (a b : Bool) → a && b ≡ true → b ≡ true
and_right true b e = e
and_right false b e = let x : ◌≡◌ {A = ℕ} 0 1 = cc in absurd (omega arith)

-- the second fails where the first passes and both do not
pub and_off : (a b : Bool) → a && b ≡ false → a ≡ true → b ≡ false
and_off true b e h = e
and_off false b e h = let x : ◌≡◌ {A = ℕ} 0 1 = cc in absurd (omega arith)

-- and the first fails where the second passes
pub off_and : (a b : Bool) → a && b ≡ false → b ≡ true → a ≡ false
off_and true b e h = let y : true ≡ false = sym h ∙ e in let x : ◌≡◌ {A = ℕ} 0 1 = cc in absurd (omega arith)
off_and false b e h = refl

-- neither test passes, so the first fails
pub or_left : (a b : Bool) → a || b ≡ false → a ≡ false
or_left true b e = e
or_left false b e = refl

-- and so does the second
pub or_right : (a b : Bool) → a || b ≡ false → b ≡ false
or_right true b e = let x : ◌≡◌ {A = ℕ} 0 1 = cc in absurd (omega arith)
or_right false b e = e

-- Something is there where there is not nothing.
pub there : {A : Type 0} (o : Option A) → is_none o ≡ false → (a : A) × (o ≡ some a)
there none e = let x : ◌≡◌ {A = ℕ} 0 1 = cc in absurd (omega arith)
there (some a) e = (a, refl)

-- Nothing is there where there is not something.
pub not_there : {A : Type 0} (o : Option A) → is_some o ≡ false → o ≡ none
not_there none e = refl
not_there (some a) e = let x : ◌≡◌ {A = ℕ} 0 1 = cc in absurd (omega arith)

-- The causes that are tested before the first that holds.
first-none : (ns : List ℕ) (m : Machine) (s : Step) → first_of ns m s ≡ none → (n : ℕ) → elem n ns ≡ true → holds n table m s ≡ false
unfolding first_of elem
first-none [] m s e n h = let x : ◌≡◌ {A = ℕ} 0 1 = cc in absurd (omega arith)
first-none (k ∷ ns) m s e n h = go (eqb n k) refl (holds k table m s) refl (λ a b. first-none ns m s a n b)
  where
    go : (b : Bool) → eqb n k ≡ b → (c : Bool) → holds k table m s ≡ c → (first_of ns m s ≡ none → elem n ns ≡ true → holds n table m s ≡ false) → holds n table m s ≡ false
    go b p true q rec = let y : some k ≡ none = rw (q, first_of) at e in let x : ◌≡◌ {A = ℕ} 0 1 = cc in absurd (omega arith)
    go true p false q rec = rw (eqb-true n k p) q
    go false p false q rec = rec (rw (q, first_of) at e) (rw (p, elem) at h)

-- A step that is not refused: each cause that its order tests is false.
pub allowed : (m : Machine) (s : Step) → refusal m s ≡ none → (n : ℕ) → elem n (order s.body) ≡ true → holds n table m s ≡ false
unfolding refusal
allowed m s e n h = first-none (order s.body) m s e n h

-- Whether k is tested before n.
unfoldable pub before : ℕ → ℕ → List ℕ → Bool
before k n [] = false
before k n (x ∷ xs) = if eqb x n then false else eqb k x || before k n xs

-- What is tested before the first that holds is false.
first_some : (ns : List ℕ) (m : Machine) (s : Step) (n : ℕ) → first_of ns m s ≡ some n → (k : ℕ) → before k n ns ≡ true → holds k table m s ≡ false
unfolding first_of before
first_some [] m s n e k h = let x : ◌≡◌ {A = ℕ} 0 1 = cc in absurd (omega arith)
first_some (x ∷ ns) m s n e k h = go (eqb k x) refl (eqb x n) refl (holds x table m s) refl (λ a b. first_some ns m s n a k b)
  where
    go : (b : Bool) → eqb k x ≡ b → (d : Bool) → eqb x n ≡ d → (c : Bool) → holds x table m s ≡ c
        → (first_of ns m s ≡ some n → before k n ns ≡ true → holds k table m s ≡ false)
        → holds k table m s ≡ false
    go b p true d c q rec = let y : false ≡ true = rw (d, before) at h in let z : ◌≡◌ {A = ℕ} 0 1 = cc in absurd (omega arith)
    go b p false d true q rec = let y : some x ≡ some n = rw (q, first_of) at e in let z : x ≡ n = cc in absurd (eqb-false x n d z)
    go true p false d false q rec = rw (eqb-true k x p) q
    go false p false d false q rec = rec (rw (q, first_of) at e) (rw (d, before, p) at h)

-- A step refused with n: each cause that its order tests before n is false.
pub earlier : (m : Machine) (s : Step) (n : ℕ) → refusal m s ≡ some n → (k : ℕ) → before k n (order s.body) ≡ true → holds k table m s ≡ false
unfolding refusal
earlier m s n e k h = first_some (order s.body) m s n e k h

-- The first that holds holds.
first_holds : (ns : List ℕ) (m : Machine) (s : Step) (n : ℕ) → first_of ns m s ≡ some n → holds n table m s ≡ true
unfolding first_of
first_holds [] m s n e = let z : ◌≡◌ {A = ℕ} 0 1 = cc in absurd (omega arith)
first_holds (x ∷ ns) m s n e = go (holds x table m s) refl (λ a. first_holds ns m s n a)
  where
    go : (c : Bool) → holds x table m s ≡ c → (first_of ns m s ≡ some n → holds n table m s ≡ true) → holds n table m s ≡ true
    go true q rec = let y : some x ≡ some n = rw (q, first_of) at e in let z : x ≡ n = cc in subst (λ (j : ℕ). holds j table m s ≡ true) z q
    go false q rec = rec (rw (q, first_of) at e)

-- The cause with which a step is refused holds.
pub caused : (m : Machine) (s : Step) (n : ℕ) → refusal m s ≡ some n → holds n table m s ≡ true
unfolding refusal
caused m s n e = first_holds (order s.body) m s n e

-- The step with a body, and whether it is marked.
abbrev pub step : Bool → Body → Step
step k b = record { marked = k; body = b }

-- Fields are in range.
pub in_range_lem : (m : Machine) (k : Bool) (b : Body) → refusal m (step k b) ≡ none → elem 2 (order b) ≡ true → in_range m.sizes b ≡ true
unfolding open_table
in_range_lem m k b e h = not-false (in_range m.sizes b) (allowed m (step k b) e 2 h)

-- Someone runs.
pub runner : (m : Machine) (k : Bool) (b : Body)
    → refusal m (step k b) ≡ none
    → elem 4 (order b) ≡ true
    → (one_of ("rfork" ∷ "name" ∷ "yield" ∷ "tsleep" ∷ "exit" ∷ "wait" ∷ []) b || on 1 "qlock" (held_lock m) b || on 2 "sleep" (λ R C. not (condition m C)) b) ≡ true
    → (i : ℕ) × (m.up ≡ some i)
unfolding table holds
runner m k b e h o =
    there m.up
    (off_and (is_none m.up) (one_of ("rfork" ∷ "name" ∷ "yield" ∷ "tsleep" ∷ "exit" ∷ "wait" ∷ []) b || on 1 "qlock" (held_lock m) b || on 2 "sleep" (λ R C. not (condition m C)) b)
    (allowed m (step k b) e 4 h) o)

-- NOW is accepted.
pub now_fits : (m : Machine) (now : ℕ) → bad_now m now ≡ false → (m.last_now ≤ now) × (now ≤ 2 ^ 51 - 1)
unfolding bad_now
now_fits m now e =
    (ltb-false now m.last_now (or_left (ltb now m.last_now) (ltb (2 ^ 51 - 1) now) e), ltb-false (2 ^ 51 - 1) now (or_right (ltb now m.last_now) (ltb (2 ^ 51 - 1) now) e))

-- A process is made: there is a free record, and the next pid is not the last one.
pub room : (m : Machine) (k : Bool) (b : Body) → refusal m (step k b) ≡ none → elem 12 (order b) ≡ true → makes b ≡ true → (i : ℕ) × (free_record m ≡ some i)
unfolding table holds
room m k b e h o = there (free_record m) (and_off (makes b) (is_none (free_record m)) (allowed m (step k b) e 12 h) o)

-- Where 16 is false of a step that makes a process, the next pid is not the last one.
pub pid-left : (m : Machine) (k : Bool) (b : Body) → holds 16 table m (step k b) ≡ false → makes b ≡ true → m.next_pid ≡ 2 ^ 64 - 1 → ⊥
unfolding table holds
pid-left m k b e o = eqb-false m.next_pid (2 ^ 64 - 1) (and_off (makes b) (eqb m.next_pid (2 ^ 64 - 1)) e o)
