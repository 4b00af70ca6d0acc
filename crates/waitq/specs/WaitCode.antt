-- What `WaitState::of` asks and ensures, and what its code shows.
use Rattle.std.specs.Prelude.{if◌then◌else◌, ◌≡◌, refl, Bool, true, false, List, [], ◌∷◌, map, ℕ, ◌≤◌, ◌<◌, eqb, length}
use Rattle.std.proofs.Common.{sym, ◌∙◌, arith, eq-eqb, ne_eqb}
use Rattle.machine.specs.Basics.{is_empty}
use Rattle.machine.specs.Machine.{nothing, in_sleep, in_tsleep, in_qlock, in_wait, process}
use Rattle.state.specs.Fields as fields
use Rattle.state.specs.Abs.{resume_of, exit_at, exit_list, machine_of}
use Rattle.state.specs.Places.{sizes_in, mem_in}
use Rattle.state.specs.WellFormed.{Used}
use Rattle.state.specs.declared.Sizes.{Sizes}
use Rattle.exact.specs.Parts.{resume_at, used_at, used_of}
use Rattle.waitq.specs.declared.WaitState.{WaitState}
use Rattle.waitq.specs.Stored.{ExitsIn, cells-bounds, used-index}
use Rattle.waitq.specs.Wait.{is_waiting, wait_state_of}

-- What the code asks: a record in use, in a state in range whose cells are sound.
pub record WaitAsks (z : Sizes) (s : List ℕ) (i : ℕ) : Type 0 where
  pub cells : ExitsIn z s
  pub used : Used (mem_in z s) i

-- The answer is the case of the machine's record.
pub record WaitIs (z : Sizes) (s : List ℕ) (i : ℕ) (r : WaitState) : Type 0 where
  pub state : r ≡ wait_state_of (process (machine_of (sizes_in z) (mem_in z s)) i)

pub wait-index : {z : Sizes} {s : List ℕ} {i : ℕ} → WaitAsks z s i → i < z.processes
wait-index a = used-index a.cells a.used

-- The three tests on the memory.
resume-waits : (k o c : ℕ) → k ≡ 4 → is_waiting (resume_of k o c) ≡ true
unfolding is_waiting resume_of
resume-waits k o c e = rw e

resume-free : (k o c : ℕ) → (k ≡ 4 → ⊥) → is_waiting (resume_of k o c) ≡ false
unfolding is_waiting resume_of
resume-free k o c ne = go (eqb k 1) (eqb k 2) (eqb k 3)
  where
    go
        : (x y w : Bool)
        → is_waiting
        (if x then in_sleep o c else if y then in_tsleep o c else if w then in_qlock o else if eqb k 4 then in_wait else nothing)
        ≡ false
    go true y w = refl
    go false true w = refl
    go false false true = refl
    go false false false = rw (ne_eqb k 4 ne)

exits-none : {A : Type 0} (f : ℕ → A) (xs : List ℕ) → length xs ≡ 0 → is_empty (map f xs) ≡ true
exits-none f [] e = refl
exits-none f (x ∷ xs) e = absurd (omega (arith, e))

exits-some : {A : Type 0} (f : ℕ → A) (xs : List ℕ) → 0 < length xs → is_empty (map f xs) ≡ false
exits-some f [] l = absurd (omega (arith, l))
exits-some f (x ∷ xs) l = refl

-- What the code shows at each return.
module _ {z : Sizes} {s : List ℕ} {i : ℕ} (a : WaitAsks z s i) where
  here : process (machine_of (sizes_in z) (mem_in z s)) i ≡ used_at (mem_in z s) i
  here = used_of (cells-bounds a.cells) i a.used

  counted : length (exit_list (mem_in z s) i) ≡ mem_in z s fields.nexits i
  counted = a.cells.cells.counted i a.used

  -- the machine's record, by its three tests
  wait-is
      : (b e n : Bool)
      → is_waiting (resume_at (mem_in z s) i) ≡ b
      → is_empty (map (exit_at (mem_in z s)) (exit_list (mem_in z s) i)) ≡ e
      → eqb (mem_in z s fields.nchild i) 0 ≡ n
      → WaitIs z s i (if b then WaitState.InUse else if e then if n then WaitState.NoChild else WaitState.Sleep else WaitState.Take)
  unfolding wait_state_of
  wait-is b e n p q r = record { state = rw (here, p, q, r) }

  held : {k : ℕ} → k ≡ mem_in z s fields.resume_kind i → k ≡ 4 → is_waiting (resume_at (mem_in z s) i) ≡ true
  held e d = resume-waits (mem_in z s fields.resume_kind i) (mem_in z s fields.resume_object i) (mem_in z s fields.resume_condition i) (sym e ∙ d)

  unheld : {k : ℕ} → k ≡ mem_in z s fields.resume_kind i → (k ≡ 4 → ⊥) → is_waiting (resume_at (mem_in z s) i) ≡ false
  unheld e ne = resume-free (mem_in z s fields.resume_kind i) (mem_in z s fields.resume_object i) (mem_in z s fields.resume_condition i) (λ d. ne (e ∙ d))

  no_exits : {n : ℕ} → n ≡ mem_in z s fields.nexits i → n ≤ 0 → is_empty (map (exit_at (mem_in z s)) (exit_list (mem_in z s) i)) ≡ true
  no_exits e l = exits-none (exit_at (mem_in z s)) (exit_list (mem_in z s) i) (omega (arith, counted, e, l))

  pub wait-in_use : {k : ℕ} → k ≡ mem_in z s fields.resume_kind i → k ≡ 4 → WaitIs z s i WaitState.InUse
  wait-in_use e d =
      wait-is true (is_empty (map (exit_at (mem_in z s)) (exit_list (mem_in z s) i))) (eqb (mem_in z s fields.nchild i) 0) (held e d) refl refl

  pub wait-take
      : {k n : ℕ}
      → k ≡ mem_in z s fields.resume_kind i
      → (k ≡ 4 → ⊥)
      → n ≡ mem_in z s fields.nexits i
      → 0 < n
      → WaitIs z s i WaitState.Take
  wait-take e ne d l =
      wait-is false false (eqb (mem_in z s fields.nchild i) 0) (unheld e ne)
      (exits-some (exit_at (mem_in z s)) (exit_list (mem_in z s) i) (omega (arith, counted, d, l))) refl

  pub wait-alone
      : {k n h : ℕ}
      → k ≡ mem_in z s fields.resume_kind i
      → (k ≡ 4 → ⊥)
      → n ≡ mem_in z s fields.nexits i
      → n ≤ 0
      → h ≡ mem_in z s fields.nchild i
      → h ≡ 0
      → WaitIs z s i WaitState.NoChild
  wait-alone e ne d l x y = wait-is false true true (unheld e ne) (no_exits d l) (eq-eqb (mem_in z s fields.nchild i) 0 (sym x ∙ y))

  pub wait-sleep
      : {k n h : ℕ}
      → k ≡ mem_in z s fields.resume_kind i
      → (k ≡ 4 → ⊥)
      → n ≡ mem_in z s fields.nexits i
      → n ≤ 0
      → h ≡ mem_in z s fields.nchild i
      → (h ≡ 0 → ⊥)
      → WaitIs z s i WaitState.Sleep
  wait-sleep e ne d l x y = wait-is false true false (unheld e ne) (no_exits d l) (ne_eqb (mem_in z s fields.nchild i) 0 (λ w. y (x ∙ w)))
