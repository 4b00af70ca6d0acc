-- The status in the bytes of an `exit` is what stands behind its length, so it is six bytes shorter than they are.
use Rattle.std.specs.Prelude.{if◌then◌else◌, ◌≡◌, refl, Bool, true, false, ◌&&◌, List, [], ◌∷◌, ℕ, zero, suc, ◌+◌, ◌-◌, ◌*◌, ◌≤◌, eqb, leb, ltb, length, get_or, drop}
use Rattle.std.proofs.Common.{arith, length-drop}
use Rattle.std.proofs.Math.Option.{Option, none, some}
use Rattle.memory.specs.Le.{le}
use Rattle.machine.specs.Step.{Step, Body, start, rfork, name, sched, yield, sleep, tsleep, wakeup, qlock, canqlock, qunlock, cond, clock, tadd, tdel, intr, due, exit, wait, Takes, takes_numbers, takes_bytes, Kind, kinds, fill}
use Rattle.machine.specs.Bytes.{numbers_at, decode_form, decode_body, marking, decode}
use Rattle.outcome.specs.Means.{status_of}

-- Of a body, and of a step.
abbrev ShortBody : List ℕ → Option Body → Type 0
ShortBody s none = Unit {0}
ShortBody s (some x) = length (status_of x) ≤ length s - 6

abbrev pub Short : List ℕ → Option Step → Type 0
Short s none = Unit {0}
Short s (some x) = length (status_of x.body) ≤ length s - 6

-- Numbers have no status.
abbrev NoStatus : (n : ℕ) → Takes n → Type 0
NoStatus zero b = status_of b ≡ []
NoStatus (suc n) f = (x : ℕ) → NoStatus n (f x)

filled : (s : List ℕ) (n : ℕ) (f : Takes n) → NoStatus n f → (xs : List ℕ) → ShortBody s (fill n f xs)
unfolding fill
filled s zero b h [] = let e : status_of b ≡ [] = h in rw e (omega arith)
filled s zero b h (x ∷ xs) = tt
filled s (suc n) f h [] = tt
filled s (suc n) f h (x ∷ xs) = filled s n (f x) (h x) xs

-- The fields of a kind, where they are right.
right : (s : List ℕ) (c : Bool) (o : Option Body) → ShortBody s o → ShortBody s (if c then o else none)
right s true o h = h
right s false o h = tt

by_numbers : (s : List ℕ) (n : ℕ) (f : Takes n) → NoStatus n f → ShortBody s (decode_form (takes_numbers n f) s)
unfolding decode_form
by_numbers s n f h =
    right s (eqb (length s) (2 + 8 * n)) (fill n f (numbers_at n s 2)) (filled s n f h (numbers_at n s 2))

by_bytes : (s : List ℕ) (f : List ℕ → Body) → length (status_of (f (drop 6 s))) ≤ length s - 6 → ShortBody s (decode_form (takes_bytes f) s)
unfolding decode_form
by_bytes s f h = right s (leb 6 (length s) && eqb (length s) (6 + le 4 s 2)) (some (f (drop 6 s))) h

-- Each kind.
abbrev AllShort : List Kind → Type 0
AllShort [] = Unit {0}
AllShort (k ∷ ks) = ((s : List ℕ) → ShortBody s (decode_form k.form s)) × AllShort ks

all_short : (ks : List Kind) → AllShort ks → (s : List ℕ) → ShortBody s (decode_body ks s)
unfolding decode_body
all_short [] h s = tt
all_short (k ∷ ks) h s = go (eqb k.number (get_or s 0 0)) (all_short ks h.1 s)
  where
    go : (c : Bool) → ShortBody s (decode_body ks s) → ShortBody s (elim c [ true ↦ decode_form k.form s | false ↦ decode_body ks s ])
    go true r = h.0 s
    go false r = r

kinds_short : AllShort kinds
unfolding kinds status_of
kinds_short = (
  λ s. by_numbers s 1 start (λ a. refl),
  (
    λ s. by_numbers s 2 rfork (λ a b. refl),
    (
      λ s. by_bytes s name (omega arith),
      (
        λ s. by_numbers s 0 sched refl,
        (
          λ s. by_numbers s 0 yield refl,
          (
            λ s. by_numbers s 2 sleep (λ a b. refl),
            (
              λ s. by_numbers s 5 tsleep (λ a b c d e. refl),
              (
                λ s. by_numbers s 1 wakeup (λ a. refl),
                (
                  λ s. by_numbers s 1 qlock (λ a. refl),
                  (
                    λ s. by_numbers s 1 canqlock (λ a. refl),
                    (
                      λ s. by_numbers s 1 qunlock (λ a. refl),
                      (
                        λ s. by_numbers s 2 cond (λ a b. refl),
                        (
                          λ s. by_numbers s 1 clock (λ a. refl),
                          (
                            λ s. by_numbers s 6 tadd (λ a b c d e f. refl),
                            (
                              λ s. by_numbers s 1 tdel (λ a. refl),
                              (
                                λ s. by_numbers s 1 intr (λ a. refl),
                                (
                                  λ s. by_numbers s 0 due refl,
                                  (
                                    λ s. by_bytes s exit (omega (arith, length-drop 6 s)),
                                    (
                                      λ s. by_numbers s 0 wait refl,
                                      tt,
                                    ),
                                  ),
                                ),
                              ),
                            ),
                          ),
                        ),
                      ),
                    ),
                  ),
                ),
              ),
            ),
          ),
        ),
      ),
    ),
  ),
)

marked : (s : List ℕ) (m : ℕ) (o : Option Body) → ShortBody s o → Short s (marking m o)
unfolding marking
marked s m none h = tt
marked s m (some y) h = go (eqb m 0) (eqb m 1)
  where
    go : (c d : Bool) → Short s (if c then some (record { marked = false; body = y }) else if d then some (record { marked = true; body = y }) else none)
    go true d = h
    go false true = h
    go false false = tt

pub status_short : (s : List ℕ) → Short s (decode s)
unfolding decode
status_short s = go (ltb (length s) 2)
  where
    go : (c : Bool) → Short s (if c then none else marking (get_or s 1 0) (decode_body kinds s))
    go true = tt
    go false = marked s (get_or s 1 0) (decode_body kinds s) (all_short kinds kinds_short s)
