-- A run of the exported steps: one after another, from bytes that hold them to bytes that hold their answers.
use Rattle.std.specs.Prelude.{if◌then◌else◌, ◌≡◌, List, [], ◌∷◌, ◌++◌, ℕ, zero, suc, ◌+◌, ◌≤◌, ◌<◌, ltb, length, take, drop}
use Rattle.memory.specs.Le.{le}
use Rattle.step.specs.Words.{Lent, lent}
use Rattle.step.specs.Exported.{Exported}

-- Where the first step in t ends: behind its length, of 4 bytes, and as many bytes as that says. With fewer than 4 bytes in t it is behind t.
abbrev pub first_end : List ℕ → ℕ
first_end t = 4 + le 4 t 0

-- The bytes of the whole steps in t, up to the first that is not whole; at most k.
unfoldable pub steps_up_to : ℕ → List ℕ → List (List ℕ)
steps_up_to zero t = []
steps_up_to (suc k) t =
    if ltb (length t) (first_end t)
    then []
    else (take (le 4 t 0) (drop 4 t) ∷ steps_up_to k (drop (first_end t) t))

-- All of them: there are no more than bytes.
abbrev pub steps_in : List ℕ → List (List ℕ)
steps_in t = steps_up_to (length t) t

-- The three words of an answer in its record r: behind the number.
abbrev pub words_at : List ℕ → Lent
words_at r = lent (le 8 r 8) (le 8 r 16) (le 8 r 24)

-- The exported step on the state s and the step bytes b, with the record r for its answer: the number, the three words, the message buffer.
pub record OneRan (s s' b r r' : List ℕ) : Type 0 where
  pub step : Exported s s' b (drop 32 r) (drop 32 r') (words_at r) (words_at r') (le 8 r' 0)
  pub long : length r' ≡ length r

-- The exported step on each of a list of step bytes in turn, with records of 160 bytes in a: it took n of them, and the state s and the
-- answers a became s' and a'. It ends with the steps, or before a step for whose record there is no room.
pub data Ran : (steps : List (List ℕ)) (s s' a a' : List ℕ) (n : ℕ) → Type 0 where
  ended : {s a : List ℕ} → Ran [] s s a a 0
  full : {b : List ℕ} {bs : List (List ℕ)} {s a : List ℕ} → length a < 160 → Ran (b ∷ bs) s s a a 0
  onward
      : {b : List ℕ} {bs : List (List ℕ)} {s s₁ s₂ a r a₂ : List ℕ} {n : ℕ}
      → 160 ≤ length a
      → OneRan s s₁ b (take 160 a) r
      → Ran bs s₁ s₂ (drop 160 a) a₂ n
      → Ran (b ∷ bs) s s₂ a (r ++ a₂) (suc n)
