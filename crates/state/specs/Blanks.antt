-- What has a link, an object and a condition, and what has none.
use Rattle.std.specs.Prelude.{◌≡◌, true, ◌⊎◌, ℕ}
use Rattle.std.proofs.Common.{sym, ⊎_elim, ne_eqb}
use Rattle.std.proofs.lemmas.Bool.{false≢true}
use Rattle.state.specs.WellFormed.{is_linked, Blank, NoLink}

-- A call with an object and a condition, with an object alone, and with neither.
pub blank-sleep : {k o c : ℕ} → (k ≡ 1) ⊎ (k ≡ 2) → Blank k o c
blank-sleep = ⊎_elim one two
  where
    one : {k o c : ℕ} → k ≡ 1 → Blank k o c
    one e = record { object = λ d. absurd (false≢true (sym (rw e at d))); condition = λ d. absurd (false≢true (sym (rw e at d))) }

    two : {k o c : ℕ} → k ≡ 2 → Blank k o c
    two e = record { object = λ d. absurd (false≢true (sym (rw e at d))); condition = λ d. absurd (false≢true (sym (rw e at d))) }

pub blank-lock : {k o c : ℕ} → k ≡ 3 → c ≡ 0 → Blank k o c
blank-lock e h = record { object = λ d. absurd (false≢true (sym (rw e at d))); condition = λ _. h }

pub blank-both : {k o c : ℕ} → o ≡ 0 → c ≡ 0 → Blank k o c
blank-both o c = record { object = λ _. o; condition = λ _. c }

-- What a call has not.
pub no-condition : {k o c : ℕ} → (k ≡ 1 → ⊥) → (k ≡ 2 → ⊥) → Blank k o c → c ≡ 0
no-condition {k} a b h = h.condition (rw (ne_eqb k 1 a, ne_eqb k 2 b))

pub no-object : {k o c : ℕ} → (k ≡ 1 → ⊥) → (k ≡ 2 → ⊥) → (k ≡ 3 → ⊥) → Blank k o c → o ≡ 0
no-object {k} a b c h = h.object (rw (ne_eqb k 1 a, ne_eqb k 2 b, ne_eqb k 3 c))

-- Who has a link, and who has none.
pub is_linked-ready : (s k : ℕ) → s ≡ 2 → is_linked s k ≡ true
is_linked-ready s k e = rw e

pub is_linked-waits : (s k : ℕ) → s ≡ 3 → k ≡ 3 → is_linked s k ≡ true
is_linked-waits s k e f = rw (e, f)

pub linked-ready : {s k n : ℕ} → s ≡ 2 → NoLink s k n
linked-ready e = record { zero = λ d. absurd (false≢true (sym (rw e at d))) }

pub linked-waits : {s k n : ℕ} → s ≡ 3 → k ≡ 3 → NoLink s k n
linked-waits e f = record { zero = λ d. absurd (false≢true (sym (rw (e, f) at d))) }

pub no-link : {s k n : ℕ} → (s ≡ 2 → ⊥) → (s ≡ 3 → ⊥) → NoLink s k n → n ≡ 0
no-link {s} {k} a b h = h.zero (rw (ne_eqb s 2 a, ne_eqb s 3 b))

pub no-wait : {s k n : ℕ} → s ≡ 3 → (k ≡ 3 → ⊥) → NoLink s k n → n ≡ 0
no-wait {s} {k} e f h = h.zero (rw (e, ne_eqb k 3 f))
