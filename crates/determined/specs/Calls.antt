-- A call says the numbers that a record keeps of it, where those that it has not are 0; and a place says the state.
use Rattle.std.specs.Prelude.{◌≡◌, refl, ℕ, zero, suc, ◌+◌, ◌*◌, ◌≤◌, eqb}
use Rattle.std.proofs.Common.{sym, ap, ◌∙◌, arith}
use Rattle.machine.specs.Machine.{Resume, nothing, in_sleep, in_tsleep, in_qlock, in_wait}
use Rattle.state.specs.Abs.{is_set, resume_number, resume_of}
use Rattle.state.specs.WellFormed.{Blank}
use Rattle.lists.specs.Lists.{bit}

-- The object and the condition of a call, 0 where it has none.
abbrev object_of : Resume → ℕ
object_of nothing = 0
object_of (in_sleep r c) = r
object_of (in_tsleep r c) = r
object_of (in_qlock q) = q
object_of in_wait = 0

abbrev condition_of : Resume → ℕ
condition_of nothing = 0
condition_of (in_sleep r c) = c
condition_of (in_tsleep r c) = c
condition_of (in_qlock q) = 0
condition_of in_wait = 0

-- What a call says of the numbers that it was read from.
record Says (k o c : ℕ) (r : Resume) : Type 0 where
  kind : resume_number r ≡ k
  object : object_of r ≡ o
  condition : condition_of r ≡ c

-- Where they hold 0 for what the call has not, it says them all.
says : (k o c : ℕ) → k ≤ 4 → Blank k o c → Says k o c (resume_of k o c)
unfolding resume_of resume_number
says zero o c l b = record { kind = refl; object = sym (b.object refl); condition = sym (b.condition refl) }
says (suc zero) o c l b = record { kind = refl; object = refl; condition = refl }
says (suc (suc zero)) o c l b = record { kind = refl; object = refl; condition = refl }
says (suc (suc (suc zero))) o c l b = record { kind = refl; object = refl; condition = sym (b.condition refl) }
says (suc (suc (suc (suc zero)))) o c l b = record { kind = refl; object = sym (b.object refl); condition = sym (b.condition refl) }
says (suc (suc (suc (suc (suc k))))) o c l b = absurd (omega arith)

-- The numbers of two calls are the same, where the call is.
pub record CallSame (k o c k' o' c' : ℕ) : Type 0 where
  pub kind : k' ≡ k
  pub object : o' ≡ o
  pub condition : c' ≡ c

-- It is enough that both hold 0 for what the call has not.
pub call_same
    : {k o c k' o' c' : ℕ} → k ≤ 4 → k' ≤ 4 → Blank k o c → Blank k' o' c' → resume_of k' o' c' ≡ resume_of k o c → CallSame k o c k' o' c'
call_same {k} {o} {c} {k'} {o'} {c'} l l' b b' e =
    let s : Says k o c (resume_of k o c) = says k o c l b in
    let s' : Says k' o' c' (resume_of k' o' c') = says k' o' c' l' b' in
    record {
      kind = sym s'.kind ∙ ap resume_number e ∙ s.kind;
      object = sym s'.object ∙ ap object_of e ∙ s.object;
      condition = sym s'.condition ∙ ap condition_of e ∙ s.condition;
    }

-- A state that is not 0 is 3 where it is neither 1 nor 2.
state-tests : (s : ℕ) → s ≤ 3 → s + (2 * bit (eqb s 1) + bit (eqb s 2)) ≡ 3 * bit (is_set s)
state-tests zero l = refl
state-tests (suc zero) l = refl
state-tests (suc (suc zero)) l = refl
state-tests (suc (suc (suc zero))) l = refl
state-tests (suc (suc (suc (suc s)))) l = absurd (omega arith)

-- So three tests of a state say the state.
pub state-same
    : (s s' : ℕ)
    → s ≤ 3
    → s' ≤ 3
    → bit (eqb s' 1) ≡ bit (eqb s 1)
    → bit (eqb s' 2) ≡ bit (eqb s 2)
    → bit (is_set s') ≡ bit (is_set s)
    → s' ≡ s
state-same s s' l l' a b c = omega (arith, state-tests s l, state-tests s' l')
