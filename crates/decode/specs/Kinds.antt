-- The kind that the first byte names, and what the bytes are as a step of it.
use Rattle.std.specs.Prelude.{if◌then◌else◌, ◌≡◌, refl, Bool, true, false, ◌&&◌, List, [], ◌∷◌, ℕ, ◌+◌, ◌*◌, T, eqb, length, get_or}
use Rattle.std.proofs.Common.{◌∙◌, arith, eq-eqb, ne_eqb, le-leb}
use Rattle.std.proofs.Math.Option.{Option, none, some}
use Rattle.memory.specs.Le.{le}
use Rattle.machine.specs.Step.{Body, Form, Takes, takes_numbers, takes_bytes, Kind, kinds, fill}
use Rattle.machine.specs.Bytes.{numbers_at, decode_form, decode_body}
use Rattle.decode.specs.Fields.{IsString, NoString}

-- Both of two tests pass.
pub and_left : (a b : Bool) → T (a && b) → T a
and_left true b t = tt
and_left false b t = t

pub and_right : (a b : Bool) → T (a && b) → T b
and_right true b t = t
and_right false b t = absurd t

-- What fields the kind with number k has.
unfoldable pub form_for : List Kind → ℕ → Option Form
form_for [] k = none
form_for (x ∷ xs) k = if eqb x.number k then some x.form else form_for xs k

-- What the bytes ask as a step of that form.
unfoldable as_form : Option Form → List ℕ → Option Body
as_form none b = none
as_form (some f) b = decode_form f b

by-form : (ks : List Kind) (b : List ℕ) → decode_body ks b ≡ as_form (form_for ks (get_or b 0 0)) b
unfolding decode_body form_for as_form
by-form [] b = refl
by-form (x ∷ xs) b = go (eqb x.number (get_or b 0 0)) (by-form xs b)
  where
    go
        : (c : Bool)
        → decode_body xs b ≡ as_form (form_for xs (get_or b 0 0)) b
        → (elim c [ true ↦ decode_form x.form b | false ↦ decode_body xs b ])
        ≡ as_form (if c then some x.form else form_for xs (get_or b 0 0)) b
    go true r = refl
    go false r = r

-- A kind that takes n numbers, which fit or do not.
pub numbers-body : (b : List ℕ) {k : ℕ} → get_or b 0 0 ≡ k → (n : ℕ) (f : Takes n) → form_for kinds k ≡ some (takes_numbers n f) → length b ≡ 2 + 8 * n → decode_body kinds b ≡ fill n f (numbers_at n b 2)
unfolding as_form decode_form
numbers-body b {k} e n f g l = by-form kinds b ∙ rw (e, g, eq-eqb (length b) (2 + 8 * n) l)

pub numbers-unfit : (b : List ℕ) {k : ℕ} → get_or b 0 0 ≡ k → (n : ℕ) (f : Takes n) → form_for kinds k ≡ some (takes_numbers n f) → (length b ≡ 2 + 8 * n → ⊥) → decode_body kinds b ≡ none
unfolding as_form decode_form
numbers-unfit b {k} e n f g l = by-form kinds b ∙ rw (e, g, ne_eqb (length b) (2 + 8 * n) l)

-- A kind that takes a byte string, which fits or does not.
pub string_body : (b : List ℕ) {k : ℕ} → get_or b 0 0 ≡ k → (f : List ℕ → Body) → form_for kinds k ≡ some (takes_bytes f) → {s : List ℕ} → IsString b s → decode_body kinds b ≡ some (f s)
unfolding as_form decode_form
string_body b {k} e f g {s} h =
    by-form kinds b
    ∙ rw (e, g, h.value, le-leb 6 (length b) (omega (arith, h.exact)), eq-eqb (length b) (6 + le 4 b 2) h.exact)

pub string_unfit : (b : List ℕ) {k : ℕ} → get_or b 0 0 ≡ k → (f : List ℕ → Body) → form_for kinds k ≡ some (takes_bytes f) → NoString b → decode_body kinds b ≡ none
unfolding as_form decode_form
string_unfit b {k} e f g h = by-form kinds b ∙ rw (e, g, h.unfit)

-- No kind has the number.
pub no-kind : (b : List ℕ) {k : ℕ} → get_or b 0 0 ≡ k → form_for kinds k ≡ none → decode_body kinds b ≡ none
unfolding as_form
no-kind b {k} e g = by-form kinds b ∙ rw (e, g)
