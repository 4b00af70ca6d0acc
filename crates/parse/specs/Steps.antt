-- The body that the bytes of a step's fields are.
use Rattle.std.specs.Prelude.{if◌then◌else◌, ◌≡◌, refl, Bool, true, false, List, [], ◌∷◌, ℕ, zero, suc, ◌+◌, ◌*◌, ◌^◌, ◌<◌, eqb, length, get_or}
use Rattle.std.proofs.Common.{sym, ap, ◌∙◌, arith, eq-eqb, eqb-true, le-ltb}
use Rattle.std.proofs.Math.Option.{Option, none, some}
use Rattle.std.proofs.lemmas.Bool.{eqb-false}
use Rattle.machine.specs.Step.{Body, Takes, Form, takes_numbers, takes_bytes, Kind, kinds, fill}
use Rattle.machine.specs.Bytes.{numbers_at, decode_form, decode_body, marking, decode}
use Rattle.machine.proofs.BytesLaws.{length_fields, fields_back, bytes-form}
use Rattle.machine.specs.Parse.{fields_in, bytes_in, fill_in, body_in}
use Rattle.parse.specs.declared.Fields.TheVariants.{Numbers, Bytes}
use Rattle.parse.specs.Kinds.{form_of, body_as, IsOfForm}
use Rattle.parse.specs.Fields.{exactly, fields-below}
use Rattle.parse.specs.Puts.{number_bytes, text_bytes}

-- The body that a form reads in the bytes.
unfoldable pub decode_as : Option Form → List ℕ → Option Body
decode_as none s = none
decode_as (some f) s = decode_form f s

decodes_as : (ks : List Kind) (s : List ℕ) → decode_body ks s ≡ decode_as (form_of ks (get_or s 0 0)) s
unfolding decode_body decode_as form_of
decodes_as [] s = refl
decodes_as (k ∷ ks) s = go (eqb k.number (get_or s 0 0)) (decodes_as ks s)
  where
    go : (c : Bool) → decode_body ks s ≡ decode_as (form_of ks (get_or s 0 0)) s
        → (elim c [ true ↦ decode_form k.form s | false ↦ decode_body ks s ])
        ≡ decode_as (if c then some k.form else form_of ks (get_or s 0 0)) s
    go true r = refl
    go false r = r

pub decodes : (kind mark : ℕ) (bs : List ℕ) → decode (kind ∷ mark ∷ bs) ≡ marking mark (decode_as (form_of kinds kind) (kind ∷ mark ∷ bs))
unfolding decode
decodes kind mark bs =
    rw (le-ltb (suc (suc (length bs))) 2 (omega arith)) (ap (marking mark) (decodes_as kinds (kind ∷ mark ∷ bs)))

-- Numbers in their bytes.
exactly-some : (n : ℕ) (o : Option (List ℕ)) (xs : List ℕ) → exactly n o ≡ some xs → (o ≡ some xs) × (length xs ≡ n)
unfolding exactly
exactly-some n none xs e = let z : ◌≡◌ {A = ℕ} 0 1 = cc in absurd (omega arith)
exactly-some n (some ys) xs e = go (eqb (length ys) n) refl e
  where
    go : (c : Bool) → eqb (length ys) n ≡ c → (if c then some ys else none) ≡ some xs → (some ys ≡ some xs) × (length xs ≡ n)
    go true t q = let r : ys ≡ xs = cc in (q, rw (← r) (eqb-true (length ys) n t))
    go false t q = let z : ◌≡◌ {A = ℕ} 0 1 = cc in absurd (omega arith)

-- As many numbers as a form takes make a body.
record Made (n : ℕ) (f : Takes n) (xs : List ℕ) : Type 0 where
  pub body : Body
  pub filled : fill n f xs ≡ some body

fill-all : (n : ℕ) (f : Takes n) (xs : List ℕ) → length xs ≡ n → Made n f xs
unfolding fill
fill-all zero f [] h = record { body = f; filled = refl }
fill-all zero f (x ∷ xs) h = absurd (omega arith)
fill-all (suc n) f [] h = absurd (omega arith)
fill-all (suc n) f (x ∷ xs) h = let y : Made n (f x) xs = fill-all n (f x) xs (omega arith) in record { body = y.body; filled = y.filled }

-- Any other number of them makes none.
fill-other : (n : ℕ) (f : Takes n) (xs : List ℕ) → (length xs ≡ n → ⊥) → fill n f xs ≡ none
unfolding fill
fill-other zero f [] h = absurd (h refl)
fill-other zero f (x ∷ xs) h = refl
fill-other (suc n) f [] h = refl
fill-other (suc n) f (x ∷ xs) h = fill-other n (f x) xs (λ e. h (ap suc e))

exactly-none : (n : ℕ) (f : Takes n) (o : Option (List ℕ)) → exactly n o ≡ none → fill_in n f o ≡ none
unfolding exactly fill_in
exactly-none n f none e = refl
exactly-none n f (some ys) e = go (eqb (length ys) n) refl e
  where
    go : (c : Bool) → eqb (length ys) n ≡ c → (if c then some ys else none) ≡ none → fill n f ys ≡ none
    go true t q = let z : ◌≡◌ {A = ℕ} 0 1 = cc in absurd (omega arith)
    go false t q = fill-other n f ys (eqb-false (length ys) n t)

-- The bytes are those of the body that a form has with what follows the word.
pub record Stepped (o : Option Form) (rest : Option (List ℕ)) (bytes : List ℕ) : Type 0 where
  pub body : Body
  pub parsed : body_as o rest ≡ some body
  pub decoded : decode_as o bytes ≡ some body

pub numbers-step : (o : Option Form) (kind mark n : ℕ) (xs : List ℕ) (rest : Option (List ℕ)) → IsOfForm (Numbers n) o
    → exactly n (fields_in rest) ≡ some xs
    → Stepped o rest (number_bytes kind mark xs)
unfolding decode_as body_as body_in decode_form fill_in number_bytes
numbers-step none kind mark n xs rest t e = absurd t
numbers-step (some (takes_bytes f)) kind mark n xs rest t e = absurd t
numbers-step (some (takes_numbers m f)) kind mark n xs rest t e =
    let p : (fields_in rest ≡ some xs) × (length xs ≡ n) = exactly-some n (fields_in rest) xs e in
    let q : length xs ≡ m = p.1 ∙ sym t.0 in
    let b : numbers_at m (number_bytes kind mark xs) 2 ≡ xs = rw (← q) (fields_back kind mark xs (fields-below rest xs p.0)) in
    let y : Made m f xs = fill-all m f xs q in
    record {
      body = y.body;
      parsed = ap (fill_in m f) p.0 ∙ y.filled;
      decoded = rw (eq-eqb (length (number_bytes kind mark xs)) (2 + 8 * m) (omega (arith, length_fields xs)), b) y.filled;
    }

pub no-numbers-step : (o : Option Form) (n : ℕ) (rest : Option (List ℕ)) → IsOfForm (Numbers n) o → exactly n (fields_in rest) ≡ none → body_as o rest ≡ none
unfolding body_as body_in
no-numbers-step none n rest t e = absurd t
no-numbers-step (some (takes_bytes f)) n rest t e = absurd t
no-numbers-step (some (takes_numbers m f)) n rest t e = exactly-none m f (fields_in rest) (rw t.0 e)

-- A byte string in its bytes.
pub text-step : (o : Option Form) (kind mark : ℕ) (text : List ℕ) (rest : Option (List ℕ)) → IsOfForm Bytes o → bytes_in rest ≡ text → length text < 2 ^ 32
    → Stepped o rest (text_bytes kind mark text)
unfolding decode_as body_as body_in text_bytes
text-step none kind mark text rest t e h = absurd t
text-step (some (takes_bytes f)) kind mark text rest t e h = record { body = f text; parsed = rw e; decoded = bytes-form kind mark text f h }
text-step (some (takes_numbers m f)) kind mark text rest t e h = absurd t
