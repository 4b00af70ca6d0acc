-- The step that the bytes written are.
use Rattle.std.specs.Prelude.{if◌then◌else◌, ◌≡◌, ◌≢◌, refl, Bool, true, false, length, List, [], ◌∷◌, ℕ, ◌+◌, ◌-◌, ◌^◌, ◌≤◌, ◌<◌, Some, None, unwrap_or, ltb, eqb, ◌&&◌}
use Rattle.std.specs.Prelude as rust
use Rattle.std.specs.Cmp.Lexicographic.{pointwise}
use Rattle.std.proofs.Common.{sym, ap, ◌∙◌, arith, lt-ltb, le-ltb, length-append, take_at, drop_at}
use Rattle.std.proofs.Math.Option.{Option, none, some}
use Rattle.std.proofs.Math.ListN.{take, drop, length-drop}
use Rattle.machine.specs.Basics.{same, ascii}
use Rattle.machine.specs.Step.{Step, Body, kinds}
use Rattle.machine.specs.Bytes.{marking, decode}
use Rattle.machine.specs.Parse.{first_word, after_space, bytes_in, fields_in, parse_body, step_with, parse_line}
use Rattle.parse.specs.declared.Fields.TheVariants.{Numbers, Bytes}
use Rattle.parse.specs.declared.Kind.{Kind}
use Rattle.parse.specs.Kinds.{number, word_of, IsNoWord, form_of, IsOfForm, body-kind, body-other}
use Rattle.parse.specs.Fields.{exactly}
use Rattle.parse.specs.Puts.{number_bytes, text_bytes, Put}
use Rattle.parse.specs.Steps.{decodes, Stepped, numbers-step, no-numbers-step, text-step}

-- A line without its mark, and room for its step bytes.
pub record Asks (line out : List ℕ) : Type 0 where
  pub short : length line ≤ 4096
  pub room : 4128 ≤ length out

-- The first r bytes are the bytes of the step s, none where there is no step; the others stay.
pub record Parsed (s : Option Step) (out out' : List ℕ) (r : ℕ) : Type 0 where
  pub step : decode (take r out') ≡ s
  pub none_put : s ≡ none → r ≡ 0
  pub fits : r ≤ length out'
  pub long : length out' ≡ length out
  pub rest : drop r out' ≡ drop r out

-- There is no step and nothing is written, or so many bytes are those of the step.
abbrev pub IsParsed : Option Step → List ℕ → List ℕ → rust.Option ℕ → Type 0
IsParsed s out out' None = (s ≡ none) × (out' ≡ out)
IsParsed s out out' (Some r) = (s ≢ none) × Parsed s out out' r

-- No bytes stand for no step.
pub parsed-or : (s : Option Step) (out out' : List ℕ) (r : rust.Option ℕ) → IsParsed s out out' r → Parsed s out out' (unwrap_or r 0)
unfolding decode
parsed-or s out out' None h =
    record { step = sym h.0; none_put = λ q. refl; fits = omega arith; long = ap length h.1; rest = h.1 }
parsed-or s out out' (Some r) h = h.1

-- The mark as a byte.
abbrev pub bit : Bool → ℕ
bit b = if b then 1 else 0

marks : (b : Bool) (o : Option Body) → marking (bit b) o ≡ step_with b o
unfolding marking step_with
marks true none = refl
marks true (some x) = refl
marks false none = refl
marks false (some x) = refl

no-step : (b : Bool) (o : Option Body) → o ≡ none → step_with b o ≡ none
unfolding step_with
no-step b o e = rw e

some-step : (b : Bool) (o : Option Body) (x : Body) → o ≡ some x → step_with b o ≢ none
unfolding step_with
some-step b o x e h = let y : Step = record { marked = b; body = x } in let q : ◌≡◌ {A = Option Step} (some y) none = sym (ap (step_with b) e) ∙ h in (cc)

-- `body`: no kind, other than its numbers, numbers, and a byte string.
module _ (b : Bool) (line out : List ℕ) where
  pub body-none : IsNoWord (first_word line) → IsParsed (step_with b (parse_body kinds line)) out out None
  body-none h = (no-step b (parse_body kinds line) (body-other line h), refl)

  module _ (k : Kind) (w : first_word line ≡ word_of k) where
    stepped : {out' bs : List ℕ} {r : ℕ} → Stepped (form_of kinds (number k)) (after_space line) (number k ∷ bit b ∷ bs)
        → Put (number k ∷ bit b ∷ bs) out out' r
        → IsParsed (step_with b (parse_body kinds line)) out out' (Some r)
    stepped {out'} {bs} {r} s p =
        let bytes : List ℕ = number k ∷ bit b ∷ bs in
        let q : parse_body kinds line ≡ some s.body = body-kind line k w ∙ s.parsed in
        let n : step_with b (parse_body kinds line) ≢ none = some-step b (parse_body kinds line) s.body q in
        let d : decode bytes ≡ step_with b (parse_body kinds line) =
        decodes (number k) (bit b) bs ∙ ap (marking (bit b)) s.decoded ∙ marks b (some s.body) ∙ ap (step_with b) (sym q) in
        let l : length out' ≡ length out = ap length p.held ∙ length-append bytes (drop r out) ∙ omega (arith, length-drop r out, p.size, p.fits) in (
          n,
          record {
            step = rw (p.held, take_at bytes (drop r out) r (sym p.size)) d;
            none_put = λ e. absurd (n e);
            fits = omega (arith, p.fits);
            long = l;
            rest = rw p.held (drop_at bytes (drop r out) r (sym p.size));
          },
        )

    pub body-unread : (n : ℕ) → IsOfForm (Numbers n) (form_of kinds (number k)) → exactly n (fields_in (after_space line)) ≡ none
        → IsParsed (step_with b (parse_body kinds line)) out out None
    body-unread n t e =
        (no-step b (parse_body kinds line) (body-kind line k w ∙ no-numbers-step (form_of kinds (number k)) n (after_space line) t e), refl)

    pub body-numbers : (n : ℕ) {xs out' : List ℕ} {r : ℕ} → IsOfForm (Numbers n) (form_of kinds (number k))
        → exactly n (fields_in (after_space line)) ≡ some xs
        → Put (number_bytes (number k) (bit b) xs) out out' r
        → IsParsed (step_with b (parse_body kinds line)) out out' (Some r)
    unfolding number_bytes
    body-numbers n {xs} t e p = stepped (numbers-step (form_of kinds (number k)) (number k) (bit b) n xs (after_space line) t e) p

    pub body-text : {text out' : List ℕ} {r : ℕ} → IsOfForm Bytes (form_of kinds (number k)) → bytes_in (after_space line) ≡ text → length text < 2 ^ 32
        → Put (text_bytes (number k) (bit b) text) out out' r
        → IsParsed (step_with b (parse_body kinds line)) out out' (Some r)
    unfolding text_bytes
    body-text {text} t e h p = stepped (text-step (form_of kinds (number k)) (number k) (bit b) text (after_space line) t e h) p

-- Two tests of two lists of bytes.
same-pointwise : (xs ys : List ℕ) → pointwise eqb xs ys ≡ same xs ys
unfolding same
same-pointwise [] [] = refl
same-pointwise [] (y ∷ ys) = refl
same-pointwise (x ∷ xs) [] = refl
same-pointwise (x ∷ xs) (y ∷ ys) = ap (λ (c : Bool). eqb x y && c) (same-pointwise xs ys)

-- The step of a whole line: too long, marked, and not marked.
pub parsed-long : (line : List ℕ) {out : List ℕ} → 4096 < length line → IsParsed (parse_line line) out out None
unfolding parse_line
parsed-long line h = (rw (lt-ltb 4096 (length line) h), refl)

module _ (line out out' : List ℕ) (r : rust.Option ℕ) (h : length line ≤ 4096) where
  pub parsed-marked : pointwise eqb (take 2 line) (105 ∷ 32 ∷ []) ≡ true → IsParsed (step_with true (parse_body kinds (drop 2 line))) out out' r
      → IsParsed (parse_line line) out out' r
  unfolding parse_line ascii
  parsed-marked e p = rw (le-ltb 4096 (length line) h, ← same-pointwise (take 2 line) (105 ∷ 32 ∷ []), e) p

  pub parsed-plain : pointwise eqb (take 2 line) (105 ∷ 32 ∷ []) ≡ false → IsParsed (step_with false (parse_body kinds line)) out out' r
      → IsParsed (parse_line line) out out' r
  unfolding parse_line ascii
  parsed-plain e p = rw (le-ltb 4096 (length line) h, ← same-pointwise (take 2 line) (105 ∷ 32 ∷ []), e) p
