-- `parse::body` meets its contract: each return cites its law.
use Rattle.std.specs.Prelude.{◌≡◌, refl, List, [], ◌∷◌, ℕ, length, take}
use Rattle.std.proofs.Common.{sym, ap, ◌∙◌, arith, rules, length-take-le}
use Rattle.machine.specs.Step.{kinds}
use Rattle.machine.specs.Parse.{first_word, after_space, bytes_in}
use Rattle.parse.specs.Words.{rest-bytes, length-rest}
use Rattle.parse.specs.declared.Kind.{Kind}
use Rattle.parse.specs.declared.Fields.TheVariants.{Numbers}
use Rattle.parse.specs.Kinds.{number, form_of, IsOfForm, few, long-other}
use Rattle.parse.specs.Parsed.{body-none, body-unread, body-numbers, body-text}
use Rattle.parse.proofs.body.Goals as goal
use denote.Ref.{Bor}

pub returns-then-has_long_word : goal.returns-then-has_long_word
returns-then-has_long_word c =
    body-none _ c.args.line.now _ (long-other (first_word c.args.line.now) (c.has_long_word.ensures.0 (search rules)))

pub returns-in_err-kind : goal.returns-in_err-kind
returns-in_err-kind c =
    let n = c.in_err-kind.ensures.none in
    rw c.from_residual.ensures (body-none _ c.args.line.now _ (rw c.split.ensures.word at n))

pub put_string-requires : goal.put_string-requires
put_string-requires c =
    let line : List ℕ = c.args.line.now in
    let e : c.unwrap_or.result.now ≡ bytes_in (after_space line) =
    ap (λ (x : Bor (List ℕ)). x.now) c.unwrap_or.ensures ∙ rest-bytes c.split.result.1 _ refl ∙ ap bytes_in c.split.ensures.rest
    in
    rw e (record { room = omega (arith, length-rest line); short = omega (arith, length-rest line) })

-- Room for so many numbers has their length.
room : (k : Kind) (n : ℕ) → IsOfForm (Numbers n) (form_of kinds (number k)) → length {A = ℕ} (take {A = ℕ} n (0 ∷ 0 ∷ 0 ∷ 0 ∷ 0 ∷ 0 ∷ [])) ≡ n
room k n h = length-take-le n (0 ∷ 0 ∷ 0 ∷ 0 ∷ 0 ∷ 0 ∷ []) (omega (arith, few n (form_of kinds (number k)) h))

pub returns-in_err-read_numbers-in-Numbers : goal.returns-in_err-read_numbers-in-Numbers
returns-in_err-read_numbers-in-Numbers c =
    let word = c.in_ok-kind.ensures.found in
    let form = c.in-Numbers.ensures in
    let unread = c.in_err-read_numbers-in-Numbers.ensures.unread in
    rw c.from_residual-in_err-read_numbers-in-Numbers.ensures
    (body-unread _ c.args.line.now _ c.in_ok-kind.kind (rw c.split.ensures.word at word) c.in-Numbers.n form
    (rw (room c.in_ok-kind.kind c.in-Numbers.n form, c.split.ensures.rest) at unread))

pub returns-in-Bytes : goal.returns-in-Bytes
returns-in-Bytes c =
    let line : List ℕ = c.args.line.now in
    let word = c.in_ok-kind.ensures.found in
    let form = c.in-Bytes.ensures in
    let e : c.unwrap_or.result.now ≡ bytes_in (after_space line) =
    ap (λ (x : Bor (List ℕ)). x.now) c.unwrap_or.ensures ∙ rest-bytes c.split.result.1 _ refl ∙ ap bytes_in c.split.ensures.rest
    in
    body-text _ line _ c.in_ok-kind.kind (rw c.split.ensures.word at word) form (sym e)
    (rw e (omega (arith, length-rest line)))
    c.put_string.ensures

pub returns-in_ok-read_numbers-in-Numbers : goal.returns-in_ok-read_numbers-in-Numbers
returns-in_ok-read_numbers-in-Numbers c =
    let word = c.in_ok-kind.ensures.found in
    let form = c.in-Numbers.ensures in
    let read = c.in_ok-read_numbers-in-Numbers.ensures.read in
    body-numbers _ c.args.line.now _ c.in_ok-kind.kind (rw c.split.ensures.word at word) c.in-Numbers.n form
    (rw (room c.in_ok-kind.kind c.in-Numbers.n form, c.split.ensures.rest) at read)
    c.put_numbers.ensures
