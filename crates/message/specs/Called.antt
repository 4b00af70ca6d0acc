-- What `exit_message` answers its C callers and leaves in the cell that they lend, and what the code shows at each way out.
use Rattle.std.specs.Prelude.{if◌then◌else◌, ◌≡◌, refl, Bool, ◌&&◌, List, [], ◌∷◌, ◌++◌, ℕ, zero, suc, ◌≤◌, ◌<◌, leb, length, take, drop}
use Rattle.std.proofs.Common.{ap, ◌∙◌, append_assoc, arith, not-suc-le-zero, le_of_suc-le-suc, le-leb, take-append-drop, length-take-le}
use Rattle.std.proofs.lemmas.Bool.{lt-leb}
use Rattle.machine.specs.Message.{message}
use Rattle.message.specs.Answers.{MessageAsks, MessageWritten}

-- The cell has at least 127 bytes and the name at most 28.
unfoldable pub message_fits : (cell name : List ℕ) → Bool
message_fits cell name = leb 127 (length cell) && leb (length name) 28

-- The message's length. Where the lengths do not fit, the refusal's number is 2, which is a length too: 256 + 2 is none.
unfoldable pub message_answer : (cell name : List ℕ) → ℕ → List ℕ → ℕ
message_answer cell name pid status = if message_fits cell name then length (message name pid status) else 258

-- The message, and behind it what the cell held. Nothing is written where the lengths do not fit.
unfoldable pub message_bytes : (cell name : List ℕ) → ℕ → List ℕ → List ℕ
message_bytes cell name pid status = if message_fits cell name then message name pid status ++ drop (length (message name pid status)) cell else cell

-- The answer, and the final bytes of the cell. An answer up to 127 is a length, and no other is.
pub record MessageAnswers (cell cell' name : List ℕ) (pid : ℕ) (status : List ℕ) (r : ℕ) : Type 0 where
  pub answer : r ≡ message_answer cell name pid status
  pub bytes : cell' ≡ message_bytes cell name pid status
  pub told : leb r 127 ≡ message_fits cell name

-- what lay behind the message, in the part that was lent on and behind that
behind : (n m : ℕ) (xs : List ℕ) → n ≤ m → drop n (take m xs) ++ drop m xs ≡ drop n xs
behind zero m xs h = take-append-drop m xs
behind (suc n) zero xs h = absurd (not-suc-le-zero h)
behind (suc n) (suc m) [] h = refl
behind (suc n) (suc m) (x ∷ xs) h = behind n m xs (le_of_suc-le-suc h)

-- the part that is lent on is a cell
pub part_fits : (cell name : List ℕ) → 127 ≤ length cell → length name ≤ 28 → MessageAsks (take 127 cell) name
part_fits cell name h l = record { cell_long = length-take-le 127 cell h; name_fits = l }

-- a short cell
pub message-short : {cell name : List ℕ} {pid : ℕ} {status : List ℕ} → length cell < 127 → MessageAnswers cell cell name pid status 258
unfolding message_fits message_answer message_bytes
message-short {cell} h = let e = lt-leb 127 (length cell) h in record { answer = rw e; bytes = rw e; told = rw e }

-- a long name
pub message-named : {cell name : List ℕ} {pid : ℕ} {status : List ℕ} → 127 ≤ length cell → 28 < length name → MessageAnswers cell cell name pid status 258
unfolding message_fits message_answer message_bytes
message-named {cell} {name} h l =
    let e = le-leb 127 (length cell) h in
    let d = lt-leb (length name) 28 l in
    record { answer = rw (e, d); bytes = rw (e, d); told = rw (e, d) }

-- the message, in the first 127 bytes
pub message-done : {cell part name : List ℕ} {pid : ℕ} {status : List ℕ} {r : ℕ} → 127 ≤ length cell → length name ≤ 28
    → MessageWritten (take 127 cell) part name pid status r → MessageAnswers cell (part ++ drop 127 cell) name pid status r
unfolding message_fits message_answer message_bytes
message-done {cell} {part} {name} {pid} {status} {r} h l w =
    let e = le-leb 127 (length cell) h in
    let d = le-leb (length name) 28 l in
    let m : List ℕ = message name pid status in
    record {
      answer = rw (e, d) w.answer;
      bytes =
          rw (e, d)
          (ap (λ (p : List ℕ). p ++ drop 127 cell) w.bytes
          ∙ append_assoc m (drop (length m) (take 127 cell)) (drop 127 cell)
          ∙ ap (λ (t : List ℕ). m ++ t) (behind (length m) 127 cell (omega (arith, w.answer, w.within))));
      told = rw (e, d) (le-leb r 127 w.within);
    }
