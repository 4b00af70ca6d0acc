-- A reply in words.
use Rattle.std.specs.Prelude.{◌≡◌, true, false, ℕ, length, Result, Ok, Err}
use Rattle.std.proofs.Common.{sym, ap, ◌∙◌}
use Rattle.machine.specs.Outcome as machine
use Rattle.machine.specs.Outcome.{Answer, answer, refused}
use Rattle.outcome.specs.declared.Reply.{Reply}
use Rattle.outcome.specs.declared.Reply.TheVariants.{Pid, Run, RunChild, Done, Asleep, Yes, No, Fired, Exit, Child, Idle, End}
use Rattle.outcome.specs.declared.Refusal.{Refusal}
use Rattle.outcome.specs.Means.{number as refusal_number, told}
use Rattle.step.specs.declared.Words.{Words}

-- The number of an answer: 32 and up, above every number of the table.
unfoldable pub answer_number : Answer → ℕ
answer_number Answer.done = 32
answer_number Answer.asleep = 33
answer_number (Answer.yes_no true) = 34
answer_number (Answer.yes_no false) = 35
answer_number Answer.idle = 36
answer_number Answer.end = 37
answer_number (Answer.pid n) = 38
answer_number (Answer.run n) = 39
answer_number (Answer.run_child n child message) = 40
answer_number (Answer.fired f stuck) = 41
answer_number (Answer.exit n status) = 42
answer_number (Answer.child n message) = 43

-- Its numbers, in the order in which the listing prints them; 0 where there is none.
unfoldable pub first_of : Answer → ℕ
first_of Answer.done = 0
first_of Answer.asleep = 0
first_of (Answer.yes_no b) = 0
first_of Answer.idle = 0
first_of Answer.end = 0
first_of (Answer.pid n) = n
first_of (Answer.run n) = n
first_of (Answer.run_child n child message) = n
first_of (Answer.fired f stuck) = f
first_of (Answer.exit n status) = n
first_of (Answer.child n message) = n

unfoldable pub second_of : Answer → ℕ
second_of Answer.done = 0
second_of Answer.asleep = 0
second_of (Answer.yes_no b) = 0
second_of Answer.idle = 0
second_of Answer.end = 0
second_of (Answer.pid n) = 0
second_of (Answer.run n) = 0
second_of (Answer.run_child n child message) = child
second_of (Answer.fired f stuck) = stuck
second_of (Answer.exit n status) = 0
second_of (Answer.child n message) = 0

-- The number of a reply: of a refusal it is the table's.
unfoldable pub number_of : machine.Reply → ℕ
number_of (answer a) = answer_number a
number_of (refused n) = n

-- The three words that are lent for an answer.
pub record Lent : Type 0 where
  pub first : ℕ
  pub second : ℕ
  pub length : ℕ

abbrev pub lent : (first second length : ℕ) → Lent
lent f g l = record { first = f; second = g; length = l }

-- An answer is written into them, with the length of the message that it tells; a refusal leaves them.
unfoldable pub words_after : machine.Reply → Lent → Lent
words_after (answer a) w = lent (first_of a) (second_of a) (length (told (answer a)))
words_after (refused n) w = w

-- The words of each case that the code answers.
abbrev pub the_words : (number first second length : ℕ) → Words
the_words n f g l = record { number = n; first = f; second = g; length = l }

abbrev pub words_in : Result Reply Refusal → Words
words_in (Ok (Pid n)) = the_words 38 n 0 0
words_in (Ok (Run n)) = the_words 39 n 0 0
words_in (Ok (RunChild n c l)) = the_words 40 n c l
words_in (Ok Done) = the_words 32 0 0 0
words_in (Ok Asleep) = the_words 33 0 0 0
words_in (Ok Yes) = the_words 34 0 0 0
words_in (Ok No) = the_words 35 0 0 0
words_in (Ok (Fired f k)) = the_words 41 f k 0
words_in (Ok (Exit n)) = the_words 42 n 0 0
words_in (Ok (Child n l)) = the_words 43 n 0 l
words_in (Ok Idle) = the_words 36 0 0 0
words_in (Ok End) = the_words 37 0 0 0
words_in (Err e) = the_words (refusal_number e) 0 0 0

pub record WordsAre (r : Result Reply Refusal) (w : Words) : Type 0 where
  pub words : w ≡ words_in r

pub words_are : {r v : Result Reply Refusal} {w : Words} → r ≡ v → w ≡ words_in v → WordsAre r w
words_are e h = record { words = h ∙ ap words_in (sym e) }
