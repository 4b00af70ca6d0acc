-- An answer put into a buffer.
use Rattle.std.specs.Prelude.{◌≡◌, refl, List, [], ◌∷◌, ◌++◌, ℕ, ◌+◌, ◌≤◌, length, take, Result, Ok, Err}
use Rattle.std.proofs.Common.{sym, subst, arith, length-take, length-take-le}
use Rattle.machine.specs.Basics.{ascii}
use Rattle.machine.specs.Message.{decimal}
use Rattle.machine.specs.Outcome as machine
use Rattle.machine.specs.Print.{print_answer, print_reply}
use Rattle.outcome.specs.declared.Reply.{Reply}
use Rattle.outcome.specs.declared.Reply.TheVariants.{Pid, Run, RunChild, Done, Asleep, Yes, No, Fired, Exit, Child, Idle, End}
use Rattle.outcome.specs.declared.Refusal.{Refusal}
use Rattle.outcome.specs.Means.{number, means}
use Rattle.outcome.specs.Length.{length_of}
use Rattle.print.specs.Put.{Room, Put, put_as}

-- A word, a number, a space and a text.
abbrev pub with_text : (word : List ℕ) → ℕ → (text : List ℕ) → List ℕ
with_text word n text = word ++ decimal n ++ 32 ∷ [] ++ text

-- There is room for the answer, and the text is at least as long as the message that it tells.
pub record ReplyAsks (out : List ℕ) (at : ℕ) (reply : Result Reply Refusal) (text : List ℕ) : Type 0 where
  pub room : Room (52 + length text) out at
  pub fits : length_of reply ≤ length text

-- The answer as it is printed: the text is the status of an exit, and else the message buffer.
abbrev pub printed : Result Reply Refusal → List ℕ → List ℕ
printed reply text = print_reply (means reply text text)

-- The answer is put.
pub record Replied (out : List ℕ) (at : ℕ) (reply : Result Reply Refusal) (text out' : List ℕ) (r : ℕ) : Type 0 where
  pub put : Put (52 + length text) out at (printed reply text) out' r

-- a message is no longer than the text
part_fits : (l : ℕ) (text : List ℕ) → length (take l text) ≤ length text
part_fits l text = omega (arith, length-take l text)

-- The part of the text that is the message.
module _ {out : List ℕ} {at : ℕ} {reply : Reply} {text : List ℕ} (a : ReplyAsks out at (Ok reply) text) where
  pub run_child_part : {n c l : ℕ} → reply ≡ RunChild n c l → l ≡ length (take l text)
  run_child_part {l = l} e = sym (length-take-le l text (subst (λ (x : Reply). length_of (Ok x) ≤ length text) e a.fits))

  pub run_child-room : {n c l : ℕ} → reply ≡ RunChild n c l → Room (52 + length (take l text)) out at
  run_child-room {l = l} e = omega (arith, a.room, part_fits l text)

  pub child_part : {n l : ℕ} → reply ≡ Child n l → l ≡ length (take l text)
  child_part {l = l} e = sym (length-take-le l text (subst (λ (x : Reply). length_of (Ok x) ≤ length text) e a.fits))

  pub child-room : {n l : ℕ} → reply ≡ Child n l → Room (27 + length (take l text)) out at
  child-room {l = l} e = omega (arith, a.room, part_fits l text)

-- Each answer.
module _ {out : List ℕ} {at : ℕ} {reply : Reply} {text out' : List ℕ} {r : ℕ} where
  pub reply-pid : {n : ℕ} → reply ≡ Pid n → Put 24 out at (ascii "pid " ++ decimal n) out' r → Replied out at (Ok reply) text out' r
  unfolding print_reply print_answer means
  reply-pid e p = record { put = put_as p (rw e) (omega arith) }

  pub reply-run : {n : ℕ} → reply ≡ Run n → Put 24 out at (ascii "run " ++ decimal n) out' r → Replied out at (Ok reply) text out' r
  unfolding print_reply print_answer means
  reply-run e p = record { put = put_as p (rw e) (omega arith) }

  pub reply-run-child
      : {n c l : ℕ} → reply ≡ RunChild n c l
      → Put (52 + length (take l text)) out at (print_answer (machine.Answer.run_child n c (take l text))) out' r
      → Replied out at (Ok reply) text out' r
  unfolding print_reply means
  reply-run-child {l = l} e p = record { put = put_as p (rw e) (omega (arith, part_fits l text)) }

  pub reply-done : reply ≡ Done → Put 4 out at (ascii "done") out' r → Replied out at (Ok reply) text out' r
  unfolding print_reply print_answer means
  reply-done e p = record { put = put_as p (rw e) (omega arith) }

  pub reply-asleep : reply ≡ Asleep → Put 6 out at (ascii "asleep") out' r → Replied out at (Ok reply) text out' r
  unfolding print_reply print_answer means
  reply-asleep e p = record { put = put_as p (rw e) (omega arith) }

  pub reply-yes : reply ≡ Yes → Put 3 out at (ascii "yes") out' r → Replied out at (Ok reply) text out' r
  unfolding print_reply print_answer means
  reply-yes e p = record { put = put_as p (rw e) (omega arith) }

  pub reply-no : reply ≡ No → Put 2 out at (ascii "no") out' r → Replied out at (Ok reply) text out' r
  unfolding print_reply print_answer means
  reply-no e p = record { put = put_as p (rw e) (omega arith) }

  pub reply-fired
      : {f k : ℕ} → reply ≡ Fired f k → Put 47 out at (print_answer (machine.Answer.fired f k)) out' r → Replied out at (Ok reply) text out' r
  unfolding print_reply means
  reply-fired e p = record { put = put_as p (rw e) (omega arith) }

  pub reply-exit : {n : ℕ} → reply ≡ Exit n → Put (26 + length text) out at (with_text (ascii "exit ") n text) out' r → Replied out at (Ok reply) text out' r
  unfolding print_reply print_answer means ascii
  reply-exit e p = record { put = put_as p (rw e) (omega arith) }

  pub reply-child
      : {n l : ℕ} → reply ≡ Child n l → Put (27 + length (take l text)) out at (with_text (ascii "child ") n (take l text)) out' r
      → Replied out at (Ok reply) text out' r
  unfolding print_reply print_answer means ascii
  reply-child {l = l} e p = record { put = put_as p (rw e) (omega (arith, part_fits l text)) }

  pub reply-idle : reply ≡ Idle → Put 4 out at (ascii "idle") out' r → Replied out at (Ok reply) text out' r
  unfolding print_reply print_answer means
  reply-idle e p = record { put = put_as p (rw e) (omega arith) }

  pub reply-end : reply ≡ End → Put 3 out at (ascii "end") out' r → Replied out at (Ok reply) text out' r
  unfolding print_reply print_answer means
  reply-end e p = record { put = put_as p (rw e) (omega arith) }

-- A refusal.
pub reply-refused : {out : List ℕ} {at : ℕ} {e : Refusal} {text out' : List ℕ} {r : ℕ} → Put 28 out at (ascii "refused " ++ decimal (number e)) out' r
    → Replied out at (Err e) text out' r
unfolding print_reply means
reply-refused p = record { put = put_as p refl (omega arith) }

pub reply-of : {out : List ℕ} {at : ℕ} {q r : Result Reply Refusal} {text out' : List ℕ} {end : ℕ} → q ≡ r → Replied out at r text out' end → Replied out at q text out' end
reply-of e p = rw e p
