-- What the exported step ensures, for any bytes.
use Rattle.std.specs.Prelude.{◌≡◌, refl, Bool, true, false, List, [], ◌∷◌, ◌++◌, ℕ, ◌≤◌, ◌<◌, eqb, length, drop, Result, Ok, Err}
use Rattle.std.proofs.Common.{sym, ap, subst, ◌∙◌, arith, eqb-true, lit<}
use Rattle.std.proofs.lemmas.Bool.{false≢true}
use Rattle.std.proofs.Math.Option.{Option}
use Rattle.machine.specs.Basics.{elem}
use Rattle.machine.specs.Machine.{Machine}
use Rattle.machine.specs.Machine as sizes
use Rattle.layout.specs.Table.{total}
use Rattle.state.specs.Fields as fields
use Rattle.machine.specs.Good.{Each}
use Rattle.machine.specs.Table.{table}
use Rattle.machine.specs.Bytes.{decode}
use Rattle.machine.specs.Step.{Step}
use Rattle.machine.specs.Outcome as machine
use Rattle.machine.specs.Outcome.{Outcome, Answer, answer, refused}
use Rattle.machine.specs.StepOf.{outcome_of}
use Rattle.state.specs.Abs.{abs}
use Rattle.state.specs.Places.{total_in}
use Rattle.state.specs.WellFormed.{WellFormed}
use Rattle.state.specs.declared.Sizes.{Sizes}
use Rattle.kept.specs.Total.{numbers, Comes, done, with_number, total-outcome}
use Rattle.rules.specs.Code.{Decides}
use Rattle.verify.specs.Ways.{SizesRead, well-long}
use Rattle.outcome.specs.declared.Reply.{Reply}
use Rattle.outcome.specs.declared.Reply.TheVariants.{Pid, Run, RunChild, Done, Asleep, Yes, No, Fired, Exit, Child, Idle, End}
use Rattle.outcome.specs.declared.Refusal.{Refusal}
use Rattle.outcome.specs.declared.Refusal.TheVariants.{NotWellFormed}
use Rattle.outcome.specs.Means.{number, means, told}
use Rattle.outcome.specs.Stepped.{Well}
use Rattle.outcome.specs.Length.{length_of}
use Rattle.proc.specs.Taken.{Taken, status_in, given}
use Rattle.step.specs.declared.Words.{Words}
use Rattle.step.specs.Words.{number_of, answer_number, first_of, second_of, Lent, lent, words_after, words_in, WordsAre}
use Rattle.step.specs.After.{After, WellIn, well_of, outcome_of_lem, after_of}

-- What the step bytes b ask, with the message buffer m, gives this on the machine of a well-formed state s.
abbrev pub outcome : (s b m : List ℕ) → Outcome
outcome s b m = outcome_of (abs s) (decode b) (length m)

-- The message buffer then: the message told at its front, and behind it what stood there.
unfoldable pub message_after : machine.Reply → List ℕ → List ℕ
message_after r m = told r ++ drop (length (told r)) m

-- On a well-formed state.
pub record Answered (s s' b m m' : List ℕ) (w w' : Lent) (n : ℕ) : Type 0 where
  pub number : n ≡ number_of (outcome s b m).reply
  pub words : w' ≡ words_after (outcome s b m).reply w
  pub message : m' ≡ message_after (outcome s b m).reply m
  pub state : After s s' (decode b) (outcome s b m)

-- On any other: 1, and nothing changes.
pub record Malformed (s s' m m' : List ℕ) (w w' : Lent) (n : ℕ) : Type 0 where
  pub number : n ≡ 1
  pub words : w' ≡ w
  pub message : m' ≡ m
  pub state : s' ≡ s

-- The exported step on the state s, the step bytes b, the message buffer m and the words w: the number n, and what they are then.
pub data Exported (s s' b m m' : List ℕ) (w w' : Lent) (n : ℕ) : Type 0 where
  formed : WellFormed s → Answered s s' b m m' w w' n → Exported s s' b m m' w w' n
  malformed : (WellFormed s → ⊥) → Malformed s s' m m' w w' n → Exported s s' b m m' w w' n

-- The same before the reply is put in words.
pub record Replies (s s' b m m' : List ℕ) (r : Result Reply Refusal) : Type 0 where
  pub reply : means r m' (status_in (decode b)) ≡ (outcome s b m).reply
  pub long : length_of r ≡ length (told (outcome s b m).reply)
  pub message : m' ≡ message_after (outcome s b m).reply m
  pub state : After s s' (decode b) (outcome s b m)

pub record Refuses (s s' m m' : List ℕ) (r : Result Reply Refusal) : Type 0 where
  pub reply : r ≡ Err NotWellFormed
  pub message : m' ≡ m
  pub state : s' ≡ s

pub data Replied (s s' b m m' : List ℕ) (r : Result Reply Refusal) : Type 0 where
  replies : WellFormed s → Replies s s' b m m' r → Replied s s' b m m' r
  refuses : (WellFormed s → ⊥) → Refuses s s' m m' r → Replied s s' b m m' r

-- Bytes that are well formed are at least those of the sizes that are read from them.
well-fits : {z : Sizes} {s : List ℕ} → SizesRead s z → WellFormed s → total_in z ≤ length s
well-fits {z} {s} r w =
    omega (arith, w.rep.state.long, ap (λ (y : sizes.Sizes). total fields.layout1 (fields.counts y)) r.same)

-- From the check: it said no.
pub replied_no : {s b m : List ℕ} {c : Bool} → c ≡ false → Decides c (WellFormed s) → Replied s s b m m (Err NotWellFormed)
replied_no {s} e d = refuses (subst (λ (x : Bool). Decides x (WellFormed s)) e d) (record { reply = refl; message = refl; state = refl })

-- It said yes.
checked : {s : List ℕ} {c : Bool} → c ≡ true → Decides c (WellFormed s) → WellFormed s
checked {s} e d = subst (λ (x : Bool). Decides x (WellFormed s)) e d

pub checked_long : (s : List ℕ) {c : Bool} → c ≡ true → Decides c (WellFormed s) → 80 ≤ length s
checked_long s e d = well-long (checked e d)

pub checked_fits : {z : Sizes} {s : List ℕ} {c : Bool} → c ≡ true → Decides c (WellFormed s) → SizesRead s z → total_in z ≤ length s
checked_fits e d r = well-fits r (checked e d)

pub checked_in : {z : Sizes} {s : List ℕ} {c : Bool} → c ≡ true → Decides c (WellFormed s) → SizesRead s z → WellIn z s
checked_in e d r = well_of (checked e d) r.same

pub checked_well : {z : Sizes} {s : List ℕ} {c : Bool} → c ≡ true → Decides c (WellFormed s) → SizesRead s z → Well z s
checked_well e d r = (checked_in e d r).well

pub replies_of
    : {z : Sizes} {s s' b m m' : List ℕ} {r : Result Reply Refusal} → WellIn z s → Taken z s s' (decode b) m m' r → Replies s s' b m m' r
unfolding message_after
replies_of {z} {s} {s'} {b} {m} {m'} {r} w t =
    let o : given z s (decode b) m ≡ outcome s b m = sym (outcome_of_lem (decode b) (length m) w.well) in
    record {
      reply = t.reply ∙ ap (λ (y : Outcome). y.reply) o;
      long = t.long ∙ ap (λ (y : Outcome). length (told y.reply)) o;
      message = t.message ∙ ap (λ (y : Outcome). message_after y.reply m) o;
      state = after_of w t;
    }

pub replied_taken
    : {z : Sizes} {s s' b m m' : List ℕ} {c : Bool} {r : Result Reply Refusal}
    → c ≡ true
    → Decides c (WellFormed s)
    → SizesRead s z
    → Taken z s s' (decode b) m m' r
    → Replied s s' b m m' r
replied_taken e d z t = replies (checked e d) (replies_of (checked_in e d z) t)

-- The words of a reply: its number, and where it is an answer its numbers and the length of its message.
pub number_of_lem : (r : Result Reply Refusal) (m st : List ℕ) → (words_in r).number ≡ number_of (means r m st)
unfolding number_of answer_number means
number_of_lem (Ok (Pid n)) m st = refl
number_of_lem (Ok (Run n)) m st = refl
number_of_lem (Ok (RunChild n c l)) m st = refl
number_of_lem (Ok Done) m st = refl
number_of_lem (Ok Asleep) m st = refl
number_of_lem (Ok Yes) m st = refl
number_of_lem (Ok No) m st = refl
number_of_lem (Ok (Fired f k)) m st = refl
number_of_lem (Ok (Exit n)) m st = refl
number_of_lem (Ok (Child n l)) m st = refl
number_of_lem (Ok Idle) m st = refl
number_of_lem (Ok End) m st = refl
number_of_lem (Err e) m st = refl

-- A number of the table is below every answer's.
low : (n : ℕ) (xs : List ℕ) → Each (λ x. x < 32) xs → elem n xs ≡ true → n < 32
unfolding elem
low n [] a e = absurd (false≢true e)
low n (x ∷ xs) a e = go (eqb n x) refl (λ d. low n xs a.1 d)
  where
    go : (b : Bool) → eqb n x ≡ b → (elem n xs ≡ true → n < 32) → n < 32
    go true d again = subst (λ (y : ℕ). y < 32) (sym (eqb-true n x d)) a.0
    go false d again = again (rw d at e)

listed-low : (n : ℕ) → elem n (numbers table) ≡ true → n < 32
unfolding table
listed-low n e =
    low n (numbers table)
    (lit< tt, (lit< tt, (lit< tt, (lit< tt, (lit< tt, (lit< tt, (lit< tt, (lit< tt, (lit< tt, (lit< tt, (lit< tt, (lit< tt, (lit< tt, (lit< tt, (lit< tt, (lit< tt, (lit< tt, tt)))))))))))))))))
    e

answer-refused : (a : Answer) (n : ℕ) → answer a ≡ refused n → ⊥
answer-refused a n e = let d : ◌≡◌ {A = ℕ} 0 1 = cc in omega (arith, d)

pub refused-low : (m : Machine) (x : Option Step) (k n : ℕ) → (outcome_of m x k).reply ≡ refused n → n < 32
refused-low m x k n e = go (total-outcome m x k)
  where
    go : Comes (outcome_of m x k).reply → n < 32
    go (done a d) = let y : answer a ≡ refused n = sym d ∙ e in absurd (answer-refused a n y)
    go (with_number j d l) = let y : refused j ≡ refused n = sym d ∙ e in let q : j ≡ n = cc in subst (λ (i : ℕ). i < 32) q (listed-low j l)

-- Words from 32 on are an answer's, and below it a refusal leaves what is lent.
words-answer
    : (r : Result Reply Refusal) (m st : List ℕ) (w : Lent)
    → 32 ≤ (words_in r).number
    → ((n : ℕ) → means r m st ≡ refused n → n < 32)
    → length_of r ≡ length (told (means r m st))
    → lent (words_in r).first (words_in r).second (words_in r).length ≡ words_after (means r m st) w
unfolding means words_after first_of second_of told
words-answer (Ok (Pid n)) m st w h k l = refl
words-answer (Ok (Run n)) m st w h k l = refl
words-answer (Ok (RunChild n c i)) m st w h k l = ap (λ (j : ℕ). lent n c j) l
words-answer (Ok Done) m st w h k l = refl
words-answer (Ok Asleep) m st w h k l = refl
words-answer (Ok Yes) m st w h k l = refl
words-answer (Ok No) m st w h k l = refl
words-answer (Ok (Fired f g)) m st w h k l = refl
words-answer (Ok (Exit n)) m st w h k l = refl
words-answer (Ok (Child n i)) m st w h k l = ap (λ (j : ℕ). lent n 0 j) l
words-answer (Ok Idle) m st w h k l = refl
words-answer (Ok End) m st w h k l = refl
words-answer (Err e) m st w h k l = absurd (omega (arith, h, k (number e) refl))

words-refused : (r : Result Reply Refusal) (m st : List ℕ) (w : Lent) → (words_in r).number < 32 → w ≡ words_after (means r m st) w
unfolding means words_after
words-refused (Ok (Pid n)) m st w h = absurd (omega (arith, h))
words-refused (Ok (Run n)) m st w h = absurd (omega (arith, h))
words-refused (Ok (RunChild n c i)) m st w h = absurd (omega (arith, h))
words-refused (Ok Done) m st w h = absurd (omega (arith, h))
words-refused (Ok Asleep) m st w h = absurd (omega (arith, h))
words-refused (Ok Yes) m st w h = absurd (omega (arith, h))
words-refused (Ok No) m st w h = absurd (omega (arith, h))
words-refused (Ok (Fired f g)) m st w h = absurd (omega (arith, h))
words-refused (Ok (Exit n)) m st w h = absurd (omega (arith, h))
words-refused (Ok (Child n i)) m st w h = absurd (omega (arith, h))
words-refused (Ok Idle) m st w h = absurd (omega (arith, h))
words-refused (Ok End) m st w h = absurd (omega (arith, h))
words-refused (Err e) m st w h = refl

-- The exported step, from its reply in words.
number_is
    : {s s' b m m' : List ℕ} {r : Result Reply Refusal} {v : Words} → WordsAre r v → Replies s s' b m m' r → v.number ≡ number_of (outcome s b m).reply
number_is {b = b} {m' = m'} {r = r} q a =
    ap (λ (x : Words). x.number) q.words ∙ number_of_lem r m' (status_in (decode b)) ∙ ap number_of a.reply

number-one : {s s' m m' : List ℕ} {r : Result Reply Refusal} {v : Words} → WordsAre r v → Refuses s s' m m' r → v.number ≡ 1
number-one q f = ap (λ (x : Words). x.number) q.words ∙ ap (λ (x : Result Reply Refusal). (words_in x).number) f.reply

pub exported_answer
    : {s s' b m m' : List ℕ} {r : Result Reply Refusal} {v : Words} {w : Lent}
    → Replied s s' b m m' r
    → WordsAre r v
    → 32 ≤ v.number
    → Exported s s' b m m' w (lent v.first v.second v.length) v.number
exported_answer {s} {s'} {b} {m} {m'} {r} {v} {w} (replies f a) q h =
    let e : v ≡ words_in r = q.words in
    formed f
    (record {
      number = number_is q a;
      words =
          ap (λ (x : Words). lent x.first x.second x.length) e
          ∙ words-answer r m' (status_in (decode b)) w (subst (λ (x : Words). 32 ≤ x.number) e h)
          (λ n y. refused-low (abs s) (decode b) (length m) n (sym a.reply ∙ y))
          (a.long ∙ ap (λ (x : machine.Reply). length (told x)) (sym a.reply))
          ∙ ap (λ (x : machine.Reply). words_after x w) a.reply;
      message = a.message;
      state = a.state;
    })
exported_answer (refuses n f) q h = absurd (omega (arith, h, number-one q f))

pub exported_refused
    : {s s' b m m' : List ℕ} {r : Result Reply Refusal} {v : Words} {w : Lent}
    → Replied s s' b m m' r
    → WordsAre r v
    → v.number < 32
    → Exported s s' b m m' w w v.number
exported_refused {s} {s'} {b} {m} {m'} {r} {v} {w} (replies f a) q h =
    formed f
    (record {
      number = number_is q a;
      words =
          words-refused r m' (status_in (decode b)) w (subst (λ (x : Words). x.number < 32) q.words h)
          ∙ ap (λ (x : machine.Reply). words_after x w) a.reply;
      message = a.message;
      state = a.state;
    })
exported_refused (refuses n f) q h =
    malformed n (record { number = number-one q f; words = refl; message = f.message; state = f.state })
