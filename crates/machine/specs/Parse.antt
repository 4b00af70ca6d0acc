-- A line of the input of `steps` as a step.
use Rattle.std.specs.Prelude.{if◌then◌else◌, Bool, true, false, ◌&&◌, List, [], ◌∷◌, ℕ, ◌+◌, ◌-◌, ◌*◌, ◌^◌, eqb, leb, ltb, length, take, drop}
use Rattle.std.proofs.Math.Option.{Option, none, some}
use Rattle.machine.specs.Basics.{same, ascii}
use Rattle.machine.specs.Step.{Step, Body, Takes, Form, Kind, takes_numbers, takes_bytes, kinds, fill}

-- A byte in front of the first of some lines or words.
unfoldable pub in_front : ℕ → List (List ℕ) → List (List ℕ)
in_front b [] = (b ∷ []) ∷ []
in_front b (l ∷ ls) = (b ∷ l) ∷ ls

-- A step a line. A last line without its line end is a line.
unfoldable pub lines_of : List ℕ → List (List ℕ)
lines_of [] = []
lines_of (b ∷ bs) = if eqb b 10 then [] ∷ lines_of bs else in_front b (lines_of bs)

-- What stands before the first space of a line.
unfoldable pub first_word : List ℕ → List ℕ
first_word [] = []
first_word (b ∷ bs) = if eqb b 32 then [] else b ∷ first_word bs

-- What stands after the first space of a line, where there is one.
unfoldable pub after_space : List ℕ → Option (List ℕ)
after_space [] = none
after_space (b ∷ bs) = elim (eqb b 32) [ true ↦ some bs | false ↦ after_space bs ]

-- Fields are apart by exactly one space.
unfoldable pub words_of : List ℕ → List (List ℕ)
words_of [] = [] ∷ []
words_of (b ∷ bs) = if eqb b 32 then [] ∷ words_of bs else in_front b (words_of bs)

-- Numbers are in decimal: one digit or more and nothing else, of a number below 2^64.
unfoldable pub value_from : ℕ → List ℕ → Option ℕ
value_from v [] = if ltb v (2 ^ 64) then some v else none
value_from v (b ∷ bs) = elim (leb 48 b && leb b 57) [ true ↦ value_from (v * 10 + (b - 48)) bs | false ↦ none ]

-- A field is a number.
unfoldable pub number : List ℕ → Option ℕ
number [] = none
number (b ∷ bs) = value_from 0 (b ∷ bs)

-- A number in front of others, where all of them are numbers.
unfoldable pub both : Option ℕ → Option (List ℕ) → Option (List ℕ)
both none ns = none
both (some n) none = none
both (some n) (some ns) = some (n ∷ ns)

-- Every field is a number.
unfoldable pub all_numbers : List (List ℕ) → Option (List ℕ)
all_numbers [] = some []
all_numbers (w ∷ ws) = both (number w) (all_numbers ws)

-- The numbers after a step's word; none where nothing follows it.
unfoldable pub fields_in : Option (List ℕ) → Option (List ℕ)
fields_in none = some []
fields_in (some rest) = all_numbers (words_of rest)

-- BYTES being the rest after one space, empty where there is none.
unfoldable pub bytes_in : Option (List ℕ) → List ℕ
bytes_in none = []
bytes_in (some rest) = rest

-- The body with these numbers, where they are numbers.
unfoldable pub fill_in : (n : ℕ) → Takes n → Option (List ℕ) → Option Body
fill_in n f none = none
fill_in n f (some xs) = fill n f xs

-- The body that a kind of step has with what follows its word.
unfoldable pub body_in : Form → Option (List ℕ) → Option Body
body_in (takes_numbers n f) rest = fill_in n f (fields_in rest)
body_in (takes_bytes f) rest = some (f (bytes_in rest))

-- The kind of step whose word the line begins with.
unfoldable pub parse_body : List Kind → List ℕ → Option Body
parse_body [] line = none
parse_body (k ∷ ks) line =
    elim (same (first_word line) (ascii k.word)) [ true ↦ body_in k.form (after_space line) | false ↦ parse_body ks line ]

-- The step with its mark.
unfoldable pub step_with : Bool → Option Body → Option Step
step_with mark none = none
step_with mark (some b) = some (record { marked = mark; body = b })

-- A leading `i ` marks interrupt context. A line over 4,096 bytes is no step.
unfoldable pub parse_line : List ℕ → Option Step
parse_line line =
    if ltb 4096 (length line)
    then none
    else if same (take 2 line) (ascii "i ")
    then step_with true (parse_body kinds (drop 2 line))
    else step_with false (parse_body kinds line)

-- All of this module, for whoever computes with it.
unfoldable pub open_parse : Unit {0}
unfolding in_front lines_of first_word after_space words_of value_from number both all_numbers fields_in bytes_in fill_in body_in parse_body step_with parse_line
open_parse = tt
