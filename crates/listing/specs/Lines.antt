-- The lines of an input, from its front.
use Rattle.std.specs.Prelude.{◌≡◌, refl, List, [], ◌∷◌, ◌++◌, ℕ, suc, ◌+◌, ◌<◌, length}
use Rattle.std.proofs.Common.{sym, ap, ◌∙◌, append_assoc, not-suc-le-zero, add-zero, arith, lt-ltb, ne_eqb}
use Rattle.std.proofs.Math.Option.{none}
use Rattle.machine.specs.Machine.{Machine}
use Rattle.machine.specs.Good.{Each}
use Rattle.machine.specs.Outcome.{Outcome}
use Rattle.machine.specs.StepOf.{outcome_of}
use Rattle.machine.specs.Parse.{in_front, lines_of, parse_line}
use Rattle.machine.specs.Print.{print_line}
use Rattle.machine.specs.Listing.{print_from}

-- A line end is the byte 10. There is none in these bytes.
abbrev pub NoEnd : List ℕ → Type 0
NoEnd bytes = Each (λ (b : ℕ). b ≡ 10 → ⊥) bytes

-- A line is what stands before its line end.
pub lines_cons : (l rest : List ℕ) → NoEnd l → lines_of (l ++ 10 ∷ rest) ≡ l ∷ lines_of rest
unfolding lines_of in_front
lines_cons [] rest h = refl
lines_cons (b ∷ l) rest h = rw (ne_eqb b 10 h.0, lines_cons l rest h.1) refl

-- A last line without its line end is a line.
pub lines-last : (l : List ℕ) → NoEnd l → 0 < length l → lines_of l ≡ l ∷ []
unfolding lines_of in_front
lines-last [] h k = absurd (not-suc-le-zero k)
lines-last (b ∷ []) h k = rw (ne_eqb b 10 h.0) refl
lines-last (b ∷ c ∷ l) h k = rw (ne_eqb b 10 h.0, lines-last (c ∷ l) h.1 (omega arith)) refl

-- A line over 4,096 bytes is no step.
pub parse-long : (l : List ℕ) → 4096 < length l → parse_line l ≡ none
unfolding parse_line
parse-long l h = rw (lt-ltb 4096 (length l) h) refl

-- The machine that some lines leave.
unfoldable pub machine_after : Machine → List (List ℕ) → Machine
machine_after m [] = m
machine_after m (l ∷ ls) = machine_after (outcome_of m (parse_line l) 127).after ls

-- Some lines and then others.
pub after-append : (m : Machine) (ls ks : List (List ℕ)) → machine_after m (ls ++ ks) ≡ machine_after (machine_after m ls) ks
unfolding machine_after
after-append m [] ks = refl
after-append m (l ∷ ls) ks = after-append (outcome_of m (parse_line l) 127).after ls ks

pub print_append
    : (n : ℕ) (m : Machine) (ls ks : List (List ℕ))
    → print_from n m (ls ++ ks) ≡ print_from n m ls ++ print_from (n + length ls) (machine_after m ls) ks
unfolding machine_after print_from
print_append n m [] ks = rw add-zero refl
print_append n m (l ∷ ls) ks =
    let o : Outcome = outcome_of m (parse_line l) 127 in
    let first : List ℕ = print_line n o.reply o.after in
    let e : suc n + length ls ≡ n + length (l ∷ ls) = omega arith in
    ap (λ (xs : List ℕ). first ++ xs) (print_append (suc n) o.after ls ks)
    ∙ sym (append_assoc first (print_from (suc n) o.after ls) (print_from (suc n + length ls) (machine_after o.after ls) ks))
    ∙ ap (λ (k : ℕ). first ++ print_from (suc n) o.after ls ++ print_from k (machine_after o.after ls) ks) e
