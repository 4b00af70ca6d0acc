-- The line of a step.
use Rattle.std.specs.Prelude.{◌≡◌, refl, List, [], ◌∷◌, ◌++◌, ℕ, ◌+◌, ◌*◌, ◌≤◌, length, Result}
use Rattle.std.proofs.Common.{◌∙◌, append_assoc, zero-add, arith}
use Rattle.machine.specs.Basics.{ascii}
use Rattle.machine.specs.Machine.{Machine, asleep}
use Rattle.machine.specs.Message.{decimal}
use Rattle.machine.specs.Outcome.{refused}
use Rattle.machine.specs.Print.{print_up, print_queue, print_reply, print_line}
use Rattle.state.specs.Fields as fields
use Rattle.state.specs.Abs.{machine_of}
use Rattle.state.specs.Places.{mem_in}
use Rattle.state.specs.declared.Sizes.{Sizes}
use Rattle.holds.specs.Holds.{Holds}
use Rattle.holds.specs.Did.{machine_in}
use Rattle.outcome.specs.declared.Reply.{Reply}
use Rattle.outcome.specs.declared.Refusal.{Refusal}
use Rattle.outcome.specs.Means.{means}
use Rattle.outcome.specs.Length.{length_of}
use Rattle.print.specs.Put.{Room, Put, put_join, put_as}
use Rattle.print.specs.Reply.{Replied}
use Rattle.print.specs.Pids.{UpPut}
use Rattle.print.specs.Queue.{QueuePut}

-- asleep and ticks, to the end of the line.
abbrev pub print_counts : Machine → List ℕ
print_counts m = decimal (asleep m) ++ ascii ";" ++ decimal m.ticks ++ 10 ∷ []

-- There is room for them; they are put.
pub record CountsAsks (z : Sizes) (s out : List ℕ) (at : ℕ) : Type 0 where
  pub holds : Holds z s 0
  pub room : Room 42 out at

pub record CountsPut (z : Sizes) (s out : List ℕ) (at : ℕ) (out' : List ℕ) (r : ℕ) : Type 0 where
  pub put : Put 42 out at (print_counts (machine_in z s)) out' r

pub counts-put
    : {z : Sizes} {s out : List ℕ} {at n t : ℕ} {out₁ out₂ out₃ : List ℕ} {r₁ r₂ r₃ : ℕ}
    → CountsAsks z s out at
    → n ≡ mem_in z s fields.asleep_count 0
    → t ≡ mem_in z s fields.ticks 0
    → Put 20 out at (decimal n) out₁ r₁
    → Put 21 out₁ r₁ (59 ∷ [] ++ decimal t) out₂ r₂
    → Put 1 out₂ r₂ (10 ∷ []) out₃ r₃
    → CountsPut z s out at out₃ r₃
unfolding ascii machine_of
counts-put {z} {s} {n = n} {t = t} a e d p q w =
    let k : n ≡ asleep (machine_in z s) = e ∙ a.holds.keeps.placed.asleep ∙ zero-add _ in
    record {
      put =
          put_as (put_join (put_join p q) w)
          (rw (k, d) (simp append_assoc))
          (omega arith);
    }

-- The machine's fields, to the end of the line.
abbrev pub print_fields : Machine → List ℕ
print_fields m = print_up m ++ ascii ";" ++ print_queue m ++ ascii ";" ++ print_counts m

-- There is room for them; they are put.
pub record FieldsAsks (z : Sizes) (s out : List ℕ) (at : ℕ) : Type 0 where
  pub holds : Holds z s 0
  pub room : Room (64 + 21 * z.processes) out at

pub record FieldsPut (z : Sizes) (s out : List ℕ) (at : ℕ) (out' : List ℕ) (r : ℕ) : Type 0 where
  pub put : Put (64 + 21 * z.processes) out at (print_fields (machine_in z s)) out' r

pub fields-put
    : {z : Sizes} {s out : List ℕ} {at : ℕ} {out₁ out₂ out₃ out₄ out₅ : List ℕ} {r₁ r₂ r₃ r₄ r₅ : ℕ}
    → UpPut z s out at out₁ r₁
    → Put 1 out₁ r₁ (59 ∷ []) out₂ r₂
    → QueuePut z s out₂ r₂ out₃ r₃
    → Put 1 out₃ r₃ (59 ∷ []) out₄ r₄
    → CountsPut z s out₄ r₄ out₅ r₅
    → FieldsPut z s out at out₅ r₅
unfolding ascii
fields-put p₁ p₂ p₃ p₄ p₅ =
    record { put = put_as (put_join (put_join (put_join (put_join p₁.put p₂) p₃.put) p₄) p₅.put) refl (omega arith) }

-- At most so many bytes are in a line.
abbrev pub line_most : Sizes → List ℕ → ℕ
line_most z text = 138 + length text + 21 * z.processes

-- The state is well formed, there is room for the line, and the text is at least as long as the message that the answer
-- tells.
pub record LineAsks (z : Sizes) (s : List ℕ) (reply : Result Reply Refusal) (text out : List ℕ) (at : ℕ) : Type 0 where
  pub holds : Holds z s 0
  pub room : Room (line_most z text) out at
  pub fits : length_of reply ≤ length text

-- The line of step n stands in out from `at` to r.
pub record Printed (z : Sizes) (s : List ℕ) (n : ℕ) (reply : Result Reply Refusal) (text out : List ℕ) (at : ℕ) (out' : List ℕ) (r : ℕ) : Type 0 where
  pub put : Put (line_most z text) out at (print_line n (means reply text text) (machine_in z s)) out' r

pub line-put
    : {z : Sizes} {s : List ℕ} {n : ℕ} {reply : Result Reply Refusal} {text out : List ℕ} {at : ℕ} {out₁ out₂ out₃ out₄ out₅ : List ℕ} {r₁ r₂ r₃ r₄ r₅ : ℕ}
    → Put 20 out at (decimal n) out₁ r₁
    → Put 1 out₁ r₁ (59 ∷ []) out₂ r₂
    → Replied out₂ r₂ reply text out₃ r₃
    → Put 1 out₃ r₃ (59 ∷ []) out₄ r₄
    → FieldsPut z s out₄ r₄ out₅ r₅
    → Printed z s n reply text out at out₅ r₅
unfolding ascii print_line
line-put p₁ p₂ p₃ p₄ p₅ =
    record {
      put = put_as (put_join (put_join (put_join (put_join p₁ p₂) p₃.put) p₄) p₅.put) (simp append_assoc) (omega arith);
    }

-- The state is well formed, and there is room for the line of a step that is refused.
pub record RefusedAsks (z : Sizes) (s out : List ℕ) (at : ℕ) : Type 0 where
  pub holds : Holds z s 0
  pub room : Room (line_most z []) out at

-- The line of step n, which is refused with the number k, stands in out from `at` to r.
pub record RefusedPrinted (z : Sizes) (s : List ℕ) (n k : ℕ) (out : List ℕ) (at : ℕ) (out' : List ℕ) (r : ℕ) : Type 0 where
  pub put : Put (line_most z []) out at (print_line n (refused k) (machine_in z s)) out' r

pub refused-put
    : {z : Sizes} {s : List ℕ} {n k : ℕ} {out : List ℕ} {at : ℕ} {out₁ out₂ out₃ out₄ out₅ : List ℕ} {r₁ r₂ r₃ r₄ r₅ : ℕ}
    → Put 20 out at (decimal n) out₁ r₁
    → Put 1 out₁ r₁ (59 ∷ []) out₂ r₂
    → Put 28 out₂ r₂ (print_reply (refused k)) out₃ r₃
    → Put 1 out₃ r₃ (59 ∷ []) out₄ r₄
    → FieldsPut z s out₄ r₄ out₅ r₅
    → RefusedPrinted z s n k out at out₅ r₅
unfolding ascii print_line
refused-put p₁ p₂ p₃ p₄ p₅ =
    record {
      put = put_as (put_join (put_join (put_join (put_join p₁ p₂) p₃) p₄) p₅.put) (simp append_assoc) (omega arith);
    }
