-- The ends of a listing: its first line, and the line of a last step without its line end.
use Rattle.std.specs.Prelude.{◌≡◌, refl, List, [], ◌∷◌, ℕ, ◌+◌, ◌≤◌, length, take}
use Rattle.std.proofs.Common.{sym, ap, ◌∙◌, append-nil, arith, length-take-le}
use Rattle.std.proofs.Math.Option.{Option}
use Rattle.machine.specs.Step.{Step}
use Rattle.machine.specs.Outcome.{Outcome}
use Rattle.machine.specs.StepOf.{outcome_of}
use Rattle.machine.specs.Parse.{lines_of, parse_line}
use Rattle.machine.specs.Print.{print_line}
use Rattle.machine.specs.Listing.{print_from}
use Rattle.state.specs.declared.Sizes.{Sizes}
use Rattle.holds.specs.Did.{machine_in}
use Rattle.outcome.specs.Stepped.{Well}
use Rattle.print.specs.Put.{Put, put-none, put_as}
use Rattle.line.specs.Line.{line_most, LineTaken}
use Rattle.listing.specs.Fed.{Fed}
use Rattle.listing.specs.Behind.{Behind, behind-none, behind-step}
use Rattle.listing.specs.Lines.{lines-last, machine_after}
use Rattle.listing.specs.Held.{held_most, HeldIs, held-parse, up_to}

pub record FinishAsks (z : Sizes) (s held out : List ℕ) (f : Fed) : Type 0 where
  pub well : Well z s
  pub line : length held ≡ held_most
  pub few : f.have ≤ held_most
  pub room : f.used + line_most z ≤ length out

pub finish-within : {z : Sizes} {s held out : List ℕ} {f : Fed} → FinishAsks z s held out f → f.have ≡ length (take f.have held)
finish-within {held = held} {f = f} a = sym (length-take-le f.have held (omega (arith, a.line, a.few)))

-- The line begun, where there is one, was the last: it is taken, and its line put. The bytes behind the state stay.
pub record Finished (z : Sizes) (s held out : List ℕ) (f : Fed) (s' out' : List ℕ) (r : ℕ) : Type 0 where
  pub well : Well z s'
  pub behind : Behind z s s'
  pub lines : List ℕ
  pub put : Put (line_most z) out f.used lines out' r
  pub machine : (h : List ℕ) → HeldIs held f.have h → machine_in z s' ≡ machine_after (machine_in z s) (lines_of h)
  pub printed : (h : List ℕ) → HeldIs held f.have h → lines ≡ print_from f.n (machine_in z s) (lines_of h)

-- No line is begun.
pub finish-none
    : {z : Sizes} {s held out : List ℕ} {f : Fed}
    → FinishAsks z s held out f
    → f.have ≡ 0
    → Finished z s held out f s out f.used
unfolding machine_after print_from lines_of
finish-none {z} {s} {held} {out} {f} a e =
    let nothing : (h : List ℕ) → HeldIs held f.have h → h ≡ [] = λ h c. c.short (omega arith) ∙ ap (λ (k : ℕ). take k held) e in
    record {
      well = a.well;
      behind = behind-none;
      lines = [];
      put = put_as (put-none (omega (arith, a.room))) refl (omega arith);
      machine = λ h c. rw (nothing h c) refl;
      printed = λ h c. rw (nothing h c) refl;
    }

-- A line is begun.
pub finish-line
    : {z : Sizes} {s held out : List ℕ} {f : Fed} {s' b b' m m' out' : List ℕ} {r : ℕ}
    → FinishAsks z s held out f
    → (f.have ≡ 0 → ⊥)
    → LineTaken z s s' f.n (parse_line (take f.have held)) b b' m m' out f.used out' r
    → Finished z s held out f s' out' r
unfolding machine_after print_from
finish-line {z} {s} {held} {out} {f} {s'} {r = r} a e t =
    let x : Option Step = parse_line (take f.have held) in
    let o : Option Step → Outcome = λ y. outcome_of (machine_in z s) y 127 in
    let parsed : (h : List ℕ) → HeldIs held f.have h → x ≡ parse_line h = λ h c. held-parse a.line a.few c in
    let one : (h : List ℕ) → HeldIs held f.have h → lines_of h ≡ h ∷ [] =
    λ h c.
    lines-last h c.plain
    (up_to f.have 4096
    (λ k. omega (arith, ap length (c.short k), length-take-le f.have held (omega (arith, a.line, a.few))))
    (λ k. omega (arith, c.long k)))
    in
    record {
      well = t.took.well;
      behind = behind-step a.well t.took.spares;
      lines = print_line f.n (o x).reply (machine_in z s');
      put = t.took.put;
      machine = λ h c. rw (one h c) (t.took.machine ∙ ap (λ (y : Option Step). (o y).after) (parsed h c));
      printed = λ h c.
          rw (one h c)
          (ap (print_line f.n (o x).reply) t.took.machine
          ∙ ap (λ (y : Option Step). print_line f.n (o y).reply (o y).after) (parsed h c)
          ∙ sym (append-nil _));
    }
