-- One turn after another.
use Rattle.std.specs.Prelude.{refl, List, [], ◌++◌, ℕ, ◌≤◌}
use Rattle.std.proofs.Common.{sym, ap, ◌∙◌, append_assoc, append-nil, arith, length-append}
use Rattle.machine.specs.Machine.{Machine}
use Rattle.machine.specs.Parse.{lines_of}
use Rattle.machine.specs.Listing.{print_from}
use Rattle.state.specs.declared.Sizes.{Sizes}
use Rattle.holds.specs.Did.{machine_in}
use Rattle.print.specs.Put.{put-none, put_join}
use Rattle.listing.specs.Fed.{Fed}
use Rattle.listing.specs.Behind.{behind-none, behind_join}
use Rattle.listing.specs.Lines.{machine_after, after-append, print_append}
use Rattle.listing.specs.Pieces.{piece, piece-none, piece_join}
use Rattle.listing.specs.Feed.{FeedAsks, Follows, Went}
use Rattle.listing.specs.Turn.{put-tight}

-- Nothing is read.
pub went-none : {z : Sizes} {s chunk held out : List ℕ} {f : Fed} → FeedAsks z s chunk held out f → Went z chunk s held out f s held out f
unfolding machine_after print_from
went-none {z} {s} {chunk} {held} {out} {f} a =
    record {
      well = a.well;
      behind = behind-none;
      lines = [];
      put = put-tight (put-none a.used);
      on = omega arith;
      within = a.within;
      few = a.few;
      numbers = omega arith;
      follows = λ h c.
          record {
            taken = [];
            begun = h;
            held = c;
            split = λ rest.
                ap (λ (ys : List ℕ). lines_of (h ++ ys ++ rest)) (piece-none chunk f.from) ∙ ap (λ (ys : List ℕ). lines_of (ys ++ rest)) (append-nil h);
            number = omega arith;
            machine = refl;
            printed = refl;
          };
    }

-- what follows a line begun, and what follows that
follows_join
    : {z : Sizes} {chunk s h lines s₁ held₁ more s₂ held₂ : List ℕ} {f f₁ f₂ : Fed}
    → f.from ≤ f₁.from
    → f₁.from ≤ f₂.from
    → (a : Follows z chunk s f h lines s₁ held₁ f₁)
    → Follows z chunk s₁ f₁ a.begun more s₂ held₂ f₂
    → Follows z chunk s f h (lines ++ more) s₂ held₂ f₂
follows_join {z} {chunk} {s} {h} {lines} {s₁} {held₁} {more} {s₂} {held₂} {f} {f₁} {f₂} p q a c =
    let x : List ℕ = piece chunk f.from f₁.from in
    let y : List ℕ = piece chunk f₁.from f₂.from in
    let m : Machine = machine_in z s in
    record {
      taken = a.taken ++ c.taken;
      begun = c.begun;
      held = c.held;
      split = λ rest.
          ap (λ (ys : List ℕ). lines_of (h ++ ys ++ rest)) (sym (piece_join chunk f.from f₁.from f₂.from p q))
          ∙ ap lines_of (ap (λ (ys : List ℕ). ys ++ rest) (sym (append_assoc h x y)) ∙ append_assoc (h ++ x) y rest)
          ∙ a.split (y ++ rest)
          ∙ ap (λ (ys : List ℕ). a.taken ++ lines_of ys) (sym (append_assoc a.begun y rest))
          ∙ ap (λ (ls : List (List ℕ)). a.taken ++ ls) (c.split rest)
          ∙ sym (append_assoc a.taken c.taken (lines_of (c.begun ++ rest)));
      number = omega (arith, a.number, c.number, length-append a.taken c.taken);
      machine = c.machine ∙ ap (λ (k : Machine). machine_after k c.taken) a.machine ∙ sym (after-append m a.taken c.taken);
      printed =
          rw (a.printed, c.printed, a.number, a.machine) (sym (print_append f.n m a.taken c.taken));
    }

-- One after another.
pub went_join
    : {z : Sizes} {chunk s held out s₁ held₁ out₁ s₂ held₂ out₂ : List ℕ} {f f₁ f₂ : Fed}
    → Went z chunk s held out f s₁ held₁ out₁ f₁
    → Went z chunk s₁ held₁ out₁ f₁ s₂ held₂ out₂ f₂
    → Went z chunk s held out f s₂ held₂ out₂ f₂
went_join w v =
    record {
      well = v.well;
      behind = behind_join w.behind v.behind;
      lines = w.lines ++ v.lines;
      put = put-tight (put_join w.put v.put);
      on = omega (arith, w.on, v.on);
      within = v.within;
      few = v.few;
      numbers = omega (arith, w.on, v.on, w.numbers, v.numbers);
      follows = λ h c. follows_join w.on v.on (w.follows h c) (v.follows (w.follows h c).begun (w.follows h c).held);
    }
