-- Whatever the chunks, what is written is the listing of the input.
use Rattle.std.specs.Prelude.{◌≡◌, refl, List, [], ◌++◌, ℕ}
use Rattle.std.proofs.Common.{sym, ap, ◌∙◌, append_assoc, append-nil, arith}
use Rattle.machine.specs.Machine as machine
use Rattle.machine.specs.Machine.{Machine, fresh}
use Rattle.machine.specs.Parse.{lines_of}
use Rattle.machine.specs.Listing.{print_from, header, listing_at, steps_sizes, listing}
use Rattle.state.specs.Places.{sizes_in}
use Rattle.state.specs.declared.Sizes.{Sizes}
use Rattle.holds.specs.Did.{machine_in}
use Rattle.listing.specs.Fed.{Fed}
use Rattle.listing.specs.Behind.{Behind, behind-none, behind_join}
use Rattle.listing.specs.Lines.{print_append}
use Rattle.listing.specs.Pieces.{piece}
use Rattle.listing.specs.Held.{HeldIs}
use Rattle.listing.specs.Feed.{Follows, Went}
use Rattle.listing.specs.Finish.{Finished}
use Rattle.listing.specs.Start.{Started}

-- The bytes `input` were read and `output` was put, from a fresh machine on: first the line that names the fields; then by one `feed` after
-- another, each of which reads on in some chunk from the state, the line held and the number that the last one left.
pub data Written (z : Sizes) : (s held : List ℕ) (have n : ℕ) (input output : List ℕ) → Type 0 where
  begins : {s held : List ℕ} → machine_in z s ≡ fresh (sizes_in z) → Written z s held 0 1 [] header
  feeds
      : {s held : List ℕ} {f : Fed} {input output chunk out s' held' out' : List ℕ} {f' : Fed}
      → Written z s held f.have f.n input output
      → (w : Went z chunk s held out f s' held' out' f')
      → Written z s' held' f'.have f'.n (input ++ piece chunk f.from f'.from) (output ++ w.lines)

listing-is : (z : machine.Sizes) (input : List ℕ) → listing_at z input ≡ header ++ print_from 1 (fresh z) (lines_of input)
unfolding listing_at
listing-is z input = refl

-- What is put, and what is left to be put, whatever follows the bytes that were read.
pub follows_print
    : {z : Sizes} {chunk s : List ℕ} {f : Fed} {h lines s' held' : List ℕ} {f' : Fed} (a : Follows z chunk s f h lines s' held' f') (rest : List ℕ)
    → print_from f.n (machine_in z s) (lines_of (h ++ piece chunk f.from f'.from ++ rest))
    ≡ lines ++ print_from f'.n (machine_in z s') (lines_of (a.begun ++ rest))
follows_print {z} {chunk} {s} {f} {h} {lines} {s'} {held'} {f'} a rest =
    rw (a.split rest, print_append, ← a.printed, ← a.number, ← a.machine) refl

-- what is left to be written
record Listed (z : Sizes) (s held : List ℕ) (have n : ℕ) (input output : List ℕ) : Type 0 where
  begun : List ℕ
  holds : HeldIs held have begun
  rest : (more : List ℕ) → listing_at (sizes_in z) (input ++ more) ≡ output ++ print_from n (machine_in z s) (lines_of (begun ++ more))

written_listed
    : {z : Sizes} {s held : List ℕ} {have n : ℕ} {input output : List ℕ}
    → Written z s held have n input output
    → Listed z s held have n input output
written_listed {z} (begins {s = s} e) =
    record {
      begun = [];
      holds = record { plain = tt; short = λ k. refl; long = λ k. absurd (omega arith) };
      rest = λ more. listing-is (sizes_in z) more ∙ ap (λ (m : Machine). header ++ print_from 1 m (lines_of more)) (sym e);
    }
written_listed {z} (feeds {s = s} {f = f} {input = input} {output = output} {chunk = chunk} {s' = s'} {f' = f'} r w) =
    let l : Listed z s _ f.have f.n input output = written_listed r in
    let a : Follows z chunk s f l.begun w.lines s' _ f' = w.follows l.begun l.holds in
    let p : List ℕ = piece chunk f.from f'.from in
    record {
      begun = a.begun;
      holds = a.held;
      rest = λ more.
          ap (listing_at (sizes_in z)) (append_assoc input p more)
          ∙ l.rest (p ++ more)
          ∙ ap (λ (ys : List ℕ). output ++ print_from f.n (machine_in z s) (lines_of ys)) (sym (append_assoc l.begun p more))
          ∙ ap (λ (ys : List ℕ). output ++ ys) (follows_print a more)
          ∙ sym (append_assoc output w.lines (print_from f'.n (machine_in z s') (lines_of (a.begun ++ more))));
    }

-- And the last line, where it has no line end: then all is put, and it is the listing of the input.
pub written-listing
    : {z : Sizes} {s held : List ℕ} {f : Fed} {input output out s' out' : List ℕ} {used : ℕ}
    → Written z s held f.have f.n input output
    → (e : Finished z s held out f s' out' used)
    → output ++ e.lines ≡ listing_at (sizes_in z) input
written-listing {z} {s} {held} {f} {input} {output} r e =
    let l : Listed z s held f.have f.n input output = written_listed r in
    ap (λ (ys : List ℕ). output ++ ys) (e.printed l.begun l.holds)
    ∙ ap (λ (ys : List ℕ). output ++ print_from f.n (machine_in z s) (lines_of ys)) (sym (append-nil l.begun))
    ∙ sym (l.rest [])
    ∙ ap (listing_at (sizes_in z)) (append-nil input)

-- The state that it began with; what is behind it stays.
unfoldable pub began : {z : Sizes} {s held : List ℕ} {have n : ℕ} {input output : List ℕ} → Written z s held have n input output → List ℕ
began (begins {s = s} e) = s
began (feeds r w) = began r

pub written_behind
    : {z : Sizes} {s held : List ℕ} {have n : ℕ} {input output : List ℕ} (r : Written z s held have n input output) → Behind z (began r) s
unfolding began
written_behind (begins e) = behind-none
written_behind (feeds r w) = behind_join (written_behind r) w.behind

-- In `steps`: from `start` on, and so to the listing.
pub written_start : {s s' held : List ℕ} {z : Sizes} → Started s s' z → Written z s' held 0 1 [] header
written_start t = begins (t.machine ∙ ap fresh (sym t.sizes))

pub steps-listing
    : {z : Sizes} {s held : List ℕ} {f : Fed} {input output out s' out' : List ℕ} {used : ℕ}
    → sizes_in z ≡ steps_sizes
    → Written z s held f.have f.n input output
    → (e : Finished z s held out f s' out' used)
    → output ++ e.lines ≡ listing input
unfolding listing
steps-listing {f = f} {input} k w e = written-listing {f = f} w e ∙ ap (λ (y : machine.Sizes). listing_at y input) k
