-- One turn of `feed`: a line is taken, or the rest of the chunk kept.
use Rattle.std.specs.Prelude.{◌≡◌, refl, List, [], ◌∷◌, ◌++◌, ℕ, ◌+◌, ◌≤◌, ◌<◌, length, take}
use Rattle.std.proofs.Common.{sym, ap, ◌∙◌, append_assoc, append-nil, arith}
use Rattle.std.proofs.Math.Option.{Option}
use Rattle.lists.specs.Lists.{each_append}
use Rattle.machine.specs.Step.{Step}
use Rattle.machine.specs.Outcome.{Outcome}
use Rattle.machine.specs.StepOf.{outcome_of}
use Rattle.machine.specs.Parse.{lines_of, parse_line}
use Rattle.machine.specs.Print.{print_line}
use Rattle.machine.specs.Listing.{print_from}
use Rattle.state.specs.declared.Sizes.{Sizes}
use Rattle.holds.specs.Did.{machine_in}
use Rattle.print.specs.Put.{Put, put-none}
use Rattle.line.specs.Line.{line_most, LineTook, LineTaken}
use Rattle.listing.specs.Fed.{Fed}
use Rattle.listing.specs.Behind.{behind-none, behind-step}
use Rattle.outcome.specs.Stepped.{Well}
use Rattle.listing.specs.Lines.{NoEnd, lines_cons, machine_after}
use Rattle.listing.specs.Pieces.{piece, piece_join, piece-one, LineEnd}
use Rattle.listing.specs.Feed.{FeedAsks, Went}
use Rattle.listing.specs.Held.{held_most, HeldIs, Kept, held_more, held-parse}

-- A byte to read, and room for a line.
pub record TurnAsks (z : Sizes) (s chunk held out : List ℕ) (f : Fed) : Type 0 where
  pub asks : FeedAsks z s chunk held out f
  pub more : f.from < length chunk
  pub room : f.used + line_most z ≤ length out

-- The line goes on to `end` and ends there.
pub record EndedAsks (z : Sizes) (s chunk held out : List ℕ) (f : Fed) (end : ℕ) : Type 0 where
  pub turn : TurnAsks z s chunk held out f
  pub line : LineEnd chunk f.from end
  pub inside : end < length chunk

-- A turn reads a byte at least.
pub record Turned (z : Sizes) (chunk s held out : List ℕ) (f : Fed) (s' held' out' : List ℕ) (f' : Fed) : Type 0 where
  pub went : Went z chunk s held out f s' held' out' f'
  pub moved : f.from < f'.from

-- The bound of what is put is the buffer's length.
pub put-tight : {m : ℕ} {out : List ℕ} {at : ℕ} {xs out' : List ℕ} {r : ℕ} → Put m out at xs out' r → Put (length out) out at xs out' r
put-tight p =
    record { bytes = p.bytes; ends = p.ends; few = omega (arith, p.ends, p.within); within = p.within; long = p.long }

-- The chunk ends before the line does: the rest of it is kept.
pub turn-keep
    : {z : Sizes} {s chunk held out : List ℕ} {f : Fed} {end kept : ℕ} {held' : List ℕ}
    → TurnAsks z s chunk held out f
    → LineEnd chunk f.from end
    → length chunk ≤ end
    → Kept held f.have (piece chunk f.from end) held' kept
    → Turned z chunk s held out f s held' out (record { from = end; have = kept; n = f.n; used = f.used })
unfolding machine_after print_from
turn-keep {z} {s} {chunk} {held} {out} {f} {end} {kept} {held'} a l e k =
    record {
      went =
          record {
            well = a.asks.well;
            behind = behind-none;
            lines = [];
            put = put-tight (put-none a.asks.used);
            on = l.before.low;
            within = l.before.high;
            few = omega (arith, k.ends, a.asks.line);
            numbers = omega arith;
            follows = λ h c.
                record {
                  taken = [];
                  begun = h ++ piece chunk f.from end;
                  held = held_more a.asks.line a.asks.few c l.before.none k;
                  split = λ rest. refl;
                  number = omega arith;
                  machine = refl;
                  printed = refl;
                };
          };
      moved = omega (arith, a.more);
    }

-- A line's last bytes are in the text; the bytes held stand for those before them.
pub record TextAsks (z : Sizes) (s held : List ℕ) (have : ℕ) (out : List ℕ) (at : ℕ) : Type 0 where
  pub well : Well z s
  pub line : length held ≡ held_most
  pub few : have ≤ held_most
  pub room : at + line_most z ≤ length out

-- The step was taken that is the line's, and its line of the listing written.
pub record TextTook (z : Sizes) (s s' : List ℕ) (n : ℕ) (held : List ℕ) (have : ℕ) (text out : List ℕ) (at : ℕ) (out' : List ℕ) (r : ℕ) : Type 0 where
  pub step : Option Step
  pub parsed : (h : List ℕ) → HeldIs held have h → NoEnd text → step ≡ parse_line (h ++ text)
  pub before : List ℕ
  pub after : List ℕ
  pub took : LineTook z s s' n step before after out at out' r

pub turn-text : {z : Sizes} {s chunk held out : List ℕ} {f : Fed} → TurnAsks z s chunk held out f → TextAsks z s held f.have out f.used
turn-text a = record { well = a.asks.well; line = a.asks.line; few = a.asks.few; room = a.room }

-- None of the line is held.
pub text-whole
    : {z : Sizes} {s s' : List ℕ} {n : ℕ} {held : List ℕ} {have : ℕ} {text out : List ℕ} {at : ℕ} {out' : List ℕ} {r : ℕ} {b b' m m' : List ℕ}
    → have ≡ 0
    → LineTaken z s s' n (parse_line text) b b' m m' out at out' r
    → TextTook z s s' n held have text out at out' r
text-whole {held = held} {have = have} {text = text} {m = m} {m' = m'} none t =
    record {
      step = parse_line text;
      parsed = λ h c p.
          let nothing : h ≡ [] = c.short (omega arith) ∙ ap (λ (k : ℕ). take k held) none in
          ap (λ (ys : List ℕ). parse_line (ys ++ text)) (sym nothing);
      before = m;
      after = m';
      took = t.took;
    }

-- The end of a line begun before.
pub text-begun
    : {z : Sizes} {s s' : List ℕ} {n : ℕ} {held : List ℕ} {have : ℕ} {text out : List ℕ} {at : ℕ} {out' : List ℕ} {r : ℕ} {held' b b' m m' : List ℕ} {kept : ℕ}
    → TextAsks z s held have out at
    → Kept held have text held' kept
    → LineTaken z s s' n (parse_line (take kept held')) b b' m m' out at out' r
    → TextTook z s s' n held have text out at out' r
text-begun {held' = held'} {m = m} {m' = m'} {kept = kept} a k t =
    record {
      step = parse_line (take kept held');
      parsed = λ h c p. held-parse (k.long ∙ a.line) (omega (arith, k.ends, a.line)) (held_more a.line a.few c p k);
      before = m;
      after = m';
      took = t.took;
    }

-- A line is taken.
pub turn-line
    : {z : Sizes} {s chunk held out : List ℕ} {f : Fed} {end : ℕ} (held' : List ℕ) {s' out' : List ℕ} {used : ℕ}
    → EndedAsks z s chunk held out f end
    → TextTook z s s' f.n held f.have (piece chunk f.from end) out f.used out' used
    → Turned z chunk s held out f s' held' out' (record { from = end + 1; have = 0; n = f.n + 1; used = used })
unfolding machine_after print_from
turn-line {z} {s} {chunk} {held} {out} {f} {end} held' {s'} a w =
    let x : Option Step = w.step in
    let t : LineTook z s s' f.n x w.before w.after out f.used _ _ = w.took in
    let parsed : (h : List ℕ) → HeldIs held f.have h → x ≡ parse_line (h ++ piece chunk f.from end) = λ h c. w.parsed h c a.line.before.none in
    let l : LineEnd chunk f.from end = a.line in
    let p : List ℕ = piece chunk f.from end in
    let q : piece chunk f.from (end + 1) ≡ p ++ 10 ∷ [] =
    sym (piece_join chunk f.from end (end + 1) l.before.low (omega arith))
    ∙ ap (λ (ys : List ℕ). p ++ ys) (piece-one chunk end a.inside ∙ ap (λ (c : ℕ). c ∷ []) (l.found a.inside))
    in
    let o : Outcome = outcome_of (machine_in z s) x 127 in
    record {
      went =
          record {
            well = t.well;
            behind = behind-step a.turn.asks.well t.spares;
            lines = print_line f.n o.reply (machine_in z s');
            put = put-tight t.put;
            on = omega (arith, l.before.low);
            within = omega (arith, a.inside);
            few = omega arith;
            numbers = omega (arith, l.before.low);
            follows = λ h c.
                record {
                  taken = (h ++ p) ∷ [];
                  begun = [];
                  held = record { plain = tt; short = λ k. refl; long = λ k. absurd (omega arith) };
                  split = λ rest.
                      ap (λ (ys : List ℕ). lines_of (h ++ ys ++ rest)) q
                      ∙ ap (λ (ys : List ℕ). lines_of (ys ++ rest)) (sym (append_assoc h p (10 ∷ [])))
                      ∙ ap lines_of (append_assoc (h ++ p) (10 ∷ []) rest)
                      ∙ lines_cons (h ++ p) rest (each_append (λ (c : ℕ). c ≡ 10 → ⊥) h p c.plain l.before.none);
                  number = omega arith;
                  machine = t.machine ∙ ap (λ (y : Option Step). (outcome_of (machine_in z s) y 127).after) (parsed h c);
                  printed =
                      ap (print_line f.n o.reply) t.machine
                      ∙ ap (λ (y : Option Step). print_line f.n (outcome_of (machine_in z s) y 127).reply (outcome_of (machine_in z s) y 127).after) (parsed h c)
                      ∙ sym (append-nil _);
                };
          };
      moved = omega (arith, l.before.low);
    }
