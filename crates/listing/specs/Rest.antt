-- What is left of a chunk, as a chunk of its own.
use Rattle.std.specs.Prelude.{◌≡◌, refl, List, [], ◌++◌, ℕ, ◌==◌, ◌+◌, ◌-◌, ◌≤◌, ◌<◌, length, take, drop, Option, Some, None, MatchOption, position}
use Rattle.std.proofs.Common.{sym, ap, subst, ◌∙◌, arith, length-drop, drop-drop}
use Rattle.machine.specs.Parse.{lines_of}
use Rattle.state.specs.declared.Sizes.{Sizes}
use Rattle.line.specs.Line.{line_most}
use Rattle.listing.specs.Fed.{Fed, fed}
use Rattle.listing.specs.Pieces.{piece, piece-rest, LineEnd, line_ends, ends-within}
use Rattle.listing.specs.Held.{Kept}
use Rattle.listing.specs.Feed.{FeedAsks, FeedEnds, Follows, Went}
use Rattle.listing.specs.Turn.{TurnAsks, Turned, TextTook, turn-keep, turn-line}
use Rattle.listing.specs.Feeding.{Feeding, feed-start}

-- How many bytes are before the rest.
abbrev pub passed : (chunk rest : List ℕ) → ℕ
passed chunk rest = length chunk - length rest

-- The rest is all that follows them.
pub record IsRest (chunk rest : List ℕ) : Type 0 where
  pub all : rest ≡ drop (passed chunk rest) chunk

pub rest-within : {chunk rest : List ℕ} → IsRest chunk rest → length rest ≤ length chunk
rest-within {chunk} {rest} r = omega (arith, ap length r.all, length-drop (passed chunk rest) chunk)

-- All of it, all behind some bytes, and the rest of a rest.
pub rest-whole : {chunk : List ℕ} → IsRest chunk chunk
rest-whole {chunk} = let e : length chunk - length chunk ≡ 0 = omega arith in record { all = sym (ap (λ (k : ℕ). drop k chunk) e) }

pub rest-behind : {chunk rest : List ℕ} {k : ℕ} → k ≤ length chunk → rest ≡ drop k chunk → IsRest chunk rest
rest-behind {chunk} {rest} {k} h e =
    let n : k ≡ passed chunk rest = omega (arith, ap length e, length-drop k chunk) in
    record { all = e ∙ ap (λ (i : ℕ). drop i chunk) n }

pub rest_join : {chunk rest more : List ℕ} → IsRest chunk rest → IsRest rest more → IsRest chunk more
rest_join {chunk} {rest} {more} p q =
    rest-behind {k = passed chunk rest + passed rest more} (omega (arith, rest-within p))
    (q.all ∙ ap (drop (passed rest more)) p.all ∙ drop-drop (passed rest more) (passed chunk rest) chunk)

-- The first line, without its line end, and what is behind it.
pub record SplitLine (chunk first rest : List ℕ) : Type 0 where
  pub end : ℕ
  pub ends : LineEnd chunk 0 end
  pub inside : end < length chunk
  pub before : first ≡ piece chunk 0 end
  pub behind : rest ≡ drop (end + 1) chunk

-- What the place of the first line end says.
pub splits
    : (chunk : List ℕ) (o : Option ℕ)
    → o ≡ position (λ (b : ℕ). b == 10) chunk
    → MatchOption o (LineEnd chunk 0 (length chunk)) (λ i. SplitLine chunk (take i chunk) (drop (i + 1) chunk))
splits chunk o e = go o (line_ends chunk 0 o (omega arith) e) (ends-within chunk o e)
  where
    go : (p : Option ℕ) → MatchOption p (LineEnd chunk 0 (length chunk)) (λ i. LineEnd chunk 0 (0 + i)) → MatchOption p (Unit {0}) (λ i. i < length chunk)
        → MatchOption p (LineEnd chunk 0 (length chunk)) (λ i. SplitLine chunk (take i chunk) (drop (i + 1) chunk))
    go None l h = l
    go (Some i) l h =
        let n : i - 0 ≡ i = omega arith in
        let z : 0 + i ≡ i = omega arith in
        record { end = i; ends = rw z at l; inside = h; before = sym (ap (λ (k : ℕ). take k chunk) n); behind = refl }

pub split-rest : {chunk first rest : List ℕ} → SplitLine chunk first rest → IsRest chunk rest
split-rest s = rest-behind {k = s.end + 1} (omega (arith, s.inside)) s.behind

-- A line is taken.
pub turn-split
    : {z : Sizes} {s chunk held out : List ℕ} {have n used : ℕ} {first rest : List ℕ} (held' : List ℕ) {s' out' : List ℕ} {used' : ℕ}
    → TurnAsks z s chunk held out (fed 0 have n used)
    → SplitLine chunk first rest
    → TextTook z s s' n held have first out used out' used'
    → Turned z chunk s held out (fed 0 have n used) s' held' out' (fed (passed chunk rest) 0 (n + 1) used')
turn-split {z} {s} {chunk} {held} {out} {have} {n} {used} {first} {rest} held' {s'} {out'} {used'} a l t =
    let p : l.end + 1 ≡ passed chunk rest = omega (arith, l.inside, ap length l.behind, length-drop (l.end + 1) chunk) in
    let w : TextTook z s s' n held have (piece chunk 0 l.end) out used out' used' = subst (λ (xs : List ℕ). TextTook z s s' n held have xs out used out' used') l.before t in
    subst (λ (k : ℕ). Turned z chunk s held out (fed 0 have n used) s' held' out' (fed k 0 (n + 1) used')) p
    (turn-line held' (record { turn = a; line = l.ends; inside = l.inside }) w)

-- No line ends in the chunk: it is kept.
pub turn-all
    : {z : Sizes} {s chunk held out : List ℕ} {have n used kept : ℕ} {held' : List ℕ}
    → TurnAsks z s chunk held out (fed 0 have n used)
    → LineEnd chunk 0 (length chunk)
    → Kept held have chunk held' kept
    → Turned z chunk s held out (fed 0 have n used) s held' out (fed (passed chunk []) kept n used)
turn-all {z} {s} {chunk} {held} {out} {have} {n} {used} {kept} {held'} a l k =
    let e : length chunk ≡ passed chunk [] = omega arith in
    let p : Kept held have (piece chunk 0 (length chunk)) held' kept = subst (λ (xs : List ℕ). Kept held have xs held' kept) (sym (piece-rest chunk 0)) k in
    subst (λ (i : ℕ). Turned z chunk s held out (fed 0 have n used) s held' out (fed i kept n used)) e (turn-keep a l (omega arith) p)

-- What is asked for a chunk is asked for its rest.
pub asks_on
    : {z : Sizes} {s chunk rest held out : List ℕ} {have n used : ℕ}
    → IsRest chunk rest
    → FeedAsks z s chunk held out (fed (passed chunk rest) have n used)
    → FeedAsks z s rest held out (fed 0 have n used)
asks_on r a =
    record {
      well = a.well;
      line = a.line;
      few = a.few;
      within = omega arith;
      used = a.used;
      numbers = omega (arith, a.numbers, rest-within r);
    }

piece_on : (chunk rest : List ℕ) (k j i : ℕ) → rest ≡ drop k chunk → j ≡ k + i → piece chunk k j ≡ piece rest 0 i
piece_on chunk rest k j i e n =
    let m : j - k ≡ i - 0 = omega (arith, n) in
    ap (λ (x : ℕ). take x (drop k chunk)) m ∙ ap (take (i - 0)) (sym e)

module _ {chunk rest : List ℕ} {k j i : ℕ} (e : rest ≡ drop k chunk) (h : k ≤ length chunk) (n : j ≡ k + i) where
  follows_on
      : {z : Sizes} {s t lines s' held' : List ℕ} {have m used have' m' used' : ℕ}
      → Follows z rest s (fed 0 have m used) t lines s' held' (fed i have' m' used')
      → Follows z chunk s (fed k have m used) t lines s' held' (fed j have' m' used')
  follows_on {t = t} a =
      record {
        taken = a.taken;
        begun = a.begun;
        held = a.held;
        split = λ more. ap (λ (ys : List ℕ). lines_of (t ++ ys ++ more)) (piece_on chunk rest k j i e n) ∙ a.split more;
        number = a.number;
        machine = a.machine;
        printed = a.printed;
      }

  -- What was read of the rest was read of the chunk.
  went_on
      : {z : Sizes} {s held out s' held' out' : List ℕ} {have m used have' m' used' : ℕ}
      → Went z rest s held out (fed 0 have m used) s' held' out' (fed i have' m' used')
      → Went z chunk s held out (fed k have m used) s' held' out' (fed j have' m' used')
  went_on w =
      record {
        well = w.well;
        behind = w.behind;
        lines = w.lines;
        put = w.put;
        on = omega (arith, n);
        within = omega (arith, n, w.within, h, ap length e, length-drop k chunk);
        few = w.few;
        numbers = omega (arith, n, w.numbers);
        follows = λ t c. follows_on (w.follows t c);
      }

  turned_on
      : {z : Sizes} {s held out s' held' out' : List ℕ} {have m used have' m' used' : ℕ}
      → Turned z rest s held out (fed 0 have m used) s' held' out' (fed i have' m' used')
      → Turned z chunk s held out (fed k have m used) s' held' out' (fed j have' m' used')
  turned_on t = record { went = went_on t.went; moved = omega (arith, n, t.moved) }

  ends_on
      : {z : Sizes} {s held out s' held' out' : List ℕ} {have m used have' m' used' : ℕ}
      → FeedEnds z rest s held out (fed 0 have m used) s' held' out' (fed i have' m' used')
      → FeedEnds z chunk s held out (fed k have m used) s' held' out' (fed j have' m' used')
  ends_on a =
      record {
        went = went_on a.went;
        moved = λ l r. omega (arith, n, a.moved (omega (arith, l, ap length e, length-drop k chunk)) r);
        ends = λ l. a.ends (omega (arith, n, l, ap length e, length-drop k chunk));
      }

-- And so it is of the rest of a rest.
pub rest-turned
    : {z : Sizes} {s chunk rest more held out s' held' out' : List ℕ} {have n used have' n' used' : ℕ}
    → IsRest chunk rest
    → IsRest rest more
    → Turned z rest s held out (fed 0 have n used) s' held' out' (fed (passed rest more) have' n' used')
    → Turned z chunk s held out (fed (passed chunk rest) have n used) s' held' out' (fed (passed chunk more) have' n' used')
rest-turned p q t = turned_on p.all (omega arith) (omega (arith, rest-within p, rest-within q)) t

pub rest-ends
    : {z : Sizes} {s chunk rest more held out s' held' out' : List ℕ} {have n used have' n' used' : ℕ}
    → IsRest chunk rest
    → IsRest rest more
    → FeedEnds z rest s held out (fed 0 have n used) s' held' out' (fed (passed rest more) have' n' used')
    → FeedEnds z chunk s held out (fed (passed chunk rest) have n used) s' held' out' (fed (passed chunk more) have' n' used')
rest-ends p q t = ends_on p.all (omega arith) (omega (arith, rest-within p, rest-within q)) t

-- The loop of `feed` begins with the whole chunk, and a turn takes the rest.
pub feed-first
    : {z : Sizes} {s chunk held out : List ℕ} {have n used : ℕ}
    → FeedAsks z s chunk held out (fed 0 have n used)
    → Feeding z chunk s held out (fed 0 have n used) s held out (fed (passed chunk chunk) have n used)
feed-first {z} {s} {chunk} {held} {out} {have} {n} {used} a =
    let e : 0 ≡ passed chunk chunk = omega arith in
    subst (λ (k : ℕ). Feeding z chunk s held out (fed 0 have n used) s held out (fed k have n used)) e (feed-start a)

pub rest-turn
    : {z : Sizes} {chunk s₀ held₀ out₀ : List ℕ} {f₀ : Fed} {rest s held out : List ℕ} {have n used most : ℕ}
    → Feeding z chunk s₀ held₀ out₀ f₀ s held out (fed (passed chunk rest) have n used)
    → IsRest chunk rest
    → 0 < length rest
    → most ≡ line_most z
    → most ≤ length out - used
    → TurnAsks z s rest held out (fed 0 have n used)
rest-turn l r h e k = record { asks = asks_on r l.asks; more = h; room = omega (arith, l.asks.used) }
