-- The line begun, of which at most 4,097 bytes are held.
use Rattle.std.specs.Prelude.{◌≡◌, List, ◌++◌, ℕ, ◌+◌, ◌-◌, ◌≤◌, ◌<◌, min, length, take}
use Rattle.std.proofs.Common.{sym, ap, ◌∙◌, arith, length-append, length-take-le}
use Rattle.std.proofs.Math.Decide.{dec_le}
use Rattle.std.proofs.Math.Seq.{take-length, paste}
use Rattle.std.proofs.lemmas.List.Edits.{length-paste, take-paste}
use Rattle.lists.specs.Lists.{each_append}
use Rattle.machine.specs.Parse.{parse_line}
use Rattle.listing.specs.Lines.{NoEnd, parse-long}

-- There is room for a line of 4,096 bytes and one more.
abbrev pub held_most : ℕ
held_most = 4097

-- The line begun is h: `have` bytes of it are held, which are all of it up to 4,096; 4,097 stand for any longer one.
pub record HeldIs (held : List ℕ) (have : ℕ) (h : List ℕ) : Type 0 where
  pub plain : NoEnd h
  pub short : have ≤ 4096 → h ≡ take have held
  pub long : 4096 < have → 4096 < length h

-- The bytes of a text are kept behind those held, as far as there is room; then r are held.
pub record Kept (held : List ℕ) (have : ℕ) (text held' : List ℕ) (r : ℕ) : Type 0 where
  pub ends : r ≡ min (have + length text) (length held)
  pub bytes : held' ≡ paste held have text (r - have)
  pub long : length held' ≡ length held

-- The first n bytes of a text are pasted, as many as there is room for.
pub kept
    : (held : List ℕ) (have : ℕ) (text held' : List ℕ) (n : ℕ)
    → have ≤ length held
    → n ≡ min (length text) (length held - have)
    → held' ≡ paste held have text n
    → Kept held have text held' (have + n)
kept held have text held' n h e p =
    let d : have + n - have ≡ n = omega arith in
    record {
      ends = omega arith;
      bytes = rw d p;
      long = ap length p ∙ length-paste held have text n (omega arith) (omega arith);
    }

-- What is held lies within the buffer.
pub kept-within : {held : List ℕ} {have : ℕ} {text held' : List ℕ} {r : ℕ} → Kept held have text held' r → r ≡ length (take r held')
kept-within {held} {have} {text} {held'} {r} k = sym (length-take-le r held' (omega (arith, k.ends, k.long)))

-- by cases
pub up_to : {A : Type 0} (a b : ℕ) → (a ≤ b → A) → (b < a → A) → A
up_to {A} a b f g = go (dec_le a b)
  where
    go : Dec (a ≤ b) → A
    go (yes h) = f h
    go (no h) = g (omega arith)

-- What is held then is the line with the text behind it.
pub held_more
    : {held : List ℕ} {have : ℕ} {h text held' : List ℕ} {r : ℕ}
    → length held ≡ held_most
    → have ≤ held_most
    → HeldIs held have h
    → NoEnd text
    → Kept held have text held' r
    → HeldIs held' r (h ++ text)
held_more {held} {have} {h} {text} {held'} {r} e f b n k =
    record {
      plain = each_append (λ (c : ℕ). c ≡ 10 → ⊥) h text b.plain n;
      short = λ s.
          let q : r ≡ have + length text = omega (arith, k.ends) in
          let d : r - have ≡ length text = omega arith in
          rw (k.bytes, d, q, take-paste held have text (length text) (omega arith) (omega arith), take-length text)
          (ap (λ (xs : List ℕ). xs ++ text) (b.short (omega arith)));
      long = λ l.
          rw (length-append h text)
          (up_to have 4096 (λ s. omega (arith, k.ends, ap length (b.short s), length-take-le have held (omega arith)))
          (λ m. omega (arith, b.long m)));
    }

-- The line to be parsed: what is held stands for it.
pub held-parse
    : {held : List ℕ} {have : ℕ} {h : List ℕ}
    → length held ≡ held_most
    → have ≤ held_most
    → HeldIs held have h
    → parse_line (take have held) ≡ parse_line h
held-parse {held} {have} {h} e f b =
    up_to have 4096 (λ s. ap parse_line (sym (b.short s)))
    (λ l. parse-long (take have held) (omega (arith, length-take-le have held (omega arith))) ∙ sym (parse-long h (b.long l)))
