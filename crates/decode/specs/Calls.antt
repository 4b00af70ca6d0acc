-- Each kind of step: its fields, as the code reads them, make the body that the bytes ask.
use Rattle.std.specs.Prelude.{◌≡◌, refl, List, ℕ, ◌+◌, ◌*◌, length, get_or, Option, Some, None, MatchOption, ⊤}
use Rattle.std.proofs.Common.{sym, arith, ne_eqb}
use denote.Ref.{Bor}
use Rattle.std.proofs.Math.Option as math
use Rattle.std.proofs.Math.Option.{none, some}
use Rattle.machine.specs.Step.{Body, kinds, fill, start, rfork, name, sched, yield, sleep, tsleep, wakeup, qlock, canqlock, qunlock, cond, clock, tadd, tdel, intr, due, exit, wait}
use Rattle.machine.specs.Bytes.{numbers_at, decode_body}
use Rattle.decode.specs.declared.Call.{Call}
use Rattle.decode.specs.declared.Call.TheVariants.{Start, Rfork, Name, Sched, Yield, Sleep, Tsleep, Wakeup, Qlock, Canqlock, Qunlock, Cond, Clock, Tadd, Tdel, Intr, Due, Exit, Wait}
use Rattle.decode.specs.Means.{body_of, Ranged}
use Rattle.decode.specs.Fields.{Fields, IsString, NoString}
use Rattle.decode.specs.Kinds.{form_for, numbers-body, numbers-unfit, string_body, string_unfit, no-kind}

-- What the code's answer asks.
unfoldable pub asked : Option Call → math.Option Body
asked None = none
asked (Some c) = some (body_of c)

-- It is what the bytes ask.
pub record Read (b : List ℕ) (r : Option Call) : Type 0 where
  pub body : asked r ≡ decode_body kinds b
  pub ranged : MatchOption r ⊤ Ranged

unread : {b : List ℕ} → decode_body kinds b ≡ none → Read b None
unfolding asked
unread e = record { body = sym e; ranged = tt }

module _ {b : List ℕ} where
  pub read-start : {xs : List ℕ} → get_or b 0 0 ≡ 1 → Fields 1 b xs → Read b (Some (Start (get_or xs 0 0)))
  unfolding asked body_of Ranged kinds form_for fill numbers_at
  read-start e h = record { body = rw ((h.number 0 (omega arith)).value) (sym (numbers-body b e 1 start refl h.exact)); ranged = (h.number 0 (omega arith)).below }

  pub unread-start : get_or b 0 0 ≡ 1 → (length b ≡ 2 + 8 * 1 → ⊥) → Read b None
  unfolding kinds form_for
  unread-start e h = unread (numbers-unfit b e 1 start refl h)

  pub read-rfork : {xs : List ℕ} → get_or b 0 0 ≡ 2 → Fields 2 b xs → Read b (Some (Rfork (get_or xs 0 0) (get_or xs 1 0)))
  unfolding asked body_of Ranged kinds form_for fill numbers_at
  read-rfork e h = record { body = rw ((h.number 0 (omega arith)).value, (h.number 1 (omega arith)).value) (sym (numbers-body b e 2 rfork refl h.exact)); ranged = ((h.number 0 (omega arith)).below, (h.number 1 (omega arith)).below) }

  pub unread-rfork : get_or b 0 0 ≡ 2 → (length b ≡ 2 + 8 * 2 → ⊥) → Read b None
  unfolding kinds form_for
  unread-rfork e h = unread (numbers-unfit b e 2 rfork refl h)

  pub read-name : {s : Bor (List ℕ)} → get_or b 0 0 ≡ 3 → IsString b s.now → Read b (Some (Name s))
  unfolding asked body_of Ranged kinds form_for
  read-name e h = record { body = sym (string_body b e name refl h); ranged = tt }

  pub unread-name : get_or b 0 0 ≡ 3 → NoString b → Read b None
  unfolding kinds form_for
  unread-name e h = unread (string_unfit b e name refl h)

  pub read-sched : {xs : List ℕ} → get_or b 0 0 ≡ 4 → Fields 0 b xs → Read b (Some Sched)
  unfolding asked body_of Ranged kinds form_for fill numbers_at
  read-sched e h = record { body = sym (numbers-body b e 0 sched refl h.exact); ranged = tt }

  pub unread-sched : get_or b 0 0 ≡ 4 → (length b ≡ 2 + 8 * 0 → ⊥) → Read b None
  unfolding kinds form_for
  unread-sched e h = unread (numbers-unfit b e 0 sched refl h)

  pub read-yield : {xs : List ℕ} → get_or b 0 0 ≡ 5 → Fields 0 b xs → Read b (Some Yield)
  unfolding asked body_of Ranged kinds form_for fill numbers_at
  read-yield e h = record { body = sym (numbers-body b e 0 yield refl h.exact); ranged = tt }

  pub unread-yield : get_or b 0 0 ≡ 5 → (length b ≡ 2 + 8 * 0 → ⊥) → Read b None
  unfolding kinds form_for
  unread-yield e h = unread (numbers-unfit b e 0 yield refl h)

  pub read-sleep : {xs : List ℕ} → get_or b 0 0 ≡ 6 → Fields 2 b xs → Read b (Some (Sleep (get_or xs 0 0) (get_or xs 1 0)))
  unfolding asked body_of Ranged kinds form_for fill numbers_at
  read-sleep e h = record { body = rw ((h.number 0 (omega arith)).value, (h.number 1 (omega arith)).value) (sym (numbers-body b e 2 sleep refl h.exact)); ranged = ((h.number 0 (omega arith)).below, (h.number 1 (omega arith)).below) }

  pub unread-sleep : get_or b 0 0 ≡ 6 → (length b ≡ 2 + 8 * 2 → ⊥) → Read b None
  unfolding kinds form_for
  unread-sleep e h = unread (numbers-unfit b e 2 sleep refl h)

  pub read-tsleep : {xs : List ℕ} → get_or b 0 0 ≡ 7 → Fields 5 b xs → Read b (Some (Tsleep (record { rendez = get_or xs 0 0; condition = get_or xs 1 0; seconds = get_or xs 2 0; nanoseconds = get_or xs 3 0; reading = get_or xs 4 0 })))
  unfolding asked body_of Ranged kinds form_for fill numbers_at
  read-tsleep e h = record { body = rw ((h.number 0 (omega arith)).value, (h.number 1 (omega arith)).value, (h.number 2 (omega arith)).value, (h.number 3 (omega arith)).value, (h.number 4 (omega arith)).value) (sym (numbers-body b e 5 tsleep refl h.exact)); ranged = ((h.number 0 (omega arith)).below, (h.number 1 (omega arith)).below, (h.number 2 (omega arith)).below, (h.number 3 (omega arith)).below, (h.number 4 (omega arith)).below) }

  pub unread-tsleep : get_or b 0 0 ≡ 7 → (length b ≡ 2 + 8 * 5 → ⊥) → Read b None
  unfolding kinds form_for
  unread-tsleep e h = unread (numbers-unfit b e 5 tsleep refl h)

  pub read-wakeup : {xs : List ℕ} → get_or b 0 0 ≡ 8 → Fields 1 b xs → Read b (Some (Wakeup (get_or xs 0 0)))
  unfolding asked body_of Ranged kinds form_for fill numbers_at
  read-wakeup e h = record { body = rw ((h.number 0 (omega arith)).value) (sym (numbers-body b e 1 wakeup refl h.exact)); ranged = (h.number 0 (omega arith)).below }

  pub unread-wakeup : get_or b 0 0 ≡ 8 → (length b ≡ 2 + 8 * 1 → ⊥) → Read b None
  unfolding kinds form_for
  unread-wakeup e h = unread (numbers-unfit b e 1 wakeup refl h)

  pub read-qlock : {xs : List ℕ} → get_or b 0 0 ≡ 9 → Fields 1 b xs → Read b (Some (Qlock (get_or xs 0 0)))
  unfolding asked body_of Ranged kinds form_for fill numbers_at
  read-qlock e h = record { body = rw ((h.number 0 (omega arith)).value) (sym (numbers-body b e 1 qlock refl h.exact)); ranged = (h.number 0 (omega arith)).below }

  pub unread-qlock : get_or b 0 0 ≡ 9 → (length b ≡ 2 + 8 * 1 → ⊥) → Read b None
  unfolding kinds form_for
  unread-qlock e h = unread (numbers-unfit b e 1 qlock refl h)

  pub read-canqlock : {xs : List ℕ} → get_or b 0 0 ≡ 10 → Fields 1 b xs → Read b (Some (Canqlock (get_or xs 0 0)))
  unfolding asked body_of Ranged kinds form_for fill numbers_at
  read-canqlock e h = record { body = rw ((h.number 0 (omega arith)).value) (sym (numbers-body b e 1 canqlock refl h.exact)); ranged = (h.number 0 (omega arith)).below }

  pub unread-canqlock : get_or b 0 0 ≡ 10 → (length b ≡ 2 + 8 * 1 → ⊥) → Read b None
  unfolding kinds form_for
  unread-canqlock e h = unread (numbers-unfit b e 1 canqlock refl h)

  pub read-qunlock : {xs : List ℕ} → get_or b 0 0 ≡ 11 → Fields 1 b xs → Read b (Some (Qunlock (get_or xs 0 0)))
  unfolding asked body_of Ranged kinds form_for fill numbers_at
  read-qunlock e h = record { body = rw ((h.number 0 (omega arith)).value) (sym (numbers-body b e 1 qunlock refl h.exact)); ranged = (h.number 0 (omega arith)).below }

  pub unread-qunlock : get_or b 0 0 ≡ 11 → (length b ≡ 2 + 8 * 1 → ⊥) → Read b None
  unfolding kinds form_for
  unread-qunlock e h = unread (numbers-unfit b e 1 qunlock refl h)

  pub read-cond : {xs : List ℕ} → get_or b 0 0 ≡ 12 → Fields 2 b xs → Read b (Some (Cond (get_or xs 0 0) (get_or xs 1 0)))
  unfolding asked body_of Ranged kinds form_for fill numbers_at
  read-cond e h = record { body = rw ((h.number 0 (omega arith)).value, (h.number 1 (omega arith)).value) (sym (numbers-body b e 2 cond refl h.exact)); ranged = ((h.number 0 (omega arith)).below, (h.number 1 (omega arith)).below) }

  pub unread-cond : get_or b 0 0 ≡ 12 → (length b ≡ 2 + 8 * 2 → ⊥) → Read b None
  unfolding kinds form_for
  unread-cond e h = unread (numbers-unfit b e 2 cond refl h)

  pub read-clock : {xs : List ℕ} → get_or b 0 0 ≡ 13 → Fields 1 b xs → Read b (Some (Clock (get_or xs 0 0)))
  unfolding asked body_of Ranged kinds form_for fill numbers_at
  read-clock e h = record { body = rw ((h.number 0 (omega arith)).value) (sym (numbers-body b e 1 clock refl h.exact)); ranged = (h.number 0 (omega arith)).below }

  pub unread-clock : get_or b 0 0 ≡ 13 → (length b ≡ 2 + 8 * 1 → ⊥) → Read b None
  unfolding kinds form_for
  unread-clock e h = unread (numbers-unfit b e 1 clock refl h)

  pub read-tadd : {xs : List ℕ} → get_or b 0 0 ≡ 14 → Fields 6 b xs → Read b (Some (Tadd (record { timer = get_or xs 0 0; kind = get_or xs 1 0; seconds = get_or xs 2 0; nanoseconds = get_or xs 3 0; rendez = get_or xs 4 0; reading = get_or xs 5 0 })))
  unfolding asked body_of Ranged kinds form_for fill numbers_at
  read-tadd e h = record { body = rw ((h.number 0 (omega arith)).value, (h.number 1 (omega arith)).value, (h.number 2 (omega arith)).value, (h.number 3 (omega arith)).value, (h.number 4 (omega arith)).value, (h.number 5 (omega arith)).value) (sym (numbers-body b e 6 tadd refl h.exact)); ranged = ((h.number 0 (omega arith)).below, (h.number 1 (omega arith)).below, (h.number 2 (omega arith)).below, (h.number 3 (omega arith)).below, (h.number 4 (omega arith)).below, (h.number 5 (omega arith)).below) }

  pub unread-tadd : get_or b 0 0 ≡ 14 → (length b ≡ 2 + 8 * 6 → ⊥) → Read b None
  unfolding kinds form_for
  unread-tadd e h = unread (numbers-unfit b e 6 tadd refl h)

  pub read-tdel : {xs : List ℕ} → get_or b 0 0 ≡ 15 → Fields 1 b xs → Read b (Some (Tdel (get_or xs 0 0)))
  unfolding asked body_of Ranged kinds form_for fill numbers_at
  read-tdel e h = record { body = rw ((h.number 0 (omega arith)).value) (sym (numbers-body b e 1 tdel refl h.exact)); ranged = (h.number 0 (omega arith)).below }

  pub unread-tdel : get_or b 0 0 ≡ 15 → (length b ≡ 2 + 8 * 1 → ⊥) → Read b None
  unfolding kinds form_for
  unread-tdel e h = unread (numbers-unfit b e 1 tdel refl h)

  pub read-intr : {xs : List ℕ} → get_or b 0 0 ≡ 16 → Fields 1 b xs → Read b (Some (Intr (get_or xs 0 0)))
  unfolding asked body_of Ranged kinds form_for fill numbers_at
  read-intr e h = record { body = rw ((h.number 0 (omega arith)).value) (sym (numbers-body b e 1 intr refl h.exact)); ranged = (h.number 0 (omega arith)).below }

  pub unread-intr : get_or b 0 0 ≡ 16 → (length b ≡ 2 + 8 * 1 → ⊥) → Read b None
  unfolding kinds form_for
  unread-intr e h = unread (numbers-unfit b e 1 intr refl h)

  pub read-due : {xs : List ℕ} → get_or b 0 0 ≡ 17 → Fields 0 b xs → Read b (Some Due)
  unfolding asked body_of Ranged kinds form_for fill numbers_at
  read-due e h = record { body = sym (numbers-body b e 0 due refl h.exact); ranged = tt }

  pub unread-due : get_or b 0 0 ≡ 17 → (length b ≡ 2 + 8 * 0 → ⊥) → Read b None
  unfolding kinds form_for
  unread-due e h = unread (numbers-unfit b e 0 due refl h)

  pub read-exit : {s : Bor (List ℕ)} → get_or b 0 0 ≡ 18 → IsString b s.now → Read b (Some (Exit s))
  unfolding asked body_of Ranged kinds form_for
  read-exit e h = record { body = sym (string_body b e exit refl h); ranged = tt }

  pub unread-exit : get_or b 0 0 ≡ 18 → NoString b → Read b None
  unfolding kinds form_for
  unread-exit e h = unread (string_unfit b e exit refl h)

  pub read-wait : {xs : List ℕ} → get_or b 0 0 ≡ 19 → Fields 0 b xs → Read b (Some Wait)
  unfolding asked body_of Ranged kinds form_for fill numbers_at
  read-wait e h = record { body = sym (numbers-body b e 0 wait refl h.exact); ranged = tt }

  pub unread-wait : get_or b 0 0 ≡ 19 → (length b ≡ 2 + 8 * 0 → ⊥) → Read b None
  unfolding kinds form_for
  unread-wait e h = unread (numbers-unfit b e 0 wait refl h)

  -- No kind has another number.
  pub unread-other
      : (get_or b 0 0 ≡ 1 → ⊥)
      → (get_or b 0 0 ≡ 2 → ⊥)
      → (get_or b 0 0 ≡ 3 → ⊥)
      → (get_or b 0 0 ≡ 4 → ⊥)
      → (get_or b 0 0 ≡ 5 → ⊥)
      → (get_or b 0 0 ≡ 6 → ⊥)
      → (get_or b 0 0 ≡ 7 → ⊥)
      → (get_or b 0 0 ≡ 8 → ⊥)
      → (get_or b 0 0 ≡ 9 → ⊥)
      → (get_or b 0 0 ≡ 10 → ⊥)
      → (get_or b 0 0 ≡ 11 → ⊥)
      → (get_or b 0 0 ≡ 12 → ⊥)
      → (get_or b 0 0 ≡ 13 → ⊥)
      → (get_or b 0 0 ≡ 14 → ⊥)
      → (get_or b 0 0 ≡ 15 → ⊥)
      → (get_or b 0 0 ≡ 16 → ⊥)
      → (get_or b 0 0 ≡ 17 → ⊥)
      → (get_or b 0 0 ≡ 18 → ⊥)
      → (get_or b 0 0 ≡ 19 → ⊥)
      → Read b None
  unfolding kinds form_for
  unread-other n1 n2 n3 n4 n5 n6 n7 n8 n9 n10 n11 n12 n13 n14 n15 n16 n17 n18 n19 =
      unread (no-kind b refl (rw (ne_eqb 1 (get_or b 0 0) (λ e. n1 (sym e)), ne_eqb 2 (get_or b 0 0) (λ e. n2 (sym e)), ne_eqb 3 (get_or b 0 0) (λ e. n3 (sym e)), ne_eqb 4 (get_or b 0 0) (λ e. n4 (sym e)), ne_eqb 5 (get_or b 0 0) (λ e. n5 (sym e)), ne_eqb 6 (get_or b 0 0) (λ e. n6 (sym e)), ne_eqb 7 (get_or b 0 0) (λ e. n7 (sym e)), ne_eqb 8 (get_or b 0 0) (λ e. n8 (sym e)), ne_eqb 9 (get_or b 0 0) (λ e. n9 (sym e)), ne_eqb 10 (get_or b 0 0) (λ e. n10 (sym e)), ne_eqb 11 (get_or b 0 0) (λ e. n11 (sym e)), ne_eqb 12 (get_or b 0 0) (λ e. n12 (sym e)), ne_eqb 13 (get_or b 0 0) (λ e. n13 (sym e)), ne_eqb 14 (get_or b 0 0) (λ e. n14 (sym e)), ne_eqb 15 (get_or b 0 0) (λ e. n15 (sym e)), ne_eqb 16 (get_or b 0 0) (λ e. n16 (sym e)), ne_eqb 17 (get_or b 0 0) (λ e. n17 (sym e)), ne_eqb 18 (get_or b 0 0) (λ e. n18 (sym e)), ne_eqb 19 (get_or b 0 0) (λ e. n19 (sym e)))))

-- All of them, for the match on the kind.
pub ruleset reading = (read-start, unread-start, read-rfork, unread-rfork, read-name, unread-name, read-sched, unread-sched, read-yield, unread-yield, read-sleep, unread-sleep, read-tsleep, unread-tsleep, read-wakeup, unread-wakeup, read-qlock, unread-qlock, read-canqlock, unread-canqlock, read-qunlock, unread-qunlock, read-cond, unread-cond, read-clock, unread-clock, read-tadd, unread-tadd, read-tdel, unread-tdel, read-intr, unread-intr, read-due, unread-due, read-exit, unread-exit, read-wait, unread-wait, unread-other)
