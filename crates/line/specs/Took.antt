-- What the code shows at each call of the printer and each return.
use denote.Ref.{Bor}
use Rattle.std.specs.Prelude.{◌≡◌, refl, Bool, List, ℕ, ◌+◌, ◌-◌, ◌*◌, ◌≤◌, take, drop, Result, Ok, Err, Some, None}
use Rattle.std.specs.Prelude as code
use Rattle.std.proofs.Math.Path.{sym, ap}
use Rattle.std.proofs.Common.{subst, ◌∙◌, arith, length-append}
use Rattle.std.proofs.Math.Bool.{false}
use Rattle.std.proofs.Math.Option.{Option, none, some}
use Rattle.std.proofs.Math.ListN.{length}
use Rattle.machine.specs.Bytes.{decode}
use Rattle.machine.specs.Step.{Step, exit}
use Rattle.machine.specs.Machine.{Machine}
use Rattle.machine.specs.Outcome as machine
use Rattle.machine.specs.Outcome.{Outcome}
use Rattle.machine.specs.StepOf.{outcome_of, refusing}
use Rattle.machine.specs.Print.{print_line}
use Rattle.state.specs.declared.Sizes.{Sizes}
use Rattle.kept.proofs.Kept.{good-outcome}
use Rattle.machine.specs.Good.{Good}
use Rattle.holds.specs.Did.{machine_in}
use Rattle.decode.specs.declared.Call.{Call}
use Rattle.decode.specs.declared.Call.TheVariants.{Start, Rfork, Name, Sched, Yield, Sleep, Tsleep, Wakeup, Qlock, Canqlock, Qunlock, Cond, Clock, Tadd, Tdel, Intr, Due, Exit, Wait}
use Rattle.decode.specs.declared.Decoded.{Decoded}
use Rattle.decode.specs.Means.{body_of}
use Rattle.decode.specs.Decodes.{Decodes, is-step, is_none}
use Rattle.outcome.specs.declared.Reply.{Reply}
use Rattle.outcome.specs.declared.Refusal.{Refusal}
use Rattle.outcome.specs.declared.Refusal.TheVariants.{NoSuchStep}
use Rattle.outcome.specs.Length.{length_of}
use Rattle.outcome.specs.Means.{means, told, status_of}
use Rattle.outcome.specs.Refusals.{step}
use Rattle.proc.specs.Arms.{CallTook, take-took, take-none}
use Rattle.proc.specs.Silent.{tells, is_child}
use Rattle.proc.specs.Taken.{Taken, status_in, given}
use Rattle.parse.specs.Parsed.{Parsed}
use Rattle.print.specs.Line.{LineAsks as PrintAsks, Printed}
use Rattle.print.specs.Put.{put_as}
use Rattle.line.specs.Line.{StepAsks, line_most, with_message, LineTook, LineTaken}
use Rattle.line.specs.Status.{Short, status_short}
use Rattle.line.specs.Text.{exits, tells_exit, given-tells, given-silent, other-buffer, other_status, silent-told}

-- What is no step tells of no exit.
none-tells : (m : Machine) (k : ℕ) → tells_exit (outcome_of m none k).reply ≡ false
unfolding outcome_of refusing
none-tells m k = refl

-- Nor does a call that is no `exit`.
other_case
    : (c : Call) (j : Bool) (m : Machine) (k : ℕ) → ((st : Bor (List ℕ)) → c ≡ Exit st → ⊥) → tells_exit (outcome_of m (some (step j (body_of c))) k).reply ≡ false
unfolding body_of exits
other_case (Start x) j m k ne = given-tells m _ k refl
other_case (Rfork f x) j m k ne = given-tells m _ k refl
other_case (Name b) j m k ne = given-tells m _ k refl
other_case Sched j m k ne = given-tells m _ k refl
other_case Yield j m k ne = given-tells m _ k refl
other_case (Sleep r c) j m k ne = given-tells m _ k refl
other_case (Tsleep f) j m k ne = given-tells m _ k refl
other_case (Wakeup r) j m k ne = given-tells m _ k refl
other_case (Qlock q) j m k ne = given-tells m _ k refl
other_case (Canqlock q) j m k ne = given-tells m _ k refl
other_case (Qunlock q) j m k ne = given-tells m _ k refl
other_case (Cond c v) j m k ne = given-tells m _ k refl
other_case (Clock now) j m k ne = given-tells m _ k refl
other_case (Tadd f) j m k ne = given-tells m _ k refl
other_case (Tdel t) j m k ne = given-tells m _ k refl
other_case (Intr now) j m k ne = given-tells m _ k refl
other_case Due j m k ne = given-tells m _ k refl
other_case (Exit st) j m k ne = absurd (ne st refl)
other_case Wait j m k ne = given-tells m _ k refl

-- The step of the bytes of an `exit`, and how long its status is.
module _ {b : List ℕ} {o : code.Option Decoded} {d : Decoded} {st : Bor (List ℕ)} (h : Decodes b o) (j : o ≡ Some d) (i : d.call ≡ Exit st) where
  exit-decoded : decode b ≡ some (step d.marked (exit st.now))
  unfolding body_of
  exit-decoded = is-step h j ∙ ap (λ (c : Call). some (step d.marked (body_of c))) i

  exit_length : length st.now ≤ length b - 6
  unfolding status_of
  exit_length = subst (Short b) exit-decoded (status_short b)

  exit-silent : (z : Sizes) (s m : List ℕ) → is_child (given z s (decode b) m).reply ≡ false
  unfolding tells
  exit-silent z s m = ap (λ (x : Option Step). is_child (given z s x m).reply) exit-decoded ∙ given-silent (machine_in z s) _ (length m) refl

-- What a step took, with its line: the reply printed is the definition's.
line-took
    : {z : Sizes} {s s' b m m' out : List ℕ} {at n : ℕ} {r : Result Reply Refusal} {text out' : List ℕ} {f : ℕ}
    → StepAsks z s b m out at
    → Taken z s s' (decode b) m m' r
    → means r text text ≡ means r m' (status_in (decode b))
    → 138 + length text + 21 * z.processes ≤ line_most z
    → Printed z s' n r text out at out' f
    → LineTook z s s' n (decode b) m m' out at out' f
line-took {z} {s} {s'} {b} {m} {m'} {out} {at} {n} {r} {text} {out'} {f} a t e l p =
    let o : given z s (decode b) m ≡ outcome_of (machine_in z s) (decode b) 127 =
    ap (λ (k : ℕ). outcome_of (machine_in z s) (decode b) k) a.message
    in
    let g : machine_in z s' ≡ (outcome_of (machine_in z s) (decode b) 127).after = t.machine ∙ ap (λ (u : Outcome). u.after) o in
    record {
      well = record { holds = t.holds; good = subst Good (sym g) (good-outcome (machine_in z s) (decode b) 127 a.well.good) };
      spares = t.spares;
      machine = g;
      message = t.message ∙ ap (λ (u : Outcome). with_message u.reply m) o;
      put =
          put_as p.put (ap (λ (u : machine.Reply). print_line n u (machine_in z s')) (e ∙ t.reply ∙ ap (λ (u : Outcome). u.reply) o)) l;
    }

-- An `exit`: its status is printed.
module _ {z : Sizes} {s s' b m m' out : List ℕ} {at : ℕ} {o : code.Option Decoded} {d : Decoded} {st : Bor (List ℕ)} {r : Result Reply Refusal} where
  pub exit-asks
      : StepAsks z s b m out at
      → Decodes b o
      → o ≡ Some d
      → d.call ≡ Exit st
      → CallTook z s s' d.marked d.call m m' r
      → PrintAsks z s' r st.now out at
  exit-asks a h j i t =
      let y : Taken z s s' (decode b) m m' r = take-took h j t in
      let l : length_of r ≡ 0 = y.long ∙ ap (λ (x : List ℕ). length x) (silent-told _ (exit-silent h j i z s m)) in
      record {
        holds = y.holds;
        room = omega (arith, exit_length h j i, a.room, a.short);
        fits = omega (arith, l);
      }

  pub exit-took
      : {n f : ℕ} {out' : List ℕ}
      → StepAsks z s b m out at
      → Decodes b o
      → o ≡ Some d
      → d.call ≡ Exit st
      → CallTook z s s' d.marked d.call m m' r
      → Printed z s' n r st.now out at out' f
      → LineTook z s s' n (decode b) m m' out at out' f
  unfolding status_in status_of
  exit-took a h j i t p =
      let y : Taken z s s' (decode b) m m' r = take-took h j t in
      let c : status_in (decode b) ≡ st.now = ap status_in (exit-decoded h j i) in
      let u : means r m' (status_in (decode b)) ≡ means r m' st.now = ap (means r m') c in
      let w : is_child (means r m' st.now) ≡ false = ap is_child (sym u ∙ y.reply) ∙ exit-silent h j i z s m in
      line-took a y (other-buffer r m' st.now st.now w ∙ sym u) (omega (arith, exit_length h j i, a.short)) p

-- Whatever tells of no exit: the message is printed.
message-asks
    : {z : Sizes} {s s' b m m' out : List ℕ} {at : ℕ} {r : Result Reply Refusal}
    → StepAsks z s b m out at
    → Taken z s s' (decode b) m m' r
    → length m ≡ length m'
    → PrintAsks z s' r m' out at
message-asks {z} {s} {b = b} {m = m} {m' = m'} a t k =
    let g : List ℕ = told (given z s (decode b) m).reply in
    let l : length m' ≡ length g + length (drop (length g) m) = ap length t.message ∙ length-append g (drop (length g) m) in
    record {
      holds = t.holds;
      room = omega (arith, a.room, k, a.message);
      fits = omega (arith, t.long, l);
    }

message-took
    : {z : Sizes} {s s' b m m' out : List ℕ} {at : ℕ} {r : Result Reply Refusal} {n f : ℕ} {out' : List ℕ}
    → StepAsks z s b m out at
    → Taken z s s' (decode b) m m' r
    → length m ≡ length m'
    → tells_exit (given z s (decode b) m).reply ≡ false
    → Printed z s' n r m' out at out' f
    → LineTook z s s' n (decode b) m m' out at out' f
message-took {b = b} {m' = m'} {r = r} a t k w p =
    line-took a t (other_status r m' (status_in (decode b)) m' (ap tells_exit t.reply ∙ w)) (omega (arith, k, a.message)) p

-- Any other step.
module _ {z : Sizes} {s s' b m m' out : List ℕ} {at : ℕ} {o : code.Option Decoded} {d : Decoded} {r : Result Reply Refusal} where
  pub other-asks
      : StepAsks z s b m out at
      → Decodes b o
      → o ≡ Some d
      → CallTook z s s' d.marked d.call m m' r
      → length m ≡ length m'
      → PrintAsks z s' r m' out at
  other-asks a h j t k = message-asks a (take-took h j t) k

  pub other-took
      : {n f : ℕ} {out' : List ℕ}
      → StepAsks z s b m out at
      → Decodes b o
      → o ≡ Some d
      → ((st : Bor (List ℕ)) → d.call ≡ Exit st → ⊥)
      → CallTook z s s' d.marked d.call m m' r
      → length m ≡ length m'
      → Printed z s' n r m' out at out' f
      → LineTook z s s' n (decode b) m m' out at out' f
  other-took a h j ne t k p =
      let w : tells_exit (given z s (decode b) m).reply ≡ false =
      ap (λ (x : Option Step). tells_exit (given z s x m).reply) (is-step h j) ∙ other_case d.call d.marked (machine_in z s) (length m) ne
      in
      message-took a (take-took h j t) k w p

-- What is no step.
module _ {z : Sizes} {s b m out : List ℕ} {at : ℕ} {o : code.Option Decoded} where
  pub none-asks : StepAsks z s b m out at → Decodes b o → o ≡ None → PrintAsks z s (Err NoSuchStep) m out at
  none-asks a h j = message-asks a (take-none a.well h j) refl

  pub none-took
      : {n f : ℕ} {out' : List ℕ}
      → StepAsks z s b m out at
      → Decodes b o
      → o ≡ None
      → Printed z s n (Err NoSuchStep) m out at out' f
      → LineTook z s s n (decode b) m m out at out' f
  none-took a h j p =
      let w : tells_exit (given z s (decode b) m).reply ≡ false =
      ap (λ (x : Option Step). tells_exit (given z s x m).reply) (is_none h j) ∙ none-tells (machine_in z s) (length m)
      in
      message-took a (take-none a.well h j) refl w p

-- The step bytes of a line stand for its step.
pub line_takes
    : {z : Sizes} {s s' b b₁ m m' out : List ℕ} {at n k : ℕ} {x : Option Step} {out' : List ℕ} {r : ℕ}
    → Parsed x b b₁ k
    → LineTook z s s' n (decode (take k b₁)) m m' out at out' r
    → LineTaken z s s' n x b b₁ m m' out at out' r
line_takes {z} {s} {s'} {m = m} {m'} {out} {at} {n} {k} {out' = out'} {r} p t =
    record { took = subst (λ (o : Option Step). LineTook z s s' n o m m' out at out' r) p.step t; many = k; parsed = p }
