-- What a step leaves of the bytes of a well-formed state.
use Rattle.std.specs.Prelude.{if◌then◌else◌, ◌≡◌, refl, Bool, true, false, ◌&&◌, List, [], ◌∷◌, ℕ, suc, eqb, length, drop, Result}
use Rattle.std.proofs.Common.{sym, ap, subst, subst₂, ◌∙◌, arith}
use Rattle.std.proofs.Math.Option.{Option, none, some}
use Rattle.machine.specs.Machine as machine
use Rattle.machine.specs.Machine.{Machine}
use Rattle.machine.specs.Good.{Good}
use Rattle.machine.specs.Step.{Step}
use Rattle.machine.specs.Table.{on}
use Rattle.machine.specs.Outcome.{Outcome, refused}
use Rattle.machine.specs.StepOf.{outcome_of}
use Rattle.layout.specs.Memory.{mem, cell}
use Rattle.layout.specs.Table.{total}
use Rattle.layout.specs.Writes.{Write, to, writes, Writable}
use Rattle.state.specs.Fields as fields
use Rattle.state.specs.Abs.{sizes_of, memory_of, machine_of, abs}
use Rattle.state.specs.Places.{sizes_in, mem_in}
use Rattle.state.specs.WellFormed.{Idle, WellFormed}
use Rattle.state.specs.declared.Sizes.{Sizes}
use Rattle.kept.proofs.Kept.{good-outcome}
use Rattle.holds.specs.Holds.{Holds}
use Rattle.holds.specs.Whole.{well-holds, holds-sizes, holds-machine, holds-rep, well-idle}
use Rattle.holds.specs.Did.{machine_in}
use Rattle.holds.specs.Use.{used_in}
use Rattle.holds.specs.Leftover.{cleared}
use Rattle.holds.specs.Touched.{Spares, spares-length, spares-behind, spares-unused, spares-idle}
use Rattle.outcome.specs.declared.Reply.{Reply}
use Rattle.outcome.specs.declared.Refusal.{Refusal}
use Rattle.outcome.specs.Stepped.{Well, left_bytes}
use Rattle.proc.specs.Taken.{Taken, left_in, given}

-- How many bytes of s its state takes.
abbrev pub total_of : List ℕ → ℕ
total_of s = total fields.layout1 (fields.counts (sizes_of s))

-- The bytes after stores to fields.
abbrev pub writes_to : List ℕ → List Write → List ℕ
writes_to s ws = writes fields.layout1 (fields.counts (sizes_of s)) s ws

-- Whether the machine of the bytes s determines field f of number i: 0 where it does not. It does where it uses it, and everywhere a field that is
-- 0 where it is not used.
abbrev determined_at : machine.Sizes → List ℕ → ℕ → ℕ → ℕ
determined_at v s f i = if cleared f then 1 else used_in v (mem fields.layout1 (fields.counts v) s) f i

abbrev pub determined_of : List ℕ → ℕ → ℕ → ℕ
determined_of s = determined_at (sizes_of s) s

-- A refused step leaves every byte, but for 11 on an rfork with M = 3, where the next pid rises by one.
unfoldable pub left_of : List ℕ → ℕ → Option Step → List ℕ
left_of s n none = s
left_of s n (some x) =
    if eqb n 11 && on 2 "rfork" (λ F M. eqb M 3) x.body then writes_to s (to fields.next_pid 0 (suc (abs s).next_pid) ∷ []) else s

-- The bytes s, well formed, became s' with the outcome o of what was handed in: they are well formed again and hold its machine; only
-- fields of the state are written; what that machine does not determine stays, and what is behind the state; a refusal leaves all. There is one such
-- s' (`One.antt`).
pub record After (s s' : List ℕ) (x : Option Step) (o : Outcome) : Type 0 where
  pub well_formed : WellFormed s'
  pub machine : abs s' ≡ o.after
  pub sizes : sizes_of s' ≡ sizes_of s
  pub stores : List Write
  pub writable : Writable fields.layout1 (fields.most_of (sizes_of s)) (fields.counts (sizes_of s)) stores
  pub bytes : s' ≡ writes_to s stores
  pub stays : (f i : ℕ) → determined_of s' f i ≡ 0 → memory_of s' f i ≡ memory_of s f i
  pub long : length s' ≡ length s
  pub behind : drop (total_of s) s' ≡ drop (total_of s) s
  pub left : (n : ℕ) → o.reply ≡ refused n → s' ≡ left_of s n x

-- A well-formed state, at the sizes that the code has read: what the steps ask of it, and that what is free has nothing.
pub record WellIn (z : Sizes) (s : List ℕ) : Type 0 where
  pub well : Well z s
  pub idle : Idle (mem_in z s)

pub well_of : {z : Sizes} {s : List ℕ} → WellFormed s → sizes_in z ≡ sizes_of s → WellIn z s
well_of {z} {s} w e =
    let h : Holds z s 0 = well-holds e w in
    record { well = record { holds = h; good = subst Good (holds-machine h) w.good }; idle = well-idle e w }

-- And back.
pub formed_of : {z : Sizes} {s : List ℕ} → WellIn z s → WellFormed s
formed_of w =
    record { rep = holds-rep w.well.holds w.idle; good = subst Good (sym (holds-machine w.well.holds)) w.well.good }

-- The same outcome, on the machine of the bytes.
pub outcome_of_lem : {z : Sizes} {s : List ℕ} (x : Option Step) (n : ℕ) → Well z s → outcome_of (abs s) x n ≡ outcome_of (machine_in z s) x n
outcome_of_lem x n w = ap (λ (m : Machine). outcome_of m x n) (holds-machine w.holds)

left_of_lem : (z : Sizes) (s : List ℕ) (n : ℕ) (x : Option Step) → Well z s → left_in z s n x ≡ left_of s n x
unfolding left_in left_of left_bytes abs machine_of cell
left_of_lem z s n none w = refl
left_of_lem z s n (some x) w =
    ap (λ (v : machine.Sizes). if eqb n 11 && on 2 "rfork" (λ F M. eqb M 3) x.body
    then writes fields.layout1 (fields.counts v) s (to fields.next_pid 0 (suc (mem fields.layout1 (fields.counts v) s fields.next_pid 0)) ∷ [])
    else s)
    (sym (holds-sizes w.holds))

-- What is not determined after stays, at sizes that are not yet known to be the headers'.
abbrev Stays : machine.Sizes → machine.Sizes → List ℕ → List ℕ → Type 0
Stays v v' s s' =
    (f i : ℕ) → determined_at v' s' f i ≡ 0 → mem fields.layout1 (fields.counts v') s' f i ≡ mem fields.layout1 (fields.counts v) s f i

stays_in : {z : Sizes} {s s' : List ℕ} → Spares z s s' → Stays (sizes_in z) (sizes_in z) s s'
stays_in {z} {s} {s'} t f i = go (cleared f) refl
  where
    go : (b : Bool) → cleared f ≡ b → (if b then 1 else used_in (sizes_in z) (mem_in z s') f i) ≡ 0 → mem_in z s' f i ≡ mem_in z s f i
    go true e d = absurd (omega (arith, d))
    go false e d = spares-unused t f i e d

-- What a step on a well-formed state leaves.
pub well-after
    : {z : Sizes} {s s' m m' : List ℕ} {x : Option Step} {r : Result Reply Refusal} → WellIn z s → Taken z s s' x m m' r → WellIn z s'
well-after {z} {s} {s'} {m} {x = x} w t =
    record {
      well = record { holds = t.holds; good = subst Good (sym t.machine) (good-outcome (machine_in z s) x (length m) w.well.good) };
      idle = spares-idle t.spares w.idle;
    }

pub after_of
    : {z : Sizes} {s s' m m' : List ℕ} {x : Option Step} {r : Result Reply Refusal}
    → WellIn z s
    → Taken z s s' x m m' r
    → After s s' x (outcome_of (abs s) x (length m))
after_of {z} {s} {s'} {m} {m'} {x} {r} w t =
    let o : outcome_of (abs s) x (length m) ≡ given z s x m = outcome_of_lem x (length m) w.well in
    let e : sizes_of s ≡ sizes_in z = holds-sizes w.well.holds in
    record {
      well_formed = formed_of (well-after w t);
      machine = holds-machine t.holds ∙ t.machine ∙ ap (λ (y : Outcome). y.after) (sym o);
      sizes = holds-sizes t.holds ∙ sym e;
      stores = t.spares.stores;
      writable =
          subst (λ (v : machine.Sizes). Writable fields.layout1 (fields.most_of v) (fields.counts v) t.spares.stores) (sym e)
          t.spares.writable;
      bytes =
          t.spares.bytes ∙ ap (λ (v : machine.Sizes). writes fields.layout1 (fields.counts v) s t.spares.stores) (sym e);
      stays = subst₂ (λ (v v' : machine.Sizes). Stays v v' s s') (sym e) (sym (holds-sizes t.holds)) (stays_in t.spares);
      long = spares-length t.spares;
      behind =
          subst (λ (v : machine.Sizes). drop (total fields.layout1 (fields.counts v)) s' ≡ drop (total fields.layout1 (fields.counts v)) s)
          (sym e)
          (spares-behind w.well.holds t.spares);
      left = λ n q. t.left n (ap (λ (y : Outcome). y.reply) (sym o) ∙ q) ∙ left_of_lem z s n x w.well;
    }
