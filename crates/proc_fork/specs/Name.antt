-- name: what the code shows at each return.
use Rattle.std.specs.Prelude.{◌≡◌, Bool, true, ℕ, ◌≤◌, length, List, [], Result, Ok, Err}
use Rattle.std.proofs.Math.Path.{refl, ap}
use Rattle.std.proofs.Common.{sym, ◌∙◌, le-leb}
use Rattle.std.proofs.Math.Option.{some}
use Rattle.machine.specs.Machine.{process}
use Rattle.machine.specs.Step.{name}
use Rattle.machine.specs.Table.{in_range}
use Rattle.machine.specs.Outcome.{open_outcome}
use Rattle.machine.specs.Update.{with_process, with_name}
use Rattle.machine.specs.Perform.{open_perform}
use Rattle.state.specs.declared.Sizes.{Sizes}
use Rattle.holds.specs.Did.{machine_in}
use Rattle.holds.specs.Use.{same_use}
use Rattle.holds.specs.Touched.{touched-did}
use Rattle.records.specs.Rename.{NameAsks, NameSet}
use Rattle.outcome.specs.declared.Reply as code
use Rattle.outcome.specs.declared.Reply.TheVariants.{Done}
use Rattle.outcome.specs.declared.Refusal.{Refusal}
use Rattle.outcome.specs.Means.{means, told}
use Rattle.outcome.specs.Stepped.{Well, Stepped}
use Rattle.outcome.specs.Laws.{stepped-done}
use Rattle.outcome.specs.Refusals.{step}
use Rattle.outcome.specs.RefusalsExit.{refused-name_3, refused-name_4, allowed-name}
use Rattle.outcome.specs.Running.{IsRunning, NotRunning, somebody-up, current-is, not-running}
use Rattle.proc_fork.specs.Runs.{runs-lives}
use Rattle.proc_fork.specs.Pad.{Padded, padding, Bytes, all_bytes_lem, padding-name}

-- A name is at most twenty-eight bytes.
pub record NameStepAsks (z : Sizes) (s bytes : List ℕ) : Type 0 where
  pub well : Well z s
  pub short : length bytes ≤ 28

pub record NameTook (z : Sizes) (s s' : List ℕ) (k : Bool) (bytes : List ℕ) (a : Result code.Reply Refusal) : Type 0 where
  pub stepped : Stepped z s s' (step k (name bytes)) [] a

module _ {z : Sizes} {s bytes : List ℕ} (a : NameStepAsks z s bytes) (h : Bytes bytes) where
  name-range : in_range (machine_in z s).sizes (name bytes) ≡ true
  unfolding in_range
  name-range = rw (le-leb (length bytes) 28 a.short) (all_bytes_lem bytes h)

  module _ {k : Bool} where
    pub name-refused : {e : Refusal} → NotRunning z s k e → NameTook z s s k bytes (Err e)
    name-refused n =
        record {
          stepped =
              not-running a.well.holds (refused-name_3 (machine_in z s) k bytes name-range) (refused-name_4 (machine_in z s) k bytes name-range) n;
        }

    module _ {i : ℕ} (r : IsRunning z s k i) {text : List ℕ} (p : Padded bytes text) where
      pub name_done : {s₁ : List ℕ} → NameSet z s s₁ i text → NameTook z s s₁ k bytes (Ok Done)
      unfolding open_perform open_outcome means told
      name_done {s₁} d =
          let u : (machine_in z s).up ≡ some i = somebody-up z s r.runs in
          record {
            stepped =
                stepped-done (allowed-name (machine_in z s) k bytes name-range r.unmarked u) (d.did.holds 0 a.well.holds) (touched-did d.did (same_use refl refl refl refl refl refl refl refl refl)).spares refl refl
                (d.did.machine
                ∙ ap (λ (t : List ℕ). with_process i (with_name t (process (machine_in z s) i)) (machine_in z s)) p.text
                ∙ ap (λ (j : ℕ). with_process j (with_name (padding bytes) (process (machine_in z s) j)) (machine_in z s))
                (sym (current-is (machine_in z s) i u)));
          }

      -- What `set_name` asks.
      pub name-asks : NameAsks z s i text
      name-asks =
          record {
            living = runs-lives a.well.holds r.runs;
            named = rw p.text (padding-name bytes a.short h);
          }
