-- rfork: what the code shows at each return.
use Rattle.std.specs.Prelude.{◌≡◌, Bool, true, false, List, ℕ, ◌^◌, ◌<◌, Result, Ok, Err}
use Rattle.std.proofs.Math.Path.{refl}
use Rattle.std.proofs.Common.{sym, subst, ◌∙◌, arith, lt-ltb, le-leb}
use Rattle.machine.specs.Step.{rfork}
use Rattle.machine.specs.Flags.{has}
use Rattle.machine.specs.Table.{in_range}
use Rattle.machine.specs.Outcome.{open_outcome}
use Rattle.machine.specs.Perform.{open_perform}
use Rattle.machine.specs.StepOf.{left_by}
use Rattle.state.specs.declared.Sizes.{Sizes}
use Rattle.exact.specs.Sums.{true-false}
use Rattle.holds.specs.Did.{machine_in}
use Rattle.holds.specs.Touched.{spares-none}
use Rattle.outcome.specs.declared.Reply as code
use Rattle.outcome.specs.declared.Reply.TheVariants.{Pid}
use Rattle.outcome.specs.declared.Refusal.{Refusal}
use Rattle.outcome.specs.declared.Refusal.TheVariants.{InInterrupt, BadArg}
use Rattle.outcome.specs.Means.{means, told}
use Rattle.outcome.specs.Stepped.{Well, left_bytes}
use Rattle.outcome.specs.Laws.{stepped-done, stepped-refused}
use Rattle.outcome.specs.RefusalsMake.{refused-rfork_3, refused-rfork_10, refused-rfork-4, allowed-rfork-same}
use Rattle.outcome.specs.Running.{IsRunning, NotRunning, somebody-up, not-running}
use Rattle.proc_start.specs.declared.Making.{Making}
use Rattle.proc_start.specs.Making.{number, number-low}
use Rattle.proc_fork.specs.Flags.{Has, Bad}
use Rattle.proc_fork.specs.Make.{RforkTook, MakeAsks}

module _ {z : Sizes} {s : List ℕ} {F : ℕ} (how : Making) (a : Well z s) (w : F < 4294967296) where
  in_range_lem : in_range (machine_in z s).sizes (rfork F (number how)) ≡ true
  unfolding in_range
  in_range_lem = rw (lt-ltb F (2 ^ 32) (omega (arith, w)), le-leb (number how) 3 (number-low how)) refl

  module _ {k : Bool} where
    pub rfork-marked : k ≡ true → RforkTook z s s k F (number how) (Err InInterrupt)
    unfolding left_by left_bytes
    rfork-marked e =
        record { stepped = stepped-refused (refused-rfork_3 (machine_in z s) k F (number how) in_range_lem e) a.holds refl refl }

    module _ (f : k ≡ false) {b : Bool} (g : Bad F b) where
      pub rfork-bad : b ≡ true → RforkTook z s s k F (number how) (Err BadArg)
      unfolding left_by left_bytes
      rfork-bad e =
          record {
            stepped = stepped-refused (refused-rfork_10 (machine_in z s) k F (number how) in_range_lem f (sym g.is ∙ e)) a.holds refl refl;
          }

      module _ (e : b ≡ false) where
        pub rfork-nobody : {x : Refusal} → NotRunning z s false x → RforkTook z s s k F (number how) (Err x)
        rfork-nobody {x} n =
            subst (λ (j : Bool). RforkTook z s s j F (number how) (Err x)) (sym f)
            (record {
              stepped =
                  not-running a.holds (λ m. absurd (true-false (sym m)))
                  (λ u o. refused-rfork-4 (machine_in z s) false F (number how) in_range_lem refl (sym g.is ∙ e) o) n;
            })

        module _ {i : ℕ} (u : IsRunning z s false i) {p : Bool} (h : Has F 16 p) where
          pub rfork-same : p ≡ false → RforkTook z s s k F (number how) (Ok (Pid 0))
          unfolding open_perform open_outcome means told has
          rfork-same d =
              record {
                stepped =
                    stepped-done
                    (allowed-rfork-same (machine_in z s) k F (number how) in_range_lem f (sym g.is ∙ e) (somebody-up z s u.runs) (sym h.bit ∙ d))
                    a.holds spares-none
                    (rw (sym h.bit ∙ d) refl)
                    (rw (sym h.bit ∙ d) refl)
                    (rw (sym h.bit ∙ d) refl);
              }

          -- What is asked to make a process, and what it leaves.
          pub rfork-make : p ≡ true → MakeAsks z s F (number how) i
          unfolding has
          rfork-make d =
              record {
                well = a;
                range = in_range_lem;
                flags = sym g.is ∙ e;
                runs = u.runs;
                child = sym h.bit ∙ d;
              }

pub rfork-rest : {z : Sizes} {s s₁ : List ℕ} {k : Bool} {F M : ℕ} {r : Result code.Reply Refusal} → k ≡ false → RforkTook z s s₁ false F M r → RforkTook z s s₁ k F M r
rfork-rest {z} {s} {s₁} {k} {F} {M} {r} e t = subst (λ (x : Bool). RforkTook z s s₁ x F M r) (sym e) t
