-- The cases of a wait record, and the number that refuses each (docs/MACHINE.md, "Refusals").
use Rattle.std.specs.Prelude.{if◌then◌else◌, ◌≡◌, refl, Bool, true, false, ◌&&◌, [], ◌∷◌, ℕ, eqb}
use Rattle.std.proofs.Common.{ap₂, ◌∙◌}
use Rattle.std.proofs.Math.Option.{Option, none, some}
use Rattle.machine.specs.Basics.{is_empty}
use Rattle.machine.specs.Machine.{Machine, Resume, nothing, in_sleep, in_tsleep, in_qlock, in_wait, Process, process}
use Rattle.machine.specs.Step.{Step, wait, open_step}
use Rattle.machine.specs.Table.{running, first_of, open_table}
use Rattle.waitq.specs.declared.WaitState.{WaitState}

-- qwaitr is held exactly while the call is a `wait`.
unfoldable pub is_waiting : Resume → Bool
is_waiting nothing = false
is_waiting (in_sleep r c) = false
is_waiting (in_tsleep r c) = false
is_waiting (in_qlock q) = false
is_waiting in_wait = true

-- The case of a wait record.
unfoldable pub wait_state_of : Process → WaitState
wait_state_of p =
    if is_waiting p.resume
    then WaitState.InUse
    else if is_empty p.exits then if eqb p.nchild 0 then WaitState.NoChild else WaitState.Sleep else WaitState.Take

-- The number that refuses it: EINUSE is 14, ENOCHILD is 15; the other two are not refused.
abbrev pub wait_number : WaitState → Option ℕ
wait_number WaitState.InUse = some 14
wait_number WaitState.NoChild = some 15
wait_number WaitState.Take = none
wait_number WaitState.Sleep = none

-- It is the one that the table gives, of 14 and 15, for a `wait` of the running process.
refused_by : Bool → Bool → Option ℕ
refused_by a b = elim a [ true ↦ some 14 | false ↦ elim b [ true ↦ some 15 | false ↦ none ] ]

pub wait-refused
    : (m : Machine) (k : Step) (i : ℕ)
    → m.up ≡ some i
    → k.body ≡ wait
    → first_of (14 ∷ 15 ∷ []) m k ≡ wait_number (wait_state_of (process m i))
unfolding open_table open_step wait_state_of is_waiting refused_by running
wait-refused m k i u b =
    rows
    ∙ ap₂ refused_by (rw u) (rw u)
    ∙ cases (is_waiting (process m i).resume) (eqb (process m i).nchild 0) (is_empty (process m i).exits)
  where
    held : ℕ → Bool
    held j = is_waiting (process m j).resume

    alone : ℕ → Bool
    alone j = eqb (process m j).nchild 0 && is_empty (process m j).exits

    rows : first_of (14 ∷ 15 ∷ []) m k ≡ refused_by (running held m) (running alone m)
    rows = rw b

    cases
        : (a n e : Bool)
        → refused_by a (n && e) ≡ wait_number (if a then WaitState.InUse else if e then if n then WaitState.NoChild else WaitState.Sleep else WaitState.Take)
    cases true n e = refl
    cases false true true = refl
    cases false true false = refl
    cases false false true = refl
    cases false false false = refl
