-- `walks::timer_facts` meets its contract.
use Rattle.std.proofs.Common.{sym, ◌∙◌}
use Rattle.std.specs.Prelude.{refl, Some, ◌+◌}
use Rattle.walks.specs.Counts.{counted-as, queued-count}
use Rattle.walks.proofs.timer_facts.Goals as goal

pub returns-in-Some : goal.returns-in-Some
returns-in-Some c =
    let k = c.count_set.ensures ∙ queued-count (c.args.v.now.sizes.timers + c.args.v.now.sizes.processes) c.args.v.now.whole in
    let e = counted-as (Some c.in-Some.n) c.count_set.result _ (rw c.in-Some.is at c.timer_queue_ok.ensures) refl in (
      λ t. record { timers = c.timers_ok.ensures.0 c.if-timers_ok.true; timer_queue = (e.0 t).0; all_queued = (e.0 t).1 ∙ k },
      λ f. e.1 (f.timer_queue, f.all_queued ∙ sym k),
    )
