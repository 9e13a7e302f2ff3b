-- What the greedy rule tells from cleared slots is what the rule gives by itself.
use Rattle.std.proofs.Common.{ap, arith}
use Rattle.day.specs.declared.Totals.{Totals}
use Rattle.day.specs.Lent.{lent_day}
use Rattle.drops.proofs.Ruling.{net_size, trial_none, trial_some, trial_feasible}
use Rattle.drops.proofs.trial.Goals as goal

pub serve_all-requires : goal.serve_all-requires
serve_all-requires c =
    let r = c.args.ready in
    let size = net_size (lent_day r.day) _ _ _ _ r.ready c.requires in
    record { keys = omega (arith, size, r.ready.long); capacities = omega (arith, size); room = omega (arith, size) }

pub returns-in_err-serve_all : goal.returns-in_err-serve_all
returns-in_err-serve_all c =
    let r = c.args.ready in
    rw c.from_residual.ensures
    (trial_none (lent_day r.day) _ _ _ _ r.ready c.requires _ c.serve_all.new.slots (c.fill.ensures.after (λ y e. e)) c.in_err-serve_all.ensures)

pub totals-requires : goal.totals-requires
totals-requires c =
    let r = c.args.ready in
    trial_feasible (lent_day r.day) _ _ _ _ r.ready c.requires _
    (trial_some (lent_day r.day) _ _ _ _ r.ready c.requires _ _ (c.fill.ensures.after (λ y e. e)) c.in_ok-serve_all.ensures)

pub returns : goal.returns
returns c =
    let r = c.args.ready in (
      trial_some (lent_day r.day) _ _ _ _ r.ready c.requires _ _ (c.fill.ensures.after (λ y e. e)) c.in_ok-serve_all.ensures,
      ap (λ (t : Totals). t.cost) c.totals.ensures,
    )
