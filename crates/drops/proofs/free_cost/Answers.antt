-- The weigher's totals of the day without starts.
use Rattle.std.proofs.Common.{◌≡◌, ap, ◌∙◌, List, ℕ, length, take, replicate}
use Rattle.std.proofs.lemmas.List.{take-replicate}
use Rattle.day.specs.declared.Totals.{Totals}
use Rattle.day.specs.Sums.{at}
use Rattle.day.specs.Day.{Day, with_setup, max_periods}
use Rattle.day.specs.Lent.{lent_day}
use Rattle.day.specs.Plan.{cost}
use Rattle.day.specs.Drops.{starts_free}
use Rattle.drops.proofs.free_cost.Goals as goal

pub returns : goal.returns
returns c =
    let d = c.args.day in
    let n = length d.demand.now in
    let zeros : take c.periods.result (replicate {A = ℕ} max_periods 0) ≡ replicate n 0 =
    rw c.periods.ensures (take-replicate n max_periods 0 c.requires.weighable.few) in
    let free : lent_day c.with_setup-free.result ≡ starts_free d.capacity.now (lent_day d) =
    c.with_setup-free.ensures ∙ ap (λ (setup : List ℕ). with_setup setup (lent_day d)) zeros in
    ap (λ (t : Totals). t.cost) c.totals.ensures ∙ ap (λ (d : Day). cost d (at c.args.plan.now)) free
