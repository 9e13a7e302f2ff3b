-- The sum of the entries, each of 16 bits.
use Rattle.std.proofs.Common.{◌≡◌, rules, sum, length, ◌∙◌, sym, arith}
use Rattle.day.specs.Sums.{at, sum_to-sum, sum_low}
use Rattle.day.specs.Day.{max_capacity}
use Rattle.checks.proofs.summed.Goals as goal

pub returns : goal.returns
returns c =
    let table = c.args.table.now in
    let same : c.sum.result ≡ sum table = search rules in
    record {
      is = same ∙ sym (sum_to-sum table);
      low = omega (arith, same, sum_to-sum table, sum_low (at table) max_capacity (length table) (λ k. omega (arith, c.type_inv.table k)));
    }
