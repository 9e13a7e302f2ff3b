-- The full path on both days of a range, one after the other. Main statements: `low_admitted`, `high_admitted`, each day passes the full path's tests
-- with slots of the caller's own; `both_bounded`, its work on both is what the contract says. Assumes nothing.
use Rattle.std.specs.Prelude.{◌≡◌, refl, List, [], ◌++◌, ℕ, ◌≤◌, ◌<◌, length, drop, replicate}
use Rattle.std.proofs.Common.{ap, ◌∙◌, mul-le-mul, arith, drop_at}
use Rattle.std.proofs.lemmas.List.{length-replicate}
use Rattle.day.specs.declared.Totals.{Totals}
use Rattle.day.specs.Sums.{at, drop_later}
use Rattle.day.specs.Day.{Day, periods, total, with_demand, max_total}
use Rattle.day.specs.Figures.{first_value}
use Rattle.day.specs.declared.Sizes.{Sizes}
use Rattle.day.specs.Outcome.{Memory, memory_of, cleared, Accepted}
use Rattle.day.specs.Paths.{full}
use Rattle.day.specs.Ranges.{Easier, LeastCost, BothBounded}
use Rattle.checks.specs.Passed.{DayLimits, Passes, Admitted}
use Rattle.range_checks.specs.Passed.{Ranged}
use Rattle.theory.specs.Compare.{sum_le}
use Rattle.theory.specs.Net.{limits_fit}
use Rattle.theory.proofs.Demands.{feasible_iff}
use Rattle.theory.proofs.Easier.{easier_plan}

-- a day with no higher needs is easier
pub lower_easier : (needs : List ℕ) (d : Day) → length needs ≡ periods d → ((k : ℕ) → k < periods d → at needs k ≤ at d.demand k)
    → Easier (with_demand needs d) d
lower_easier needs d size below =
    record {
      size = size;
      demand = below;
      setup = λ k l. omega arith;
      unit = λ k l. omega arith;
      holding = λ k l. omega arith;
      closing = omega arith;
      capacity = λ k l. omega arith;
      store = λ k l. omega arith;
    }

-- what the full path's work gives is the least cost
pub full_least : {d : Day} {t : Totals} {before after : Memory} → Accepted full d t before after → LeastCost d t.cost
full_least {after = after} a = record { plan = at after.slots; optimal = a.plan; is = first_value a.counts }

-- clearing fewer cells first changes nothing
cleared_twice : (k j : ℕ) (l : List ℕ) {m r : List ℕ} → j ≤ k → m ≡ cleared j l → r ≡ cleared k m → r ≡ cleared k l
cleared_twice k j l le e f =
    let later = drop_later j k (cleared j l) l le (drop_at (replicate j 0) (drop j l) j (length-replicate j 0)) in
    f ∙ ap (λ (m : List ℕ). replicate k 0 ++ m) (ap (drop k) e ∙ later)

module _ {lowest : List ℕ} {d : Day} {s : Sizes} (r : Ranged lowest d s) (supplied : (k : ℕ) → k < periods d → Passes d k) where
  abbrev low : Day
  low = with_demand lowest d

  easy : Easier low d
  easy = lower_easier lowest d r.size r.below

  -- no more is made
  total_le : total low ≤ total d
  total_le = let size = r.size in rw size (omega (arith, sum_le (at lowest) (at d.demand) (periods d) r.below))

  costs_le : full.cost_cells (periods low) (total low) ≤ full.cost_cells (periods d) (total d)
  costs_le = omega (arith, total_le)

  choices_le : full.choice_cells (periods low) (total low) ≤ full.choice_cells (periods d) (total d)
  choices_le = mul-le-mul (omega (arith, r.size)) (omega (arith, total_le))

  low_limits : DayLimits max_total low
  low_limits =
      record { limits = r.low; small = omega (arith, total_le, r.empty, r.day.small); used = omega (arith, r.empty) }

  -- both are admitted with the areas that were tested, or longer ones, and slots of the caller's own
  module _ (t : Sizes) (costs : s.costs ≤ t.costs) (choices : s.choices ≤ t.choices) (slots : periods d ≤ t.slots) where
    pub high_admitted : Admitted full d t
    high_admitted =
        record {
          day = r.day;
          room = record { costs = omega (arith, r.costs); choices = omega (arith, r.choices); slots = slots };
          supplied = supplied;
          own = refl;
        }

    pub low_admitted : Admitted full low t
    low_admitted =
        let w = (feasible_iff d (limits_fit r.day)).1 supplied in
        let v = easier_plan low d easy r.empty r.empty w.0 w.1 in
        record {
          day = low_limits;
          room = record {
            costs = omega (arith, costs_le, r.costs);
            choices = omega (arith, choices_le, r.choices);
            slots = omega (arith, r.size);
          };
          supplied = (feasible_iff low (limits_fit low_limits)).0 (v.0, v.1);
          own = refl;
        }

  -- the lowest needs first; what they leave, the highest clear
  pub both_bounded : {t u : Totals} {before between after : Memory} → Accepted full low t before between → Accepted full d u between after
      → BothBounded lowest d (record { lowest = t.cost; highest = u.cost })
      (memory_of before.costs before.choices []) (memory_of after.costs after.choices [])
  both_bounded {t} {u} {before} a b =
      record {
        least = t.cost;
        most = u.cost;
        low = full_least a;
        high = full_least b;
        gives = refl;
        costs = cleared_twice _ _ before.costs costs_le a.costs b.costs;
        choices = cleared_twice _ _ before.choices choices_le a.choices b.choices;
      }
