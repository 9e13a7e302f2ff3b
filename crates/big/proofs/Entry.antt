-- Laws of the call: what passed tests leave for the trials, and what the trials leave is what an accepted call leaves.
-- Main statements: `keys_ask`, `made_ready`; `has_area`, `trials_ask`, `trials_give`; `narrow`, `answerable`, `best_so_far`; `path_refused`. Assumes nothing.
use Rattle.std.proofs.Common.{◌≡◌, refl, subst, Some, None, List, [], ◌++◌, ℕ, ◌*◌, ◌^◌, ◌≤◌, ◌<◌, arith, length, drop}
use Rattle.std.proofs.lemmas.List.{length-replicate}
use Rattle.day.specs.declared.Refusal.{Refusal}
use Rattle.day.specs.declared.Sizes.{Sizes}
use Rattle.day.specs.declared.Totals.{Totals}
use Rattle.day.specs.declared.Trials.{Trials}
use Rattle.day.specs.Sums.{at, length-list_of}
use Rattle.day.specs.Day.{Day, periods, max_periods}
use Rattle.day.specs.Plan.{Optimal, cost}
use Rattle.day.specs.Outcome.{Memory, memory_of, sizes_of, refusal, Cleared}
use Rattle.day.specs.Paths.{big}
use Rattle.day.specs.Drops.{starts_free, big_refusal, BestSoFar}
use Rattle.checks.specs.Passed.{Admitted}
use Rattle.theory.specs.Problem.{Problem}
use Rattle.theory.specs.Net.{rate_of, problem_of}
use Rattle.theory.specs.Store.{Loose}
use Rattle.theory.proofs.Demands.{feasible_iff}
use Rattle.theory.specs.Drops.{Stands}
use Rattle.theory.proofs.Drops.{tried_stands, first_optimal, free_least}
use Rattle.greedy.specs.Keys.{Keyed}
use Rattle.rounds.specs.Turns.{state_in}
use Rattle.drops.specs.Ready.{IsReady}
use Rattle.drops.specs.Standing.{Begun, Finished}
use Rattle.drops.proofs.Running.{finished_narrow}
use Rattle.big.specs.Passed.{big_admitted, big_loose, big_trials}
use Rattle.big.specs.Work.{TrialsAsk, TrialsGive, Answerable, answer_of}

-- The tests of a path, then 19.
module _ (trials : ℕ) (d : Day) (s : Sizes) where
  pub path_refused : (r : Refusal) → refusal big d s ≡ Some r → big_refusal trials d s ≡ Some r
  path_refused r e = rw e refl

-- The problem that a day is made into has what the keys ask, and once they are written the day is ready.
module _ {trials : ℕ} {d : Day} {keys marks first best : List ℕ} (ask : TrialsAsk trials d keys marks first best) {p : Problem} (made : p ≡ problem_of d) where
  units : length d.unit ≡ periods d
  units = ask.limits.limits.lengths.unit

  pub keys_ask : (length p.unit ≤ max_periods) × (length p.unit ≤ length p.holding) × (length p.unit ≤ length keys)
  keys_ask =
      let rates = length-list_of (rate_of d.holding) (length d.holding) in
      rw made
      (omega (arith, units, ask.limits.limits.few), omega (arith, units, rates, ask.limits.limits.lengths.holding), omega (arith, units, ask.keyed))

  pub made_ready : {cells : List ℕ} → Keyed p.unit p.holding keys cells → IsReady d p.demand cells
  made_ready keyed =
      let w = rw made at keyed in
      let e = units in
      rw made
      (record {
        limits = ask.limits;
        loose = ask.loose;
        needs = refl;
        long = omega (arith, w.each, ask.keyed);
        keys = λ k l. rw e at (w.keys k (omega (arith, e)));
      })

-- What trial 1 and the others leave.
module _ {trials : ℕ} {d : Day} {keys marks₀ first₀ best₀ : List ℕ} (ask : TrialsAsk trials d keys marks₀ first₀ best₀) where
  pub trials_give : (r : ℕ) (allowances begins best first : List ℕ) → Begun d r allowances begins best first → (used : ℕ) (marks ends : List ℕ)
      → Finished d trials used marks ends → TrialsGive trials d used first marks ends
  trials_give r allowances begins best first b used marks ends f = record {
    free = subst (λ (p : List ℕ). Optimal (starts_free d.capacity d) (at p)) b.is
        (first_optimal d ask.loose ask.limits.limits.lengths.capacity _ b.trial);
    size = b.held.triable.size;
    finished = f;
  }

-- What the tests leave.
module _ (trials : ℕ) (d : Day) (m : Memory) (ok : big_refusal trials d (sizes_of m) ≡ None) where
  passed : Admitted big d (sizes_of m)
  passed = big_admitted trials d (sizes_of m) ok

  loose : Loose d
  loose = big_loose trials d (sizes_of m) ok

  pub has_area : 3 * periods d ≤ length m.costs
  has_area = passed.room.costs

  pub trials_ask : (keys marks first best : List ℕ) → length keys ≡ periods d → length marks ≡ periods d → length first ≡ periods d
      → length best ≡ periods d → TrialsAsk trials d keys marks first best
  trials_ask keys marks first best k l f b = record {
    trial = big_trials trials d (sizes_of m) ok;
    limits = passed.day;
    loose = loose;
    supplied = (feasible_iff d loose.fits).1 passed.supplied;
    keyed = k;
    marked = l;
    size = f;
    room = b;
  }

  -- The trials are made.
  module _ (used : ℕ) (first marks best : List ℕ) (t : TrialsGive trials d used first marks best) where
    stands : Stands d loose (state_in marks best t.finished.ahead t.finished.dropped)
    stands = tried_stands d loose used _ t.finished.ended.tried

    -- the amounts are of 16 bits
    pub narrow : (k : ℕ) → k < length best → at best k < 2 ^ 16
    narrow = finished_narrow passed.day loose t.finished

    pub answerable : Answerable d first best
    answerable =
        let limits = passed.day.limits in
        let lengths = limits.lengths in
        record {
          keeps = record {
            weighable = record { few = limits.few; lengths = lengths; amounts = omega (arith, stands.size) };
            feasible = stands.feasible;
          };
          free = record {
            weighable = record {
              few = limits.few;
              lengths = record {
                capacity = lengths.capacity;
                setup = length-replicate (periods d) 0;
                unit = lengths.unit;
                holding = lengths.holding;
                store = lengths.store;
              };
              amounts = omega (arith, t.size);
            };
            feasible = t.free.feasible;
          };
          low = free_least d loose (at first) (at best) t.free stands.feasible;
        }

    -- once the area is cleared, all is as an accepted call leaves it
    pub best_so_far : (r : Totals × Trials) (costs slots : List ℕ) → r ≡ answer_of d first best used → slots ≡ best ++ drop (periods d) m.slots
        → Cleared (3 * periods d) m.costs costs → BestSoFar trials d r.0 r.1 m (memory_of costs [] slots)
    best_so_far r costs slots is handed clear =
        record {
          state = state_in marks best t.finished.ahead t.finished.dropped;
          used = used;
          ended = t.finished.ended;
          free = cost (starts_free d.capacity d) (at first);
          least = record { plan = at first; optimal = t.free; is = refl };
          gives = rw is refl;
          slots = handed;
          costs = clear;
        }
