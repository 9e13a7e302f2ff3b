-- What the loop over the trials keeps. Main statements: `running_search`, what the search for the next period asks; `running_comes`, what the next trial
-- finds; `running_stops`, `running_out`, where the trials end; `finished_narrow`, how wide the best plan's amounts are. Assumes nothing.
use Rattle.std.proofs.Common.{◌≡◌, Some, None, sym, List, ℕ, ◌^◌, ◌≤◌, ◌<◌, arith, length}
use Rattle.day.specs.Sums.{at}
use Rattle.day.specs.Day.{Day, periods, max_big_total}
use Rattle.day.specs.Drops.{next, TriedIn}
use Rattle.checks.specs.Passed.{DayLimits}
use Rattle.theory.specs.Store.{Loose}
use Rattle.theory.specs.Drops.{Stands}
use Rattle.theory.proofs.Drops.{tried_stands, next_allowed}
use Rattle.rounds.specs.declared.Turn.{Turn}
use Rattle.rounds.specs.Turns.{turn_of, state_in}
use Rattle.drops.specs.declared.Standing.{Standing}
use Rattle.drops.specs.Ready.{IsReady}
use Rattle.drops.specs.Standing.{state_of, Held, NextIs, Finished}

-- `used` of the allowed trials are made
pub record Running (d : Day) (trials : ℕ) (allowances marks best plan : List ℕ) (s : Standing) (used : ℕ) : Type 0 where
  pub held : Held d allowances marks best plan s.cost
  pub tried : TriedIn d used (state_of marks best s)
  pub within : used ≤ trials

module _ {d : Day} {net keys : List ℕ} (ready : IsReady d net keys) {trials : ℕ} {allowances marks best plan : List ℕ} {s : Standing} {used : ℕ}
    (w : Running d trials allowances marks best plan s used) where
  ahead_inside : s.ahead ≤ periods d
  ahead_inside = (tried_stands d ready.loose used (state_of marks best s) w.tried).ahead

  -- what the search for the next period asks
  pub running_search : s.ahead ≤ length marks
  running_search = omega (arith, w.held.marked, ahead_inside)

  pub running_comes : (turn : Turn) → turn_of (Some turn) ≡ next (length marks) (state_of marks best s) → NextIs d marks best s turn
  running_comes turn is =
      let comes : next (periods d) (state_of marks best s) ≡ turn_of (Some turn) = sym (rw w.held.marked at is) in
      record {
        ahead = ahead_inside;
        inside = (next_allowed (periods d) (state_of marks best s) _ ahead_inside comes).0;
        comes = comes;
      }

  -- where none comes, or the trials are used up
  pub running_stops : None ≡ next (length marks) (state_of marks best s) → Finished d trials used marks best
  running_stops is = record {
    ahead = s.ahead;
    dropped = s.dropped;
    ended = record { tried = w.tried; allowed = w.within; stops = λ _. sym (rw w.held.marked at is) };
  }

  pub running_out : trials ≤ used → Finished d trials trials marks best
  running_out out =
      let e : used ≡ trials = omega (arith, w.within) in
      record {
        ahead = s.ahead;
        dropped = s.dropped;
        ended = record { tried = rw e at w.tried; allowed = omega arith; stops = λ l. absurd (omega arith) };
      }

-- what all trials leave: the amounts are of 16 bits
pub finished_narrow : {d : Day} → DayLimits max_big_total d → Loose d → {trials used : ℕ} → {marks best : List ℕ} → Finished d trials used marks best
    → (k : ℕ) → k < length best → at best k < 2 ^ 16
finished_narrow {d} limits loose {used} {marks} {best} f k l =
    let stands : Stands d loose (state_in marks best f.ahead f.dropped) = tried_stands d loose used _ f.ended.tried in
    let inside : k < periods d = omega (arith, stands.size) in
    omega (arith, stands.feasible.within k inside, (limits.limits.within k inside).capacity)
