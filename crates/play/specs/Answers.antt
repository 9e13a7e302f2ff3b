-- What the call on a played day answers. Main definitions: `play_refusal`, `play_figures`; `Plays`, the contract of the call.
-- Assumes nothing.
use Rattle.std.specs.Prelude.{List, [], ◌∷◌, ◌++◌, ℕ, length, Option, None, Some, Result, Ok, Err}
use Rattle.day.specs.declared.Refusal.{Refusal}
use Rattle.day.specs.Sums.{at}
use Rattle.day.specs.Day.{Day, periods, max_total}
use Rattle.day.specs.Refusals.{first, pair_tests, total_tests, bad_slots}
use Rattle.day.specs.Figures.{Figures, figures_by}
use Rattle.weigher.specs.declared.Fault.{Fault}
use Rattle.weigher.specs.declared.Fault.TheVariants.{Refused, Broken}
use Rattle.weigher.specs.Verdict.{Verdict, verdict_of}
use Rattle.weigher.specs.Answers.{Answers, fault_figures}
use Rattle.play.specs.declared.Flows.{Flows}
use Rattle.play.specs.Play.{flows_of}

-- the weigher's tests, with 2 and 3 on both tables of needs: 1, 2, 3, 4, 14, 6
abbrev pub play_refusal : (actual : List ℕ) → Day → (plan : List ℕ) → Option Refusal
play_refusal actual d plan = first (pair_tests actual d ++ (total_tests max_total d ++ (bad_slots (length plan) (periods d) ∷ [])))

-- what the call answers
abbrev pub Played : Type 0
Played = Result Flows Fault

-- a broken plan gets the weigher's verdict; one that holds is played
abbrev pub played_on : Verdict → Flows → Played
played_on (Err b) p = Err (Broken b)
played_on (Ok t) p = Ok p

-- the answer in figures: made, delivered, missed, spilled, left
abbrev pub play_values : Flows → List ℕ
play_values p = p.produced ∷ p.delivered ∷ p.lost ∷ p.disposed ∷ p.left ∷ []

abbrev pub play_figures : Played → Figures ℕ
play_figures = figures_by play_values fault_figures

-- what the call promises: the first refusal, by number and period; else what the weigher's verdict leads to, by its figures
abbrev pub Plays : (actual : List ℕ) → Day → (plan : List ℕ) → Played → Type 0
Plays actual d plan = Answers play_figures (play_refusal actual d plan) (played_on (verdict_of d (at plan)) (flows_of d (at plan) (at actual)))

-- the first refusal in order, else this answer
abbrev pub or_refused : Option Refusal → Played → Played
or_refused (Some r) a = Err (Refused r)
or_refused None a = a

-- the answer that keeps the promise: the first refusal, else the weigher's verdict on a broken plan, or the play
abbrev pub play_answer : (actual : List ℕ) → Day → (plan : List ℕ) → Played
play_answer actual d plan = or_refused (play_refusal actual d plan) (played_on (verdict_of d (at plan)) (flows_of d (at plan) (at actual)))
