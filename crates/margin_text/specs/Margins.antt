-- What `margins` prints for a day and a file of actual needs: a refusal's line, or a line for each margin.
-- Main definitions: `with_margin`, `needs_in`, `needs_tests`; `SaysMargin`, one line; `SaysMarginsOf`, the contract of the text. Assumes nothing.
use Rattle.std.specs.Prelude.{◌≡◌, not, cond, List, [], ◌∷◌, ◌++◌, ℕ, zero, suc, ◌+◌, ◌*◌, eqb, ltb, length, Option, None, Some}
use Rattle.day.specs.declared.Refusal.{Refusal}
use Rattle.day.specs.declared.Refusal.TheVariants.{TableLength}
use Rattle.day.specs.Sums.{at, list_of}
use Rattle.day.specs.Day.{Day, periods, with_demand}
use Rattle.day.specs.Plan.{Optimal, cost}
use Rattle.day.specs.Refusals.{refuse, first, bad_value}
use Rattle.day.specs.File.{number2}
use Rattle.day.specs.Outcome.{refusal}
use Rattle.day.specs.Paths.{full}
use Rattle.play.specs.Play.{flows_of}
use Rattle.lines.specs.Text.{refusal_line, played_line, margin_refusal_line}
use Rattle.program_plan.specs.Areas.{lent}

-- the margins are 0 to 15
abbrev pub margins : ℕ
margins = 16

-- a margin is added to every planned need above 0
abbrev pub raised : (margin need : ℕ) → ℕ
raised margin need = cond (ltb 0 need) (need + margin) need

abbrev pub raised_needs : (margin : ℕ) → List ℕ → List ℕ
raised_needs margin needs = list_of (λ k. raised margin (at needs k)) (length needs)

abbrev pub with_margin : (margin : ℕ) → Day → Day
with_margin margin d = with_demand (raised_needs margin d.demand) d

-- the actual needs of n periods, 2 bytes each, high byte first
abbrev pub needs_in : List ℕ → (n : ℕ) → List ℕ
needs_in s n = list_of (λ k. number2 s (2 * k)) n

-- 2: their file has another length; where there is none, no bytes stand for it, and n is above 0
abbrev pub bad_needs : List ℕ → (n : ℕ) → Option Refusal
bad_needs s n = refuse (not (eqb (length s) (2 * n))) TableLength

-- the tests on them: 2; then 3 on the day with them for its own needs, where its other values have passed it
abbrev pub needs_tests : List ℕ → Day → List (Option Refusal)
needs_tests s d = bad_needs s (periods d) ∷ bad_value (with_demand (needs_in s (periods d)) d) ∷ []

-- the line of a day that has a plan: what that costs, and what it misses and spills, played against the actual needs
pub record SaysPlayed (d : Day) (actual : ℕ → ℕ) (margin : ℕ) (text : List ℕ) : Type 0 where
  pub amounts : ℕ → ℕ
  pub plan : Optimal d amounts
  pub is : let p = flows_of d amounts actual in text ≡ played_line margin (cost d amounts) p.lost p.disposed

-- where there is a refusal, it is in the line
abbrev pub SaysLine : Option Refusal → Day → (actual : ℕ → ℕ) → (margin : ℕ) → List ℕ → Type 0
SaysLine (Some r) d actual margin text = text ≡ margin_refusal_line margin r
SaysLine None d actual margin text = SaysPlayed d actual margin text

-- the line of a day, by the full path with the areas of both programs
abbrev pub SaysDayLine : Day → (actual : ℕ → ℕ) → (margin : ℕ) → List ℕ → Type 0
SaysDayLine d = SaysLine (refusal full d lent) d

-- the line of a margin
abbrev pub SaysMargin : Day → (actual : ℕ → ℕ) → (margin : ℕ) → List ℕ → Type 0
SaysMargin d actual margin = SaysDayLine (with_margin margin d) actual margin

-- one text after another
pub record Follows (First Second : List ℕ → Type 0) (text : List ℕ) : Type 0 where
  pub before : List ℕ
  pub after : List ℕ
  pub first : First before
  pub second : Second after
  pub is : text ≡ before ++ after

-- the lines of the first k margins
abbrev pub SaysMargins : Day → (actual : ℕ → ℕ) → (k : ℕ) → List ℕ → Type 0
SaysMargins d actual zero text = text ≡ []
SaysMargins d actual (suc k) text = Follows (SaysMargins d actual k) (SaysMargin d actual k) text

-- where the needs are refused, the refusal's line is the text; else it is the lines of all margins
abbrev pub SaysAll : Option Refusal → Day → (actual : ℕ → ℕ) → List ℕ → Type 0
SaysAll (Some r) d actual text = text ≡ refusal_line r
SaysAll None d actual text = SaysMargins d actual margins text

-- what is printed for a day that has passed 1, 2 and 3, and the bytes of a file of actual needs
abbrev pub SaysMarginsOf : (needs : List ℕ) → Day → List ℕ → Type 0
SaysMarginsOf needs d = SaysAll (first (needs_tests needs d)) d (at (needs_in needs (periods d)))
