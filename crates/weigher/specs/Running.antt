-- The walk that the weigher's code runs over a day's periods, and its running sums. It follows the code: what a period
-- does is found from its entries and the sums before it, nothing else. Index k is period k + 1.
-- Main definitions: `walk_to`, where the walk stands after i periods; `walk_of`, its verdict.
-- Main statements: `running_sums`, `running_kept`, for every i: where the first i periods break no rule, the walk runs with the sums through
-- them, and with no others; `broken_stops`: the first period that breaks a rule stops it; `walk_verdict`: its verdict is the report's.
-- Assumes nothing.
use Rattle.std.specs.Prelude.{◌≡◌, refl, Bool, true, false, ℕ, zero, suc, ◌<◌, eqb, Option, None, Some, Ok, Err}
use Rattle.std.proofs.Common.{sym, ◌∙◌, add-zero, arith}
use Rattle.day.specs.Find.{or_here, find, none_found}
use Rattle.day.specs.Day.{Day, entries_at, periods}
use Rattle.weigher.specs.declared.Rule.{Rule}
use Rattle.weigher.specs.declared.Sums.{Sums}
use Rattle.weigher.specs.Verdict.{Verdict, breach, breaks, rule_at, verdict_at, verdict_of}
use Rattle.weigher.specs.Theorems.{Keeps, FirstBroken, passed_keeps, none_broken, broken_found}
use Rattle.weigher.specs.Walk.{Ruling, sums_to, ruling_on, ruling_of, ruling_is}

-- where the walk stands: it runs, with its sums; or it stopped, with the rule that a period broke, and has no sums
pub data Walked : Type 0 where
  running : Sums → Walked
  stopped : Rule → (period : ℕ) → Walked

-- it begins with A, and nothing paid, made or asked for
abbrev pub start_of : Day → Sums
start_of d = record { cost = 0; setups = 0; supplied = d.opening; demanded = 0 }

-- where a period's ruling leads
abbrev pub ruled_in : (period : ℕ) → Ruling → Walked
ruled_in i (Ok s) = running s
ruled_in i (Err r) = stopped r i

-- the turn of period k + 1
abbrev pub turn_of : Day → (ℕ → ℕ) → ℕ → Walked → Walked
turn_of d x k (running s) = ruled_in (suc k) (ruling_of (entries_at d k) (x k) (eqb (suc k) (periods d)) s d.closing)
turn_of d x k (stopped r i) = stopped r i

-- the walk over the first i periods
abbrev pub walk_to : Day → (ℕ → ℕ) → ℕ → Walked
walk_to d x zero = running (start_of d)
walk_to d x (suc k) = turn_of d x k (walk_to d x k)

-- its verdict after the last
abbrev pub end_of : Walked → Verdict
end_of (running s) = Ok (record { cost = s.cost; setups = s.setups })
end_of (stopped r i) = Err (breach r i)

abbrev pub walk_of : Day → (ℕ → ℕ) → Verdict
walk_of d x = end_of (walk_to d x (periods d))

-- where it stands in the report's terms: it runs with the sums through i periods, or the first period that breaks a rule stopped it
abbrev stands_at : Day → (ℕ → ℕ) → ℕ → Option ℕ → Walked
stands_at d x i None = running (sums_to d x i)
stands_at d x i (Some k) = stopped (rule_at d x k) (suc k)

module _ (d : Day) (x : ℕ → ℕ) where
  walk_stands : (i : ℕ) → walk_to d x i ≡ stands_at d x i (find (breaks d x) i)
  walk_stands zero = rw add-zero refl
  walk_stands (suc k) = rw (walk_stands k) (go (find (breaks d x) k))
    where
      ruled : (b : Bool) → ruled_in (suc k) (ruling_on b (rule_at d x k) (sums_to d x (suc k))) ≡ stands_at d x (suc k) (or_here None b k)
      ruled true = refl
      ruled false = refl

      go : (o : Option ℕ) → turn_of d x k (stands_at d x k o) ≡ stands_at d x (suc k) (or_here o (breaks d x k) k)
      go (Some j) = refl
      go None = rw (ruling_is d x k) (ruled (breaks d x k))

  -- where the first i periods break no rule, the running cost is sum (1) through period i, `cost_to d x i`; setups, A + X_i and R_i likewise
  pub running_sums : (i : ℕ) → ((k : ℕ) → k < i → Keeps d x k) → walk_to d x i ≡ running (sums_to d x i)
  running_sums i h = rw (walk_stands i, none_broken d x i h) refl

  -- and only there does the walk run, with no other sums
  pub running_kept : (i : ℕ) {s : Sums} → walk_to d x i ≡ running s → (s ≡ sums_to d x i) × ((k : ℕ) → k < i → Keeps d x k)
  running_kept i {s} e = go (find (breaks d x) i) refl (sym (walk_stands i) ∙ e)
    where
      go : (o : Option ℕ) → find (breaks d x) i ≡ o → stands_at d x i o ≡ running s → (s ≡ sums_to d x i) × ((k : ℕ) → k < i → Keeps d x k)
      go (Some k) f e = let z : ◌≡◌ {A = ℕ} 0 1 = cc in absurd (omega arith)
      go None f e = (cc, λ k l. passed_keeps d x k (none_found (breaks d x) i f k l))

  -- where period k + 1 is the first that breaks a rule, the walk stops there with that rule, and gives out no sum
  pub broken_stops : (r : Rule) (k i : ℕ) → FirstBroken d x r k → k < i → walk_to d x i ≡ stopped r (suc k)
  broken_stops r k i f l = let b = broken_found d x r k i f l in rw (walk_stands i, b.0, b.1) refl

  -- its verdict is the report's
  pub walk_verdict : walk_of d x ≡ verdict_of d x
  walk_verdict = rw (walk_stands (periods d)) (go (find (breaks d x) (periods d)))
    where
      go : (o : Option ℕ) → end_of (stands_at d x (periods d) o) ≡ verdict_at d x o
      go None = refl
      go (Some k) = refl
