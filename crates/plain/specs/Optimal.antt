-- What the search finds on a tiny day is the plan of the day: the cheapest, and of the cheapest the smallest. The plans' numbers are in the
-- order of `Smaller`, and every plan of a tiny day has one.
-- Main definition: `Searched`; main statement: `chosen_optimal`. Assumes nothing.
use Rattle.std.specs.Prelude.{◌≡◌, refl, ℕ, zero, suc, ◌+◌, ◌*◌, ◌/◌, ◌%◌, ◌≤◌, ◌<◌, Option, None, Some, Ok, Err}
use Rattle.std.proofs.Common.{sym, ◌∙◌, mod-lt, arith}
use Rattle.std.proofs.Math.Nat.{div-add-mod}
use Rattle.day.specs.declared.Totals.{Totals}
use Rattle.day.specs.Sums.{at, sum_grows}
use Rattle.day.specs.Search.{kept_alike, cost_alike}
use Rattle.day.specs.Day.{Day, periods, total}
use Rattle.day.specs.Plan.{Feasible, Smaller, Precedes, Optimal, cost}
use Rattle.day.specs.Figures.{first_value}
use Rattle.day.specs.Outcome.{Counts}
use Rattle.weigher.specs.Verdict.{Verdict, totals_of}
use Rattle.weigher.specs.Answers.{weigh_refusal, judged}
use Rattle.weigher.specs.Theorems.{holds_feasible, feasible_holds}
use Rattle.plain.specs.declared.Best.{Best}
use Rattle.plain.specs.Search.{plan_of, plans_of, HoldsAs, Leads, Chosen}

-- a day that the weigher accepts, of one to four periods, in which it makes at most 10
pub record TinyDay (d : Day) : Type 0 where
  pub accepted : weigh_refusal d (plan_of 0) ≡ None
  pub some : 1 ≤ periods d
  pub few : periods d ≤ 4
  pub low : total d ≤ 10

-- the plan of the day, with its cost and setups; or there is none
abbrev pub Answered : Day → Option Best → Type 0
Answered d (Some best) = Optimal d (at best.plan) × Counts d (at best.plan) best.totals
Answered d None = (y : ℕ → ℕ) → Feasible d y → ⊥

-- what the search answers: the first of the cheapest plans in the order of their numbers; on a tiny day the plan of the day
pub record Searched (d : Day) (best : Option Best) : Type 0 where
  pub chosen : Chosen d (plans_of (periods d)) best
  pub tiny : TinyDay d → Answered d best

-- digit k of a number to base 11
unfoldable digit : ℕ → ℕ → ℕ
digit m zero = m % 11
digit m (suc k) = digit (m / 11) k

-- how many numbers of n digits there are
abbrev powers : ℕ → ℕ
powers zero = 1
powers (suc n) = 11 * powers n

-- the number with given digits
abbrev number_of : ℕ → (ℕ → ℕ) → ℕ
number_of zero y = 0
number_of (suc n) y = y 0 + 11 * number_of n (λ k. y (suc k))

plan_digit : (m k : ℕ) → k < 4 → at (plan_of m) k ≡ digit m k
unfolding digit
plan_digit m zero l = refl
plan_digit m (suc zero) l = refl
plan_digit m (suc (suc zero)) l = refl
plan_digit m (suc (suc (suc zero))) l = refl
plan_digit m (suc (suc (suc (suc k)))) l = absurd (omega arith)

-- a number's last digit, and what is before it
split : (m : ℕ) → (11 * (m / 11) + m % 11 ≡ m) × (m % 11 < 11)
split m = (div-add-mod m 11, mod-lt m (omega arith))

number_below : (n : ℕ) (y : ℕ → ℕ) → ((k : ℕ) → k < n → y k ≤ 10) → number_of n y < powers n
number_below zero y h = omega arith
number_below (suc n) y h = omega (arith, h 0 (omega arith), number_below n (λ k. y (suc k)) (λ k l. h (suc k) (omega arith)))

digit_number : (n : ℕ) (y : ℕ → ℕ) → ((k : ℕ) → k < n → y k ≤ 10) → (k : ℕ) → k < n → digit (number_of n y) k ≡ y k
unfolding digit
digit_number zero y h k l = absurd (omega arith)
digit_number (suc n) y h zero l = omega (arith, h 0 (omega arith), split (number_of (suc n) y))
digit_number (suc n) y h (suc k) l =
    let e : number_of (suc n) y / 11 ≡ number_of n (λ j. y (suc j)) = omega (arith, h 0 (omega arith), split (number_of (suc n) y)) in
    rw e (digit_number n (λ j. y (suc j)) (λ j q. h (suc j) (omega arith)) k (omega arith))

-- numbers with the same digits are equal
digits_same : (n a b : ℕ) → a < powers n → b < powers n → ((k : ℕ) → k < n → digit a k ≡ digit b k) → a ≡ b
unfolding digit
digits_same zero a b p q h = omega arith
digits_same (suc n) a b p q h =
    let s = split a in
    let t = split b in
    omega (arith, s, t, h 0 (omega arith), digits_same n (a / 11) (b / 11) (omega (arith, s)) (omega (arith, t)) (λ k l. h (suc k) (omega arith)))

-- the smaller number has the smaller digit in the last place where they differ
number_smaller : (n a b : ℕ) → a < powers n → b < powers n → a ≤ b → Smaller n (digit a) (digit b)
unfolding digit
number_smaller zero a b p q h k l alike = absurd (omega arith)
number_smaller (suc n) a b p q h zero l alike =
    let s = split a in
    let t = split b in
    omega (arith, s, t, digits_same n (a / 11) (b / 11) (omega (arith, s)) (omega (arith, t)) (λ k l. alike (suc k) (omega arith) (omega arith)))
number_smaller (suc n) a b p q h (suc k) l alike =
    let s = split a in
    let t = split b in
    number_smaller n (a / 11) (b / 11) (omega (arith, s)) (omega (arith, t)) (omega (arith, s, t)) k (omega arith)
    (λ j x y. alike (suc j) (omega arith) (omega arith))

plans_are : (n : ℕ) → 1 ≤ n → n ≤ 4 → plans_of n ≡ powers n
plans_are zero a b = absurd (omega arith)
plans_are (suc zero) a b = refl
plans_are (suc (suc zero)) a b = refl
plans_are (suc (suc (suc zero))) a b = refl
plans_are (suc (suc (suc (suc zero)))) a b = refl
plans_are (suc (suc (suc (suc (suc n))))) a b = absurd (omega arith)

-- a verdict is "holds" where the weigher answers so
judged_holds : (v : Verdict) (t : Totals) → judged v ≡ Ok t → v ≡ Ok t
judged_holds (Ok u) t e = cc
judged_holds (Err b) t e = cc

module _ (d : Day) (tiny : TinyDay d) where
  abbrev n : ℕ
  n = periods d

  -- no plan of the day makes more than 10 in a period
  amount_low : (y : ℕ → ℕ) → Feasible d y → (k : ℕ) → k < n → y k ≤ 10
  amount_low y f k l = omega (arith, sum_grows y (suc k) n l, f.ends refl, tiny.low)

  number_digit : (y : ℕ → ℕ) → Feasible d y → (k : ℕ) → k < n → y k ≡ digit (number_of n y) k
  number_digit y f k l = sym (digit_number n y (amount_low y f) k l)

  -- it is one of the numbered plans
  alike : (y : ℕ → ℕ) → Feasible d y → (k : ℕ) → k < n → y k ≡ at (plan_of (number_of n y)) k
  alike y f k l = number_digit y f k l ∙ sym (plan_digit (number_of n y) k (omega (arith, tiny.few)))

  counted : (y : ℕ → ℕ) → Feasible d y → number_of n y < plans_of n
  counted y f = rw (plans_are n tiny.some tiny.few) (number_below n y (amount_low y f))

  -- and the weigher says of that plan that it holds
  held : (y : ℕ → ℕ) → Feasible d y → HoldsAs d (number_of n y) (totals_of d (at (plan_of (number_of n y))))
  held y f =
      let x = at (plan_of (number_of n y)) in
      rw (tiny.accepted, feasible_holds d x (kept_alike d n y x (alike y f) f)) refl

  none_feasible : Chosen d (plans_of n) None → (y : ℕ → ℕ) → Feasible d y → ⊥
  none_feasible c y f = c (number_of n y) (counted y f) _ (held y f)

  module _ (best : Best) (b : ℕ) (l : Leads d (plans_of n) best b) where
    kept : Feasible d (at best.plan) × Counts d (at best.plan) best.totals
    kept =
        let h = rw tiny.accepted at l.holds in
        rw l.plan (holds_feasible d (at (plan_of b)) tiny.some best.totals (judged_holds _ _ h))

    lead_digit : (k : ℕ) → k < n → at best.plan k ≡ digit b k
    lead_digit k h = rw l.plan (plan_digit b k (omega (arith, tiny.few)))

    precedes : (y : ℕ → ℕ) → Feasible d y → Precedes (cost d) n (at best.plan) y
    precedes y f =
        let j = number_of n y in
        let size = plans_are n tiny.some tiny.few in
        let same = cost_alike d y (at (plan_of j)) (alike y f) in
        let p = l.first j (counted y f) (totals_of d (at (plan_of j))) (held y f) in
        let c = first_value kept.1 in
        record {
          cheap = omega (arith, p.0);
          small = λ e k h after.
              let s =
              number_smaller n b j (omega (arith, l.counted)) (omega (arith, counted y f)) (p.1 (omega arith)) k h
              (λ i a g. sym (lead_digit i g) ∙ after i a g ∙ number_digit y f i g) in
              omega (arith, s, lead_digit k h, number_digit y f k h);
        }

    lead_optimal : Optimal d (at best.plan) × Counts d (at best.plan) best.totals
    lead_optimal = (record { feasible = kept.0; first = precedes }, kept.1)

  pub chosen_optimal : (best : Option Best) → Chosen d (plans_of n) best → Answered d best
  chosen_optimal (Some best) c = lead_optimal best c.0 c.1
  chosen_optimal None c = none_feasible c
