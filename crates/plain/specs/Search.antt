-- What the plain search finds among the numbered plans, by the weigher's verdicts.
-- Main definition: `Chosen`; main statement: `chosen_more`, one plan more. Assumes nothing.
use Rattle.std.specs.Prelude.{◌≡◌, refl, Bool, true, false, if◌then◌else◌, ◌&&◌, List, [], ◌∷◌, ℕ, suc, ◌/◌}
use Rattle.std.specs.Prelude.{◌%◌, ◌^◌, ◌≤◌, ◌<◌, nat_le, Option, None, Some, Ok, Err}
use Rattle.std.proofs.Common.{arith, leb-true, leb-false}
use Rattle.day.specs.declared.Totals.{Totals}
use Rattle.day.specs.Sums.{below}
use Rattle.day.specs.Day.{Day}
use Rattle.weigher.specs.Answers.{Weighed, weighed_of}
use Rattle.plain.specs.declared.Best.{Best}

-- plan number m: its amounts are the digits of m to base 11, the last period's the highest
abbrev pub plan_of : ℕ → List ℕ
plan_of m = m % 11 ∷ m / 11 % 11 ∷ m / 11 / 11 % 11 ∷ m / 11 / 11 / 11 % 11 ∷ []

-- how many plans of n periods there are, for one to four
abbrev pub plans_of : ℕ → ℕ
plans_of n = if nat_le 1 n && nat_le n 4 then 11 ^ n else 0

-- a plan that holds, as found
abbrev pub found_as : Totals → List ℕ → Best
found_as t plan = record { totals = t; plan = plan }

-- what a plan that has been weighed is found as
abbrev pub found_of : List ℕ → Weighed → Option Best
found_of plan (Err fault) = None
found_of plan (Ok t) = Some (found_as t plan)

-- plan number m, where it holds
abbrev pub found_at : Day → ℕ → Option Best
found_at d m = found_of (plan_of m) (weighed_of d (plan_of m))

-- the better of the best so far and a plan that has been weighed; of equally cheap ones the best so far
abbrev pub better_of : Option Best → List ℕ → Weighed → Option Best
better_of best plan (Err fault) = best
better_of None plan (Ok t) = Some (found_as t plan)
better_of (Some b) plan (Ok t) = if nat_le b.totals.cost t.cost then Some b else Some (found_as t plan)

-- the weigher says of plan number j that it holds, with these totals
abbrev pub HoldsAs : Day → ℕ → Totals → Type 0
HoldsAs d j t = weighed_of d (plan_of j) ≡ Ok t

-- of the first m plans, the one with number b leads: it holds, with the cost and setups found, and every plan that holds
-- costs more, or as much and has no smaller number
pub record Leads (d : Day) (m : ℕ) (best : Best) (b : ℕ) : Type 0 where
  pub counted : b < m
  pub plan : best.plan ≡ plan_of b
  pub holds : HoldsAs d b best.totals
  pub first : (j : ℕ) → j < m → (t : Totals) → HoldsAs d j t → (best.totals.cost ≤ t.cost) × (best.totals.cost ≡ t.cost → b ≤ j)

-- what was found among the first m plans: one that leads, or that none holds
abbrev pub Chosen : Day → ℕ → Option Best → Type 0
Chosen d m (Some best) = (b : ℕ) × Leads d m best b
Chosen d m None = (j : ℕ) → j < m → (t : Totals) → HoldsAs d j t → ⊥

module _ (d : Day) (m : ℕ) where
  -- the next plan does not hold
  same : ((t : Totals) → HoldsAs d m t → ⊥) → (best : Option Best) → Chosen d m best → Chosen d (suc m) best
  same h (Some best) c =
      let l = c.1 in (
        c.0,
        record {
          counted = omega (arith, l.counted);
          plan = l.plan;
          holds = l.holds;
          first = below _ m l.first (λ t e. absurd (h t e));
        },
      )
  same h None c = below _ m c h

  -- it holds and is taken: nothing that holds before it is as cheap
  taken : (t : Totals) → HoldsAs d m t → ((j : ℕ) → j < m → (u : Totals) → HoldsAs d j u → t.cost < u.cost)
      → Chosen d (suc m) (Some (found_as t (plan_of m)))
  taken t e cheap = (
    m,
    record {
      counted = omega arith;
      plan = refl;
      holds = e;
      first =
          below _ m
          (λ j l u q. (omega (arith, cheap j l u q), λ s. absurd (omega (arith, cheap j l u q))))
          (λ u q. let same : t ≡ u = cc in rw same (omega arith, λ _. omega arith));
    },
  )

  -- it holds and is no cheaper
  left : (t : Totals) → HoldsAs d m t → (best : Best) → best.totals.cost ≤ t.cost → Chosen d m (Some best) → Chosen d (suc m) (Some best)
  left t e best dear c =
      let l = c.1 in (
        c.0,
        record {
          counted = omega (arith, l.counted);
          plan = l.plan;
          holds = l.holds;
          first = below _ m l.first (λ u q. let same : t ≡ u = cc in (rw (← same) dear, λ _. omega (arith, l.counted)));
        },
      )

  pub chosen_more : (best : Option Best) → Chosen d m best → Chosen d (suc m) (better_of best (plan_of m) (weighed_of d (plan_of m)))
  chosen_more best c = go (weighed_of d (plan_of m)) refl best c
    where
      cheaper : (t : Totals) → HoldsAs d m t → (best : Best) (b : Bool) → nat_le best.totals.cost t.cost ≡ b → Chosen d m (Some best)
          → Chosen d (suc m) (if b then Some best else Some (found_as t (plan_of m)))
      cheaper t e best true q c = left t e best (leb-true _ _ q) c
      cheaper t e best false q c =
          taken t e (λ j l u f. omega (arith, leb-false _ _ q, (c.1.first j l u f).0))

      go : (w : Weighed) → weighed_of d (plan_of m) ≡ w → (best : Option Best) → Chosen d m best → Chosen d (suc m) (better_of best (plan_of m) w)
      go (Err fault) e best c = same (λ t q. let z : ◌≡◌ {A = ℕ} 0 1 = cc in omega arith) best c
      go (Ok t) e None c = taken t e (λ j l u f. absurd (c j l u f))
      go (Ok t) e (Some best) c = cheaper t e best (nat_le best.totals.cost t.cost) refl c
