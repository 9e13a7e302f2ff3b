-- A plan's cells past the day's last period are not read.
-- Main statement: `cells_past_unread`. Assumes nothing.
use Rattle.std.specs.Prelude.{◌≡◌, refl, List, [], ◌∷◌, ◌++◌, ℕ, zero, suc, ◌≤◌, ◌<◌, ltb, length, Ok, Err}
use Rattle.std.proofs.Common.{sym, ap, ap₂, ◌∙◌, arith, length-append, le-ltb}
use Rattle.std.proofs.Math.Decide.{dec_le}
use Rattle.std.proofs.Math.ListN.{get_or-append}
use Rattle.day.specs.declared.Refusal.TheVariants.{FewSlots}
use Rattle.day.specs.Sums.{at, sum_ext}
use Rattle.day.specs.Day.{Day, periods, max_total}
use Rattle.day.specs.Plan.{setup_at}
use Rattle.day.specs.Search.{sums_alike, kept_alike, cost_alike}
use Rattle.day.specs.Refusals.{refuse, first, day_tests}
use Rattle.day.specs.Figures.{accepted_with}
use Rattle.weigher.specs.declared.Rule.{Rule}
use Rattle.weigher.specs.declared.Rule.TheVariants.{AboveCapacity, Short, AboveStore, Over}
use Rattle.weigher.specs.Verdict.{Verdict, verdict_of}
use Rattle.weigher.specs.Answers.{or_refused, weighed_of}
use Rattle.weigher.specs.Theorems.{Keeps, Breaks, Says, SaysBroken, verdict_right, verdict_only}

-- only the amounts in the day's periods count
module _ (d : Day) (x y : ℕ → ℕ) (same : (k : ℕ) → k < periods d → x k ≡ y k) where
  keeps_alike : (k : ℕ) → k < periods d → Keeps d x k → Keeps d y k
  keeps_alike k l h =
      let s = sums_alike d x y same (suc k) l in
      let e = same k l in
      record {
        within = omega (arith, h.within);
        served = omega (arith, h.served);
        stored = omega (arith, h.stored);
        ends = λ q. omega (arith, h.ends q);
      }

  breaks_alike : (r : Rule) (k : ℕ) → k < periods d → Breaks d x r k → Breaks d y r k
  breaks_alike AboveCapacity k l b = omega (arith, same k l)
  breaks_alike Short k l b = omega (arith, same k l, sums_alike d x y same (suc k) l)
  breaks_alike AboveStore k l b = omega (arith, same k l, sums_alike d x y same (suc k) l)
  breaks_alike Over k l b =
      let s = sums_alike d x y same (suc k) l in
      (omega (arith, same k l), (omega (arith, b.1.0), (b.1.1.0, omega (arith, b.1.1.1))))

  verdict_alike : 1 ≤ periods d → verdict_of d x ≡ verdict_of d y
  verdict_alike nonempty = verdict_only d y (verdict_of d x) (go (verdict_of d x) (verdict_right d x nonempty))
    where
      broke : (r : Rule) (i : ℕ) → SaysBroken d x r i → SaysBroken d y r i
      broke r zero s = s
      broke r (suc k) s =
          record {
            inside = s.inside;
            broken = breaks_alike r k s.inside s.broken;
            before = λ j l. keeps_alike j (omega (arith, s.inside)) (s.before j l);
          }

      go : (v : Verdict) → Says d x v → Says d y v
      go (Ok t) (f, c) = (
        kept_alike d (periods d) x y same f,
        c ∙ ap₂ (λ (a b : ℕ). accepted_with (a ∷ b ∷ [])) (cost_alike d x y same) (sum_ext _ _ (periods d) (λ k l. ap setup_at (same k l))),
      )
      go (Err b) s = broke b.rule b.period s

-- a plan's cells past the last period are not read; a day without periods is refused, whatever the plan
pub cells_past_unread : (d : Day) (plan more : List ℕ) → periods d ≤ length plan → weighed_of d (plan ++ more) ≡ weighed_of d plan
cells_past_unread d plan more h = go (dec_le 1 (periods d))
  where
    enough : ltb (length (plan ++ more)) (periods d) ≡ ltb (length plan) (periods d)
    enough = le-ltb (length (plan ++ more)) (periods d) (rw length-append (omega arith)) ∙ sym (le-ltb _ _ h)

    judged : 1 ≤ periods d → verdict_of d (at (plan ++ more)) ≡ verdict_of d (at plan)
    judged = verdict_alike d (at (plan ++ more)) (at plan) (λ k l. get_or-append plan more 0 k (omega arith))

    go : Dec (1 ≤ periods d) → weighed_of d (plan ++ more) ≡ weighed_of d plan
    go (yes l) = λ i. or_refused (first (day_tests max_total d ++ (refuse (enough i) FewSlots ∷ []))) (judged l i)
    go (no z) = let e : periods d ≡ 0 = omega arith in rw e refl
