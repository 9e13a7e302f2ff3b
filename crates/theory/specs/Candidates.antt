-- The first, by cost and then by size, of several candidates: what a loop keeps that tries them in turn.
-- Main statements: `keep_old`, `take_new`. Assumes nothing.
use Rattle.std.specs.Prelude.{◌≡◌, refl, ◌⊎◌, ℕ, suc, ◌<◌, Option, None, Some}
use Rattle.std.proofs.Common.{inl, inr, ⊎_elim, eq-or-lt_of_le, le_of_suc-le-suc, arith}
use Rattle.std.proofs.Math.Logic.{⊎_swap}
use Rattle.day.specs.Sums.{at}
use Rattle.day.specs.Plan.{Precedes}
use Rattle.theory.specs.Order.{precedes_trans}
use Rattle.theory.specs.Stages.{Solution, Leads, Answers, answers_iff}

-- y is of one of the classes P 0 .. P (i - 1)
abbrev pub OneOf : (ℕ → (ℕ → ℕ) → Type 0) → ℕ → (ℕ → ℕ) → Type 0
OneOf P i y = (l : ℕ) × (l < i) × P l y

module _ (costs : (ℕ → ℕ) → ℕ) (n : ℕ) where
  -- the one that goes first, goes first of all that either leads
  pub first_leads : (P Q : (ℕ → ℕ) → Type 0) (a b : Solution) → Leads P costs n a → Leads Q costs n b
      → Precedes costs n (at a.plan) (at b.plan) → Leads (λ y. P y ⊎ Q y) costs n a
  first_leads P Q a b la lb p =
      record {
        each = la.each;
        fits = inl la.fits;
        tells = la.tells;
        first = λ y q. ⊎_elim (la.first y) (λ r. precedes_trans costs n (at a.plan) (at b.plan) y p (lb.first y r)) q;
      }

  pub second_leads : (P Q : (ℕ → ℕ) → Type 0) (a b : Solution) → Leads P costs n a → Leads Q costs n b
      → Precedes costs n (at b.plan) (at a.plan) → Leads (λ y. P y ⊎ Q y) costs n b
  second_leads P Q a b la lb p = answers_iff costs n (Some b) (λ y q. ⊎_swap q) (λ y q. ⊎_swap q) (first_leads Q P b a lb la p)

  some_more : (P : ℕ → (ℕ → ℕ) → Type 0) (i : ℕ) (y : ℕ → ℕ) → OneOf P i y ⊎ P i y → OneOf P (suc i) y
  some_more P i y q = ⊎_elim (λ (r : OneOf P i y). (r.0, omega (arith, r.1), r.2)) (λ r. (i, omega arith, r)) q

  some_less : (P : ℕ → (ℕ → ℕ) → Type 0) (i : ℕ) (y : ℕ → ℕ) → OneOf P (suc i) y → OneOf P i y ⊎ P i y
  some_less P i y q = ⊎_elim (λ (e : q.0 ≡ i). inr (rw e at q.2)) (λ h. inl (q.0, h, q.2)) (eq-or-lt_of_le (le_of_suc-le-suc q.1))

  -- A loop keeps the first of all that the candidates so far lead: of the old and the new one that precedes the other.
  pub keep_old : (P : ℕ → (ℕ → ℕ) → Type 0) (i : ℕ) (a : Solution) (o : Option Solution)
      → Leads (OneOf P i) costs n a → Answers (P i) costs n o
      → ((b : Solution) → o ≡ Some b → Precedes costs n (at a.plan) (at b.plan))
      → Leads (OneOf P (suc i)) costs n a
  keep_old P i a None la lb p =
      answers_iff costs n (Some a) (λ y q. some_more P i y (inl q)) (λ y q. ⊎_elim (λ r. r) (λ r. absurd (lb y r)) (some_less P i y q)) la
  keep_old P i a (Some b) la lb p =
      answers_iff costs n (Some a) (some_more P i) (some_less P i) (first_leads (OneOf P i) (P i) a b la lb (p b refl))

  pub take_new : (P : ℕ → (ℕ → ℕ) → Type 0) (i : ℕ) (o : Option Solution) (b : Solution)
      → Answers (OneOf P i) costs n o → Leads (P i) costs n b
      → ((a : Solution) → o ≡ Some a → Precedes costs n (at b.plan) (at a.plan))
      → Leads (OneOf P (suc i)) costs n b
  take_new P i None b la lb p =
      answers_iff costs n (Some b) (λ y q. some_more P i y (inr q)) (λ y q. ⊎_elim (λ r. absurd (la y r)) (λ r. r) (some_less P i y q)) lb
  take_new P i (Some a) b la lb p =
      answers_iff costs n (Some b) (some_more P i) (some_less P i) (second_leads (OneOf P i) (P i) a b la lb (p a refl))
