-- An answer in figures: the number and the period of what it refuses, and the values that it gives.
-- Each answer's figures are defined in its own crate; those of answers that this crate declares here, and the promise of a call that answers with its tests.
-- Main definitions: `Figures`, `answer_figures`, `equal_figures`, `bounds_figures`, `big_figures`, `Checks`; main statements: `same_values`, `checks_is`,
-- `is_checks`. Assumes nothing.
use Rattle.std.specs.Prelude.{◌≡◌, refl, List, [], ◌∷◌, ℕ, Option, None, Some, Result, Ok, Err}
use Rattle.std.proofs.Common.{sym, ap, subst}
use Rattle.day.specs.declared.Refusal.{Refusal}
use Rattle.day.specs.declared.Totals.{Totals}
use Rattle.day.specs.declared.Loads.{Loads}
use Rattle.day.specs.declared.Bounds.{Bounds}
use Rattle.day.specs.declared.Trials.{Trials}
use Rattle.day.specs.Refusals.{number_of, period_of, Gives, checked}
use Rattle.day.specs.Tests.{gives_is, is_gives}

-- an accepted call has number 0 and period 0, any other has no values
pub record Figures (A : Type 0) : Type 0 where
  pub number : ℕ
  pub period : ℕ
  pub values : Option (List A)

abbrev pub accepted_with : {A : Type 0} → List A → Figures A
accepted_with values = record { number = 0; period = 0; values = Some values }

abbrev pub refused_with : {A : Type 0} → Refusal → Figures A
refused_with r = record { number = number_of r; period = period_of r; values = None }

-- an answer's figures: the values of what it gives, or why it gives nothing
abbrev pub figures_by : {A E B : Type 0} → (A → List B) → (E → Figures B) → Result A E → Figures B
figures_by values failed (Ok a) = accepted_with (values a)
figures_by values failed (Err e) = failed e

-- a path: cost and setups of the plan
abbrev pub plan_values : Totals → List ℕ
plan_values t = t.cost ∷ t.setups ∷ []

abbrev pub answer_figures : Result Totals Refusal → Figures ℕ
answer_figures = figures_by plan_values refused_with

-- the equal path: the plan's loads too
abbrev pub equal_values : Totals × Loads → List ℕ
equal_values p = p.0.cost ∷ p.0.setups ∷ p.1.full ∷ p.1.part ∷ []

abbrev pub equal_figures : Result (Totals × Loads) Refusal → Figures ℕ
equal_figures = figures_by equal_values refused_with

-- needs known as ranges: the least costs for the lowest and for the highest
abbrev pub bounds_values : Bounds → List ℕ
bounds_values b = b.lowest ∷ b.highest ∷ []

abbrev pub bounds_figures : Result Bounds Refusal → Figures ℕ
bounds_figures = figures_by bounds_values refused_with

-- big days: cost and setups of the plan, the trials used, the gap
abbrev pub big_values : Totals × Trials → List ℕ
big_values p = p.0.cost ∷ p.0.setups ∷ p.1.used ∷ p.1.gap ∷ []

abbrev pub big_figures : Result (Totals × Trials) Refusal → Figures ℕ
big_figures = figures_by big_values refused_with

-- accepted answers with the same figures give the same values
pub same_values : {A : Type 0} {l m : List A} → accepted_with l ≡ accepted_with m → l ≡ m
same_values {A} {l} {m} e = let same : Some l ≡ Some m = ap (λ (f : Figures A). f.values) e in cc

-- one by one
pub first_value : {A : Type 0} {a b : A} {l m : List A} → accepted_with (a ∷ l) ≡ accepted_with (b ∷ m) → a ≡ b
first_value e = let same = same_values e in cc

pub second_value : {A : Type 0} {a b x y : A} {l m : List A} → accepted_with (x ∷ a ∷ l) ≡ accepted_with (y ∷ b ∷ m) → a ≡ b
second_value e = let same = same_values e in cc

-- the promise of a call that answers with its tests alone: its first refusal, by number and period, or that there is none
abbrev pub Checks : Option Refusal → Result Unit Refusal → Type 0
Checks o (Ok _) = o ≡ None
Checks o (Err r) = Gives o r

pub checks_is : (o : Option Refusal) (answer : Result Unit Refusal) → Checks o answer → answer ≡ checked o
checks_is o (Ok _) e = sym (ap checked e)
checks_is o (Err r) g = sym (ap checked (gives_is g))

pub is_checks : (o : Option Refusal) (answer : Result Unit Refusal) → answer ≡ checked o → Checks o answer
is_checks None answer e = subst (Checks None) (sym e) refl
is_checks (Some r) answer e = subst (Checks (Some r)) (sym e) (is_gives refl)
