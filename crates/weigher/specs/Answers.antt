-- What the weigher's two calls answer, and the number of each rule.
-- Main definitions: `Weighs`, `Compares`, the contracts of the calls; `weighed_figures`, `compared_figures`; `rule_number`.
-- Main statements: `same_verdict`, `weighs_is`, `compares_is`, `compares`. Assumes nothing.
use Rattle.std.specs.Prelude.{◌≡◌, refl, List, [], ◌∷◌, ◌++◌, ℕ, ◌-◌, length, get_or, ℤ, pos, ◌-ℤ◌, Option, None, Some, Result, Ok, Err}
use Rattle.std.proofs.Common.{sym, ap, ap₂, subst, ◌∙◌}
use Rattle.day.specs.declared.Refusal.{Refusal}
use Rattle.day.specs.declared.Totals.{Totals}
use Rattle.day.specs.Sums.{at}
use Rattle.day.specs.Day.{Day, periods, max_total}
use Rattle.day.specs.Refusals.{Gives, first, day_tests, bad_slots}
use Rattle.day.specs.Tests.{gives_is, is_gives}
use Rattle.day.specs.Figures.{Figures, refused_with, figures_by, plan_values}
use Rattle.weigher.specs.declared.Breach.{Breach}
use Rattle.weigher.specs.declared.Fault.{Fault}
use Rattle.weigher.specs.declared.Fault.TheVariants.{Refused, Broken}
use Rattle.weigher.specs.declared.Rule.{Rule}
use Rattle.weigher.specs.declared.Rule.TheVariants.{AboveCapacity, Short, AboveStore, Over}
use Rattle.weigher.specs.Verdict.{Verdict, breach, verdict_of}

-- 1, 2, 3, 4, 14, 6
abbrev pub weigh_refusal : Day → List ℕ → Option Refusal
weigh_refusal d plan = first (day_tests max_total d ++ (bad_slots (length plan) (periods d) ∷ []))

-- what the weigher answers, and what the comparison does
abbrev pub Weighed : Type 0
Weighed = Result Totals Fault

abbrev pub Compared : Type 0
Compared = Result ℤ Fault

-- the verdict on a plan that is not refused
abbrev pub judged : Verdict → Weighed
judged (Ok t) = Ok t
judged (Err b) = Err (Broken b)

-- the first refusal in order, else the verdict on the plan
abbrev pub or_refused : Option Refusal → Verdict → Weighed
or_refused (Some r) v = Err (Refused r)
or_refused None v = judged v

abbrev pub weighed_of : Day → List ℕ → Weighed
weighed_of d plan = or_refused (weigh_refusal d plan) (verdict_of d (at plan))

-- the first plan's cost less the second's; where one is broken its verdict, the first plan's where both are
abbrev pub between_of : Verdict → Verdict → Compared
between_of (Err b) w = Err (Broken b)
between_of (Ok t) (Err b) = Err (Broken b)
between_of (Ok t) (Ok u) = Ok (pos t.cost -ℤ pos u.cost)

-- a plan that is refused goes before both verdicts
abbrev pub compare_of : Weighed → Weighed → Compared
compare_of (Err (Refused r)) w = Err (Refused r)
compare_of (Err (Broken b)) (Err (Refused r)) = Err (Refused r)
compare_of (Err (Broken b)) (Err (Broken c)) = Err (Broken b)
compare_of (Err (Broken b)) (Ok u) = Err (Broken b)
compare_of (Ok t) (Err f) = Err f
compare_of (Ok t) (Ok u) = Ok (pos t.cost -ℤ pos u.cost)

-- the number of a broken rule, above those of the refusals
abbrev pub rule_number : Rule → ℕ
rule_number AboveCapacity = 101
rule_number Short = 102
rule_number AboveStore = 104
rule_number Over = 103

abbrev pub broken_with : {A : Type 0} → Rule → ℕ → Figures A
broken_with r i = record { number = rule_number r; period = i; values = None }

abbrev pub breach_figures : {A : Type 0} → Breach → Figures A
breach_figures b = broken_with b.rule b.period

abbrev pub fault_figures : {A : Type 0} → Fault → Figures A
fault_figures (Refused r) = refused_with r
fault_figures (Broken b) = breach_figures b

-- the answers in figures: a weighing gives cost and setups of a plan that holds, a comparison the difference
abbrev pub verdict_figures : Verdict → Figures ℕ
verdict_figures = figures_by plan_values breach_figures

abbrev pub weighed_figures : Weighed → Figures ℕ
weighed_figures = figures_by plan_values fault_figures

abbrev pub compared_values : ℤ → List ℤ
compared_values v = v ∷ []

abbrev pub compared_figures : Compared → Figures ℤ
compared_figures = figures_by compared_values fault_figures

-- what is promised of an answer: the first refusal, by number and period; where there is none the answer wanted, by its figures
abbrev pub Answers : {A B : Type 0} → (Result A Fault → Figures B) → Option Refusal → (wanted given : Result A Fault) → Type 0
Answers figures o wanted (Err (Refused r)) = Gives o r
Answers figures o wanted (Err (Broken b)) = (o ≡ None) × (figures (Err (Broken b)) ≡ figures wanted)
Answers figures o wanted (Ok a) = (o ≡ None) × (figures (Ok a) ≡ figures wanted)

-- the weigher's promise: the verdict on the plan
abbrev pub Weighs : Day → List ℕ → Weighed → Type 0
Weighs d plan = Answers weighed_figures (weigh_refusal d plan) (judged (verdict_of d (at plan)))

-- and the comparison's: the first refusal of both plans; else what their verdicts compare to
abbrev pub Compares : Day → (plan other : List ℕ) → Compared → Type 0
Compares d plan other =
    Answers
    compared_figures
    (first (weigh_refusal d plan ∷ weigh_refusal d other ∷ []))
    (between_of (verdict_of d (at plan)) (verdict_of d (at other)))

-- the number fixes a rule
abbrev rule_with : ℕ → Rule
rule_with number = get_or (AboveCapacity ∷ Short ∷ Over ∷ []) (number - 101) AboveStore

rule_back : (r : Rule) → rule_with (rule_number r) ≡ r
rule_back AboveCapacity = refl
rule_back Short = refl
rule_back AboveStore = refl
rule_back Over = refl

breach_back : (b : Breach) → breach (rule_with (rule_number b.rule)) b.period ≡ b
breach_back b = ap (λ (q : Rule). breach q b.period) (rule_back b.rule)

-- the figures fix a verdict
abbrev with_figures : Figures ℕ → Option (List ℕ) → Verdict
with_figures f (Some l) = Ok (record { cost = get_or l 0 0; setups = get_or l 1 0 })
with_figures f None = Err (breach (rule_with f.number) f.period)

abbrev verdict_with : Figures ℕ → Verdict
verdict_with f = with_figures f f.values

verdict_back : (v : Verdict) → verdict_with (verdict_figures v) ≡ v
verdict_back (Ok t) = refl
verdict_back (Err b) = ap (λ (c : Breach). Err c) (breach_back b)

-- equal figures are of one verdict
pub same_verdict : (v w : Verdict) → verdict_figures v ≡ verdict_figures w → v ≡ w
same_verdict v w e = sym (verdict_back v) ∙ (ap verdict_with e ∙ verdict_back w)

judged_figures : (v : Verdict) → weighed_figures (judged v) ≡ verdict_figures v
judged_figures (Ok t) = refl
judged_figures (Err b) = refl

-- so there is one answer that keeps the weigher's promise
weighs_one : (o : Option Refusal) (v : Verdict) (w : Weighed) → Answers weighed_figures o (judged v) w → w ≡ or_refused o v
weighs_one o v (Err (Refused r)) g = rw (gives_is g) refl
weighs_one o v (Err (Broken b)) e = rw e.0 (ap judged (same_verdict (Err b) v (e.1 ∙ judged_figures v)))
weighs_one o v (Ok t) e = rw e.0 (ap judged (same_verdict (Ok t) v (e.1 ∙ judged_figures v)))

pub weighs_is : (d : Day) (plan : List ℕ) (w : Weighed) → Weighs d plan w → w ≡ weighed_of d plan
weighs_is d plan w e = weighs_one (weigh_refusal d plan) (verdict_of d (at plan)) w e

-- they fix what two verdicts compare to
abbrev between_figures : Figures ℤ → Option (List ℤ) → Compared
between_figures f (Some l) = Ok (get_or l 0 (pos 0))
between_figures f None = Err (Broken (breach (rule_with f.number) f.period))

abbrev between_with : Figures ℤ → Compared
between_with f = between_figures f f.values

broken_back : (b : Breach) → between_with (compared_figures (Err (Broken b))) ≡ Err (Broken b)
broken_back b = ap (λ (c : Breach). Err (Broken c)) (breach_back b)

between_back : (v w : Verdict) → between_with (compared_figures (between_of v w)) ≡ between_of v w
between_back (Err b) w = broken_back b
between_back (Ok t) (Err b) = broken_back b
between_back (Ok t) (Ok u) = refl

-- so there is one answer that keeps the comparison's promise
abbrev refused_or : Option Refusal → Compared → Compared
refused_or (Some r) c = Err (Refused r)
refused_or None c = c

compares_one : (o : Option Refusal) (v w : Verdict) (c : Compared) → Answers compared_figures o (between_of v w) c → c ≡ refused_or o (between_of v w)
compares_one o v w (Err (Refused r)) g = rw (gives_is g) refl
compares_one o v w (Err (Broken b)) e = rw e.0 (sym (broken_back b) ∙ (ap between_with e.1 ∙ between_back v w))
compares_one o v w (Ok x) e = rw e.0 (ap between_with e.1 ∙ between_back v w)

compare_refused : (o p : Option Refusal) (v w : Verdict) → refused_or (first (o ∷ p ∷ [])) (between_of v w) ≡ compare_of (or_refused o v) (or_refused p w)
compare_refused (Some r) p v w = refl
compare_refused None (Some r) (Err b) w = refl
compare_refused None (Some r) (Ok t) w = refl
compare_refused None None (Err b) (Err c) = refl
compare_refused None None (Err b) (Ok u) = refl
compare_refused None None (Ok t) (Err b) = refl
compare_refused None None (Ok t) (Ok u) = refl

pub compares_is : (d : Day) (plan other : List ℕ) (c : Compared) → Compares d plan other c → c ≡ compare_of (weighed_of d plan) (weighed_of d other)
compares_is d plan other c e =
    let v = verdict_of d (at plan) in
    let w = verdict_of d (at other) in
    compares_one (first (weigh_refusal d plan ∷ weigh_refusal d other ∷ [])) v w c e
    ∙ compare_refused (weigh_refusal d plan) (weigh_refusal d other) v w

-- what two answers of the weigher compare to keeps it
pub compares_as : (o p : Option Refusal) (v w : Verdict)
    → Answers compared_figures (first (o ∷ p ∷ [])) (between_of v w) (compare_of (or_refused o v) (or_refused p w))
compares_as (Some r) p v w = is_gives refl
compares_as None (Some r) (Err b) w = is_gives refl
compares_as None (Some r) (Ok t) w = is_gives refl
compares_as None None (Err b) (Err c) = (refl, refl)
compares_as None None (Err b) (Ok u) = (refl, refl)
compares_as None None (Ok t) (Err b) = (refl, refl)
compares_as None None (Ok t) (Ok u) = (refl, refl)

pub compares : (d : Day) (plan other : List ℕ) (a b : Weighed) (c : Compared) → Weighs d plan a → Weighs d other b → c ≡ compare_of a b
    → Compares d plan other c
compares d plan other a b c x y e =
    subst
    (Compares d plan other)
    (sym (e ∙ ap₂ compare_of (weighs_is d plan a x) (weighs_is d other b y)))
    (compares_as (weigh_refusal d plan) (weigh_refusal d other) (verdict_of d (at plan)) (verdict_of d (at other)))
