-- Laws of lists of tests: what an answer says of the conditions that were tested, and how the answers of several calls join.
-- Main statements: `passed`, `refused`; `group_refused`, `group_passed`, `group_decides`. Assumes nothing.
use Rattle.std.proofs.lemmas.Option.{none-some}
use Rattle.std.specs.Prelude.{◌≡◌, refl, Bool, true, false, ◌||◌, List, [], ◌∷◌, ◌++◌, ℕ, get_or, Option, None, Some, Result, Ok, Err}
use Rattle.std.proofs.Common.{sym, ap, ap₂, ◌∙◌, true≢false, arith}
use Rattle.day.specs.declared.Refusal.{Refusal}
use Rattle.day.specs.declared.Refusal.TheVariants.{PeriodCount, TableLength, AboveLimit, TotalDemand, ShortArea, FewSlots, Shortage}
use Rattle.day.specs.declared.Refusal.TheVariants.{UnequalCapacities, BindingCapacity}
use Rattle.day.specs.declared.Refusal.TheVariants.{UnknownKind, TruncatedFile, WrongEnd, NoSuchPeriod, SurplusInventory, PaidSetup, LowStore}
use Rattle.day.specs.declared.Refusal.TheVariants.{OpeningInventory, ReversedRange, NoTrials, WrongStamp}
use Rattle.day.specs.Refusals.{number_of, period_of, Gives, refuse, refuse_at, or_next, first, checked}

passed≢refused : {r : Refusal} → ◌≡◌ {A = Result Unit Refusal} (Ok tt) (Err r) → ⊥
passed≢refused e = let z : ◌≡◌ {A = ℕ} 0 1 = cc in omega arith

-- what an answer says of the conditions that were tested
pub passed : (o : Option Refusal) {answer : Result Unit Refusal} → answer ≡ checked o → answer ≡ Ok tt → o ≡ None
passed None is e = refl
passed (Some r) is e = absurd (passed≢refused (sym e ∙ is))

pub refused : (o : Option Refusal) {answer : Result Unit Refusal} {r : Refusal} → answer ≡ checked o → answer ≡ Err r → o ≡ Some r
refused None is e = absurd (passed≢refused (sym is ∙ e))
refused (Some r) is e = cc

-- the refusal of a number and a period: number k stands at place k
with_number : (number period : ℕ) → Refusal
with_number number i =
    get_or
    (PeriodCount
    ∷ PeriodCount
    ∷ TableLength
    ∷ AboveLimit i
    ∷ TotalDemand
    ∷ ShortArea
    ∷ FewSlots
    ∷ Shortage i
    ∷ UnequalCapacities
    ∷ BindingCapacity i
    ∷ UnknownKind
    ∷ TruncatedFile
    ∷ WrongEnd
    ∷ NoSuchPeriod
    ∷ SurplusInventory
    ∷ PaidSetup i
    ∷ LowStore i
    ∷ OpeningInventory
    ∷ ReversedRange i
    ∷ NoTrials
    ∷ [])
    number
    WrongStamp

number_fixes : (r : Refusal) → with_number (number_of r) (period_of r) ≡ r
unfolding with_number
number_fixes PeriodCount = refl
number_fixes TableLength = refl
number_fixes (AboveLimit i) = refl
number_fixes TotalDemand = refl
number_fixes ShortArea = refl
number_fixes FewSlots = refl
number_fixes (Shortage i) = refl
number_fixes UnequalCapacities = refl
number_fixes (BindingCapacity i) = refl
number_fixes UnknownKind = refl
number_fixes TruncatedFile = refl
number_fixes WrongEnd = refl
number_fixes NoSuchPeriod = refl
number_fixes SurplusInventory = refl
number_fixes (PaidSetup i) = refl
number_fixes (LowStore i) = refl
number_fixes OpeningInventory = refl
number_fixes (ReversedRange i) = refl
number_fixes NoTrials = refl
number_fixes WrongStamp = refl

-- number and period fix a refusal: what is given is the first in order, and the other way round
pub gives_is : {o : Option Refusal} {r : Refusal} → Gives o r → o ≡ Some r
gives_is {o} {r} g =
    g.is ∙ ap Some (sym (number_fixes g.first) ∙ (ap₂ with_number (sym g.number) (sym g.period) ∙ number_fixes r))

pub is_gives : {o : Option Refusal} {r : Refusal} → o ≡ Some r → Gives o r
is_gives {o} {r} e = record { first = r; is = e; number = refl; period = refl }

-- a list whose first part has a refusal, or none
pub first_refused : (xs ys : List (Option Refusal)) {r : Refusal} → first xs ≡ Some r → first (xs ++ ys) ≡ Some r
first_refused [] ys e = absurd (none-some _ e)
first_refused (None ∷ xs) ys e = first_refused xs ys e
first_refused (Some r ∷ xs) ys e = e

pub first_passed : (xs ys : List (Option Refusal)) → first xs ≡ None → first (xs ++ ys) ≡ first ys
first_passed [] ys e = refl
first_passed (None ∷ xs) ys e = first_passed xs ys e
first_passed (Some r ∷ xs) ys e = absurd (none-some _ (sym e))

pub first_join : (xs ys : List (Option Refusal)) → first (xs ++ ys) ≡ or_next (first xs) (first ys)
first_join [] ys = refl
first_join (None ∷ xs) ys = first_join xs ys
first_join (Some r ∷ xs) ys = refl

-- a list without refusals has none in either part
pub first_split : (xs ys : List (Option Refusal)) → first (xs ++ ys) ≡ None → (first xs ≡ None) × (first ys ≡ None)
first_split [] ys e = (refl, e)
first_split (None ∷ xs) ys e = first_split xs ys e
first_split (Some r ∷ xs) ys e = absurd (none-some _ (sym e))

-- a list of one
pub first_one : (o : Option Refusal) → first (o ∷ []) ≡ o
first_one None = refl
first_one (Some r) = refl

-- a list of two without refusals
pub first_two : (o p : Option Refusal) → first (o ∷ p ∷ []) ≡ None → (o ≡ None) × (p ≡ None)
first_two None p e = (refl, sym (first_one p) ∙ e)
first_two (Some r) p e = absurd (none-some _ (sym e))

-- the answers of a test and of those after it, in order
abbrev pub in_order : Result Unit Refusal → Result Unit Refusal → Result Unit Refusal
in_order (Ok _) c = c
in_order (Err r) c = Err r

pub in_order_lem : (o : Option Refusal) (rest : List (Option Refusal)) {test next answer : Result Unit Refusal}
    → test ≡ checked o → next ≡ checked (first rest) → answer ≡ in_order test next
    → answer ≡ checked (first (o ∷ rest))
in_order_lem None rest is then e = rw (is, then) at e
in_order_lem (Some r) rest is then e = rw is at e

pub alone : (o : Option Refusal) {answer : Result Unit Refusal} → answer ≡ checked o → answer ≡ checked (first (o ∷ []))
alone None is = is
alone (Some r) is = is

-- of two tests
pub in_order_two : (o p : Option Refusal) {test next answer : Result Unit Refusal} → test ≡ checked o → next ≡ checked p → answer ≡ in_order test next
    → answer ≡ checked (first (o ∷ p ∷ []))
in_order_two o p is then e = in_order_lem o (p ∷ []) is (alone p then) e

-- where the tests before a group passed: the group's refusal is that of the whole list
module _ (before group : List (Option Refusal)) (ok : first before ≡ None) {answer : Result Unit Refusal} (is : answer ≡ checked (first group)) where
  pub group_refused : (after : List (Option Refusal)) {r : Refusal} → answer ≡ Err r → Err r ≡ checked (first (before ++ (group ++ after)))
  group_refused after e = sym (ap checked (first_passed before (group ++ after) ok ∙ first_refused group after (refused (first group) is e)))

  -- a group that passes has passed with them
  pub group_passed : answer ≡ Ok tt → first (before ++ group) ≡ None
  group_passed e = first_passed before group ok ∙ passed (first group) is e

  -- and the last group decides
  pub group_decides : answer ≡ checked (first (before ++ group))
  group_decides = is ∙ ap checked (sym (first_passed before group ok))

-- a condition that gives no refusal does not hold, in no period
pub not_refused : (b : Bool) (r : Refusal) → refuse b r ≡ None → b ≡ false
not_refused true r e = absurd (none-some _ (sym e))
not_refused false r e = refl

pub nowhere : (r : ℕ → Refusal) (o : Option ℕ) → refuse_at r o ≡ None → o ≡ None
nowhere r None e = refl
nowhere r (Some k) e = absurd (none-some _ (sym e))

pub neither : (a b : Bool) → (a || b) ≡ false → (a ≡ false) × (b ≡ false)
neither true b e = absurd (true≢false e)
neither false b e = (refl, e)
