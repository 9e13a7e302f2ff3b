-- The lines that `dayplan` prints and those of `margins`, as bytes.
-- Main definitions: `plan_line`, `amount_line`, `refusal_line`; `played_line`, `margin_refusal_line`. Assumes nothing.
use Rattle.std.specs.Prelude.{codes, List, [], ◌∷◌, ◌++◌, ℕ, suc, ◌+◌, ◌^◌, ◌≤◌, ltb, length, Option, None, Some}
use Rattle.std.specs.Borrow.{Bor}
use Rattle.lines.specs.Digits.{last_digits}
use Rattle.day.specs.declared.Refusal.{Refusal}
use Rattle.day.specs.Find.{find}
use Rattle.day.specs.Day.{Day, max_periods}
use Rattle.day.specs.Plan.{inventory}
use Rattle.day.specs.Refusals.{number_of, period_of}

-- one more than the first k with n below 10 ^ (k + 1): how many digits n takes; 20 hold every 64-bit number
abbrev pub places_of : Option ℕ → ℕ
places_of None = 20
places_of (Some k) = suc k

abbrev pub places : ℕ → ℕ
places n = places_of (find (λ k. ltb n (10 ^ suc k)) 20)

-- n in decimal, with no zeros in front
unfoldable pub decimal : ℕ → List ℕ
decimal n = last_digits 10 (places n) n

-- a line's words, as bytes; the line's end
abbrev pub periods_word : List ℕ
periods_word = codes "periods "

abbrev pub cost_word : List ℕ
cost_word = codes " cost "

abbrev pub starts_word : List ℕ
starts_word = codes " starts "

abbrev pub made_word : List ℕ
made_word = codes " made "

abbrev pub left_word : List ℕ
left_word = codes " left "

abbrev pub refused_word : List ℕ
refused_word = codes "refused "

abbrev pub period_word : List ℕ
period_word = codes " period "

abbrev pub margin_word : List ℕ
margin_word = codes "margin "

abbrev pub missed_word : List ℕ
missed_word = codes " missed "

abbrev pub spilled_word : List ℕ
spilled_word = codes " spilled "

abbrev pub line_end : List ℕ
line_end = codes "\n"

-- a word and a number; a line is some of these and the line's end
abbrev pub labelled : List ℕ → ℕ → List ℕ
labelled word n = word ++ decimal n

abbrev pub line_of : List (List ℕ × ℕ) → List ℕ
line_of [] = line_end
line_of (l ∷ rest) = labelled l.0 l.1 ++ line_of rest

-- words that are lent, each with a number
abbrev pub labels : List (Bor (List ℕ) × ℕ) → List (List ℕ × ℕ)
labels [] = []
labels (p ∷ rest) = (p.0.now, p.1) ∷ labels rest

-- room for a line of such words: 20 digits hold every 64-bit number
abbrev pub line_room : List (List ℕ × ℕ) → ℕ
line_room [] = 1
line_room (l ∷ rest) = length l.0 + 20 + line_room rest

-- periods n cost c starts s
abbrev pub plan_line : (n cost setups : ℕ) → List ℕ
plan_line n cost setups = line_of ((periods_word, n) ∷ (cost_word, cost) ∷ (starts_word, setups) ∷ [])

-- i made x left I
abbrev pub period_line : (i amount inventory : ℕ) → List ℕ
period_line i amount inventory = line_of (([], i) ∷ (made_word, amount) ∷ (left_word, inventory) ∷ [])

-- refused r period i
abbrev pub refusal_line : Refusal → List ℕ
refusal_line r = line_of ((refused_word, number_of r) ∷ (period_word, period_of r) ∷ [])

-- margin m cost c missed l spilled s
abbrev pub played_line : (margin cost lost disposed : ℕ) → List ℕ
played_line margin cost lost disposed = line_of ((margin_word, margin) ∷ (cost_word, cost) ∷ (missed_word, lost) ∷ (spilled_word, disposed) ∷ [])

-- margin m refused r period i
abbrev pub margin_refusal_line : ℕ → Refusal → List ℕ
margin_refusal_line margin r = line_of ((margin_word, margin) ∷ (codes " refused ", number_of r) ∷ (period_word, period_of r) ∷ [])

-- what a line says of period k + 1 of a plan: its amount, and the inventory left after it
abbrev pub amount_line : Day → (ℕ → ℕ) → ℕ → List ℕ
amount_line d x k = period_line (suc k) (x k) (inventory d x (suc k))

-- demand and plan have the first i periods, of at most 96
pub record HavePeriods (demand plan : List ℕ) (i : ℕ) : Type 0 where
  pub demanded : i ≤ length demand
  pub planned : i ≤ length plan
  pub few : i ≤ max_periods

-- the most bytes of a line of three numbers, of a margin's line, and of a text: 97 lines
abbrev pub line_bytes : ℕ
line_bytes = 96

abbrev pub margin_bytes : ℕ
margin_bytes = 123

abbrev pub text_bytes : ℕ
text_bytes = 9312
