-- Laws of the read-back: a lot put is the sum of what its periods demand and then zeros, and each lot gives the plan's end from where it begins.
-- Assumes nothing.
use Rattle.std.proofs.Common.{◌≡◌, refl, ap, ◌∙◌, List, ◌++◌, append_assoc, ℕ, zero, suc, ◌+◌, ◌-◌, ◌≤◌, ◌<◌, add-one, arith}
use Rattle.std.proofs.Common.{length, take, drop, set, replicate, drop-set-lt, sum}
use Rattle.std.proofs.lemmas.List.{take_more_set, drop_at, length-take, drop-drop}
use Rattle.std.proofs.lemmas.List.Folds.{drop_split}
use Rattle.std.proofs.lemmas.List.Sums.{sum_by_more, sum_by-take-drop, sum_by-append}
use borrow.Rule.Slice.PartMut.{put_mid}
use Rattle.day.specs.Sums.{at, sum_to, sum_grows}
use Rattle.uncapped_rows.specs.Lots.{Begins, LastLots}
use Rattle.uncapped.specs.Slots.{LotReady, LotPut}

-- the first i elements, and those of a part, summed
front_sum : (l : List ℕ) (i : ℕ) → i ≤ length l → sum (take i l) ≡ sum_to (at l) i
front_sum l zero h = refl
front_sum l (suc i) h =
    let e = sum_by_more (λ (v : ℕ). v) l i 0 h in
    rw (← (add-one i)) (e ∙ ap (λ (s : ℕ). s + at l i) (front_sum l i (omega arith)))

part_sum : (l : List ℕ) (i j : ℕ) → i ≤ j → j ≤ length l → sum (take (j - i) (drop i l)) + sum_to (at l) i ≡ sum_to (at l) j
part_sum l i j h inside =
    let part = take (j - i) (drop i l) in
    let split : sum (drop i l) ≡ sum part + sum (drop j l) = ap sum (drop_split l i j h) ∙ sum_by-append (λ (v : ℕ). v) part (drop j l) in
    let low = sum_by-take-drop (λ (v : ℕ). v) l i in
    let high = sum_by-take-drop (λ (v : ℕ). v) l j in
    omega (arith, front_sum l i (omega arith), front_sum l j inside)

module _ (demand slots : List ℕ) (from last : ℕ) (ready : LotReady demand slots from last) where
  -- what the lot makes
  abbrev amount : ℕ
  amount = sum (take (last + 1 - from) (drop from demand))

  amount_is : amount + sum_to (at demand) from ≡ sum_to (at demand) (suc last)
  amount_is =
      omega (arith, part_sum demand from (last + 1) (omega (arith, ready.order)) (omega (arith, ready.inside)), ap (sum_to (at demand)) (add-one last))

  pub part_small : amount < 65536
  part_small = omega (arith, amount_is, sum_grows (at demand) (suc last) (length demand) ready.inside, ready.small)

  -- its first slot takes that, and the others nothing
  pub lot_put : (made : ℕ) (zeros : List ℕ) → made ≡ amount → zeros ≡ replicate (last - from) 0
      → LotPut demand from last slots (put_mid (from + 1) (last + 1 - (from + 1)) (set slots from made) zeros)
  lot_put made zeros e none =
      let here : from < length slots = omega (arith, ready.order, ready.room) in
      let width : last + 1 - (from + 1) ≡ last - from = omega arith in
      let is : made ≡ sum_to (at demand) (suc last) - sum_to (at demand) from = omega (arith, amount_is) in
      rw (width, none, take_more_set slots from made here, rest, append_assoc, is)
      (drop_at (take from slots) _ from (omega (arith, length-take from slots)))
    where
      past : from + 1 + (last - from) ≡ suc last
      past = omega (arith, ready.order)

      rest : drop (last - from) (drop (from + 1) (set slots from made)) ≡ drop (suc last) slots
      rest = rw (drop-drop, past) (drop-set-lt (suc last) slots from made (omega (arith, ready.order)))

-- the slots from m on hold the end of the plan, whatever rows the choices tell
abbrev pub PlanEnds : (demand choices slots₀ : List ℕ) (m : ℕ) (slots : List ℕ) → Type 0
PlanEnds demand choices slots₀ m slots =
    let n = length demand in
    (rows : ℕ → List ℕ) → LastLots demand rows (at choices) n → rows m ++ drop m slots ≡ rows n ++ drop n slots₀

-- the lot of row m begins before m
pub begins_less : (froms : ℕ → ℕ) {n : ℕ} → Begins froms n → (m k : ℕ) → m ≡ suc k → m ≤ n → froms m ≤ k
begins_less froms begins m k e le = rw e (begins k (omega arith))

module _ (demand choices slots₀ : List ℕ) (m k : ℕ) (e : m ≡ suc k) (le : m ≤ length demand) where
  abbrev froms : ℕ → ℕ
  froms = at choices

  -- a lot more: what the slots hold from where it begins on is what the plan has there
  pub ends_more : (slots slots' : List ℕ) → LotPut demand (froms m) k slots slots'
      → PlanEnds demand choices slots₀ m slots → PlanEnds demand choices slots₀ (froms m) slots'
  ends_more slots slots' put ends rows lots = go (rw e at put) (rw e at (ends rows lots))
    where
      go : LotPut demand (froms (suc k)) k slots slots' → rows (suc k) ++ drop (suc k) slots ≡ rows (length demand) ++ drop (length demand) slots₀
          → rows (froms m) ++ drop (froms m) slots' ≡ rows (length demand) ++ drop (length demand) slots₀
      go put p = rw (e, put, ← append_assoc, ← (lots.more k (omega arith))) p
