-- What std prints of a number is its decimal digits; a sum over a part of a table.
-- Main statements: `decimal_is`, `part_total`. Assumes nothing.
use Rattle.std.specs.Prelude.{◌≡◌, refl, List, [], ◌∷◌, ◌++◌, ℕ, zero, suc, ◌+◌, ◌-◌, ◌/◌, ◌%◌, ◌^◌, ◌≤◌, ◌<◌, ltb, length, take}
use Rattle.std.proofs.Common.{sym, ap, ◌∙◌, arith, lt-ltb, le-ltb, get_or-take, length-take-le}
use Rattle.std.proofs.Math.Nat.{pow-le-pow_right, pow-suc}
use Rattle.std.proofs.Math.Decide.{dec_lt}
use Rattle.std.specs.Fmt.{decimal as printed}
use Rattle.std.proofs.lemmas.Fmt.{decimal_by_steps}
use Rattle.lines.specs.Digits.{last_digits, IsDigitCount}
use Rattle.day.specs.Sums.{at, sum_to, sum_ext}
use Rattle.day.specs.Find.{find_here, nothing_found}
use Rattle.lines.specs.Text.{places, places_of, decimal}

-- a 64-bit number has at most 20 digits
pub few_digits : (n k : ℕ) → IsDigitCount 10 n k → n < 2 ^ 64 → k ≤ 20
few_digits n k f h = go (dec_lt 20 k)
  where
    go : Dec (20 < k) → k ≤ 20
    go (yes l) = absurd (omega (arith, f.2 (omega arith), pow-le-pow_right {n = 10} (omega arith) {i = 20} {j = k - 1} (omega arith)))
    go (no l) = omega arith

-- the fewest digits that hold a number, as `places` counts them
places_are : (n k : ℕ) → IsDigitCount 10 n k → k ≤ 20 → places n ≡ k
places_are n zero f h = absurd (omega (arith, f.0))
places_are n (suc k) f h =
    ap places_of
    (find_here (λ j. ltb n (10 ^ suc j)) k 20
    (nothing_found (λ j. ltb n (10 ^ suc j)) k (λ j l. le-ltb n (10 ^ suc j) (below j l)))
    (lt-ltb n (10 ^ suc k) f.1)
    h)
  where
    below : (j : ℕ) → j < k → 10 ^ suc j ≤ n
    below j l =
        let e : suc k - 1 ≡ k = omega arith in
        let top : 10 ^ k ≤ n = rw e at (f.2 (omega arith)) in
        omega (arith, pow-le-pow_right {n = 10} (omega arith) {i = suc j} {j = k} l)

-- a text is the digits of a number
record Digits (n : ℕ) (text : List ℕ) : Type 0 where
  places : ℕ
  count : IsDigitCount 10 n places
  is : text ≡ last_digits 10 places n

one_digit : (n : ℕ) → n < 10 → Digits n ((48 + n) ∷ [])
one_digit n h =
    let low : n % 10 ≡ n = omega arith in
    record { places = 1; count = (omega arith, omega arith, omega arith); is = rw low refl }

-- a digit more behind those of a tenth
count_more : (n k : ℕ) → 10 ≤ n → IsDigitCount 10 (n / 10) k → IsDigitCount 10 n (suc k)
count_more n zero h d = absurd (omega (arith, d.0))
count_more n (suc zero) h d = (omega arith, omega (arith, d.1), omega arith)
count_more n (suc (suc j)) h d =
    let less : suc (suc j) - 1 ≡ suc j = omega arith in
    let one_less : suc (suc (suc j)) - 1 ≡ suc (suc j) = omega arith in
    let low : 10 ^ suc j ≤ n / 10 = rw less at (d.2 (omega arith)) in
    (omega arith, omega (arith, d.1, pow-suc 10 (suc (suc j))), λ _. rw one_less (omega (arith, pow-suc 10 (suc j), low)))

digit_more : (n : ℕ) (text : List ℕ) → 10 ≤ n → Digits (n / 10) text → Digits n (text ++ ((48 + n % 10) ∷ []))
digit_more n text h d =
    record { places = suc d.places; count = count_more n d.places h d.count; is = ap (λ (t : List ℕ). t ++ ((48 + n % 10) ∷ [])) d.is }

-- what std prints of a number is the number in decimal
pub decimal_is : (n : ℕ) → n < 2 ^ 64 → printed n ≡ decimal n
unfolding decimal
decimal_is n h =
    let d = decimal_by_steps Digits one_digit digit_more n h in
    d.is ∙ ap (λ (k : ℕ). last_digits 10 k n) (sym (places_are n d.places d.count (few_digits n d.places d.count h)))

-- the sum of the first i entries, as that of a part
pub part_total : (l : List ℕ) (i r : ℕ) → i ≤ length l → r ≡ sum_to (at (take i l)) (length (take i l)) → r ≡ sum_to (at l) i
part_total l i r h is =
    let size : length (take i l) ≡ i = length-take-le i l h in
    is ∙ ap (sum_to (at (take i l))) size ∙ sum_ext (at (take i l)) (at l) i (λ k b. get_or-take i l k 0 b)
