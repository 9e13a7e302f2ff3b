-- The keys of the periods, written from the last one down.
-- Main definition: `Keyed`; laws of the loop: `keying_start`, `keying_next`, `keying_end`. Assumes nothing.
use Rattle.std.specs.Prelude.{◌≡◌, refl, List, ℕ, suc, ◌+◌, ◌-◌, ◌*◌, ◌≤◌, ◌<◌, length, drop, set}
use Rattle.std.proofs.Common.{◌∙◌, ⊎_elim, eq-or-lt_of_le, arith, length-set, get_or-set_same, get_or-set_other, drop-set-lt}
use Rattle.day.specs.Sums.{at, sum_to}
use Rattle.theory.specs.Greedy.{key_of}

-- the first n cells hold the keys, and the others what they held
pub record Keyed (unit holding before cells : List ℕ) : Type 0 where
  pub each : length cells ≡ length before
  pub keys : (k : ℕ) → k < length unit → at cells k ≡ key_of (at unit) (at holding) (length unit) k
  pub rest : drop (length unit) cells ≡ drop (length unit) before

-- the keys from period k on are written, and `held` is what holding a unit from there costs
pub record Keying (unit holding : List ℕ) (k held : ℕ) (before cells : List ℕ) : Type 0 where
  pub low : k ≤ length unit
  pub tells : held + sum_to (at holding) k ≡ sum_to (at holding) (length unit)
  pub small : held ≤ (length unit - k) * 4294967296
  pub each : length cells ≡ length before
  pub keyed : (j : ℕ) → k ≤ j → j < length unit → at cells j ≡ key_of (at unit) (at holding) (length unit) j
  pub rest : drop (length unit) cells ≡ drop (length unit) before

module _ (unit holding before : List ℕ) where
  abbrev n : ℕ
  n = length unit

  pub keying_start : Keying unit holding n 0 before before
  keying_start =
      record { low = omega arith; tells = omega arith; small = omega arith; each = refl; keyed = λ j a b. absurd (omega arith); rest = refl }

  pub keying_next : (k i held : ℕ) (cells : List ℕ) → k ≡ suc i → n ≤ length before → at holding i < 4294967296
      → Keying unit holding k held before cells
      → Keying unit holding i (held + at holding i) before (set cells i (at unit i + (held + at holding i)))
  keying_next k i held cells e long low s =
      let next : suc i ≤ n = omega (arith, s.low) in
      let t : held + sum_to (at holding) (suc i) ≡ sum_to (at holding) n = rw e at s.tells in
      record {
        low = omega arith;
        tells = omega (arith, t);
        small = omega (arith, s.small);
        each = length-set cells i (at unit i + (held + at holding i)) ∙ s.each;
        keyed = λ j a b.
            ⊎_elim
            (λ (q : i ≡ j). rw (← q) (get_or-set_same cells i (at unit i + (held + at holding i)) 0 (omega (arith, s.each)) ∙ here t))
            (λ (l : i < j). get_or-set_other cells i j (at unit i + (held + at holding i)) 0 (omega arith) ∙ s.keyed j (omega arith) b)
            (eq-or-lt_of_le a);
        rest = drop-set-lt n cells i (at unit i + (held + at holding i)) next ∙ s.rest;
      }
    where
      here : held + sum_to (at holding) (suc i) ≡ sum_to (at holding) n → at unit i + (held + at holding i) ≡ key_of (at unit) (at holding) n i
      here t = omega (arith, t)

  pub keying_end : (held : ℕ) (cells : List ℕ) → Keying unit holding 0 held before cells → Keyed unit holding before cells
  keying_end held cells s = record { each = s.each; keys = λ k l. s.keyed k (omega arith) l; rest = s.rest }
