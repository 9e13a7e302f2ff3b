-- The draws of a test load: from a 32-bit seed, five for each period.
-- Main definitions: `next_seed`, `seed_after`, `drawn`; `need`, `capacity`, `start`, `unit`, `upkeep`. Main statement: `first_need`.
-- Assumes nothing.
use Rattle.std.specs.Prelude.{◌≡◌, refl, ℕ, zero, suc, ◌+◌, ◌*◌, ◌/◌, ◌%◌}

-- each draw sets the seed to this
abbrev pub next_seed : ℕ → ℕ
next_seed seed = (1664525 * seed + 1013904223) % 4294967296

-- the seed after k draws
abbrev pub seed_after : ℕ → ℕ → ℕ
seed_after seed zero = seed
seed_after seed (suc k) = next_seed (seed_after seed k)

-- the upper 16 of 32 bits
abbrev pub upper : ℕ → ℕ
upper seed = seed / 65536

-- what draw k takes, counted from 1
abbrev pub drawn : ℕ → ℕ → ℕ
drawn seed k = upper (seed_after seed k)

-- the five draws of period i + 1, in their order and words
abbrev pub need : ℕ → ℕ → ℕ
need seed i = drawn seed (5 * i + 1) % 41

abbrev pub capacity : ℕ → ℕ → ℕ
capacity seed i = drawn seed (5 * i + 2) % 61

abbrev pub start : ℕ → ℕ → ℕ
start seed i = drawn seed (5 * i + 3) % 30001

abbrev pub unit : ℕ → ℕ → ℕ
unit seed i = drawn seed (5 * i + 4) % 1201

abbrev pub upkeep : ℕ → ℕ → ℕ
upkeep seed i = drawn seed (5 * i + 5) % 21

-- with seed 0 the first need is 13
pub first_need : need 0 0 ≡ 13
first_need = refl
