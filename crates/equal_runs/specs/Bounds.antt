-- Bounds that follow from the widths of the tables, so that no sum of costs wraps. Assumes nothing.
use Rattle.std.specs.Prelude.{ℕ, ◌*◌, ◌^◌, ◌≤◌, ◌<◌}
use Rattle.std.proofs.Common.{mul-le-mul, arith}
use Rattle.theory.specs.Loads.{made}

-- the most that 97 loads make
abbrev pub stock_most : ℕ
stock_most = 6400000

-- the most that a period costs: a setup, one load, and holding a 24-bit inventory
abbrev pub stage_most : ℕ
stage_most = 72400000000000000

-- above every cost of 96 periods
abbrev pub marker : ℕ
marker = 7000000000000000000

-- a number of a row, at most
abbrev pub row_most : ℕ
row_most = 14000000000000000000

pub loads_small : (most j load : ℕ) → j ≤ most → load < 2 ^ 16 → j * load ≤ most * 65536
loads_small most j load a b = mul-le-mul {n₁ = j} {m₁ = load} {n₂ = most} {m₂ = 65536} a (omega arith)

pub made_small : (full part j d : ℕ) → full < 2 ^ 16 → part < 2 ^ 16 → j ≤ 96 → d ≤ 1 → made full part j d ≤ stock_most
made_small full part j d f p a b = omega (arith, loads_small 96 j full a f, loads_small 1 d part b p)
