-- Lots as the choices tell them: cell m of the choice area says where the last lot of row m begins.
-- Main definition: `LastLots`. Assumes nothing.
use Rattle.std.specs.Prelude.{◌≡◌, List, [], ◌++◌, ℕ, suc, ◌≤◌, ◌<◌}
use Rattle.theory.specs.Problem.{problem_with, model_of}
use Rattle.theory.specs.WagnerWhitin.{lot}

-- what periods l .. m make where one lot in l serves them all
abbrev pub lot_of : List ℕ → (m l : ℕ) → List ℕ
lot_of demand m l = lot (model_of (problem_with demand [] [] [] [])) m l

-- the last lot of each row up to m begins in one of the row's periods
abbrev pub Begins : (ℕ → ℕ) → ℕ → Type 0
Begins froms m = (k : ℕ) → k < m → froms (suc k) ≤ k

-- the rows up to m as the choices tell them: each is the row before its last lot, and that lot
pub record LastLots (demand : List ℕ) (rows : ℕ → List ℕ) (froms : ℕ → ℕ) (m : ℕ) : Type 0 where
  pub none : rows 0 ≡ []
  pub more : (k : ℕ) → k < m → rows (suc k) ≡ rows (froms (suc k)) ++ lot_of demand k (froms (suc k))
