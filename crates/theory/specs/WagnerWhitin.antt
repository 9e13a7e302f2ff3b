-- The uncapped path (report, section 3; Wagner and Whitin): a row for each m, found from the rows before it. Row m is the plan of
-- (m, N m), with its cost.
-- Main definition: `wagner_whitin`. Main statement: `wagner_whitin_right`. Assumes nothing.
use Rattle.std.specs.Prelude.{◌≡◌, refl, List, [], ◌∷◌, ◌++◌, ℕ, suc, ◌+◌, ◌-◌, ◌≤◌, ◌<◌, length, replicate}
use Rattle.std.proofs.Common.{sym, ap, ◌∙◌, arith, length-append, get_or-append-add}
use Rattle.std.proofs.Math.Decide.{ℕ_discrete}
use Rattle.std.proofs.lemmas.List.{length-replicate, get_or-replicate, get_or_at}
use Rattle.std.proofs.Math.ListN.{get_or-append}
use Rattle.day.specs.Sums.{at}
use Rattle.theory.specs.Model.{Model, Rising, Unlimited, production, OptimalTo}
use Rattle.theory.specs.Basics.{pick}
use Rattle.theory.specs.Cheapest.{cheapest, Cheapest, cheapest_right, cheapest_unique, cheapest_ext}
use Rattle.theory.specs.Memo.{memo, memo_zero, memo_next, memo_all}
use Rattle.theory.specs.Stages.{Solution}
use Rattle.theory.specs.Recursion.{PlanOf, leads_optimal, plan_none}
use Rattle.theory.specs.Uncapped.{Uncapped, uncapped_less, Through, rest, price, through_cost, copy_step, run_step}

-- where the inventory is last empty before m + 1
abbrev pub from : Model → (ℕ → ℕ) → ℕ → ℕ
from M costs m = pick (ℕ_discrete (M.floor (suc m)) (M.floor m)) m (cheapest (price M costs (suc m)) m)

-- the lot of a regeneration interval from l to m + 1: all of it made in period l
abbrev pub lot : Model → ℕ → ℕ → List ℕ
lot M m l = (M.floor (suc m) - M.floor l) ∷ replicate (m - l) 0

abbrev pub through : Model → ℕ → ℕ → Solution → Solution
through M m l f = record {
  cost = f.cost + production M l (M.floor (suc m) - M.floor l) + rest M (suc m) l;
  plan = f.plan ++ lot M m l;
}

abbrev pub next : Model → (ℕ → Solution) → ℕ → Solution
next M rows m = through M m (from M (λ l. (rows l).cost) m) (rows (from M (λ l. (rows l).cost) m))

abbrev none : Solution
none = record { cost = 0; plan = [] }

unfoldable pub wagner_whitin : Model → ℕ → Solution
wagner_whitin M = memo none (next M)

from_le : (M : Model) (costs : ℕ → ℕ) (m : ℕ) → from M costs m ≤ m
from_le M costs m = go (ℕ_discrete (M.floor (suc m)) (M.floor m))
  where
    go : {A : Type 0} (d : Dec A) → pick d m (cheapest (price M costs (suc m)) m) ≤ m
    go (yes _) = omega arith
    go (no _) = (cheapest_right (price M costs (suc m)) m).inside

through_same : (M : Model) (m a b : ℕ) (f g : Solution) → a ≡ b → f ≡ g → through M m a f ≡ through M m b g
through_same M m a b f g p q = ap (λ (v : ℕ). through M m v f) p ∙ ap (λ (v : Solution). through M m b v) q

from_ext : (M : Model) (r s : ℕ → ℕ) (m : ℕ) → ((l : ℕ) → l ≤ m → r l ≡ s l) → from M r m ≡ from M s m
from_ext M r s m e =
    ap (λ (v : ℕ). pick (ℕ_discrete (M.floor (suc m)) (M.floor m)) m v)
    (cheapest_ext (price M r (suc m)) (price M s (suc m)) m (λ j h. omega (arith, e j h)))

next_ext : (M : Model) (r s : ℕ → Solution) (m : ℕ) → ((l : ℕ) → l ≤ m → r l ≡ s l) → next M r m ≡ next M s m
next_ext M r s m e = through_same M m a b (r a) (s b) same (e a (from_le M (λ l. (r l).cost) m) ∙ ap s same)
  where
    a : ℕ
    a = from M (λ l. (r l).cost) m

    b : ℕ
    b = from M (λ l. (s l).cost) m

    same : a ≡ b
    same = from_ext M (λ l. (r l).cost) (λ l. (s l).cost) m (λ l h. ap (λ (f : Solution). f.cost) (e l h))

module _ (M : Model) where
  pub wagner_whitin_zero : wagner_whitin M 0 ≡ record { cost = 0; plan = [] }
  unfolding wagner_whitin
  wagner_whitin_zero = memo_zero none (next M)

  -- each row from those before it
  pub wagner_whitin_next : (m : ℕ) → wagner_whitin M (suc m) ≡ next M (wagner_whitin M) m
  unfolding wagner_whitin
  wagner_whitin_next = memo_next none (next M) (next_ext M)

  through_list : (l m : ℕ) (p : List ℕ) → length p ≡ l → l ≤ m
      → Through M l (suc m) (at p) (at (p ++ lot M m l))
  through_list l m p e h =
      record {
        low = λ k a. get_or-append p _ 0 k (omega arith);
        here = get_or_at p _ _ 0 l e;
        idle = λ k a b. zeros k a b;
      }
    where
      zeros : (k : ℕ) → l < k → k < suc m → at (p ++ lot M m l) k ≡ 0
      zeros k a b =
          let q : k ≡ length p + suc (k - suc l) = omega arith in
          rw q (get_or-append-add p _ (suc (k - suc l)) 0 ∙ get_or-replicate (m - l) (k - suc l) 0 0 (omega arith))

  -- row m is the plan of (m, N m), with its cost
  abbrev pub Row : ℕ → Solution → Type 0
  Row m f = PlanOf M m (M.floor m) f

  module _ (rising : Rising M) (unlimited : Unlimited M) where
    -- What the step finds from right rows is right.
    pub next_right : (m : ℕ) → Uncapped M (suc m) → (rows : ℕ → Solution) → ((l : ℕ) → l ≤ m → Row l (rows l))
        → Row (suc m) (next M rows m)
    next_right m room rows right = go (ℕ_discrete (M.floor (suc m)) (M.floor m))
      where
        costs : ℕ → ℕ
        costs l = (rows l).cost

        before : ℕ → ℕ → ℕ
        before l = at (rows l).plan

        longer : ℕ → ℕ → ℕ
        longer l = at ((rows l).plan ++ lot M m l)

        passes : (l : ℕ) → l ≤ m → Through M l (suc m) (before l) (longer l)
        passes l h = through_list l m (rows l).plan (right l h).each h

        best : (l : ℕ) (h : l ≤ m) → OptimalTo M l (M.floor l) (before l)
        best l h = leads_optimal M l (M.floor l) (rows l) (right l h)

        row : (l : ℕ) → l ≤ m → OptimalTo M (suc m) (M.floor (suc m)) (longer l) → Row (suc m) (through M m l (rows l))
        row l h b =
            let r = right l h in
            record {
              each = length-append (rows l).plan (lot M m l) ∙ omega (arith, r.each, length-replicate {A = ℕ} (m - l) 0);
              fits = b.feasible;
              tells = sym
                  (through_cost M rising unlimited l (suc m) (omega arith) (before l) (longer l) r.fits.total (passes l h) costs r.tells);
              first = b.first;
            }

        RowBy : ℕ → Type 0
        RowBy l = Row (suc m) (through M m l (rows l))

        go : (d : Dec (M.floor (suc m) ≡ M.floor m)) → RowBy (pick d m (cheapest (price M costs (suc m)) m))
        go (yes e) =
            let h : m ≤ m = omega arith in
            row m h (copy_step M rising unlimited m e (before m) (longer m) (best m h) (passes m h))
        go (no e) =
            let c = cheapest_right (price M costs (suc m)) m in
            let l = cheapest (price M costs (suc m)) m in
            row l c.inside
            (run_step M rising unlimited m room (omega (arith, rising.rises m)) before costs best (λ j h. (right j h).tells)
            l c.inside c.least c.first (longer l) (passes l c.inside))

    -- Every row is right.
    pub wagner_whitin_right : (n : ℕ) → Uncapped M n → (m : ℕ) → m ≤ n → Row m (wagner_whitin M m)
    unfolding wagner_whitin
    wagner_whitin_right n room =
        memo_all none (next M) Row n (plan_none M (M.floor 0) 0 rising.nought refl)
        (λ m h rows right. next_right m (uncapped_less M rising (suc m) n h room) rows right)

-- the cost and the place found for row m + 1 are right, given the costs of the rows before it
pub record Chosen (M : Model) (costs : ℕ → ℕ) (m cost place : ℕ) : Type 0 where
  pub still : M.floor (suc m) ≡ M.floor m → place ≡ m
  pub moves : M.floor m < M.floor (suc m) → Cheapest (price M costs (suc m)) m place
  pub tells : cost ≡ price M costs (suc m) place

module _ (M : Model) (rising : Rising M) (costs : ℕ → ℕ) (m cost place : ℕ) (c : Chosen M costs m cost place) where
  chosen_from : place ≡ from M costs m
  chosen_from = go (ℕ_discrete (M.floor (suc m)) (M.floor m))
    where
      go : (d : Dec (M.floor (suc m) ≡ M.floor m)) → place ≡ pick d m (cheapest (price M costs (suc m)) m)
      go (yes e) = c.still e
      go (no h) =
          cheapest_unique (price M costs (suc m)) m place (cheapest (price M costs (suc m)) m) (c.moves (omega (arith, rising.rises m)))
          (cheapest_right (price M costs (suc m)) m)

  chosen_le : place ≤ m
  chosen_le = omega (arith, chosen_from, from_le M costs m)

  module _ (before : (l : ℕ) → l ≤ m → (wagner_whitin M l).cost ≡ costs l) where
    same : from M (λ l. (wagner_whitin M l).cost) m ≡ place
    same = from_ext M (λ l. (wagner_whitin M l).cost) costs m before ∙ sym chosen_from

    -- Where the costs before it are those of the rows, the cost is that of row m + 1.
    pub chosen_cost : (wagner_whitin M (suc m)).cost ≡ cost
    chosen_cost =
        ap (λ (f : Solution). f.cost) (wagner_whitin_next M m)
        ∙ ap (price M (λ l. (wagner_whitin M l).cost) (suc m)) same
        ∙ ap (λ (v : ℕ). v + production M place (M.floor (suc m) - M.floor place) + rest M (suc m) place) (before place chosen_le)
        ∙ sym c.tells

    -- The plan is read back: row m + 1 is the row of its place, and a lot.
    pub chosen_plan : (wagner_whitin M (suc m)).plan ≡ (wagner_whitin M place).plan ++ lot M m place
    chosen_plan = ap (λ (f : Solution). f.plan) (wagner_whitin_next M m) ∙ ap (λ (v : ℕ). (wagner_whitin M v).plan ++ lot M m v) same
