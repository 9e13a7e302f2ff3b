-- The equal path (report, section 3; Florian and Klein): where all capacities are c, a regeneration interval of the optimal plan is made in full
-- loads and at most one fractional load, what its demand leaves over when it is divided by c. Row m is the plan of (m, N m), with its cost.
-- Main statement: `florian_klein_cover`. Assumes nothing.
use Rattle.std.specs.Prelude.{◌≡◌, refl, ◌⊎◌, ℕ, zero, suc, ◌+◌, ◌-◌, ◌%◌, ◌≤◌, ◌<◌, Option}
use Rattle.std.proofs.Common.{sym, ap₂, ◌∙◌, inl, inr, ⊎_elim, eq-or-lt_of_le, eq-zero-or-pos, arith}
use Rattle.std.proofs.Math.Decide.{ℕ_discrete}
use Rattle.day.specs.Sums.{sum_to}
use Rattle.day.specs.Loads.{made_in}
use Rattle.theory.specs.Model.{Model, Rising, Unlimited, cost_to, OptimalTo}
use Rattle.theory.specs.Stages.{Solution, Answers}
use Rattle.theory.specs.Recursion.{both?}
use Rattle.theory.specs.Reachable.{high, Covered}
use Rattle.theory.specs.Exchange.{Fractional, Regeneration, interval_one}
use Rattle.theory.specs.FullLoads.{FewParts, few_loads}
use Rattle.theory.specs.Candidates.{OneOf}
use Rattle.theory.specs.Regeneration.{Kinds, tail, sum_tail, Right, Fits, cover}

-- nothing, a full load, or the fractional load, which comes on top of full loads
abbrev pub Load : ℕ → ℕ → ℕ → ℕ → Type 0
Load c part X x = (x ≡ 0) ⊎ ((x ≡ c) ⊎ ((x ≡ part) × (X % c ≡ part)))

unfoldable pub either? : {A B : Type 0} → Dec A → Dec B → Dec (A ⊎ B)
either? (yes a) d = yes (inl a)
either? (no h) (yes b) = yes (inr b)
either? (no h) (no g) = no (λ q. ⊎_elim h g q)

unfoldable pub load? : (c part X x : ℕ) → Dec (Load c part X x)
load? c part X x = either? (ℕ_discrete x 0) (either? (ℕ_discrete x c) (both? (ℕ_discrete x part) (ℕ_discrete (X % c) part)))

abbrev pub loads : ℕ → ℕ → Kinds
loads c part = record { Kind = λ k X x. Load c part X x; kind? = λ k X x. load? c part X x }

abbrev pub Equal : Model → ℕ → ℕ → Type 0
Equal M c n = (k : ℕ) → k < n → M.capacity k ≡ c

-- the intervals from l to m
abbrev pub by_loads : Model → ℕ → ℕ → ℕ → Kinds
by_loads M c l m = loads c ((M.floor m - M.floor l) % c)

-- Where the inventory is never empty once something is made, no two periods of the optimal plan are part-loaded.
pub few_parts : (M : Model) → Rising M → Unlimited M → (n c : ℕ) → 0 < c → Equal M c n → (x : ℕ → ℕ) → OptimalTo M n (M.floor n) x
    → (a b : ℕ) → a < b → b ≤ n → ((m : ℕ) → a < m → m < b → 0 < sum_to x m → M.floor m < sum_to x m) → FewParts M.capacity x a b
few_parts M rising unlimited n c pos caps x best a b ahead inside never =
    let first = caps 0 (omega arith) in
    record {
      some_capacity = omega arith;
      same = λ k l. caps k (omega arith) ∙ sym first;
      within = λ k l. best.feasible.within k (omega arith);
      one = λ i j ai ij jb p q.
          interval_one M rising unlimited n x best a b never i j ai ij jb
          (record { inside = omega arith; some = p.0; room = p.1 })
          (record { inside = omega arith; some = q.0; room = q.1 });
    }

module _ (M : Model) (rising : Rising M) (unlimited : Unlimited M) (c m : ℕ) (caps : Equal M c m)
    (x : ℕ → ℕ) (best : OptimalTo M m (M.floor m) x) (a : ℕ) (run : Regeneration M x a m) where
  -- idle, full, or fractional
  kind : (k : ℕ) → k < m → (x k ≡ 0) ⊎ ((x k ≡ c) ⊎ Fractional M m x k)
  kind k l =
      let e = caps k l in
      ⊎_elim inl
      (λ (some : 0 < x k).
      ⊎_elim
      (λ (f : x k ≡ M.capacity k). inr (inl (f ∙ e)))
      (λ (room : x k < M.capacity k). inr (inr (record { inside = l; some = some; room = room })))
      (eq-or-lt_of_le (best.feasible.within k l)))
      (eq-zero-or-pos (x k))

  abbrev W : ℕ
  W = M.floor m - M.floor a

  few : (b k : ℕ) → a < b → b ≤ m → Fractional M m x k → FewParts M.capacity x a b
  few b k ahead inside part =
      few_parts M rising unlimited m c (omega (arith, part.room, caps k part.inside)) caps x best a b ahead inside
      (λ e u v _. run.never e u (omega arith))

  -- what the fractional period leaves over of the periods up to it, it leaves over of all
  part_is : (k : ℕ) → a ≤ k → k < m → Fractional M m x k → (x k ≡ W % c) × ((sum_to x (suc k) - M.floor a) % c ≡ W % c)
  part_is k l h part =
      let first = caps 0 (omega arith) in
      let all = (few_loads M.capacity x a m (few m k (omega arith) (omega arith) part) (omega arith)).1 k l h (part.some, part.room) in
      let so = (few_loads M.capacity x a (suc k) (few (suc k) k (omega arith) h part) (omega arith)).1 k l (omega arith) (part.some, part.room) in
      let w : made_in x a m ≡ W = omega (arith, run.empty, best.feasible.total) in
      let v : sum_to x (suc k) - M.floor a ≡ made_in x a (suc k) = omega (arith, run.empty) in
      let e = all ∙ ap₂ ◌%◌ w first in
      (e, ap₂ ◌%◌ v (sym first) ∙ sym so ∙ e)

  run_loads : (k : ℕ) → k < m - a → Load c (W % c) (sum_to (tail a x) (suc k)) (x (a + k))
  run_loads k h =
      let p : ℕ = a + k in
      let s : sum_to (tail a x) (suc k) ≡ sum_to x (suc (a + k)) - M.floor a = omega (arith, sum_tail x a k, run.empty) in
      ⊎_elim inl
      (λ r. inr (⊎_elim inl (λ t. let w = part_is (a + k) (omega arith) (omega arith) t in inr (w.0, rw s w.1)) r))
      (kind (a + k) (omega arith))

-- What answers the plans whose intervals are made by loads answers all plans of (m + 1, N (m + 1)): what a loop over l ends with.
pub florian_klein_cover : (M : Model) → Rising M → Unlimited M → (c m : ℕ) → Equal M c (suc m) → (o : Option Solution)
    → Answers (OneOf (λ l. Fits M (by_loads M c l (suc m)) (suc m) l) (suc m)) (λ x. cost_to M x (suc m)) (suc m) o → Right M (suc m) o
florian_klein_cover M rising unlimited c m caps =
    cover M rising unlimited (by_loads M c) (suc m) (omega arith)
    (λ x b l run k h. run_loads M rising unlimited c (suc m) caps x b l run k h)

-- With no capacity nothing is demanded, and every plan is all zeros.
pub no_room : (M : Model) (n : ℕ) → Equal M 0 n → Covered M n → (m : ℕ) → m ≤ n → M.floor m ≡ 0
no_room M n caps enough m h = omega (arith, enough m h, nothing m h)
  where
    nothing : (j : ℕ) → j ≤ n → high M j ≡ 0
    nothing zero g = refl
    nothing (suc j) g = omega (arith, nothing j (omega arith), caps j g)
