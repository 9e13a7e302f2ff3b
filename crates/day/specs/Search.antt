-- A plain search over all plans of a small day. A test gives a proof, or nothing; that it gives one is found by computing it.
-- Main statement: `optimal?`, for the plan of a day; `none?`, for a day that has none. Assumes nothing.
use Rattle.std.specs.Prelude.{◌≡◌, refl, List, [], ◌∷◌, ℕ, zero, suc, ◌+◌, ◌≤◌, ◌<◌, Option, None, Some, option_map, IsSome}
use Rattle.std.proofs.Common.{true≢false, sym, ◌∙◌, ⊎_elim, eq-or-lt_of_le, le_of_suc-le-suc, arith}
use Rattle.std.proofs.Math.Logic.Dec
use Rattle.std.proofs.Math.Decide.{dec_le, dec_lt, ℕ_discrete}
use Rattle.day.specs.Sums.{at, sum_to, below, sum_ext, list_of, at-list_of}
use Rattle.day.specs.Day.{Day, periods, demand_to, required}
use Rattle.day.specs.Plan.{inventory, cost_at, cost, KeepsTo, Feasible, Smaller, Precedes, Optimal}

-- a test that passed gives its proof
pub given : {A : Type 0} (o : Option A) → IsSome o → A
given None t = absurd (true≢false (sym t))
given (Some a) t = a

-- tests: of what is decided; of two facts; of a fact that is wanted only where another holds
abbrev pub sure : {A : Type 0} → Dec A → Option A
sure (yes a) = Some a
sure (no h) = None

abbrev pub both : {A B : Type 0} → Option A → Option B → Option (A × B)
both None o = None
both (Some a) None = None
both (Some a) (Some b) = Some (a, b)

abbrev pub only_if : {A B : Type 0} → Dec A → Option B → Option (A → B)
only_if (no h) o = Some (λ a. absurd (h a))
only_if (yes a) None = None
only_if (yes a) (Some b) = Some (λ _. b)

-- of a fact about 0 .. m
pub at_most : {P : ℕ → Type 0} (m : ℕ) → ((v : ℕ) → v ≤ m → P v) × P (suc m) → (v : ℕ) → v ≤ suc m → P v
at_most m p v l = ⊎_elim (λ (e : v ≡ suc m). rw e p.1) (λ h. p.0 v (le_of_suc-le-suc h)) (eq-or-lt_of_le l)

abbrev pub up_to : {P : ℕ → Type 0} → ((v : ℕ) → Option (P v)) → (m : ℕ) → Option ((v : ℕ) → v ≤ m → P v)
up_to p zero = option_map (λ q v l. let e : v ≡ 0 = omega arith in rw e q) (p 0)
up_to p (suc m) = option_map (at_most m) (both (up_to p m) (p (suc m)))

-- of a fact about every list of n amounts, of which the k-th is at most c k
abbrev pub every_plan : {P : List ℕ → Type 0} → ((l : List ℕ) → Option (P l)) → (c : ℕ → ℕ) (n : ℕ)
    → Option ((y : ℕ → ℕ) → ((k : ℕ) → k < n → y k ≤ c k) → P (list_of y n))
every_plan p c zero = option_map (λ q y h. q) (p [])
every_plan p c (suc n) =
    option_map
    (λ all y h. all (y 0) (h 0 (omega arith)) (λ k. y (suc k)) (λ k l. h (suc k) (omega arith)))
    (up_to (λ v. every_plan (λ rest. p (v ∷ rest)) (λ k. c (suc k)) n) (c 0))

-- decisions of what is equivalent, of both, of an implication, and of a fact about every index below n
unfoldable pub iff? : {A B : Type 0} → (A → B) → (B → A) → Dec A → Dec B
iff? to from (yes a) = yes (to a)
iff? to from (no h) = no (λ b. h (from b))

unfoldable pub implies? : {A B : Type 0} → Dec A → Dec B → Dec (A → B)
implies? (no h) d = yes (λ a. absurd (h a))
implies? (yes a) (yes b) = yes (λ _. b)
implies? (yes a) (no h) = no (λ f. h (f a))

unfoldable pub both_below : {P : ℕ → Type 0} (n : ℕ) → Dec ((k : ℕ) → k < n → P k) → Dec (P n) → Dec ((k : ℕ) → k < suc n → P k)
both_below {P} n (yes h) (yes q) = yes (below P n h q)
both_below n (yes h) (no q) = no (λ f. q (f n (omega arith)))
both_below n (no h) d = no (λ f. h (λ k l. f k (omega arith)))

unfoldable pub below? : {P : ℕ → Type 0} → ((k : ℕ) → Dec (P k)) → (n : ℕ) → Dec ((k : ℕ) → k < n → P k)
below? p? zero = yes (λ k l. absurd (omega arith))
below? p? (suc n) = both_below n (below? p? n) (p? n)

-- the definitions of `Plan`, decided
unfoldable pub keeps? : (d : Day) (i : ℕ) (x : ℕ → ℕ) → Dec (KeepsTo d i x)
keeps? d i x =
    iff?
    (λ p. record { served = p.0; ends = p.1.0; within = p.1.1.0; stored = p.1.1.1 })
    (λ f. (f.served, (f.ends, (f.within, f.stored))))
    (Dec.and (below? (λ k. dec_le (demand_to d (suc k)) (d.opening + sum_to x (suc k))) i)
    (Dec.and (implies? (ℕ_discrete i (periods d)) (ℕ_discrete (d.opening + sum_to x i) (required d)))
    (Dec.and (below? (λ k. dec_le (x k) (at d.capacity k)) i) (below? (λ k. dec_le (inventory d x (suc k)) (at d.store k)) i))))

unfoldable pub smaller? : (n : ℕ) (x y : ℕ → ℕ) → Dec (Smaller n x y)
smaller? n x y =
    below?
    (λ k.
    implies?
    (iff? (λ f j a b. f j b a) (λ f j b a. f j a b) (below? (λ j. implies? (dec_lt k j) (ℕ_discrete (x j) (y j))) n))
    (dec_le (x k) (y k)))
    n

unfoldable pub precedes? : (costs : (ℕ → ℕ) → ℕ) (n : ℕ) (x y : ℕ → ℕ) → Dec (Precedes costs n x y)
precedes? costs n x y =
    iff?
    (λ p. record { cheap = p.0; small = p.1 })
    (λ p. (p.cheap, p.small))
    (Dec.and (dec_le (costs x) (costs y)) (implies? (ℕ_discrete (costs x) (costs y)) (smaller? n x y)))

-- only the amounts in the periods that are spoken of count
pub kept_alike : (d : Day) (i : ℕ) (x y : ℕ → ℕ) → ((k : ℕ) → k < i → x k ≡ y k) → KeepsTo d i x → KeepsTo d i y
kept_alike d i x y same f =
    record {
      served = λ k l. omega (arith, f.served k l, sums (suc k) l);
      ends = λ e. omega (arith, f.ends e, sums i (omega arith));
      within = λ k l. omega (arith, f.within k l, same k l);
      stored = λ k l. omega (arith, f.stored k l, sums (suc k) l);
    }
  where
    sums : (j : ℕ) → j ≤ i → sum_to x j ≡ sum_to y j
    sums j l = sum_ext x y j (λ k h. same k (omega arith))

module _ (d : Day) (x y : ℕ → ℕ) (same : (k : ℕ) → k < periods d → x k ≡ y k) where
  pub sums_alike : (i : ℕ) → i ≤ periods d → sum_to x i ≡ sum_to y i
  sums_alike i l = sum_ext x y i (λ j h. same j (omega arith))

  pub cost_alike : cost d x ≡ cost d y
  cost_alike = sum_ext (cost_at d x) (cost_at d y) (periods d) (λ k l. let s = sums_alike k (omega arith) in let e = same k l in rw (s, e) refl)

-- of a fact about all amounts that keep the conditions through i
abbrev pub every_kept : (d : Day) (i : ℕ) {P : (ℕ → ℕ) → Type 0} → ((y : ℕ → ℕ) → Option (P y))
    → Option ((y : ℕ → ℕ) → KeepsTo d i y → P (at (list_of y i)))
every_kept d i p =
    option_map
    (λ all y f. all y f.within (kept_alike d i y (at (list_of y i)) (λ k l. sym (at-list_of y i k l)) f))
    (every_plan (λ l. only_if (keeps? d i (at l)) (p (at l))) (at d.capacity) i)

-- what precedes the plans that the search meets precedes all
pub precedes_all : (d : Day) (x : ℕ → ℕ) → ((y : ℕ → ℕ) → Feasible d y → Precedes (cost d) (periods d) x (at (list_of y (periods d))))
    → (y : ℕ → ℕ) → Feasible d y → Precedes (cost d) (periods d) x y
precedes_all d x all y f =
    let same = at-list_of y (periods d) in
    let e = cost_alike d (at (list_of y (periods d))) y same in
    let p = all y f in
    record {
      cheap = omega (arith, p.cheap);
      small = λ q k l alike. omega (arith, same k l, p.small (omega arith) k l (λ j a b. alike j a b ∙ sym (same j b)));
    }

-- A plan that is feasible, and precedes every feasible plan that the search meets, is the plan of the day.
abbrev pub optimal? : (d : Day) (x : ℕ → ℕ) → Option (Optimal d x)
optimal? d x =
    option_map
    (λ p. record { feasible = p.0; first = precedes_all d x p.1 })
    (both (sure (keeps? d (periods d) x)) (every_kept d (periods d) (λ y. sure (precedes? (cost d) (periods d) x y))))

-- Where the search meets no amounts that keep the conditions through i, there are none.
abbrev pub none? : (d : Day) (i : ℕ) → Option ((y : ℕ → ℕ) → KeepsTo d i y → ⊥)
none? d i = every_kept d i {P = λ _. ⊥} (λ y. None)
