-- What a verdict says of a plan, by the report's conditions (2) to (4) and the store limit, and that the weigher's verdict
-- is the only right one.
-- Main statements: `verdict_right`, `verdict_only`; of a plan that holds `holds_feasible`, `feasible_holds`. Assumes nothing.
use Rattle.std.specs.Prelude.{◌≡◌, refl, Bool, true, false, ℕ, zero, suc, ◌+◌, ◌≤◌, ◌<◌, eqb, ltb, Option, None, Some, Ok, Err}
use Rattle.std.proofs.Common.{sym, ap, le_of_lt, le_trans, arith, ltb-true, ltb-false, eqb-true, lt-ltb, le-ltb, eq-eqb}
use Rattle.std.proofs.lemmas.Bool.{eqb-false}
use Rattle.day.specs.declared.Totals.{Totals}
use Rattle.day.specs.Sums.{at, sum_to}
use Rattle.day.specs.Find.{Found, find, find_here, none_found, nothing_found, some_found}
use Rattle.day.specs.Day.{Day, periods, due_of, due_to, due_least, demand_to}
use Rattle.day.specs.Plan.{inventory, Feasible}
use Rattle.day.specs.Figures.{first_value, second_value}
use Rattle.day.specs.Outcome.{Counts}
use Rattle.weigher.specs.declared.Rule.{Rule}
use Rattle.weigher.specs.declared.Rule.TheVariants.{AboveCapacity, Short, AboveStore, Over}
use Rattle.weigher.specs.Verdict.{Verdict, breach, above_at, short_at, above_store_at, breaks, rule_at, totals_of, verdict_at, verdict_of}

-- period k + 1 keeps (4), (2), the store limit, and, where it is the last, (3)
pub record Keeps (d : Day) (x : ℕ → ℕ) (k : ℕ) : Type 0 where
  pub within : x k ≤ at d.capacity k
  pub served : due_to d (suc k) ≤ d.opening + sum_to x (suc k)
  pub stored : inventory d x (suc k) ≤ at d.store k
  pub ends : suc k ≡ periods d → d.opening + sum_to x (suc k) ≤ due_to d (suc k)

-- period k + 1 breaks a rule, and none that goes before it in one period
abbrev pub Breaks : Day → (ℕ → ℕ) → Rule → ℕ → Type 0
Breaks d x AboveCapacity k = at d.capacity k < x k
Breaks d x Short k = (x k ≤ at d.capacity k) × (d.opening + sum_to x (suc k) < due_to d (suc k))
Breaks d x AboveStore k =
    (x k ≤ at d.capacity k) × ((due_to d (suc k) ≤ d.opening + sum_to x (suc k)) × (at d.store k < inventory d x (suc k)))
Breaks d x Over k =
    (x k ≤ at d.capacity k)
    × ((inventory d x (suc k) ≤ at d.store k) × ((suc k ≡ periods d) × (due_to d (suc k) < d.opening + sum_to x (suc k))))

-- the first period that breaks any is k + 1, and it breaks r
pub record FirstBroken (d : Day) (x : ℕ → ℕ) (r : Rule) (k : ℕ) : Type 0 where
  pub inside : k < periods d
  pub broken : Breaks d x r k
  pub before : (j : ℕ) → j < k → Keeps d x j

-- what a verdict says; periods are counted from 1
abbrev pub SaysBroken : Day → (ℕ → ℕ) → Rule → (period : ℕ) → Type 0
SaysBroken d x r zero = ⊥
SaysBroken d x r (suc k) = FirstBroken d x r k

abbrev pub Says : Day → (ℕ → ℕ) → Verdict → Type 0
Says d x (Ok t) = Feasible d x × Counts d x t
Says d x (Err b) = SaysBroken d x b.rule b.period

-- what is to be covered is R + Z in period n; what covers R, and R + Z in period n, covers it
due_last : (d : Day) (k : ℕ) → suc k ≡ periods d → due_to d (suc k) ≡ demand_to d (suc k) + d.closing
due_last d k e = rw (eq-eqb _ _ e) refl

due_met : (d : Day) (k : ℕ) {v : ℕ} → demand_to d (suc k) ≤ v → (suc k ≡ periods d → demand_to d (suc k) + d.closing ≤ v) → due_to d (suc k) ≤ v
due_met d k {v} before last = go (eqb (suc k) (periods d)) refl
  where
    go : (b : Bool) → eqb (suc k) (periods d) ≡ b → due_of b (demand_to d (suc k)) d.closing ≤ v
    go true q = last (eqb-true _ _ q)
    go false q = before

-- the tests of one period, read as facts
data Tested (d : Day) (x : ℕ → ℕ) (k : ℕ) : Type 0 where
  keeps : Keeps d x k → breaks d x k ≡ false → Tested d x k
  broken : (r : Rule) → Breaks d x r k → breaks d x k ≡ true → rule_at d x k ≡ r → Tested d x k

tested : (d : Day) (x : ℕ → ℕ) (k : ℕ) → Tested d x k
tested d x k =
    go
    (above_at d x k) (short_at d x k) (above_store_at d x k) (eqb (suc k) (periods d)) (ltb (due_to d (suc k)) (d.opening + sum_to x (suc k)))
    refl refl refl refl refl
  where
    go : (a b f c e : Bool)
        → above_at d x k ≡ a → short_at d x k ≡ b → above_store_at d x k ≡ f → eqb (suc k) (periods d) ≡ c
        → ltb (due_to d (suc k)) (d.opening + sum_to x (suc k)) ≡ e
        → Tested d x k
    go true b f c e p q t r s = broken AboveCapacity (ltb-true _ _ p) (rw p refl) (rw p refl)
    go false true f c e p q t r s = broken Short (ltb-false _ _ p, ltb-true _ _ q) (rw (p, q) refl) (rw (p, q) refl)
    go false false true c e p q t r s =
        broken AboveStore (ltb-false _ _ p, (ltb-false _ _ q, ltb-true _ _ t)) (rw (p, q, t) refl) (rw (p, q, t) refl)
    go false false false true true p q t r s =
        broken Over (ltb-false _ _ p, (ltb-false _ _ t, (eqb-true _ _ r, ltb-true _ _ s))) (rw (p, q, t, s, r) refl) (rw (p, q, t) refl)
    go false false false true false p q t r s =
        keeps
        (record { within = ltb-false _ _ p; served = ltb-false _ _ q; stored = ltb-false _ _ t; ends = λ _. ltb-false _ _ s })
        (rw (p, q, t, s, r) refl)
    go false false false false e p q t r s =
        keeps
        (record { within = ltb-false _ _ p; served = ltb-false _ _ q; stored = ltb-false _ _ t; ends = λ l. absurd (eqb-false _ _ r l) })
        (rw (p, q, t, r) refl)

module _ (d : Day) (x : ℕ → ℕ) where
  pub passed_keeps : (k : ℕ) → breaks d x k ≡ false → Keeps d x k
  passed_keeps k e = go (tested d x k)
    where
      go : Tested d x k → Keeps d x k
      go (keeps h f) = h
      go (broken r b t q) = let z : ◌≡◌ {A = ℕ} 0 1 = cc in absurd (omega arith)

  keeps_passed : (k : ℕ) → Keeps d x k → breaks d x k ≡ false
  keeps_passed k h = go (tested d x k)
    where
      apart : (r : Rule) → Breaks d x r k → ⊥
      apart AboveCapacity b = omega (arith, h.within)
      apart Short b = omega (arith, h.served)
      apart AboveStore b = omega (arith, h.stored)
      apart Over b = omega (arith, h.ends b.1.1.0)

      go : Tested d x k → breaks d x k ≡ false
      go (keeps h f) = f
      go (broken r b t q) = absurd (apart r b)

  breaks_rule : (r : Rule) (k : ℕ) → Breaks d x r k → (breaks d x k ≡ true) × (rule_at d x k ≡ r)
  breaks_rule AboveCapacity k b = (simp (lt-ltb _ _ b), simp (lt-ltb _ _ b))
  breaks_rule Short k b = (simp (le-ltb _ _ b.0, lt-ltb _ _ b.1), simp (le-ltb _ _ b.0, lt-ltb _ _ b.1))
  breaks_rule AboveStore k b =
      let s : short_at d x k ≡ false = le-ltb _ _ b.1.0 in
      (simp (le-ltb _ _ b.0, s, lt-ltb _ _ b.1.1), simp (le-ltb _ _ b.0, s, lt-ltb _ _ b.1.1))
  breaks_rule Over k b =
      let s : short_at d x k ≡ false = le-ltb _ _ (le_of_lt b.1.1.1) in
      let f : above_store_at d x k ≡ false = le-ltb _ _ b.1.0 in
      (rw (le-ltb _ _ b.0, s, f, lt-ltb _ _ b.1.1.1, eq-eqb _ _ b.1.1.0) refl, simp (le-ltb _ _ b.0, s, f))

  -- a plan that keeps every period keeps the conditions, and the other way round
  all_feasible : 1 ≤ periods d → ((k : ℕ) → k < periods d → Keeps d x k) → Feasible d x
  all_feasible nonempty h =
      record {
        served = λ k l. le_trans (due_least (eqb (suc k) (periods d)) _ _) (h k l).served;
        ends = λ _. go (periods d) refl nonempty;
        within = λ k l. (h k l).within;
        stored = λ k l. (h k l).stored;
      }
    where
      go : (n : ℕ) → periods d ≡ n → 1 ≤ n → d.opening + sum_to x n ≡ demand_to d n + d.closing
      go zero e l = absurd (omega arith)
      go (suc k) e l = let s = h k (omega arith) in omega (arith, due_last d k (sym e), s.served, s.ends (sym e))

  feasible_keeps : Feasible d x → (k : ℕ) → k < periods d → Keeps d x k
  feasible_keeps f k l =
      record {
        within = f.within k l;
        served = due_met d k (f.served k l) (λ e. omega (arith, ended e));
        stored = f.stored k l;
        ends = λ e. omega (arith, due_last d k e, ended e);
      }
    where
      ended : suc k ≡ periods d → d.opening + sum_to x (suc k) ≡ demand_to d (suc k) + d.closing
      ended e = omega (arith, ap (sum_to x) e, ap (demand_to d) e, f.ends refl)

  -- after periods that break no rule the charge is not below 0
  pub kept_served : (i : ℕ) → ((k : ℕ) → k < i → Keeps d x k) → demand_to d i ≤ d.opening + sum_to x i
  kept_served zero h = omega arith
  kept_served (suc k) h = le_trans (due_least (eqb (suc k) (periods d)) _ _) (h k (omega arith)).served

  pub none_broken : (n : ℕ) → ((k : ℕ) → k < n → Keeps d x k) → find (breaks d x) n ≡ None
  none_broken n h = nothing_found (breaks d x) n (λ k l. keeps_passed k (h k l))

  pub broken_found : (r : Rule) (k n : ℕ) → FirstBroken d x r k → k < n → (find (breaks d x) n ≡ Some k) × (rule_at d x k ≡ r)
  broken_found r k n f l =
      let b = breaks_rule r k f.broken in
      (find_here (breaks d x) k n (none_broken k f.before) b.0 l, b.1)

  -- the weigher's verdict is right, on a day that has a period: (3) is tested in the last one
  pub verdict_right : 1 ≤ periods d → Says d x (verdict_of d x)
  verdict_right nonempty = go (find (breaks d x) (periods d)) refl
    where
      broke : (k : ℕ) → Found (breaks d x) (periods d) k → Tested d x k → FirstBroken d x (rule_at d x k) k
      broke k f (keeps h e) = let z : ◌≡◌ {A = ℕ} 0 1 = cc f.passes in absurd (omega arith)
      broke k f (broken r b t q) = record { inside = f.inside; broken = rw q b; before = λ j l. passed_keeps j (f.first j l) }

      go : (o : Option ℕ) → find (breaks d x) (periods d) ≡ o → Says d x (verdict_at d x o)
      go None e = (all_feasible nonempty (λ k l. passed_keeps k (none_found (breaks d x) (periods d) e k l)), refl)
      go (Some k) e = broke k (some_found (breaks d x) (periods d) k e) (tested d x k)

  -- and no other is
  pub verdict_only : (v : Verdict) → Says d x v → v ≡ verdict_of d x
  verdict_only (Ok t) s = rw (none_broken (periods d) (feasible_keeps s.0), ← first_value s.1, ← second_value s.1) refl
  verdict_only (Err b) s = go b.rule b.period s
    where
      go : (r : Rule) (i : ℕ) → SaysBroken d x r i → Err (breach r i) ≡ verdict_of d x
      go r zero s = absurd s
      go r (suc k) s = let b = broken_found r k (periods d) s s.inside in rw (b.0, b.1) refl

  -- it is "holds" exactly if the plan keeps (2) to (4) and the store limit, with sum (1) and the count of amounts above 0
  pub holds_feasible : 1 ≤ periods d → (t : Totals) → verdict_of d x ≡ Ok t → Feasible d x × Counts d x t
  holds_feasible nonempty t e = rw e at (verdict_right nonempty)

  pub feasible_holds : Feasible d x → verdict_of d x ≡ Ok (totals_of d x)
  feasible_holds f = sym (verdict_only (Ok (totals_of d x)) (f, refl))
