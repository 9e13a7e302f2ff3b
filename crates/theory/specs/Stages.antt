-- Recursion (5) over stages of any kind: in each an amount is chosen, which tells with the state after it the state before.
-- It serves the full path (states are totals) and, inside a regeneration interval, the equal path.
-- Main statement: `best_to_answers`. Assumes nothing.
use Rattle.std.specs.Prelude.{◌≡◌, refl, List, [], ◌∷◌, ◌++◌, ◌⊎◌, length, Option, None, Some}
use Rattle.std.proofs.Common.{sym, ap, ◌∙◌, inl, inr, ⊎_elim, eq-or-lt_of_le, le_of_suc-le-suc, arith, length-append}
use Prim.Native.Nat.{ℕ, zero, suc, ◌+◌, ◌≤◌, ◌<◌}
use Rattle.std.proofs.Math.Decide.{dec_lt}
use Rattle.std.proofs.Math.ListN.{get_or-append}
use Rattle.std.proofs.lemmas.List.{get_or_at}
use Rattle.day.specs.Sums.{at}
use Rattle.day.specs.Plan.{Precedes}
use Rattle.theory.specs.Order.{smaller_last, smaller_before}

pub record Stages : Type 1 where
  pub State : Type 0
  -- where a plan may begin
  pub Begins : State → Type 0
  pub begins? : (s : State) → Dec (Begins s)
  -- stage k may end in s after the amount x, which is at most `most k s`
  pub most : ℕ → State → ℕ
  pub Allowed : ℕ → State → ℕ → Type 0
  pub allowed? : (k : ℕ) (s : State) (x : ℕ) → Dec (Allowed k s x)
  -- where stage k began, and what it costs, if it ends in s after the amount x
  pub before : ℕ → State → ℕ → State
  pub stage : ℕ → State → ℕ → ℕ

pub record Solution : Type 0 where
  pub cost : ℕ
  pub plan : List ℕ

-- the second only if it is cheaper
abbrev pub choose : {A : Type 0} → Dec A → Solution → Solution → Solution
choose (yes _) a b = b
choose (no _) a b = a

abbrev pub better : Option Solution → Option Solution → Option Solution
better None b = b
better (Some a) None = Some a
better (Some a) (Some b) = Some (choose (dec_lt b.cost a.cost) a b)

-- the best of f 0 .. f m, of equals the first
abbrev pub least : (ℕ → Option Solution) → ℕ → Option Solution
least f zero = f 0
least f (suc m) = better (least f m) (f (suc m))

-- no stage
abbrev pub begin : {A : Type 0} → Dec A → Option Solution
begin (yes _) = Some (record { cost = 0; plan = [] })
begin (no _) = None

-- one more stage, where it is allowed
abbrev pub extend : {A : Type 0} → Dec A → ℕ → ℕ → Option Solution → Option Solution
extend (no _) x c o = None
extend (yes _) x c None = None
extend (yes _) x c (Some f) = Some (record { cost = f.cost + c; plan = f.plan ++ (x ∷ []) })

-- f is the first, by cost and then by size, of the amounts of n stages that are Q
pub record Leads (Q : (ℕ → ℕ) → Type 0) (costs : (ℕ → ℕ) → ℕ) (n : ℕ) (f : Solution) : Type 0 where
  pub each : length f.plan ≡ n
  pub fits : Q (at f.plan)
  pub tells : f.cost ≡ costs (at f.plan)
  pub first : (y : ℕ → ℕ) → Q y → Precedes costs n (at f.plan) y

-- the answer is the first of those that are Q, or there is none
abbrev pub Answers : ((ℕ → ℕ) → Type 0) → ((ℕ → ℕ) → ℕ) → ℕ → Option Solution → Type 0
Answers Q costs n None = (y : ℕ → ℕ) → Q y → ⊥
Answers Q costs n (Some f) = Leads Q costs n f

module _ (M : Stages) where
  -- the amounts x lead through i stages to s
  abbrev pub Reaches : ℕ → M.State → (ℕ → ℕ) → Type 0
  Reaches zero s x = M.Begins s
  Reaches (suc k) s x = (x k ≤ M.most k s) × M.Allowed k s (x k) × Reaches k (M.before k s (x k)) x

  -- what they cost
  abbrev pub spent : ℕ → M.State → (ℕ → ℕ) → ℕ
  spent zero s x = 0
  spent (suc k) s x = spent k (M.before k s (x k)) x + M.stage k s (x k)

  -- recursion (5)
  unfoldable pub best_to : ℕ → M.State → Option Solution
  best_to zero s = begin (M.begins? s)
  best_to (suc k) s = least (λ x. extend (M.allowed? k s x) x (M.stage k s x) (best_to k (M.before k s x))) (M.most k s)

  reaches_ext : (k : ℕ) (s : M.State) (x y : ℕ → ℕ) → ((j : ℕ) → j < k → x j ≡ y j) → Reaches k s x → Reaches k s y
  reaches_ext zero s x y h r = r
  reaches_ext (suc k) s x y h r =
      let e : x k ≡ y k = h k (omega arith) in
      (rw e at r.0, rw e at r.1, rw e at (reaches_ext k (M.before k s (x k)) x y (λ j l. h j (omega arith)) r.2))

  spent_ext : (k : ℕ) (s : M.State) (x y : ℕ → ℕ) → ((j : ℕ) → j < k → x j ≡ y j) → spent k s x ≡ spent k s y
  spent_ext zero s x y h = refl
  spent_ext (suc k) s x y h =
      let e : x k ≡ y k = h k (omega arith) in
      rw (← e) (ap (λ (c : ℕ). c + M.stage k s (x k)) (spent_ext k (M.before k s (x k)) x y (λ j l. h j (omega arith))))

  -- those whose amount in stage k is x: of their first, the part before is the first of those that lead to where stage k began
  module _ (k : ℕ) (s : M.State) (x : ℕ) where
    abbrev Ends : (ℕ → ℕ) → Type 0
    Ends y = Reaches (suc k) s y × (y k ≡ x)

    earlier : (y : ℕ → ℕ) → Ends y → Reaches k (M.before k s x) y
    earlier y r = rw r.1 at r.0.2

    spends : (y : ℕ → ℕ) → y k ≡ x → spent (suc k) s y ≡ spent k (M.before k s x) y + M.stage k s x
    spends y e = rw e

    extend_first : (f : Solution) (y : ℕ → ℕ)
        → length f.plan ≡ k
        → Precedes (spent k (M.before k s x)) k (at f.plan) y
        → y k ≡ x
        → Precedes (spent (suc k) s) (suc k) (at (f.plan ++ (x ∷ []))) y
    extend_first f y len l e =
        let p : List ℕ = f.plan ++ (x ∷ []) in
        let here : at p k ≡ x = get_or_at f.plan x [] 0 k len in
        let same : (j : ℕ) → j < k → at f.plan j ≡ at p j = (λ j h. sym (get_or-append f.plan (x ∷ []) 0 j (rw len h))) in
        let old = spent_ext k (M.before k s x) (at f.plan) (at p) same in
        let mine = spends (at p) here in
        let other = spends y e in
        record {
          cheap = omega (arith, l.cheap);
          small = λ q. smaller_before k (at p) y (here ∙ sym e)
              (λ j lt alike. rw (← (same j lt)) (l.small (omega arith) j lt (λ i a b. same i b ∙ alike i a b)));
        }

    extend_leads : (f : Solution)
        → x ≤ M.most k s
        → M.Allowed k s x
        → Leads (Reaches k (M.before k s x)) (spent k (M.before k s x)) k f
        → Leads Ends (spent (suc k) s) (suc k) (record { cost = f.cost + M.stage k s x; plan = f.plan ++ (x ∷ []) })
    extend_leads f small a l =
        let p : List ℕ = f.plan ++ (x ∷ []) in
        let here : at p k ≡ x = get_or_at f.plan x [] 0 k l.each in
        let same : (j : ℕ) → j < k → at f.plan j ≡ at p j = (λ j h. sym (get_or-append f.plan (x ∷ []) 0 j (rw l.each h))) in
        record {
          each = length-append f.plan (x ∷ []) ∙ omega (arith, l.each);
          fits = ((rw here small, rw here a, rw here (reaches_ext k (M.before k s x) (at f.plan) (at p) same l.fits)), here);
          tells = ap (λ (c : ℕ). c + M.stage k s x) (l.tells ∙ spent_ext k (M.before k s x) (at f.plan) (at p) same) ∙ sym (spends (at p) here);
          first = λ y r. extend_first f y l.each (l.first y (earlier y r)) r.1;
        }

    extend_answers : (o : Option Solution)
        → x ≤ M.most k s
        → (d : Dec (M.Allowed k s x))
        → Answers (Reaches k (M.before k s x)) (spent k (M.before k s x)) k o
        → Answers Ends (spent (suc k) s) (suc k) (extend d x (M.stage k s x) o)
    extend_answers o small (no h) a = λ y r. h (rw r.1 at r.0.1)
    extend_answers None small (yes h) a = λ y r. a y (earlier y r)
    extend_answers (Some f) small (yes h) a = extend_leads f small h a

-- those that are Q are those that are Q'
pub answers_iff : {Q Q' : (ℕ → ℕ) → Type 0} (costs : (ℕ → ℕ) → ℕ) (n : ℕ) (o : Option Solution)
    → ((y : ℕ → ℕ) → Q y → Q' y)
    → ((y : ℕ → ℕ) → Q' y → Q y)
    → Answers Q costs n o
    → Answers Q' costs n o
answers_iff costs n None to from a = λ y q. a y (from y q)
answers_iff costs n (Some f) to from a =
    record { each = a.each; fits = to (at f.plan) a.fits; tells = a.tells; first = λ y q. a.first y (from y q) }

-- the same costs in other words
pub answers_costs : {Q : (ℕ → ℕ) → Type 0} {costs costs' : (ℕ → ℕ) → ℕ} (n : ℕ) (o : Option Solution)
    → ((y : ℕ → ℕ) → Q y → costs y ≡ costs' y)
    → Answers Q costs n o
    → Answers Q costs' n o
answers_costs n None same a = a
answers_costs n (Some f) same a =
    let e = same (at f.plan) a.fits in
    record {
      each = a.each;
      fits = a.fits;
      tells = a.tells ∙ e;
      first = λ y q.
          let l = a.first y q in
          let e' = same y q in
          record { cheap = omega arith; small = λ h. l.small (e ∙ h ∙ sym e') };
    }

-- the first of those with amount up to m in stage k, and of those with m + 1
module _ (P : (ℕ → ℕ) → Type 0) (costs : (ℕ → ℕ) → ℕ) (k : ℕ) where
  abbrev UpTo : ℕ → (ℕ → ℕ) → Type 0
  UpTo m y = P y × (y k ≤ m)

  abbrev Just : ℕ → (ℕ → ℕ) → Type 0
  Just m y = P y × (y k ≡ m)

  split : (m : ℕ) (y : ℕ → ℕ) → UpTo (suc m) y → Just (suc m) y ⊎ UpTo m y
  split m y q = ⊎_elim (λ e. inl (q.0, e)) (λ l. inr (q.0, le_of_suc-le-suc l)) (eq-or-lt_of_le q.1)

  choose_leads : (m : ℕ) (a b : Solution) (d : Dec (b.cost < a.cost))
      → Leads (UpTo m) costs (suc k) a
      → Leads (Just (suc m)) costs (suc k) b
      → Leads (UpTo (suc m)) costs (suc k) (choose d a b)
  choose_leads m a b (yes h) la lb =
      record {
        each = lb.each;
        fits = (lb.fits.0, omega (arith, lb.fits.1));
        tells = lb.tells;
        first = λ y q.
            ⊎_elim
            (λ e. lb.first y e)
            (λ l.
            let c : costs (at b.plan) < costs y = omega (arith, h, la.tells, lb.tells, (la.first y l).cheap) in
            record { cheap = omega arith; small = λ e. absurd (omega arith) })
            (split m y q);
      }
  choose_leads m a b (no h) la lb =
      record {
        each = la.each;
        fits = (la.fits.0, omega (arith, la.fits.1));
        tells = la.tells;
        first = λ y q.
            ⊎_elim
            (λ e.
            record {
              cheap = omega (arith, h, la.tells, lb.tells, (lb.first y e).cheap);
              small = λ _. smaller_last k (at a.plan) y (omega (arith, la.fits.1, e.1));
            })
            (λ l. la.first y l)
            (split m y q);
      }

  better_answers : (m : ℕ) (a b : Option Solution)
      → Answers (UpTo m) costs (suc k) a
      → Answers (Just (suc m)) costs (suc k) b
      → Answers (UpTo (suc m)) costs (suc k) (better a b)
  better_answers m None b la lb =
      answers_iff costs (suc k) b (λ y q. (q.0, omega arith)) (λ y q. ⊎_elim (λ e. e) (λ l. absurd (la y l)) (split m y q)) lb
  better_answers m (Some a) None la lb =
      answers_iff costs (suc k) (Some a) (λ y q. (q.0, omega arith)) (λ y q. ⊎_elim (λ e. absurd (lb y e)) (λ l. l) (split m y q)) la
  better_answers m (Some a) (Some b) la lb = choose_leads m a b (dec_lt b.cost a.cost) la lb

  least_answers : (f : ℕ → Option Solution) (m : ℕ)
      → ((x : ℕ) → x ≤ m → Answers (Just x) costs (suc k) (f x))
      → Answers (UpTo m) costs (suc k) (least f m)
  least_answers f zero h = answers_iff costs (suc k) (f 0) (λ y q. (q.0, omega arith)) (λ y q. (q.0, omega arith)) (h 0 (omega arith))
  least_answers f (suc m) h = better_answers m (least f m) (f (suc m)) (least_answers f m (λ x l. h x (omega arith))) (h (suc m) (omega arith))

module _ (M : Stages) where
  begin_answers : (s : M.State) (d : Dec (M.Begins s)) → Answers (Reaches M 0 s) (spent M 0 s) 0 (begin d)
  begin_answers s (yes h) =
      record { each = refl; fits = h; tells = refl; first = λ y q. record { cheap = omega arith; small = λ _ k lt _. absurd (omega arith) } }
  begin_answers s (no h) = λ y q. h q

  -- The recursion gives the first of all amounts that lead to s, and nothing only where there are none.
  pub best_to_answers : (i : ℕ) (s : M.State) → Answers (Reaches M i s) (spent M i s) i (best_to M i s)
  unfolding best_to
  best_to_answers zero s = begin_answers s (M.begins? s)
  best_to_answers (suc k) s =
      answers_iff (spent M (suc k) s) (suc k) (best_to M (suc k) s) (λ y q. q.0) (λ y q. (q, q.0))
      (least_answers (Reaches M (suc k) s) (spent M (suc k) s) k _ (M.most k s)
      (λ x l. extend_answers M k s x (best_to M k (M.before k s x)) l (M.allowed? k s x) (best_to_answers k (M.before k s x))))

-- the better of two is one of them
pub better_one : (a b : Option Solution) (f : Solution) → better a b ≡ Some f → (a ≡ Some f) ⊎ (b ≡ Some f)
better_one None b f e = inr e
better_one (Some a) None f e = inl e
better_one (Some a) (Some b) f e = go (dec_lt b.cost a.cost) e
  where
    go : {A : Type 0} (d : Dec A) → Some (choose d a b) ≡ Some f → (Some a ≡ Some f) ⊎ (Some b ≡ Some f)
    go (yes _) q = inr q
    go (no _) q = inl q

-- what one more stage gives came from a solution before it
pub extend_one : {A : Type 0} (d : Dec A) (x c : ℕ) (o : Option Solution) (f : Solution)
    → extend d x c o ≡ Some f
    → (g : Solution) × (o ≡ Some g) × (f.plan ≡ g.plan ++ (x ∷ []))
extend_one (no _) x c o f e = let z : ◌≡◌ {A = ℕ} 0 1 = cc in absurd (omega arith)
extend_one (yes _) x c None f e = let z : ◌≡◌ {A = ℕ} 0 1 = cc in absurd (omega arith)
extend_one (yes _) x c (Some g) f e =
    let q : ◌≡◌ {A = Solution} (record { cost = g.cost + c; plan = g.plan ++ (x ∷ []) }) f = cc in
    (g, refl, sym (ap (λ (h : Solution). h.plan) q))
