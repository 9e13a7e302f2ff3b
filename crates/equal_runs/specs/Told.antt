-- What the numbers of a state mean: the cost of the first of the intervals to a state, or a mark that there is none, and what the last period makes.
-- Main statement: `state_told`. Assumes nothing.
use Rattle.std.specs.Prelude.{◌≡◌, refl, ℕ, zero, suc, ◌+◌, ◌-◌, ◌*◌, ◌^◌, ◌≤◌, ◌<◌, Option, None, Some}
use Rattle.std.proofs.Common.{sym, ap, arith}
use Rattle.std.proofs.Math.Decide.{dec_le, dec_lt}
use Rattle.day.specs.Plan.{making}
use Rattle.theory.specs.Basics.{pick}
use Rattle.theory.specs.Model.{Model, production}
use Rattle.theory.specs.Stages.{Solution, better, choose, extend}
use Rattle.theory.specs.Basics.{last, last_snoc}
use Rattle.theory.specs.Loads.{made, given, moves, loads_to, loads_next}
use Rattle.equal_runs.specs.declared.LoadSizes.{LoadSizes}
use Rattle.equal_runs.specs.declared.RunPeriod.{RunPeriod}
use Rattle.equal_runs.specs.declared.RunState.{RunState}
use Rattle.terms.specs.Low.{paid_low, making_low}
use Rattle.equal_runs.specs.Bounds.{marker, stage_most, made_small}
use Rattle.equal_runs.specs.States.{index_of, unreached, offer_of, cheaper_of, load_of, best_of, state_by}

-- the first of the intervals of k periods from l on that make j full loads and d fractional ones
abbrev pub first_to : Model → ℕ → LoadSizes → (k j d : ℕ) → Option Solution
first_to M l w = loads_to M l w.full w.part

-- v is the cost of o, which is at most B; or it is the marker or more, and there is none
abbrev pub CostTold : ℕ → ℕ → Option Solution → Type 0
CostTold B v None = (marker ≤ v) × (v ≤ marker + B)
CostTold B v (Some f) = (v ≡ f.cost) × (v ≤ B)

-- x is what the last period of o makes
abbrev pub AmountTold : ℕ → Option Solution → Type 0
AmountTold x None = Unit {0}
AmountTold x (Some f) = x ≡ last f.plan

pub record StateTold (B : ℕ) (v : RunState) (o : Option Solution) : Type 0 where
  pub told : CostTold B v.cost o
  pub amount : AmountTold v.amount o

pub told_most : (B v : ℕ) (o : Option Solution) → CostTold B v o → v ≤ marker + B
told_most B v None t = t.1
told_most B v (Some f) t = omega (arith, t.1)

choose_new : {A : Type 0} (d : Dec A) (a b : Solution) → A → choose d a b ≡ b
choose_new (yes _) a b h = refl
choose_new (no n) a b h = absurd (n h)

choose_old : {A : Type 0} (d : Dec A) (a b : Solution) → ¬ A → choose d a b ≡ a
choose_old (yes y) a b h = absurd (h y)
choose_old (no _) a b h = refl

-- the cheaper cell tells the better option
cheaper_told : (B : ℕ) → B < marker → (a b : RunState) (o o' : Option Solution)
    → StateTold B a o → StateTold B b o' → StateTold B (cheaper_of a b) (better o o')
cheaper_told B small a b o o' p q = go (dec_lt b.cost a.cost) o o' p q
  where
    go : (d : Dec (b.cost < a.cost)) (o o' : Option Solution)
        → StateTold B a o → StateTold B b o' → StateTold B (pick d b a) (better o o')
    go (yes h) None o' p q = q
    go (yes h) (Some f) None p q = absurd (omega (arith, p.told.1, q.told.0))
    go (yes h) (Some f) (Some g) p q = rw (choose_new (dec_lt g.cost f.cost) f g (omega (arith, p.told.0, q.told.0))) q
    go (no h) None None p q = p
    go (no h) None (Some g) p q = absurd (omega (arith, p.told.0, q.told.1))
    go (no h) (Some f) None p q = p
    go (no h) (Some f) (Some g) p q = rw (choose_old (dec_lt g.cost f.cost) f g (λ l. omega (arith, p.told.0, q.told.0))) p

-- an amount tried after a state that is told
extend_told : {A : Type 0} (d : Dec A) → A → (B before stage x v : ℕ) → (o : Option Solution) → CostTold B before o
    → v ≡ before + stage → stage ≤ stage_most
    → StateTold (B + stage_most) (record { cost = v; amount = x }) (extend d x stage o)
extend_told (no n) a B before stage x v o t e s = absurd (n a)
extend_told (yes _) a B before stage x v None t e s = record { told = (omega (arith, t.0), omega (arith, t.1)); amount = tt }
extend_told (yes _) a B before stage x v (Some f) t e s =
    record { told = (omega (arith, t.0), omega (arith, t.1)); amount = sym (last_snoc f.plan x) }

extend_none : {A : Type 0} (d : Dec A) → ¬ A → (x q : ℕ) (o : Option Solution) → extend d x q o ≡ None
extend_none (yes a) h x q o = absurd (h a)
extend_none (no _) h x q o = refl

given_some : (n : ℕ) (o : Option Solution) → 0 < n → given n o ≡ o
given_some zero o h = absurd (omega arith)
given_some (suc n) o h = refl

-- where there is no such load, the try is left out
given_left : (n : ℕ) (a o : Option Solution) → ¬ (0 < n) → better a (given n o) ≡ a
given_left zero None o h = refl
given_left zero (Some a) o h = refl
given_left (suc n) a o h = absurd (h (omega arith))

-- p is period l + k of the model, in an interval from l
pub record IsPeriod (M : Model) (l k : ℕ) (p : RunPeriod) : Type 0 where
  pub setup : p.setup ≡ M.setup (l + k)
  pub unit : p.unit ≡ M.unit (l + k)
  pub holding : p.holding ≡ M.holding (l + k)
  pub due : M.floor l + p.due ≡ M.floor (suc (l + k))

-- its costs, and the loads, are numbers of their widths
pub record Narrow (p : RunPeriod) (w : LoadSizes) : Type 0 where
  pub setup : p.setup < 2 ^ 32
  pub unit : p.unit < 2 ^ 32
  pub holding : p.holding < 2 ^ 32
  pub full : w.full < 2 ^ 16
  pub part : w.part < 2 ^ 16

module _ (M : Model) (l k : ℕ) (p : RunPeriod) (w : LoadSizes) (here : IsPeriod M l k p) (narrow : Narrow p w)
    (B : ℕ) (small : B + stage_most < marker) (row : ℕ → ℕ) (j d : ℕ) (few : j ≤ 96) (one : d ≤ 1)
    (told : (j' d' : ℕ) → j' ≤ j → d' ≤ d → CostTold B (row (index_of j' d')) (first_to M l w k j' d')) where
  abbrev X : ℕ
  X = made w.full w.part j d

  abbrev hold : ℕ
  hold = p.holding * (X - p.due)

  -- what the theory charges for the period
  abbrev stage : ℕ → ℕ
  stage x = production M (l + k) x + M.holding (l + k) * (M.floor l + X - M.floor (suc (l + k)))

  abbrev First : ℕ → ℕ → ℕ → Option Solution
  First = first_to M l w

  abbrev Move : ℕ → Option Solution → Option Solution
  Move = moves M l w.full w.part k j d

  abbrev Tells : RunState → Option Solution → Type 0
  Tells = StateTold (B + stage_most)

  -- is what the code charges
  stage_is : (x : ℕ) → stage x ≡ making p.setup p.unit x + hold
  stage_is x =
      let e : M.floor l + X - M.floor (suc (l + k)) ≡ X - p.due = omega (arith, here.due) in
      rw (e, here.setup, here.unit, here.holding) refl

  stage_low : (x : ℕ) → x < 2 ^ 16 → stage x ≤ stage_most
  stage_low x a =
      let stock = made_small w.full w.part j d narrow.full narrow.part few one in
      let u = making_low p.setup p.unit x {b' = 2 ^ 32} {p' = 2 ^ 32} {x' = 2 ^ 16}
      (omega (arith, narrow.setup)) (omega (arith, narrow.unit)) (omega arith) in
      let v = paid_low p.holding (X - p.due) narrow.holding (omega (arith, stock)) in
      omega (arith, stage_is x)

  tried : p.due ≤ X → (x j' d' : ℕ) → x < 2 ^ 16 → j' ≤ j → d' ≤ d
      → Tells (offer_of p (row (index_of j' d')) x hold) (Move x (First k j' d'))
  tried enough x j' d' a f g =
      extend_told (dec_le (M.floor (suc (l + k))) (M.floor l + X)) (omega (arith, here.due)) B (row (index_of j' d')) (stage x) x
      (row (index_of j' d') + (making p.setup p.unit x + hold)) (First k j' d') (told j' d' f g)
      (ap (λ (v : ℕ). row (index_of j' d') + v) (sym (stage_is x))) (stage_low x a)

  -- one load more is tried
  load_told : p.due ≤ X → (n step x j' d' : ℕ) → x < 2 ^ 16
      → (0 < n → (j' ≤ j) × (d' ≤ d) × (index_of j d - step ≡ index_of j' d'))
      → (best : RunState) (o : Option Solution) → Tells best o
      → Tells (load_of p row (index_of j d) step n x hold best) (better o (given n (Move x (First k j' d'))))
  load_told enough n step x j' d' a from best o b = go (dec_lt 0 n)
    where
      go : (t : Dec (0 < n)) → Tells (pick t (cheaper_of best (offer_of p (row (index_of j d - step)) x hold)) best)
          (better o (given n (Move x (First k j' d'))))
      go (yes h) =
          let f = from h in
          rw (given_some n (Move x (First k j' d')) h, f.2)
          (cheaper_told (B + stage_most) small best (offer_of p (row (index_of j' d')) x hold) o (Move x (First k j' d')) b
          (tried enough x j' d' a f.0 f.1))
      go (no h) = rw (given_left n o (Move x (First k j' d')) h) b

  -- too little is made
  none_given : (n : ℕ) → given n None ≡ None
  none_given zero = refl
  none_given (suc n) = refl

  none_moved : ¬ (p.due ≤ X) → (x : ℕ) (o : Option Solution) → Move x o ≡ None
  none_moved h x o = extend_none (dec_le (M.floor (suc (l + k))) (M.floor l + X)) (λ g. h (omega (arith, here.due))) x _ o

  none_reached : ¬ (p.due ≤ X) → First (suc k) j d ≡ None
  none_reached h =
      let a = none_moved h 0 (First k j d) in
      let b = none_moved h w.part (First k j (d - 1)) in
      let e = none_moved h w.full (First k (j - 1) d) in
      let f = none_given d in
      let g = none_given j in
      rw (loads_next M l w.full w.part k j d, a, b, e, f, g) refl

  -- What the code finds of a state tells the first of the intervals to it.
  pub state_told : Tells (state_by p w row j d) (First (suc k) j d)
  state_told = go (dec_lt X p.due)
    where
      go : (t : Dec (X < p.due)) → Tells (pick t unreached (best_of p w row j d hold)) (First (suc k) j d)
      go (yes h) = rw (none_reached (λ g. omega arith)) (record { told = (omega arith, omega arith); amount = tt })
      go (no h) =
          let enough : p.due ≤ X = omega arith in
          rw (loads_next M l w.full w.part k j d)
          (load_told enough j 2 w.full (j - 1) d narrow.full (λ h. (omega arith, omega arith, omega arith)) _ _
          (load_told enough d 1 w.part j (d - 1) narrow.part (λ h. (omega arith, omega arith, omega arith)) _ _
          (tried enough 0 j d (omega arith) (omega arith) (omega arith))))
