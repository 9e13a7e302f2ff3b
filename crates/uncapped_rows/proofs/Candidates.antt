-- Laws of the search for a row: upkeep is summed period by period, a candidate takes the best one's place or is dropped, and what the search
-- ends with is the row's last lot.
-- Assumes nothing.
use Rattle.std.proofs.Common.{◌≡◌, refl, sym, ap, ◌∙◌, List, ⊎_elim, ℕ, suc, ◌+◌, ◌-◌, ◌*◌, ◌≤◌, ◌<◌, mul-le-mul, eq-or-lt_of_le, arith, length}
use Rattle.std.proofs.Math.Decide.{dec_le, dec_lt}
use Rattle.day.specs.Sums.{at, sum_grows, at-list_of, length-list_of}
use Rattle.day.specs.Day.{max_periods, max_total}
use Rattle.day.specs.Plan.{making}
use Rattle.terms.specs.Low.{making_low}
use Rattle.theory.specs.Basics.{pick}
use Rattle.theory.specs.Model.{Model}
use Rattle.theory.specs.Problem.{Problem, model_of, model_rising, demand_to, periods}
use Rattle.theory.specs.Uncapped.{price, held}
use Rattle.theory.specs.Carried.{carried_to, carried_least, before_dear}
use Rattle.uncapped_rows.specs.declared.LastLot.{LastLot}
use Rattle.uncapped_rows.specs.declared.Holding.{Holding}
use Rattle.uncapped_rows.specs.Bounds.{LotFits, SumFits, max_making, max_holding}
use Rattle.uncapped_rows.specs.Rows.{better, lot_cost, held_through, carried_of, Least, CheapestOf, NextRowReady, LastLotOf}

-- candidates that are dearer than the best are passed over
dearer_least : (f : ℕ → ℕ) (m l l' : ℕ) (best : LastLot) → l' ≤ l → ((j : ℕ) → l' ≤ j → j < l → best.cost < f j) → Least f m l best → Least f m l' best
dearer_least f m l l' best le dear c =
    record {
      after = omega (arith, c.after);
      before = c.before;
      tells = c.tells;
      least = λ j a b. elim (dec_lt j l) [ yes h ↦ omega (arith, dear j a h) | no h ↦ c.least j (omega arith) b ];
      first = λ j a b. elim (dec_lt j l) [ yes h ↦ dear j a h | no h ↦ c.first j (omega arith) b ];
    }

dropped_least : (f : ℕ → ℕ) (m j : ℕ) (best : LastLot) → best.cost < f j → Least f m (suc j) best → Least f m j best
dropped_least f m j best dear = dearer_least f m (suc j) j best (omega arith) (λ i a b. let q : i ≡ j = omega arith in rw q dear)

-- one candidate more, at its price
better_least : (f : ℕ → ℕ) (m j : ℕ) (best : LastLot) (price : ℕ) → price ≡ f j → Least f m (suc j) best → Least f m j (better best j price)
unfolding better
better_least f m j best price e c = go (dec_le price best.cost)
  where
    go : (d : Dec (price ≤ best.cost)) → Least f m j (pick d (record { cost = price; from = j }) best)
    go (yes l) =
        record {
          after = omega arith;
          before = omega (arith, c.after, c.before);
          tells = e;
          least = λ i a b. ⊎_elim (λ (q : j ≡ i). rw (← q) (omega arith)) (λ g. omega (arith, c.least i g b)) (eq-or-lt_of_le a);
          first = λ i a b. absurd (omega arith);
        }
    go (no l) = dropped_least f m j best (omega arith) c

-- the upkeep of row m + 1 is summed down to period i
pub record SummedTo (p : Problem) (m i : ℕ) (s : Holding) : Type 0 where
  pub inside : i ≤ m
  pub lot : s.left + demand_to p i ≡ demand_to p (suc m)
  pub kept : s.held + held (model_of p) (suc m) i ≡ held (model_of p) (suc m) (suc m)
  pub low : s.held + i * max_holding ≤ m * max_holding

-- the search has come down to candidate l, whose lot is `made`; of the upkeep, that down to i is summed
pub record SearchedTo (p : Problem) (costs : ℕ → ℕ) (m l made i : ℕ) (s : Holding) (best : LastLot) : Type 0 where
  pub order : l ≤ i
  pub lot : made + demand_to p l ≡ demand_to p (suc m)
  pub holding : SummedTo p m i s
  pub cheapest : CheapestOf p costs m l best

module _ {p : Problem} {costs : List ℕ} {m : ℕ} (ready : NextRowReady p costs m) where
  abbrev M : Model
  M = model_of p

  abbrev r : ℕ → ℕ
  r = at p.demand

  -- to hold what is demanded by the row's end costs no less through more periods
  held_grows : (j k : ℕ) → j ≤ k → held M (suc m) j ≤ held M (suc m) k
  held_grows = sum_grows (λ k. M.holding k * (M.floor (suc m) - M.floor (suc k)))

  -- no lot is more than the demand of all periods
  lot_few : (made l : ℕ) → made + demand_to p l ≡ demand_to p (suc m) → made ≤ max_total
  lot_few made l lot = omega (arith, lot, sum_grows r (suc m) (periods p) ready.inside, ready.bounded.small)

  pub lot_fits : (l made : ℕ) → l ≤ m → made + demand_to p l ≡ demand_to p (suc m) → LotFits costs l made
  lot_fits l made le lot =
      record {
        cell = omega (arith, ready.cells);
        low = omega (arith, ready.low l le, ready.inside, ready.bounded.few);
        few = lot_few made l lot;
      }

  -- a cell for each period, which holds what is carried into it
  module _ {carried : List ℕ} (carries : carried ≡ carried_of p.unit p.holding) where
    carried_size : length carried ≡ length p.unit
    carried_size = ap length carries ∙ length-list_of (carried_to (at p.unit) (at p.holding)) (length p.unit)

    pub carried_cell : (l : ℕ) → l ≤ m → l < length carried
    carried_cell l le = omega (arith, carried_size, ready.inside, ready.bounded.units)

    carried_is : (l : ℕ) → l ≤ m → at carried l ≡ carried_to (at p.unit) (at p.holding) l
    carried_is l le =
        ap (λ (cells : List ℕ). at cells l) carries
        ∙ at-list_of (carried_to (at p.unit) (at p.holding)) (length p.unit) l (omega (arith, ready.inside, ready.bounded.units))

  -- nothing is held through the row's last period
  unheld : M.holding m * (M.floor (suc m) - M.floor (suc m)) ≡ 0
  unheld = let e : M.floor (suc m) - M.floor (suc m) ≡ 0 = omega arith in omega (arith, ap (λ (v : ℕ). M.holding m * v) e)

  pub held_low : {i : ℕ} {s : Holding} → SummedTo p m i s → s.held ≤ max_periods * max_holding
  held_low summed = omega (arith, summed.low, ready.inside, ready.bounded.few)

  -- The sum goes on from i = k + 1 to k.
  module _ (i k : ℕ) {s : Holding} (e : i ≡ suc k) (summed : SummedTo p m i s) where
    before : SummedTo p m (suc k) s
    before = rw e at summed

    few : s.left + r k ≤ max_total
    few = lot_few (s.left + r k) k (omega (arith, before.lot))

    pub sum_fits : SumFits s (r k)
    sum_fits = record { held = held_low summed; left = few }

    pub summed_more : SummedTo p m k (held_through s (r k) (M.holding k))
    summed_more =
        record {
          inside = omega (arith, before.inside);
          lot = omega (arith, before.lot);
          kept = omega (arith, before.kept, rate);
          low = omega (arith, before.low, mul-le-mul (ready.bounded.holding k (omega (arith, before.inside, ready.inside))) once);
        }
      where
        once : s.left ≤ max_total
        once = omega (arith, few)

        rate : M.holding k * s.left ≡ M.holding k * (M.floor (suc m) - M.floor (suc k))
        rate = ap (λ (v : ℕ). M.holding k * v) (omega (arith, before.lot))

  -- Candidate j is priced, whose lot is `made`, once the upkeep is summed down to i.
  module _ (j made : ℕ) (lot : made + demand_to p j ≡ demand_to p (suc m))
      (paid : ℕ) (pays : paid ≡ lot_cost p.setup p.unit (at costs) j made) {i : ℕ} {s : Holding} (summed : SummedTo p m i s) where
    whole : paid + (held M (suc m) (suc m) - held M (suc m) j) ≡ price M (at costs) (suc m) j
    whole = omega (arith, pays, ap (making (M.setup j) (M.unit j)) amount)
      where
        amount : M.floor (suc m) - M.floor j ≡ made
        amount = omega (arith, lot)

    -- what is summed is part of the price, and in the end all of it
    price_part : j ≤ i → paid + s.held ≤ price M (at costs) (suc m) j
    price_part h = omega (arith, whole, summed.kept, held_grows j i h)

    price_all : j ≡ i → paid + s.held ≡ price M (at costs) (suc m) j
    price_all e = omega (arith, whole, rw (← e) at summed.kept)

  module _ {l made i₀ : ℕ} {s₀ : Holding} {best : LastLot} (t : SearchedTo p (at costs) m l made i₀ s₀ best) where
    pub searched_inside : l ≤ m
    searched_inside = omega (arith, t.order, t.holding.inside)

    -- Where what is carried in from before passes the best, no earlier candidate is tried.
    pub searched_left : {carried : List ℕ} → carried ≡ carried_of p.unit p.holding → best.cost < at costs l + at carried l * made + s₀.held
        → CheapestOf p (at costs) m 0 best
    searched_left {carried} carries dear =
        dearer_least (price M (at costs) (suc m)) m l 0 best (omega arith)
        (λ j a h. omega (arith, bound j h, amount, held_grows l i₀ t.order, t.holding.kept)) t.cheapest
      where
        w : ℕ
        w = carried_to (at p.unit) (at p.holding) l

        amount : w * (M.floor (suc m) - M.floor l) ≡ at carried l * made
        amount =
            let e : M.floor (suc m) - M.floor l ≡ made = omega (arith, t.lot) in
            ap (λ (v : ℕ). w * v) e ∙ ap (λ (v : ℕ). v * made) (sym (carried_is carries l searched_inside))

        bound : (j : ℕ) → j < l
            → at costs l + w * (M.floor (suc m) - M.floor l) + (held M (suc m) (suc m) - held M (suc m) l) ≤ price M (at costs) (suc m) j
        bound j h =
            before_dear M (model_rising p) l (suc m) (omega (arith, searched_inside)) (at costs) j w h (ready.least l searched_inside j h)
            (carried_least (at p.unit) (at p.holding) l j h)

    -- The search goes on from l = j + 1 to j.
    module _ (j : ℕ) (e : l ≡ suc j) where
      pub lot_more : (made + r j) + demand_to p j ≡ demand_to p (suc m)
      lot_more = let all = rw e at t.lot in omega (arith, all)

      module _ {paid : ℕ} (pays : paid ≡ lot_cost p.setup p.unit (at costs) j (made + r j)) {i : ℕ} {s : Holding} (summed : SummedTo p m i s) where
        later : CheapestOf p (at costs) m (suc j) best
        later = rw e at t.cheapest

        -- a candidate that passes the best is dropped, and its upkeep stays summed
        pub searched_dropped : j ≤ i → best.cost < paid + s.held → SearchedTo p (at costs) m j (made + r j) i s best
        searched_dropped h dear =
            record {
              order = h;
              lot = lot_more;
              holding = summed;
              cheapest = dropped_least (price M (at costs) (suc m)) m j best
                  (omega (arith, price_part j (made + r j) lot_more paid pays summed h)) later;
            }

        -- one that is summed to its end is compared with it
        pub searched_more : j ≤ i → i ≤ j → SearchedTo p (at costs) m j (made + r j) i s (better best j (paid + s.held))
        searched_more h k =
            record {
              order = h;
              lot = lot_more;
              holding = summed;
              cheapest = better_least (price M (at costs) (suc m)) m j best (paid + s.held)
                  (price_all j (made + r j) lot_more paid pays summed (omega arith)) later;
            }

  -- The last candidate is m, which pays for its own period's demand alone.
  module _ {paid : ℕ} (pays : paid ≡ lot_cost p.setup p.unit (at costs) m (r m)) where
    abbrev last : LastLot
    last = record { cost = paid; from = m }

    low : paid ≤ at costs m + max_making
    low =
        let b = ready.bounded in
        let h = ready.inside in
        omega (arith, pays, making_low (M.setup m) (M.unit m) (r m) (b.setup m h) (b.unit m h) (lot_few (r m) m (omega arith)))

    tells : paid ≡ price M (at costs) (suc m) m
    tells = omega (arith, unheld, pays, ap (making (M.setup m) (M.unit m)) amount)
      where
        amount : M.floor (suc m) - M.floor m ≡ r m
        amount = omega arith

    -- where nothing is demanded, it is the row's
    pub last_chosen : r m ≡ 0 → LastLotOf p (at costs) m last
    last_chosen none =
        record {
          chosen = record { still = λ _. refl; moves = λ more. absurd (omega arith); tells = tells };
          inside = omega arith;
          low = low;
          least = λ j h. ⊎_elim (λ (e : j ≡ m). rw e (omega (arith, tells))) (λ lt. omega (arith, earlier j lt, idle)) (eq-or-lt_of_le h);
        }
      where
        idle : paid ≡ at costs m
        idle = omega (arith, pays, ap (making (M.setup m) (M.unit m)) none)

        earlier : (j : ℕ) → j < m → at costs m ≤ price M (at costs) (suc m) j
        earlier j lt =
            omega
            (arith, before_dear M (model_rising p) m (suc m) (omega arith) (at costs) j 0 lt (ready.least m (omega arith) j lt) (omega arith))

    -- else what the whole search finds is
    pub searched_chosen : (r m ≡ 0 → ⊥) → (best : LastLot) → CheapestOf p (at costs) m 0 best → LastLotOf p (at costs) m best
    searched_chosen some best c =
        record {
          chosen = record {
            still = λ same. absurd (some (omega arith));
            moves = λ _. record {
              inside = c.before;
              least = λ j h. omega (arith, c.tells, c.least j (omega arith) h);
              first = λ j h. omega (arith, c.tells, c.first j (omega arith) h);
            };
            tells = c.tells;
          };
          inside = c.before;
          low = omega (arith, c.least m (omega arith) (omega arith), tells, low);
          least = λ j h. c.least j (omega arith) h;
        }
