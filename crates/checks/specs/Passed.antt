-- What a caller of the tests learns. Main statements, in the order of the tests:
--     tables_passed, day_passed             1, 2, 3: what `Limits` says of the tables; 4, 14
--     area_passed                           5
--     shortage_passed, shortage_found       7: what must have been made is at most what can have been; the first period in which it is not
--     equal_passed                          8
--     binding_passed                        9
--     free_passed                           15
--     store_passed                          16
--     admitted                              all tests of a path: what its work relies on
-- Assumes nothing.
use Rattle.std.proofs.lemmas.Option.{none-some, same_Some}
use Rattle.std.specs.Prelude.{◌≡◌, refl, Bool, false, not, ◌||◌, List, [], ◌∷◌, ◌↔◌, ℕ, zero, suc, ◌+◌, ◌-◌, ◌≤◌, ◌<◌, ltb, eqb, length, Option, None, Some}
use Rattle.std.proofs.Common.{sym, ap, ◌∙◌, true≢false, arith, ltb-false, le-ltb, eqb-true, eq-eqb, ne_eqb}
use Rattle.std.proofs.lemmas.Bool.{eqb-false, not-false}
use Rattle.day.specs.declared.Refusal.{Refusal}
use Rattle.day.specs.declared.Refusal.TheVariants.{PeriodCount, TableLength, AboveLimit, TotalDemand, ShortArea, FewSlots, SurplusInventory}
use Rattle.day.specs.declared.Refusal.TheVariants.{Shortage, UnequalCapacities, BindingCapacity, PaidSetup, LowStore}
use Rattle.day.specs.Sums.{at}
use Rattle.day.specs.Find.{find, none_found, nothing_found, some_found}
use Rattle.day.specs.Day.{Day, periods, max_periods, max_demand, max_capacity, max_setup, max_rate, max_half_rate, max_store}
use Rattle.day.specs.Day.{demand_to, required, total, net_to, net_before}
use Rattle.day.specs.Refusals.{number_of, period_of, refuse_at, anywhere, first, bad_count, bad_lengths, above_limit, bad_value, table_tests}
use Rattle.day.specs.Refusals.{bad_total, bad_opening, total_tests, day_tests}
use Rattle.day.specs.Refusals.{bad_slots, most_to, short, shortage, FirstAt, differs, unequal, binds, binding, paid, paid_setup, tight, low_store}
use Rattle.day.specs.Tests.{first_split, first_passed, first_one, first_two, not_refused, nowhere, neither}
use Rattle.day.specs.declared.Sizes.{Sizes}
use Rattle.day.specs.Outcome.{Path, Roomy, area_test, memory_tests, path_tests, refusal}

-- every table is as long as the demand table
pub record SameLengths (d : Day) : Type 0 where
  pub capacity : length d.capacity ≡ periods d
  pub setup : length d.setup ≡ periods d
  pub unit : length d.unit ≡ periods d
  pub holding : length d.holding ≡ periods d
  pub store : length d.store ≡ periods d

-- at most 96 periods in tables of one length
pub record Readable (d : Day) : Type 0 where
  pub few : periods d ≤ max_periods
  pub lengths : SameLengths d

-- and what they hold over the day can be made: A is at most R + Z
pub record Balanced (d : Day) : Type 0 where
  pub readable : Readable d
  pub used : d.opening ≤ required d

-- the values of period k + 1 are within their limits
pub record Within (d : Day) (k : ℕ) : Type 0 where
  pub demand : at d.demand k ≤ max_demand
  pub capacity : at d.capacity k ≤ max_capacity
  pub setup : at d.setup k ≤ max_setup
  pub unit : at d.unit k ≤ max_rate
  pub holding : at d.holding k ≤ max_half_rate
  pub store : at d.store k ≤ max_store

-- what tests 1, 2 and 3 leave
pub record Limits (d : Day) : Type 0 where
  pub nonempty : 1 ≤ periods d
  pub few : periods d ≤ max_periods
  pub lengths : SameLengths d
  pub within : (k : ℕ) → k < periods d → Within d k

-- what test 7 leaves of period k + 1: the store takes A, and no more must have been made than can have been
pub record Passes (d : Day) (k : ℕ) : Type 0 where
  pub room : d.opening ≤ demand_to d (suc k) + at d.store k
  pub reach : net_to d (suc k) ≤ most_to d (suc k)

-- what test 7 refuses: the first period that does not pass
abbrev pub FirstFailing : Day → Refusal → Type 0
FirstFailing d r = FirstAt d (λ k. Passes d k → ⊥) (Passes d) r

-- 1
pub count_passed : (n : ℕ) → bad_count n ≡ None → (1 ≤ n) × (n ≤ max_periods)
count_passed n e =
    let t = neither (eqb n 0) (ltb max_periods n) (not_refused _ PeriodCount e) in
    (positive n (eqb-false n 0 t.0), ltb-false max_periods n t.1)
  where
    positive : (m : ℕ) → (m ≡ 0 → ⊥) → 1 ≤ m
    positive zero h = absurd (h refl)
    positive (suc m) h = omega arith

-- 2
abbrev as_long : Day → List ℕ → Bool
as_long d l = eqb (length l) (periods d)

pub lengths_passed : (d : Day) → bad_lengths d ≡ None → SameLengths d
lengths_passed d e =
    let c = as_long d d.capacity in
    let b = as_long d d.setup in
    let p = as_long d d.unit in
    let h = as_long d d.holding in
    let s = as_long d d.store in
    let cbph-s = neither (not c || not b || not p || not h) (not s) (not_refused _ TableLength e) in
    let cbp-h = neither (not c || not b || not p) (not h) cbph-s.0 in
    let cb-p = neither (not c || not b) (not p) cbp-h.0 in
    let c-b = neither (not c) (not b) cb-p.0 in
    record {
      capacity = eqb-true _ _ (not-false c c-b.0);
      setup = eqb-true _ _ (not-false b c-b.1);
      unit = eqb-true _ _ (not-false p cb-p.1);
      holding = eqb-true _ _ (not-false h cbp-h.1);
      store = eqb-true _ _ (not-false s cbph-s.1);
    }

-- 3
values_within : (d : Day) (k : ℕ) → above_limit d k ≡ false → Within d k
values_within d k e =
    let r = ltb max_demand (at d.demand k) in
    let c = ltb max_capacity (at d.capacity k) in
    let b = ltb max_setup (at d.setup k) in
    let p = ltb max_rate (at d.unit k) in
    let h = ltb max_half_rate (at d.holding k) in
    let s = ltb max_store (at d.store k) in
    let rcbph-s = neither (r || c || b || p || h) s e in
    let rcbp-h = neither (r || c || b || p) h rcbph-s.0 in
    let rcb-p = neither (r || c || b) p rcbp-h.0 in
    let rc-b = neither (r || c) b rcb-p.0 in
    let r-c = neither r c rc-b.0 in
    record {
      demand = ltb-false _ _ r-c.0;
      capacity = ltb-false _ _ r-c.1;
      setup = ltb-false _ _ rc-b.1;
      unit = ltb-false _ _ rcb-p.1;
      holding = ltb-false _ _ rcbp-h.1;
      store = ltb-false _ _ rcbph-s.1;
    }

-- 1, 2, 3
pub tables_passed : (d : Day) → first (table_tests d) ≡ None → Limits d
tables_passed d e =
    let one = first_split (bad_count (periods d) ∷ []) (bad_lengths d ∷ bad_value d ∷ []) e in
    let two = first_split (bad_lengths d ∷ []) (bad_value d ∷ []) one.1 in
    let n = count_passed (periods d) (rw first_one at one.0) in
    let value = nowhere AboveLimit (find (above_limit d) (periods d)) (rw first_one at two.1) in
    record {
      nonempty = n.0;
      few = n.1;
      lengths = lengths_passed d (rw first_one at two.0);
      within = λ k l. values_within d k (none_found (above_limit d) (periods d) value k l);
    }

-- what tests 1 to 4 and 14 leave, where 4 has this limit
pub record DayLimits (limit : ℕ) (d : Day) : Type 0 where
  pub limits : Limits d
  pub small : required d ≤ limit
  pub used : d.opening ≤ required d

pub day_passed : {limit : ℕ} (d : Day) → first (day_tests limit d) ≡ None → DayLimits limit d
day_passed {limit} d e =
    let t = first_split (table_tests d) (total_tests limit d) e in
    let s = first_split (bad_total limit d ∷ []) (bad_opening d ∷ []) t.1 in
    record {
      limits = tables_passed d t.0;
      small = ltb-false _ _ (not_refused (ltb limit (required d)) TotalDemand (rw first_one at s.0));
      used = ltb-false _ _ (not_refused (ltb (required d) d.opening) SurplusInventory (rw first_one at s.1));
    }

-- 5
pub area_passed : (P : Path) (d : Day) (s : Sizes) → area_test P d s ≡ None
    → (P.cost_cells (periods d) (total d) ≤ s.costs) × (P.choice_cells (periods d) (total d) ≤ s.choices)
area_passed P d s e =
    let costs = ltb s.costs (P.cost_cells (periods d) (total d)) in
    let choices = ltb s.choices (P.choice_cells (periods d) (total d)) in
    let a = neither costs choices (not_refused (costs || choices) ShortArea e) in
    (ltb-false _ _ a.0, ltb-false _ _ a.1)

-- 5, 6
memory_passed : (P : Path) (d : Day) (s : Sizes) → first (memory_tests P d s) ≡ None → Roomy P d s
memory_passed P d s e =
    let n = periods d in
    let t = first_two (area_test P d s) (bad_slots s.slots n) e in
    let a = area_passed P d s t.0 in
    record { costs = a.0; choices = a.1; slots = ltb-false _ _ (not_refused (ltb s.slots n) FewSlots t.1) }

-- 7
pub passes_iff : (d : Day) (k : ℕ) → (short d k ≡ false) ↔ Passes d k
passes_iff d k = (
  λ e. let t = neither _ _ e in record { room = ltb-false _ _ t.0; reach = ltb-false _ _ t.1 },
  λ p. rw (le-ltb (demand_to d (suc k) + at d.store k) d.opening p.room, le-ltb (most_to d (suc k)) (net_to d (suc k)) p.reach) refl,
)

pub shortage_passed : (d : Day) → shortage d ≡ None → (k : ℕ) → k < periods d → Passes d k
shortage_passed d e k l = (passes_iff d k).0 (none_found (short d) (periods d) (nowhere Shortage _ e) k l)

pub shortage_found : (d : Day) (r : Refusal) → shortage d ≡ Some r → FirstFailing d r
shortage_found d r e = go (find (short d) (periods d)) refl e
  where
    go : (o : Option ℕ) → find (short d) (periods d) ≡ o → refuse_at Shortage o ≡ Some r → FirstFailing d r
    go None found s = absurd (none-some _ s)
    go (Some k) found s =
        let f = some_found (short d) (periods d) k found in
        record {
          k = k;
          number = sym (ap number_of (same_Some _ _ s));
          period = sym (ap period_of (same_Some _ _ s));
          inside = f.inside;
          fails = λ p. true≢false (sym f.passes ∙ (passes_iff d k).1 p);
          earlier = λ j l. (passes_iff d j).0 (f.first j l);
        }

-- 8: one capacity throughout
pub equal_passed : (d : Day) → unequal d ≡ None → (k : ℕ) → k < periods d → at d.capacity k ≡ at d.capacity 0
equal_passed d e k l = eqb-true _ _ (not-false _ (none_found (differs d) (periods d) (go _ e) k l))
  where
    go : (o : Option ℕ) → anywhere o UnequalCapacities ≡ None → o ≡ None
    go None s = refl
    go (Some j) s = absurd (none-some _ (sym s))

-- 9: no capacity is below what is still to be made
pub binding_passed : (d : Day) → binding d ≡ None → (k : ℕ) → k < periods d → total d ≤ net_to d k + at d.capacity k
binding_passed d e k l =
    let free = none_found (binds d) (periods d) (nowhere BindingCapacity _ e) k l in
    omega (arith, net_before d k l, ltb-false (at d.capacity k) (total d - (demand_to d k - d.opening)) free)

-- 15: setups cost nothing
pub free_passed : (d : Day) → paid_setup d ≡ None → (k : ℕ) → k < periods d → at d.setup k ≡ 0
free_passed d e k l =
    omega (arith, ltb-false 0 (at d.setup k) (none_found (paid d) (periods d) (nowhere PaidSetup _ e) k l))

-- 16: every store takes R + Z
pub store_passed : (d : Day) → low_store d ≡ None → (k : ℕ) → k < periods d → required d ≤ at d.store k
store_passed d e k l = ltb-false _ _ (none_found (tight d) (periods d) (nowhere LowStore _ e) k l)

-- what a path relies on that refuses nothing
pub record Admitted (P : Path) (d : Day) (s : Sizes) : Type 0 where
  pub day : DayLimits P.limit d
  pub room : Roomy P d s
  pub supplied : (k : ℕ) → k < periods d → Passes d k
  pub own : first (P.own d) ≡ None

pub admitted : (P : Path) (d : Day) (s : Sizes) → refusal P d s ≡ None → Admitted P d s
admitted P d s e =
    let one = first_split (day_tests P.limit d) (path_tests P d s) e in
    let two = first_split (memory_tests P d s) (shortage d ∷ P.own d) one.1 in
    let three = first_split (shortage d ∷ []) (P.own d) two.1 in
    record {
      day = day_passed d one.0;
      room = memory_passed P d s two.0;
      supplied = shortage_passed d (rw first_one at three.0);
      own = three.1;
    }

-- and the other way round: a day within the limits passes tests 1 to 3, and 4 and 14
pub lengths_pass : (d : Day) → SameLengths d → bad_lengths d ≡ None
lengths_pass d s = simp (eq-eqb _ _ s.capacity, eq-eqb _ _ s.setup, eq-eqb _ _ s.unit, eq-eqb _ _ s.holding, eq-eqb _ _ s.store)

pub tables_pass : (d : Day) → Limits d → first (table_tests d) ≡ None
tables_pass d l = rw (count, lengths_pass d l.lengths, value) refl
  where
    count : bad_count (periods d) ≡ None
    count = rw (ne_eqb (periods d) 0 (λ e. omega (arith, l.nonempty)), le-ltb max_periods (periods d) l.few) refl

    inside : (k : ℕ) → Within d k → above_limit d k ≡ false
    inside k w =
        simp (
          le-ltb _ _ w.demand,
          le-ltb _ _ w.capacity,
          le-ltb _ _ w.setup,
          le-ltb _ _ w.unit,
          le-ltb _ _ w.holding,
          le-ltb _ _ w.store,
        )

    value : bad_value d ≡ None
    value = ap (refuse_at AboveLimit) (nothing_found (above_limit d) (periods d) (λ k h. inside k (l.within k h)))

pub day_passes : {limit : ℕ} (d : Day) → DayLimits limit d → first (day_tests limit d) ≡ None
day_passes {limit} d g =
    first_passed (table_tests d) (total_tests limit d) (tables_pass d g.limits) ∙ rw (le-ltb _ _ g.small, le-ltb _ _ g.used) refl
