-- Laws of the layout.
--     whole_record, whole_period, whole_charges               what the tests of a record say of it
--     period_at                                               the records that `periods_in` counts are whole periods
--     walked_none, walked_more, walked_end; walk_stops        a walk over the period records, record by record; where it stops
--     day_in_front, with_day_lem                              the tables that a reading filled begin with the file's day
--     laid_out; counted, walk_clean                           the walk meets no fault exactly if the file is laid out as `Layout` says
-- Assumes nothing.
use Rattle.std.specs.Prelude.{◌≡◌, refl, Bool, true, false, not, ◌&&◌, ◌||◌, cond, List, [], ◌∷◌, ℕ, zero, suc, ◌+◌, ◌-◌, ◌≤◌, ◌<◌, eqb, leb, ltb}
use Rattle.std.specs.Prelude.{length, take, drop, Option, None, Some}
use Rattle.std.proofs.Common.{ap, ◌∙◌, arith, eq-or-lt_of_le, le_of_suc-le-suc, inl, inr, ⊎_elim, length-take, length-drop, eqb-true, leb-true}
use Rattle.std.proofs.Common.{ltb-true, lt-ltb, le-ltb, le-leb, eq-eqb}
use Rattle.std.proofs.Math.Bool.{or-true}
use Rattle.std.proofs.Math.Arith.{le-zero}
use Rattle.std.proofs.Math.Nat.{add-sub_cancel_left}
use Rattle.std.proofs.lemmas.Bool.{not-true, not-false}
use Rattle.day.specs.Sums.{at, length-list_of}
use Rattle.day.specs.declared.Ends.{Ends}
use Rattle.day.specs.Day.{Day, ends_of, max_periods, max_store}
use Rattle.day.specs.declared.Refusal.TheVariants.{UnknownKind}
use Rattle.day.specs.Refusals.{refuse}
use Rattle.day.specs.Find.{find, find_none, find_here, some_found}
use Rattle.day.specs.Tests.{not_refused, neither}
use Rattle.day.specs.File.{period_kind, charge_kind, store_kind, stamp_kind, is_kind, body_length, body, next, number2, is_record, is_period}
use Rattle.day.specs.File.{both_zero, is_charges}
use Rattle.day.specs.File.{is_stamped, charges_at, has_charges, head_end}
use Rattle.day.specs.File.{record_at, PeriodAt, Layout, or_zero, periods_in, unknown_kind, misplaced, truncated, wrong_end, bad_end, walk, field}
use Rattle.day.specs.File.{store_in, day_in}
use Rattle.checks.specs.Passed.{SameLengths, Readable}
use Rattle.tables.specs.Filled.{first_of, with_front}
use Rattle.dayfile.specs.Answers.{with_day, with_tables}
use Rattle.dayfile.specs.Passed.{each_passed}

-- a whole record of kind x: the file reaches to its end
pub record WholeRecord (x : ℕ) (s : List ℕ) (p : ℕ) : Type 0 where
  pub kind : at s p ≡ x
  pub whole : next s p ≤ length s

pub whole_record : (x : ℕ) (s : List ℕ) (p : ℕ) → is_record x s p ≡ true → WholeRecord x s p
whole_record x s p e = go (eqb (at s p) x) refl e
  where
    go : (b : Bool) → eqb (at s p) x ≡ b → (b && leb (next s p) (length s)) ≡ true → WholeRecord x s p
    go true q w = record { kind = eqb-true _ _ q; whole = leb-true _ _ w }
    go false q w = let z : ◌≡◌ {A = ℕ} 0 1 = cc in absurd (omega arith)

pub record_whole : (x : ℕ) (s : List ℕ) (p : ℕ) → WholeRecord x s p → is_record x s p ≡ true
record_whole x s p w = rw (eq-eqb (at s p) x w.kind, le-leb (next s p) (length s) w.whole) refl

-- a whole period record
pub record WholePeriod (s : List ℕ) (p : ℕ) : Type 0 where
  pub kind : PeriodAt s p
  pub whole : next s p ≤ length s

pub whole_period : (s : List ℕ) (p : ℕ) → is_period s p ≡ true → WholePeriod s p
whole_period s p e = go (is_record period_kind s p) (is_record store_kind s p) refl refl e
  where
    go : (a b : Bool) → is_record period_kind s p ≡ a → is_record store_kind s p ≡ b → (a || (b && ltb (number2 (body s p) 16) max_store)) ≡ true
        → WholePeriod s p
    go true b qa qb t = let w = whole_record period_kind s p qa in record { kind = inl w.kind; whole = w.whole }
    go false true qa qb t = let w = whole_record store_kind s p qb in record { kind = inr (w.kind, ltb-true _ _ t); whole = w.whole }
    go false false qa qb t = let z : ◌≡◌ {A = ℕ} 0 1 = cc in absurd (omega arith)

pub period_whole : (s : List ℕ) (p : ℕ) → WholePeriod s p → is_period s p ≡ true
period_whole s p w =
    ⊎_elim
    (λ e. rw (here period_kind e) refl)
    (λ e. rw (here store_kind e.0, lt-ltb (number2 (body s p) 16) max_store e.1) (or-true (is_record period_kind s p)))
    w.kind
  where
    here : (x : ℕ) → at s p ≡ x → is_record x s p ≡ true
    here x e = record_whole x s p (record { kind = e; whole = w.whole })

-- a whole record of charges, not both 0
pub record WholeCharges (s : List ℕ) (p : ℕ) : Type 0 where
  pub here : WholeRecord charge_kind s p
  pub nonzero : both_zero (number2 (body s p) 0) (number2 (body s p) 2) ≡ false

pub whole_charges : (s : List ℕ) (p : ℕ) → is_charges s p ≡ true → WholeCharges s p
whole_charges s p e = go (is_record charge_kind s p) refl e
  where
    go : (b : Bool) → is_record charge_kind s p ≡ b → (b && not (both_zero (number2 (body s p) 0) (number2 (body s p) 2))) ≡ true → WholeCharges s p
    go true q w = record { here = whole_record charge_kind s p q; nonzero = not-true _ w }
    go false q w = let z : ◌≡◌ {A = ℕ} 0 1 = cc in absurd (omega arith)

-- a body is what stands from the byte after the kind to the next record
pub body_part : (s : List ℕ) (p : ℕ) {end : ℕ} → end ≡ next s p → take (end - (p + 1)) (drop (p + 1) s) ≡ body s p
body_part s p e = rw (e, add-sub_cancel_left) refl

-- a whole body is as long as its kind says
pub body_whole : (s : List ℕ) (p : ℕ) → next s p ≤ length s → length (body s p) ≡ body_length (at s p)
body_whole s p l = simp (length-take, length-drop) (omega arith)

pub whole_body : (x : ℕ) (s : List ℕ) (p : ℕ) → WholeRecord x s p → length (body s p) ≡ body_length x
whole_body x s p w = body_whole s p w.whole ∙ ap body_length w.kind

-- the store limit that a period record holds, by its kind
pub store_none : (s : List ℕ) (k : ℕ) → at s (record_at s k) ≡ period_kind → store_in s k ≡ max_store
store_none s k e = ap (λ (x : ℕ). cond (eqb x store_kind) (field number2 16 s k) max_store) e

pub store_there : (s : List ℕ) (k : ℕ) → at s (record_at s k) ≡ store_kind → store_in s k ≡ field number2 16 s k
store_there s k e = ap (λ (x : ℕ). cond (eqb x store_kind) (field number2 16 s k) max_store) e

-- the stamp ends inside the file, and so does the head
stamp_inside : (s : List ℕ) → charges_at s ≤ length s
stamp_inside s = go (is_stamped s) refl
  where
    go : (b : Bool) → is_stamped s ≡ b → cond b (next s 0) 0 ≤ length s
    go true q = (whole_record stamp_kind s 0 q).whole
    go false q = omega arith

head_inside : (s : List ℕ) → head_end s ≤ length s
head_inside s = go (has_charges s) refl
  where
    go : (b : Bool) → has_charges s ≡ b → cond b (next s (charges_at s)) (charges_at s) ≤ length s
    go true q = (whole_charges s (charges_at s) q).here.whole
    go false q = stamp_inside s

-- record i is no whole period
abbrev stops : List ℕ → ℕ → Bool
stops s i = not (is_period s (record_at s i))

-- the records that are counted are whole periods
pub period_at : (s : List ℕ) (i : ℕ) → i < periods_in s → WholePeriod s (record_at s i)
period_at s i = go (find (stops s) (suc (length s))) refl
  where
    go : (o : Option ℕ) → find (stops s) (suc (length s)) ≡ o → i < or_zero o → WholePeriod s (record_at s i)
    go None e l = absurd (omega arith)
    go (Some k) e l = whole_period s (record_at s i) (not-false _ ((some_found (stops s) (suc (length s)) k e).first i l))

-- a walk that has passed n whole periods stands at byte p
pub record Walked (s : List ℕ) (n p : ℕ) : Type 0 where
  pub here : p ≡ record_at s n
  pub passed : find (stops s) n ≡ None
  pub far : n ≤ p
  pub inside : p ≤ length s

pub walked_none : (s : List ℕ) → Walked s 0 (head_end s)
walked_none s = record { here = refl; passed = refl; far = omega arith; inside = head_inside s }

pub walked_more : (s : List ℕ) (n p : ℕ) → Walked s n p → is_period s p ≡ true → Walked s (suc n) (next s p)
walked_more s n p w t = record {
  here = rw w.here refl;
  passed = find_none (stops s) n w.passed (rw (← w.here, t) refl);
  far = omega (arith, w.far);
  inside = (whole_period s p t).whole;
}

pub walked_end : (s : List ℕ) (n p : ℕ) → Walked s n p → is_period s p ≡ false → periods_in s ≡ n
walked_end s n p w f =
    rw (find_here (stops s) n (suc (length s)) w.passed (rw (← w.here, f) refl) (omega (arith, w.far, w.inside))) refl

-- and so it goes past n whole periods
pub walked : (s : List ℕ) (n : ℕ) → ((i : ℕ) → i < n → WholePeriod s (record_at s i)) → Walked s n (record_at s n)
walked s zero h = walked_none s
walked s (suc n) h = walked_more s n (record_at s n) (walked s n (λ i l. h i (omega arith))) (period_whole s (record_at s n) (h n (omega arith)))

-- what is no whole period is tested as the end record
pub walk_stops : (s : List ℕ) (n p : ℕ) → Walked s n p → is_period s p ≡ false → walk s ≡ bad_end s p n
walk_stops s n p w f = rw (walked_end s n p w f, ← w.here) refl

pub known_kind : (s : List ℕ) (p x : ℕ) → at s p ≡ x → is_kind x ≡ true → unknown_kind s p ≡ None
known_kind s p x e k = rw (e, k) (go (ltb p (length s)))
  where
    go : (b : Bool) → refuse (b && false) UnknownKind ≡ None
    go true = refl
    go false = refl

-- a file whose walk meets no fault is laid out as `Layout` says
pub laid_out : (s : List ℕ) → walk s ≡ None → Layout s (periods_in s)
laid_out s e =
    let n = periods_in s in
    let p = record_at s n in
    let each = each_passed (unknown_kind s p ∷ misplaced s p ∷ truncated s p ∷ wrong_end s p n ∷ []) e in
    let tail = neither _ _ (not_refused _ _ each.1.1.1.0) in
    let right = neither _ _ tail.0 in
    record {
      periods = λ i l. (period_at s i l).kind;
      ends = eqb-true _ _ (not-false _ right.0);
      count = eqb-true _ _ (not-false _ tail.1);
      size = eqb-true _ _ (not-false _ right.1);
    }

record_grows : (s : List ℕ) (i n : ℕ) → i ≤ n → record_at s i ≤ record_at s n
record_grows s i zero h = rw (le-zero h) (omega arith)
record_grows s i (suc n) h =
    ⊎_elim
    (λ (e : i ≡ suc n). rw e (omega arith))
    (λ l. omega (arith, record_grows s i n (le_of_suc-le-suc l)))
    (eq-or-lt_of_le h)

-- a file that is laid out so has that many periods, and its walk meets no fault
pub counted : (s : List ℕ) (n : ℕ) → Layout s n → periods_in s ≡ n
counted s n w = walked_end s n (record_at s n) (walked s n passed) (rw w.ends refl)
  where
    passed : (i : ℕ) → i < n → WholePeriod s (record_at s i)
    passed i l = record { kind = w.periods i l; whole = omega (arith, w.size, record_grows s (suc i) n l) }

pub walk_clean : (s : List ℕ) (n : ℕ) → Layout s n → walk s ≡ None
walk_clean s n w =
    let p = record_at s n in
    let size : length s ≡ next s p = w.size in
    let counts = eq-eqb (number2 (body s p) 0) n w.count in
    rw (counted s n w, le-ltb (length s) (next s p) (omega arith), eq-eqb (length s) (next s p) size, counts) (
    rw (lt-ltb p (length s) (omega arith), w.ends) refl
    )

-- the tables of a file's day are of one length
pub day_lengths : (s : List ℕ) → SameLengths (day_in s)
day_lengths s = record {
  capacity = simp length-list_of;
  setup = simp length-list_of;
  unit = simp length-list_of;
  holding = simp length-list_of;
  store = simp length-list_of;
}

pub day_readable : (s : List ℕ) → periods_in s ≤ max_periods → Readable (day_in s)
day_readable s l = record { few = rw length-list_of l; lengths = day_lengths s }

-- tables that a reading filled: the file's day stands at their front
pub day_in_front : (s : List ℕ) (n : ℕ) (ends : Ends) (before after : Day)
    → n ≡ periods_in s → ends ≡ ends_of (day_in s) → after ≡ with_day s before
    → first_of n after ends ≡ day_in s
day_in_front s n ends before after e q w = rw (e, q, w) (simp with_front)

pub with_day_lem : (s : List ℕ) (before : Day) → with_day s before ≡ with_tables (day_in s) before
with_day_lem s before = rw (length-list_of (field number2 0 s) (periods_in s)) refl
