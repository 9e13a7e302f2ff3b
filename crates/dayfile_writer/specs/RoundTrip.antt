-- The layout both ways: the file of a stamp and a day is laid out as `Layout` says and holds these (`file_layout`, `file_stamp`, `reads_back`),
-- and a file of bytes with a stamp that is laid out so is the file of the stamp and the day that it holds (`only_file`). Assumes nothing.
use Rattle.std.specs.Prelude.{◌≡◌, refl, Bool, true, false, ◌&&◌, cond, List, [], ◌∷◌, ◌++◌, ℕ, zero, suc, ◌+◌, ◌/◌, ◌%◌, ◌≤◌, ◌<◌, eqb, ltb, length}
use Rattle.std.specs.Prelude.{take, drop}
use Rattle.std.proofs.Common.{sym, ap, ap₂, ◌∙◌, append_assoc, append-nil, div-add-mod', eq-or-lt_of_le, le_of_suc-le-suc, add-one, arith, inl, inr}
use Rattle.std.proofs.Common.{⊎_elim, eqb-true, ne_eqb, ltb-true, ltb-false, lt-ltb, length-append, length-take, length-drop, take-add, take_all}
use Rattle.std.proofs.Common.{take_at, drop-cons, get_or-take, get_or-drop}
use Rattle.std.proofs.Math.Seq.{drop-append-add, get_or-append_seam}
use Rattle.day.specs.declared.Stamp.{Stamp}
use Rattle.day.specs.Sums.{at, list_of, at-list_of, length-list_of, list_of-at}
use Rattle.day.specs.Day.{Day, periods, max_store}
use Rattle.checks.specs.Passed.{SameLengths}
use Rattle.dayfile.specs.Layout.{WholePeriod, whole_record, record_whole, whole_charges, body_whole, whole_body, period_at, store_none, store_there, counted}
use Rattle.dayfile.specs.Theorems.{record_bytes}
use Rattle.day.specs.File.{period_kind, end_kind, charge_kind, store_kind, stamp_kind, body_length, body, next, number2, number4, is_record}
use Rattle.day.specs.File.{both_zero, is_stamped}
use Rattle.day.specs.File.{charges_at, has_charges, head_end, record_at, PeriodAt, Layout, periods_in, stamp_in, charge_in, field, store_in, day_in}
use Rattle.day.specs.File.{bytes2, bytes4, stamp_record, charges_of, head_of, fields_of, kind_of, limit_of, record_of, records_of, file_of}

-- every entry is a byte
abbrev pub Bytes : List ℕ → Type 0
Bytes s = (k : ℕ) → k < length s → at s k < 256

bytes_body : (s : List ℕ) → Bytes s → (p : ℕ) → Bytes (body s p)
bytes_body s h p k l =
    let w = simp (length-take, length-drop) at l in
    rw (get_or-take (body_length (at s p)) (drop (p + 1) s) k 0 (omega arith), get_or-drop) (h (p + 1 + k) (omega arith))

-- up to its end a record is what stands before it, its kind and its body
record_split : (s : List ℕ) (p : ℕ) → p < length s → take (next s p) s ≡ take p s ++ at s p ∷ body s p
record_split s p l =
    let e : next s p ≡ p + suc (body_length (at s p)) = omega arith in
    rw (e, take-add, drop-cons s p 0, add-one) refl

-- what stands before p + 2 is what stands before p, and then the bytes of the number at p; and so for 4 bytes
upto2 : (b : List ℕ) → Bytes b → (p : ℕ) → p + 1 < length b → take (p + 2) b ≡ take p b ++ bytes2 (number2 b p)
upto2 b h p l =
    let x = h p (omega arith) in
    let y = h (p + 1) l in
    let hi : number2 b p / 256 ≡ at b p = omega arith in
    let lo : number2 b p % 256 ≡ at b (p + 1) = omega arith in
    let e : p + 2 ≡ p + suc 1 = omega arith in
    rw (hi, lo, e, take-add, drop-cons b p 0 (omega arith), drop-cons b (suc p) 0 (omega arith), add-one) refl

upto4 : (b : List ℕ) → Bytes b → (p : ℕ) → p + 3 < length b → take (p + 4) b ≡ take p b ++ bytes4 (number4 b p)
upto4 b h p l =
    let lo = h (p + 2 + 1) (omega arith) in
    let lo' = h (p + 2) (omega arith) in
    let a : number4 b p / 65536 ≡ number2 b p = omega arith in
    let z : number4 b p % 65536 ≡ number2 b (p + 2) = omega arith in
    let e : p + 4 ≡ p + 2 + 2 = omega arith in
    rw (a, z, e, upto2 b h (p + 2) (omega arith), upto2 b h p (omega arith), append_assoc) refl

-- a period's body begins with the five numbers that every one holds
abbrev numbers_in : List ℕ → List ℕ
numbers_in b = fields_of (number2 b 0) (number2 b 2) (number4 b 4) (number4 b 8) (number4 b 12)

body_bytes : (b : List ℕ) → Bytes b → 16 ≤ length b → take 16 b ≡ numbers_in b
body_bytes b h l =
    cc (
      upto4 b h 12 (omega arith),
      upto4 b h 8 (omega arith),
      upto4 b h 4 (omega arith),
      upto2 b h 2 (omega arith),
      upto2 b h 0 (omega arith),
    )

-- a body of two numbers of 2 bytes is made of them
two_bytes : (b : List ℕ) → Bytes b → length b ≡ 4 → b ≡ bytes2 (number2 b 0) ++ bytes2 (number2 b 2)
two_bytes b h e = cc (take_all 4 b (omega arith), upto2 b h 2 (omega arith), upto2 b h 0 (omega arith))

-- a period record is made of the numbers that it holds, without a store limit or with one
record_bytes_lem : (s : List ℕ) → Bytes s → (k : ℕ) → WholePeriod s (record_at s k)
    → at s (record_at s k) ∷ body s (record_at s k)
    ≡ kind_of (store_in s k) ∷ numbers_in (body s (record_at s k)) ++ limit_of (store_in s k)
record_bytes_lem s h k w = ⊎_elim plain limited w.kind
  where
    b : List ℕ
    b = body s (record_at s k)

    long : {x : ℕ} → at s (record_at s k) ≡ x → length b ≡ body_length x
    long e = body_whole s (record_at s k) w.whole ∙ ap body_length e

    plain : at s (record_at s k) ≡ period_kind → at s (record_at s k) ∷ b ≡ kind_of (store_in s k) ∷ numbers_in b ++ limit_of (store_in s k)
    plain e =
        let l : length b ≡ 16 = long e in
        let made : b ≡ numbers_in b = cc (take_all 16 b (omega arith), body_bytes b (bytes_body s h (record_at s k)) (omega arith)) in
        rw (store_none s k e) (ap₂ ◌∷◌ e made)

    limited : (at s (record_at s k) ≡ store_kind) × (number2 b 16 < max_store)
        → at s (record_at s k) ∷ b ≡ kind_of (store_in s k) ∷ numbers_in b ++ limit_of (store_in s k)
    limited e =
        let l : length b ≡ 18 = long e.0 in
        let bytes = bytes_body s h (record_at s k) in
        let limit = upto2 b bytes 16 (omega arith) in
        let made : b ≡ numbers_in b ++ bytes2 (number2 b 16) = cc (take_all 18 b (omega arith), limit, body_bytes b bytes (omega arith)) in
        rw (store_there s k e.0, lt-ltb (number2 b 16) max_store e.1) (ap₂ ◌∷◌ e.0 made)

-- the stamp is made of the numbers that it holds
stamp_bytes : (s : List ℕ) → Bytes s → is_stamped s ≡ true → take (charges_at s) s ≡ stamp_record (stamp_in s)
stamp_bytes s h e =
    let w = whole_record stamp_kind s 0 e in
    let two = two_bytes (body s 0) (bytes_body s h 0) (whole_body stamp_kind s 0 w) in
    rw e (record_split s 0 (omega (arith, w.whole)) ∙ ap₂ ◌∷◌ w.kind two)

-- and so are the charges after it, where there are any
head_bytes : (s : List ℕ) → Bytes s → is_stamped s ≡ true → take (head_end s) s ≡ head_of (stamp_in s) (charge_in 0 s) (charge_in 2 s)
head_bytes s h e = go (has_charges s) refl
  where
    p : ℕ
    p = charges_at s

    go : (b : Bool) → has_charges s ≡ b
        → take (cond b (next s p) p) s ≡ head_of (stamp_in s) (cond b (number2 (body s p) 0) 0) (cond b (number2 (body s p) 2) 0)
    go true q =
        let w = whole_charges s p q in
        let two = two_bytes (body s p) (bytes_body s h p) (whole_body charge_kind s p w.here) in
        let split = record_split s p (omega (arith, w.here.whole)) in
        rw w.nonzero (split ∙ ap₂ ◌++◌ (stamp_bytes s h e) (ap₂ ◌∷◌ w.here.kind two))
    go false q = stamp_bytes s h e

-- and so is record k of the day that a file holds
listed : (s : List ℕ) (k : ℕ) → k < periods_in s
    → record_of (day_in s) k ≡ kind_of (store_in s k) ∷ numbers_in (body s (record_at s k)) ++ limit_of (store_in s k)
listed s k l =
    rw (
      at-list_of (store_in s) (periods_in s) k l,
      at-list_of (field number2 0 s) (periods_in s) k l,
      at-list_of (field number2 2 s) (periods_in s) k l,
      at-list_of (field number4 4 s) (periods_in s) k l,
      at-list_of (field number4 8 s) (periods_in s) k l,
      at-list_of (field number4 12 s) (periods_in s) k l,
    )
    refl

-- the head and the first k period records of the file of a stamp and a day
abbrev up_to : Stamp → Day → ℕ → List ℕ
up_to t d k = head_of t d.opening d.closing ++ records_of d k

-- up to record k a file is what its stamp and its day give
prefix : (s : List ℕ) → Bytes s → is_stamped s ≡ true → (k : ℕ) → k ≤ periods_in s → take (record_at s k) s ≡ up_to (stamp_in s) (day_in s) k
prefix s h e zero l = rw append-nil (head_bytes s h e)
prefix s h e (suc k) l =
    let p = record_at s k in
    let w = period_at s k l in
    let more : take (next s p) s ≡ up_to (stamp_in s) (day_in s) k ++ record_of (day_in s) k =
    cc (record_split s p (omega (arith, w.whole)), prefix s h e k (omega arith), record_bytes_lem s h k w, listed s k l) in
    more ∙ append_assoc (head_of (stamp_in s) (charge_in 0 s) (charge_in 2 s)) (records_of (day_in s) k) (record_of (day_in s) k)

-- a file with a stamp that is laid out as `Layout` says is the file of the stamp and the day that it holds
pub only_file : (s : List ℕ) → Bytes s → is_stamped s ≡ true → Layout s (periods_in s) → s ≡ file_of (stamp_in s) (day_in s)
only_file s h e w =
    let n = periods_in s in
    let p = record_at s n in
    let size : next s p ≤ length s = omega (arith, w.size) in
    let b : length (body s p) ≡ 2 = whole_body end_kind s p (record { kind = w.ends; whole = size }) in
    let all = take_all (next s p) s (omega (arith, w.size)) in
    let end = take_all 2 (body s p) (omega arith) in
    let count = upto2 (body s p) (bytes_body s h p) 0 (omega arith) in
    let made : s ≡ up_to (stamp_in s) (day_in s) (periods (day_in s)) ++ end_kind ∷ bytes2 (periods (day_in s)) =
    cc (all, record_split s p (omega arith), prefix s h e n (omega arith), w.ends, w.count, end, count, length-list_of (field number2 0 s) n) in
    let head = head_of (stamp_in s) (charge_in 0 s) (charge_in 2 s) in
    made ∙ append_assoc head (records_of (day_in s) (periods (day_in s))) (end_kind ∷ bytes2 (periods (day_in s)))

-- The other way: the file of a stamp and a day.

-- a record of kind x with body b stands at byte p
record Stands (s : List ℕ) (p x : ℕ) (b : List ℕ) : Type 0 where
  kind : at s p ≡ x
  holds : body s p ≡ b
  whole : next s p ≤ length s

-- as where it is written after `a`
stands : (a : List ℕ) (x : ℕ) (b rest : List ℕ) → length b ≡ body_length x → Stands (a ++ (x ∷ (b ++ rest))) (length a) x b
stands a x b rest e =
    let k = get_or-append_seam a x (b ++ rest) 0 in
    record {
      kind = k;
      holds = rw (k, drop-append-add) (take_at b rest (body_length x) e);
      whole = rw (k, length-append) (omega (arith, length-append b rest));
    }

-- a record of two numbers holds them
record Held (s : List ℕ) (p x a b : ℕ) : Type 0 where
  is : is_record x s p ≡ true
  first : number2 (body s p) 0 ≡ a
  second : number2 (body s p) 2 ≡ b

held : (s : List ℕ) (p x a b : ℕ) → Stands s p x (bytes2 a ++ bytes2 b) → Held s p x a b
held s p x a b w = record {
  is = record_whole x s p (record { kind = w.kind; whole = w.whole });
  first = rw w.holds (div-add-mod' a 256);
  second = rw w.holds (div-add-mod' b 256);
}

-- what is found of the stamp t and the charges o and c at a file's front
record HeadFound (s : List ℕ) (t : Stamp) (o c : ℕ) : Type 0 where
  stamped : is_stamped s ≡ true
  stamp : stamp_in s ≡ t
  place : head_end s ≡ length (head_of t o c)
  opening : charge_in 0 s ≡ o
  closing : charge_in 2 s ≡ c

-- where the stamp stands first, charges may stand at byte 5
module _ (s : List ℕ) (t : Stamp) (front : Stands s 0 stamp_kind (bytes2 t.station ++ bytes2 t.date)) where
  there : Held s 0 stamp_kind t.station t.date
  there = held s 0 stamp_kind t.station t.date front

  same : stamp_in s ≡ t
  same i = record { station = there.first i; date = there.second i }

  after : charges_at s ≡ 5
  after = rw (there.is, front.kind) refl

  head_absent : (at s 5 ≡ charge_kind → ⊥) → HeadFound s t 0 0
  head_absent h =
      let n : has_charges s ≡ false = rw (after, ne_eqb (at s 5) charge_kind h) refl in
      record { stamped = there.is; stamp = same; place = rw (n, after) refl; opening = rw n refl; closing = rw n refl }

  head_there : (o c : ℕ) → Stands s 5 charge_kind (bytes2 o ++ bytes2 c) → both_zero o c ≡ false → HeadFound s t o c
  head_there o c w e =
      let u = held s 5 charge_kind o c w in
      let y : has_charges s ≡ true = rw (after, u.is, u.first, u.second, e) refl in
      record {
        stamped = there.is;
        stamp = same;
        place = rw (y, e, after, w.kind) refl;
        opening = rw (y, after) u.first;
        closing = rw (y, after) u.second;
      }

both_zero_lem : (o c : ℕ) → both_zero o c ≡ true → (o ≡ 0) × (c ≡ 0)
both_zero_lem o c e = go (eqb o 0) refl e
  where
    go : (t : Bool) → eqb o 0 ≡ t → (t && eqb c 0) ≡ true → (o ≡ 0) × (c ≡ 0)
    go true q w = (eqb-true _ _ q, eqb-true _ _ w)
    go false q w = let z : ◌≡◌ {A = ℕ} 0 1 = cc in absurd (omega arith)

-- a head that is written is found, where no charges follow it
head_found : (t : Stamp) (o c x : ℕ) (rest : List ℕ) → (x ≡ charge_kind → ⊥) → HeadFound (head_of t o c ++ (x ∷ rest)) t o c
head_found t o c x rest h = go (both_zero o c) refl
  where
    front : (l : List ℕ) → Stands (stamp_record t ++ l) 0 stamp_kind (bytes2 t.station ++ bytes2 t.date)
    front l = stands [] stamp_kind (bytes2 t.station ++ bytes2 t.date) l refl

    go : (b : Bool) → both_zero o c ≡ b → HeadFound (head_of t o c ++ (x ∷ rest)) t o c
    go true q = let z = both_zero_lem o c q in rw (z.0, z.1) (head_absent (stamp_record t ++ (x ∷ rest)) t (front (x ∷ rest)) h)
    go false q =
        let charges = charge_kind ∷ bytes2 o ++ bytes2 c in
        let here = stands (stamp_record t) charge_kind (bytes2 o ++ bytes2 c) (x ∷ rest) refl in
        rw q (head_there (stamp_record t ++ (charges ++ (x ∷ rest))) t (front (charges ++ (x ∷ rest))) o c here q)

records_rest : (d : Day) (n k : ℕ) → k < n → (rest : List ℕ) × (records_of d n ≡ records_of d k ++ (record_of d k ++ rest))
records_rest d zero k l = absurd (omega arith)
records_rest d (suc n) k l =
    ⊎_elim
    (λ (e : k ≡ n). ([], rw e (ap (λ (r : List ℕ). records_of d n ++ r) (sym (append-nil (record_of d n))))))
    (λ lt. let w = records_rest d n k lt in (w.0 ++ record_of d n, rw w.1 (simp append_assoc)))
    (eq-or-lt_of_le (le_of_suc-le-suc l))

-- the parts of a file in two groupings
regroup : (h a b r e : List ℕ) → h ++ ((a ++ (b ++ r)) ++ e) ≡ (h ++ a) ++ (b ++ (r ++ e))
regroup h a b r e = simp append_assoc

-- the body of record k is as long as its kind says
abbrev fields_at : Day → ℕ → List ℕ
fields_at d k = fields_of (at d.demand k) (at d.capacity k) (at d.setup k) (at d.unit k) (at d.holding k)

abbrev period_body : Day → ℕ → List ℕ
period_body d k = fields_at d k ++ limit_of (at d.store k)

body_fits : (d : Day) (k : ℕ) → length (period_body d k) ≡ body_length (kind_of (at d.store k))
body_fits d k = go (ltb (at d.store k) max_store)
  where
    go : (b : Bool) → length (fields_at d k ++ cond b (bytes2 (at d.store k)) []) ≡ body_length (cond b store_kind period_kind)
    go true = refl
    go false = refl

-- record k with its store limit in any case: it begins with the record, which leaves a limit of 65,535 out
abbrev pub long_record : Day → ℕ → List ℕ
long_record d k = kind_of (at d.store k) ∷ fields_at d k ++ bytes2 (at d.store k)

pub record_front : (d : Day) (k : ℕ) → take (17 + length (limit_of (at d.store k))) (long_record d k) ≡ record_of d k
record_front d k = go (ltb (at d.store k) max_store)
  where
    limit : List ℕ
    limit = bytes2 (at d.store k)

    go : (b : Bool) → take (17 + length (cond b limit [])) (cond b store_kind period_kind ∷ fields_at d k ++ limit)
        ≡ cond b store_kind period_kind ∷ fields_at d k ++ cond b limit []
    go true = refl
    go false = refl

pub records_length : (d : Day) (k : ℕ) → length (records_of d k) ≡ record_bytes (at d.store) k
records_length d zero = refl
records_length d (suc k) = rw length-append (omega (arith, records_length d k))

module _ (t : Stamp) (d : Day) where
  abbrev file : List ℕ
  file = file_of t d

  abbrev before : ℕ → List ℕ
  before k = up_to t d k

  before_length : (k : ℕ) → length (before k) ≡ length (head_of t d.opening d.closing) + record_bytes (at d.store) k
  before_length k = rw (length-append (head_of t d.opening d.closing) (records_of d k), records_length) refl

  pub file_length : length file ≡ 5 + length (charges_of d.opening d.closing) + record_bytes (at d.store) (periods d) + 3
  file_length =
      let end = end_kind ∷ bytes2 (periods d) in
      let records = records_of d (periods d) in
      rw (length-append (head_of t d.opening d.closing) (records ++ end), length-append records end, records_length) (omega arith)

  -- what follows k records
  from : (k : ℕ) → k < periods d → (rest : List ℕ) × (file ≡ before k ++ (record_of d k ++ rest))
  from k l =
      let w = records_rest d (periods d) k l in
      let end = end_kind ∷ bytes2 (periods d) in
      (w.0 ++ end, rw w.1 (regroup (head_of t d.opening d.closing) (records_of d k) (record_of d k) w.0 end))

  placed : (k : ℕ) → k < periods d → Stands file (length (before k)) (kind_of (at d.store k)) (period_body d k)
  placed k l = let w = from k l in rw w.1 (stands (before k) (kind_of (at d.store k)) (period_body d k) w.0 (body_fits d k))

  end_placed : Stands file (length (before (periods d))) end_kind (bytes2 (periods d))
  end_placed = rw (← append_assoc) (stands (before (periods d)) end_kind (bytes2 (periods d)) [] refl)

  -- after the head a period record or the end record follows
  after_head : (x : ℕ) × (rest : List ℕ) × (file ≡ head_of t d.opening d.closing ++ (x ∷ rest)) × (x ≡ charge_kind → ⊥)
  after_head =
      let z : 0 ≤ periods d = omega arith in
      let head = head_of t d.opening d.closing in
      let n = periods d in
      ⊎_elim
      (λ (e : 0 ≡ n). (end_kind, bytes2 n, ap (λ (k : ℕ). head ++ (records_of d k ++ end_kind ∷ bytes2 n)) (sym e), λ q. omega arith))
      (λ l.
      let w = from 0 l in
      let next : file ≡ head ++ (record_of d 0 ++ w.0) = w.1 ∙ ap (λ (h : List ℕ). h ++ (record_of d 0 ++ w.0)) (append-nil head) in
      (kind_of (at d.store 0), period_body d 0 ++ w.0, next, kind (ltb (at d.store 0) max_store)))
      (eq-or-lt_of_le z)
    where
      kind : (b : Bool) → cond b store_kind period_kind ≡ charge_kind → ⊥
      kind true q = omega arith
      kind false q = omega arith

  head_of_file : HeadFound file t d.opening d.closing
  head_of_file = let w = after_head in rw w.2 (head_found t d.opening d.closing w.0 w.1 w.3)

  -- the file has the stamp
  pub file_stamp : (is_stamped file ≡ true) × (stamp_in file ≡ t)
  file_stamp = (head_of_file.stamped, head_of_file.stamp)

  record_place : (k : ℕ) → k ≤ periods d → record_at file k ≡ length (before k)
  record_place zero l = head_of_file.place ∙ sym (ap length (append-nil (head_of t d.opening d.closing)))
  record_place (suc k) l =
      rw (record_place k (omega arith), (placed k l).kind) (omega (arith, body_fits d k, before_length k, before_length (suc k)))

  -- record i is a period's, by its kind
  period_placed : (i : ℕ) → i < periods d → PeriodAt file (length (before i))
  period_placed i l = go (ltb (at d.store i) max_store) refl (placed i l)
    where
      v : ℕ
      v = at d.store i

      go : (b : Bool) → ltb v max_store ≡ b → Stands file (length (before i)) (kind_of v) (period_body d i) → PeriodAt file (length (before i))
      go true q w =
          let limit : number2 (body file (length (before i))) 16 ≡ v = rw (w.holds, q) (div-add-mod' v 256) in
          inr (rw q at w.kind, rw limit (ltb-true v max_store q))
      go false q w = inl (rw q at w.kind)

  -- and is laid out as `Layout` says
  pub file_layout : Layout file (periods d)
  file_layout =
      let n = periods d in
      let here = record_place n (omega arith) in
      record {
        periods = λ i l. rw (record_place i (omega arith)) (period_placed i l);
        ends = rw here end_placed.kind;
        count = rw (here, end_placed.holds) (div-add-mod' n 256);
        size = rw (here, end_placed.kind) (omega (arith, file_length, before_length n));
      }

-- four bytes hold their number
bytes4_back : (v : ℕ) → number4 (bytes4 v) 0 ≡ v
bytes4_back v = rw (div-add-mod' (v / 65536) 256, div-add-mod' (v % 65536) 256) (div-add-mod' v 65536)

-- and holds the day, whose store limits are of 16 bits
pub reads_back : (t : Stamp) (d : Day) → SameLengths d → ((k : ℕ) → k < periods d → at d.store k ≤ max_store) → day_in (file_of t d) ≡ d
reads_back t d w low =
    rw (
      (head_of_file t d).opening,
      (head_of_file t d).closing,
      table number2 0 d.demand refl (λ k. div-add-mod' (at d.demand k) 256),
      table number2 2 d.capacity w.capacity (λ k. div-add-mod' (at d.capacity k) 256),
      table number4 4 d.setup w.setup (λ k. bytes4_back (at d.setup k)),
      table number4 8 d.unit w.unit (λ k. bytes4_back (at d.unit k)),
      table number4 12 d.holding w.holding (λ k. bytes4_back (at d.holding k)),
      listed_as (store_in s) d.store w.store limit,
    )
    refl
  where
    s : List ℕ
    s = file_of t d

    listed_as : (f : ℕ → ℕ) (l : List ℕ) → length l ≡ periods d → ((k : ℕ) → k < periods d → f k ≡ at l k) → list_of f (periods_in s) ≡ l
    listed_as f l e h = rw (counted s (periods d) (file_layout t d)) (list_of-at (periods d) l f e h)

    table : (number : List ℕ → ℕ → ℕ) (offset : ℕ) (l : List ℕ) → length l ≡ periods d
        → ((k : ℕ) → number (period_body d k) offset ≡ at l k)
        → list_of (field number offset s) (periods_in s) ≡ l
    table number offset l e h =
        listed_as (field number offset s) l e (λ k lt. rw (record_place t d k (omega arith), (placed t d k lt).holds) (h k))

    limit : (k : ℕ) → k < periods d → store_in s k ≡ at d.store k
    limit k l = go (ltb v max_store) refl
      where
        v : ℕ
        v = at d.store k

        kind : at s (record_at s k) ≡ kind_of v
        kind = rw (record_place t d k (omega arith)) (placed t d k l).kind

        go : (b : Bool) → ltb v max_store ≡ b → store_in s k ≡ v
        go true q =
            let held : field number2 16 s k ≡ v = rw (record_place t d k (omega arith), (placed t d k l).holds, q) (div-add-mod' v 256) in
            store_there s k (rw q at kind) ∙ held
        go false q = store_none s k (rw q at kind) ∙ omega (arith, low k l, ltb-false v max_store q)
