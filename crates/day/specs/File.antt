-- The day file: its layout, the day that it holds and whom that is for, the one file of such a
-- day, and conditions 10 to 13 and 20.
-- A record is one byte of kind and a body whose length the kind fixes; numbers are unsigned, most significant byte first:
--     kind 1  a period (16 bytes)
--     kind 2  the end (2 bytes)
--     kind 3  opening and closing charge (4 bytes)
--     kind 4  a period with its store limit, where that is below 65,535 (18 bytes)
--     kind 5  the stamp: station, and date in days since 1 January 2000 (4 bytes)
-- The head is kind 5 and then kind 3, each where it is there; the periods follow, then the end.
-- Main definitions: `Layout`, what a file is; `stamp_in` and `day_in`, the stamp and the day that it holds; `file_of`, the file of these. Assumes nothing.
use Rattle.std.specs.Prelude.{◌≡◌, ◌⊎◌, Bool, false, not, ◌&&◌, ◌||◌, cond, List, [], ◌∷◌, ◌++◌, ℕ, zero, suc, Option, None, Some}
use Rattle.std.specs.Prelude.{◌+◌, ◌*◌, ◌/◌, ◌%◌, ◌<◌, eqb, leb, ltb, length, take, drop}
use Rattle.day.specs.declared.Refusal.{Refusal}
use Rattle.day.specs.declared.Refusal.TheVariants.{UnknownKind, TruncatedFile, WrongEnd, NoSuchPeriod, WrongStamp}
use Rattle.day.specs.declared.Stamp.{Stamp}
use Rattle.day.specs.Sums.{at, list_of}
use Rattle.day.specs.Find.{find}
use Rattle.day.specs.Day.{Day, periods, max_store}
use Rattle.day.specs.Refusals.{refuse, first}

-- the kinds
abbrev pub period_kind : ℕ
period_kind = 1

abbrev pub end_kind : ℕ
end_kind = 2

abbrev pub charge_kind : ℕ
charge_kind = 3

abbrev pub store_kind : ℕ
store_kind = 4

abbrev pub stamp_kind : ℕ
stamp_kind = 5

abbrev pub is_kind : ℕ → Bool
is_kind kind = eqb kind period_kind || eqb kind end_kind || eqb kind charge_kind || eqb kind store_kind || eqb kind stamp_kind

-- how long a body the kind fixes; an unknown kind has none
abbrev pub body_length : ℕ → ℕ
body_length kind =
    cond (eqb kind period_kind) 16 (
    cond (eqb kind end_kind) 2 (cond (eqb kind charge_kind) 4 (cond (eqb kind store_kind) 18 (cond (eqb kind stamp_kind) 4 0)))
    )

-- the record that begins at byte p: its body, and where the record after it begins
abbrev pub body : List ℕ → ℕ → List ℕ
body s p = take (body_length (at s p)) (drop (p + 1) s)

abbrev pub next : List ℕ → ℕ → ℕ
next s p = p + 1 + body_length (at s p)

-- the numbers of 2 and 4 bytes that stand at a place of a body
abbrev pub number2 : List ℕ → ℕ → ℕ
number2 b p = at b p * 256 + at b (p + 1)

abbrev pub number4 : List ℕ → ℕ → ℕ
number4 b p = number2 b p * 65536 + number2 b (p + 2)

-- a whole record of a kind begins at byte p
abbrev pub is_record : ℕ → List ℕ → ℕ → Bool
is_record kind s p = eqb (at s p) kind && leb (next s p) (length s)

-- a whole period record, with no store limit or with one that limits
abbrev pub is_period : List ℕ → ℕ → Bool
is_period s p = is_record period_kind s p || (is_record store_kind s p && ltb (number2 (body s p) 16) max_store)

-- A and Z are both 0: then no record holds them
abbrev pub both_zero : (opening closing : ℕ) → Bool
both_zero opening closing = eqb opening 0 && eqb closing 0

-- a whole record of charges, not both 0
abbrev pub is_charges : List ℕ → ℕ → Bool
is_charges s p = is_record charge_kind s p && not (both_zero (number2 (body s p) 0) (number2 (body s p) 2))

-- a file with a stamp (operators say: the pair): a whole record of it stands first
abbrev pub is_stamped : List ℕ → Bool
is_stamped s = is_record stamp_kind s 0

-- where charges may stand: after the stamp, or first where there is none
abbrev pub charges_at : List ℕ → ℕ
charges_at s = cond (is_stamped s) (next s 0) 0

-- whether there are some
abbrev pub has_charges : List ℕ → Bool
has_charges s = is_charges s (charges_at s)

-- where the head ends: past them
abbrev pub head_end : List ℕ → ℕ
head_end s = cond (has_charges s) (next s (charges_at s)) (charges_at s)

-- where record i after the head begins, counted from 0
abbrev pub record_at : List ℕ → ℕ → ℕ
record_at s zero = head_end s
record_at s (suc i) = next s (record_at s i)

-- the record at byte p is a period's: of kind 1, or of kind 4 with a limit below 65,535
abbrev pub PeriodAt : List ℕ → ℕ → Type 0
PeriodAt s p = (at s p ≡ period_kind) ⊎ ((at s p ≡ store_kind) × (number2 (body s p) 16 < max_store))

-- a file of n periods: the head, n period records, then one end record, which holds n, and no byte more
pub record Layout (s : List ℕ) (n : ℕ) : Type 0 where
  pub periods : (i : ℕ) → i < n → PeriodAt s (record_at s i)
  pub ends : at s (record_at s n) ≡ end_kind
  pub count : number2 (body s (record_at s n)) 0 ≡ n
  pub size : length s ≡ record_at s (suc n)

-- how many period records follow the head: where the first record stands that is none. There is one among so many, since each has a byte
abbrev pub or_zero : Option ℕ → ℕ
or_zero None = 0
or_zero (Some k) = k

abbrev pub periods_in : List ℕ → ℕ
periods_in s = or_zero (find (λ i. not (is_period s (record_at s i))) (suc (length s)))

-- The tests of the record at byte p, where the walk stops, after n period records.
-- 10: its kind is none of these
abbrev pub unknown_kind : List ℕ → ℕ → Option Refusal
unknown_kind s p = refuse (ltb p (length s) && not (is_kind (at s p))) UnknownKind

-- 12, at its kind byte: a stamp that doesn't stand first, or charges that don't stand where they may
abbrev pub is_misplaced : (kind p charges : ℕ) → Bool
is_misplaced kind p charges = (eqb kind stamp_kind && not (eqb p 0)) || (eqb kind charge_kind && not (eqb p charges))

abbrev pub misplaced : List ℕ → ℕ → Option Refusal
misplaced s p = refuse (is_misplaced (at s p) p (charges_at s)) WrongEnd

-- 11: the file ends inside the record, or before it
abbrev pub truncated : List ℕ → ℕ → Option Refusal
truncated s p = refuse (ltb (length s) (next s p)) TruncatedFile

-- 12, after its body: it is no end record (charges that are both 0, a store limit of 65,535), bytes follow it, or the count that it holds is not n
abbrev pub wrong_end : List ℕ → (p n : ℕ) → Option Refusal
wrong_end s p n =
    refuse (not (eqb (at s p) end_kind) || not (eqb (length s) (next s p)) || not (eqb (number2 (body s p) 0) n)) WrongEnd

abbrev pub bad_end : List ℕ → (p n : ℕ) → Option Refusal
bad_end s p n = first (unknown_kind s p ∷ misplaced s p ∷ truncated s p ∷ wrong_end s p n ∷ [])

-- the walk from front to back: past the head and the period records, to what is to be the end record
abbrev pub walk : List ℕ → Option Refusal
walk s = bad_end s (record_at s (periods_in s)) (periods_in s)

-- the stamp of two numbers; that of a body of kind 5; that of a file, where it has one
abbrev pub stamp_with : (station date : ℕ) → Stamp
stamp_with station date = record { station = station; date = date }

abbrev pub stamp_of : List ℕ → Stamp
stamp_of b = stamp_with (number2 b 0) (number2 b 2)

abbrev pub stamp_in : List ℕ → Stamp
stamp_in s = stamp_of (body s 0)

-- 20: the file has no stamp, or not the expected one; where nothing is expected no file has it
abbrev pub same_stamp : Stamp → Stamp → Bool
same_stamp t u = eqb t.station u.station && eqb t.date u.date

abbrev pub has_stamp : Stamp → List ℕ → Bool
has_stamp t s = is_stamped s && same_stamp (stamp_in s) t

abbrev pub is_expected : Option Stamp → List ℕ → Bool
is_expected None s = false
is_expected (Some t) s = has_stamp t s

abbrev pub wrong_stamp : Option Stamp → List ℕ → Option Refusal
wrong_stamp expected s = refuse (not (is_expected expected s)) WrongStamp

-- 13: the asked-for period is 0 or above n
abbrev pub no_such_period : (n i : ℕ) → Option Refusal
no_such_period n i = refuse (eqb i 0 || ltb n i) NoSuchPeriod

-- the day that a file holds: A and Z in the head, both 0 where it has none; r, c, b, p, h at their places in the bodies, and after them s in those of
-- kind 4, 65,535 in the others
abbrev pub charge_in : ℕ → List ℕ → ℕ
charge_in offset s = cond (has_charges s) (number2 (body s (charges_at s)) offset) 0

abbrev pub field : (List ℕ → ℕ → ℕ) → ℕ → List ℕ → ℕ → ℕ
field number offset s k = number (body s (record_at s k)) offset

abbrev pub limit_in : (kind : ℕ) → List ℕ → ℕ
limit_in kind b = cond (eqb kind store_kind) (number2 b 16) max_store

abbrev pub store_in : List ℕ → ℕ → ℕ
store_in s k = limit_in (at s (record_at s k)) (body s (record_at s k))

abbrev pub day_in : List ℕ → Day
day_in s = record {
  demand = list_of (field number2 0 s) (periods_in s);
  capacity = list_of (field number2 2 s) (periods_in s);
  setup = list_of (field number4 4 s) (periods_in s);
  unit = list_of (field number4 8 s) (periods_in s);
  holding = list_of (field number4 12 s) (periods_in s);
  store = list_of (store_in s) (periods_in s);
  opening = charge_in 0 s;
  closing = charge_in 2 s;
}

-- the bytes of numbers; the head: its stamp, then charges, where they are not both 0; a period's body and record; the file of a stamp and a day: the
-- head, the period records, the end record
abbrev pub bytes2 : ℕ → List ℕ
bytes2 v = v / 256 ∷ v % 256 ∷ []

abbrev pub bytes4 : ℕ → List ℕ
bytes4 v = bytes2 (v / 65536) ++ bytes2 (v % 65536)

abbrev pub stamp_record : Stamp → List ℕ
stamp_record t = stamp_kind ∷ bytes2 t.station ++ bytes2 t.date

abbrev pub charges_of : (opening closing : ℕ) → List ℕ
charges_of opening closing = cond (both_zero opening closing) [] (charge_kind ∷ bytes2 opening ++ bytes2 closing)

abbrev pub head_of : Stamp → (opening closing : ℕ) → List ℕ
head_of t opening closing = stamp_record t ++ charges_of opening closing

abbrev pub fields_of : (demand capacity setup unit holding : ℕ) → List ℕ
fields_of demand capacity setup unit holding = bytes2 demand ++ bytes2 capacity ++ bytes4 setup ++ bytes4 unit ++ bytes4 holding

-- the kind of a period's record, and what it adds to the body, by the store limit
abbrev pub kind_of : ℕ → ℕ
kind_of store = cond (ltb store max_store) store_kind period_kind

abbrev pub limit_of : ℕ → List ℕ
limit_of store = cond (ltb store max_store) (bytes2 store) []

abbrev pub record_of : Day → ℕ → List ℕ
record_of d k =
    kind_of (at d.store k)
    ∷ fields_of (at d.demand k) (at d.capacity k) (at d.setup k) (at d.unit k) (at d.holding k) ++ limit_of (at d.store k)

-- the first k period records
abbrev pub records_of : Day → ℕ → List ℕ
records_of d zero = []
records_of d (suc k) = records_of d k ++ record_of d k

abbrev pub file_of : Stamp → Day → List ℕ
file_of t d = head_of t d.opening d.closing ++ (records_of d (periods d) ++ end_kind ∷ bytes2 (periods d))
