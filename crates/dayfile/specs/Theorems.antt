-- What the lookup gives, from its contract (`Answers`) and the layout (the crate day's `File`):
--     lookup_hands_out        the part that a lookup hands out is where the layout has that period
--     place_holds             the figures of a lookup point there, and there the record's body stands
--     file_size               a file of n periods has 17 × n + 3 bytes, 5 more where there is a stamp, 5 more where there are charges, and 2 more for
--                             each store limit below 65,535
--     longest_file            with at most 96 periods it has at most 1,837 bytes
-- Assumes nothing.
use Rattle.std.specs.Prelude.{◌≡◌, refl, Bool, true, false, cond, List, [], ◌∷◌, ℕ, zero, suc, ◌+◌, ◌-◌, ◌*◌, ◌≤◌, ◌<◌, ltb, length, take, drop, None, Ok}
use Rattle.std.proofs.Common.{ap₂, ◌∙◌, ⊎_elim, arith, get_or-take, get_or-drop, lt-ltb}
use Rattle.std.specs.Borrow.{Bor}
use Rattle.day.specs.Sums.{at, sum_to}
use Rattle.day.specs.Day.{max_periods, max_store}
use Rattle.day.specs.Figures.{accepted_with}
use Rattle.day.specs.File.{stamp_kind, body, body_length, next, is_stamped, charges_at, has_charges, head_end, record_at, Layout, periods_in, store_in}
use Rattle.day.specs.File.{bytes2, limit_of}
use Rattle.dayfile.specs.Answers.{bad_lookup, Lookup, lookup_figures}
use Rattle.dayfile.specs.Passed.{lookup_passed}
use Rattle.dayfile.specs.Layout.{whole_record, whole_charges, body_whole, period_at, store_none, store_there, counted}

-- the head has 5 bytes for a stamp, where there is one, and 5 for charges
abbrev pub head_size : List ℕ → ℕ
head_size s = cond (is_stamped s) 5 0 + cond (has_charges s) 5 0

stamp_size : (s : List ℕ) → charges_at s ≡ cond (is_stamped s) 5 0
stamp_size s = go (is_stamped s) refl
  where
    go : (b : Bool) → is_stamped s ≡ b → cond b (next s 0) 0 ≡ cond b 5 0
    go true q = rw (whole_record stamp_kind s 0 q).kind refl
    go false q = refl

head_size_lem : (s : List ℕ) → head_end s ≡ head_size s
head_size_lem s = go (has_charges s) refl
  where
    go : (b : Bool) → has_charges s ≡ b → cond b (next s (charges_at s)) (charges_at s) ≡ cond (is_stamped s) 5 0 + cond b 5 0
    go true q = rw (whole_charges s (charges_at s) q).here.kind (omega (arith, stamp_size s))
    go false q = omega (arith, stamp_size s)

-- the bytes of k period records with these store limits: 17 each, and 2 more where the limit is below 65,535
abbrev pub record_bytes : (ℕ → ℕ) → ℕ → ℕ
record_bytes store k = sum_to (λ j. 17 + length (limit_of (store j))) k

pub most_bytes : (store : ℕ → ℕ) (k : ℕ) → record_bytes store k ≤ 19 * k
most_bytes store zero = omega arith
most_bytes store (suc k) = omega (arith, most_bytes store k, most (ltb (store k) max_store))
  where
    most : (b : Bool) → length (cond b (bytes2 (store k)) []) ≤ 2
    most true = omega arith
    most false = omega arith

-- the body of period k + 1 has 16 bytes, and those of its store limit
period_size : (s : List ℕ) (k : ℕ) → k < periods_in s → body_length (at s (record_at s k)) ≡ 16 + length (limit_of (store_in s k))
period_size s k l =
    ⊎_elim
    (λ e. rw (store_none s k e, e) refl)
    (λ e. rw (store_there s k e.0, lt-ltb _ _ e.1, e.0) refl)
    (period_at s k l).kind

record_place : (s : List ℕ) (k : ℕ) → k ≤ periods_in s → record_at s k ≡ head_size s + record_bytes (store_in s) k
record_place s zero l = omega (arith, head_size_lem s)
record_place s (suc k) l = omega (arith, period_size s k l, record_place s k (omega arith))

-- where the body of period i begins: after the head, the records of the earlier periods, and its kind
abbrev pub body_start : List ℕ → ℕ → ℕ
body_start s i = head_size s + record_bytes (store_in s) (i - 1) + 1

-- how many bytes it has: 16, and 2 more where its store limit is below 65,535
abbrev pub body_size : List ℕ → ℕ → ℕ
body_size s i = 16 + length (limit_of (store_in s (i - 1)))

-- the part that a lookup of period i hands out: so many bytes, those from there on, in the file's own memory
pub record Handed (file : Bor (List ℕ)) (i : ℕ) (r : Bor (List ℕ)) : Type 0 where
  pub size : length r.now ≡ body_size file.now i
  pub bytes : (j : ℕ) → j < body_size file.now i → at r.now j ≡ at file.now (body_start file.now i + j)
  pub block : r.ref_ptr.0 ≡ file.ref_ptr.0
  pub offset : r.ref_ptr.1 ≡ file.ref_ptr.1 + body_start file.now i

pub lookup_hands_out : (file : Bor (List ℕ)) (i : ℕ) (r : Bor (List ℕ)) → Lookup file i (Ok r) → Handed file i r
lookup_hands_out file i r w =
    let b = w.1 in
    let l = lookup_passed file.now i w.0 in
    let s = file.now in
    let k = i - 1 in
    let p = record_place s k (omega arith) in
    let size = period_size s k (omega arith) in
    let long = body_length (at s (record_at s k)) in
    record {
      size = rw b.bytes (body_whole s (record_at s k) (period_at s k (omega arith)).whole ∙ size);
      bytes = λ j lt. rw (b.bytes, get_or-take long (drop (record_at s k + 1) s) j 0 (omega arith), get_or-drop, p) refl;
      block = b.block;
      offset = rw p at b.offset;
    }

pub place_holds : (s : List ℕ) (i : ℕ) → bad_lookup s i ≡ None
    → (lookup_figures s i ≡ accepted_with (body_start s i ∷ body_size s i ∷ []))
    × (take (body_size s i) (drop (body_start s i) s) ≡ body s (record_at s (i - 1)))
place_holds s i e =
    let l = lookup_passed s i e in
    let k = i - 1 in
    let size = period_size s k (omega arith) in
    let p = record_place s k (omega arith) in
    (rw e (ap₂ (λ (a b : ℕ). accepted_with ((a + 1) ∷ b ∷ [])) p size), rw (← size, ← p) refl)

pub file_size : (s : List ℕ) (n : ℕ) → Layout s n → length s ≡ head_size s + record_bytes (store_in s) n + 3
file_size s n w =
    let here = record_place s n (omega (arith, counted s n w)) in
    let kind : body_length (at s (record_at s n)) ≡ 2 = rw w.ends refl in
    omega (arith, w.size)

pub longest_file : (s : List ℕ) (n : ℕ) → Layout s n → n ≤ max_periods → length s ≤ 1837
longest_file s n w l = omega (arith, file_size s n w, most_bytes (store_in s) n, most (is_stamped s), most (has_charges s))
  where
    most : (b : Bool) → cond b 5 0 ≤ 5
    most true = omega arith
    most false = omega arith
