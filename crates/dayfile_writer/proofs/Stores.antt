-- Laws of `sets l i vs`, the list l with vs stored from index i on, and of the stores that make a file. Assumes nothing.
use Rattle.std.specs.Prelude.{◌≡◌, refl, List, [], ◌∷◌, ◌++◌, ℕ, zero, suc, ◌+◌, ◌-◌, ◌≤◌, length, take, drop, set}
use borrow.Rule.Slice.PartMut.{put_mid}
use Rattle.std.specs.List.{sum_by}
use Rattle.std.proofs.Common.{◌∙◌, append_assoc, arith, add-one, drop-drop, length-drop, append-nil, take_all, sum, map}
use Rattle.std.proofs.lemmas.List.{drop_all}
use Rattle.std.proofs.lemmas.List.Sums.{sum-map, sum_by_more}
use Rattle.std.proofs.lemmas.List.Edits.{sets, sets-eq}
use Rattle.day.specs.Sums.{at}
use Rattle.day.specs.Day.{Day, periods, entries_at}
use Rattle.day.specs.declared.Entries.{Entries}
use Rattle.day.specs.declared.Stamp.{Stamp}
use Rattle.day.specs.File.{end_kind, bytes2, head_of, fields_of, kind_of, limit_of, record_of, records_of, file_of}
use Rattle.dayfile.specs.Answers.{with_file}
use Rattle.dayfile.specs.Theorems.{record_bytes}
use Rattle.dayfile_writer.specs.RoundTrip.{record_front, records_length}

-- one run after another
pub sets_then : (a b l : List ℕ) (i j : ℕ) → j ≡ i + length a → sets (sets l i a) j b ≡ sets l i (a ++ b)
sets_then [] b l i j e = let z : j ≡ i = omega arith in rw z refl
sets_then (x ∷ a) b l i j e = sets_then a b (set l i x) (suc i) j (omega arith)

-- a run from the front
pub sets_front : (vs l : List ℕ) → length vs ≤ length l → sets l 0 vs ≡ vs ++ drop (length vs) l
sets_front vs l h = let e : 0 + length vs ≡ length vs = omega arith in rw e at (sets-eq vs l 0 (omega arith))

-- a run that is stored at the front of what stands behind i others is stored at i
pub stored_behind : (out vs part : List ℕ) (i : ℕ) → i + length vs ≤ length out → part ≡ sets (take (length out - i) (drop i out)) 0 vs
    → put_mid i (length out - i) out part ≡ sets out i vs
stored_behind out vs part i h e =
    let room : length vs ≤ length (drop i out) = rw (length-drop i out) (omega arith) in
    let whole : take (length out - i) (drop i out) ≡ drop i out = take_all (length out - i) (drop i out) (rw (length-drop i out) (omega arith)) in
    let none : drop (length out - i) (drop i out) ≡ [] = drop_all (length out - i) (drop i out) (rw (length-drop i out) (omega arith)) in
    rw (e, whole, sets_front vs (drop i out) room, sets-eq vs out i h, none, append-nil, append_assoc, drop-drop) refl

-- the sum of the records' sizes, of the first k and of all
abbrev size : ℕ → ℕ
size store = 17 + length (limit_of store)

sizes_to : (store : List ℕ) (k : ℕ) → k ≤ length store → sum_by size (take k store) ≡ record_bytes (at store) k
sizes_to store zero l = refl
sizes_to store (suc k) l =
    rw (← add-one k, sum_by_more size store k 0 (omega arith), sizes_to store k (omega arith)) refl

pub sizes_summed : (store : List ℕ) → sum (map (λ s. 17 + length (limit_of s)) store) ≡ record_bytes (at store) (length store)
sizes_summed store =
    let all : take (length store) store ≡ store = take_all (length store) store (omega arith) in
    let summed = rw all at (sizes_to store (length store) (omega arith)) in
    sum-map size store ∙ summed

-- the part of a long record that is the record
pub record_part : (d : Day) (k : ℕ) {p : Entries} {size : ℕ} {bytes : List ℕ}
    → p ≡ entries_at d k → size ≡ 17 + length (limit_of p.store)
    → bytes ≡ kind_of p.store ∷ fields_of p.demand p.capacity p.setup p.unit p.holding ++ bytes2 p.store
    → take size bytes ≡ record_of d k
record_part d k is e r = rw (e, r, is) (record_front d k)

-- a turn of the loop that stores the records
pub record_stored : (d : Day) (l : List ℕ) (first k : ℕ) {out part after : List ℕ} {place : ℕ}
    → place ≡ first + record_bytes (at d.store) k → out ≡ sets l first (records_of d k) → part ≡ record_of d k → after ≡ sets out place part
    → after ≡ sets l first (records_of d (suc k))
record_stored d l first k {place = place} here before p e =
    e ∙ rw (before, p) (sets_then (records_of d k) (record_of d k) l first place (omega (arith, here, records_length d k)))

-- the head, the period records, and then the end record, make the file
module _ (t : Stamp) (d : Day) (out : List ℕ) where
  abbrev head : List ℕ
  head = head_of t d.opening d.closing

  pub file_stored : (first mid after : List ℕ) {place last : ℕ} {end : List ℕ}
      → length (file_of t d) ≤ length out → place ≡ length head → first ≡ sets out 0 head
      → last ≡ place + record_bytes (at d.store) (periods d) → mid ≡ sets first place (records_of d (periods d))
      → end ≡ end_kind ∷ bytes2 (periods d) → after ≡ sets mid last end
      → after ≡ with_file t d out
  file_stored first mid after {last = last} room here h to r l e =
      let n = periods d in
      let records : mid ≡ sets first (length head) (records_of d n) = r ∙ rw here refl in
      let end-at : after ≡ sets mid last (end_kind ∷ bytes2 n) = e ∙ rw l refl in
      let body = sets_then (records_of d n) (end_kind ∷ bytes2 n) first (length head) last (omega (arith, here, to, records_length d n)) in
      let whole = sets_then head (records_of d n ++ end_kind ∷ bytes2 n) out 0 (length head) (omega arith) in
      let from-head : after ≡ sets first (length head) (records_of d n ++ end_kind ∷ bytes2 n) = end-at ∙ rw records body in
      let from_front : after ≡ sets out 0 (file_of t d) = from-head ∙ rw h whole in
      from_front ∙ sets_front (file_of t d) out room
