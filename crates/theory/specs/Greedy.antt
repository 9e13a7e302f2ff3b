-- The greedy rule (report, section 4) as a loop computes it: the needs in turn, each in batches from the period that is best for it.
-- Index k is period k + 1; `d` counts the periods that may serve, so that a need of period k is served by the first d = k + 1.
-- The amounts so far are cells of a lent list; cells past the periods stay as they are.
-- Main definitions: `key_of`, `Source`, `serve`, `greedy_to`. Laws for a loop: `serve_done`, `serve_turn`, `serve_stuck`. Assumes nothing.
use Rattle.std.specs.Prelude.{◌≡◌, List, set, Option, None, Some}
use Rattle.std.proofs.Math.Path.{refl, ap}
use Rattle.std.proofs.Common.{sym, ◌∙◌, arith}
use Prim.Native.Nat.{ℕ, zero, suc, ◌+◌, ◌-◌, ◌≤◌, ◌<◌, min}
use Rattle.std.proofs.Math.Decide.{dec_lt}
use Rattle.day.specs.Sums.{at, sum_to, below}
use Rattle.theory.specs.Basics.{pick}

-- what a unit made in period k costs: to make it, and to hold it from then to the end
abbrev pub key_of : (unit holding : ℕ → ℕ) → ℕ → ℕ → ℕ
key_of unit holding n k = unit k + (sum_to holding n - sum_to holding k)

-- goes on only with what was found
abbrev pub after : {A B : Type 0} → Option A → (A → Option B) → Option B
after None f = None
after (Some a) f = f a

-- Which period serves: of the first d with capacity left beside the amounts x, the one of least key, the earliest of equals.
abbrev prefer : (ℕ → ℕ) → ℕ → Option ℕ → Option ℕ
prefer key k None = Some k
prefer key k (Some j) = Some (pick (dec_lt (key k) (key j)) k j)

abbrev offer : {A : Type 0} → Dec A → (ℕ → ℕ) → ℕ → Option ℕ → Option ℕ
offer (yes _) key k o = prefer key k o
offer (no _) key k o = o

abbrev pub source : (key capacity x : ℕ → ℕ) → ℕ → Option ℕ
source key capacity x zero = None
source key capacity x (suc d) = offer (dec_lt (x d) (capacity d)) key d (source key capacity x d)

-- what period k takes of w units at once
abbrev pub batch : (ℕ → ℕ) → List ℕ → ℕ → ℕ → ℕ
batch capacity g k w = min w (capacity k - at g k)

-- w units from the first d periods, in at most `turns` batches
abbrev serve_in : (key capacity : ℕ → ℕ) → ℕ → ℕ → ℕ → List ℕ → Option (List ℕ)
serve_in key capacity d zero w g = Some g
serve_in key capacity d (suc turns) zero g = Some g
serve_in key capacity d (suc turns) (suc w) g =
    after (source key capacity (at g) d)
    (λ k. serve_in key capacity d turns (suc w - batch capacity g k (suc w)) (set g k (batch capacity g k (suc w) + at g k)))

-- w units from the first d periods; nothing where there is no capacity for all
unfoldable pub serve : (key capacity : ℕ → ℕ) → ℕ → ℕ → List ℕ → Option (List ℕ)
serve key capacity d w g = serve_in key capacity d w w g

-- the needs of the first d periods
abbrev pub greedy_to : (key capacity need : ℕ → ℕ) → ℕ → List ℕ → Option (List ℕ)
greedy_to key capacity need zero g = Some g
greedy_to key capacity need (suc d) g = after (greedy_to key capacity need d g) (serve key capacity (suc d) (need d))

-- what `source` finds
pub record Source (key capacity x : ℕ → ℕ) (d k : ℕ) : Type 0 where
  pub inside : k < d
  pub room : x k < capacity k
  pub cheap : (j : ℕ) → j < d → x j < capacity j → key k ≤ key j
  pub early : (j : ℕ) → j < k → x j < capacity j → key k < key j

-- or else no period has capacity left
abbrev pub Sources : (key capacity x : ℕ → ℕ) → ℕ → Option ℕ → Type 0
Sources key capacity x d None = (j : ℕ) → j < d → capacity j ≤ x j
Sources key capacity x d (Some k) = Source key capacity x d k

-- One period more: what was found before it stands, or is bettered.
module _ (key capacity x : ℕ → ℕ) (d : ℕ) where
  -- it has no capacity left
  pub passed_over : (j : ℕ) → capacity d ≤ x d → Source key capacity x d j → Source key capacity x (suc d) j
  passed_over j full s =
      record {
        inside = omega (arith, s.inside);
        room = s.room;
        cheap = below (λ (i : ℕ). x i < capacity i → key j ≤ key i) d s.cheap (λ q. absurd (omega arith));
        early = s.early;
      }

  -- it is no cheaper
  pub no_cheaper : (j : ℕ) → key j ≤ key d → Source key capacity x d j → Source key capacity x (suc d) j
  no_cheaper j h s =
      record {
        inside = omega (arith, s.inside);
        room = s.room;
        cheap = below (λ (i : ℕ). x i < capacity i → key j ≤ key i) d s.cheap (λ _. h);
        early = s.early;
      }

  -- it is cheaper than all before
  pub now_cheapest : x d < capacity d → ((i : ℕ) → i < d → x i < capacity i → key d < key i) → Source key capacity x (suc d) d
  now_cheapest r h =
      record {
        inside = omega arith;
        room = r;
        cheap = below (λ (i : ℕ). x i < capacity i → key d ≤ key i) d (λ i l q. omega (arith, h i l q)) (λ _. omega arith);
        early = h;
      }

module _ (key capacity x : ℕ → ℕ) where
  cheaper : (d j : ℕ) (t : Dec (key d < key j)) → x d < capacity d → Source key capacity x d j → Source key capacity x (suc d) (pick t d j)
  cheaper d j (yes h) r s = now_cheapest key capacity x d r (λ i l q. omega (arith, s.cheap i l q))
  cheaper d j (no h) r s = no_cheaper key capacity x d j (omega arith) s

  preferred : (d : ℕ) (o : Option ℕ) → x d < capacity d → Sources key capacity x d o → Sources key capacity x (suc d) (prefer key d o)
  preferred d None r s = now_cheapest key capacity x d r (λ i l q. absurd (omega (arith, s i l)))
  preferred d (Some j) r s = cheaper d j (dec_lt (key d) (key j)) r s

  offered : (d : ℕ) (t : Dec (x d < capacity d)) (o : Option ℕ) → Sources key capacity x d o → Sources key capacity x (suc d) (offer t key d o)
  offered d (yes h) o s = preferred d o h s
  offered d (no h) None s = below (λ (i : ℕ). capacity i ≤ x i) d s (omega arith)
  offered d (no h) (Some j) s = passed_over key capacity x d j (omega arith) s

  pub source_right : (d : ℕ) → Sources key capacity x d (source key capacity x d)
  source_right zero = λ j l. absurd (omega arith)
  source_right (suc d) = offered d (dec_lt (x d) (capacity d)) (source key capacity x d) (source_right d)

  -- there is one such, for code that finds it in its own way
  source_unique : (d i j : ℕ) → Source key capacity x d i → Source key capacity x d j → i ≡ j
  source_unique d i j p q = go (dec_lt i j) (dec_lt j i)
    where
      go : Dec (i < j) → Dec (j < i) → i ≡ j
      go (yes l) r = absurd (omega (arith, q.early i l p.room, p.cheap j q.inside q.room))
      go (no l) (yes r) = absurd (omega (arith, p.early j r q.room, q.cheap i p.inside p.room))
      go (no l) (no r) = omega arith

  source_is : (d k : ℕ) → Source key capacity x d k → source key capacity x d ≡ Some k
  source_is d k p = one (source key capacity x d) (source_right d)
    where
      one : (o : Option ℕ) → Sources key capacity x d o → o ≡ Some k
      one None s = absurd (omega (arith, s k p.inside, p.room))
      one (Some j) s = ap {B = Option ℕ} Some (source_unique d j k s p)

  pub source_none : (d : ℕ) → ((j : ℕ) → j < d → capacity j ≤ x j) → source key capacity x d ≡ None
  source_none d full = one (source key capacity x d) (source_right d)
    where
      one : (o : Option ℕ) → Sources key capacity x d o → o ≡ None
      one None s = refl
      one (Some j) s = absurd (omega (arith, full j s.inside, s.room))

module _ (key capacity : ℕ → ℕ) (d : ℕ) where
  -- a batch takes something
  pub batch_some : (g : List ℕ) (k w : ℕ) → Source key capacity (at g) d k → 0 < w → 0 < batch capacity g k w
  batch_some g k w s h = omega (arith, s.room)

  abbrev rest : ℕ → List ℕ → ℕ → ℕ
  rest w g k = w - batch capacity g k w

  abbrev more : ℕ → List ℕ → ℕ → List ℕ
  more w g k = set g k (batch capacity g k w + at g k)

  alike : (o : Option ℕ) (g : List ℕ) (f h : ℕ → Option (List ℕ)) → Sources key capacity (at g) d o
      → ((k : ℕ) → Source key capacity (at g) d k → f k ≡ h k)
      → after o f ≡ after o h
  alike None g f h s e = refl
  alike (Some k) g f h s e = e k s

  -- turns to spare change nothing
  spare : (turns turns' w : ℕ) (g : List ℕ) → w ≤ turns → w ≤ turns' → serve_in key capacity d turns w g ≡ serve_in key capacity d turns' w g
  spare zero zero w g a b = refl
  spare zero (suc u) zero g a b = refl
  spare zero (suc u) (suc w) g a b = absurd (omega arith)
  spare (suc t) zero zero g a b = refl
  spare (suc t) zero (suc w) g a b = absurd (omega arith)
  spare (suc t) (suc u) zero g a b = refl
  spare (suc t) (suc u) (suc w) g a b =
      alike (source key capacity (at g) d) g
      (λ k. serve_in key capacity d t (rest (suc w) g k) (more (suc w) g k))
      (λ k. serve_in key capacity d u (rest (suc w) g k) (more (suc w) g k))
      (source_right key capacity (at g) d)
      (λ k s.
      let some_left = batch_some g k (suc w) s (omega arith) in
      spare t u (rest (suc w) g k) (more (suc w) g k) (omega arith) (omega arith))

  -- What a loop does: it stops where nothing is left,
  pub serve_done : (g : List ℕ) → serve key capacity d 0 g ≡ Some g
  unfolding serve
  serve_done g = refl

  turned : (w : ℕ) (g : List ℕ) (k : ℕ) → source key capacity (at g) d ≡ Some k → Source key capacity (at g) d k
      → serve key capacity d (suc w) g ≡ serve key capacity d (rest (suc w) g k) (more (suc w) g k)
  unfolding serve
  turned w g k e s =
      ap (λ (o : Option ℕ). after o (λ k. serve_in key capacity d w (rest (suc w) g k) (more (suc w) g k))) e
      ∙ spare w (rest (suc w) g k) (rest (suc w) g k) (more (suc w) g k) (omega (arith, batch_some g k (suc w) s (omega arith))) (omega arith)

  -- else it serves a batch from the period that is best,
  pub serve_turn : (w : ℕ) (g : List ℕ) (k : ℕ) → 0 < w → Source key capacity (at g) d k
      → serve key capacity d w g ≡ serve key capacity d (w - batch capacity g k w) (set g k (batch capacity g k w + at g k))
  serve_turn zero g k h s = absurd (omega arith)
  serve_turn (suc w) g k h s = turned w g k (source_is key capacity (at g) d k s) s

  -- and gives up where there is none.
  pub serve_stuck : (w : ℕ) (g : List ℕ) → 0 < w → source key capacity (at g) d ≡ None → serve key capacity d w g ≡ None
  unfolding serve
  serve_stuck zero g h e = absurd (omega arith)
  serve_stuck (suc w) g h e =
      ap (λ (o : Option ℕ). after o (λ k. serve_in key capacity d w (rest (suc w) g k) (more (suc w) g k))) e

-- nothing stays nothing
pub greedy_to_stuck : (key capacity need : ℕ → ℕ) (g : List ℕ) (d n : ℕ) → d ≤ n
    → greedy_to key capacity need d g ≡ None → greedy_to key capacity need n g ≡ None
greedy_to_stuck key capacity need g d zero l e = let q : d ≡ 0 = omega arith in rw q at e
greedy_to_stuck key capacity need g d (suc n) l e = go (dec_lt d (suc n)) (λ h. greedy_to_stuck key capacity need g d n h e)
  where
    go : Dec (d < suc n) → (d ≤ n → greedy_to key capacity need n g ≡ None) → greedy_to key capacity need (suc n) g ≡ None
    go (yes h) old = ap (λ (o : Option (List ℕ)). after o (serve key capacity (suc n) (need n))) (old (omega arith))
    go (no h) old = let q : d ≡ suc n = omega arith in rw q at e

-- The rule looks at the keys of its periods alone: for code that holds them in cells.
module _ (key key' capacity : ℕ → ℕ) (n : ℕ) (keys : (k : ℕ) → k < n → key k ≡ key' k) where
  sources_same : (x : ℕ → ℕ) (d : ℕ) → d ≤ n → (o : Option ℕ) → Sources key capacity x d o → Sources key' capacity x d o
  sources_same x d l None s = s
  sources_same x d l (Some k) s =
      let inside = s.inside in
      record {
        inside = s.inside;
        room = s.room;
        cheap = λ j h r. omega (arith, s.cheap j h r, keys j (omega arith), keys k (omega arith));
        early = λ j h r. omega (arith, s.early j h r, keys j (omega arith), keys k (omega arith));
      }

  serve_same : (d : ℕ) → d ≤ n → (turns w : ℕ) (g : List ℕ) → w ≤ turns → serve key capacity d w g ≡ serve key' capacity d w g
  serve_same d l zero zero g h = serve_done key capacity d g ∙ sym (serve_done key' capacity d g)
  serve_same d l zero (suc w) g h = absurd (omega arith)
  serve_same d l (suc turns) zero g h = serve_done key capacity d g ∙ sym (serve_done key' capacity d g)
  serve_same d l (suc turns) (suc w) g h =
      go (source key capacity (at g) d) refl (source_right key capacity (at g) d) (λ v f m. serve_same d l turns v f m)
    where
      go : (o : Option ℕ) → source key capacity (at g) d ≡ o → Sources key capacity (at g) d o
          → ((v : ℕ) (f : List ℕ) → v ≤ turns → serve key capacity d v f ≡ serve key' capacity d v f)
          → serve key capacity d (suc w) g ≡ serve key' capacity d (suc w) g
      go None e s old =
          serve_stuck key capacity d (suc w) g (omega arith) e
          ∙ sym (serve_stuck key' capacity d (suc w) g (omega arith) (source_none key' capacity (at g) d s))
      go (Some k) e s old =
          serve_turn key capacity d (suc w) g k (omega arith) s
          ∙ old (rest key capacity d (suc w) g k) (more key capacity d (suc w) g k)
          (omega (arith, batch_some key capacity d g k (suc w) s (omega arith)))
          ∙ sym (serve_turn key' capacity d (suc w) g k (omega arith) (sources_same (at g) d l (Some k) s))

  pub greedy_to_same : (need : ℕ → ℕ) (d : ℕ) → d ≤ n → (g : List ℕ) → greedy_to key capacity need d g ≡ greedy_to key' capacity need d g
  greedy_to_same need zero l g = refl
  greedy_to_same need (suc d) l g =
      ap (λ (o : Option (List ℕ)). after o (serve key capacity (suc d) (need d))) (greedy_to_same need d (omega arith) g)
      ∙ each (greedy_to key' capacity need d g)
    where
      each : (o : Option (List ℕ)) → after o (serve key capacity (suc d) (need d)) ≡ after o (serve key' capacity (suc d) (need d))
      each None = refl
      each (Some f) = serve_same (suc d) l (need d) (need d) f (omega arith)
