-- The regeneration intervals of the equal path by their loads: a state is how many full loads are made and whether the fractional one is.
-- Main statements: `loads_to_right`, `loads_back`, `by_load_answers`. Assumes nothing.
use Rattle.std.specs.Prelude.{◌≡◌, refl, [], ◌∷◌, ◌++◌, Option, None, Some}
use Rattle.std.proofs.Math.Path.{sym, ap₂}
use Rattle.std.proofs.Common.{ap, ◌∙◌, subst, inl, inr, ⊎_elim, eq-or-lt_of_le, le_of_suc-le-suc, div-add-mod', mod-lt}
use Prim.Native.Nat.{ℕ, zero, suc, ◌+◌, ◌-◌, ◌*◌, ◌/◌, ◌%◌, ◌≤◌, ◌<◌, min}
use Rattle.std.proofs.Math.Decide.{dec_le, ℕ_discrete}
use native.Mathlib.Omega.{arith}
use Rattle.std.proofs.Math.Arith.{digits_mod}
use Rattle.theory.specs.Model.{Model, Rising, Unlimited, production, cost_to}
use Rattle.theory.specs.Recursion.{both?}
use Rattle.theory.specs.Stages.{Solution, Answers, better, least, begin, extend, best_to, better_one, extend_one}
use Rattle.theory.specs.Totals.{stages}
use Rattle.theory.specs.Regeneration.{runs, glue, candidate, candidate_answers, Right, Fits}
use Rattle.theory.specs.FlorianKlein.{Load, load?, loads, Equal, by_loads}

-- what j full loads and d fractional loads make
abbrev pub made : ℕ → ℕ → ℕ → ℕ → ℕ
made c part j d = j * c + d * part

-- a move that takes one of n loads away
abbrev pub given : ℕ → Option Solution → Option Solution
given zero o = None
given (suc n) o = o

module _ (M : Model) (l c part : ℕ) where
  -- period l + k ends with j and d, and makes x
  abbrev pub moves : ℕ → ℕ → ℕ → ℕ → Option Solution → Option Solution
  moves k j d x o =
      extend (dec_le (M.floor (suc (l + k))) (M.floor l + made c part j d)) x
      (production M (l + k) x + M.holding (l + k) * (M.floor l + made c part j d - M.floor (suc (l + k)))) o

  -- the first of the intervals of k periods that make j full loads and d fractional ones: in each period nothing, the fractional load, or a full one
  unfoldable pub loads_to : ℕ → ℕ → ℕ → Option Solution
  loads_to zero j d = begin (both? (ℕ_discrete j 0) (ℕ_discrete d 0))
  loads_to (suc k) j d =
      better (better (moves k j d 0 (loads_to k j d)) (given d (moves k j d part (loads_to k j (d - 1)))))
      (given j (moves k j d c (loads_to k (j - 1) d)))

-- each state from those before it
pub loads_next : (M : Model) (l c part k j d : ℕ)
    → loads_to M l c part (suc k) j d
    ≡ better (better (moves M l c part k j d 0 (loads_to M l c part k j d)) (given d (moves M l c part k j d part (loads_to M l c part k j (d - 1)))))
    (given j (moves M l c part k j d c (loads_to M l c part k (j - 1) d)))
unfolding loads_to
loads_next M l c part k j d = refl

better_none : (o : Option Solution) → better o None ≡ o
better_none None = refl
better_none (Some f) = refl

-- tries that give nothing are skipped
least_skip : (f : ℕ → Option Solution) (a b : ℕ) → a ≤ b → ((x : ℕ) → a < x → x ≤ b → f x ≡ None) → least f b ≡ least f a
least_skip f a zero l h = let e : a ≡ 0 = omega arith in rw e refl
least_skip f a (suc b) l h =
    ⊎_elim (λ (e : a ≡ suc b). rw e refl)
    (λ g.
    ap (λ (o : Option Solution). better (least f b) o) (h (suc b) g (omega arith))
    ∙ better_none (least f b)
    ∙ least_skip f a b (le_of_suc-le-suc g) (λ x u v. h x u (omega arith)))
    (eq-or-lt_of_le l)

-- a last try after such
least_last : (f : ℕ → Option Solution) (a b : ℕ) → a < b → ((x : ℕ) → a < x → x < b → f x ≡ None) → least f b ≡ better (least f a) (f b)
least_last f a zero l h = absurd (omega arith)
least_last f a (suc b) l h = ap (λ (o : Option Solution). better o (f (suc b))) (least_skip f a b (le_of_suc-le-suc l) (λ x u v. h x u (omega arith)))

begin_iff : {A B : Type 0} (d : Dec A) (e : Dec B) → (A → B) → (B → A) → begin d ≡ begin e
begin_iff (yes a) (yes b) to back = refl
begin_iff (yes a) (no h) to back = absurd (h (to a))
begin_iff (no h) (yes b) to back = absurd (h (back b))
begin_iff (no h) (no g) to back = refl

extend_iff : {A B : Type 0} (d : Dec A) (e : Dec B) → (A → B) → (B → A) → (x q : ℕ) (o : Option Solution) → extend d x q o ≡ extend e x q o
extend_iff (yes a) (yes b) to back x q None = refl
extend_iff (yes a) (yes b) to back x q (Some f) = refl
extend_iff (yes a) (no h) to back x q o = absurd (h (to a))
extend_iff (no h) (yes b) to back x q o = absurd (h (back b))
extend_iff (no h) (no g) to back x q o = refl

extend_not : {A : Type 0} (d : Dec A) (x q : ℕ) (o : Option Solution) → ¬ A → extend d x q o ≡ None
extend_not (yes a) x q o h = absurd (h a)
extend_not (no g) x q o h = refl

module _ (M : Model) (l c part : ℕ) (less : part < c) where
  -- what the recursion over totals tries
  abbrev try : ℕ → ℕ → ℕ → Option Solution
  try k X x =
      extend (both? (dec_le (M.floor (suc (l + k))) (M.floor l + X)) (load? c part X x)) x
      (production M (l + k) x + M.holding (l + k) * (M.floor l + X - M.floor (suc (l + k))))
      (best_to (stages (runs M l (loads c part))) k (X - x))

  abbrev Same : ℕ → ℕ → ℕ → Type 0
  Same k j d = loads_to M l c part k j d ≡ best_to (stages (runs M l (loads c part))) k (made c part j d)

  tried : (k j d x j' d' : ℕ) → Load c part (made c part j d) x → made c part j d - x ≡ made c part j' d' → Same k j' d'
      → moves M l c part k j d x (loads_to M l c part k j' d') ≡ try k (made c part j d) x
  tried k j d x j' d' load e same =
      let X : ℕ = made c part j d in
      let q : ℕ = production M (l + k) x + M.holding (l + k) * (M.floor l + X - M.floor (suc (l + k))) in
      extend_iff (dec_le (M.floor (suc (l + k))) (M.floor l + X)) (both? (dec_le (M.floor (suc (l + k))) (M.floor l + X)) (load? c part X x))
      (λ a. (a, load)) (λ p. p.0) x q (loads_to M l c part k j' d')
      ∙ ap (λ (o : Option Solution). extend (both? (dec_le (M.floor (suc (l + k))) (M.floor l + X)) (load? c part X x)) x q o)
      (same ∙ ap (best_to (stages (runs M l (loads c part))) k) (sym e))

  skipped : (k X x : ℕ) → ¬ Load c part X x → try k X x ≡ None
  skipped k X x h =
      extend_not (both? (dec_le (M.floor (suc (l + k))) (M.floor l + X)) (load? c part X x)) x _ _ (λ p. h p.1)

  -- no other amount is a load
  not_part : (X x : ℕ) → 0 < x → x < part → ¬ Load c part X x
  not_part X x a b q = ⊎_elim (λ (e : x ≡ 0). omega arith) (λ r. ⊎_elim (λ (e : x ≡ c). omega arith) (λ p. omega (arith, p.0)) r) q

  not_full : (X x : ℕ) → part < x → x < c → ¬ Load c part X x
  not_full X x a b q = ⊎_elim (λ (e : x ≡ 0). omega arith) (λ r. ⊎_elim (λ (e : x ≡ c). omega arith) (λ p. omega (arith, p.0)) r) q

  not_either : (j x : ℕ) → 0 < x → x < c → ¬ Load c part (made c part j 0) x
  not_either j x a b q =
      ⊎_elim (λ (e : x ≡ 0). omega arith)
      (λ r.
      ⊎_elim (λ (e : x ≡ c). omega arith)
      (λ p.
      let z : made c part j 0 ≡ j * c + 0 = omega arith in
      let pos : 0 < c = omega arith in
      omega (arith, p.0, p.1, ap (λ (v : ℕ). v % c) z, digits_mod j pos))
      r)
      q

  is_part : (j : ℕ) → Load c part (made c part j 1) part
  is_part j =
      let z : made c part j 1 ≡ j * c + part = omega arith in
      inr (inr (refl, ap (λ (v : ℕ). v % c) z ∙ digits_mod j less))

  step : (k : ℕ) → M.capacity (l + k) ≡ c → (j d : ℕ) → d ≤ min 1 part
      → ((j d : ℕ) → d ≤ min 1 part → Same k j d)
      → loads_to M l c part (suc k) j d ≡ least (try k (made c part j d)) (min (M.capacity (l + k)) (made c part j d))
  unfolding loads_to
  step k capacity zero zero h same =
      let top : min (M.capacity (l + k)) (made c part 0 0) ≡ 0 = omega arith in
      better_none _ ∙ better_none _ ∙ tried k 0 0 0 0 0 (inl refl) (omega arith) (same 0 0 h) ∙ sym (ap (least (try k (made c part 0 0))) top)
  step k capacity zero (suc zero) h same =
      let top : min (M.capacity (l + k)) (made c part 0 1) ≡ part = omega arith in
      let f : ℕ → Option Solution = try k (made c part 0 1) in
      better_none _
      ∙ ap₂ better (tried k 0 1 0 0 1 (inl refl) (omega arith) (same 0 1 h)) (tried k 0 1 part 0 0 (is_part 0) (omega arith) (same 0 0 (omega arith)))
      ∙ sym (least_last f 0 part (omega arith) (λ x u v. skipped k (made c part 0 1) x (not_part (made c part 0 1) x u v)))
      ∙ sym (ap (least f) top)
  step k capacity (suc j) zero h same =
      let top : min (M.capacity (l + k)) (made c part (suc j) 0) ≡ c = omega arith in
      let f : ℕ → Option Solution = try k (made c part (suc j) 0) in
      let e : suc j - 1 ≡ j = omega arith in
      ap₂ better
      (better_none _ ∙ tried k (suc j) 0 0 (suc j) 0 (inl refl) (omega arith) (same (suc j) 0 h))
      (rw e (tried k (suc j) 0 c j 0 (inr (inl refl)) (omega arith) (same j 0 h)))
      ∙ sym (least_last f 0 c (omega arith) (λ x u v. skipped k (made c part (suc j) 0) x (not_either (suc j) x u v)))
      ∙ sym (ap (least f) top)
  step k capacity (suc j) (suc zero) h same =
      let top : min (M.capacity (l + k)) (made c part (suc j) 1) ≡ c = omega arith in
      let f : ℕ → Option Solution = try k (made c part (suc j) 1) in
      let e : suc j - 1 ≡ j = omega arith in
      ap₂ better
      (ap₂ better
      (tried k (suc j) 1 0 (suc j) 1 (inl refl) (omega arith) (same (suc j) 1 h))
      (tried k (suc j) 1 part (suc j) 0 (is_part (suc j)) (omega arith) (same (suc j) 0 (omega arith)))
      ∙ sym (least_last f 0 part (omega arith) (λ x u v. skipped k (made c part (suc j) 1) x (not_part (made c part (suc j) 1) x u v))))
      (rw e (tried k (suc j) 1 c j 1 (inr (inl refl)) (omega arith) (same j 1 h)))
      ∙ sym (least_last f part c (omega arith) (λ x u v. skipped k (made c part (suc j) 1) x (not_full (made c part (suc j) 1) x u v)))
      ∙ sym (ap (least f) top)
  step k capacity zero (suc (suc d)) h same = absurd (omega arith)
  step k capacity (suc j) (suc (suc d)) h same = absurd (omega arith)

  -- The recursion over loads is the recursion over totals.
  pub loads_to_right : (i : ℕ) → ((k : ℕ) → k < i → M.capacity (l + k) ≡ c) → (j d : ℕ) → d ≤ min 1 part → Same i j d
  unfolding loads_to best_to
  loads_to_right zero caps j d h =
      begin_iff (both? (ℕ_discrete j 0) (ℕ_discrete d 0)) (ℕ_discrete (made c part j d) 0)
      (λ p. rw (p.0, p.1) (omega arith))
      (λ e. nothing j d h e)
    where
      nothing : (j d : ℕ) → d ≤ min 1 part → made c part j d ≡ 0 → (j ≡ 0) × (d ≡ 0)
      nothing zero zero h e = (refl, refl)
      nothing zero (suc zero) h e = absurd (omega arith)
      nothing zero (suc (suc d)) h e = absurd (omega arith)
      nothing (suc j) d h e = absurd (omega arith)
  loads_to_right (suc k) caps j d h = step k (caps k (omega arith)) j d h (loads_to_right k (λ i g. caps i (omega arith)))

-- period k of an interval made x, and came from j' and d' to j and d
pub data Step (c part j d : ℕ) : ℕ → ℕ → ℕ → Type 0 where
  stay : Step c part j d 0 j d
  one_part : 0 < d → Step c part j d part j (d - 1)
  one_full : 0 < j → Step c part j d c (j - 1) d

pub record Back (M : Model) (l c part k j d : ℕ) (f : Solution) : Type 0 where
  pub x : ℕ
  pub j' : ℕ
  pub d' : ℕ
  pub before : Solution
  pub step : Step c part j d x j' d'
  pub was : loads_to M l c part k j' d' ≡ Some before
  pub plan : f.plan ≡ before.plan ++ (x ∷ [])

-- The interval is read back from its end.
pub loads_back : (M : Model) (l c part k j d : ℕ) (f : Solution) → loads_to M l c part (suc k) j d ≡ Some f → Back M l c part k j d f
loads_back M l c part k j d f e =
    ⊎_elim
    (λ p.
    ⊎_elim idle (λ q. some_part d refl q)
    (better_one _ (given d (moves M l c part k j d part (loads_to M l c part k j (d - 1)))) f p))
    (λ q. some_full j refl q)
    (better_one _ (given j (moves M l c part k j d c (loads_to M l c part k (j - 1) d))) f (sym (loads_next M l c part k j d) ∙ e))
  where
    idle : moves M l c part k j d 0 (loads_to M l c part k j d) ≡ Some f → Back M l c part k j d f
    idle p =
        let w = extend_one (dec_le (M.floor (suc (l + k))) (M.floor l + made c part j d)) 0 _ (loads_to M l c part k j d) f p in
        record { x = 0; j' = j; d' = d; before = w.0; step = stay; was = w.1; plan = w.2 }

    some_part : (n : ℕ) → n ≡ d → given n (moves M l c part k j d part (loads_to M l c part k j (d - 1))) ≡ Some f → Back M l c part k j d f
    some_part zero q p = let z : ◌≡◌ {A = ℕ} 0 1 = cc in absurd (omega arith)
    some_part (suc n) q p =
        let w = extend_one (dec_le (M.floor (suc (l + k))) (M.floor l + made c part j d)) part _ (loads_to M l c part k j (d - 1)) f p in
        record { x = part; j' = j; d' = d - 1; before = w.0; step = one_part (omega arith); was = w.1; plan = w.2 }

    some_full : (n : ℕ) → n ≡ j → given n (moves M l c part k j d c (loads_to M l c part k (j - 1) d)) ≡ Some f → Back M l c part k j d f
    some_full zero q p = let z : ◌≡◌ {A = ℕ} 0 1 = cc in absurd (omega arith)
    some_full (suc n) q p =
        let w = extend_one (dec_le (M.floor (suc (l + k))) (M.floor l + made c part j d)) c _ (loads_to M l c part k (j - 1) d) f p in
        record { x = c; j' = j - 1; d' = d; before = w.0; step = one_full (omega arith); was = w.1; plan = w.2 }

-- an interval's demand by loads
pub whole : (c W : ℕ) → 0 < c → made c (W % c) (W / c) (min 1 (W % c)) ≡ W
whole c W pos = omega (arith, part (W % c), div-add-mod' W c)
  where
    part : (p : ℕ) → min 1 p * p ≡ p
    part zero = omega arith
    part (suc p) = let e : min 1 (suc p) ≡ 1 = omega arith in rw e (omega arith)

-- the candidate that is last empty at l, by loads
abbrev pub by_load : Model → ℕ → (ℕ → Option Solution) → ℕ → ℕ → Option Solution
by_load M c rows m l =
    glue (rows l) (loads_to M l c ((M.floor m - M.floor l) % c) (m - l) ((M.floor m - M.floor l) / c) (min 1 ((M.floor m - M.floor l) % c)))

pub by_load_is : (M : Model) (c : ℕ) → 0 < c → (rows : ℕ → Option Solution) (m l : ℕ) → l < m → Equal M c m
    → by_load M c rows m l ≡ candidate M (by_loads M c) rows m l
by_load_is M c pos rows m l h caps =
    ap (glue (rows l))
    (loads_to_right M l c (W % c) (mod-lt W pos) (m - l) (λ k g. caps (l + k) (omega arith)) (W / c) (min 1 (W % c)) (omega arith)
    ∙ ap (best_to (stages (runs M l (by_loads M c l m))) (m - l)) (whole c W pos))
  where
    W : ℕ
    W = M.floor m - M.floor l

-- it answers the plans that fit
pub by_load_answers : (M : Model) → Rising M → Unlimited M → (c : ℕ) → 0 < c → (rows : ℕ → Option Solution) (m l : ℕ) → l < m
    → Equal M c m → Right M l (rows l)
    → Answers (Fits M (by_loads M c l m) m l) (λ x. cost_to M x m) m (by_load M c rows m l)
by_load_answers M rising unlimited c pos rows m l h caps right =
    subst (Answers (Fits M (by_loads M c l m) m l) (λ x. cost_to M x m) m) (sym (by_load_is M c pos rows m l h caps))
    (candidate_answers M rising unlimited (by_loads M c) m rows l h right)
