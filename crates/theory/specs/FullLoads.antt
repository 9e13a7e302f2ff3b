-- Amounts of at most c of which at most one is neither 0 nor c: how many are c, and what the one is.
-- Main statement: `few_loads`. Assumes nothing.
use Rattle.std.specs.Prelude.{◌≡◌, refl, ◌⊎◌, ℕ, zero, suc, ◌+◌, ◌*◌, ◌/◌, ◌%◌, ◌≤◌, ◌<◌}
use Rattle.std.proofs.Common.{sym, ap, ◌∙◌, inl, inr, ⊎_elim, eq-or-lt_of_le, eq-zero-or-pos, le_of_suc-le-suc, arith}
use Rattle.std.proofs.Math.Decide.{dec_lt}
use Rattle.std.proofs.Math.Arith.{digits_div, digits_mod}
use Rattle.day.specs.Sums.{sum_to, below}
use Rattle.day.specs.Loads.{full_to, part_to, full_yes, full_no, part_yes, part_no, idle_none, made_in, RunLoads}

-- x k is neither 0 nor the capacity
abbrev pub Part : (c x : ℕ → ℕ) → ℕ → Type 0
Part c x k = (0 < x k) × (x k < c k)

-- the first b periods have one capacity, c 0, above 0, and make no more; no two of the periods a + 1 to b are part-loaded
pub record FewParts (c x : ℕ → ℕ) (a b : ℕ) : Type 0 where
  pub some_capacity : 0 < c 0
  pub same : (k : ℕ) → k < b → c k ≡ c 0
  pub within : (k : ℕ) → k < b → x k ≤ c k
  pub one : (i j : ℕ) → a ≤ i → i < j → j < b → Part c x i → Part c x j → ⊥

module _ (c x : ℕ → ℕ) (a b : ℕ) (few : FewParts c x a b) where
  -- beside full loads r is made, by no period up to e
  record NoPart (e r : ℕ) : Type 0 where
    nothing : r ≡ 0
    none : (k : ℕ) → k < e → a ≤ k → ¬ Part c x k
    count : part_to c x e ≡ part_to c x a

  -- or by one
  record OnePart (e r : ℕ) : Type 0 where
    k : ℕ
    from : a ≤ k
    inside : k < e
    part : Part c x k
    makes : x k ≡ r
    count : part_to c x e ≡ suc (part_to c x a)

  record Shape (e : ℕ) : Type 0 where
    q : ℕ
    r : ℕ
    sum : sum_to x e ≡ sum_to x a + (q * c 0 + r)
    full : full_to c x e ≡ full_to c x a + q
    parts : NoPart e r ⊎ OnePart e r

  shape_none : (e : ℕ) → a ≡ e → Shape e
  shape_none e z =
      record {
        q = 0;
        r = 0;
        sum = rw z (omega arith);
        full = rw z (omega arith);
        parts = inl (record { nothing = refl; none = λ k l m _. omega arith; count = rw z refl });
      }

  -- period e + 1 is not part-loaded
  carried : (e r : ℕ) → part_to c x (suc e) ≡ part_to c x e → ¬ Part c x e → NoPart e r ⊎ OnePart e r → NoPart (suc e) r ⊎ OnePart (suc e) r
  carried e r z f (inl p) =
      inl (record { nothing = p.nothing; none = below (λ (k : ℕ). a ≤ k → ¬ Part c x k) e p.none (λ _. f); count = z ∙ p.count })
  carried e r z f (inr p) =
      inr (record { k = p.k; from = p.from; inside = omega (arith, p.inside); part = p.part; makes = p.makes; count = z ∙ p.count })

  shape_idle : (e : ℕ) → Shape e → x e ≡ 0 → Shape (suc e)
  shape_idle e s z =
      let idle = idle_none (c e) z in
      record {
        q = s.q;
        r = s.r;
        sum = omega (arith, s.sum);
        full = omega (arith, s.full, idle.0);
        parts = carried e s.r (omega (arith, idle.1)) (λ f. omega (arith, f.0)) s.parts;
      }

  shape_full : (e : ℕ) → e < b → Shape e → x e ≡ c e → Shape (suc e)
  shape_full e eb s z =
      let same = few.same e eb in
      record {
        q = suc s.q;
        r = s.r;
        sum = omega (arith, s.sum);
        full = omega (arith, s.full, full_yes (omega (arith, few.some_capacity)) z);
        parts = carried e s.r (omega (arith, part_no {c = c e} {x = x e} (omega arith))) (λ f. omega (arith, f.1)) s.parts;
      }

  shape_part : (e : ℕ) → a ≤ e → e < b → Shape e → Part c x e → Shape (suc e)
  shape_part e ae eb s f = go s.parts
    where
      go : NoPart e s.r ⊎ OnePart e s.r → Shape (suc e)
      go (inl p) =
          record {
            q = s.q;
            r = x e;
            sum = omega (arith, s.sum, p.nothing);
            full = omega (arith, s.full, full_no {c = c e} {x = x e} (λ g. omega (arith, f.1)));
            parts = inr (record {
              k = e;
              from = ae;
              inside = omega arith;
              part = f;
              makes = refl;
              count = omega (arith, p.count, part_yes f.0 f.1);
            });
          }
      go (inr p) = absurd (few.one p.k e p.from p.inside eb p.part f)

  shape_more : (e : ℕ) → a ≤ e → e < b → Shape e → Shape (suc e)
  shape_more e ae eb s =
      ⊎_elim
      (λ (z : x e ≡ 0). shape_idle e s z)
      (λ (some : 0 < x e). ⊎_elim (λ f. shape_full e eb s f) (λ room. shape_part e ae eb s (some, room)) (eq-or-lt_of_le (few.within e eb)))
      (eq-zero-or-pos (x e))

  shapes : (e : ℕ) → a ≤ e → e ≤ b → Shape e
  shapes zero ae eb = shape_none zero (omega arith)
  shapes (suc e) ae eb =
      ⊎_elim
      (λ (z : a ≡ suc e). shape_none (suc e) z)
      (λ (l : a < suc e). shape_more e (le_of_suc-le-suc l) eb (shapes e (le_of_suc-le-suc l) (omega arith)))
      (eq-or-lt_of_le ae)

  module _ (s : Shape b) where
    small : s.r < c 0
    small =
        ⊎_elim
        (λ p. omega (arith, p.nothing, few.some_capacity))
        (λ p. omega (arith, p.part.1, p.makes, few.same p.k p.inside))
        s.parts

    split : s.q * c 0 + s.r ≡ made_in x a b
    split = omega (arith, s.sum)

    over : made_in x a b / c 0 ≡ s.q
    over = ap (λ (v : ℕ). v / c 0) (sym split) ∙ digits_div s.q small

    left : made_in x a b % c 0 ≡ s.r
    left = ap (λ (v : ℕ). v % c 0) (sym split) ∙ digits_mod s.q small

    counts : RunLoads c x a b
    counts =
        record {
          full = omega (arith, s.full, over);
          part = λ some. ⊎_elim (λ p. omega (arith, p.nothing, left)) (λ p. omega (arith, p.count)) s.parts;
          none = λ nothing. ⊎_elim (λ p. omega (arith, p.count)) (λ p. omega (arith, p.part.0, p.makes, left)) s.parts;
        }

    amount : (k : ℕ) → a ≤ k → k < b → Part c x k → x k ≡ made_in x a b % c 0
    amount k l h part = ⊎_elim (λ p. absurd (p.none k h l part)) (λ p. alike p (dec_lt k p.k) (dec_lt p.k k) ∙ p.makes ∙ sym left) s.parts
      where
        alike : (p : OnePart b s.r) → Dec (k < p.k) → Dec (p.k < k) → x k ≡ x p.k
        alike p (yes g) d = absurd (few.one k p.k l g p.inside part p.part)
        alike p (no f) (yes g) = absurd (few.one p.k k p.from g h p.part part)
        alike p (no f) (no g) = let e : k ≡ p.k = omega arith in ap x e

  -- Their loads are counted, and the one that is part-loaded makes the remainder.
  pub few_loads : a ≤ b → RunLoads c x a b × ((k : ℕ) → a ≤ k → k < b → Part c x k → x k ≡ made_in x a b % c 0)
  few_loads l = let s = shapes b l (omega arith) in (counts s, amount s)
