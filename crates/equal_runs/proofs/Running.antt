-- What the loop of `run` keeps after k periods, and one period more. Main statements: `turn`, `advanced_behind`, `ran_longer`. Assumes nothing.
use Rattle.std.proofs.Common.{◌≡◌, ◌∙◌, List, ◌++◌, ℕ, ◌+◌, ◌-◌, ◌*◌, ◌≤◌, ◌<◌, ap, add-one, arith, length}
use Rattle.std.proofs.Common.{length-take-le, length-append, length-drop}
use Rattle.std.proofs.lemmas.List.{get_or_append_left}
use borrow.Rule.Slice.PartMut.{mid_of, put_mid}
use Rattle.day.specs.Sums.{at}
use Rattle.theory.specs.Model.{Model}
use Rattle.theory.specs.declared.Problem.{Problem as LentProblem}
use Rattle.theory.specs.Problem.{lent_problem, demand_to, model_of}
use Rattle.equal_runs.specs.declared.LoadSizes.{LoadSizes}
use Rattle.equal_runs.specs.declared.RunPeriod.{RunPeriod}
use Rattle.equal_runs.specs.States.{index_of, period_of}
use Rattle.equal_runs.specs.Told.{Narrow}
use Rattle.theory.specs.Parts.{front_at, part_at, part_size}
use Rattle.equal_runs.specs.Fill.{RowFilled, Advanced}
use Rattle.equal_runs.specs.Run.{Ran, lent_constant, start_of, ran_none, ran_more}

filled_behind : (f : ℕ → ℕ) (top a : ℕ) (l part : List ℕ) → a ≤ length l → top < length l - a
    → RowFilled (mid_of a (length l - a) l) part 0 f 0 top → RowFilled l (put_mid a (length l - a) l part) a f 0 top
filled_behind f top a l part inside room r =
    let size : length part ≡ length l - a = r.size ∙ part_size l a in
    record {
      size = simp (length-append, length-drop) (omega (arith, length-take-le a l inside, size));
      done = λ t b h. let z : 0 + t ≡ t = omega arith in part_at a (length l - a) l part inside t (omega (arith, size)) ∙ (rw z at (r.done t b h));
      low = λ i h. front_at a (length l - a) l part inside i (omega arith);
    }

pub advanced_behind : (p : RunPeriod) (w : LoadSizes) (top a : ℕ) (row row' picks part : List ℕ) → a ≤ length picks → top < length picks - a
    → Advanced p w 0 top row row' 0 (mid_of a (length picks - a) picks) part
    → Advanced p w 0 top row row' a picks (put_mid a (length picks - a) picks part)
advanced_behind p w top a row row' picks part inside room d =
    record { costs = d.costs; amounts = filled_behind _ top a picks part inside room d.amounts }

-- the states before the first period
pub ran_started : (M : Model) (l : ℕ) (w : LoadSizes) (top width : ℕ) (old row picks : List ℕ) → length old ≡ top + 1
    → RowFilled old row 0 start_of 0 (length old - 1) → Ran M l w 0 top width row picks
ran_started M l w top width old row picks size f =
    let e : length old - 1 ≡ top = omega (arith, size) in
    ran_none M l w top width old row picks (rw e at f)

-- what stands behind the states is free
pub ran_longer : (M : Model) (l : ℕ) (w : LoadSizes) (k top width : ℕ) (row rest picks : List ℕ) → top < length row
    → Ran M l w k top width row picks → Ran M l w k top width (row ++ rest) picks
ran_longer M l w k top width row rest picks inside r =
    record {
      costs = λ j d h g.
          let e = get_or_append_left row rest 0 (index_of j d) (omega arith) in
          rw e (r.costs j d h g);
      amounts = r.amounts;
    }

-- after k periods
pub record Running (problem : LentProblem) (l : ℕ) (w : LoadSizes) (top width : ℕ) (row picks : List ℕ) (k due : ℕ) : Type 0 where
  pub sums : demand_to (lent_problem problem) l + due ≡ demand_to (lent_problem problem) (l + k)
  pub low : due ≤ k * 65536
  pub ran : Ran (model_of (lent_constant problem w.full)) l w k top width row picks
  pub size : length row ≡ top + 1

-- one period more, as the code has it
pub turn : (problem : LentProblem) (l k : ℕ) (w : LoadSizes) (top width due : ℕ) (row picks row' picks' : List ℕ) (p : RunPeriod)
    → k < 96 → top ≤ 193 → top < width → Narrow p w
    → demand_to (lent_problem problem) l + due ≡ demand_to (lent_problem problem) (l + k)
    → p ≡ period_of (lent_problem problem) (l + k) (due + at (lent_problem problem).demand (l + k))
    → Ran (model_of (lent_constant problem w.full)) l w k top width row picks
    → Advanced p w 0 top row row' (k * width) picks picks'
    → Ran (model_of (lent_constant problem w.full)) l w (k + 1) top width row' picks'
turn problem l k w top width due row picks row' picks' p few low wide narrow sums e ran next =
    let a = ap (λ (q : RunPeriod). q.setup) e in
    let b = ap (λ (q : RunPeriod). q.unit) e in
    let f = ap (λ (q : RunPeriod). q.holding) e in
    let g = ap (λ (q : RunPeriod). q.due) e in
    rw (add-one k)
    (ran_more (model_of (lent_constant problem w.full)) l w k top width row picks row' picks' p few low wide
    (record { setup = a; unit = b; holding = f; due = omega arith }) narrow ran next)
