-- The state that the interval ends in tells its cost, and the interval is read back from it.
use Rattle.std.specs.Prelude.{Option, None, Some}
use Rattle.std.proofs.Common.{◌≡◌, refl, sym, ap, ◌∙◌, List, ℕ, ◌+◌, ◌-◌, ◌*◌, ◌/◌, ◌%◌, ◌<◌, min, length, drop, arith}
use Rattle.std.proofs.Common.{get_or-drop}
use Rattle.std.proofs.Math.Nat.{mod-lt}
use borrow.Rule.Slice.PartMut.{mid_of}
use Rattle.day.specs.Sums.{at}
use Rattle.theory.specs.Model.{Model}
use Rattle.theory.specs.Problem.{Problem, periods, model_of}
use Rattle.theory.specs.Stages.{Solution}
use Rattle.equal_runs.specs.declared.LoadSizes.{LoadSizes}
use Rattle.equal_runs.specs.Bounds.{stage_most}
use Rattle.equal_runs.specs.States.{index_of}
use Rattle.equal_runs.specs.Told.{CostTold, first_to}
use Rattle.equal_runs.specs.Run.{back_of, back_plan}
use Rattle.equal_rows.specs.Rows.{Areas, areas, load_sizes, LoadsSplit, AmountsTold, Laid, IntervalTold, interval_of}
use Rattle.equal_rows.specs.declared.Ending.{Ending}
use Rattle.equal_rows.specs.Constant.{constant_problem}
use Rattle.equal_rows.proofs.Parts.{mid_end}
use Rattle.equal_rows.proofs.trial.Goals as goal

module _ (p : Problem) (c l W count : ℕ) (old new : Areas) (plan : List ℕ) (e : Ending) (room : 0 < c) (s : LoadsSplit W c e)
    (size : length plan ≡ count) (laid : Laid p (load_sizes c e.part) l count e.top old new) where
  abbrev n : ℕ
  n = periods p

  abbrev M : Model
  M = model_of p

  abbrev w : LoadSizes
  w = load_sizes c e.part

  abbrev j : ℕ
  j = W / c

  abbrev d : ℕ
  d = min 1 (W % c)

  -- past the rows: the states, and the amounts
  abbrev row : List ℕ
  row = drop (n + 1) new.costs

  abbrev picks : List ℕ
  picks = drop (n * n + n) new.choices

  told : CostTold (count * stage_most) (at new.costs (n + 1 + e.top)) (interval_of M c l W count)
  told =
      let here : at new.costs (n + 1 + e.top) ≡ at row (index_of j d) = sym (get_or-drop (n + 1) new.costs e.top 0) ∙ ap (at row) s.ends in
      let t = laid.ran.costs j d (omega arith) (omega (arith, s.ends)) in
      rw here (rw s.part at t)

  module _ (back : plan ≡ back_of c (2 * n + 2) (mid_of (n * n + n) (length new.choices - (n * n + n)) new.choices) count e.top) where
    amounts : (o : Option Solution) → interval_of M c l W count ≡ o → AmountsTold plan o
    amounts None q = tt
    amounts (Some f) q =
        let run : first_to M l w count j d ≡ Some f = rw s.part q in
        let part : e.part < c = omega (arith, s.part, mod-lt W room) in
        back
        ∙ ap (λ (l : List ℕ). back_of c (2 * n + 2) l count e.top) (mid_end (n * n + n) new.choices)
        ∙ ap (back_of c (2 * n + 2) picks count) s.ends
        ∙ back_plan M l w count e.top (2 * n + 2) row picks part laid.ran count (omega arith) j d (omega arith)
        (λ h. omega (arith, s.part)) (omega (arith, s.ends)) f run

    tried : IntervalTold p c l W old (at new.costs (n + 1 + e.top)) new plan
    tried = record { kept = laid.kept; told = rw size (record { cost = told; amounts = amounts (interval_of M c l W count) refl }) }

pub returns : goal.returns
returns c =
    let a = c.args in
    tried (constant_problem a.p) a.p.full a.l _ _ (areas a.costs.now a.choices.now)
    (areas c.lay.new.costs c.lay.new.choices) _ _ c.args.p.room c.split-ending.ensures c.read_back.auto.slots c.lay.ensures c.read_back.ensures
