-- What is settled of the candidate is one more considered.
use Rattle.std.proofs.Common.{◌≡◌, List, ℕ, ◌+◌, ◌-◌, ◌<◌, length}
use Rattle.theory.specs.Problem.{Problem, periods}
use Rattle.equal_rows.specs.Rows.{Areas, areas, CandidateTold}
use Rattle.equal_rows.specs.Consider.{ConstantCapacity, Considerable, RowSettled, Considered, considered}
use Rattle.equal_rows.specs.Constant.{constant_problem}
use Rattle.equal_rows.proofs.consider.Goals as goal

tried : (p : Problem) (c l m left v : ℕ) (old new last : Areas) (plan : List ℕ)
    → ConstantCapacity p c → 0 < c
    → Considerable p c l m left old
    → CandidateTold p c l left (m - l) old v new plan
    → length plan ≡ m
    → RowSettled (periods p) (length plan) v plan new last
    → Considered p c m (l + 1) old last
tried p c l m left v old new last plan constant room asked found size settled =
    considered p c constant room l m left v old new plan asked found last (rw size at settled)

pub returns : goal.returns
returns c =
    let a = c.args in
    tried (constant_problem a.p) a.p.full a.l _ a.left c.candidate-v.result
    (areas a.costs.now a.choices.now) (areas c.candidate-v.new.costs c.candidate-v.new.choices) _ _ a.p.constant a.p.room c.requires c.candidate-v.ensures
    c.candidate-v.auto.slots c.settle.ensures
