-- The slots begin with the amounts where each amount is alike.
use Rattle.std.proofs.Common.{◌≡◌, List, ℕ, ◌≤◌, length, take, sym, ap, ◌∙◌, arith, length-take-le, get_or-take}
use Rattle.std.proofs.lemmas.List.{ext_get_or}
use Rattle.std.proofs.lemmas.Slice.Eq.{slice_eq-Decides}
use Rattle.std.proofs.lemmas.Bool.Decides.{Decides-eqb}
use Rattle.day.specs.Sums.{at}
use Rattle.plain.specs.Agreement.{SamePlan}
use Rattle.plain.proofs.same_plan.Goals as goal

module _ (n : ℕ) (plan slots : List ℕ) (fits : n ≤ length plan) (room : n ≤ length slots) where
  alike : take n plan ≡ take n slots → SamePlan n plan slots
  alike e =
      record { room = room; alike = λ k l. sym (get_or-take n slots k 0 l) ∙ ap (λ (l : List ℕ). at l k) (sym e) ∙ get_or-take n plan k 0 l }

  same : SamePlan n plan slots → take n plan ≡ take n slots
  same p =
      let size = length-take-le n plan fits in
      ext_get_or 0 (take n plan) (take n slots) (size ∙ sym (length-take-le n slots room))
      (λ k l. get_or-take n plan k 0 (omega arith) ∙ sym (p.alike k (omega arith)) ∙ sym (get_or-take n slots k 0 (omega arith)))

pub returns : goal.returns
returns c =
    let a = c.args in
    let n = a.n in
    let fits : n ≤ length a.plan = omega arith in
    let size = length-take-le n a.plan fits in
    let bound = c.starts_with.ensures.bound in
    let d = slice_eq-Decides Decides-eqb (take n a.plan) (take n a.slots.now) c.starts_with.result (rw size at c.starts_with.ensures.value) in
    (λ t. alike n a.plan a.slots.now fits (omega (arith, size, bound t)) (d.0 t), λ p. d.1 (same n a.plan a.slots.now fits p.room p))
