-- A turn puts the need of the next two bytes.
use Rattle.std.proofs.Common.{rules, ◌≡◌, refl, List, [], ◌∷◌, ℕ, ◌+◌, ◌*◌, ◌<◌, ◌≤◌, ◌++◌, length, drop, sym, ap, ◌∙◌, arith, length-append}
use Rattle.std.proofs.lemmas.List.{get_or-drop, get_or_append_left, length-drop, drop_at}
use Rattle.std.proofs.Math.Seq.{drop-drop}
use Rattle.day.specs.Sums.{at}
use Rattle.day.specs.File.{number2}
use Rattle.margin_text.specs.Laws.{listed_more}
use Rattle.margin_text.proofs.decode.Goals as goal

module _ (s pair left : List ℕ) (i : ℕ) (is : drop (2 * i) s ≡ pair ++ left) (two : length pair ≡ 2) where
  byte : (j k : ℕ) → j < 2 → 2 * i + j ≡ k → at pair j ≡ at s k
  byte j k l e =
      sym (get_or_append_left pair left 0 j (omega arith)) ∙ ap (λ (l : List ℕ). at l j) (sym is) ∙ get_or-drop (2 * i) s j 0 ∙ ap (at s) e

  pair_number : number2 pair 0 ≡ number2 s (2 * i)
  pair_number = rw (byte 0 (2 * i) (omega arith) (omega arith), byte 1 (2 * i + 1) (omega arith) refl) refl

  left_is : left ≡ drop (2 * i + 2) s
  left_is = sym (drop_at pair left 2 two) ∙ ap (drop 2) (sym is) ∙ drop-drop 2 (2 * i) s

  within : 2 * i ≤ length s → 2 * i + 2 ≤ length s
  within h = omega (arith, length-drop (2 * i) s, ap length is, length-append pair left)

pub loop-pair-preserved : goal.loop-pair-preserved
loop-pair-preserved c =
    let i = c.loop-pair.invariant in
    let step = c.in-Some.ensures.steps.1 in
    let n = length c.loop-pair.needs.items in
    let more : length c.push.new.self.items ≡ n + 1 = rw c.push.ensures.items (length-append c.loop-pair.needs.items (c.number2.result ∷ [])) in
    let is = sym i.rest ∙ step.0 in
    let two = step.1 ∙ i.size in
    record {
      can = search rules;
      finite = tt;
      size = search rules;
      rest = left_is _ _ _ n is two ∙ ap (λ (k : ℕ). drop k c.args.file.now) (omega (arith, more));
      within = omega (arith, more, within _ _ _ n is two i.within);
      listed = rw more (listed_more _ i.listed (c.number2.ensures ∙ pair_number _ _ _ n is two) c.push.ensures.items);
    }
