-- Any two paths agree on a day of both their kinds: the short paths give what the full path gives.
-- Main statements: `uncapped_agrees`, `equal_agrees`, `free_agrees`. Assumes nothing.
use Rattle.std.proofs.lemmas.Option.{none-some, same_Some}
use Rattle.std.specs.Prelude.{◌≡◌, refl, ℕ, ◌<◌, Option, None, Some, Result, Ok, Err}
use Rattle.std.proofs.Common.{sym, ap, ap₂, ◌∙◌}
use Rattle.day.specs.declared.Refusal.{Refusal}
use Rattle.day.specs.declared.Loads.{Loads}
use Rattle.day.specs.declared.Totals.{Totals}
use Rattle.day.specs.Sums.{at, sum_ext}
use Rattle.day.specs.Day.{Day, periods}
use Rattle.day.specs.Plan.{setup_at}
use Rattle.day.specs.Refusals.{first, unequal, binding, paid_setup, low_store}
use Rattle.day.specs.Tests.{gives_is}
use Rattle.day.specs.Figures.{first_value, second_value}
use Rattle.day.specs.Outcome.{Memory, sizes_of, Path, Roomy, day_refusal, roomy_refusal, Counts, Runs}
use Rattle.day.specs.Paths.{full, uncapped, equal, free}
use Rattle.day.specs.Loads.{path_answer, EqualRuns}
use Rattle.day.specs.Search.{cost_alike}
use Rattle.theory.proofs.Demands.{plan_unique}
use Rattle.theory.specs.Agreement.{Agree}

-- plans that are alike have the same totals
same_totals : (d : Day) (x y : ℕ → ℕ) (t u : Totals) → ((k : ℕ) → k < periods d → x k ≡ y k) → Counts d x t → Counts d y u → t ≡ u
same_totals d x y t u same c e =
    ap₂ (λ (a b : ℕ). record { cost = a; setups = b })
    (first_value c ∙ cost_alike d x y same ∙ sym (first_value e))
    (second_value c ∙ sum_ext (λ k. setup_at (x k)) (λ k. setup_at (y k)) (periods d) (λ k l. ap setup_at (same k l)) ∙ sym (second_value e))

-- the refusal that an answer gives
abbrev given : Result Totals Refusal → Option Refusal
given (Err r) = Some r
given (Ok t) = None

given_is : (P : Path) (d : Day) (m : Memory) (r : Result Totals Refusal) (after : Memory) → Roomy P d (sizes_of m) → first (P.own d) ≡ None
    → Runs P d m r after → day_refusal P.limit d ≡ given r
given_is P d m (Err r) after room kind a = sym (roomy_refusal P d (sizes_of m) room kind) ∙ gives_is a.0
given_is P d m (Ok t) after room kind a = sym (roomy_refusal P d (sizes_of m) room kind) ∙ a.0

-- Two paths with one limit, on a day of both their kinds and with room for both, accept together, and then give one plan, cost and setups.
pub paths_agree : (P Q : Path) (d : Day) (m m' : Memory) (r : Result Totals Refusal) (after : Memory) (q : Result Totals Refusal) (after' : Memory)
    → P.limit ≡ Q.limit → Roomy P d (sizes_of m) → Roomy Q d (sizes_of m') → first (P.own d) ≡ None → first (Q.own d) ≡ None
    → Runs P d m r after → Runs Q d m' q after' → Agree d r after q after'
paths_agree P Q d m m' r after q after' limit room room' kind kind' a b =
    go r q a b
    (sym (given_is P d m r after room kind a) ∙ (ap (λ (l : ℕ). day_refusal l d) limit ∙ given_is Q d m' q after' room' kind' b))
  where
    go : (r q : Result Totals Refusal) → Runs P d m r after → Runs Q d m' q after' → given r ≡ given q → Agree d r after q after'
    go (Err r) (Err q) a b e = same_Some _ _ e
    go (Err r) (Ok u) a b e = none-some _ (sym e)
    go (Ok t) (Err q) a b e = none-some _ e
    go (Ok t) (Ok u) a b e =
        let same = plan_unique d (at after.slots) (at after'.slots) a.1.plan b.1.plan in
        (same, same_totals d (at after.slots) (at after'.slots) t u same a.1.counts b.1.counts)

module _ (d : Day) (m m' after : Memory) (q : Result Totals Refusal) (after' : Memory) (room' : Roomy full d (sizes_of m')) (b : Runs full d m' q after') where
  -- Of a day whose stores can't bind.
  -- Where capacities can't either, the uncapped path accepts exactly when the full path does, with the same plan, cost and setups.
  pub uncapped_agrees : (r : Result Totals Refusal) → Roomy uncapped d (sizes_of m) → binding d ≡ None → low_store d ≡ None
      → Runs uncapped d m r after → Agree d r after q after'
  uncapped_agrees r room kind loose a = paths_agree uncapped full d m m' r after q after' refl room room' (rw (kind, loose) refl) refl a b

  -- And so does the equal path where capacities are equal; the full path counts no loads.
  pub equal_agrees : (r : Result (Totals × Loads) Refusal) → Roomy equal d (sizes_of m) → unequal d ≡ None → low_store d ≡ None
      → EqualRuns d m r after → Agree d (path_answer r) after q after'
  equal_agrees r room kind loose a = paths_agree equal full d m m' (path_answer r) after q after' refl room room' (rw (kind, loose) refl) refl a.runs b

  -- And so does the free path where setups cost nothing.
  pub free_agrees : (r : Result Totals Refusal) → Roomy free d (sizes_of m) → paid_setup d ≡ None → low_store d ≡ None
      → Runs free d m r after → Agree d r after q after'
  free_agrees r room kind loose a = paths_agree free full d m m' r after q after' refl room room' (rw (kind, loose) refl) refl a b
