-- Each row of the marked days is right. Main statement: `marked_right`. One test is computed over the table; what it gives is the proof.
-- Assumes nothing.
use Rattle.std.specs.Prelude.{◌≡◌, refl, Bool, true, false, ℕ, zero, suc, ltb, length, Option, None, Some, option_map}
use Rattle.std.proofs.Common.{ap, ◌∙◌}
use Rattle.std.proofs.Math.Logic.Dec
use Rattle.std.proofs.Math.Decide.{dec_le, dec_lt, ℕ_discrete}
use Rattle.day.specs.declared.Refusal.{Refusal}
use Rattle.day.specs.declared.Refusal.TheVariants.{PaidSetup}
use Rattle.day.specs.Sums.{at}
use Rattle.day.specs.Find.{find}
use Rattle.day.specs.Day.{Day, periods, max_total}
use Rattle.day.specs.Plan.{cost, setups}
use Rattle.day.specs.Refusals.{number_of, period_of, refuse, refuse_at, or_next, first, FirstShort, paid, low_store}
use Rattle.day.specs.Outcome.{day_refusal, roomy_first}
use Rattle.day.specs.Search.{given, sure, both, iff?, implies?, both_below, below?, keeps?, smaller?, precedes?, optimal?, none?}
use Rattle.day.specs.Marked.{Claim, planned, costs, refused, Given, ClaimHolds, All, all?, marked, day_of_row}

-- what the day brings by itself is what every such path gives
brought : (d : Day) {o : Option Refusal} → day_refusal max_total d ≡ o → Given d o
brought d e P s limit room =
    roomy_first P d s room ∙ ap (λ (o : Option Refusal). or_next o (first (P.own d))) (ap (λ (l : ℕ). day_refusal l d) limit ∙ e)

-- the tests of what it brings: nothing; 7 with period i
abbrev none_brought? : (o : Option Refusal) → Option (o ≡ None)
none_brought? None = Some refl
none_brought? (Some q) = None

-- for the periods before it the capacities are such amounts, as no row has a store limit
abbrev brought? : (d : Day) (k : ℕ) (o : Option Refusal) → Option ((q : Refusal) × ((o ≡ Some q) × (FirstShort d q × (period_of q ≡ suc k))))
brought? d k None = None
brought? d k (Some q) =
    option_map
    (λ p.
    let w = p.1.1 in
    let first : FirstShort d q =
    record {
      k = k;
      number = p.0;
      period = p.1.0;
      inside = w.0;
      fails = w.1.0;
      earlier = λ j l. (at d.capacity, w.1.1 j l);
    } in
    (q, (refl, (first, p.1.0))))
    (both (sure (ℕ_discrete (number_of q) 7))
    (both (sure (ℕ_discrete (period_of q) (suc k)))
    (both (sure (dec_lt k (periods d))) (both (none? d (suc k)) (sure (below? (λ j. keeps? d (suc j) (at d.capacity)) k))))))

-- the test of what the free path refuses: nothing; 15 with period 1
abbrev paid? : (o : Option ℕ) (b : Bool) → Option (refuse_at PaidSetup o ≡ refuse b (PaidSetup 1))
paid? None false = Some refl
paid? None true = None
paid? (Some zero) true = Some refl
paid? (Some zero) false = None
paid? (Some (suc k)) b = None

-- the test of a claim
abbrev right? : (d : Day) (c : Claim) → Option (ClaimHolds d c)
right? d (planned x c s) =
    option_map
    (λ p.
    let q = p.1.1.1 in
    record { given = brought d p.0; paid = p.1.0; stores = p.1.1.0; amounts = q.0; plan = q.1.0; cost = q.1.1.0; setups = q.1.1.1 })
    (both (none_brought? (day_refusal max_total d))
    (both (paid? (find (paid d) (periods d)) (ltb 0 (at d.setup 0)))
    (both (none_brought? (low_store d))
    (both (sure (ℕ_discrete (length x) (periods d)))
    (both (optimal? d (at x)) (both (sure (ℕ_discrete (cost d (at x)) c)) (sure (ℕ_discrete (setups (periods d) (at x)) s))))))))
right? d (costs x c) =
    option_map (λ p. record { feasible = p.0; cost = p.1 }) (both (sure (keeps? d (periods d) (at x))) (sure (ℕ_discrete (cost d (at x)) c)))
right? d (refused zero) = None
right? d (refused (suc k)) =
    option_map
    (λ p. let q = p.0 in record { refusal = q.0; given = brought d q.1.0; first = q.1.1.0; period = q.1.1.1; none = p.1 })
    (both (brought? d k (day_refusal max_total d)) (none? d (periods d)))

-- Every row's claims hold of the written meaning.
pub marked_right : All (λ r. All (ClaimHolds (day_of_row r)) r.claims) marked
unfolding iff? implies? both_below below? Dec.and keeps? smaller? precedes? dec_le dec_lt ℕ_discrete
marked_right = given (all? (λ r. all? (right? (day_of_row r)) r.claims) marked) refl
