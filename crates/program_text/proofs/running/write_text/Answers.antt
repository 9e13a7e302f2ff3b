-- What was written is the text of what was read.
use Rattle.std.proofs.Common.{◌≡◌, ℕ, ◌≤◌, Result, Ok, Err, arith, length-take-le}
use Rattle.std.specs.Result.{MatchResult, is_ok}
use Rattle.std.proofs.lemmas.Result.{IfOk-at_ok}
use Rattle.program_text.proofs.running.write_text.Goals as goal

-- what is there where an error may have another name was there before
ok_before : {T E F : Type 0} (Q : E → Type 0) (r : Result T E) (s : Result T F) (x : T) → MatchResult r (λ y. s ≡ Ok y) Q → is_ok s ≡ is_ok r → s ≡ Ok x
    → r ≡ Ok x
ok_before Q (Ok y) s x cases ok is = cc
ok_before Q (Err e) s x cases ok is = cc

pub returns : goal.returns
returns g c =
    let n = c.in_ok-n.n in
    let read = ok_before _ _ _ n c.map_err.ensures.cases c.map_err.ensures.variant c.in_ok-n.was in
    let wrote = ok_before _ _ _ tt c.map_err-2.ensures.cases c.map_err-2.ensures.variant c.in_ok-map_err.was in
    let within = IfOk-at_ok (λ (k : ℕ). k ≤ 1838) read c.read.ensures.bound in
    record {
      file = _;
      needs = _;
      id = _;
      text = _;
      read = IfOk-at_ok _ read c.read.ensures.bytes;
      all = λ short. IfOk-at_ok _ read c.read.ensures.end (omega (arith, length-take-le n c.read.new.room (omega arith)));
      says = c.say_text_of.ensures;
      put = rw (c.as_bytes.ensures.value, c.deref.ensures.0) at (IfOk-at_ok _ wrote c.write_all.ensures.bytes);
    }
