-- The kinds of record as the code has them, by the byte that opens each. Assumes nothing.
use Rattle.std.specs.Prelude.{◌≡◌, false, ℕ, Result, MatchResult}
use Rattle.day.specs.declared.Refusal.{Refusal}
use Rattle.day.specs.declared.Refusal.TheVariants.{UnknownKind}
use Rattle.day.specs.File.{period_kind, end_kind, charge_kind, store_kind, stamp_kind, is_kind}
use Rattle.dayfile.specs.declared.kind.Kind.{Kind}
use Rattle.dayfile.specs.declared.kind.Kind.TheVariants as kind

abbrev pub byte_of : Kind → ℕ
byte_of kind.Period = period_kind
byte_of kind.End = end_kind
byte_of kind.Charges = charge_kind
byte_of kind.Store = store_kind
byte_of kind.Stamp = stamp_kind

-- the kind that a byte opens; 10, exactly where it is none
abbrev pub Opens : ℕ → Result Kind Refusal → Type 0
Opens byte r = MatchResult r (λ kind. byte_of kind ≡ byte) (λ e. (is_kind byte ≡ false) × (e ≡ UnknownKind))
