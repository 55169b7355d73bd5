use Rattle.std.specs.Prelude.{◌≡◌, ℕ, ◌<◌, ◌⊎◌, Result, MatchResult}
use Rattle.records.specs.declared.kinds.Kind.{Kind}
use Rattle.records.specs.declared.kinds.Kind.TheVariants.{Variable, Table, Objective, Sum}
use Rattle.records.specs.declared.kinds.UnknownKind.{UnknownKind}
use Rattle.records.specs.declared.refusal.Cause.{Cause}
use Rattle.records.specs.declared.refusal.Cause.TheVariants as cause

-- the byte that stands for a kind
abbrev pub kind_byte : Kind → ℕ
kind_byte Variable = 1
kind_byte Table = 2
kind_byte Objective = 3
kind_byte Sum = 4

-- the result is the kind that the byte stands for, or the byte itself where it stands for none
abbrev pub Decodes : ℕ → Result Kind UnknownKind → Type 0
Decodes byte r = MatchResult r (λ kind. kind_byte kind ≡ byte) (λ e. (e.0 ≡ byte) × ((byte ≡ 0) ⊎ (4 < byte)))

-- a record of no kind is refused for its kind
abbrev pub ByKind : UnknownKind → Cause → Type 0
ByKind e c = c ≡ cause.Kind
