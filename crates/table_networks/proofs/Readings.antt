use Rattle.std.proofs.Common.{ℕ, ◌<◌, Result, Ok, Err, MatchResult, inl, inr, refl, arith}
use Rattle.std.specs.Result.{IsOk}
use Rattle.records.specs.declared.refusal.Refusal.{Refusal}
use Rattle.records.specs.Refusals.{MissingOf}

-- what is there is read
pub there_of : {A : Type 0} (r : Result A Refusal) (P : A → Type 0) (i n j k : ℕ) → MatchResult r P (λ e. MissingOf e i n j k) → i < n → j < k → IsOk r
there_of (Ok x) P i n j k m l h = refl
there_of (Err e) P i n j k m l h = elim m [ inl p ↦ absurd (omega (arith, p.2)) | inr p ↦ absurd (omega (arith, p.1.2)) ]
