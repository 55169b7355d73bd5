use Rattle.std.specs.Prelude.{◌≡◌, ℕ, List, Result}
use Rattle.records.specs.declared.refusal.Refusal.{Refusal}
use Rattle.answers.specs.declared.Survey.{Survey}
use Rattle.surveys.specs.Surveys.{Surveyed}
use Rattle.texts.specs.Texts.{text_of}

-- the text is that of what is said of the file
pub record Reports (bs text : List ℕ) : Type 0 where
  pub answer : Result Survey Refusal
  pub surveyed : Surveyed bs answer
  pub written : text ≡ text_of answer
