use Rattle.std.specs.Prelude.{ℕ, List, ◌++◌, Ok, Err, Result}
use Rattle.records.specs.declared.refusal.Refusal.{Refusal}
use Rattle.records.specs.Refusals.{refused}
use Rattle.answers.specs.Texts.{end, survey_text}
use Rattle.answers.specs.declared.Survey.{Survey}

-- the number of the cause, and the record that it names
abbrev pub refusal_text : Refusal → List ℕ
refusal_text e = refused e ++ end

abbrev pub text_of : Result Survey Refusal → List ℕ
text_of (Ok s) = survey_text s
text_of (Err e) = refusal_text e
