use Rattle.std.specs.Prelude.{ℕ, List, [], ◌∷◌, ◌++◌, codes, decimal}
use Rattle.std.specs.List.{flat_map}
use Rattle.trees.specs.Texts.{status_text}
use Rattle.space.specs.Texts.{refusal_text}
use Rattle.runs.specs.declared.calls.Answer.{Answer}
use Rattle.runs.specs.declared.calls.Answer.TheVariants.{Done, Node, Cost, Number, Refused}

-- the end of a line
abbrev pub end : List ℕ
end = 10 ∷ []

-- a cost in stops and minutes
abbrev pub pair_text : ℕ × ℕ → List ℕ
pair_text c = decimal c.0 ++ (codes "/" ++ decimal c.1)

-- what an answer prints, with costs written by `cost`
abbrev pub printed : {C : Type 0} → (C → List ℕ) → Answer C → List ℕ
printed cost Done = codes "done"
printed cost (Node s) = status_text s
printed cost (Cost c) = cost c
printed cost (Number n) = decimal n
printed cost (Refused e) = refusal_text e

-- its line
abbrev pub answer_text : {C : Type 0} → (C → List ℕ) → Answer C → List ℕ
answer_text cost a = printed cost a ++ end

-- the lines of all answers, in order
abbrev pub answers_text : {C : Type 0} → (C → List ℕ) → List (Answer C) → List ℕ
answers_text cost answers = flat_map (answer_text cost) answers
