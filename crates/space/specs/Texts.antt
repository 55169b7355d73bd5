use Rattle.std.specs.Prelude.{ℕ, List, [], ◌++◌, Some, None, codes, decimal, Option}
use Rattle.space.specs.declared.refusal.Refusal.{Refusal}
use Rattle.space.specs.Calls.{named_layer, number}

-- the layer that a refusal names, if it names one
abbrev pub layer_text : Option ℕ → List ℕ
layer_text None = []
layer_text (Some l) = codes " layer " ++ decimal l

-- the number of a refusal, and its layer
abbrev pub refusal_text : Refusal → List ℕ
refusal_text e = codes "refused " ++ (decimal (number e) ++ layer_text (named_layer e))
