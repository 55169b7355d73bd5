use Rattle.std.specs.Prelude.{ℕ, List, ◌++◌, codes, decimal}
use Rattle.trees.specs.declared.Status.{Status}
use Rattle.trees.specs.declared.Status.TheVariants.{Failed, Solved, Choice}

-- failed, solved, or the variable and the value of the choice
abbrev pub status_text : Status → List ℕ
status_text Failed = codes "failed"
status_text Solved = codes "solved"
status_text (Choice c) = codes "choice " ++ (decimal c.0 ++ (codes " " ++ decimal c.1))
