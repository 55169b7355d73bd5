use Rattle.std.specs.Prelude.{◌≡◌, ℕ, Bool, true, false, cond, List, Some, None, Option, Result, MatchResult, int_lt}
use Rattle.std.specs.Option.{option_map}
use Rattle.trees.specs.declared.Status.{Status}
use Rattle.trees.specs.Trees.{Orderly}
use Rattle.nodes.specs.Choosing.{Says, status, empty_below}
use Rattle.propagation.specs.Networks.{Network}
use Rattle.propagation.specs.Closing.{closure}
use Rattle.problems.specs.Problems.{LeavesSolve, Priced, tree_of}
use Rattle.records.specs.Checks.{sum_file, table_code, sum_code, Lawful, LawfulTable, LawfulSum}
use Rattle.records.specs.Refusals.{Faulty}
use Rattle.records.specs.declared.refusal.Refusal.{Refusal}
use Rattle.table_networks.specs.Costs as costs
use Rattle.answers.specs.declared.Survey.{Survey}
use Rattle.filed.specs.Meaning.{Reading, table_reading, sum_reading}

-- ---- the root of a tree

-- n is the root of the tree, s its status, and b its bound, which a failed node lacks
pub record Seen {C : Type 0} (p : Network) (start : List ℕ) (lower : List ℕ → C) (n : List ℕ) (s : Status) (b : Option C) : Type 0 where
  pub closed : n ≡ closure p start
  pub told : s ≡ status p.width n
  pub says : Says p.width n s
  pub bounded : b ≡ cond (empty_below p.width n) None (Some (lower n))

-- The solved leaves of the tree are the solving assignments, each at just one leaf; the bound of an assignment is its
-- cost; and the tree is in order.
pub record SolvedBy {C : Type 0} (p : Network) (start : List ℕ) (lower cost : List ℕ → C) (less : C → C → Bool) : Type 0 where
  pub leaves : LeavesSolve p start lower
  pub priced : Priced p.width lower cost less
  pub orderly : Orderly (tree_of p start lower) less p.width

-- ---- files

-- s is the survey of the lawful file bs, which says what r reads in it
pub record SurveyBy {C : Type 0} (r : Reading C) (bs : List ℕ) (s : Survey) : Type 0 where
  pub lawful : Lawful r.code bs
  pub sorted : s.sort ≡ r.sort
  pub wide : s.variables ≡ (r.network bs).width
  pub long : s.constraints ≡ (r.network bs).count
  pub least : Option C
  pub seen : Seen (r.network bs) (r.start bs) (r.bound bs) s.root.words s.status least
  pub shown : s.bound ≡ option_map r.price least

-- s is the survey of the lawful table file bs
abbrev pub TableSurvey : List ℕ → Survey → Type 0
TableSurvey = SurveyBy table_reading

-- s is the survey of the lawful sum file bs
abbrev pub SumSurvey : List ℕ → Survey → Type 0
SumSurvey = SurveyBy sum_reading

-- what is said of a file: its survey, or the first check that it fails, each as the first byte says
pub record Surveyed (bs : List ℕ) (r : Result Survey Refusal) : Type 0 where
  pub table : sum_file bs ≡ false → MatchResult r (TableSurvey bs) (Faulty table_code bs)
  pub sum : sum_file bs ≡ true → MatchResult r (SumSurvey bs) (Faulty sum_code bs)

-- the tree of a file, which says what r reads in it, under the order of its costs
abbrev pub TreeBy : {C : Type 0} → Reading C → (C → C → Bool) → List ℕ → Type 0
TreeBy r less bs = SolvedBy (r.network bs) (r.start bs) (r.bound bs) (r.cost bs) less

-- the tree of a lawful table file
abbrev pub TableTree : List ℕ → Type 0
TableTree = TreeBy table_reading costs.less

-- the tree of a lawful sum file
abbrev pub SumTree : List ℕ → Type 0
SumTree = TreeBy sum_reading int_lt

-- the leaves of the tree of each lawful file are its solutions
pub record LeavesOf (bs : List ℕ) : Type 0 where
  pub table : sum_file bs ≡ false → LawfulTable bs → TableTree bs
  pub sum : sum_file bs ≡ true → LawfulSum bs → SumTree bs
