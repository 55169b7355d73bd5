use Rattle.std.specs.Prelude.{◌≡◌, cond, List, [], ◌∷◌, ◌++◌, map, ℕ, ◌-◌, eqb, ℤ, pos, negsuc, length, replicate, get_or}
use Rattle.trees.specs.declared.Status.{Status}
use Rattle.trees.specs.declared.Status.TheVariants.{Failed, Solved, Choice}
use Rattle.nodes.specs.Choosing.{status}
use Rattle.propagation.specs.Networks.{Network}
use Rattle.propagation.specs.Closing.{closure}
use Rattle.problems.specs.Problems.{step}
use Rattle.table_networks.specs.Tables.{tables_network}
use Rattle.sum_networks.specs.Sums.{sums_network}

-- a problem by its constraints and start words, a path from the root, and the node and status that it leads to
pub record Case : Type 0 where
  pub network : Network
  pub start : List ℕ
  pub path : List ℕ
  pub node : List ℕ
  pub seen : Status

-- a node by its first words
abbrev pub first_words : List ℕ → List ℕ
first_words ws = ws ++ replicate (32 - length ws) 0

abbrev pub worked : Network → List ℕ → List ℕ → List ℕ → Status → Case
worked p start path node s = record { network = p; start = first_words start; path = path; node = first_words node; seen = s }

-- one table over variables 0 and 1, by its first two rows
abbrev pub one_table : ℕ → ℕ → Network
one_table m0 m1 = tables_network 2 1 (λ _. record { x = 0; y = 1; row = λ a. cond (eqb a 0) m0 (cond (eqb a 1) m1 0) })

-- one variable without a table
abbrev pub no_table : Network
no_table = tables_network 1 0 (λ _. record { x = 0; y = 0; row = λ _. 0 })

-- one sum, by its coefficients and what it has to reach
abbrev pub one_sum : List ℤ → ℤ → Network
one_sum cs r = sums_network (length cs) 1 (λ _. record { coefficient = λ i. get_or cs i (pos 0); least = r })

-- at least r of three variables are 1
abbrev pub of_three : ℤ → Network
of_three r = one_sum (pos 1 ∷ pos 1 ∷ pos 1 ∷ []) r

abbrev pub cases : List Case
cases =
    worked (one_table 2 1) (3 ∷ 3 ∷ []) [] (3 ∷ 3 ∷ []) (Choice (0, 0))
    ∷ worked (one_table 2 1) (3 ∷ 3 ∷ []) (0 ∷ []) (1 ∷ 2 ∷ []) Solved
    ∷ worked (one_table 0 0) (3 ∷ 3 ∷ []) [] [] Failed
    ∷ worked no_table (4 ∷ []) [] (4 ∷ []) Solved
    ∷ worked (of_three (pos 2)) (3 ∷ 3 ∷ 3 ∷ []) [] (3 ∷ 3 ∷ 3 ∷ []) (Choice (0, 0))
    ∷ worked (of_three (pos 2)) (3 ∷ 3 ∷ 3 ∷ []) (0 ∷ []) (1 ∷ 2 ∷ 2 ∷ []) Solved
    ∷ worked (of_three (pos 2)) (3 ∷ 3 ∷ 3 ∷ []) (1 ∷ []) (2 ∷ 3 ∷ 3 ∷ []) (Choice (1, 0))
    ∷ worked (of_three (pos 2)) (3 ∷ 3 ∷ 3 ∷ []) (1 ∷ 0 ∷ []) (2 ∷ 1 ∷ 2 ∷ []) Solved
    ∷ worked (of_three (pos 2)) (3 ∷ 3 ∷ 3 ∷ []) (1 ∷ 1 ∷ []) (2 ∷ 2 ∷ 3 ∷ []) (Choice (2, 0))
    ∷ worked (of_three (pos 2)) (3 ∷ 3 ∷ 3 ∷ []) (1 ∷ 1 ∷ 0 ∷ []) (2 ∷ 2 ∷ 1 ∷ []) Solved
    ∷ worked (of_three (pos 2)) (3 ∷ 3 ∷ 3 ∷ []) (1 ∷ 1 ∷ 1 ∷ []) (2 ∷ 2 ∷ 2 ∷ []) Solved
    ∷ worked (of_three (pos 3)) (3 ∷ 3 ∷ 3 ∷ []) [] (2 ∷ 2 ∷ 2 ∷ []) Solved
    ∷ worked (of_three (pos 4)) (3 ∷ 3 ∷ 3 ∷ []) [] [] Failed
    ∷ worked (one_sum (negsuc 0 ∷ []) (pos 0)) (3 ∷ []) [] (1 ∷ []) Solved
    ∷ worked (one_sum (pos 2 ∷ negsuc 0 ∷ negsuc 0 ∷ []) (pos 0)) (3 ∷ 3 ∷ 3 ∷ []) (0 ∷ []) (1 ∷ 1 ∷ 1 ∷ []) Solved
    ∷ []

-- the node that a path leads to
abbrev pub follow : Network → List ℕ → List ℕ → List ℕ
follow p n [] = n
follow p n (a ∷ path) = follow p (step p n a) path

abbrev pub reached : Case → List ℕ
reached c = follow c.network (closure c.network c.start) c.path

-- each case leads to its node, which has its status
abbrev pub CasesHold : Type 0
CasesHold =
    (map reached cases ≡ map (λ c. c.node) cases)
    × (map (λ c. status c.network.width c.node) cases ≡ map (λ c. c.seen) cases)
