use mathlib.Core.Path.{refl}
use lib.Count.{count_trailing_zeros, count_leading_zeros, ones, ones_in}
use Rattle.words.specs.Words.{bit}
use Rattle.nodes.specs.Choosing.{fewest, chosen}
use Rattle.propagation.specs.Closing.{closure, sweeps, sweep}
use Rattle.problems.specs.Problems.{step}
use Rattle.sum_networks.specs.Sums.{largest, sum_supports}
use Rattle.cases.proofs.worked_cases.Goals as goal

pub returns : goal.returns
unfolding count_trailing_zeros count_leading_zeros ones ones_in bit fewest chosen closure sweeps sweep step largest sum_supports
returns c = record { count = refl; hold = (refl, refl) }
