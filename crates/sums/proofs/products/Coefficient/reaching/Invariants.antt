use Rattle.words.specs.Values.{left}
use Rattle.sum_networks.proofs.Reached.{Seen}
use Rattle.sums.proofs.products.Coefficient.reaching.Given as goal

abbrev pub invariant-loop-value : goal.invariant-loop-value
invariant-loop-value l = Seen l.self.value l.word l.need l.yielded (left l.value-iterator) l.supported
