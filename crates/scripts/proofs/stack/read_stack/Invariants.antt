use Rattle.std.proofs.Common.{◌≡◌, length, drop, ◌==◌}
use Rattle.std.specs.List.{slice_split}
use Rattle.scripts.specs.Stacks.{stack_of, stack_under}
use Rattle.scripts.proofs.stack.read_stack.Given as goal

abbrev pub invariant-loop-part : goal.invariant-loop-part
invariant-loop-part l = stack_under l.above (drop (length l.yielded) (slice_split (λ b. b == 47) l.text)) ≡ stack_of l.text
