use Rattle.std.proofs.Common.{◌≡◌, ◌≤◌, drop}
use Rattle.scripts.specs.Numbers.{value_after, capped}
use Rattle.scripts.proofs.numbers.read_number.Given as goal

abbrev pub invariant-loop-byte : goal.invariant-loop-byte
invariant-loop-byte l =
    (l.number ≤ 1000000000000)
    × (capped 1000000000000 (value_after l.number (drop l.byte-index l.text)) ≡ capped 1000000000000 (value_after 0 l.text))
