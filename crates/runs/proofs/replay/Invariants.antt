use Rattle.std.proofs.Common.{◌≡◌, ◌≤◌, ◌++◌, length, drop, vec_items, vec_len, vec_capacity}
use Rattle.runs.specs.Runs.{replies, run}
use Rattle.runs.proofs.replay.Given as goal

-- the answers so far, and then those to the calls that are left
abbrev pub invariant-loop-call : goal.invariant-loop-call
invariant-loop-call g l =
    (length l.calls ≤ vec_capacity l.answers) × (vec_len l.answers ≡ l.call-index)
    × (vec_items l.answers ++ replies (g.S.Space.meaning l.space) (drop l.call-index l.calls) ≡ replies (g.S.Space.meaning l.initial.space) l.calls)
    × (run (g.S.Space.meaning l.space) (drop l.call-index l.calls) ≡ run (g.S.Space.meaning l.initial.space) l.calls)
