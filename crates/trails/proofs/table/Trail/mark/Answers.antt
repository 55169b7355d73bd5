use Rattle.std.proofs.Common.{List, reverse, ap, ◌∙◌, rules}
use Rattle.trails.specs.declared.entry.Mark.{Mark}
use Rattle.trails.specs.Entries.{parts}
use Rattle.trails.proofs.Kept.{marks_more, marks_full}
use Rattle.trails.proofs.table.Trail.mark.Goals as goal

pub returns-then-not-is_full : goal.returns-then-not-is_full
returns-then-not-is_full c =
    let t = c.args.self.now in
    ap (λ (ms : List Mark). parts t.entries (reverse ms)) c.push.ensures.items ∙ (marks_more t.entries t.marks.items c.end-start.result (search rules) t.ok c.end-start.ensures).0

pub returns-else-not-is_full : goal.returns-else-not-is_full
returns-else-not-is_full c =
    let t = c.args.self.now in
    marks_full t.entries t.marks.items (search rules)
