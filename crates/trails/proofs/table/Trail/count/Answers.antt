use Rattle.std.proofs.Common.{reverse, sym, ◌∙◌}
use Rattle.std.proofs.lemmas.List.{length-reverse}
use Rattle.trails.proofs.Kept.{length_parts}
use Rattle.trails.proofs.table.Trail.count.Goals as goal

pub returns : goal.returns
returns c =
    let t = c.args.self.now in
    c.len.ensures.value ∙ sym (length_parts t.entries (reverse t.marks.items) ∙ length-reverse t.marks.items)
