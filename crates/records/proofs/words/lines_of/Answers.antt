use Rattle.records.proofs.Steps.{chunk_at}
use Rattle.records.proofs.words.lines_of.Goals as goal

pub returns-clause-parts : goal.returns-clause-parts
returns-clause-parts c = λ k h. rw c.as_chunks.ensures.front (chunk_at 136 k _ c.args.bytes.now h)
