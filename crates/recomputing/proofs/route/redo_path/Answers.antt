use Rattle.std.proofs.Common.{arith}
use Rattle.recomputing.proofs.Turning.{redone_more}
use Rattle.recomputing.proofs.route.redo_path.Goals as goal

pub loop-k-preserved : goal.loop-k-preserved
loop-k-preserved g c w =
    redone_more (g.S.Space.meaning c.args.below.now) (g.S.Space.meaning c.loop-k.below) (g.S.Space.meaning c.redo.new.self) c.args.trace.now.path c.args.from c.args.to c.loop-k.k c.alternative.result w (omega arith) (c.loop-k.invariant w) c.alternative.ensures.value c.redo.ensures.1
