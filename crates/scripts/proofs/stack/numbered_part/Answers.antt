use Rattle.std.proofs.Common.{rules, arith}
use Rattle.std.specs.Prelude.{codes}
use Rattle.std.proofs.lemmas.Slice.Eq.{text_from_reads}
use Rattle.scripts.proofs.Names.{other_length, other_byte}
use Rattle.scripts.proofs.stack.numbered_part.Goals as goal

pub returns-in-recomputing : goal.returns-in-recomputing
returns-in-recomputing c = rw (text_from_reads c.args.name.now (codes "recomputing") (omega arith) (search rules))

pub returns-in-copying : goal.returns-in-copying
returns-in-copying c = rw (text_from_reads c.args.name.now (codes "copying") (omega arith) (search rules))

pub returns-in-trailing : goal.returns-in-trailing
returns-in-trailing c = rw (text_from_reads c.args.name.now (codes "trailing") (omega arith) (search rules))

-- all but the last byte of `copying`, of `trailing`, of `recomputing`
pub returns-in_default-2 : goal.returns-in_default-2
returns-in_default-2 c =
    rw (other_length c.args.name.now (codes "recomputing") (λ e. omega arith), other_byte c.args.name.now (codes "copying") 6 (λ e. omega arith), other_length c.args.name.now (codes "trailing") (λ e. omega arith))

pub returns-in_default-9 : goal.returns-in_default-9
returns-in_default-9 c =
    rw (other_length c.args.name.now (codes "recomputing") (λ e. omega arith), other_length c.args.name.now (codes "copying") (λ e. omega arith), other_byte c.args.name.now (codes "trailing") 7 (λ e. omega arith))

pub returns-in_default-18 : goal.returns-in_default-18
returns-in_default-18 c =
    rw (other_byte c.args.name.now (codes "recomputing") 10 (λ e. omega arith), other_length c.args.name.now (codes "copying") (λ e. omega arith), other_length c.args.name.now (codes "trailing") (λ e. omega arith))
