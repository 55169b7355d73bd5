use Rattle.std.proofs.Common.{rules, tests, sym, ap, ◌∙◌, ◌==◌}
use Rattle.std.specs.Option.{option_and_then}
use Rattle.std.proofs.lemmas.Iterator.Splits.{YieldsList-from_slice_split}
use Rattle.scripts.specs.Stacks.{numbered_part}
use Rattle.scripts.proofs.Fields.{part_by}
use Rattle.scripts.proofs.Taken.{one, two, more}
use Rattle.scripts.proofs.stack.read_part.Goals as goal

pub returns-in-Some-None-default : goal.returns-in-Some-None-default
returns-in-Some-None-default c =
    c.plain_part.ensures ∙ part_by _ _ (one _ _ _ c.in-Some-None-default.is-0 c.next.ensures.steps _ _ c.in-Some-None-default.is-1 c.next-2.ensures.steps
    (YieldsList-from_slice_split _ (λ b. b == 58) c.args.text.now c.split-fields.ensures.rest c.split-fields.ensures.done c.split-fields.ensures.closure (λ x r q k. search (rules, tests))))

pub returns-in_err-read_byte-in-Some-Some-None : goal.returns-in_err-read_byte-in-Some-Some-None
returns-in_err-read_byte-in-Some-Some-None c =
    c.from_residual.ensures
    ∙ (ap (option_and_then (numbered_part c.in-Some-Some-None.name.now)) (sym c.in_err-read_byte-in-Some-Some-None.was ∙ c.read_byte.ensures)
    ∙ part_by _ _ (two _ _ _ c.in-Some-Some-None.is-0 c.next.ensures.steps _ _ _ c.in-Some-Some-None.is-1 c.next-2.ensures.steps _ _ c.in-Some-Some-None.is-2 c.next-3.ensures.steps
    (YieldsList-from_slice_split _ (λ b. b == 58) c.args.text.now c.split-fields.ensures.rest c.split-fields.ensures.done c.split-fields.ensures.closure (λ x r q k. search (rules, tests)))))

pub returns-in_ok-read_byte-in-Some-Some-None : goal.returns-in_ok-read_byte-in-Some-Some-None
returns-in_ok-read_byte-in-Some-Some-None c =
    c.numbered_part.ensures
    ∙ (ap (option_and_then (numbered_part c.in-Some-Some-None.name.now)) (sym c.in_ok-read_byte-in-Some-Some-None.was ∙ c.read_byte.ensures)
    ∙ part_by _ _ (two _ _ _ c.in-Some-Some-None.is-0 c.next.ensures.steps _ _ _ c.in-Some-Some-None.is-1 c.next-2.ensures.steps _ _ c.in-Some-Some-None.is-2 c.next-3.ensures.steps
    (YieldsList-from_slice_split _ (λ b. b == 58) c.args.text.now c.split-fields.ensures.rest c.split-fields.ensures.done c.split-fields.ensures.closure (λ x r q k. search (rules, tests)))))

pub returns-in_default : goal.returns-in_default
returns-in_default c =
    part_by _ _ (more _ _ _ c.in_default.is-0 c.next.ensures.steps _ _ _ c.in_default.is-1 c.next-2.ensures.steps _ _ _ c.in_default.is-2 c.next-3.ensures.steps
    (YieldsList-from_slice_split _ (λ b. b == 58) c.args.text.now c.split-fields.ensures.rest c.split-fields.ensures.done c.split-fields.ensures.closure (λ x r q k. search (rules, tests)))).1
