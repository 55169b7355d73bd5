use Rattle.std.proofs.Common.{◌≡◌, true, false, ◌∙◌, sym, rules}
use Rattle.std.specs.List.{list_all}
use borrow.Author.Tests.{tests}
use Rattle.std.proofs.lemmas.Iterator.{YieldsList-from_slice}
use Rattle.std.proofs.lemmas.Iterator.Search.{all_from_yields_List}
use Rattle.records.specs.Checks.{zeros}
use Rattle.records.proofs.Steps.{zeros_by_blocks}
use Rattle.records.proofs.checks.all_zero.Goals as goal

pub returns-then-all : goal.returns-then-all
returns-then-all c =
    let bs = c.as_chunks.result.0.now in
    let rest = c.as_chunks.result.1.now in
    let a : c.all.result ≡ list_all zeros bs = all_from_yields_List zeros _ _ c.all.result c.all.ensures.ran (YieldsList-from_slice bs cc) (λ x b q k. search (rules, tests)) in
    let z = zeros_by_blocks 16 _ c.args.part.now rest bs c.as_chunks.ensures.front c.as_chunks.ensures.back in
    let t : list_all zeros bs ≡ true = sym a ∙ c.if-all.true in
    c.block_zero.ensures ∙ sym (rw t at z)

pub returns-else-all : goal.returns-else-all
returns-else-all c =
    let bs = c.as_chunks.result.0.now in
    let rest = c.as_chunks.result.1.now in
    let a : c.all.result ≡ list_all zeros bs = all_from_yields_List zeros _ _ c.all.result c.all.ensures.ran (YieldsList-from_slice bs cc) (λ x b q k. search (rules, tests)) in
    let z = zeros_by_blocks 16 _ c.args.part.now rest bs c.as_chunks.ensures.front c.as_chunks.ensures.back in
    let f : list_all zeros bs ≡ false = sym a ∙ c.if-all.false in
    c.if-all.false ∙ sym (rw f at z)
