use Rattle.std.proofs.Common.{◌≡◌, ℕ, ◌^◌, ◌<◌, ◌&&◌, List, length, get_or, sym, ap, ◌∙◌, subst, arith, rules}
use Rattle.words.specs.Words.{has, Change}
use Rattle.files.specs.Meaning.{bytes_of}
use Rattle.records.specs.Tables.{table_x, table_row}
use Rattle.records.proofs.Facts.{variables_few}
use Rattle.table_networks.specs.Tables.{Table, table_supports}
use Rattle.table_networks.specs.Files.{table_at}
use Rattle.table_networks.proofs.Tabled.{revised, differ, differ_none}
use Rattle.tables.proofs.problem.calls.TablesConstraints.revise.Goals as goal

pub returns-in_default-clause-differ : goal.returns-in_default-clause-differ
returns-in_default-clause-differ c = differ_none _

pub returns : goal.returns
returns c =
    let bs : List ℕ = bytes_of c.args.self.now.view in
    let ends = c.in-Ok.ensures in
    let x : ℕ = c.from-i.result in
    let y : ℕ = c.from-j.result in
    let ex : x ≡ table_x bs c.args.k = c.from-i.ensures ∙ ends.0 in
    let few = variables_few bs c.args.self.now.view.ok in
    let n : List ℕ = c.args.node.now.words in
    let t : Table = record { x = x; y = y; row = table_row bs c.args.k } in
    let same : t ≡ table_at bs c.args.k =
    ap (λ (v : ℕ). record { x = v; y = y; row = table_row bs c.args.k }) ex ∙ ap (λ (v : ℕ). record { x = table_x bs c.args.k; y = v; row = table_row bs c.args.k }) (c.from-j.ensures ∙ ends.1) in
    let long : length n ≡ 32 = search rules in
    let sx : get_or n x 0 < 2 ^ 32 = search rules in
    let sy : get_or n y 0 < 2 ^ 32 = search rules in
    let inx : x < length n = omega (arith, ends.3, c.from-i.ensures) in
    let iny : y < length n = omega (arith, ends.4, c.from-j.ensures) in
    let apart : x ≡ y → ⊥ = (λ e. ends.5 (sym c.from-i.ensures ∙ e ∙ c.from-j.ensures)) in
    let cx = c.change.ensures.one (omega (arith, inx, c.from.ensures, c.from-i.ensures)) in
    let cy = c.change-2.ensures.one (omega (arith, iny, c.from-2.ensures, c.from-j.ensures)) in
    record {
      revised = λ _ i v. revised t n _ _ inx iny apart sx sy c.partners-kx.ensures i v ∙ ap (λ (u : Table). has n i v && table_supports u n i v) same;
      nothing = λ l. absurd (omega (arith, ends.2));
      differ = differ t n _ _ inx iny apart _ _
          (let P : ℕ → Type 0 = (λ i. Change i (get_or n x 0) c.partners-kx.result.0 c.change.result) in subst P (c.from.ensures ∙ sym c.from-i.ensures) cx)
          (let P : ℕ → Type 0 = (λ i. Change i (get_or n y 0) c.partners-kx.result.1 c.change-2.result) in subst P (c.from-2.ensures ∙ sym c.from-j.ensures) cy);
    }
