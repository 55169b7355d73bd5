use Rattle.std.proofs.Common.{◌≡◌, ℕ, ◌<◌, List, subst, arith}
use Rattle.std.proofs.lemmas.Grind.{common_steps}
use Rattle.words.specs.Words.{Proper}
use Rattle.files.specs.Meaning.{bytes_of}
use Rattle.records.specs.Tables.{variable_count, start_word}
use Rattle.table_networks.proofs.Files.{network_sane}
use Rattle.table_networks.proofs.Prices.{priced}
use Rattle.table_networks.proofs.Starts.{none_filled, one_more, all_filled, is_proper}
use Rattle.tables.proofs.problem.calls.TablesProblem.start.Goals as goal

pub loop-i-init : goal.loop-i-init
loop-i-init c = none_filled _

pub loop-i-preserved : goal.loop-i-preserved
loop-i-preserved c =
    let l : c.loop-i.i < 32 = omega (arith, c.variables-i-end.ensures.high, c.loop-i-test.true) in
    let e : c.unwrap_or.result ≡ start_word (bytes_of c.args.self.now.view) c.loop-i.i = grind (arith, common_steps) in
    one_more _ _ _ _ l c.loop-i.invariant e c.unwrap_or.type_inv

pub returns : goal.returns
returns c =
    let bs : List ℕ = bytes_of c.args.self.now.view in
    let e : c.loop-i.i ≡ variable_count bs = omega (arith, c.variables-i-end.ensures.value, c.loop-i.auto.i-end, c.loop-i-test.false) in
    let v = all_filled bs c.loop-i.i c.loop-i.words e c.loop-i.invariant in
    let W : ℕ → Type 0 = (λ w. Proper w c.loop-i.words) in
    let S : List ℕ → Type 0 = (λ ws. Proper (variable_count bs) ws) in
    record {
      value = v;
      lawful = record {
        low = omega (arith, c.variables-i-end.ensures.value, c.variables-i-end.ensures.low);
        high = omega (arith, c.variables-i-end.ensures.value, c.variables-i-end.ensures.high);
        sane = network_sane bs c.args.self.now.view.ok;
        proper = subst S v (subst W e (is_proper _ c.loop-i.i c.loop-i.words c.loop-i.invariant));
        priced = priced _ _ _;
      };
    }
