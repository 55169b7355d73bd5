use Rattle.std.proofs.Common.{◌≡◌, Some, rules, sym, ap, ◌∙◌}
use Rattle.std.specs.Option.{option_and_then, option_map}
use Rattle.scripts.specs.Lines.{numbered_call}
use Rattle.scripts.proofs.Fields.{no_words, one_word, two_words, more_words}
use Rattle.scripts.proofs.script.read_line.Goals as goal

pub returns-in_default : goal.returns-in_default
returns-in_default c = no_words _ c.in_default.ensures

pub returns-in_default-next_word : goal.returns-in_default-next_word
returns-in_default-next_word c =
    let m : c.map.result ≡ option_map Some c.plain_call.result = search rules in
    m ∙ (ap (option_map Some) c.plain_call.ensures ∙ one_word _ _ c.in-Some.rest.now c.in-Some.ensures c.in_default-next_word.ensures)

pub returns-in_err-read_byte-in-None : goal.returns-in_err-read_byte-in-None
returns-in_err-read_byte-in-None c =
    c.from_residual.ensures
    ∙ (ap (λ o. option_map Some (option_and_then (numbered_call c.in-Some.word.now) o)) (sym c.in_err-read_byte-in-None.was ∙ c.read_byte.ensures)
    ∙ two_words _ _ c.in-Some.rest.now _ c.in-Some-next_word.rest.now c.in-Some.ensures c.in-Some-next_word.ensures c.in-None.ensures)

pub returns-in_ok-read_byte-in-None : goal.returns-in_ok-read_byte-in-None
returns-in_ok-read_byte-in-None c =
    let m : c.map-in-None.result ≡ option_map Some c.numbered_call.result = search rules in
    m ∙ (ap (option_map Some) c.numbered_call.ensures
    ∙ (ap (λ o. option_map Some (option_and_then (numbered_call c.in-Some.word.now) o)) (sym c.in_ok-read_byte-in-None.was ∙ c.read_byte.ensures)
    ∙ two_words _ _ c.in-Some.rest.now _ c.in-Some-next_word.rest.now c.in-Some.ensures c.in-Some-next_word.ensures c.in-None.ensures))

pub returns-in-Some-next_word-2 : goal.returns-in-Some-next_word-2
returns-in-Some-next_word-2 c =
    more_words _ _ c.in-Some.rest.now _ c.in-Some-next_word.rest.now _ _ c.in-Some.ensures c.in-Some-next_word.ensures c.in-Some-next_word-2.ensures
