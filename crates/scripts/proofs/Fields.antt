use Rattle.std.proofs.Common.{◌≡◌, ℕ, List, [], ◌∷◌, Some, None, ◌==◌}
use Rattle.std.specs.List.{slice_split}
use Rattle.std.specs.Option.{option_and_then, option_map}
use Rattle.scripts.specs.Numbers.{capped, value}
use Rattle.scripts.specs.Parts.{words}
use Rattle.scripts.specs.Lines.{plain_call, numbered_call, reading_of}
use Rattle.scripts.specs.Stacks.{part_of, part_of_fields}

-- a line by its words, one after another
module _ (line : List ℕ) where
  pub no_words : words line ≡ [] → Some None ≡ reading_of line
  unfolding reading_of
  no_words e = rw e

  pub one_word : (word rest : List ℕ) → words line ≡ word ∷ words rest → words rest ≡ [] → option_map Some (plain_call word) ≡ reading_of line
  unfolding reading_of
  one_word word rest e f = rw (e, f)

  pub two_words : (word rest number end : List ℕ) → words line ≡ word ∷ words rest → words rest ≡ number ∷ words end → words end ≡ []
      → option_map Some (option_and_then (numbered_call word) (capped 255 (value number))) ≡ reading_of line
  unfolding reading_of
  two_words word rest number end e f g = rw (e, f, g)

  pub more_words : (word rest number end more : List ℕ) (ws : List (List ℕ)) → words line ≡ word ∷ words rest → words rest ≡ number ∷ words end → words end ≡ more ∷ ws
      → None ≡ reading_of line
  unfolding reading_of
  more_words word rest number end more ws e f g = rw (e, f, g)

-- a part by its fields
pub part_by : (text : List ℕ) (fs : List (List ℕ)) → slice_split (λ b. b == 58) text ≡ fs → part_of_fields fs ≡ part_of text
unfolding part_of
part_by text fs e = rw e
