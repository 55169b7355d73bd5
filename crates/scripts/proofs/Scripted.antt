use Rattle.std.proofs.Common.{◌≡◌, ℕ, ◌+◌, ◌-◌, ◌<◌, List, [], ◌++◌, length, get_or, take, sym, ap, ◌∙◌, Some, None, Option, Bor, arith, below_more}
use Rattle.std.specs.List.{enumerate_from}
use Rattle.std.specs.Iterator.{Yields}
use Rattle.std.proofs.lemmas.Iterator.{YieldsList}
use Rattle.std.proofs.lemmas.Iterator.Consumers.{YieldsList-turn, YieldsList-end}
use Rattle.std.proofs.lemmas.List.{take_more, take_all, flat_map_more, get_or_default}
use Rattle.std.proofs.lemmas.List.FromFn.{length-enumerate_from, get_or-enumerate_from}
use Rattle.runs.specs.declared.calls.Call.{Call}
use Rattle.scripts.specs.declared.script.ScriptError.{ScriptError}
use Rattle.scripts.specs.declared.script.ScriptError.TheVariants.{Line}
use Rattle.scripts.specs.Lines.{reading_of, call_in, calls_in, lines_of, Known, Script, Refused}

-- a `for` over numbered lines: its line is the next, and at its end it has seen all
module _ {S : Type 0} {steps : S → Option (ℕ × Bor (List ℕ)) → S → Type 0} {s : S} (lines : List (List ℕ)) where
  pub numbered : (xs : List (ℕ × Bor (List ℕ))) (t : S) → Yields steps s xs t → (r : Option (ℕ × Bor (List ℕ))) (u : S) (k : ℕ) (x : Bor (List ℕ)) → r ≡ Some (k, x) → steps t r u
      → YieldsList {B = ℕ × List ℕ} steps (λ p. (p.0, p.1.now)) s (enumerate_from 0 lines)
      → (length xs < length lines) × (k ≡ length xs) × (x.now ≡ get_or lines (length xs) [])
  numbered xs t y r u k x is p e =
      let i = YieldsList-turn e xs t y r u (k, x) is p in
      let l : length xs < length lines = omega (arith, i.0, length-enumerate_from 0 lines) in
      let g = i.1 ∙ get_or-enumerate_from 0 lines (length xs) (k, x.now) l in
      (l, omega (arith, ap (λ (q : ℕ × List ℕ). q.0) g), ap (λ (q : ℕ × List ℕ). q.1) g ∙ get_or_default lines (length xs) x.now [] l)

  pub all_numbered : (xs : List (ℕ × Bor (List ℕ))) (t : S) → Yields steps s xs t → (r : Option (ℕ × Bor (List ℕ))) (u : S) → r ≡ None → steps t r u
      → YieldsList {B = ℕ × List ℕ} steps (λ p. (p.0, p.1.now)) s (enumerate_from 0 lines) → length xs ≡ length lines
  all_numbered xs t y r u is p e = (YieldsList-end e xs t y r u is p).1 ∙ length-enumerate_from 0 lines

-- the first n lines are empty or calls, and these are the calls
pub record ReadUp (text : List ℕ) (n : ℕ) (calls : List Call) : Type 0 where
  pub same : calls ≡ calls_in (take n (lines_of text))
  pub known : (j : ℕ) → j < n → Known text j

pub read_none : (text : List ℕ) (calls : List Call) → calls ≡ [] → ReadUp text 0 calls
read_none text calls e = record { same = e; known = λ j h. absurd (omega arith) }

module _ {text : List ℕ} {n : ℕ} {calls : List Call} (read : ReadUp text n calls) where
  -- these are all lines
  pub read_all : n ≡ length (lines_of text) → Script text calls
  read_all e = record { known = λ j h. read.known j (omega arith); same = read.same ∙ ap calls_in (take_all n (lines_of text) (omega arith)) }

  module _ (line : List ℕ) (h : n < length (lines_of text)) (l : line ≡ get_or (lines_of text) n []) where
    -- the next line is empty or a call too
    pub read_more : (more : List Call) (m : ℕ) (o : Option Call) → m ≡ n + 1 → reading_of line ≡ Some o → more ≡ calls ++ call_in (Some o) → ReadUp text m more
    read_more more m o q k g =
        let t = take_more (lines_of text) n [] h in
        let f = flat_map_more (λ x. call_in (reading_of x)) [] (take n (lines_of text)) (get_or (lines_of text) n []) in
        let c = ap call_in (sym k ∙ ap reading_of l) in
        let s = read.same in
        rw q (record { same = cc; known = below_more (Known text) n read.known (λ e. no_some (sym k ∙ (ap reading_of l ∙ e))) })
      where
        no_some : Some o ≡ None → ⊥
        no_some e = cc

    -- the next line is neither
    pub refused : (e : ScriptError) (k : ℕ) → k ≡ n → e ≡ Line (k + 1) → reading_of line ≡ None → Refused text e
    refused e k i j u = rw (j, i) (record {
      some = omega arith;
      inside = omega arith;
      before = λ m b. read.known m (omega arith);
      here = let g : n + 1 - 1 ≡ n = omega arith in rw (g, sym l) u;
    })
