-- The tidy text has the lexemes of the text, and two tidy texts are equal exactly when the lexemes are alike. Assumes nothing.
use mathlib.Core.Path.{◌≡◌, sym, ap, ◌∙◌}
use mathlib.Core.Logic.{◌↔◌}
use mathlib.Core.List.{List, map}
use Prim.Native.Nat.{ℕ}
use Rattle.base.specs.Answers.{given}
use Rattle.lexeme.specs.Lexemes.{fixed, end, Placed, Sizes, lexemes}
use Rattle.sentence.specs.Grammar.{whats}
use Rattle.spelling.specs.Spelling.{meant, without_end, tidy_text, Alike}
use Rattle.spelling.proofs.Inverse.{Words, words_proper}
use Rattle.spelling.proofs.Proper.{set_out}
use Rattle.spelling.proofs.Reread.{reread, without_last, without_meant, tidy_again, meant_again}

-- the lexemes of the tidy text
abbrev pub tidied : List Placed → List Placed
tidied ls = set_out (without_end (whats ls))

pub tidy_twice : (ls : List Placed) → tidy_text (tidied ls) ≡ tidy_text ls
unfolding tidy_text
tidy_twice ls = tidy_again (without_end (whats ls))

alike_tidy : (ls ms : List Placed) → Alike ls ms → tidy_text ls ≡ tidy_text ms
unfolding Alike tidy_text
alike_tidy ls ms h = without_meant (whats ls) (whats ms) h

module _ (most : Sizes) where
  module _ (text : List ℕ) (ls : List Placed) (are : lexemes most text ≡ given ls) where
    abbrev words : Words most ls
    words = words_proper most text ls are

    pub all_but_end : without_end (whats ls) ≡ words.words
    all_but_end = ap without_end words.split ∙ without_last words.words (fixed end)

    pub tidy_read : lexemes most (tidy_text ls) ≡ given (tidied ls)
    unfolding tidy_text
    tidy_read = rw all_but_end (reread most words.words words.proper words.small)

    tidy_alike : Alike (tidied ls) ls
    unfolding Alike
    tidy_alike = rw (all_but_end, words.split) (meant_again words.words)

  pub equal_exactly : (text text' : List ℕ) (ls ms : List Placed) → lexemes most text ≡ given ls → lexemes most text' ≡ given ms → (tidy_text ls ≡ tidy_text ms) ↔ Alike ls ms
  unfolding Alike
  equal_exactly text text' ls ms l m = (to, alike_tidy ls ms)
    where
      to : tidy_text ls ≡ tidy_text ms → map meant (whats ls) ≡ map meant (whats ms)
      to h =
          let e : given (tidied ls) ≡ given (tidied ms) = sym (tidy_read text ls l) ∙ ap (lexemes most) h ∙ tidy_read text' ms m in
          let same : tidied ls ≡ tidied ms = cc in
          sym (tidy_alike text ls l) ∙ ap (λ (x : List Placed). map meant (whats x)) same ∙ tidy_alike text' ms m
