-- Laws of words and strings, each at the place where a loop or a test stands. Assumes nothing.
use mathlib.Core.Path.{◌≡◌, refl, ◌∙◌}
use mathlib.Core.List.{List}
use mathlib.Core.Bool.{Bool, true, false}
use Prim.Native.Nat.{ℕ, ◌+◌, ◌≤◌, ◌<◌}
use native.Mathlib.Omega.{arith}
use lib.ListN.{length, drop, length-drop}
use lib.Seq.{drop-drop}
use borrow.Author.Tests.{le-leb, lt-leb}
use Rattle.base.specs.declared.Refusal.TheVariants.{NoLexeme}
use Rattle.base.specs.Answers.{refused}
use Rattle.base.proofs.Runs.{all_own, begins_as, run_begins, run_alone, run_mixed, run_begun, small_is, letter_is, digit_is, digit_not_small, digit_apart, letter_apart, letters_first, digits_first}
use Rattle.base.specs.Bytes.{small, letter, digit, letter_or_digit, no_quote, run, begins, all, value}
use Rattle.lexeme.specs.Lexemes.{keywords, lit, name, capital_word, word, string, string_at, found}

-- a word at p, where e is the place after the letters, or the digits, that it begins with
module _ (text : List ℕ) (p e : ℕ) where
  abbrev whole : List ℕ
  whole = run letter_or_digit (drop p text)

  -- what stands after a run that begins at p
  after_run : (such other : ℕ → Bool) {t : Bool} → e ≡ p + length (run such (drop p text)) → begins other (drop e text) ≡ t → begins other (drop (length (run such (drop p text))) (drop p text)) ≡ t
  after_run such other h b = rw (drop-drop (length (run such (drop p text))) p text, ← h) b

  -- a word begins as the text does at p, where a letter or a digit stands
  begun : (first : ℕ → Bool) → ((b : ℕ) → first b ≡ true → letter_or_digit b ≡ true) → begins first (drop p text) ≡ true → begins small whole ≡ begins small (drop p text)
  begun first is b = run_begins letter_or_digit small (drop p text) (begins_as first letter_or_digit is (drop p text) b)

  pub name_alone : e ≡ p + length whole → begins small (drop p text) ≡ true → word p whole ≡ found p (name (record { spelled = whole; place = p })) e
  unfolding word
  name_alone run_ends b = rw (begun small (λ c h. letter_is c (small_is c h)) b, b, run_ends) refl

  module _ (run_ends : e ≡ p + length (run letter (drop p text))) (b : begins letter (drop p text) ≡ true) (not_small : begins small (drop p text) ≡ false) where
    pub capital_alone : begins digit (drop e text) ≡ false → word p whole ≡ found p (capital_word keywords p (run letter (drop p text))) e
    unfolding word
    capital_alone n =
        let same = run_alone letter digit letter_or_digit letters_first (drop p text) (after_run letter digit run_ends n) in
        rw (begun letter letter_is b, not_small, same, all_own letter (drop p text), run_ends) refl

    pub capital_mixed : begins digit (drop e text) ≡ true → word p whole ≡ refused NoLexeme p
    unfolding word
    capital_mixed n = rw (begun letter letter_is b, not_small, run_mixed letter digit letter_or_digit letters_first (drop p text) (after_run letter digit run_ends n), run_begun letter digit letter_or_digit letters_first letter_apart (drop p text) b)

  module _ (run_ends : e ≡ p + length (run digit (drop p text))) (b : begins digit (drop p text) ≡ true) where
    no_name : begins small whole ≡ false
    no_name = begun digit digit_is b ∙ begins_as digit small digit_not_small (drop p text) b

    no_letters : all letter whole ≡ false
    no_letters = run_begun digit letter letter_or_digit digits_first digit_apart (drop p text) b

    pub digits_alone : begins letter (drop e text) ≡ false → word p whole ≡ found p (lit (value 0 (run digit (drop p text)))) e
    unfolding word
    digits_alone n =
        let same = run_alone digit letter letter_or_digit digits_first (drop p text) (after_run digit letter run_ends n) in
        rw (no_name, no_letters, same, all_own digit (drop p text), run_ends) refl

    pub digits_mixed : begins letter (drop e text) ≡ true → word p whole ≡ refused NoLexeme p
    unfolding word
    digits_mixed n = rw (no_name, no_letters, run_mixed digit letter letter_or_digit digits_first (drop p text) (after_run digit letter run_ends n))

-- a string whose opening quote is at p, where e is the place of the next quote, or the text's length
module _ (text : List ℕ) (p e : ℕ) (run_ends : e ≡ p + 1 + length (run no_quote (drop (p + 1) text))) where
  abbrev inside : List ℕ
  inside = run no_quote (drop (p + 1) text)

  pub string_open : length text ≤ e → refused NoLexeme p ≡ string_at p (drop (p + 1) text)
  unfolding string_at
  string_open h = rw (le-leb (length (drop (p + 1) text)) (length inside) (omega (arith, length-drop (p + 1) text)))

  pub string_closed : e < length text → found p (string (record { inside = inside; place = p + 1 })) (e + 1) ≡ string_at p (drop (p + 1) text)
  unfolding string_at
  string_closed h =
      let ends : e + 1 ≡ p + length inside + 2 = omega arith in
      rw (lt-leb (length (drop (p + 1) text)) (length inside) (omega (arith, length-drop (p + 1) text)), ends)
