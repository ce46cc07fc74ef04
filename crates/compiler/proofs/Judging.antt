-- Demand 2, of a text: the paper's answer is worked out by the reader of states, so that each text has an answer, and one alone. Assumes nothing.
use mathlib.Core.Path.{◌≡◌, refl, sym, ◌∙◌}
use mathlib.Core.List.{List}
use mathlib.Core.Logic.{◌↔◌}
use mathlib.Core.Bool.{Bool, true, false, cond}
use Prim.Native.Nat.{ℕ, ◌/◌, ◌≤◌}
use borrow.Author.Tests.{ltb-true, ltb-false, lt-ltb, le-ltb}
use lib.Dec.{ltb}
use lib.ListN.{length}
use Rattle.limits.specs.Limits.{Limits}
use Rattle.base.specs.declared.Refusal.TheVariants.{TooLong, TooMuchCode}
use Rattle.base.specs.Answers.{Answer, given, refused, pass}
use Rattle.lexeme.specs.Lexemes.{Name, Placed, lexemes}
use Rattle.lexeme.proofs.Ahead.{lexemes_end}
use Rattle.sentence.specs.Sentences.{Sen, command}
use Rattle.sentence.proofs.Reader.{read}
use Rattle.sentence.proofs.Refusals.{accepts, refuses}
use Rattle.compiler.specs.Compiled.{Accepted, code_of_text, over_cells, Lexed, Parsed, Named, Judged, too_long, no_lexemes, no_program, not_named, too_much_code, accepted, Compiled, no_code, no_room, fits, WithAnswer}
use Rattle.compiler.specs.inner.Measured.{at_most, measured}

unfoldable pub short_enough : ℕ → List ℕ → Answer (Unit {0})
short_enough limit text = cond (ltb limit (length text)) (refused TooLong 0) (given tt)

-- the answer, worked out
unfoldable pub judged : Limits → List ℕ → Answer Accepted
judged limits text =
    pass (short_enough limits.text text) λ _.
    pass (lexemes limits.sizes text) λ ls.
    measured limits.nesting limits.declarations limits.instructions ls

unfoldable pub compiled : Limits → List ℕ → ℕ → Answer Accepted
compiled limits text n = pass (judged limits text) (at_most (n / 2))

module _ (limits : Limits) (text : List ℕ) where
  -- ---- it is the paper's

  by_code : (a : Accepted) → Named limits text a → Judged limits text (at_most limits.instructions a)
  unfolding at_most
  by_code a n = by (ltb limits.instructions (length (code_of_text a))) refl
    where
      by : (b : Bool) → ltb limits.instructions (length (code_of_text a)) ≡ b → Judged limits text (cond b (refused TooMuchCode 0) (given a))
      by true e = too_much_code n (ltb-true _ _ e)
      by false e = accepted n (ltb-false _ _ e)

  by_names : (m : Sen Name command) → Parsed limits text m → (r : Answer Accepted) → over_cells limits.declarations m ≡ r → Judged limits text (pass r (at_most limits.instructions))
  unfolding pass
  by_names m p (given a) e = by_code a (record { tree = m; parsed = p; are = e })
  by_names m p (refused why q) e = not_named p e

  by_sentences : (ls : List Placed) → Lexed limits text ls → (r : Answer (Sen Name command)) → read limits.nesting ls ≡ r → Judged limits text (pass r λ m. pass (over_cells limits.declarations m) (at_most limits.instructions))
  unfolding pass
  by_sentences ls l (given m) e =
      let w = (accepts limits.nesting ls m).0 e in
      by_names m (record { from = ls; lexed = l; whole = w.0; shallow = w.1 }) (over_cells limits.declarations m) refl
  by_sentences ls l (refused why p) e =
      let z = lexemes_end limits.sizes text ls l.are in
      no_program l ((refuses limits.nesting ls z.0 (length text) z.1 why p).0 e)

  pub measured_so : (ls : List Placed) → Lexed limits text ls → Judged limits text (measured limits.nesting limits.declarations limits.instructions ls)
  unfolding measured
  measured_so ls l = by_sentences ls l (read limits.nesting ls) refl

  by_lexemes : length text ≤ limits.text → (r : Answer (List Placed)) → lexemes limits.sizes text ≡ r → Judged limits text (pass r λ ls. measured limits.nesting limits.declarations limits.instructions ls)
  unfolding pass
  by_lexemes s (given ls) e = measured_so ls (record { short = s; are = e })
  by_lexemes s (refused why p) e = no_lexemes s e

  pub judged_so : Judged limits text (judged limits text)
  unfolding judged short_enough pass
  judged_so = by (ltb limits.text (length text)) refl
    where
      by : (b : Bool) → ltb limits.text (length text) ≡ b → Judged limits text (pass {A = Unit {0}} (cond b (refused TooLong 0) (given tt)) λ _. pass (lexemes limits.sizes text) λ ls. measured limits.nesting limits.declarations limits.instructions ls)
      by true e = too_long (ltb-true _ _ e)
      by false e = by_lexemes (ltb-false _ _ e) (lexemes limits.sizes text) refl

  -- ---- and no other is

  of_lexed : {ls : List Placed} → Lexed limits text ls → judged limits text ≡ measured limits.nesting limits.declarations limits.instructions ls
  unfolding judged short_enough pass
  of_lexed l = rw (le-ltb limits.text (length text) l.short, l.are)

  of_parsed : {m : Sen Name command} → Parsed limits text m → judged limits text ≡ pass (over_cells limits.declarations m) (at_most limits.instructions)
  unfolding measured pass
  of_parsed {m} p = of_lexed p.lexed ∙ rw ((accepts limits.nesting p.from m).1 (p.whole, p.shallow))

  of_named : {a : Accepted} → Named limits text a → judged limits text ≡ at_most limits.instructions a
  unfolding pass
  of_named n = of_parsed n.parsed ∙ rw n.are

  pub judged_one : {a : Answer Accepted} → Judged limits text a → judged limits text ≡ a
  unfolding judged short_enough pass measured at_most
  judged_one (too_long h) = rw (lt-ltb limits.text (length text) h)
  judged_one (no_lexemes s e) = rw (le-ltb limits.text (length text) s, e)
  judged_one (no_program {ls} {why} {p} l r) =
      let z = lexemes_end limits.sizes text ls l.are in
      of_lexed l ∙ rw ((refuses limits.nesting ls z.0 (length text) z.1 why p).1 r)
  judged_one (not_named p e) = of_parsed p ∙ rw e
  judged_one (too_much_code {a} n h) = of_named n ∙ rw (lt-ltb limits.instructions (length (code_of_text a)) h)
  judged_one (accepted {a} n h) = of_named n ∙ rw (le-ltb limits.instructions (length (code_of_text a)) h)

  -- ---- with a table of n numbers

  module _ (n : ℕ) where
    pub compiled_so : Compiled limits text n (compiled limits text n)
    unfolding compiled pass at_most
    compiled_so = by (judged limits text) judged_so
      where
        by_room : (a : Accepted) → Judged limits text (given a) → (b : Bool) → ltb (n / 2) (length (code_of_text a)) ≡ b → Compiled limits text n (cond b (refused TooMuchCode 0) (given a))
        by_room a j true e = no_room j (ltb-true _ _ e)
        by_room a j false e = fits j (ltb-false _ _ e)

        by : (r : Answer Accepted) → Judged limits text r → Compiled limits text n (pass r (at_most (n / 2)))
        by (given a) j = by_room a j (ltb (n / 2) (length (code_of_text a))) refl
        by (refused why p) j = no_code j

    pub compiled_one : {a : Answer Accepted} → Compiled limits text n a → compiled limits text n ≡ a
    unfolding compiled pass at_most
    compiled_one (no_code j) = rw (judged_one j)
    compiled_one (no_room {a} j h) = rw (judged_one j, lt-ltb (n / 2) (length (code_of_text a)) h)
    compiled_one (fits {a} j h) = rw (judged_one j, le-ltb (n / 2) (length (code_of_text a)) h)

  -- ---- what is promised of a text

  -- one answer, and one with a table
  pub one_judged : {a b : Answer Accepted} → Judged limits text a → Judged limits text b → a ≡ b
  one_judged j k = sym (judged_one j) ∙ judged_one k

  pub one_compiled : (n : ℕ) {a b : Answer Accepted} → Compiled limits text n a → Compiled limits text n b → a ≡ b
  one_compiled n c d = sym (compiled_one n c) ∙ compiled_one n d

  -- accepted exactly when its lexemes are a Program's, shallow enough, its names declared, and its code fits
  pub accepted_exactly : (a : Accepted) → Judged limits text (given a) ↔ (Named limits text a × (length (code_of_text a) ≤ limits.instructions))
  accepted_exactly a = (to, λ h. accepted h.0 h.1)
    where
      to : Judged limits text (given a) → Named limits text a × (length (code_of_text a) ≤ limits.instructions)
      to (accepted n h) = (n, h)

-- what is so of the answer, from what is
pub with_answer : {Given So Then : Answer Accepted → Type 0} → WithAnswer Given So → ((a : Answer Accepted) → Given a → So a → Then a) → WithAnswer Given Then
with_answer w f = record { answer = w.answer; is_given = w.is_given; so = f w.answer w.is_given w.so }
