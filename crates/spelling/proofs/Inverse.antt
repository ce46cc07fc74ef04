-- What the lexemes of a text are, by the bytes that they stand in. Assumes nothing.
use mathlib.Core.Path.{◌≡◌, refl, sym, ap, subst, ◌∙◌}
use mathlib.Core.List.{List, [], ◌∷◌, ◌++◌, map}
use mathlib.Core.Bool.{Bool, true, false, not}
use Prim.Native.Nat.{ℕ, suc, ◌+◌, ◌-◌, ◌≤◌, ◌<◌, min}
use native.Mathlib.Numerals.{add-one}
use native.Mathlib.Omega.{arith}
use borrow.Author.Tests.{leb-false, eqb-true}
use lib.Dec.{eqb, leb}
use lib.ListN.{length, get_or, take, drop}
use lib.Seq.{drop-cons}
use Rattle.base.specs.Answers.{Answer, given, refused}
use Rattle.base.specs.Bytes.{bytes, bytes_from, separator, small, letter, digit, letter_or_digit, no_quote, run, begins, all, value}
use Rattle.base.specs.inner.Parts.{part}
use Rattle.base.proofs.Runs.{run_part, all_own, all_first}
use Rattle.lexeme.specs.Lexemes.{Quoted, Lexeme, lit, name, class, string, fixed, Fixed, becomes, end, Placed, Next, lexeme, nothing, found, Keyword, keywords, word, string_at, Symbol, symbols, symbol, colon, next, Sizes, too_large, lexemes}
use Rattle.lexeme.specs.inner.Coded.{code_of, kind_of, coded, what_of, told, Ends}
use Rattle.lexeme.specs.declared.Kind.TheVariants as kind
use Rattle.lexeme.specs.declared.Lexeme as code
use Rattle.std.specs.Prelude.{Ok}
use Rattle.lexeme.proofs.Decoded.{fixed_back}
use Rattle.lexeme.proofs.Symbols.{Each, nil, ◌also◌}
use Rattle.lexeme.proofs.Places.{by_test, word_some, here_cases, capital_cases, symbol_cases, Written, next_fits, Reading, one, none, reading}
use Rattle.lexeme.proofs.Ahead.{Row, ended, one, in_a_row}
use Rattle.sentence.specs.Grammar.{whats}
use Rattle.spelling.specs.Spelling.{always_written, spelled_in, written, at_place}
use Rattle.spelling.proofs.Proper.{Proper}

-- the bytes of a lexeme from the place p up to e: as it is always written; a literal's are digits worth its value
abbrev pub OwnBytes : List ℕ → ℕ → ℕ → Lexeme → Type 0
OwnBytes text p e (lit n) = (all digit (part text p e) ≡ true) × (value 0 (part text p e) ≡ n)
OwnBytes text p e (name x) = part text p e ≡ x.spelled
OwnBytes text p e (class x) = part text p e ≡ x.spelled
OwnBytes text p e (string q) = part text p e ≡ 34 ∷ (q.inside ++ 34 ∷ [])
OwnBytes text p e (fixed f) = part text p e ≡ spelled_in always_written f

-- the lexeme m stands in the text up to e
pub record Stood (text : List ℕ) (m : Placed) (e : ℕ) : Type 0 where
  pub proper : Proper m.what
  pub own : m.what ≡ at_place m.place m.what
  pub bytes : OwnBytes text m.place e m.what

-- ---- the tables

each_equal : {A B : Type 0} (f g : A → B) (xs : List A) → map f xs ≡ map g xs → Each (λ (x : A). f x ≡ g x) xs
each_equal f g [] h = nil
each_equal f g (x ∷ xs) h = (let e : f x ≡ g x = cc in e) also each_equal f g xs (let e : map f xs ≡ map g xs = cc in e)

-- each keyword and each symbol is always written as it is in its table
keywords_spelled : Each (λ (k : Keyword). spelled_in always_written k.means ≡ k.spelled) keywords
unfolding spelled_in always_written symbols keywords bytes bytes_from code_of
keywords_spelled = each_equal (λ (k : Keyword). spelled_in always_written k.means) (λ (k : Keyword). k.spelled) keywords refl

symbols_spelled : Each (λ (y : Symbol). spelled_in always_written y.means ≡ y.byte ∷ []) symbols
unfolding spelled_in always_written symbols keywords bytes bytes_from code_of
symbols_spelled = each_equal (λ (y : Symbol). spelled_in always_written y.means) (λ (y : Symbol). y.byte ∷ []) symbols refl

-- the end has no bytes
no_end : (f : Fixed) → 0 < length (spelled_in always_written f) → f ≡ end → ⊥
unfolding spelled_in always_written symbols keywords bytes bytes_from code_of
no_end f some is = let z : spelled_in always_written f ≡ [] = ap (spelled_in always_written) is in omega (arith, ap (λ (s : List ℕ). length s) z)

-- ---- what stands at the place p

-- a lexeme that begins there
abbrev Begun : List ℕ → Answer Next → Type 0
Begun text (given (lexeme m e)) = Stood text m e
Begun text (given (nothing q)) = Unit {0}
Begun text (refused why q) = Unit {0}

all_begins : (such : ℕ → Bool) (w : List ℕ) → 0 < length w → all such w ≡ true → begins such w ≡ true
unfolding begins
all_begins such [] some h = absurd (omega arith)
all_begins such (b ∷ w) some h = all_first such b w h

-- what no quote stands in, and the quote after it
closed_bytes : (s : List ℕ) → length (run no_quote s) < length s → take (suc (length (run no_quote s))) s ≡ run no_quote s ++ 34 ∷ []
unfolding run no_quote
closed_bytes [] h = absurd (omega arith)
closed_bytes (b ∷ s) h = by (closed_bytes s) (eqb b 34) refl h
  where
    inside : Bool → List ℕ
    inside t = elim (not t) [ true ↦ b ∷ run no_quote s | false ↦ [] ]

    by : (length (run no_quote s) < length s → take (suc (length (run no_quote s))) s ≡ run no_quote s ++ 34 ∷ []) → (t : Bool) → eqb b 34 ≡ t → length (inside t) < suc (length s) → take (suc (length (inside t))) (b ∷ s) ≡ inside t ++ 34 ∷ []
    by more true e k = ap (λ (x : ℕ). x ∷ []) (eqb-true b 34 e)
    by more false e k = ap (λ (x : List ℕ). b ∷ x) (more (omega arith))

module _ (text : List ℕ) (p : ℕ) where
  -- one that is always written the same
  fixed_stood : (f : Fixed) (e : ℕ) (s : List ℕ) → 0 < length s → spelled_in always_written f ≡ s → part text p e ≡ s → Stood text (record { place = p; what = fixed f }) e
  unfolding at_place
  fixed_stood f e s some is h = record { proper = no_end f (rw is some); own = refl; bytes = h ∙ sym is }

  word_stood : (w : List ℕ) → 0 < length w → all letter_or_digit w ≡ true → part text p (p + length w) ≡ w → Begun text (word p w)
  unfolding word found at_place
  word_stood w some letters is =
      by_test (Begun text) (begins small w) (λ h. record { proper = (h, letters); own = refl; bytes = is })
      (λ n. by_test (Begun text) (all letter w)
      (λ h. capital_cases w p (λ (l : Lexeme). Stood text (record { place = p; what = l }) (p + length w))
      (λ k s e. fixed_stood k.means (p + length w) w some (s ∙ sym e) is)
      keywords_spelled
      (λ none. record { proper = (all_begins letter w some h, n, h, none); own = refl; bytes = is }))
      (λ _. by_test (Begun text) (all digit w) (λ h. record { proper = tt; own = refl; bytes = (rw is h, ap (value 0) is) }) (λ _. tt)))

  module _ (h : p < length text) where
    -- the bytes from p on, by the first of them
    from_first : (b n e : ℕ) → e ≡ p + suc n → get_or text p 0 ≡ b → part text p e ≡ b ∷ take n (drop (p + 1) text)
    unfolding part
    from_first b n e long is = let k : e - p ≡ suc n = omega arith in rw (k, drop-cons text p 0 h, is, add-one)

    string_stood : get_or text p 0 ≡ 34 → Begun text (string_at p (drop (p + 1) text))
    unfolding string_at found at_place
    string_stood is =
        let s = drop (p + 1) text in
        let n = length (run no_quote s) in
        by_test (Begun text) (leb (length s) n) (λ _. tt)
        (λ closed. record {
          proper = all_own no_quote s;
          own = refl;
          bytes = from_first 34 (suc n) (p + n + 2) (omega arith) is ∙ ap (λ (x : List ℕ). 34 ∷ x) (closed_bytes s (leb-false (length s) n closed));
        })

    colon_stood : get_or text p 0 ≡ 58 → Begun text (colon p (drop (p + 1) text))
    unfolding colon found
    colon_stood is = by (drop (p + 1) text) refl
      where
        by : (s : List ℕ) → drop (p + 1) text ≡ s → Begun text (colon p s)
        by [] after = tt
        by (c ∷ s) after =
            by_test (Begun text) (eqb c 61)
            (λ e. fixed_stood becomes (p + 2) (58 ∷ 61 ∷ []) (omega arith) (unfold spelled_in always_written bytes bytes_from code_of in refl)
            (from_first 58 1 (p + 2) refl is ∙ rw (after, eqb-true c 61 e)))
            (λ _. tt)

    symbol_stood : Begun text (symbol symbols p (get_or text p 0))
    unfolding found
    symbol_stood = symbol_cases p (get_or text p 0) (Begun text) tt (λ y s e. fixed_stood y.means (p + 1) (y.byte ∷ []) (omega arith) s (from_first y.byte 0 (p + 1) refl e)) symbols_spelled

pub next_stood : (text : List ℕ) (at : ℕ) (m : Placed) (e : ℕ) → next text at ≡ given (lexeme m e) → Stood text m e
unfolding next part
next_stood text at m e n =
    let p = at + length (run separator (drop at text)) in
    let w = run letter_or_digit (drop p text) in
    subst (Begun text) n
    (here_cases text p (Begun text) (λ _. tt)
    (λ h l. word_stood text p w (word_some text p h l) (all_own letter_or_digit (drop p text)) (run_part letter_or_digit text p (p + length w) refl))
    (string_stood text p)
    (colon_stood text p)
    (symbol_stood text p))

-- ---- the lexemes of a text

-- all but the end
pub record Words (most : Sizes) (ls : List Placed) : Type 0 where
  pub words : List Lexeme
  pub split : whats ls ≡ words ++ fixed end ∷ []
  pub proper : Each Proper words
  pub small : Each (λ (l : Lexeme). too_large most l ≡ false) words

module _ (most : Sizes) (text : List ℕ) where
  row_words : {at : ℕ} {ls : List Placed} → Row most text at ls → Words most ls
  unfolding whats
  row_words (ended n) = record { words = []; split = refl; proper = nil; small = nil }
  row_words (one {at} m e n t r) =
      let w = row_words r in
      record {
        words = m.what ∷ w.words;
        split = ap (λ (ls : List Lexeme). m.what ∷ ls) w.split;
        proper = (next_stood text at m e n).proper also w.proper;
        small = t also w.small;
      }

  pub words_proper : (ls : List Placed) → lexemes most text ≡ given ls → Words most ls
  words_proper ls is = row_words (in_a_row most text ls is)

  row_places : {at : ℕ} {ls : List Placed} → Row most text at ls → Each (λ (l : Placed). l.what ≡ at_place l.place l.what) ls
  unfolding at_place
  row_places (ended n) = refl also nil
  row_places (one {at} m e n t r) = (next_stood text at m e n).own also row_places r

  pub own_places : (ls : List Placed) → lexemes most text ≡ given ls → Each (λ (l : Placed). l.what ≡ at_place l.place l.what) ls
  own_places ls is = row_places (in_a_row most text ls is)

-- ---- the code's lexeme

module _ (text : List ℕ) (p e : ℕ) where
  -- what the code's lexeme is in the text is written as it stands there; a literal may have needless zeros
  copied : (w : Lexeme) → Written text p e w → OwnBytes text p e w → ((v : ℕ) → kind_of w ≡ kind.Literal v → ⊥) → part text p e ≡ written (what_of text p e (kind_of w))
  unfolding kind_of what_of written code_of
  copied (lit n) h b other = absurd (other (min n 4294967295) refl)
  copied (name x) h b other = refl
  copied (class x) h b other = refl
  copied (string q) h b other = b ∙ ap (λ (x : Quoted). 34 ∷ (x.inside ++ 34 ∷ [])) h.0.1
  copied (fixed f) h b other = b ∙ ap (spelled_in always_written) (sym (fixed_back f))

  digits : (w : Lexeme) (v : ℕ) → OwnBytes text p e w → kind_of w ≡ kind.Literal v → (all digit (part text p e) ≡ true) × (min (value 0 (part text p e)) 4294967295 ≡ v)
  unfolding kind_of
  digits (lit n) v b k = let h : min n 4294967295 ≡ v = cc in (b.0, ap (λ (x : ℕ). min x 4294967295) b.1 ∙ h)
  digits (name x) v b k = let z : ◌≡◌ {A = ℕ} 0 1 = cc in absurd (omega arith)
  digits (class x) v b k = let z : ◌≡◌ {A = ℕ} 0 1 = cc in absurd (omega arith)
  digits (string q) v b k = let z : ◌≡◌ {A = ℕ} 0 1 = cc in absurd (omega arith)
  digits (fixed f) v b k = let z : ◌≡◌ {A = ℕ} 0 1 = cc in absurd (omega arith)

module _ (text : List ℕ) (at : ℕ) (l : code.Lexeme) (within : at ≤ length text) (is : Ok l ≡ coded (next text at)) where
  -- all but literals and the end stand in the text as they are always written
  pub as_it_stands : (Ends l → ⊥) → ((v : ℕ) → l.kind ≡ kind.Literal v → ⊥) → part text l.place l.end ≡ written (told text l)
  unfolding told kind_of
  as_it_stands goes other = by (reading text at l within is) goes other
    where
      by : {l : code.Lexeme} → Reading text at l → (Ends l → ⊥) → ((v : ℕ) → l.kind ≡ kind.Literal v → ⊥) → part text l.place l.end ≡ written (told text l)
      by (one m e n) goes other = copied text m.place e m.what (next_fits text at m e n).1.written (next_stood text at m e n).bytes other
      by (none n) goes other = absurd (goes refl)

  -- a literal's bytes are digits worth its value
  pub literal_stands : (v : ℕ) → l.kind ≡ kind.Literal v → (all digit (part text l.place l.end) ≡ true) × (min (value 0 (part text l.place l.end)) 4294967295 ≡ v)
  unfolding kind_of
  literal_stands v k = by (reading text at l within is) k
    where
      by : {l : code.Lexeme} → Reading text at l → l.kind ≡ kind.Literal v → (all digit (part text l.place l.end) ≡ true) × (min (value 0 (part text l.place l.end)) 4294967295 ≡ v)
      by (one m e n) k = digits text m.place e m.what v (next_stood text at m e n).bytes k
      by (none n) k = let z : ◌≡◌ {A = ℕ} 0 1 = cc in absurd (omega arith)
