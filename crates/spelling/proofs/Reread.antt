-- A lexeme, written, is read again, and so is a text that is written out one way. Assumes nothing.
use mathlib.Core.Path.{◌≡◌, refl, sym, ap, ap₂, ◌∙◌}
use mathlib.Core.List.{List, [], ◌∷◌, ◌++◌, map, append_assoc, append-nil}
use mathlib.Core.Bool.{Bool, true, false, not, ◌||◌}
use Prim.Native.Nat.{ℕ, zero, suc, ◌+◌, ◌<◌}
use native.Mathlib.Nat.{add-zero, zero-add}
use native.Mathlib.Omega.{arith}
use lib.Dec.{eqb}
use lib.IntN.{pos}
use lib.ListN.{length, drop, length-append}
use lib.Seq.{drop-drop, drop-append_seam}
use borrow.Author.Tests.{eqb-true, lt-leb, not-true}
use Rattle.base.specs.declared.Refusal.TheVariants.{NoLexeme}
use Rattle.base.specs.Answers.{given, refused, pass}
use Rattle.base.specs.Bytes.{bytes, bytes_from, separator, small, capital, letter, digit, letter_or_digit, no_quote, run, begins, all, same, value}
use Rattle.base.proofs.Runs.{begins_append, run_stops, all_as, all_not, run_yes, run_none, begins_as, small_is, letter_is, digit_is, digit_not_small, digit_apart}
use Rattle.numbers.specs.Numbers.{decimal}
use Rattle.lexeme.specs.Lexemes.{Fixed, becomes, equals_sign, comma, dot, greater_sign, less_sign, plus_sign, minus_sign, star, slash, open_round, close_round, open_square, close_square, open_brace, close_brace, CALL, CLASS, DO, ERROR, FIELDS, IF, INIT, INT, METHOD, NOT, OBJ, PRINTI, PRINTLNS, PRINTS, PROCEDURE, READ, RETURNS, SUBCLASSOF, THEN, USING, WHILE, end, Lexeme, lit, name, class, string, fixed, Placed, lexeme, found, Keyword, keywords, capital_word, word, string_at, symbols, symbol, colon, here, next, Sizes, too_large, lexemes_from, lexemes}
use Rattle.lexeme.specs.inner.Coded.{code_of}
use Rattle.lexeme.proofs.Scans.{from_one, from_none}
use Rattle.lexeme.proofs.Symbols.{Each, nil, ◌also◌}
use Rattle.sentence.specs.Grammar.{whats}
use Rattle.spelling.specs.Spelling.{always_written, spelled_in, written, at_place, meant, after_space, spaced, without_end, tidy_text}
use Rattle.spelling.proofs.Proper.{Proper, placed_at, set_out_after, set_out}
use Rattle.spelling.proofs.Decimals.{decimal_value, decimal_digits, decimal_begins}

-- ---- a word

here_word : (p : ℕ) (s : List ℕ) → begins letter_or_digit s ≡ true → here p s ≡ word p (run letter_or_digit s)
unfolding here begins
here_word p [] h = let z : ◌≡◌ {A = ℕ} 0 1 = cc in absurd (omega arith)
here_word p (b ∷ s) h = rw h

-- a word of letters is the same at another place
capital_moved : (ks : List Keyword) (p : ℕ) (w : List ℕ) → capital_word ks p w ≡ at_place p (capital_word ks 0 w)
unfolding capital_word at_place
capital_moved [] p w = refl
capital_moved (k ∷ ks) p w = by (capital_moved ks p w) (same w k.spelled)
  where
    by : capital_word ks p w ≡ at_place p (capital_word ks 0 w) → (t : Bool) → (elim t [ true ↦ fixed k.means | false ↦ capital_word ks p w ]) ≡ at_place p (elim t [ true ↦ fixed k.means | false ↦ capital_word ks 0 w ])
    by e true = refl
    by e false = e

module _ (p : ℕ) (w tail : List ℕ) (t : begins letter_or_digit tail ≡ false) where
  word_again : begins letter_or_digit w ≡ true → all letter_or_digit w ≡ true → here p (w ++ tail) ≡ word p w
  word_again h k = here_word p (w ++ tail) (begins_append letter_or_digit w tail h) ∙ ap (word p) (run_stops letter_or_digit w tail k t)

  digits_again : begins digit w ≡ true → all digit w ≡ true → here p (w ++ tail) ≡ found p (lit (value 0 w)) (p + length w)
  unfolding word
  digits_again h k =
      word_again (begins_as digit letter_or_digit digit_is w h) (all_as digit letter_or_digit digit_is w k)
      ∙ rw (begins_as digit small digit_not_small w h, all_not letter w (begins_as digit (λ b. not (letter b)) (λ b d. ap not (digit_apart b d)) w h), k)

  name_again : begins small w ≡ true → all letter_or_digit w ≡ true → here p (w ++ tail) ≡ found p (name (record { spelled = w; place = p })) (p + length w)
  unfolding word
  name_again h k = word_again (begins_as small letter_or_digit (λ b s. letter_is b (small_is b s)) w h) k ∙ rw h

  capital_again : (l : Lexeme) → begins letter w ≡ true → begins small w ≡ false → all letter w ≡ true → capital_word keywords 0 w ≡ l → here p (w ++ tail) ≡ found p (at_place p l) (p + length w)
  unfolding word
  capital_again l h s k e = word_again (begins_as letter letter_or_digit letter_is w h) (all_as letter letter_or_digit letter_is w k) ∙ rw (s, k, capital_moved keywords p w, e)

-- ---- a lexeme

-- it is read again before a tail that does not go on
abbrev Again : ℕ → List ℕ → Lexeme → Type 0
Again p tail l = here p (written l ++ tail) ≡ found p (at_place p l) (p + length (written l))

string_again : (p : ℕ) (inside tail : List ℕ) → all no_quote inside ≡ true → here p ((34 ∷ (inside ++ 34 ∷ [])) ++ tail) ≡ found p (string (record { inside = inside; place = p + 1 })) (p + length (34 ∷ (inside ++ 34 ∷ [])))
unfolding here letter_or_digit letter small capital digit string_at
string_again p inside tail h =
    let n : length (inside ++ 34 ∷ tail) ≡ length inside + length (34 ∷ tail) = length-append inside (34 ∷ tail) in
    let e : p + length inside + 2 ≡ p + length (34 ∷ (inside ++ 34 ∷ [])) = omega (arith, length-append inside (34 ∷ [])) in
    rw (append_assoc inside (34 ∷ []) tail, run_stops no_quote inside (34 ∷ tail) h (unfold begins no_quote in refl), lt-leb (length (inside ++ 34 ∷ tail)) (length inside) (omega arith), e)

module _ (p : ℕ) (tail : List ℕ) (t : begins letter_or_digit tail ≡ false) where
  keyword_again : (f : Fixed) → begins letter (written (fixed f)) ≡ true → begins small (written (fixed f)) ≡ false → all letter (written (fixed f)) ≡ true → capital_word keywords 0 (written (fixed f)) ≡ fixed f → Again p tail (fixed f)
  keyword_again f h s k e = capital_again p (written (fixed f)) tail t (fixed f) h s k e

  fixed_again : (f : Fixed) → (f ≡ end → ⊥) → Again p tail (fixed f)
  unfolding written at_place spelled_in always_written code_of keywords symbols bytes bytes_from here letter_or_digit letter small capital digit symbol colon begins all capital_word same
  fixed_again becomes n = refl
  fixed_again equals_sign n = refl
  fixed_again comma n = refl
  fixed_again dot n = refl
  fixed_again greater_sign n = refl
  fixed_again less_sign n = refl
  fixed_again plus_sign n = refl
  fixed_again minus_sign n = refl
  fixed_again star n = refl
  fixed_again slash n = refl
  fixed_again open_round n = refl
  fixed_again close_round n = refl
  fixed_again open_square n = refl
  fixed_again close_square n = refl
  fixed_again open_brace n = refl
  fixed_again close_brace n = refl
  fixed_again CALL n = keyword_again CALL refl refl refl refl
  fixed_again CLASS n = keyword_again CLASS refl refl refl refl
  fixed_again DO n = keyword_again DO refl refl refl refl
  fixed_again ERROR n = keyword_again ERROR refl refl refl refl
  fixed_again FIELDS n = keyword_again FIELDS refl refl refl refl
  fixed_again IF n = keyword_again IF refl refl refl refl
  fixed_again INIT n = keyword_again INIT refl refl refl refl
  fixed_again INT n = keyword_again INT refl refl refl refl
  fixed_again METHOD n = keyword_again METHOD refl refl refl refl
  fixed_again NOT n = keyword_again NOT refl refl refl refl
  fixed_again OBJ n = keyword_again OBJ refl refl refl refl
  fixed_again PRINTI n = keyword_again PRINTI refl refl refl refl
  fixed_again PRINTLNS n = keyword_again PRINTLNS refl refl refl refl
  fixed_again PRINTS n = keyword_again PRINTS refl refl refl refl
  fixed_again PROCEDURE n = keyword_again PROCEDURE refl refl refl refl
  fixed_again READ n = keyword_again READ refl refl refl refl
  fixed_again RETURNS n = keyword_again RETURNS refl refl refl refl
  fixed_again SUBCLASSOF n = keyword_again SUBCLASSOF refl refl refl refl
  fixed_again THEN n = keyword_again THEN refl refl refl refl
  fixed_again USING n = keyword_again USING refl refl refl refl
  fixed_again WHILE n = keyword_again WHILE refl refl refl refl
  fixed_again end n = absurd (n refl)

pub here_written : (p : ℕ) (l : Lexeme) (tail : List ℕ) → Proper l → begins letter_or_digit tail ≡ false → here p (written l ++ tail) ≡ found p (at_place p l) (p + length (written l))
unfolding written at_place
here_written p (lit n) tail h t = digits_again p (decimal (pos n)) tail t (decimal_begins n) (decimal_digits n) ∙ ap (λ (v : ℕ). found p (lit v) (p + length (decimal (pos n)))) (decimal_value n)
here_written p (name x) tail h t = name_again p x.spelled tail t h.0 h.1
here_written p (class x) tail (h, s, k, e) t = capital_again p x.spelled tail t (class (record { spelled = x.spelled; place = 0 })) h s k e
here_written p (string q) tail h t = string_again p q.inside tail h
here_written p (fixed f) tail h t = fixed_again p tail t f h

-- ---- what is read is no separator

separators : (P : ℕ → Type 0) → P 32 → P 9 → P 10 → P 13 → (b : ℕ) → separator b ≡ true → P b
unfolding separator
separators P space tab feed return b h = by (eqb b 32) (eqb b 9) (eqb b 10) (eqb b 13) refl refl refl refl h
  where
    is : (c : ℕ) → eqb b c ≡ true → P c → P b
    is c e k = rw (eqb-true b c e) k

    by : (s t f r : Bool) → eqb b 32 ≡ s → eqb b 9 ≡ t → eqb b 10 ≡ f → eqb b 13 ≡ r → (s || (t || (f || r))) ≡ true → P b
    by true t f r e e' e'' e''' h = is 32 e space
    by false true f r e e' e'' e''' h = is 9 e' tab
    by false false true r e e' e'' e''' h = is 10 e'' feed
    by false false false true e e' e'' e''' h = is 13 e''' return
    by false false false false e e' e'' e''' h = let z : ◌≡◌ {A = ℕ} 0 1 = cc in absurd (omega arith)

separator_refused : (p b : ℕ) (s : List ℕ) → separator b ≡ true → here p (b ∷ s) ≡ refused NoLexeme p
unfolding here letter_or_digit letter small capital digit symbols symbol
separator_refused p b s = separators (λ b. here p (b ∷ s) ≡ refused NoLexeme p) refl refl refl refl b

unfoldable other : ℕ → Bool
other b = not (separator b)

here_begins : (p : ℕ) (s : List ℕ) (l : Placed) (e : ℕ) → here p s ≡ given (lexeme l e) → begins other s ≡ true
unfolding begins other
here_begins p [] l e h = let z : ◌≡◌ {A = ℕ} 0 1 = unfold here in cc in absurd (omega arith)
here_begins p (b ∷ s) l e h = by (separator b) refl
  where
    by : (t : Bool) → separator b ≡ t → not t ≡ true
    by true k = let z : ◌≡◌ {A = ℕ} 0 1 = cc (separator_refused p b s k) in absurd (omega arith)
    by false k = refl

-- a written lexeme begins with a byte, which does not separate
written_begins : (l : Lexeme) → Proper l → begins other (written l) ≡ true
unfolding found
written_begins l h = here_begins 0 (written l) (placed_at 0 l) (0 + length (written l)) (rw (append-nil (written l)) at (here_written 0 l [] h (unfold begins in refl)))

pub written_some : (l : Lexeme) → Proper l → 0 < length (written l)
written_some l h = by (written l) (written_begins l h)
  where
    by : (w : List ℕ) → begins other w ≡ true → 0 < length w
    by [] h = let z : ◌≡◌ {A = ℕ} 0 1 = unfold begins in cc in absurd (omega arith)
    by (b ∷ w) h = omega arith

-- no separator stands where a written lexeme begins
unseparated : (l : Lexeme) (tail : List ℕ) → Proper l → run separator (written l ++ tail) ≡ []
unfolding other
unseparated l tail h = run_none separator (written l ++ tail) (begins_as other separator (λ b k. not-true (separator b) k) (written l ++ tail) (begins_append other (written l) tail (written_begins l h)))

-- ---- a text

large_moved : (most : Sizes) (p : ℕ) (l : Lexeme) → too_large most (at_place p l) ≡ too_large most l
unfolding too_large at_place
large_moved most p (lit n) = refl
large_moved most p (name x) = refl
large_moved most p (class x) = refl
large_moved most p (string q) = refl
large_moved most p (fixed f) = refl

-- a space does not go on
space_stops : (ls : List Lexeme) → begins letter_or_digit (after_space ls) ≡ false
unfolding begins after_space letter_or_digit letter small capital digit
space_stops [] = refl
space_stops (l ∷ ls) = refl

module _ (most : Sizes) (text : List ℕ) where
  -- the place after the separators from `at` on
  abbrev start : ℕ → ℕ
  start at = at + length (run separator (drop at text))

  module _ (at p : ℕ) (l : Lexeme) (ls : List Lexeme) (begun : start at ≡ p) (stands : drop p text ≡ written l ++ after_space ls) where
    reads_one : (fuel : ℕ) → Proper l → too_large most l ≡ false → lexemes_from most text (suc fuel) at ≡ pass (lexemes_from most text fuel (p + length (written l))) (λ ms. given (placed_at p l ∷ ms))
    unfolding next found
    reads_one fuel h small = from_one most text fuel at (placed_at p l) (p + length (written l)) (rw (begun, stands) (here_written p l (after_space ls) h (space_stops ls))) (large_moved most p l ∙ small)

    past_one : drop (p + length (written l)) text ≡ after_space ls
    past_one = rw (← drop-drop (length (written l)) p text, stands) (drop-append_seam (written l) (after_space ls))

  -- where a space stands before each
  reads_after : (at fuel : ℕ) {ls : List Lexeme} → Each Proper ls → Each (λ l. too_large most l ≡ false) ls → drop at text ≡ after_space ls → length (after_space ls) < fuel → lexemes_from most text fuel at ≡ given (set_out_after at ls)
  unfolding after_space set_out_after at_place pass
  reads_after at zero h k stands enough = absurd (omega arith)
  reads_after at (suc fuel) nil k stands enough = from_none most text fuel at at (unfold next here run in rw (stands, add-zero at, stands))
  reads_after at (suc fuel) (◌also◌ {a = l} {rest = ls} h hs) (k also ks) stands enough =
      let begun : start at ≡ at + 1 = rw (stands, run_yes separator 32 (written l ++ after_space ls) (unfold separator in refl), unseparated l (after_space ls) h) in
      let here : drop (at + 1) text ≡ written l ++ after_space ls = rw (← drop-drop 1 at text, stands) in
      let e = at + 1 + length (written l) in
      reads_one at (at + 1) l ls begun here fuel h k
      ∙ ap (λ a. pass a (λ ms. given (placed_at (at + 1) l ∷ ms))) (reads_after e fuel hs ks (past_one at (at + 1) l ls begun here) (omega (arith, length-append (written l) (after_space ls))))

pub reread : (most : Sizes) (ws : List Lexeme) → Each Proper ws → Each (λ l. too_large most l ≡ false) ws → lexemes most (spaced ws) ≡ given (set_out ws)
unfolding lexemes spaced set_out pass
reread most ls nil k = reads_after most [] 0 1 nil nil (unfold after_space in refl) (unfold after_space in omega arith) ∙ unfold set_out_after in refl
reread most ws (◌also◌ {a = l} {rest = ls} h hs) (k also ks) =
    let text = written l ++ after_space ls in
    let begun : start most text 0 ≡ 0 = rw (unseparated l (after_space ls) h) in
    reads_one most text 0 0 l ls begun refl (length text) h k
    ∙ ap (λ a. pass a (λ ms. given (placed_at 0 l ∷ ms))) (reads_after most text (0 + length (written l)) (length text) hs ks (past_one most text 0 0 l ls begun refl) (omega (arith, written_some l h, length-append (written l) (after_space ls))))
    ∙ ap (λ (e : ℕ). given (placed_at 0 l ∷ set_out_after e ls)) (zero-add (length (written l)))

-- ---- its lexemes, but for their places

pub written_moved : (p : ℕ) (l : Lexeme) → written (at_place p l) ≡ written l
unfolding written at_place
written_moved p (lit n) = refl
written_moved p (name x) = refl
written_moved p (class x) = refl
written_moved p (string q) = refl
written_moved p (fixed f) = refl

meant_moved : (p : ℕ) (l : Lexeme) → meant (at_place p l) ≡ meant l
unfolding at_place
meant_moved p (lit n) = refl
meant_moved p (name x) = refl
meant_moved p (class x) = refl
meant_moved p (string q) = refl
meant_moved p (fixed f) = refl

meant_after : (p : ℕ) (ls : List Lexeme) → map meant (whats (set_out_after p ls)) ≡ map meant (ls ++ fixed end ∷ [])
unfolding whats set_out_after
meant_after p [] = ap (λ (l : Lexeme). l ∷ []) (meant_moved p (fixed end))
meant_after p (l ∷ ls) = ap₂ ◌∷◌ (meant_moved (p + 1) l) (meant_after (p + 1 + length (written l)) ls)

pub meant_again : (ws : List Lexeme) → map meant (whats (set_out ws)) ≡ map meant (ws ++ fixed end ∷ [])
unfolding whats set_out
meant_again [] = ap (λ (l : Lexeme). l ∷ []) (meant_moved 0 (fixed end))
meant_again (l ∷ ls) = ap₂ ◌∷◌ (meant_moved 0 l) (meant_after (length (written l)) ls)

-- a text written out one way does not tell more than what its lexemes mean
after_meant : (ls : List Lexeme) → after_space (map meant ls) ≡ after_space ls
unfolding after_space
after_meant [] = refl
after_meant (l ∷ ls) = ap₂ (λ (w s : List ℕ). 32 ∷ (w ++ s)) (written_moved 0 l) (after_meant ls)

meant_spaced : (ls : List Lexeme) → spaced (map meant ls) ≡ spaced ls
unfolding spaced
meant_spaced [] = refl
meant_spaced (l ∷ ls) = ap₂ ◌++◌ (written_moved 0 l) (after_meant ls)

pub spaced_meant : (vs ws : List Lexeme) → map meant vs ≡ map meant ws → spaced vs ≡ spaced ws
spaced_meant vs ws h = sym (meant_spaced vs) ∙ ap spaced h ∙ meant_spaced ws

-- ---- without the end

pub without_last : (before : List Lexeme) (l : Lexeme) → without_end (before ++ l ∷ []) ≡ before
unfolding without_end
without_last [] l = refl
without_last (m ∷ []) l = refl
without_last (m ∷ n ∷ before) l = ap (λ (ls : List Lexeme). m ∷ ls) (without_last (n ∷ before) l)

pub without_map : (f : Lexeme → Lexeme) (ls : List Lexeme) → without_end (map f ls) ≡ map f (without_end ls)
unfolding without_end
without_map f [] = refl
without_map f (l ∷ []) = refl
without_map f (l ∷ m ∷ ls) = ap (λ (ns : List Lexeme). f l ∷ ns) (without_map f (m ∷ ls))

-- lexemes that mean the same are written out the same
pub without_meant : (vs ws : List Lexeme) → map meant vs ≡ map meant ws → spaced (without_end vs) ≡ spaced (without_end ws)
without_meant vs ws h = spaced_meant (without_end vs) (without_end ws) (sym (without_map meant vs) ∙ ap without_end h ∙ without_map meant ws)

pub tidy_again : (ws : List Lexeme) → tidy_text (set_out ws) ≡ spaced ws
unfolding tidy_text
tidy_again ws = without_meant (whats (set_out ws)) (ws ++ fixed end ∷ []) (meant_again ws) ∙ ap spaced (without_last ws (fixed end))
