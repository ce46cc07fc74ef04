-- What begins at a place: the one case analysis of `here`, and what follows from it of `next` and of the code's lexemes. Assumes nothing.
use mathlib.Core.Path.{◌≡◌, refl, sym, ap, subst, ◌∙◌}
use mathlib.Core.List.{List, [], ◌∷◌}
use mathlib.Core.Bool.{Bool, true, false, cond}
use Prim.Native.Nat.{ℕ, suc, ◌+◌, ◌-◌, ◌≤◌, ◌<◌, min}
use native.Mathlib.Nat.{add-zero, le_refl, min-eq_left, min-le_right}
use native.Mathlib.Numerals.{add-one}
use native.Mathlib.Omega.{arith}
use borrow.Author.Tests.{leb-false, ltb-true, ltb-false, eqb-true, eqb-false, lt-ltb, le-ltb}
use lib.Dec.{eqb, leb, ltb}
use lib.ListN.{length, get_or, drop, drop_of_length-le, length-drop}
use lib.Seq.{drop-cons, length-take-le}
use Rattle.base.specs.declared.Refusal.{Refusal}
use Rattle.base.specs.declared.Refusal.TheVariants.{NoLexeme}
use Rattle.base.specs.declared.Refused.{Refused}
use Rattle.base.specs.Answers.{Answer, given, refused}
use Rattle.base.specs.Bytes.{separator, small, letter, digit, letter_or_digit, no_quote, run, begins, all, same, value}
use Rattle.base.specs.inner.Parts.{part}
use Rattle.base.proofs.Runs.{run_part, run_yes, run_fits, run_within}
use Rattle.base.proofs.Words.{same_equal}
use Rattle.lexeme.specs.Lexemes.{Name, Quoted, Lexeme, lit, name, class, string, fixed, Placed, Next, lexeme, nothing, found, Keyword, keywords, capital_word, Sizes, word, string_at, Symbol, symbols, symbol, colon, here, next, too_large}
use Rattle.lexeme.specs.Lexemes as lexemes
use Rattle.lexeme.specs.inner.Coded.{variant_of, number, kind_of, coded, code_of, what_of, told, placed, Ends, Stands, large}
use Rattle.lexeme.specs.declared.Kind.{Kind}
use Rattle.lexeme.specs.declared.Kind.TheVariants as kind
use Rattle.lexeme.specs.declared.Lexeme as code
use Rattle.std.specs.Prelude.{Ok, Err}
use Rattle.lexeme.proofs.Decoded.{fixed_back}
use Rattle.lexeme.proofs.Symbols.{Each, nil, ◌also◌}

-- ---- `here`, by what stands at the place p

module _ (text : List ℕ) (p : ℕ) where
  pub here_end : length text ≤ p → given (nothing p) ≡ here p (drop p text)
  unfolding here
  here_end h = rw (drop_of_length-le text h)

  -- what a byte that is no letter and no digit begins
  abbrev pub other : ℕ → Answer Next
  other b =
      cond (eqb b 34) (string_at p (drop (p + 1) text))
      (cond (eqb b 58) (colon p (drop (p + 1) text))
      (symbol symbols p b))

  module _ (h : p < length text) where
    pub here_word : letter_or_digit (get_or text p 0) ≡ true → here p (drop p text) ≡ word p (run letter_or_digit (drop p text))
    unfolding here
    here_word t = rw (drop-cons text p 0 h, t)

    -- a word has a byte
    pub word_some : letter_or_digit (get_or text p 0) ≡ true → 0 < length (run letter_or_digit (drop p text))
    word_some t = rw (drop-cons text p 0 h, run_yes letter_or_digit (get_or text p 0) (drop (suc p) text) t) (omega arith)

    pub here_other : letter_or_digit (get_or text p 0) ≡ false → here p (drop p text) ≡ other (get_or text p 0)
    unfolding here
    here_other t = rw (drop-cons text p 0 h, t, add-one)

-- ---- what holds of it, by cases

pub by_test : {A : Type 0} (P : A → Type 0) (t : Bool) {x y : A} → (t ≡ true → P x) → (t ≡ false → P y) → P (cond t x y)
by_test P true f g = f refl
by_test P false f g = g refl

-- of what begins at the place p
pub here_cases : (text : List ℕ) (p : ℕ) (P : Answer Next → Type 0)
    → (length text ≤ p → P (given (nothing p)))
    → (p < length text → letter_or_digit (get_or text p 0) ≡ true → P (word p (run letter_or_digit (drop p text))))
    → (p < length text → get_or text p 0 ≡ 34 → P (string_at p (drop (p + 1) text)))
    → (p < length text → get_or text p 0 ≡ 58 → P (colon p (drop (p + 1) text)))
    → (p < length text → P (symbol symbols p (get_or text p 0)))
    → P (here p (drop p text))
here_cases text p P none a_word quote a_colon byte = by (ltb p (length text)) (letter_or_digit (get_or text p 0)) refl refl
  where
    b : ℕ
    b = get_or text p 0

    by : (t u : Bool) → ltb p (length text) ≡ t → letter_or_digit b ≡ u → P (here p (drop p text))
    by false u out l = let h : length text ≤ p = ltb-false p (length text) out in subst P (here_end text p h) (none h)
    by true true within l = let h : p < length text = ltb-true p (length text) within in rw (here_word text p h l) (a_word h l)
    by true false within l =
        let h : p < length text = ltb-true p (length text) within in
        rw (here_other text p h l)
        (by_test P (eqb b 34) (λ t. quote h (eqb-true b 34 t))
        (λ _. by_test P (eqb b 58) (λ t. a_colon h (eqb-true b 58 t))
        (λ _. byte h)))

-- of a capital word: a keyword, or a class name, which is one at any place
pub capital_cases : (w : List ℕ) (p : ℕ) (P : Lexeme → Type 0) {Q : Keyword → Type 0}
    → ((k : Keyword) → Q k → w ≡ k.spelled → P (fixed k.means))
    → {ks : List Keyword} → Each Q ks
    → (capital_word ks 0 w ≡ class (record { spelled = w; place = 0 }) → P (class (record { spelled = w; place = p })))
    → P (capital_word ks p w)
unfolding capital_word
capital_cases w p P one nil none = none refl
capital_cases w p P one (◌also◌ {a = k} {rest = ks} q qs) none = by (capital_cases w p P one qs) (same w k.spelled) refl
  where
    after : ℕ → Bool → Lexeme
    after at t = elim t [ true ↦ fixed k.means | false ↦ capital_word ks at w ]

    by : ((capital_word ks 0 w ≡ class (record { spelled = w; place = 0 }) → P (class (record { spelled = w; place = p }))) → P (capital_word ks p w)) → (t : Bool) → same w k.spelled ≡ t → P (after p t)
    by more true e = one k q (same_equal w k.spelled e)
    by more false e = more (λ c. none (ap (after 0) e ∙ c))

-- of a byte that may be a symbol
pub symbol_cases : (p b : ℕ) (P : Answer Next → Type 0) {Q : Symbol → Type 0}
    → P (refused NoLexeme p)
    → ((y : Symbol) → Q y → b ≡ y.byte → P (found p (fixed y.means) (p + 1)))
    → {ys : List Symbol} → Each Q ys
    → P (symbol ys p b)
unfolding symbol
symbol_cases p b P none one nil = none
symbol_cases p b P none one (◌also◌ {a = y} {rest = ys} q qs) = by (symbol_cases p b P none one qs) (eqb b y.byte) refl
  where
    by : P (symbol ys p b) → (t : Bool) → eqb b y.byte ≡ t → P (elim t [ true ↦ found p (fixed y.means) (p + 1) | false ↦ symbol ys p b ])
    by later true e = one y q (eqb-true b y.byte e)
    by later false e = later

-- ---- what it is

-- between the string's place and the next quote are its bytes
pub record Closed (text : List ℕ) (q : Quoted) : Type 0 where
  pub inside : run no_quote (drop q.place text) ≡ q.inside
  pub quote : length q.inside < length (drop q.place text)

-- a lexeme as it is written from the place p up to e; a literal is written in more than one way
abbrev pub Written : List ℕ → ℕ → ℕ → Lexeme → Type 0
Written text p e (lit n) = Unit {0}
Written text p e (name x) = x ≡ record { spelled = part text p e; place = p }
Written text p e (class x) = x ≡ record { spelled = part text p e; place = p }
Written text p e (string q) = ((p + 1 < e) × (q ≡ record { inside = part text (p + 1) (e - 1); place = p + 1 })) × Closed text q
Written text p e (fixed f) = eqb (code_of f) (code_of lexemes.end) ≡ false

-- the lexeme l stands in the text up to e
pub record Fits (text : List ℕ) (l : Placed) (e : ℕ) : Type 0 where
  pub some : l.place < e
  pub within : e ≤ length text
  pub written : Written text l.place e l.what

-- what may begin at the place p
abbrev Good : List ℕ → ℕ → Answer Next → Type 0
Good text p (given (lexeme l e)) = (l.place ≡ p) × Fits text l e
Good text p (given (nothing q)) = (q ≡ p) × (length text ≤ p)
Good text p (refused why q) = Unit {0}

-- neither a keyword nor a symbol is the end
keywords_written : Each (λ (k : Keyword). eqb (code_of k.means) (code_of lexemes.end) ≡ false) keywords
unfolding keywords code_of
keywords_written = refl also refl also refl also refl also refl also refl also refl also refl also refl also refl also refl also refl also refl also refl also refl also refl also refl also refl also refl also refl also refl also nil

symbols_written : Each (λ (y : Symbol). eqb (code_of y.means) (code_of lexemes.end) ≡ false) symbols
unfolding symbols code_of
symbols_written = refl also refl also refl also refl also refl also refl also refl also refl also refl also refl also refl also refl also refl also refl also refl also nil

module _ (text : List ℕ) (p : ℕ) where
  module _ (w : List ℕ) (is : part text p (p + length w) ≡ w) where
    named : Written text p (p + length w) (name (record { spelled = w; place = p }))
    named = ap (λ (x : List ℕ). record { spelled = x; place = p }) (sym is)

    word_good : 0 < length w → p + length w ≤ length text → Good text p (word p w)
    unfolding word found
    word_good some within =
        by_test (Good text p) (begins small w) (λ _. stands (name (record { spelled = w; place = p })) named)
        (λ _. by_test (Good text p) (all letter w)
        (λ _. stands (capital_word keywords p w) (capital_cases w p (Written text p (p + length w)) (λ k h _. h) keywords_written (λ _. named)))
        (λ _. by_test (Good text p) (all digit w) (λ _. stands (lit (value 0 w)) tt) (λ _. tt)))
      where
        stands : (l : Lexeme) → Written text p (p + length w) l → Good text p (found p l (p + length w))
        stands l h = (refl, record { some = omega arith; within = within; written = h })

  colon_good : (s : List ℕ) → p + 1 + length s ≡ length text → Good text p (colon p s)
  unfolding colon found code_of
  colon_good [] long = tt
  colon_good (c ∷ s) long = by_test (Good text p) (eqb c 61) (λ _. (refl, record { some = omega arith; within = omega arith; written = refl })) (λ _. tt)

  string_good : p < length text → Good text p (string_at p (drop (p + 1) text))
  unfolding string_at found part
  string_good h =
      let s = drop (p + 1) text in
      let n = length (run no_quote s) in
      by_test (Good text p) (leb (length s) n) (λ _. tt)
      (λ closed. (
        refl,
        record {
          some = omega arith;
          within = omega (arith, leb-false (length s) n closed, length-drop (p + 1) text);
          written = ((omega arith, ap (λ (x : List ℕ). record { inside = x; place = p + 1 }) (sym (run_part no_quote text (p + 1) (p + n + 2 - 1) (omega arith)))), record { inside = refl; quote = leb-false (length s) n closed });
        },
      ))

  pub here_good : Good text p (here p (drop p text))
  unfolding part found
  here_good =
      here_cases text p (Good text p) (λ h. (refl, h))
      (λ h l.
      let w = run letter_or_digit (drop p text) in
      word_good w (run_part letter_or_digit text p (p + length w) refl) (word_some text p h l) (run_within letter_or_digit text p (p + length w) (omega arith) refl))
      (λ h _. string_good h)
      (λ h _. colon_good (drop (p + 1) text) (omega (arith, length-drop (p + 1) text)))
      (λ h. symbol_cases p (get_or text p 0) (Good text p) tt (λ y i _. (refl, record { some = omega arith; within = omega arith; written = i })) symbols_written)

-- ---- a lexeme that stands in the text, and the code's

-- the code's lexeme of the lexeme l that ends at e
abbrev pub code_lexeme : Placed → ℕ → code.Lexeme
code_lexeme l e = record { kind = kind_of l.what; place = l.place; end = e }

part_length : (text : List ℕ) (p e : ℕ) → e ≤ length text → length (part text p e) ≡ e - p
unfolding part
part_length text p e h = length-take-le (e - p) (drop p text) (omega (arith, length-drop p text))

same_test : (a b c d : ℕ) → (a < b → c < d) → (b ≤ a → d ≤ c) → ltb a b ≡ ltb c d
same_test a b c d f g = by_value (ltb a b) refl
  where
    by_value : (t : Bool) → ltb a b ≡ t → t ≡ ltb c d
    by_value true e = sym (lt-ltb c d (f (ltb-true a b e)))
    by_value false e = sym (le-ltb c d (g (ltb-false a b e)))

module _ (text : List ℕ) (p e : ℕ) where
  known : (w : Lexeme) → kind_of (what_of text p e (kind_of w)) ≡ kind_of w
  unfolding kind_of what_of code_of
  known (lit n) = ap kind.Literal (min-eq_left (min-le_right n 4294967295))
  known (name x) = refl
  known (class x) = refl
  known (string q) = refl
  known (fixed f) = ap (λ (f : lexemes.Fixed). kind.Fixed (variant_of f)) (fixed_back f)

  reads : (most : Sizes) → most.literal ≤ 4294967295 → (w : Lexeme) → Written text p e w → too_large most w ≡ false → what_of text p e (kind_of w) ≡ w
  unfolding kind_of what_of too_large code_of
  reads most small (lit n) h t = ap lit (min-eq_left (omega (arith, ltb-false most.literal n t)))
  reads most small (name x) h t = ap name (sym h)
  reads most small (class x) h t = ap class (sym h)
  reads most small (string q) h t = ap string (sym h.0.1)
  reads most small (fixed f) h t = ap fixed (fixed_back f)

  -- the sizes that the code tests are those of the definitions
  sizes : (most : Sizes) → most.literal < 4294967295 → (w : Lexeme) → e ≤ length text → Written text p e w → large most (kind_of w) (e - p) ≡ too_large most w
  unfolding kind_of large too_large
  sizes most small (lit n) i h = same_test most.literal (min n 4294967295) most.literal n (λ t. omega arith) (λ t. omega arith)
  sizes most small (name x) i h = ap (ltb most.word) (sym (ap (λ (y : Name). length y.spelled) h ∙ part_length text p e i))
  sizes most small (class x) i h = ap (ltb most.word) (sym (ap (λ (y : Name). length y.spelled) h ∙ part_length text p e i))
  sizes most small (string q) i h =
      let n : length q.inside ≡ e - 1 - (p + 1) = ap (λ (y : Quoted). length y.inside) h.0.1 ∙ part_length text (p + 1) (e - 1) (omega arith) in
      same_test (most.string + 2) (e - p) most.string (length q.inside) (λ t. omega (arith, h.0.0)) (λ t. omega (arith, h.0.0))
  sizes most small (fixed f) i h = refl

  no_end : (w : Lexeme) → Written text p e w → kind_of w ≡ kind.Fixed (variant_of lexemes.end) → ⊥
  unfolding kind_of code_of
  no_end (lit n) h k = let z : ◌≡◌ {A = ℕ} 0 1 = cc in omega arith
  no_end (name x) h k = let z : ◌≡◌ {A = ℕ} 0 1 = cc in omega arith
  no_end (class x) h k = let z : ◌≡◌ {A = ℕ} 0 1 = cc in omega arith
  no_end (string q) h k = let z : ◌≡◌ {A = ℕ} 0 1 = cc in omega arith
  no_end (fixed f) h k = let v : variant_of f ≡ variant_of lexemes.end = cc in let z : code_of f ≡ code_of lexemes.end = ap number v in eqb-false (code_of f) (code_of lexemes.end) h z

-- ---- what stands next

-- nothing after the text's end
next_last : (text : List ℕ) → next text (length text) ≡ given (nothing (length text))
unfolding next run
next_last text = rw (drop_of_length-le text (le_refl (length text)), add-zero) (sym (here_end text (length text) (le_refl (length text))))

module _ (text : List ℕ) (at : ℕ) where
  -- the place after the separators
  abbrev start : ℕ
  start = at + length (run separator (drop at text))

  pub next_fits : (m : Placed) (e : ℕ) → next text at ≡ given (lexeme m e) → (at ≤ m.place) × Fits text m e
  unfolding next
  next_fits m e n =
      let g : (m.place ≡ start) × Fits text m e = subst (Good text start) n (here_good text start) in
      (omega (arith, g.0), g.1)

  pub next_nothing : (q : ℕ) → at ≤ length text → next text at ≡ given (nothing q) → q ≡ length text
  unfolding next
  next_nothing q h n =
      let g : (q ≡ start) × (length text ≤ start) = subst (Good text start) n (here_good text start) in
      omega (arith, g.0, g.1, run_fits separator (drop at text), length-drop at text)

  -- what holds of a lexeme that stands next, and of the code's
  module _ (m : Placed) (e : ℕ) (n : next text at ≡ given (lexeme m e)) where
    pub next_no_end : Ends (code_lexeme m e) → ⊥
    next_no_end = no_end text m.place e m.what (next_fits m e n).1.written

    pub next_placed : (most : Sizes) → most.literal ≤ 4294967295 → too_large most m.what ≡ false → placed text (code_lexeme m e) ≡ m
    unfolding told
    next_placed most small t = ap (λ (w : Lexeme). record { place = m.place; what = w }) (reads text m.place e most small m.what (next_fits m e n).1.written t)

    pub next_large : (most : Sizes) → most.literal < 4294967295 → large most (kind_of m.what) (e - m.place) ≡ too_large most m.what
    next_large most small = let f = (next_fits m e n).1 in sizes text m.place e most small m.what f.within f.written

  -- how a lexeme of the code is that of the definitions
  pub data Reading : code.Lexeme → Type 0 where
    one : (m : Placed) (e : ℕ) → next text at ≡ given (lexeme m e) → Reading (code_lexeme m e)
    none : next text at ≡ given (nothing (length text)) → Reading (code_lexeme (record { place = length text; what = fixed lexemes.end }) (length text))

  pub reading : (l : code.Lexeme) → at ≤ length text → Ok l ≡ coded (next text at) → Reading l
  unfolding coded kind_of
  reading l h is = by_answer (next text at) refl is
    where
      by_answer : (a : Answer Next) → next text at ≡ a → Ok l ≡ coded a → Reading l
      by_answer (given (lexeme m e)) n i = let k : l ≡ code_lexeme m e = cc in rw k (one m e n)
      by_answer (given (nothing q)) n i =
          let k : l ≡ code_lexeme (record { place = q; what = fixed lexemes.end }) q = cc in
          let w = next_nothing q h n in
          rw (k, w) (none (rw w at n))
      by_answer (refused why q) n i = absurd (let z : ◌≡◌ {A = ℕ} 0 1 = cc in omega arith)

  pub next_stands : (l : code.Lexeme) → at ≤ length text → Ok l ≡ coded (next text at) → (at ≤ l.place) × Stands text l
  unfolding told kind_of
  next_stands l h is = by_reading (reading l h is)
    where
      by_reading : {l : code.Lexeme} → Reading l → (at ≤ l.place) × Stands text l
      by_reading (one m e n) =
          let f = next_fits m e n in
          (f.0, record { order = omega arith; within = f.1.within; some = λ _. f.1.some; last = λ ends. absurd (next_no_end m e n ends); known = known text m.place e m.what })
      by_reading (none n) = (h, record { order = omega arith; within = omega arith; some = λ k. absurd (k refl); last = λ _. refl; known = known text (length text) (length text) (fixed lexemes.end) })

pub end_small : (most : Sizes) (l : code.Lexeme) (n : ℕ) → Ends l → large most l.kind n ≡ false
unfolding large
end_small most l n ends = ap (λ (k : Kind). large most k n) ends

pub coded_refused : (a : Answer Next) (why : Refusal) (p : ℕ) → Err (record { why = why; place = p }) ≡ coded a → a ≡ refused why p
unfolding coded
coded_refused (given (lexeme m e)) why p h = cc
coded_refused (given (nothing q)) why p h = cc
coded_refused (refused w q) why p h =
    let e : record { why = why; place = p } ≡ record { why = w; place = q } = cc in
    sym (ap (λ (r : Refused). refused r.why r.place) e)

-- after the end nothing is refused
pub refused_goes : {text : List ℕ} {l : code.Lexeme} {why : Refusal} {p : ℕ} → Stands text l → Err (record { why = why; place = p }) ≡ coded (next text l.end) → Ends l → ⊥
unfolding coded
refused_goes {text} s h ends = let e = rw (s.last ends, next_last text) at h in let z : ◌≡◌ {A = ℕ} 0 1 = cc in omega arith
