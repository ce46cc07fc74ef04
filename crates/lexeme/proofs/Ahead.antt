-- The lexemes of a text, each read after the one before it. Assumes nothing.
use mathlib.Core.Path.{◌≡◌, refl, sym, ap, subst, ◌∙◌}
use mathlib.Core.List.{List, [], ◌∷◌, ◌++◌}
use mathlib.Core.Bool.{Bool, true, false}
use Prim.Native.Nat.{ℕ, zero, suc, ◌-◌, ◌≤◌, ◌<◌, min, zero-le}
use native.Mathlib.Omega.{arith}
use lib.ListN.{length}
use Rattle.base.specs.declared.Refusal.{Refusal}
use Rattle.base.specs.Answers.{Answer, given, refused, pass}
use Rattle.lexeme.specs.Lexemes as lexemes
use Rattle.lexeme.specs.Lexemes.{lit, name, class, string, fixed, end, Placed, Next, lexeme, nothing, Sizes, next, too_large, lexemes_from, lexemes}
use Rattle.lexeme.specs.inner.Coded.{kind_of, coded, placed, Ends, Number, Ahead, last, more}
use Rattle.lexeme.specs.declared.Kind.TheVariants as kind
use borrow.Author.Tests.{ltb-false}
use Rattle.lexeme.specs.declared.Lexeme.{Lexeme}
use Rattle.std.specs.Prelude.{Ok, Err}
use Rattle.lexeme.proofs.Decoded.{told_fixed}
use Rattle.lexeme.proofs.Places.{code_lexeme, next_fits, next_nothing, next_no_end, next_placed}
use Rattle.lexeme.proofs.Symbols.{Each, nil, ◌also◌}
use Rattle.lexeme.proofs.Scans.{from_one, from_large, from_none, from_refused}

-- the lexemes ls stand from the place at on
abbrev pub From : List ℕ → ℕ → List Placed → Type 0
From text at ls = (l : Lexeme) × (Ok l ≡ coded (next text at)) × Ahead text l ls

pub no_refusal : {A : Type 0} {a : A} {why : Refusal} {p : ℕ} → refused why p ≡ given a → ⊥
no_refusal h = let z : ◌≡◌ {A = ℕ} 0 1 = cc in omega arith

-- a literal that is not too large is a number
is_number : (most : Sizes) → most.literal ≤ 2147483647 → (w : lexemes.Lexeme) → too_large most w ≡ false → (v : ℕ) → kind_of w ≡ kind.Literal v → v ≤ 2147483647
unfolding kind_of too_large
is_number most small (lit n) t v h = let e : min n 4294967295 ≡ v = cc in omega (arith, ltb-false most.literal n t)
is_number most small (name x) t v h = let z : ◌≡◌ {A = ℕ} 0 1 = cc in absurd (omega arith)
is_number most small (class x) t v h = let z : ◌≡◌ {A = ℕ} 0 1 = cc in absurd (omega arith)
is_number most small (string q) t v h = let z : ◌≡◌ {A = ℕ} 0 1 = cc in absurd (omega arith)
is_number most small (fixed f) t v h = let z : ◌≡◌ {A = ℕ} 0 1 = cc in absurd (omega arith)

module _ (most : Sizes) (text : List ℕ) where
  -- lexemes in a row from a place on: each stands next after the one before it and is not too large, and the last is the end, at the text's length
  pub data Row : ℕ → List Placed → Type 0 where
    ended : {at : ℕ} → next text at ≡ given (nothing (length text)) → Row at (record { place = length text; what = fixed end } ∷ [])
    one : {at : ℕ} (m : Placed) (e : ℕ) {ls : List Placed} → next text at ≡ given (lexeme m e) → too_large most m.what ≡ false → Row e ls → Row at (m ∷ ls)

  -- by what stands next, where the lexemes further on are known
  by_next : (fuel at : ℕ) (ls : List Placed) → at ≤ length text → ((e : ℕ) (rest : List Placed) → at < e → e ≤ length text → lexemes_from most text fuel e ≡ given rest → Row e rest)
      → lexemes_from most text (suc fuel) at ≡ given ls → Row at ls
  unfolding pass
  by_next fuel at ls within further is = by_answer (next text at) refl
    where
      one_more : (m : Placed) (e : ℕ) → next text at ≡ given (lexeme m e) → too_large most m.what ≡ false → (r : Answer (List Placed)) → lexemes_from most text fuel e ≡ r → pass r (λ rest. given (m ∷ rest)) ≡ given ls → Row at ls
      one_more m e n t (given rest) r k =
          let f = next_fits text at m e n in
          let split : m ∷ rest ≡ ls = cc in
          subst (Row at) split (one m e n t (further e rest (omega arith) f.1.within r))
      one_more m e n t (refused why p) r k = absurd (no_refusal k)

      by_size : (m : Placed) (e : ℕ) → next text at ≡ given (lexeme m e) → (t : Bool) → too_large most m.what ≡ t → Row at ls
      by_size m e n true t = absurd (no_refusal (sym (from_large most text fuel at m e n t) ∙ is))
      by_size m e n false t = one_more m e n t (lexemes_from most text fuel e) refl (sym (from_one most text fuel at m e n t) ∙ is)

      by_answer : (a : Answer Next) → next text at ≡ a → Row at ls
      by_answer (given (lexeme m e)) n = by_size m e n (too_large most m.what) refl
      by_answer (given (nothing p)) n =
          let w = next_nothing text at p within n in
          let split : record { place = length text; what = fixed end } ∷ [] ≡ ls = cc (from_none most text fuel at p n) in
          subst (Row at) split (ended (rw w at n))
      by_answer (refused why p) n = absurd (no_refusal (sym (from_refused most text fuel at why p n) ∙ is))

  row_from : (fuel at : ℕ) (ls : List Placed) → at ≤ length text → length text - at < fuel → lexemes_from most text fuel at ≡ given ls → Row at ls
  row_from zero at ls within enough is = absurd (omega arith)
  row_from (suc fuel) at ls within enough is = by_next fuel at ls within (λ e rest after h r. row_from fuel e rest h (omega arith) r) is

  pub in_a_row : (ls : List Placed) → lexemes most text ≡ given ls → Row 0 ls
  unfolding lexemes
  in_a_row ls is = row_from (suc (length text)) 0 ls zero-le (omega arith) is

  row_ends : {at : ℕ} {ls : List Placed} → Row at ls → (before : List Placed) × (ls ≡ before ++ record { place = length text; what = fixed end } ∷ [])
  row_ends (ended n) = ([], refl)
  row_ends (one m e n t r) = let h = row_ends r in (m ∷ h.0, ap (λ ls. m ∷ ls) h.1)

  -- the lexemes of a text end with the end, at its length
  pub lexemes_end : (ls : List Placed) → lexemes most text ≡ given ls → (before : List Placed) × (ls ≡ before ++ record { place = length text; what = fixed end } ∷ [])
  lexemes_end ls is = row_ends (in_a_row ls is)

  -- ---- what holds of each

  module _ (P : lexemes.Lexeme → Type 0) (holds : (at : ℕ) (m : Placed) (e : ℕ) → next text at ≡ given (lexeme m e) → P m.what) (at_end : P (fixed end)) where
    abbrev EachOne : List Placed → Type 0
    EachOne ls = Each (λ (l : Placed). P l.what) ls

    row_each : {at : ℕ} {ls : List Placed} → Row at ls → EachOne ls
    row_each (ended n) = at_end also nil
    row_each (one {at} m e n t r) = holds at m e n also row_each r

    pub lexemes_each : (ls : List Placed) → lexemes most text ≡ given ls → EachOne ls
    lexemes_each ls is = row_each (in_a_row ls is)

-- ---- as the code reads them

module _ {most : Sizes} {text : List ℕ} (small : most.literal ≤ 2147483647) where
  row_ahead : {at : ℕ} {ls : List Placed} → Row most text at ls → From text at ls
  unfolding coded kind_of
  row_ahead (ended n) =
      let l : Lexeme = code_lexeme (record { place = length text; what = fixed end }) (length text) in
      (l, rw n, rw (← told_fixed text l end refl) (last l refl))
  row_ahead (one {at} m e {ls} n t r) =
      let later = row_ahead r in
      (code_lexeme m e, rw n, subst (λ (x : Placed). Ahead text (code_lexeme m e) (x ∷ ls)) (next_placed text at m e n most (omega arith) t) (more (code_lexeme m e) later.0 ls (next_no_end text at m e n) (is_number most small m.what t) later.1 later.2))

pub lexemes_ahead : (most : Sizes) (text : List ℕ) (ls : List Placed) → most.literal ≤ 2147483647 → lexemes most text ≡ given ls → From text 0 ls
lexemes_ahead most text ls small is = row_ahead small (in_a_row most text ls is)

-- ---- how they begin, and go on

pub record Begins (text : List ℕ) (l : Lexeme) (ls : List Placed) : Type 0 where
  pub rest : List Placed
  pub split : ls ≡ placed text l ∷ rest
  pub more : (Ends l → ⊥) → (m : Lexeme) → Ok m ≡ coded (next text l.end) → Ahead text m rest
  pub alone : Ends l → rest ≡ []
  pub number : Number l

module _ {text : List ℕ} where
  pub begins : {l : Lexeme} {ls : List Placed} → Ahead text l ls → Begins text l ls
  begins (last l ends) = record { rest = []; split = refl; more = λ n m is. absurd (n ends); alone = λ _. refl; number = λ v h. let z : ◌≡◌ {A = ℕ} 0 1 = cc in absurd (omega arith) }
  begins (more l k ls n number is a) = record { rest = ls; split = refl; more = λ _ m h. let e : k ≡ m = cc in subst (λ (x : Lexeme). Ahead text x ls) e a; alone = λ ends. absurd (n ends); number = number }

  pub not_ahead : {l : Lexeme} {ls : List Placed} → (Ends l → ⊥) → (why : Refusal) (p : ℕ) → Err (record { why = why; place = p }) ≡ coded (next text l.end) → Ahead text l ls → ⊥
  not_ahead n why p h (last l ends) = n ends
  not_ahead n why p h (more l k ls _ _ is a) = let z : ◌≡◌ {A = ℕ} 0 1 = cc in omega arith
