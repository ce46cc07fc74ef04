-- The lexemes from a place on, by what stands next there, and what a scan that stands there knows. Assumes nothing.
use mathlib.Core.Path.{◌≡◌, refl, sym, ap, ◌∙◌}
use mathlib.Core.List.{List, [], ◌∷◌}
use mathlib.Core.Bool.{true, false}
use Prim.Native.Nat.{ℕ, zero, suc, ◌-◌, ◌≤◌, ◌<◌}
use native.Mathlib.Omega.{arith}
use lib.ListN.{length}
use Rattle.base.specs.declared.Refusal.{Refusal}
use Rattle.base.specs.declared.Refusal.TheVariants.{TooLarge}
use Rattle.base.specs.Answers.{Answer, given, refused, pass}
use Rattle.lexeme.specs.Lexemes.{fixed, end, Placed, lexeme, nothing, Sizes, next, too_large, sized, lexemes_from, lexemes}
use Rattle.lexeme.specs.inner.Coded.{kind_of, coded, scanned, large, Ends}
use Rattle.lexeme.specs.declared.Lexeme.{Lexeme}
use Rattle.std.specs.Prelude.{Ok, Err}
use Rattle.lexeme.proofs.Places.{Reading, one, none, reading, next_fits, next_no_end, next_large, coded_refused}

module _ (most : Sizes) (text : List ℕ) where
  module _ (fuel at : ℕ) where
    pub from_one : (m : Placed) (e : ℕ) → next text at ≡ given (lexeme m e) → too_large most m.what ≡ false → lexemes_from most text (suc fuel) at ≡ pass (lexemes_from most text fuel e) (λ ls. given (m ∷ ls))
    unfolding lexemes_from pass sized
    from_one m e n t = rw (n, t)

    pub from_large : (m : Placed) (e : ℕ) → next text at ≡ given (lexeme m e) → too_large most m.what ≡ true → lexemes_from most text (suc fuel) at ≡ refused TooLarge m.place
    unfolding lexemes_from pass sized
    from_large m e n t = rw (n, t)

    pub from_none : (p : ℕ) → next text at ≡ given (nothing p) → lexemes_from most text (suc fuel) at ≡ given (record { place = p; what = fixed end } ∷ [])
    unfolding lexemes_from pass
    from_none p n = rw n

    pub from_refused : (why : Refusal) (p : ℕ) → next text at ≡ refused why p → lexemes_from most text (suc fuel) at ≡ refused why p
    unfolding lexemes_from pass
    from_refused why p n = rw n

  -- ---- the scan

  -- the lexemes from a place on decide how the scan of the whole text ends
  pub record Scan (at : ℕ) : Type 0 where
    pub within : at ≤ length text
    fuel : ℕ
    enough : length text - at ≤ fuel
    same : scanned text (lexemes_from most text (suc fuel) at) ≡ scanned text (lexemes most text)

  pub scan_starts : Scan 0
  unfolding lexemes
  scan_starts = record { within = omega arith; fuel = length text; enough = omega arith; same = refl }

  scanned_more : (m : Placed) (a : Answer (List Placed)) → scanned text a ≡ scanned text (pass a (λ ls. given (m ∷ ls)))
  unfolding scanned pass
  scanned_more m (given ls) = refl
  scanned_more m (refused why p) = refl

  module _ (at : ℕ) (s : Scan at) where
    pub scan_refused : (why : Refusal) (p : ℕ) → Err (record { why = why; place = p }) ≡ coded (next text at) → Err (record { why = why; place = p }) ≡ scanned text (lexemes most text)
    unfolding scanned
    scan_refused why p h = ap (scanned text) (sym (from_refused s.fuel at why p (coded_refused (next text at) why p h))) ∙ s.same

    module _ (small : most.literal < 4294967295) (l : Lexeme) (is : Ok l ≡ coded (next text at)) where
      pub scan_large : large most l.kind (l.end - l.place) ≡ true → Err (record { why = TooLarge; place = l.place }) ≡ scanned text (lexemes most text)
      unfolding scanned large kind_of
      scan_large t = by_reading (reading text at l s.within is) t
        where
          by_reading : {l : Lexeme} → Reading text at l → large most l.kind (l.end - l.place) ≡ true → Err (record { why = TooLarge; place = l.place }) ≡ scanned text (lexemes most text)
          by_reading (one m e n) t = ap (scanned text) (sym (from_large s.fuel at m e n (sym (next_large text at m e n most small) ∙ t))) ∙ s.same
          by_reading (none n) t = absurd (let z : ◌≡◌ {A = ℕ} 0 1 = cc in omega arith)

      pub scan_ends : Ends l → Ok l ≡ scanned text (lexemes most text)
      unfolding scanned kind_of
      scan_ends ends = by_reading (reading text at l s.within is) ends
        where
          by_reading : {l : Lexeme} → Reading text at l → Ends l → Ok l ≡ scanned text (lexemes most text)
          by_reading (one m e n) ends = absurd (next_no_end text at m e n ends)
          by_reading (none n) ends = ap (scanned text) (sym (from_none s.fuel at (length text) n)) ∙ s.same

      pub scan_on : large most l.kind (l.end - l.place) ≡ false → (Ends l → ⊥) → Scan l.end
      unfolding kind_of
      scan_on t n = by_reading (reading text at l s.within is) s.fuel s.enough s.same t n
        where
          by_reading : {l : Lexeme} → Reading text at l → (fuel : ℕ) → length text - at ≤ fuel → scanned text (lexemes_from most text (suc fuel) at) ≡ scanned text (lexemes most text)
              → large most l.kind (l.end - l.place) ≡ false → (Ends l → ⊥) → Scan l.end
          by_reading (one m e n) zero enough same t k = let f = next_fits text at m e n in absurd (omega arith)
          by_reading (one m e n) (suc fuel) enough same t k =
              let f = next_fits text at m e n in
              record {
                within = f.1.within;
                fuel = fuel;
                enough = omega arith;
                same = scanned_more m (lexemes_from most text (suc fuel) e) ∙ ap (scanned text) (sym (from_one (suc fuel) at m e n (sym (next_large text at m e n most small) ∙ t))) ∙ same;
              }
          by_reading (none n) fuel enough same t k = absurd (k refl)
