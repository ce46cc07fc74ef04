-- A program reads one byte more of a text than the limit, and no further: that decides as much as the whole text. Assumes nothing.
use mathlib.Core.Path.{◌≡◌, refl, sym, subst}
use mathlib.Core.Logic.{◌↔◌}
use mathlib.Core.Bool.{Bool, true, false}
use mathlib.Core.List.{List, []}
use Prim.Native.Nat.{ℕ, ◌+◌, ◌<◌}
use native.Mathlib.Omega.{arith}
use borrow.Author.Tests.{leb-true, leb-false}
use lib.Dec.{leb}
use lib.ListN.{length, take}
use lib.Seq.{take_all, length-take-le}
use Rattle.limits.specs.Limits.{Limits}
use Rattle.base.specs.declared.Refusal.TheVariants.{TooLong}
use Rattle.base.specs.Answers.{Answer, refused}
use Rattle.compiler.specs.Compiled.{Accepted, too_long, no_code}
use Rattle.compiler.proofs.Judging.{one_judged, one_compiled}
use Rattle.tells.specs.Writes.{Writes}
use Rattle.tells.specs.declared.Said.{Said}
use Rattle.programs.specs.Programs.{Tabled, copied}
use Rattle.programs.specs.Comes.{Copies}

module _ (limits : Limits) where
  abbrev Long : List ℕ → Type 0
  Long text = limits.text < length text

  -- what is so of all texts that are too long, if of one, is so of a text exactly if of its beginning
  of_beginning : (So : List ℕ → Type 0) → ((s t : List ℕ) → Long s → Long t → So s → So t) → (text : List ℕ) → So (take (limits.text + 1) text) ↔ So text
  of_beginning So both_long text = by (leb (length text) (limits.text + 1)) refl
    where
      begin : List ℕ
      begin = take (limits.text + 1) text

      by : (t : Bool) → leb (length text) (limits.text + 1) ≡ t → So begin ↔ So text
      by true e = let q = take_all (limits.text + 1) text (leb-true (length text) (limits.text + 1) e) in (subst So q, subst So (sym q))
      by false e =
          let long = leb-false (length text) (limits.text + 1) e in
          let cut = length-take-le (limits.text + 1) text (omega arith) in
          (both_long begin text (omega arith) (omega arith), both_long text begin (omega arith) (omega arith))

  -- two texts that are too long have one answer
  one_answer : (a : Answer Accepted) (s t : List ℕ) → Long s → Long t → Tabled limits s a → Tabled limits t a
  one_answer a s t h i c = subst (Tabled limits t) (one_compiled limits s _ (no_code (too_long h)) c) (no_code (too_long i))

  -- and one thing is said of their copies
  one_copy : (r : Said) (page page' : List ℕ) (s t : List ℕ) → Long s → Long t → Copies limits s r page page' → Copies limits t r page page'
  unfolding copied
  one_copy r page page' s t h i w =
      let e = one_judged limits s w.is_given (too_long h) in
      let so : Writes (copied limits s (refused TooLong 0)) r page page' [] [] = subst (λ (a : Answer Accepted). Writes (copied limits s a) r page page' [] []) e w.so in
      record { answer = refused TooLong 0; is_given = too_long i; so = so }

  module _ (text : List ℕ) where
    pub beginning_decides : (a : Answer Accepted) → Tabled limits (take (limits.text + 1) text) a ↔ Tabled limits text a
    beginning_decides a = of_beginning (λ t. Tabled limits t a) (one_answer a) text

    pub beginning_copied : (r : Said) (page page' : List ℕ) → Copies limits (take (limits.text + 1) text) r page page' ↔ Copies limits text r page page'
    beginning_copied r page page' = of_beginning (λ t. Copies limits t r page page') (one_copy r page page') text
