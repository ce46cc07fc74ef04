-- The loop that writes the copy: what stands in the room, with what is still to come, is the tidy text. Assumes nothing.
use mathlib.Core.Path.{◌≡◌, refl, sym, ap, subst, ◌∙◌}
use mathlib.Core.List.{List, [], ◌∷◌, ◌++◌, append-nil, append_assoc}
use mathlib.Core.Bool.{cond}
use Prim.Native.Nat.{ℕ, ◌-◌, ◌≤◌, ◌<◌}
use native.Mathlib.Omega.{arith}
use borrow.Author.Tests.{ne_eqb}
use lib.Dec.{eqb}
use lib.IntN.{pos}
use lib.ListN.{length, drop, length-append, length-drop}
use lib.Seq.{length-take-le}
use Rattle.base.specs.Bytes.{value}
use Rattle.base.specs.inner.Parts.{part}
use Rattle.lexeme.specs.Lexemes as lexemes
use Rattle.lexeme.specs.Lexemes.{Placed, next}
use Rattle.lexeme.specs.declared.Kind.{Kind}
use Rattle.lexeme.specs.declared.Kind.TheVariants as kind
use Rattle.lexeme.specs.declared.Lexeme.{Lexeme}
use Rattle.lexeme.specs.inner.Coded.{coded, placed, what_of, told, Ends, Number, Ahead, last, more}
use Rattle.lexeme.proofs.Ahead.{From}
use Rattle.lexeme.proofs.Places.{next_stands}
use Rattle.sentence.specs.Grammar.{whats}
use Rattle.numbers.specs.Numbers.{decimal}
use Rattle.numbers.proofs.Digits.{some_digits}
use Rattle.std.specs.Prelude.{Option, Some, None, Ok}
use Rattle.std.specs.Result.{result_ok}
use Rattle.std.proofs.lemmas.Grind.{common_steps}
use Rattle.spelling.specs.Spelling.{written, after_space, spaced, without_end, tidy_text}
use Rattle.spelling.proofs.Inverse.{as_it_stands, literal_stands}
use Rattle.tidy.specs.inner.Copies.{without_zeros, of_kind, copied, gap, Puts}
use Rattle.tidy.proofs.Zeros.{zeros_decimal}
use Rattle.tidy.proofs.Puts.{put_up_to, puts_none, puts_stop, puts_then}

-- ---- the bytes of a lexeme

module _ (text : List ℕ) (at : ℕ) (l : Lexeme) (within : at ≤ length text) (is : Ok l ≡ coded (next text at)) (goes_on : Ends l → ⊥) where
  abbrev own : List ℕ
  own = part text l.place l.end

  own_some : 0 < length own
  unfolding part
  own_some =
      let s = (next_stands text at l within is).1 in
      rw (length-take-le (l.end - l.place) (drop l.place text) (omega (arith, length-drop l.place text, s.within))) (omega (arith, s.some goes_on))

  -- what is copied is the lexeme as it is always written
  pub copied_written : Number l → (copied text l ≡ written (told text l)) × (0 < length (copied text l))
  unfolding copied told of_kind what_of written
  copied_written number = by l.kind refl
    where
      no_literal : (k : Kind) → l.kind ≡ k → ((v : ℕ) → k ≡ kind.Literal v → ⊥) → own ≡ written (what_of text l.place l.end k)
      no_literal k e n = as_it_stands text at l within is goes_on (λ v h. n v (sym e ∙ h)) ∙ ap (λ (j : Kind). written (what_of text l.place l.end j)) e

      by : (k : Kind) → l.kind ≡ k → (of_kind k own ≡ written (what_of text l.place l.end k)) × (0 < length (of_kind k own))
      by (kind.Literal v) e =
          let d = literal_stands text at l within is v e in
          let worth : value 0 own ≡ v = omega (arith, d.1, number v e) in
          let w : without_zeros own ≡ decimal (pos v) = zeros_decimal own d.0 own_some ∙ ap (λ (n : ℕ). decimal (pos n)) worth in
          (w, rw w (unfold decimal in some_digits v))
      by kind.Name e = (no_literal kind.Name e (λ v h. cc), own_some)
      by kind.Class e = (no_literal kind.Class e (λ v h. cc), own_some)
      by kind.Str e = (no_literal kind.Str e (λ v h. cc), own_some)
      by (kind.Fixed f) e = (no_literal (kind.Fixed f) e (λ v h. cc), own_some)

-- ---- the lexemes that are still to come

abbrev words : List Placed → List lexemes.Lexeme
words ls = without_end (whats ls)

module _ (text : List ℕ) where
  nothing_more : {l : Lexeme} {ls : List Placed} → Ahead text l ls → Ends l → words ls ≡ []
  unfolding without_end whats
  nothing_more (last l ends) e = refl
  nothing_more (more l m ls n _ _ _) e = absurd (n e)

  -- lexemes ahead are never none
  one_first : (l : Lexeme) {m : Lexeme} {ls : List Placed} → Ahead text m ls → words (placed text l ∷ ls) ≡ told text l ∷ words ls
  unfolding without_end whats
  one_first l (last m ends) = refl
  one_first l (more m k ls _ _ _ _) = refl

  record Onward (l : Lexeme) (ls : List Placed) : Type 0 where
    later : List Placed
    from : From text l.end later
    split : words ls ≡ told text l ∷ words later
    number : Number l

  onward : {l : Lexeme} {ls : List Placed} → Ahead text l ls → (Ends l → ⊥) → Onward l ls
  onward (last l ends) n = absurd (n ends)
  onward (more l m ls _ number is a) n = record { later = ls; from = (m, is, a); split = one_first l a; number = number }

-- what is to come, where n bytes stand in the room
abbrev to_come : ℕ → List lexemes.Lexeme → List ℕ
to_come n ws = cond (eqb n 0) (spaced ws) (after_space ws)

come_out : (n : ℕ) → to_come n [] ≡ []
unfolding spaced after_space
come_out n = grind (arith, common_steps)

come_on : (n : ℕ) (w : lexemes.Lexeme) (ws : List lexemes.Lexeme) → to_come n (w ∷ ws) ≡ gap n ++ (written w ++ after_space ws)
unfolding spaced after_space gap
come_on n w ws = grind (arith, common_steps)

-- ---- the loop

module _ (text before : List ℕ) (all : List Placed) where
  -- what stands in the room, with what is to come, is the tidy text
  pub record Copying (at n : ℕ) (room : List ℕ) : Type 0 where
    ls : List Placed
    from : From text at ls
    done : List ℕ
    puts : Puts done before 0 (Some n) room
    rest : done ++ to_come n (words ls) ≡ tidy_text all

  pub starts : From text 0 all → Copying 0 0 before
  unfolding tidy_text
  starts f = record { ls = all; from = f; done = []; puts = puts_none before; rest = refl }

  module _ {at n : ℕ} {room : List ℕ} (c : Copying at n room) where
    -- what stands next is a lexeme
    pub never_refused : None ≡ result_ok (coded (next text at)) → ⊥
    never_refused e = let h = rw (← c.from.1) at e in cc

    module _ (l : Lexeme) (is : Ok l ≡ coded (next text at)) where
      ahead : Ahead text l c.ls
      ahead = let e : c.from.0 ≡ l = cc c.from.1 in subst (λ (x : Lexeme). Ahead text x c.ls) e c.from.2

      pub ended : Ends l → Puts (tidy_text all) before 0 (Some n) room
      ended ends =
          let none : to_come n (words c.ls) ≡ [] = rw (nothing_more text ahead ends) (come_out n) in
          let all_of_it : c.done ≡ tidy_text all = sym (append-nil c.done) ∙ rw (← none) c.rest in
          rw (← all_of_it) c.puts

      module _ (within : at ≤ length text) (goes_on : Ends l → ⊥) where
        o : Onward text l c.ls
        o = onward text ahead goes_on

        abbrev put_here : List ℕ
        put_here = gap n ++ copied text l

        -- with the lexeme put, what is left is each with a space before it
        split : c.done ++ put_here ++ after_space (words o.later) ≡ tidy_text all
        split =
            let w = (copied_written text at l within is goes_on o.number).0 in
            let x = after_space (words o.later) in
            append_assoc c.done put_here x ∙ ap (λ (z : List ℕ). c.done ++ z) (append_assoc (gap n) (copied text l) x ∙ rw w (sym (come_on n (told text l) (words o.later)) ∙ ap (to_come n) (sym o.split))) ∙ c.rest

        module _ {r : Option ℕ} {room' : List ℕ} (p : Puts put_here room n r room') where
          both : Puts (c.done ++ put_here) before 0 r room'
          both = puts_then c.puts refl p

          pub stopped : r ≡ None → Puts (tidy_text all) before 0 r room'
          stopped e = rw (← split) (puts_stop (after_space (words o.later)) both e)

          pub goes : (m : ℕ) → r ≡ Some m → Copying l.end m room'
          goes m e =
              let some : m ≡ 0 → ⊥ = λ z. omega (arith, (put_up_to m p e).1, length-append (gap n) (copied text l), (copied_written text at l within is goes_on o.number).1) in
              record { ls = o.later; from = o.from; done = c.done ++ put_here; puts = rw (← e) both; rest = rw (ne_eqb m 0 some) split }
