-- What a state has read, and what a lexeme that comes to it leaves true.
use mathlib.Core.Path.{◌≡◌, refl}
use mathlib.Core.List.{List, [], ◌∷◌, ◌++◌}
use mathlib.Core.Bool.{Bool, true, false, cond, not, ◌&&◌, ◌||◌}
use Prim.Native.Nat.{ℕ, suc, ◌≤◌, zero-le}
use native.Mathlib.Nat.{le_of_eq}
use native.Mathlib.Omega.{arith}
use lib.Dec.{T}
use Rattle.lexeme.specs.Lexemes.{Name, Quoted, Fixed, Lexeme, lit, name, class, string, fixed}
use Rattle.lexeme.specs.Lexemes.{open_round, open_brace, becomes, DO, IF, INT, NOT, PRINTI, PRINTLNS, PRINTS, READ, THEN, WHILE, end}
use Rattle.sentence.specs.Sentences.{Kind, sign, mul, rel, spell, program}
use Rattle.sentence.proofs.Reader.{Around, in_first, in_multiply, in_unsigned, in_signed, in_add, in_bracket, in_left, in_right, in_print, in_assign, in_negated, in_while, in_when, in_while_body, in_when_body, in_block, in_block_after, in_program}
use Rattle.sentence.proofs.Reader.{State, want_DO, want_factor, want_expression, want_condition, want_command, want_line, want_string, want_declared, want_read, want_becomes, got_term, got_command, whole, nowhere}
use Rattle.sentence.proofs.Reader.{is, on, on_lit, on_name, on_string}
use Rattle.sentence.proofs.Reader.{Verdict, verdict, goes_on, is_whole, begins_none}
use Rattle.sentence.proofs.Operators.{is_fixed}
use Rattle.sentence.proofs.Walk.{nested_at}

-- ---- what a state has read

unfoldable pub before : {k : Kind} → Around k → List Lexeme
before (in_first k) = before k
before (in_multiply t o k) = before k ++ (spell t ++ mul o ∷ [])
before (in_unsigned k) = before k
before (in_signed s k) = before k ++ sign s ∷ []
before (in_add e s k) = before k ++ (spell e ++ sign s ∷ [])
before (in_bracket k) = before k ++ fixed open_round ∷ []
before (in_left k) = before k
before (in_right d r k) = before k ++ (spell d ++ rel r ∷ [])
before (in_print k) = before k ++ fixed PRINTI ∷ []
before (in_assign x k) = before k ++ name x ∷ fixed becomes ∷ []
before (in_negated k) = before k ++ fixed NOT ∷ []
before (in_while k) = before k ++ fixed WHILE ∷ []
before (in_when k) = before k ++ fixed IF ∷ []
before (in_while_body c k) = before k ++ fixed WHILE ∷ (spell c ++ fixed DO ∷ [])
before (in_when_body c k) = before k ++ fixed IF ∷ (spell c ++ fixed THEN ∷ [])
before (in_block k) = before k ++ fixed open_brace ∷ []
before (in_block_after ms k) = before k ++ fixed open_brace ∷ spell ms
before in_program = fixed DO ∷ []

unfoldable pub had : State → List Lexeme
had want_DO = []
had (want_factor k) = before k
had (want_expression k) = before k
had (want_condition k) = before k
had (want_command k) = before k
had (want_line k) = before k ++ fixed PRINTLNS ∷ []
had (want_string k) = before k ++ fixed PRINTS ∷ []
had (want_declared k) = before k ++ fixed INT ∷ []
had (want_read k) = before k ++ fixed READ ∷ []
had (want_becomes x k) = before k ++ name x ∷ []
had (got_term t k) = before k ++ spell t
had (got_command m k) = before k ++ spell m
had (whole m) = program m ++ fixed end ∷ []
had nowhere = []

unfoldable pub alive_at : Verdict → Bool
alive_at (goes_on d) = true
alive_at (is_whole m) = true
alive_at begins_none = false

abbrev pub Alive : State → Type 0
Alive s = T (alive_at (verdict s))

-- ---- one lexeme more

unfoldable pub open_at : Verdict → ℕ
open_at (goes_on d) = d
open_at (is_whole m) = 0
open_at begins_none = 0

unfoldable pub going : Verdict → Bool
going (goes_on d) = true
going (is_whole m) = false
going begins_none = false

unfoldable pub opens : Lexeme → Bool
opens l = is open_brace l || (is IF l || (is WHILE l || (is NOT l || is open_round l)))

-- read where d nestings were open, l brings to s: s has read l too, l stands in no more nestings than d unless it opens one, and nothing goes on after the end
pub record Good (read : List Lexeme) (d : ℕ) (s : State) (l : Lexeme) : Type 0 where
  pub has : Alive s → had s ≡ read ++ l ∷ []
  pub shallow : nested_at l (verdict s) ≤ cond (opens l) (open_at (verdict s)) d
  pub final : T (not (is end l && going (verdict s)))

module _ {read : List Lexeme} {d : ℕ} where
  pub stuck : {l : Lexeme} → Good read d nowhere l
  unfolding verdict alive_at nested_at going
  stuck {l} = record { has = λ a. absurd a; shallow = zero-le; final = not_going (is end l) }
    where
      not_going : (b : Bool) → T (not (b && false))
      not_going true = tt
      not_going false = tt

  pub good : {s : State} {l : Lexeme} → T (not (is end l && going (verdict s))) → nested_at l (verdict s) ≡ cond (opens l) (open_at (verdict s)) d → had s ≡ read ++ l ∷ [] → Good read d s l
  good f n h = record { has = λ a. h; shallow = le_of_eq n; final = f }

  pub deeper : {s : State} {l : Lexeme} → Good read d s l → Good read (suc d) s l
  deeper {s} {l} g = record { has = g.has; shallow = go (opens l) g.shallow; final = g.final }
    where
      go : (b : Bool) → nested_at l (verdict s) ≤ cond b (open_at (verdict s)) d → nested_at l (verdict s) ≤ cond b (open_at (verdict s)) (suc d)
      go true h = h
      go false h = omega arith

-- ---- a choice by a lexeme is good where each choice is

module _ {read : List Lexeme} {d : ℕ} where
  pub by_word : (w : Fixed) (l : Lexeme) {s t : State} → Good read d s (fixed w) → Good read d t l → Good read d (on w l s t) l
  unfolding on
  by_word w l {s} {t} h g = go (is w l) refl
    where
      go : (b : Bool) → is w l ≡ b → Good read d (cond b s t) l
      go true e = rw (is_fixed w l e) h
      go false e = g

  pub by_lit : (l : Lexeme) {f : ℕ → State} {t : State} → ((n : ℕ) → Good read d (f n) (lit n)) → Good read d t l → Good read d (on_lit l f t) l
  unfolding on_lit
  by_lit (lit n) h = λ g. h n
  by_lit (name x) h = λ g. g
  by_lit (class x) h = λ g. g
  by_lit (string q) h = λ g. g
  by_lit (fixed v) h = λ g. g

  pub by_name : (l : Lexeme) {f : Name → State} {t : State} → ((x : Name) → Good read d (f x) (name x)) → Good read d t l → Good read d (on_name l f t) l
  unfolding on_name
  by_name (lit n) h = λ g. g
  by_name (name x) h = λ g. h x
  by_name (class x) h = λ g. g
  by_name (string q) h = λ g. g
  by_name (fixed v) h = λ g. g

  pub by_string : (l : Lexeme) {f : Quoted → State} {t : State} → ((q : Quoted) → Good read d (f q) (string q)) → Good read d t l → Good read d (on_string l f t) l
  unfolding on_string
  by_string (lit n) h = λ g. g
  by_string (name x) h = λ g. g
  by_string (class x) h = λ g. g
  by_string (string q) h = λ g. h q
  by_string (fixed v) h = λ g. g
