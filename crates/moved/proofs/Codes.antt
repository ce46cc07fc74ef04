-- A sentence whose strings stand at other places has the same code but for string places, and the same need. Assumes nothing.
use mathlib.Core.Path.{◌≡◌, refl, sym, ap, ◌∙◌}
use mathlib.Core.List.{List, [], ◌∷◌, ◌++◌, map, map-append}
use Prim.Native.Nat.{ℕ, zero, suc, ◌+◌}
use lib.IntN.{pos}
use lib.ListN.{length, replicate, length-map}
use Rattle.lexeme.specs.Lexemes.{Quoted}
use Rattle.sentence.specs.Sentences.{Sign, plus, minus, Kind, Sen, command, literal, variable, bracket, first, multiply, unsigned, signed, add, negated, compare, print, print_line, print_string, declare, input, assign, error, while, when, block, single, then}
use Rattle.sentence.proofs.Parts.{Each}
use Rattle.instruction.specs.Instructions.{Instruction, push_int}
use Rattle.rules.specs.Machine.{string}
use Rattle.meaning.specs.Layout.{leading, code, program_code, need}
use Rattle.meaning.proofs.Fits.{Fits}
use Rattle.moved.specs.Told.{told, SameButPlaces}
use Rattle.moved.proofs.Moved.{moved}

pub same_length : (text : List ℕ) (is : List Instruction) (text' : List ℕ) (js : List Instruction) → SameButPlaces text is text' js → length is ≡ length js
unfolding SameButPlaces
same_length text is text' js s = sym (length-map is (told text)) ∙ ap length s ∙ length-map js (told text')

-- ---- the code

module _ (text text' : List ℕ) where
  record Same (is js : List Instruction) : Type 0 where
    tells : SameButPlaces text is text' js

  long : {is js : List Instruction} → Same is js → length is ≡ length js
  long {is} {js} s = same_length text is text' js s.tells

  joins : {is js is' js' : List Instruction} → Same is js → Same is' js' → Same (is ++ is') (js ++ js')
  unfolding SameButPlaces
  joins {is} {js} {is'} {js'} s t = record { tells = rw (map-append (told text) is is', map-append (told text') js js', s.tells, t.tells) }

  one : (i j : Instruction) → told text i ≡ told text' j → Same (i ∷ []) (j ∷ [])
  unfolding SameButPlaces
  one i j e = record { tells = rw e }

  pushes : (n : ℕ) → Same (replicate n (push_int (pos 0))) (replicate n (push_int (pos 0)))
  unfolding SameButPlaces told
  pushes zero = record { tells = refl }
  pushes (suc n) = joins (one _ _ refl) (pushes n)

  leads : (g : Sign) → Same (leading g) (leading g)
  unfolding SameButPlaces told
  leads plus = record { tells = refl }
  leads minus = one _ _ refl

  module _ (h : Quoted → Quoted) where
    -- each string has the same bytes at its two places
    abbrev pub SameStrings : {k : Kind} → Sen ℕ k → Type 0
    SameStrings x = Each (λ _. Unit {0}) (λ q. string text q.place ≡ string text' (h q).place) x

    -- so it is where each stands in its own text, with the same bytes inside
    pub strings_in_both : (d e : ℕ) → ((q : Quoted) → (h q).inside ≡ q.inside) → {k : Kind} (x : Sen ℕ k) → Fits text d x → Fits text' e (moved (λ c. c) h x) → SameStrings x
    unfolding moved Each
    strings_in_both d e i (literal n) f g = tt
    strings_in_both d e i (variable c) f g = tt
    strings_in_both d e i (bracket x) f g = strings_in_both d e i x f g
    strings_in_both d e i (first x) f g = strings_in_both d e i x f g
    strings_in_both d e i (multiply x o y) f g = (strings_in_both d e i x f.0 g.0, strings_in_both d e i y f.1 g.1)
    strings_in_both d e i (unsigned x) f g = strings_in_both d e i x f g
    strings_in_both d e i (signed s x) f g = strings_in_both d e i x f g
    strings_in_both d e i (add x s y) f g = (strings_in_both d e i x f.0 g.0, strings_in_both d e i y f.1 g.1)
    strings_in_both d e i (negated x) f g = strings_in_both d e i x f g
    strings_in_both d e i (compare x r y) f g = (strings_in_both d e i x f.0 g.0, strings_in_both d e i y f.1 g.1)
    strings_in_both d e i (print x) f g = strings_in_both d e i x f g
    strings_in_both d e i (print_line q) f g = f.1 ∙ sym (i q) ∙ sym g.1
    strings_in_both d e i (print_string q) f g = f.1 ∙ sym (i q) ∙ sym g.1
    strings_in_both d e i (declare c) f g = tt
    strings_in_both d e i (input c) f g = tt
    strings_in_both d e i (assign c x) f g = (tt, strings_in_both d e i x f.1 g.1)
    strings_in_both d e i error f g = tt
    strings_in_both d e i (while x y) f g = (strings_in_both d e i x f.0 g.0, strings_in_both d e i y f.1 g.1)
    strings_in_both d e i (when x y) f g = (strings_in_both d e i x f.0 g.0, strings_in_both d e i y f.1 g.1)
    strings_in_both d e i (block x) f g = strings_in_both d e i x f g
    strings_in_both d e i (single x) f g = strings_in_both d e i x f g
    strings_in_both d e i (then x y) f g = (strings_in_both d e i x f.0 g.0, strings_in_both d e i y f.1 g.1)

    codes : {k : Kind} (x : Sen ℕ k) → SameStrings x → (a : ℕ) → Same (code a x) (code a (moved (λ c. c) h x))
    unfolding code moved Each told
    codes (literal n) q a = one _ _ refl
    codes (variable c) q a = one _ _ refl
    codes (bracket e) q a = codes e q a
    codes (first f) q a = codes f q a
    codes (multiply t o f) q a = let l = codes t q.0 a in rw (← long l) (joins l (joins (codes f q.1 _) (one _ _ refl)))
    codes (unsigned t) q a = codes t q a
    codes (signed g t) q a = joins (codes t q a) (leads g)
    codes (add e g t) q a = let l = codes e q.0 a in rw (← long l) (joins l (joins (codes t q.1 _) (one _ _ refl)))
    codes (negated c) q a = joins (codes c q a) (one _ _ refl)
    codes (compare d r e) q a = let l = codes d q.0 a in rw (← long l) (joins l (joins (codes e q.1 _) (one _ _ refl)))
    codes (print e) q a = joins (codes e q a) (one _ _ refl)
    codes (print_line s) q a = one _ _ (rw q)
    codes (print_string s) q a = one _ _ (rw q)
    codes (declare c) q a = joins (one _ _ refl) (one _ _ refl)
    codes (input c) q a = joins (one _ _ refl) (one _ _ refl)
    codes (assign c e) q a = joins (codes e q.1 a) (one _ _ refl)
    codes error q a = one _ _ refl
    codes (while c m) q a =
        let l = codes c q.0 a in
        let b = codes m q.1 (a + length (code a c) + 1) in
        rw (← long l, ← long b) (joins l (joins (one _ _ refl) (joins b (one _ _ refl))))
    codes (when c m) q a =
        let l = codes c q.0 a in
        let b = codes m q.1 (a + length (code a c) + 1) in
        rw (← long l, ← long b) (joins l (joins (one _ _ refl) b))
    codes (block ms) q a = codes ms q a
    codes (single m) q a = codes m q a
    codes (then ms m) q a = let l = codes ms q.0 a in rw (← long l) (joins l (codes m q.1 _))

    pub code_moved : {k : Kind} (x : Sen ℕ k) → SameStrings x → (a : ℕ) → map (told text) (code a x) ≡ map (told text') (code a (moved (λ c. c) h x))
    unfolding SameButPlaces
    code_moved x q a = (codes x q a).tells

    pub program_code_moved : (cells : ℕ) (m : Sen ℕ command) → SameStrings m → SameButPlaces text (program_code cells m) text' (program_code cells (moved (λ c. c) h m))
    unfolding program_code told
    program_code_moved cells m q = (joins (pushes cells) (joins (codes m q cells) (one _ _ refl))).tells

-- ---- the need

pub need_moved : (h : Quoted → Quoted) {k : Kind} (x : Sen ℕ k) → need (moved (λ c. c) h x) ≡ need x
unfolding need moved
need_moved h (literal n) = refl
need_moved h (variable c) = refl
need_moved h (bracket e) = need_moved h e
need_moved h (first f) = need_moved h f
need_moved h (multiply t o f) = rw (need_moved h t, need_moved h f)
need_moved h (unsigned t) = need_moved h t
need_moved h (signed g t) = need_moved h t
need_moved h (add e g t) = rw (need_moved h e, need_moved h t)
need_moved h (negated c) = need_moved h c
need_moved h (compare d r e) = rw (need_moved h d, need_moved h e)
need_moved h (print e) = need_moved h e
need_moved h (print_line q) = refl
need_moved h (print_string q) = refl
need_moved h (declare c) = refl
need_moved h (input c) = refl
need_moved h (assign c e) = need_moved h e
need_moved h error = refl
need_moved h (while c m) = rw (need_moved h c, need_moved h m)
need_moved h (when c m) = rw (need_moved h c, need_moved h m)
need_moved h (block ms) = need_moved h ms
need_moved h (single m) = need_moved h m
need_moved h (then ms m) = rw (need_moved h ms, need_moved h m)
