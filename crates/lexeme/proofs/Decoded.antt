-- The way back from the code's numbers and kinds: equal codes mean equal lexemes. Assumes nothing.
use mathlib.Core.Path.{◌≡◌, refl, sym, ap, ◌∙◌}
use mathlib.Core.List.{List}
use mathlib.Core.Bool.{Bool, true, false}
use Prim.Native.Nat.{ℕ}
use native.Mathlib.Omega.{arith}
use lib.Dec.{eqb}
use borrow.Author.Tests.{eq-eqb, ne_eqb}
use Rattle.lexeme.specs.Lexemes.{symbols, keywords, fixed, Fixed, becomes, equals_sign, comma, dot, greater_sign, less_sign, plus_sign, minus_sign, star, slash, open_round, close_round, open_square, close_square, open_brace, close_brace, CALL, CLASS, DO, ERROR, FIELDS, IF, INIT, INT, METHOD, NOT, OBJ, PRINTI, PRINTLNS, PRINTS, PROCEDURE, READ, RETURNS, SUBCLASSOF, THEN, USING, WHILE, end}
use Rattle.lexeme.specs.inner.Coded.{variant_of, number, code_of, fixeds, fixed_in, fixed_of, fixed_number, what_of, told}
use Rattle.lexeme.specs.declared.Fixed as code_fixed
use Rattle.lexeme.specs.declared.Fixed.TheVariants as variant
use Rattle.lexeme.specs.declared.Kind.{Kind}
use Rattle.lexeme.specs.declared.Kind.TheVariants as kind
use Rattle.lexeme.specs.declared.Lexeme.{Lexeme}

pub fixed_back : (f : Fixed) → fixed_of (code_of f) ≡ f
unfolding fixed_of fixed_in fixeds symbols keywords code_of
fixed_back becomes = refl
fixed_back equals_sign = refl
fixed_back comma = refl
fixed_back dot = refl
fixed_back greater_sign = refl
fixed_back less_sign = refl
fixed_back plus_sign = refl
fixed_back minus_sign = refl
fixed_back star = refl
fixed_back slash = refl
fixed_back open_round = refl
fixed_back close_round = refl
fixed_back open_square = refl
fixed_back close_square = refl
fixed_back open_brace = refl
fixed_back close_brace = refl
fixed_back CALL = refl
fixed_back CLASS = refl
fixed_back DO = refl
fixed_back ERROR = refl
fixed_back FIELDS = refl
fixed_back IF = refl
fixed_back INIT = refl
fixed_back INT = refl
fixed_back METHOD = refl
fixed_back NOT = refl
fixed_back OBJ = refl
fixed_back PRINTI = refl
fixed_back PRINTLNS = refl
fixed_back PRINTS = refl
fixed_back PROCEDURE = refl
fixed_back READ = refl
fixed_back RETURNS = refl
fixed_back SUBCLASSOF = refl
fixed_back THEN = refl
fixed_back USING = refl
fixed_back WHILE = refl
fixed_back end = refl

-- and of each variant
variant_back : (v : code_fixed.Fixed) → variant_of (fixed_of (number v)) ≡ v
unfolding fixed_of fixed_in fixeds symbols keywords code_of
variant_back variant.Becomes = refl
variant_back variant.Equals = refl
variant_back variant.Comma = refl
variant_back variant.Dot = refl
variant_back variant.Greater = refl
variant_back variant.Less = refl
variant_back variant.Plus = refl
variant_back variant.Minus = refl
variant_back variant.Star = refl
variant_back variant.Slash = refl
variant_back variant.OpenRound = refl
variant_back variant.CloseRound = refl
variant_back variant.OpenSquare = refl
variant_back variant.CloseSquare = refl
variant_back variant.OpenBrace = refl
variant_back variant.CloseBrace = refl
variant_back variant.Call = refl
variant_back variant.Class = refl
variant_back variant.Do = refl
variant_back variant.Error = refl
variant_back variant.Fields = refl
variant_back variant.If = refl
variant_back variant.Init = refl
variant_back variant.Int = refl
variant_back variant.Method = refl
variant_back variant.Not = refl
variant_back variant.Obj = refl
variant_back variant.Printi = refl
variant_back variant.Printlns = refl
variant_back variant.Prints = refl
variant_back variant.Procedure = refl
variant_back variant.Read = refl
variant_back variant.Returns = refl
variant_back variant.Subclassof = refl
variant_back variant.Then = refl
variant_back variant.Using = refl
variant_back variant.While = refl
variant_back variant.End = refl

pub number_injective : (v w : code_fixed.Fixed) → number v ≡ number w → v ≡ w
number_injective v w e = sym (variant_back v) ∙ ap (λ (n : ℕ). variant_of (fixed_of n)) e ∙ variant_back w

pub code_of_injective : (f g : Fixed) → code_of f ≡ code_of g → f ≡ g
code_of_injective f g e = sym (fixed_back f) ∙ ap fixed_of e ∙ fixed_back g

-- 255 is the number of none
no_code : (f : Fixed) → code_of f ≡ 255 → ⊥
unfolding fixed_of fixed_in fixeds symbols keywords code_of
no_code f e =
    let g : end ≡ f = ap fixed_of (sym e) ∙ fixed_back f in
    let z : 0 ≡ code_of f = ap code_of g in
    omega arith

pub number_fixed : (k : Kind) (f : Fixed) → fixed_number k ≡ code_of f → k ≡ kind.Fixed (variant_of f)
unfolding fixed_number code_of
number_fixed (kind.Literal v) f e = absurd (no_code f (sym e))
number_fixed kind.Name f e = absurd (no_code f (sym e))
number_fixed kind.Class f e = absurd (no_code f (sym e))
number_fixed kind.Str f e = absurd (no_code f (sym e))
number_fixed (kind.Fixed v) f e = ap kind.Fixed (number_injective v (variant_of f) e)

-- the same of each variant
pub number_variant : (k : Kind) (v : code_fixed.Fixed) → fixed_number k ≡ number v → k ≡ kind.Fixed v
unfolding code_of
number_variant k v e = let n : number v ≡ code_of (fixed_of (number v)) = ap number (sym (variant_back v)) in number_fixed k (fixed_of (number v)) (e ∙ n) ∙ ap kind.Fixed (variant_back v)

-- a flag that says whether a kind is this variant
pub is_variant : (k : Kind) (v : code_fixed.Fixed) (b : Bool) → (b ≡ true → k ≡ kind.Fixed v) → (b ≡ false → k ≡ kind.Fixed v → ⊥) → b ≡ eqb (fixed_number k) (number v)
unfolding fixed_number
is_variant k v true y n = sym (eq-eqb (fixed_number k) (number v) (ap fixed_number (y refl)))
is_variant k v false y n = sym (ne_eqb (fixed_number k) (number v) (λ e. n refl (number_variant k v e)))

-- what the code's lexeme of a fixed one is
pub told_fixed : (text : List ℕ) (l : Lexeme) (f : Fixed) → l.kind ≡ kind.Fixed (variant_of f) → told text l ≡ fixed f
unfolding told what_of code_of
told_fixed text l f e = ap (what_of text l.place l.end) e ∙ ap fixed (fixed_back f)
