-- Which lexeme stands ahead, by its kind and its number. Assumes nothing.
use mathlib.Core.Path.{◌≡◌, refl, sym, ap, subst, ◌∙◌}
use mathlib.Core.List.{List}
use mathlib.Core.Bool.{Bool, true, false, cond}
use Prim.Native.Nat.{ℕ, ◌+◌, ◌-◌}
use native.Mathlib.Omega.{arith}
use lib.Dec.{T, eqb}
use borrow.Author.Tests.{eqb-true, eqb-false, ne_eqb}
use Rattle.base.specs.inner.Parts.{part}
use Rattle.lexeme.specs.Lexemes.{Name, Lexeme, Quoted, Fixed, lit, name, string, fixed}
use Rattle.lexeme.specs.inner.Coded.{number, code_of, fixed_number, what_of, told, Ends, Stands}
use Rattle.lexeme.specs.declared.Fixed.{Fixed as Variant}
use Rattle.lexeme.specs.declared.Kind.{Kind}
use Rattle.lexeme.specs.declared.Kind.TheVariants as kind
use Rattle.lexeme.specs.declared.Lexeme as code
use Rattle.lexeme.proofs.Decoded.{number_variant}
use Rattle.sentence.specs.Sentences.{Sign, Mul, Rel, sign, mul, rel}
use Rattle.sentence.proofs.Reader.{State, is, on_lit, on_name, on_string, on_sign, on_mul, on_rel, is_sign, is_mul, is_rel}
use Rattle.sentence.proofs.Operators.{number_of, is_number, numbered, sign_of, sign_numbered, on_a_sign, on_no_sign, mul_of, mul_numbered, on_a_mul, on_no_mul, rel_of, rel_numbered, on_a_rel, on_no_rel}
use Rattle.std.specs.Prelude.{Some, None}
use Rattle.compiler.specs.inner.Steps.{such_in}
use Rattle.compiler.specs.inner.Walks.{name_of}

-- the string of the code's lexeme l
unfoldable pub quoted_of : List ℕ → code.Lexeme → Quoted
quoted_of text l = record { inside = part text (l.place + 1) (l.end - 1); place = l.place + 1 }

-- ---- a lexeme that is not the end

pub going : (l : code.Lexeme) {n : ℕ} → fixed_number l.kind ≡ n → (n ≡ 0 → ⊥) → Ends l → ⊥
unfolding fixed_number code_of
going l h n e = n (sym h ∙ ap fixed_number e)

module _ (l : code.Lexeme) where
  pub literal_goes : {v : ℕ} → l.kind ≡ kind.Literal v → Ends l → ⊥
  unfolding fixed_number
  literal_goes h = going l (ap fixed_number h) (λ z. omega arith)

  pub name_goes : l.kind ≡ kind.Name → Ends l → ⊥
  unfolding fixed_number
  name_goes h = going l (ap fixed_number h) (λ z. omega arith)

  pub string_goes : l.kind ≡ kind.Str → Ends l → ⊥
  unfolding fixed_number
  string_goes h = going l (ap fixed_number h) (λ z. omega arith)

-- ---- literals, names and strings

module _ (text : List ℕ) (l : code.Lexeme) where
  pub told_literal : (v : ℕ) → l.kind ≡ kind.Literal v → told text l ≡ lit v
  unfolding told what_of
  told_literal v h = ap (what_of text l.place l.end) h

  pub told_name : l.kind ≡ kind.Name → told text l ≡ name (name_of text l)
  unfolding told what_of name_of
  told_name h = ap (what_of text l.place l.end) h

  pub told_string : l.kind ≡ kind.Str → told text l ≡ string (quoted_of text l)
  unfolding told what_of quoted_of
  told_string h = ap (what_of text l.place l.end) h

  pub no_lit : ((v : ℕ) → l.kind ≡ kind.Literal v → ⊥) → (such : ℕ → State) (other : State) → on_lit (told text l) such other ≡ other
  unfolding told what_of on_lit
  no_lit h such other = by l.kind h
    where
      by : (k : Kind) → ((v : ℕ) → k ≡ kind.Literal v → ⊥) → on_lit (what_of text l.place l.end k) such other ≡ other
      by (kind.Literal v) n = absurd (n v refl)
      by kind.Name n = refl
      by kind.Class n = refl
      by kind.Str n = refl
      by (kind.Fixed f) n = refl

  pub no_name : (l.kind ≡ kind.Name → ⊥) → (such : Name → State) (other : State) → on_name (told text l) such other ≡ other
  unfolding told what_of on_name
  no_name h such other = by l.kind h
    where
      by : (k : Kind) → (k ≡ kind.Name → ⊥) → on_name (what_of text l.place l.end k) such other ≡ other
      by (kind.Literal v) n = refl
      by kind.Name n = absurd (n refl)
      by kind.Class n = refl
      by kind.Str n = refl
      by (kind.Fixed f) n = refl

  pub no_string : (l.kind ≡ kind.Str → ⊥) → (such : Quoted → State) (other : State) → on_string (told text l) such other ≡ other
  unfolding told what_of on_string
  no_string h such other = by l.kind h
    where
      by : (k : Kind) → (k ≡ kind.Str → ⊥) → on_string (what_of text l.place l.end k) such other ≡ other
      by (kind.Literal v) n = refl
      by kind.Name n = refl
      by kind.Class n = refl
      by kind.Str n = absurd (n refl)
      by (kind.Fixed f) n = refl

-- ---- fixed lexemes

no_variant : {v : Variant} → None ≡ Some v → ⊥
no_variant e = let z : ◌≡◌ {A = ℕ} 0 1 = cc in omega arith

module _ {text : List ℕ} {l : code.Lexeme} (s : Stands text l) where
  number_told : number_of (told text l) ≡ fixed_number l.kind
  number_told = ap fixed_number s.known

  pub told_fixed : (w : Fixed) → fixed_number l.kind ≡ code_of w → told text l ≡ fixed w
  told_fixed w h = numbered w (told text l) (number_told ∙ h)

  pub no_fixed : (w : Fixed) → (fixed_number l.kind ≡ code_of w → ⊥) → is w (told text l) ≡ false
  no_fixed w h = is_number w (told text l) ∙ ne_eqb (number_of (told text l)) (code_of w) (λ e. h (sym number_told ∙ e))

-- what a flag says of the lexeme ahead
pub met_ahead : {b : Bool} {n m : ℕ} → b ≡ eqb n m → b ≡ true → n ≡ m
met_ahead {b} {n} {m} is e = eqb-true n m (sym is ∙ e)

pub not_met : {b : Bool} {n m : ℕ} → b ≡ eqb n m → b ≡ false → n ≡ m → ⊥
not_met {b} {n} {m} is e = eqb-false n m (sym is ∙ e)

pub is_the : {k : Kind} {v : Variant} → k ≡ kind.Fixed v → fixed_number k ≡ number v
unfolding fixed_number
is_the e = ap fixed_number e

pub is_not_the : {k : Kind} (v : Variant) → (k ≡ kind.Fixed v → ⊥) → fixed_number k ≡ number v → ⊥
is_not_the {k} v n e = n (number_variant k v e)

-- one whose number is such, and one whose number is not
pub such_one : (test : ℕ → Bool) (k : Kind) {v : Variant} → such_in test k ≡ Some v → (number v ≡ fixed_number k) × (test (fixed_number k) ≡ true)
unfolding such_in fixed_number
such_one test (kind.Literal n) e = absurd (no_variant e)
such_one test kind.Name e = absurd (no_variant e)
such_one test kind.Class e = absurd (no_variant e)
such_one test kind.Str e = absurd (no_variant e)
such_one test (kind.Fixed f) e = by (test (number f)) refl e
  where
    by : (t : Bool) {v : Variant} → test (number f) ≡ t → cond t (Some f) None ≡ Some v → (number v ≡ number f) × (test (number f) ≡ true)
    by true {v} h e = let same : f ≡ v = cc in (ap number (sym same), h)
    by false h e = absurd (no_variant e)

pub no_such_one : (test : ℕ → Bool) (k : Kind) → test 255 ≡ false → such_in test k ≡ None → test (fixed_number k) ≡ false
unfolding such_in fixed_number
no_such_one test (kind.Literal n) z e = z
no_such_one test kind.Name z e = z
no_such_one test kind.Class z e = z
no_such_one test kind.Str z e = z
no_such_one test (kind.Fixed f) z e = by (test (number f)) refl e
  where
    by : (t : Bool) → test (number f) ≡ t → cond t (Some f) None ≡ None → test (number f) ≡ false
    by true h e = absurd (no_variant (sym e))
    by false h e = h

-- ---- signs, `*` and `/`, relations

-- lexemes of one level of the grammar, told by their numbers
pub record Sort (A : Type 0) : Type 0 where
  pub test : ℕ → Bool
  pub lexeme : A → Lexeme
  pub on : Lexeme → (A → State) → State → State
  pub found : (n : ℕ) → test n ≡ true → (x : A) × (n ≡ number_of (lexeme x))
  pub is_it : (l : Lexeme) (x : A) → number_of l ≡ number_of (lexeme x) → l ≡ lexeme x
  pub such : (f : A → State) (o : State) (x : A) → on (lexeme x) f o ≡ f x
  pub other : (f : A → State) (o : State) (l : Lexeme) → test (number_of l) ≡ false → on l f o ≡ o
  pub no_end : test 0 ≡ false
  pub no_other : test 255 ≡ false

pub no_end_sign : is_sign 0 ≡ false
unfolding is_sign code_of
no_end_sign = refl

pub no_other_sign : is_sign 255 ≡ false
unfolding is_sign code_of
no_other_sign = refl

abbrev pub signs : Sort Sign
signs = record { test = is_sign; lexeme = sign; on = on_sign; found = sign_of; is_it = sign_numbered; such = on_a_sign; other = on_no_sign; no_end = no_end_sign; no_other = no_other_sign }

pub no_end_mul : is_mul 0 ≡ false
unfolding is_mul code_of
no_end_mul = refl

pub no_other_mul : is_mul 255 ≡ false
unfolding is_mul code_of
no_other_mul = refl

abbrev pub muls : Sort Mul
muls = record { test = is_mul; lexeme = mul; on = on_mul; found = mul_of; is_it = mul_numbered; such = on_a_mul; other = on_no_mul; no_end = no_end_mul; no_other = no_other_mul }

pub no_end_rel : is_rel 0 ≡ false
unfolding is_rel code_of
no_end_rel = refl

pub no_other_rel : is_rel 255 ≡ false
unfolding is_rel code_of
no_other_rel = refl

abbrev pub rels : Sort Rel
rels = record { test = is_rel; lexeme = rel; on = on_rel; found = rel_of; is_it = rel_numbered; such = on_a_rel; other = on_no_rel; no_end = no_end_rel; no_other = no_other_rel }

-- the lexeme l is x, of this sort
pub record IsOne {A : Type 0} (sort : Sort A) (text : List ℕ) (l : code.Lexeme) : Type 0 where
  pub which : A
  pub number : fixed_number l.kind ≡ number_of (sort.lexeme which)
  pub told_so : told text l ≡ sort.lexeme which
  pub goes : Ends l → ⊥

module _ {A : Type 0} (sort : Sort A) {text : List ℕ} {l : code.Lexeme} (s : Stands text l) where
  pub is_one : sort.test (fixed_number l.kind) ≡ true → IsOne sort text l
  is_one h =
      let x = sort.found (fixed_number l.kind) h in
      record {
        which = x.0;
        number = x.1;
        told_so = sort.is_it (told text l) x.0 (number_told s ∙ x.1);
        goes = going l refl (λ z. let b : true ≡ false = sym h ∙ ap sort.test z ∙ sort.no_end in absurd (subst (λ (c : Bool). T c) b tt));
      }

  pub is_none : sort.test (fixed_number l.kind) ≡ false → (f : A → State) (o : State) → sort.on (told text l) f o ≡ o
  is_none h f o = sort.other f o (told text l) (ap sort.test (number_told s) ∙ h)
