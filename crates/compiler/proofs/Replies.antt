-- What was read by a reader that was called, as the part of what its caller reads. Assumes nothing.
use mathlib.Core.Path.{◌≡◌, sym, subst, ◌∙◌}
use mathlib.Core.List.{List, [], ◌∷◌}
use Prim.Native.Nat.{ℕ, ◌+◌, ◌-◌, ◌≤◌, ◌<◌, max}
use native.Mathlib.Omega.{arith}
use lib.IntN.{ℤ, pos}
use lib.ListN.{length}
use Rattle.std.specs.Prelude.{Some, Result, Ok, Err, IsErrAnd}
use Rattle.std.proofs.lemmas.Result.{err_from_is_err_and}
use Rattle.base.specs.declared.Refused.{Refused}
use Rattle.lexeme.specs.Lexemes.{Name}
use Rattle.lexeme.specs.inner.Coded.{number}
use Rattle.lexeme.specs.declared.Fixed.{Fixed}
use Rattle.lexeme.specs.declared.Lexeme as code
use Rattle.sentence.specs.Sentences.{Kind, Sen, multiply, add, compare}
use Rattle.sentence.proofs.Operators.{number_of}
use Rattle.compiler.specs.declared.walk.Walk.{Walk}
use Rattle.compiler.specs.declared.walk.Read.{Read}
use Rattle.compiler.specs.inner.Steps.{moved_to, one_instruction, such_in, operation_number, Lost, Follows, Past}
use Rattle.tables.specs.inner.Tables.{put}
use Rattle.compiler.specs.inner.Walks.{Way, Passes, Refuses, Lays, Ready, Got, Reads, factor_way, term_so_far, term_way, first_term_way, expression_way, comparison_way}
use Rattle.compiler.proofs.Looked.{such_one, Sort, signs, muls, rels, IsOne, is_one}
use Rattle.compiler.proofs.Reading.{Leads}
use Rattle.compiler.proofs.Passes.{term_more, term_lost, expression_more, expression_lost, compare_leads, compare_lost}
use Rattle.compiler.proofs.Lays.{lays_multiply, lays_add, lays_compare, ready_moved, ready_after, counts_fit}

-- ---- what the next reader may be called with

module _ {text names : List ℕ} {w : Walk} {allow : ℕ} (a : Ready text names w allow) where
  pub code_fits : w.code < 10000000
  code_fits = omega (arith, a.code, a.stands.order, a.stands.within, a.short)

  -- after a lexeme, with no more nestings allowed
  pub ready_past : {v : Walk} (fewer : ℕ) → fewer ≤ allow → Past text w v → Ready text names v fewer
  ready_past {v} fewer f p = subst (λ (u : Walk). Ready text names u fewer) (sym p.moved) (ready_moved a v.next fewer f (omega (arith, a.stands.order, p.follows.later)) p.follows.stands)

  module _ {k j : Kind} {way : Way k (Sen Name j)} {inside : ℕ} {names' : List ℕ} {table table' : List ℤ} {v : Walk} {n : ℕ} (got : Got way text names table w inside names' table' v n) where
    pub ready_got : Ready text names' v allow
    ready_got = ready_after a got.laid got.passed.stands

    pub counts_got : (v.code < 10000000) × (n < 10000000)
    counts_got = counts_fit a got.laid got.passed.stands

-- ---- the part that makes what the caller reads

module _ {k k' j : Kind} {way : Way k (Sen Name j)} {way' : Way k' (Sen Name k')} {makes : Sen Name k' → Sen Name j} {text : List ℕ} {w u : Walk} {allow allow' : ℕ} (l : Leads text w.next u.next allow way allow' way' makes) where
  module _ {names names₁ names' : List ℕ} {table table₁ table₂ table' : List ℤ} {v : Walk} {n m : ℕ} (q : Got way' text names₁ table₁ u allow' names' table₂ v n) where
    pub led : Lays text names table w (makes q.what) names' table' v m → Got way text names table w allow names' table' v m
    led laid = record { what = makes q.what; passed = l.passes q.passed; laid = laid }

    -- with one instruction more
    pub led_followed : Lays text names table w (makes q.what) names' table' (one_instruction v) m → Got way text names table w allow names' table' (one_instruction v) m
    unfolding one_instruction
    led_followed laid = record { what = makes q.what; passed = l.passes q.passed; laid = laid }

-- the whole answer is the caller's
module _ {k k' : Kind} {way : Way k (Sen Name k)} {way' : Way k' (Sen Name k')} {makes : Sen Name k' → Sen Name k} {text names names' : List ℕ} {table table' : List ℤ} {w u : Walk} {allow allow' : ℕ} where
  pub handed_on : Leads text w.next u.next allow way allow' way' makes → ((x : Sen Name k') (v : Walk) (n : ℕ) → Lays text names table u x names' table' v n → Lays text names table w (makes x) names' table' v n) →
      (r : Result Read Refused) → Reads way' text names table u allow' r names' table' → Reads way text names table w allow r names' table'
  handed_on l f (Ok r) q = led l q (f q.what r.walk r.need q.laid)
  handed_on l f (Err e) q = l.refuses q

-- what was called was refused, and so is what called it
pub passed_on : {k : Kind} (way : Way k (Sen Name k)) (text names : List ℕ) (table : List ℤ) (w : Walk) (allow : ℕ) (names' : List ℕ) (table' : List ℤ) (r : Result Read Refused) {e : Refused} → IsErrAnd r (λ f. f ≡ e) → Refuses way.start text w.next allow e.why e.place → Reads way text names table w allow r names' table'
passed_on way text names table w allow names' table' r h q = let p = err_from_is_err_and r h in rw (p.1, p.2) q

-- ---- two sides and the operator or relation between them

pub record Joins {A : Type 0} {k k' k'' : Kind} (sort : Sort A) (way : Way k (Sen Name k)) (way' : Way k' (Sen Name k')) (out : Way k'' (Sen Name k'')) (make : Sen Name k → A → Sen Name k' → Sen Name k'') : Type 0 where
  pub more : {text : List ℕ} {l m n : code.Lexeme} (allow : ℕ) (x : Sen Name k) → Passes way text l m allow x → (o : IsOne sort text m) → Follows text m n → Leads text l n allow out allow way' (make x o.which)
  pub lost : {text : List ℕ} {l m : code.Lexeme} {e : Refused} (allow : ℕ) (x : Sen Name k) → Passes way text l m allow x → IsOne sort text m → Lost text m e → Refuses out.start text l allow e.why e.place
  pub lays : {text names names₁ names₂ : List ℕ} {table table₁ table₂ : List ℤ} {w left v : Walk} {g h : ℕ} {x : Sen Name k} {y : Sen Name k'} (o : A) (m : code.Lexeme) → left.next.place < m.place → Lays text names table w x names₁ table₁ left g → Lays text names₁ table₁ (moved_to left m) y names₂ table₂ v h →
      Lays text names table w (make x o y) names₂ (put table₂ v.code (operation_number (number_of (sort.lexeme o)) ∷ pos 0 ∷ [])) (one_instruction v) (max g (1 + h))

pub term_joins : Joins muls term_so_far factor_way term_so_far multiply
term_joins = record { more = λ allow x p o. term_more allow x p o; lost = λ allow x p o. term_lost allow x p o; lays = lays_multiply }

pub expression_joins : Joins signs first_term_way term_way first_term_way add
expression_joins = record { more = λ allow x p o. expression_more allow x p o; lost = λ allow x p o. expression_lost allow x p o; lays = lays_add }

pub comparison_joins : Joins rels expression_way expression_way comparison_way compare
comparison_joins = record { more = λ allow x p o. compare_leads allow x p o; lost = λ allow x p o. compare_lost allow x p o; lays = lays_compare }

-- the left side was read, and the operator f stands next
module _ {A : Type 0} {k k' k'' : Kind} {sort : Sort A} {way : Way k (Sen Name k)} {way' : Way k' (Sen Name k')} {out : Way k'' (Sen Name k'')} {make : Sen Name k → A → Sen Name k' → Sen Name k''} (j : Joins sort way way' out make)
    {text names₀ names : List ℕ} {table table₁ : List ℤ} {w left : Walk} {allow : ℕ} {g : ℕ} (so : Got way text names₀ table w allow names table₁ left g) {f : Fixed} (ahead : such_in sort.test left.next.kind ≡ Some f) where
  pub operator : IsOne sort text left.next
  operator = is_one sort so.passed.stands (such_one sort.test left.next.kind ahead).1

  -- what follows it is no lexeme
  pub right_lost : {e : Refused} → Lost text left.next e → Refuses out.start text w.next allow e.why e.place
  right_lost e = j.lost allow so.what so.passed operator e

  module _ {y : Walk} (passed : Past text left y) where
    pub right_leads : Leads text w.next y.next allow out allow way' (make so.what operator.which)
    right_leads = j.more allow so.what so.passed operator passed.follows

    module _ {table₂ : List ℤ} {z : Walk} {h : ℕ} (right : Got way' text names table₁ y allow names table₂ z h) where
      pub right_joined : Got out text names₀ table w allow names (put table₂ z.code (operation_number (number f) ∷ pos 0 ∷ [])) (one_instruction z) (max g (1 + h))
      right_joined =
          led_followed right_leads right
          (subst (λ (n : ℕ). Lays text names₀ table w (make so.what operator.which right.what) names (put table₂ z.code (operation_number n ∷ pos 0 ∷ [])) (one_instruction z) (max g (1 + h))) (sym ((such_one sort.test left.next.kind ahead).0 ∙ operator.number))
          (j.lays operator.which y.next (omega (arith, so.passed.stands.some operator.goes, passed.follows.later)) so.laid (subst (λ (u : Walk). Lays text names table₁ u right.what names table₂ z h) passed.moved right.laid)))

      -- less of the text is left
      pub right_less : length text - (one_instruction z).next.place < length text - left.next.place
      unfolding one_instruction
      right_less = omega (arith, so.passed.stands.order, passed.follows.later, right.passed.later, right.passed.stands.order, right.passed.stands.within)
