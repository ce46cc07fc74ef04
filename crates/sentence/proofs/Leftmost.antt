-- The reader's answer in terms of its own states: nothing wrong as far as it went, then a whole Program or the first wrong lexeme.
use mathlib.Core.Path.{◌≡◌, refl, ap, subst}
use mathlib.Core.List.{List, [], ◌∷◌, ◌++◌}
use mathlib.Core.Bool.{Bool, true, false, cond}
use mathlib.Core.Logic.{◌⊎◌, inl, inr}
use Prim.Native.Nat.{ℕ, zero, suc, ◌<◌, ◌≤◌, zero-le}
use native.Mathlib.Nat.{le_trans, le_refl}
use native.Mathlib.Omega.{arith}
use lib.Dec.{T, ltb}
use lib.ListN.{get_or}
use borrow.Author.Tests.{ltb-true, ltb-false}
use Rattle.base.specs.declared.Refusal.{Refusal}
use Rattle.base.specs.declared.Refusal.TheVariants.{NoProgram, TooDeep}
use Rattle.base.specs.Answers.{Answer, given, refused}
use Rattle.lexeme.specs.Lexemes.{Name, Lexeme, Placed}
use Rattle.sentence.specs.Sentences.{Sen, command}
use Rattle.sentence.specs.Grammar.{whats}
use Rattle.sentence.proofs.Reader.{State, whole, step, Verdict, verdict, goes_on, is_whole, begins_none, read_from}
use Rattle.sentence.proofs.Walk.{closes, nested_at, walk, went}
use Rattle.sentence.proofs.Had.{alive_at, Alive, open_at, going, opens}
use Rattle.sentence.proofs.Steps.{good_step}
use Rattle.sentence.proofs.Begins.{Settled, settled}

module _ (limit : ℕ) where
  -- the lexeme l, that came to the state s, is not wrong
  pub record Fine (l : Lexeme) (s : State) : Type 0 where
    pub alive : Alive s
    pub low : nested_at l (verdict s) ≤ limit

  unfoldable pub Clean : State → List Lexeme → Type 0
  Clean s [] = Unit {0}
  Clean s (l ∷ ls) = Fine l (step s l) × Clean (step s l) ls

  pub data Wrong (l : Lexeme) (s : State) : Refusal → Type 0 where
    none : (Alive s → ⊥) → Wrong l s NoProgram
    deep : T (opens l) → limit < nested_at l (verdict s) → Wrong l s TooDeep

  -- from the state s on, the first wrong lexeme is this one, at the place p
  pub record Found (s : State) (ls : List Placed) (why : Refusal) (p : ℕ) : Type 0 where
    pub before : List Placed
    pub at : Placed
    pub after : List Placed
    pub split : before ++ at ∷ after ≡ ls
    pub place : at.place ≡ p
    pub clean : Clean s (whats before)
    pub wrong : Wrong at.what (step (walk s (whats before)).state at.what) why

  -- without the end the lexemes may run out before a Program does
  unfoldable pub Answered : State → List Placed → Answer (Sen Name command) → Type 0
  Answered s ls (given m) = Clean s (whats ls) × ((walk s (whats ls)).state ≡ whole m)
  Answered s ls (refused why p) = Found s ls why p ⊎ (Clean s (whats ls) × T (going (verdict (walk s (whats ls)).state)))

  next : (s : State) (l : Placed) (ls : List Placed) (a : Answer (Sen Name command)) → Fine l.what (step s l.what) → Answered (step s l.what) ls a → Answered s (l ∷ ls) a
  unfolding Answered Clean whats walk went
  next s l ls (given m) f r = ((f, r.0), r.1)
  next s l ls (refused why p) f (inl r) = inl (record { before = l ∷ r.before; at = r.at; after = r.after; split = ap (λ xs. l ∷ xs) r.split; place = r.place; clean = (f, r.clean); wrong = r.wrong })
  next s l ls (refused why p) f (inr g) = inr ((f, g.0), g.1)

  nested_least : (l : Lexeme) (d : ℕ) → d ≤ nested_at l (goes_on d)
  unfolding nested_at
  nested_least l d = go (closes l)
    where
      go : (b : Bool) → d ≤ cond b (suc d) d
      go true = omega arith
      go false = le_refl d

  both_low : (b : Bool) {x y : ℕ} → x ≤ limit → y ≤ limit → cond b x y ≤ limit
  both_low true p q = p
  both_low false p q = q

  first_deep : (b : Bool) (x y : ℕ) → limit < cond b x y → y ≤ limit → T b
  first_deep true x y p q = tt
  first_deep false x y p q = absurd (omega arith)

  -- one lexeme, and the answer from there on
  answered_step : (s : State) (l : Placed) (ls : List Placed) → open_at (verdict s) ≤ limit → (open_at (verdict (step s l.what)) ≤ limit → Alive (step s l.what) → Answered (step s l.what) ls (read_from limit (step s l.what) ls)) → Answered s (l ∷ ls) (read_from limit s (l ∷ ls))
  unfolding read_from Answered Settled Clean whats walk went alive_at open_at
  answered_step s l ls o on = go (verdict to) refl
    where
      to : State
      to = step s l.what

      fine : open_at (verdict to) ≤ limit → Alive to → Fine l.what to
      fine h a = record { alive = a; low = le_trans (good_step s l.what).shallow (both_low (opens l.what) h o) }

      found : {why : Refusal} → Wrong l.what to why → Found s (l ∷ ls) why l.place
      found w = record { before = []; at = l; after = ls; split = refl; place = refl; clean = tt; wrong = w }

      test : (d : ℕ) → verdict to ≡ goes_on d → (b : Bool) → ltb limit d ≡ b → Answered s (l ∷ ls) (elim b [ true ↦ refused TooDeep l.place | false ↦ read_from limit to ls ])
      test d e true q =
          let h : limit < nested_at l.what (verdict to) = rw e (le_trans (ltb-true limit d q) (nested_least l.what d)) in
          inl (found (deep (first_deep (opens l.what) (open_at (verdict to)) (open_at (verdict s)) (le_trans h (good_step s l.what).shallow) o) h))
      test d e false q =
          let h : open_at (verdict to) ≤ limit = rw e (ltb-false limit d q) in
          let a : Alive to = rw e tt in
          next s l ls (read_from limit to ls) (fine h a) (on h a)

      go : (v : Verdict) → verdict to ≡ v → Answered s (l ∷ ls) (elim v [ goes_on d ↦ elim (ltb limit d) [ true ↦ refused TooDeep l.place | false ↦ read_from limit to ls ] | is_whole m ↦ read_from limit (whole m) ls | begins_none ↦ refused NoProgram l.place ])
      go (goes_on d) e = test d e (ltb limit d) refl
      go (is_whole m) e =
          let h : open_at (verdict to) ≤ limit = rw e zero-le in
          let a : Alive to = rw e tt in
          let same : to ≡ whole m = rw e at (settled to) in
          next s l ls (read_from limit (whole m) ls) (fine h a) (subst (λ z. Answered to ls (read_from limit z ls)) same (on h a))
      go begins_none e = inl (found (none (λ a. rw e at a)))

  pub answered : (s : State) (ls : List Placed) → open_at (verdict s) ≤ limit → Alive s → Answered s ls (read_from limit s ls)
  unfolding read_from Answered Settled Clean whats walk went alive_at going
  answered s [] o a = go (verdict s) refl
    where
      go : (v : Verdict) → verdict s ≡ v → Answered s [] (elim v [ goes_on d ↦ refused NoProgram 0 | is_whole m ↦ given m | begins_none ↦ refused NoProgram 0 ])
      go (goes_on d) e = inr (tt, rw e tt)
      go (is_whole m) e = (tt, rw e at (settled s))
      go begins_none e = absurd (rw e at a)
  answered s (l ∷ ls) o a = answered_step s l ls o (answered (step s l.what) ls)

  pub clean_at : (s : State) (before after : List Lexeme) (l : Lexeme) → Clean s (before ++ l ∷ after) → Fine l (step (walk s before).state l)
  unfolding Clean walk went
  clean_at s [] after l c = c.0
  clean_at s (b ∷ before) after l c = clean_at (step s b) before after l c.1

  pub clean_low : (s : State) (ls : List Lexeme) → Clean s ls → (i : ℕ) → get_or (walk s ls).nested i 0 ≤ limit
  unfolding Clean walk went
  clean_low s [] c i = zero-le
  clean_low s (l ∷ ls) c zero = c.0.low
  clean_low s (l ∷ ls) c (suc i) = clean_low (step s l) ls c.1 i
