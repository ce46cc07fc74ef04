-- How reading goes on from one lexeme to another. Assumes nothing.
use mathlib.Core.Path.{◌≡◌, refl, sym, subst, ap, ◌∙◌}
use mathlib.Core.List.{List, [], ◌∷◌}
use mathlib.Core.Bool.{Bool, true, false}
use mathlib.Core.Logic.{inl, inr}
use Prim.Native.Nat.{ℕ, ◌+◌, ◌≤◌, ◌<◌}
use native.Mathlib.Nat.{le_refl}
use native.Mathlib.Omega.{arith}
use borrow.Author.Tests.{lt-ltb, le-ltb}
use lib.Dec.{ltb}
use Rattle.base.specs.declared.Refusal.{Refusal}
use Rattle.base.specs.declared.Refusal.TheVariants.{NoProgram, TooDeep}
use Rattle.base.specs.declared.Refused.{Refused}
use Rattle.base.specs.Answers.{Answer, given, refused}
use Rattle.lexeme.specs.Lexemes.{Name, Lexeme, Fixed, Placed}
use Rattle.lexeme.specs.inner.Coded.{code_of, fixed_number, told, placed, Ends, Stands, Number, Ahead}
use Rattle.lexeme.specs.declared.Lexeme as code
use Rattle.lexeme.proofs.Ahead.{begins, not_ahead}
use Rattle.std.specs.Prelude.{Err}
use Rattle.sentence.specs.Sentences.{Kind, Sen, command}
use Rattle.sentence.proofs.Reader.{Around, depth, State, whole, nowhere, is, step, Verdict, verdict, goes_on, is_whole, begins_none, read_from}
use Rattle.compiler.specs.declared.walk.Walk.{Walk}
use Rattle.compiler.specs.inner.Steps.{Lost, Follows, Crossed, Expects}
use Rattle.compiler.specs.inner.Walks.{read_via, Way, Passes, Refuses}
use Rattle.compiler.proofs.Looked.{going, no_fixed}

-- ---- one lexeme

-- a state that goes on within the limit; or beyond it
abbrev Low : ℕ → Verdict → Type 0
Low limit (goes_on d) = d ≤ limit
Low limit (is_whole m) = ⊥
Low limit begins_none = ⊥

abbrev Deep : ℕ → Verdict → Type 0
Deep limit (goes_on d) = limit < d
Deep limit (is_whole m) = ⊥
Deep limit begins_none = ⊥

module _ (limit : ℕ) (l : Placed) (ls : List Placed) where
  -- the answer once the lexeme came to a state
  abbrev tested : State → Bool → Answer (Sen Name command)
  tested s b = elim b [ true ↦ refused TooDeep l.place | false ↦ read_from limit s ls ]

  abbrev settled : State → Verdict → Answer (Sen Name command)
  settled s v = elim v [
    | goes_on d ↦ tested s (ltb limit d)
    | is_whole m ↦ read_from limit (whole m) ls
    | begins_none ↦ refused NoProgram l.place
  ]

  via : (f : Lexeme → State) (s : State) → f l.what ≡ s → read_via limit f (l ∷ ls) ≡ settled s (verdict s)
  unfolding read_via
  via f s e = ap (λ (x : State). settled x (verdict x)) e

  settled_low : (s : State) (v : Verdict) → Low limit v → settled s v ≡ read_from limit s ls
  settled_low s (goes_on d) h = ap (tested s) (le-ltb limit d h)
  settled_low s (is_whole m) h = absurd h
  settled_low s begins_none h = absurd h

  settled_deep : (s : State) (v : Verdict) → Deep limit v → settled s v ≡ refused TooDeep l.place
  settled_deep s (goes_on d) h = ap (tested s) (lt-ltb limit d h)
  settled_deep s (is_whole m) h = absurd h
  settled_deep s begins_none h = absurd h

  via_low : (f : Lexeme → State) (s : State) → f l.what ≡ s → Low limit (verdict s) → read_via limit f (l ∷ ls) ≡ read_from limit s ls
  via_low f s e h = via f s e ∙ settled_low s (verdict s) h

  via_deep : (f : Lexeme → State) (s : State) → f l.what ≡ s → Deep limit (verdict s) → read_via limit f (l ∷ ls) ≡ refused TooDeep l.place
  via_deep f s e h = via f s e ∙ settled_deep s (verdict s) h

pub from_via : {text : List ℕ} {l : code.Lexeme} (limit : ℕ) (s : State) {ls : List Placed} → Ahead text l ls → read_from limit s ls ≡ read_via limit (step s) ls
unfolding read_from read_via
from_via limit s h = let b = begins h in rw b.split

-- ---- from lexeme to lexeme

-- whatever i stands around: reading by f from the lexeme l on is reading by g from the lexeme m on
pub record Comes {I : Type 0} (text : List ℕ) (l m : code.Lexeme) (limit : I → ℕ) (f g : I → Lexeme → State) : Type 0 where
  pub same : (ls : List Placed) → Ahead text l ls → (rest : List Placed) × Ahead text m rest × ((i : I) → read_via (limit i) (f i) ls ≡ read_via (limit i) (g i) rest)

-- reading by f from the lexeme l on is refused
pub record Stuck {I : Type 0} (text : List ℕ) (l : code.Lexeme) (limit : I → ℕ) (f : I → Lexeme → State) (why : Refusal) (p : ℕ) : Type 0 where
  pub same : (ls : List Placed) → Ahead text l ls → (i : I) → read_via (limit i) (f i) ls ≡ refused why p

module _ {I : Type 0} {text : List ℕ} {limit : I → ℕ} where
  -- nothing is read
  pub stays : {l : code.Lexeme} {f : I → Lexeme → State} → Comes text l l limit f f
  stays = record { same = λ ls h. (ls, h, λ i. refl) }

  pub comes_on : {l m n : code.Lexeme} {f g h : I → Lexeme → State} → Comes text l m limit f g → Comes text m n limit g h → Comes text l n limit f h
  comes_on p q = record {
    same = λ ls a.
        let c = p.same ls a in
        let d = q.same c.0 c.1 in
        (d.0, d.1, λ i. c.2 i ∙ d.2 i);
  }

  pub comes_stuck : {l m : code.Lexeme} {why : Refusal} {p : ℕ} {f g : I → Lexeme → State} → Comes text l m limit f g → Stuck text m limit g why p → Stuck text l limit f why p
  comes_stuck p q = record { same = λ ls a i. let c = p.same ls a in c.2 i ∙ q.same c.0 c.1 i }

module _ {I J : Type 0} {text : List ℕ} {limit : I → ℕ} {limit' : J → ℕ} (inner : I → J) (same_limit : (i : I) → limit' (inner i) ≡ limit i) where
  pub comes_within : {l m : code.Lexeme} {f g : J → Lexeme → State} → Comes text l m limit' f g → Comes text l m limit (λ i. f (inner i)) (λ i. g (inner i))
  comes_within {f} {g} p = record {
    same = λ ls a.
        let c = p.same ls a in
        (c.0, c.1, λ i. subst (λ (n : ℕ). read_via n (f (inner i)) ls ≡ read_via n (g (inner i)) c.0) (same_limit i) (c.2 (inner i)));
  }

  pub stuck_within : {l : code.Lexeme} {why : Refusal} {p : ℕ} {f : J → Lexeme → State} → Stuck text l limit' f why p → Stuck text l limit (λ i. f (inner i)) why p
  stuck_within {why} {p} {f} q = record {
    same = λ ls a i. subst (λ (d : ℕ). read_via d (f (inner i)) ls ≡ refused why p) (same_limit i) (q.same ls a (inner i));
  }

module _ {I : Type 0} (text : List ℕ) (l : code.Lexeme) {limit : I → ℕ} (f : I → Lexeme → State) where
  -- two ways that agree on the lexeme are the same
  pub alike : (g : I → Lexeme → State) → ((i : I) → f i (told text l) ≡ g i (told text l)) → Comes text l l limit f g
  alike g e = record {
    same = λ ls a. (ls, a, λ i. rw (begins a).split (via (limit i) (placed text l) _ (f i) _ (e i) ∙ sym (via (limit i) (placed text l) _ (g i) _ refl)));
  }

  -- the lexeme leads to states that go on
  pub onward_number : {m : code.Lexeme} → (Ends l → ⊥) → Follows text l m → (t : I → State) → (Number l → (i : I) → f i (told text l) ≡ t i) → ((i : I) → Low (limit i) (verdict (t i))) → Comes text l m limit f (λ i. step (t i))
  onward_number {m} on_it next t e low = record {
    same = λ ls a.
        let b = begins a in
        let rest = b.more on_it m next.read in
        (b.rest, rest, λ i. ap (read_via (limit i) (f i)) b.split ∙ via_low (limit i) (placed text l) b.rest (f i) (t i) (e b.number i) (low i) ∙ from_via (limit i) (t i) rest);
  }

  pub onward : {m : code.Lexeme} → (Ends l → ⊥) → Follows text l m → (t : I → State) → ((i : I) → f i (told text l) ≡ t i) → ((i : I) → Low (limit i) (verdict (t i))) → Comes text l m limit f (λ i. step (t i))
  onward on_it next t e low = onward_number on_it next t (λ _. e) low

  -- no Program begins so
  pub none : ((i : I) → f i (told text l) ≡ nowhere) → Stuck text l limit f NoProgram l.place
  unfolding verdict
  none e = record { same = λ ls a i. rw (begins a).split (via (limit i) (placed text l) _ (f i) _ (e i)) }

  pub too_deep : (t : I → State) → ((i : I) → f i (told text l) ≡ t i) → ((i : I) → Deep (limit i) (verdict (t i))) → Stuck text l limit f TooDeep l.place
  too_deep t e deep = record { same = λ ls a i. rw (begins a).split (via_deep (limit i) (placed text l) _ (f i) (t i) (e i) (deep i)) }

  -- what follows is no lexeme: no lexemes are ahead
  pub lost : {e : Refused} → (Ends l → ⊥) → Lost text l e → Stuck text l limit f e.why e.place
  lost on_it e = record { same = λ ls a i. absurd (not_ahead on_it _ _ e a) }

-- the end of a whole Program
pub ended : {text : List ℕ} {l : code.Lexeme} (limit : ℕ) (f : Lexeme → State) (m : Sen Name command) → Ends l → f (told text l) ≡ whole m → (ls : List Placed) → Ahead text l ls → read_via limit f ls ≡ given m
unfolding verdict read_from
ended {text} {l} limit f m last e ls a =
    let b = begins a in
    ap (read_via limit f) (b.split ∙ ap (λ (x : List Placed). placed text l ∷ x) (b.alone last)) ∙ via limit (placed text l) [] f (whole m) e

-- ---- from construct to construct

module _ {k : Kind} {X : Type 0} {way : Way k X} {text : List ℕ} {l : code.Lexeme} {allow : ℕ} where
  pub comes : {m : code.Lexeme} {x : X} → Passes way text l m allow x → Comes text l m (λ a. depth a + allow) (λ a. step (way.start a)) (way.stop x)
  comes p = record {
    same = λ ls h.
        let c = p.same ls h in
        (c.0, c.1, λ a. sym (from_via (depth a + allow) (way.start a) h) ∙ c.2 a);
  }

  pub passes : {m : code.Lexeme} {x : X} → l.place < m.place → Stands text m → Comes text l m (λ (a : Around k). depth a + allow) (λ a. step (way.start a)) (way.stop x) → Passes way text l m allow x
  passes later stands c = record {
    later = later;
    stands = stands;
    same = λ ls h.
        let d = c.same ls h in
        (d.0, d.1, λ a. from_via (depth a + allow) (way.start a) h ∙ d.2 a);
  }

module _ {k : Kind} {start : Around k → State} {text : List ℕ} {l : code.Lexeme} {allow : ℕ} {why : Refusal} {p : ℕ} where
  pub stuck : Refuses start text l allow why p → Stuck text l (λ a. depth a + allow) (λ a. step (start a)) why p
  stuck q = record { same = λ ls h a. sym (from_via (depth a + allow) (start a) h) ∙ q.same ls h a }

  pub refuses : Stuck text l (λ (a : Around k). depth a + allow) (λ a. step (start a)) why p → Refuses start text l allow why p
  refuses q = record { same = λ ls h a. from_via (depth a + allow) (start a) h ∙ q.same ls h a }

-- what is read by way' from the lexeme e on makes what is read by `way` from the lexeme l on
pub record Leads {k k' : Kind} {X X' : Type 0} (text : List ℕ) (l e : code.Lexeme) (allow : ℕ) (way : Way k X) (allow' : ℕ) (way' : Way k' X') (makes : X' → X) : Type 0 where
  pub passes : {m : code.Lexeme} {x : X'} → Passes way' text e m allow' x → Passes way text l m allow (makes x)
  pub refuses : {why : Refusal} {p : ℕ} → Refuses way'.start text e allow' why p → Refuses way.start text l allow why p

module _ {k k' : Kind} {X X' : Type 0} {text : List ℕ} {l e : code.Lexeme} {allow : ℕ} {way : Way k X} {allow' : ℕ} {way' : Way k' X'} {makes : X' → X} (inner : Around k → Around k') where
  pub leads : l.place ≤ e.place
      → ((a : Around k) → depth (inner a) + allow' ≡ depth a + allow)
      → Comes text l e (λ (a : Around k). depth a + allow) (λ a. step (way.start a)) (λ a. step (way'.start (inner a)))
      → ((x : X') → ◌≡◌ {A = Around k → Lexeme → State} (λ a. way'.stop x (inner a)) (way.stop (makes x)))
      → Leads text l e allow way allow' way' makes
  leads near same_limit c stops = record {
    passes = λ {m} {x} p.
        passes (omega (arith, p.later)) p.stands
        (subst (λ (f : Around k → Lexeme → State). Comes text l m (λ (a : Around k). depth a + allow) (λ a. step (way.start a)) f) (stops x)
        (comes_on c (comes_within inner same_limit (comes p))));
    refuses = λ q. refuses (comes_stuck c (stuck_within inner same_limit (stuck q)));
  }

-- the lexeme x stands between what was read and what is read next
pub crosses : {k k' : Kind} {X X' : Type 0} {text : List ℕ} {l x m : code.Lexeme} {allow : ℕ} {way : Way k X} {allow' : ℕ} {way' : Way k' X'} {makes : X' → X} {stop : Around k → Lexeme → State} {w : Lexeme} (s : Stands text x) (inner : Around k → Around k')
    → l.place ≤ x.place → Comes text l x (λ (a : Around k). depth a + allow) (λ a. step (way.start a)) stop
    → told text x ≡ w → (Ends x → ⊥) → Follows text x m
    → ((a : Around k) → depth (inner a) + allow' ≡ depth a + allow)
    → ((a : Around k) → stop a w ≡ way'.start (inner a))
    → ((a : Around k) → Low (depth a + allow) (verdict (way'.start (inner a))))
    → ((y : X') → ◌≡◌ {A = Around k → Lexeme → State} (λ a. way'.stop y (inner a)) (way.stop (makes y)))
    → Leads text l m allow way allow' way' makes
crosses {text} {x} {way'} {stop} s inner near c e on_it next d t low stops =
    leads inner (omega (arith, s.some on_it, next.later)) d (comes_on c (onward text x stop on_it next (λ a. way'.start (inner a)) (λ a. rw e (t a)) low)) stops

-- a construct that begins with another, where nothing was read yet
pub begins_with : {k k' : Kind} {X X' : Type 0} (text : List ℕ) (l : code.Lexeme) (allow : ℕ) (way : Way k X) (allow' : ℕ) (way' : Way k' X') (makes : X' → X) (inner : Around k → Around k')
    → ((a : Around k) → depth (inner a) + allow' ≡ depth a + allow)
    → ◌≡◌ {A = Around k → State} way.start (λ a. way'.start (inner a))
    → ((x : X') → ◌≡◌ {A = Around k → Lexeme → State} (λ a. way'.stop x (inner a)) (way.stop (makes x)))
    → Leads text l l allow way allow' way' makes
begins_with {k} text l allow way allow' way' makes inner d e stops =
    leads inner (le_refl l.place) d
    (subst (λ (f : Around k → State). Comes text l l (λ (a : Around k). depth a + allow) (λ a. step (way.start a)) (λ a. step (f a))) e
    stays) stops

pub refuses_within : {k k' : Kind} {start' : Around k' → State} {text : List ℕ} {l : code.Lexeme} {allow allow' : ℕ} {why : Refusal} {p : ℕ} (inner : Around k → Around k')
    → ((a : Around k) → depth (inner a) + allow' ≡ depth a + allow)
    → Refuses start' text l allow' why p
    → Refuses (λ a. start' (inner a)) text l allow why p
refuses_within inner d q = refuses (stuck_within inner d (stuck q))

-- ---- an expected lexeme

-- the lexeme l has the number of the fixed one w, and m follows it
pub record Met (text : List ℕ) (l m : code.Lexeme) (w : Fixed) : Type 0 where
  pub number : fixed_number l.kind ≡ code_of w
  pub follows : Follows text l m

pub met : {text : List ℕ} {w v : Walk} {f : Fixed} → Crossed text w (code_of f) v → Met text w.next v.next f
met c = record { number = c.number; follows = c.past.follows }

-- no state passes the lexeme ahead, or what follows it is no lexeme
pub unmet : {I : Type 0} {text : List ℕ} {limit : I → ℕ} (w : Walk) (f : Fixed) {e : Refused} → (code_of f ≡ 0 → ⊥) → Stands text w.next → (to : I → Lexeme → State) → ((i : I) (x : Lexeme) → is f x ≡ false → to i x ≡ nowhere) → Expects text w (code_of f) (Err e) → Stuck text w.next limit to e.why e.place
unmet {text} w f n s to t (inl (h, a)) = lost text w.next to (going w.next h n) a
unmet {text} w f n s to t (inr (h, e)) = rw e (none text w.next to (λ i. t i (told text w.next) (no_fixed s f h)))
