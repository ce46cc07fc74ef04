-- What is promised of the reader: it accepts the Programs that are shallow enough, and refuses by 4 and 5 as the paper says.
use mathlib.Core.Path.{◌≡◌, refl, sym, ap, ◌∙◌}
use mathlib.Core.List.{List, [], ◌∷◌, ◌++◌, append_assoc, map-append}
use mathlib.Core.Logic.{inl, inr, ◌↔◌}
use Prim.Native.Nat.{ℕ, ◌<◌, zero-le}
use native.Mathlib.Omega.{arith}
use lib.Dec.{T, T_not}
use lib.ListN.{length}
use Rattle.base.specs.declared.Refusal.{Refusal}
use Rattle.base.specs.declared.Refusal.TheVariants.{TooDeep}
use Rattle.base.specs.Answers.{Answer, given, refused}
use Rattle.lexeme.specs.Lexemes.{Name, Lexeme, Placed, fixed, end}
use Rattle.lexeme.specs.inner.Coded.{code_of}
use Rattle.sentence.specs.Sentences.{Sen, command, program_nestings}
use Rattle.sentence.specs.Grammar.{Whole, Begins, StandsTooDeep, Fault, no_program, too_deep, Faultless, Shallow, whats, Refused}
use Rattle.sentence.proofs.Reader.{State, want_DO, whole, is, step, Verdict, verdict, goes_on, is_whole, begins_none, read}
use Rattle.sentence.proofs.Walk.{nested_at, walk, went, walk_append}
use Rattle.sentence.proofs.Had.{alive_at, Alive, open_at, going, opens}
use Rattle.sentence.proofs.Steps.{good_step}
use Rattle.sentence.proofs.Begins.{sound, viable, begins→alive}
use Rattle.sentence.proofs.Nestings.{walked, end_nested, numbered}
use Rattle.sentence.proofs.Leftmost.{Fine, Clean, Wrong, none, deep, Found, Answered, answered, clean_at, clean_low}

-- the grammar is unambiguous
pub unique : (ls : List Lexeme) (m n : Sen Name command) → Whole ls m → Whole ls n → m ≡ n
unique ls m n v w =
    let e : whole m ≡ whole n = ap (λ z. z.state) (sym (walked ls m v) ∙ walked ls n w) in
    cc

-- ---- two leftmost faults are one

-- where two places of one list stand to each other
data Places (xs : List Placed) (x : Placed) (ys : List Placed) (y : Placed) : Type 0 where
  same : xs ≡ ys → x ≡ y → Places xs x ys y
  earlier : (between : List Placed) → xs ++ x ∷ between ≡ ys → Places xs x ys y
  later : (between : List Placed) → ys ++ y ∷ between ≡ xs → Places xs x ys y

places : (xs : List Placed) (x : Placed) (xs' : List Placed) (ys : List Placed) (y : Placed) (ys' : List Placed) → xs ++ x ∷ xs' ≡ ys ++ y ∷ ys' → Places xs x ys y
places [] x xs' [] y ys' e = same refl (cc)
places [] x xs' (b ∷ ys) y ys' e = earlier ys (cc)
places (a ∷ xs) x xs' [] y ys' e = later xs (cc)
places (a ∷ xs) x xs' (b ∷ ys) y ys' e = go (places xs x xs' ys y ys' (cc)) (cc)
  where
    go : Places xs x ys y → a ≡ b → Places (a ∷ xs) x (b ∷ ys) y
    go (same p q) r = same (cc) q
    go (earlier zs p) r = earlier zs (cc)
    go (later zs p) r = later zs (cc)

whats_split : (before : List Placed) (at : Placed) (after ls : List Placed) → before ++ at ∷ after ≡ ls → whats before ++ at.what ∷ whats after ≡ whats ls
unfolding whats
whats_split before at after ls e = sym (map-append (λ (l : Placed). l.what) before (at ∷ after)) ∙ ap (λ ls. whats ls) e

module _ (limit : ℕ) where
  deep_begins : (before : List Lexeme) (l : Lexeme) → StandsTooDeep limit before l → Begins (before ++ l ∷ [])
  unfolding StandsTooDeep Begins
  deep_begins before l d = (d.0, d.1, rw append_assoc d.2)

  fault_unique : (before : List Lexeme) (l : Lexeme) {why why' : Refusal} → Fault limit before l why → Fault limit before l why' → why ≡ why'
  fault_unique before l (no_program f) (no_program g) = refl
  fault_unique before l (no_program f) (too_deep d) = absurd (f (deep_begins before l d))
  fault_unique before l (too_deep d) (no_program g) = absurd (g (deep_begins before l d))
  fault_unique before l (too_deep d) (too_deep e) = refl

  same_place : (ls : List Placed) {why why' : Refusal} {p p' : ℕ} (r : Refused limit ls why p) (q : Refused limit ls why' p') → (r.before ≡ q.before) × (r.at ≡ q.at)
  unfolding Faultless
  same_place ls {why} {why'} r q = go (places r.before r.at r.after q.before q.at q.after (r.split ∙ sym q.split))
    where
      go : Places r.before r.at q.before q.at → (r.before ≡ q.before) × (r.at ≡ q.at)
      go (same e f) = (e, f)
      go (earlier zs e) = absurd (q.leftmost (whats r.before) (whats zs) r.at.what why (whats_split r.before r.at zs q.before e) r.fault)
      go (later zs e) = absurd (r.leftmost (whats q.before) (whats zs) q.at.what why' (whats_split q.before q.at zs r.before e) q.fault)

  pub refused_unique : {ls : List Placed} {why why' : Refusal} {p p' : ℕ} → Refused limit ls why p → Refused limit ls why' p' → (why ≡ why') × (p ≡ p')
  refused_unique {ls} r q =
      let e = same_place ls r q in
      (fault_unique (whats r.before) r.at.what r.fault (rw (e.0, e.1) q.fault), sym r.place ∙ ap (λ (z : Placed). z.place) e.1 ∙ q.place)

  -- ---- the reader's wrong lexemes are the paper's faults

  step_after : (before : List Lexeme) (l : Lexeme) → (walk want_DO (before ++ l ∷ [])).state ≡ step (walk want_DO before).state l
  unfolding walk went Rattle.sentence.proofs.Walk.after
  step_after before l = ap (λ z. z.state) (walk_append want_DO before (l ∷ []))

  begins_at : (before : List Lexeme) (l : Lexeme) → Alive (step (walk want_DO before).state l) → Begins (before ++ l ∷ [])
  begins_at before l a = viable (before ++ l ∷ []) (rw step_after a)

  deep_alive : (l : Lexeme) (v : Verdict) → limit < nested_at l v → T (alive_at v)
  unfolding nested_at alive_at
  deep_alive l (goes_on d) h = tt
  deep_alive l (is_whole m) h = tt
  deep_alive l begins_none h = absurd (omega arith)

  wrong→fault : (before : List Lexeme) (l : Lexeme) {why : Refusal} → Wrong limit l (step (walk want_DO before).state l) why → Fault limit before l why
  unfolding StandsTooDeep Begins
  wrong→fault before l (none f) = no_program (λ b. f (rw step_after at (begins→alive (before ++ l ∷ []) b)))
  wrong→fault before l (deep o h) =
      let b = begins_at before l (deep_alive l _ h) in
      let w : Whole (before ++ l ∷ b.0) b.1 = rw append_assoc at b.2 in
      too_deep (b.0, b.1, w, rw (numbered before b.0 l b.1 w) at h)

  clean→faultless : (ls : List Lexeme) → Clean limit want_DO ls → Faultless limit ls
  unfolding Faultless StandsTooDeep
  clean→faultless ls c before after l why e f = go f
    where
      fine : Fine limit l (step (walk want_DO before).state l)
      fine = clean_at limit want_DO before after l (rw e c)

      go : {why : Refusal} → Fault limit before l why → ⊥
      go (no_program g) = g (begins_at before l fine.alive)
      go (too_deep d) = let e = numbered before d.0 l d.1 d.2 in omega (arith, d.3, fine.low)

  program_faultless : (ls : List Lexeme) (m : Sen Name command) → Whole ls m → Shallow limit m → Faultless limit ls
  unfolding Faultless StandsTooDeep Begins Shallow
  program_faultless ls m w s before after l why e f = go f
    where
      v : Whole (before ++ l ∷ after) m
      v = rw e w

      go : {why : Refusal} → Fault limit before l why → ⊥
      go (no_program g) = g (after, m, rw append_assoc v)
      go (too_deep d) = omega (arith, numbered before d.0 l d.1 d.2, numbered before after l m v, d.3, s (length before))

  refusal : (ls : List Placed) {why : Refusal} {p : ℕ} → Found limit want_DO ls why p → Refused limit ls why p
  refusal ls r =
      record {
        before = r.before;
        at = r.at;
        after = r.after;
        split = r.split;
        place = r.place;
        fault = wrong→fault (whats r.before) r.at.what r.wrong;
        leftmost = clean→faultless (whats r.before) r.clean;
      }

  refusal_faulty : (ls : List Placed) {why : Refusal} {p : ℕ} → Refused limit ls why p → Faultless limit (whats ls) → ⊥
  unfolding Faultless
  refusal_faulty ls {why} r f = f (whats r.before) (whats r.after) r.at.what why (whats_split r.before r.at r.after ls r.split) r.fault

  -- ---- what is promised

  answer : (ls : List Placed) → Answered limit want_DO ls (read limit ls)
  unfolding read verdict open_at alive_at
  answer ls = answered limit want_DO ls zero-le tt

  accepted : (ls : List Placed) (m : Sen Name command) → read limit ls ≡ given m → Whole (whats ls) m × Shallow limit m
  unfolding Answered Shallow
  accepted ls m e = (w, λ i. rw (walked (whats ls) m w, end_nested (program_nestings m) i) at (clean_low limit want_DO (whats ls) r.0 i))
    where
      r : Clean limit want_DO (whats ls) × ((walk want_DO (whats ls)).state ≡ whole m)
      r = rw e at (answer ls)

      w : Whole (whats ls) m
      w = sound (whats ls) m r.1

  pub accepts : (ls : List Placed) (m : Sen Name command) → (read limit ls ≡ given m) ↔ (Whole (whats ls) m × Shallow limit m)
  unfolding Answered verdict going
  accepts ls m = (accepted ls m, λ h. go h.0 h.1 (read limit ls) refl)
    where
      go : Whole (whats ls) m → Shallow limit m → (a : Answer (Sen Name command)) → read limit ls ≡ a → a ≡ given m
      go w s (given n) e = ap given (unique (whats ls) n m (accepted ls n e).0 w)
      go w s (refused why p) e = absurd (no (rw e at (answer ls)))
        where
          no : Answered limit want_DO ls (refused why p) → ⊥
          no (inl r) = refusal_faulty ls (refusal ls r) (program_faultless (whats ls) m w s)
          no (inr g) = rw (walked (whats ls) m w) at g.1

  -- every list of lexemes of a text ends with the end, after which the reader does not go on
  pub refuses : (ls init : List Placed) (p : ℕ) → ls ≡ init ++ record { place = p; what = fixed end } ∷ [] → (why : Refusal) (q : ℕ) → (read limit ls ≡ refused why q) ↔ Refused limit ls why q
  unfolding Answered is code_of whats
  refuses ls init p f why q = (λ e. so why q (rw e at (answer ls)), λ r. back r (read limit ls) (answer ls))
    where
      last : (walk want_DO (whats ls)).state ≡ step (walk want_DO (whats init)).state (fixed end)
      last = ap (λ xs. (walk want_DO xs).state) (sym (whats_split init _ [] ls (sym f))) ∙ step_after (whats init) (fixed end)

      so : (why : Refusal) (q : ℕ) → Answered limit want_DO ls (refused why q) → Refused limit ls why q
      so why q (inl r) = refusal ls r
      so why q (inr g) = absurd (T_not (going (verdict (walk want_DO (whats ls)).state)) (rw last (good_step (walk want_DO (whats init)).state (fixed end)).final) g.1)

      back : Refused limit ls why q → (a : Answer (Sen Name command)) → Answered limit want_DO ls a → a ≡ refused why q
      back r (given m) c = absurd (refusal_faulty ls r (clean→faultless (whats ls) c.0))
      back r (refused why' q') c = let same = refused_unique (so why' q' c) r in cc (same.0, same.1)

  -- refusal 5 is at a lexeme that opens a nesting
  pub opens_it : (ls : List Placed) (p : ℕ) (r : Refused limit ls TooDeep p) → T (opens r.at.what)
  unfolding Answered refusal
  opens_it ls p r = go (read limit ls) (answer ls)
    where
      clean : Clean limit want_DO (whats ls) → T (opens r.at.what)
      clean c = absurd (refusal_faulty ls r (clean→faultless (whats ls) c))

      wrong : {why : Refusal} {l : Lexeme} {s : State} → Wrong limit l s why → why ≡ TooDeep → T (opens l)
      wrong (none f) e = absurd (let z : ◌≡◌ {A = ℕ} 0 1 = cc in omega arith)
      wrong (deep o h) e = o

      go : (a : Answer (Sen Name command)) → Answered limit want_DO ls a → T (opens r.at.what)
      go (given m) c = clean c.0
      go (refused why q) (inl f) = rw (same_place ls r (refusal ls f)).1 (wrong f.wrong (refused_unique (refusal ls f) r).0)
      go (refused why q) (inr c) = clean c.0
