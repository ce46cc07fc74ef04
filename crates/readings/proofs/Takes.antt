-- What a reader takes of the rest of the input: at its start, after a byte, at its end, and where the readings are over. Assumes nothing.
use Rattle.std.proofs.Common.{◌≡◌, refl, sym, ap, ◌∙◌, List, [], ◌∷◌, ◌++◌, Bool, true, false, ℕ, zero, suc, ◌+◌, ◌-◌, ◌≤◌, le_refl, arith, ℤ, length, drop, set, length-set, lt-ltb}
use Rattle.std.proofs.Math.Option.{Option, none, some}
use Rattle.std.proofs.lemmas.Bool.Decides.{nat_tests}
use lib.Seq.{sets-eq}
use Rattle.base.specs.Bytes.{separator, run}
use Rattle.reading.specs.Reading.{number_in_range, reading}
use Rattle.reading.specs.inner.Words.{word_more}
use Rattle.reading.specs.declared.Phase.{Phase}
use Rattle.reading.specs.declared.Phase.TheVariants.{Between, Minus, Number, Over}
use Rattle.readings.specs.Readings.{other, past, readings}
use Rattle.readings.specs.inner.Rest.{from_within, left, stored_after, takes, stopped, over}
use Rattle.readings.specs.inner.Steps.{Both, both, stored, ended, ended_at}
use Rattle.readings.specs.Taken.{Taken, taken_in}
use Rattle.readings.specs.declared.Reader.{Reader}
use Rattle.readings.proofs.Left.{separates, skip, left_on, left_minus, left_none, left_some}

-- ---- what is stored

none_stored : (k : ℕ) (l : List ℤ) → record { count = k; numbers = l } ≡ stored_after k l []
none_stored k l = grind arith

one_stored : (k : ℕ) (l : List ℤ) (z : ℤ) (zs : List ℤ) → stored_after (k + 1) (set l k z) zs ≡ stored_after k l (z ∷ zs)
one_stored k l z zs = grind arith

all_stored : (l zs : List ℤ) → length zs ≤ length l → stored_after 0 l zs ≡ record { count = length zs; numbers = zs ++ drop (length zs) l }
all_stored l zs h = grind (arith, sets-eq zs l 0 (omega arith))

-- ---- the start

-- there are no more readings than there is room for
pub few : (n : ℕ) (s : List ℕ) → length (readings n s) ≤ n
unfolding readings
few zero s = le_refl 0
few (suc n) s = grind (arith, few n (past other (past separator s)))

pub at_start : (l : List ℤ) (s : List ℕ) → takes (record { phase = Between; count = 0 }) l s ≡ taken_in l s
unfolding takes left taken_in
at_start l s = grind (arith, all_stored l (readings (length l) s) (few (length l) s))

-- ---- the end of a word

-- a word ends where s begins, t has the same readings as s, and F is what becomes of the reader after it
module _ (s t : List ℕ) (ends : run other s ≡ []) (same : (n : ℕ) → readings n t ≡ readings n s) (F : Both → Taken)
    (on : (k : ℕ) (l : List ℤ) → F (both Between k l) ≡ stored_after k l (readings (length l - k) t))
    (off : (k : ℕ) (l : List ℤ) → F (both Over k l) ≡ stored_after k l []) where
  number_stored : (k m : ℕ) (l : List ℤ) → length l - k ≡ m → (negative : Bool) (n : ℕ) (z : ℤ) → number_in_range negative n ≡ some z → F (stored (some z) k l) ≡ stored_after k l (left m (Number negative n) s)
  unfolding stored left from_within
  number_stored k zero l room negative n z e = grind (arith, nat_tests, off k l)
  number_stored k (suc m) l room negative n z e =
      let less : length (set l k z) - (k + 1) ≡ m = rw (length-set l k z) (omega arith) in
      rw (lt-ltb k (length l) (omega arith), left_some s ends m n negative z e, ← same m) ((rw less at (on (k + 1) (set l k z))) ∙ one_stored k l z (readings m t))

  number_ends : (k : ℕ) (l : List ℤ) (negative : Bool) (n : ℕ) (o : Option ℤ) → number_in_range negative n ≡ o → F (stored o k l) ≡ stored_after k l (left (length l - k) (Number negative n) s)
  unfolding stored
  number_ends k l negative n none e = grind (arith, off k l, left_none s ends (length l - k) n negative e)
  number_ends k l negative n (some z) e = number_stored k (length l - k) l refl negative n z e

  word_ends : (p : Phase) (k : ℕ) (l : List ℤ) → F (ended_at p k l) ≡ stored_after k l (left (length l - k) p s)
  unfolding ended_at left
  word_ends Between k l = on k l ∙ ap (stored_after k l) (same (length l - k))
  word_ends Minus k l = rw (left_minus s ends (length l - k)) (off k l)
  word_ends (Number negative n) k l = number_ends k l negative n (number_in_range negative n) refl
  word_ends Over k l = off k l

-- ---- a byte

pub at_separator : (q r : Reader) (k l : List ℤ) (b : ℕ) (s : List ℕ) → record { reader = q; numbers = k } ≡ ended (record { reader = r; numbers = l }) → separator b ≡ true → takes q k s ≡ takes r l (b ∷ s)
unfolding takes left ended
at_separator q r k l b s w e =
    let F : Both → Taken = λ x. takes x.reader x.numbers s in
    ap F w ∙ word_ends (b ∷ s) s (separates b s e) (λ n. sym (skip n b s e)) F (λ k l. refl) (λ k l. refl) r.phase r.count l

pub at_other : (r : Reader) (l : List ℤ) (b : ℕ) (s : List ℕ) → separator b ≡ false → takes (record { phase = word_more r.phase b; count = r.count }) l s ≡ takes r l (b ∷ s)
unfolding takes
at_other r l b s e = ap (stored_after r.count l) (left_on b s e (length l - r.count) r.phase)

-- ---- the end of the input

none_left : (m : ℕ) → readings m [] ≡ []
unfolding readings reading past run
none_left zero = refl
none_left (suc m) = refl

pub at_end : (h : Both) → record { count = (ended h).reader.count; numbers = (ended h).numbers } ≡ takes h.reader h.numbers []
unfolding takes ended run
at_end h = word_ends [] [] refl (λ n. refl) (λ x. record { count = x.reader.count; numbers = x.numbers }) (λ k l. rw (none_left (length l - k)) (none_stored k l)) none_stored h.reader.phase h.reader.count h.numbers

-- ---- where the readings are over

-- nothing is left where there is no room, or where something came that is no reading
none_over : (p : Phase) (m : ℕ) (s : List ℕ) → m ≡ 0 → left m p s ≡ []
unfolding left from_within readings
none_over p m s e = grind arith

-- no byte that follows changes anything
pub over_stays : (r : Reader) (l : List ℤ) (s : List ℕ) → over r l ≡ true → takes r l s ≡ takes r l []
unfolding takes over stopped left
over_stays r l s e = grind (arith, nat_tests, none_over r.phase (length l - r.count) s, none_over r.phase (length l - r.count) [])
