-- What a larger budget changes: nothing, once the smaller one was enough.
use mathlib.Core.Path.{◌≡◌, refl}
use mathlib.Core.Logic.{◌≢◌}
use mathlib.Core.List.{List}
use mathlib.Core.Bool.{Bool, true, false, cond}
use mathlib.Core.Option.{Option, none, some}
use Prim.Native.Nat.{ℕ, zero, suc, ◌+◌, ◌≤◌, ◌<◌}
use native.Mathlib.Nat.{le_refl, le-suc, le_trans, lt_of_le_of_lt, add-zero, zero-add, suc-add}
use native.Mathlib.Omega.{arith}
use lib.Dec.{ltb}
use lib.IntN.{ℤ, pos}
use lib.Signed.{mag, quot_z}
use Rattle.sentence.specs.Sentences as S
use Rattle.sentence.specs.Sentences.{Kind, Sen, command, literal, variable, bracket, first, multiply, unsigned, signed, add, negated, compare, print, print_line, print_string, declare, input, assign, error, while, when, block, single, then}
use Rattle.endings.specs.Endings.{normal, budget_spent, stack_full, bad_code, no_reading_left, print_does_not_fit, outside_range, division_by_0}
use Rattle.numbers.specs.Numbers.{TwoSidedOperation, plus, minus, times, divide, equals, smaller, greater, Result, value, ends, in_range, is_false, calculate, negation, decimal}
use Rattle.rules.specs.Machine.{Outside, reading, one_used, printed}
use Rattle.meaning.specs.Layout.{of_mul, of_sign, of_rel}
use Rattle.meaning.specs.Meaning.{Store, Outcome, done, ended, Act, after, ◌>>=◌, ◌>>◌, give, end_with, unit, result, value_of, assigned, signed_value, rounds, next_reading, write, mean, declarations, program, meaning, start}

-- an ending that sentences have by themselves
pub record Own (e : ℕ) : Type 0 where
  pub in_budget : e ≢ budget_spent
  pub with_room : e ≢ stack_full
  pub good_code : e ≢ bad_code

-- an outcome with n units, and that with k units more
pub data Later {A : Type 0} (n k : ℕ) : Outcome A → Outcome A → Type 0 where
  both : {a : A} {m : ℕ} {s : Store} → m ≤ n → Later n k (done a m s) (done a (m + k) s)
  end : {e l : ℕ} {o : Outside} → Own e → l ≤ n → Later n k (ended (record { ending = e; left = l; outside = o })) (ended (record { ending = e; left = l + k; outside = o }))
  late_done : {o : Outside} {a : A} {m : ℕ} {s : Store} → m < k → Later n k (ended (record { ending = budget_spent; left = 0; outside = o })) (done a m s)
  late_end : {o : Outside} {e l : ℕ} {p : Outside} → Own e → l < k → Later n k (ended (record { ending = budget_spent; left = 0; outside = o })) (ended (record { ending = e; left = l; outside = p }))
  never : {o p : Outside} → Later n k (ended (record { ending = budget_spent; left = 0; outside = o })) (ended (record { ending = budget_spent; left = 0; outside = p }))

-- for all budgets below N
pub record Good {A : Type 0} (N : ℕ) (f : Act A) : Type 0 where
  pub good : (n k : ℕ) (s : Store) → n + k < N → Later n k (f n s) (f (n + k) s)

weaken : {A : Type 0} {m n k : ℕ} {o p : Outcome A} → m ≤ n → Later m k o p → Later n k o p
weaken h (both q) = both (le_trans q h)
weaken h (end w q) = end w (le_trans q h)
weaken h (late_done q) = late_done q
weaken h (late_end w q) = late_end w q
weaken h never = never

-- what has less than k units left has spent more than the budget without them
late : {A : Type 0} {m j n k : ℕ} {o p : Outcome A} {out : Outside} → m < k → Later m j o p → Later n k (ended (record { ending = budget_spent; left = 0; outside = out })) o
late h (both q) = late_done (lt_of_le_of_lt q h)
late h (end w q) = late_end w (lt_of_le_of_lt q h)
late h (late_done q) = never
late h (late_end w q) = never
late h never = never

after_later : {A B : Type 0} {N n k : ℕ} {o p : Outcome A} {f : A → Act B} → n + k < N → Later n k o p → ((a : A) → Good N (f a)) → Later n k (after o f) (after p f)
unfolding after
after_later l (both {a} {m} {s} h) g = weaken h ((g a).good m _ s (omega arith))
after_later l (end w h) g = end w h
after_later l (late_done {a} {m} {s} h) g = late h ((g a).good m 0 s (rw add-zero (omega arith)))
after_later l (late_end w h) g = late_end w h
after_later l never g = never

-- ---- acts

module _ {N : ℕ} where
  good_bind : {A B : Type 0} {m : Act A} {f : A → Act B} → Good N m → ((a : A) → Good N (f a)) → Good N (m >>= f)
  unfolding ◌>>=◌
  good_bind p q = record { good = λ n k s l. after_later l (p.good n k s l) q }

  good_seq : {A B : Type 0} {m : Act A} {f : Act B} → Good N m → Good N f → Good N (m >> f)
  unfolding ◌>>◌
  good_seq p q = record { good = λ n k s l. after_later l (p.good n k s l) (λ _. q) }

  good_give : {A : Type 0} (a : A) → Good N (give a)
  unfolding give
  good_give a = record { good = λ n k s l. both (le_refl n) }

  good_end : {A : Type 0} {e : ℕ} → Own e → Good {A = A} N (end_with e)
  unfolding end_with
  good_end w = record { good = λ n k s l. end w (le_refl n) }

  good_value_of : (c : ℕ) → Good N (value_of c)
  unfolding value_of
  good_value_of c = record { good = λ n k s l. both (le_refl n) }

  good_assigned : (c : ℕ) (v : ℤ) → Good N (assigned c v)
  unfolding assigned
  good_assigned c v = record { good = λ n k s l. both (le_refl n) }

  good_choice : {A : Type 0} (b : Bool) {x y : Act A} → Good N x → Good N y → Good {A = A} N (elim b [ true ↦ x | false ↦ y ])
  good_choice true p q = p
  good_choice false p q = q

  -- a unit lowers the bound
  first_unit : {A : Type 0} {f : Act A} → Good N f → Good (suc N) (unit >> f)
  unfolding unit ◌>>◌ after end_with
  first_unit {A} {f} p = record { good = by }
    where
      by : (n k : ℕ) (s : Store) → n + k < suc N → Later n k ((unit >> f) n s) ((unit >> f) (n + k) s)
      by zero zero s l = never
      by zero (suc k) s l = rw zero-add (late (le_refl (suc k)) (p.good k 0 s (rw add-zero (omega arith))))
      by (suc n) k s l = rw suc-add (weaken (le-suc n) (p.good n k s (omega arith)))

  good_unit : {A : Type 0} {f : Act A} → Good N f → Good N (unit >> f)
  good_unit p = record { good = λ n k s l. (first_unit p).good n k s (omega arith) }

  good_last_unit : Good N unit
  unfolding unit end_with
  good_last_unit = record { good = by }
    where
      by : (n k : ℕ) (s : Store) → n + k < N → Later n k (unit n s) (unit (n + k) s)
      by zero zero s l = never
      by zero (suc k) s l = rw zero-add (late_done (le_refl (suc k)))
      by (suc n) k s l = rw suc-add (both (le-suc n))

-- ---- results, readings, prints

OwnResult : Result → Type 0
OwnResult (value v) = Unit {0}
OwnResult (ends e) = Own e

own_in_range : (z : ℤ) → OwnResult (in_range z)
unfolding in_range
own_in_range z = by (ltb (mag z) 2147483648)
  where
    by : (b : Bool) → OwnResult (cond b (value z) (ends outside_range))
    by true = unfold OwnResult in tt
    by false = unfold OwnResult in omega arith

own_calculate : (t : TwoSidedOperation) (a b : ℤ) → OwnResult (calculate t a b)
unfolding calculate OwnResult
own_calculate plus a b = own_in_range _
own_calculate minus a b = own_in_range _
own_calculate times a b = own_in_range _
own_calculate divide a b = by (is_false b)
  where
    by : (x : Bool) → OwnResult (cond x (ends division_by_0) (in_range (quot_z a b)))
    by true = unfold OwnResult in omega arith
    by false = own_in_range _
own_calculate equals a b = tt
own_calculate smaller a b = tt
own_calculate greater a b = tt

module _ {N : ℕ} where
  good_result : (r : Result) → OwnResult r → Good N (result r)
  unfolding result OwnResult
  good_result (value v) w = good_give v
  good_result (ends e) w = good_end w

  good_signed : (g : S.Sign) (v : ℤ) → Good N (signed_value g v)
  unfolding signed_value
  good_signed S.plus v = good_give v
  good_signed S.minus v = good_unit (good_result _ (own_in_range _))

  good_next_reading : (readings : List ℤ) (room : ℕ) → Good N (next_reading readings room)
  unfolding next_reading end_with
  good_next_reading readings room = record { good = λ n k s l. by n k s (reading readings s.outside) }
    where
      got : Option ℤ → Act ℤ
      got q n s = elim q [ none ↦ end_with no_reading_left n s | some v ↦ done v n (record { variables = s.variables; outside = one_used s.outside }) ]

      by : (n k : ℕ) (s : Store) (q : Option ℤ) → Later n k (got q n s) (got q (n + k) s)
      by n k s none = end {e = no_reading_left} (omega arith) (le_refl n)
      by n k s (some v) = both (le_refl n)

  good_write : (readings : List ℤ) (room : ℕ) (bs : List ℕ) → Good N (write readings room bs)
  unfolding write end_with
  good_write readings room bs = record { good = λ n k s l. by n k s (printed room bs s.outside) }
    where
      got : Option Outside → Act (Unit {0})
      got q n s = elim q [ none ↦ end_with print_does_not_fit n s | some o ↦ done tt n (record { variables = s.variables; outside = o }) ]

      by : (n k : ℕ) (s : Store) (q : Option Outside) → Later n k (got q n s) (got q (n + k) s)
      by n k s none = end {e = print_does_not_fit} (omega arith) (le_refl n)
      by n k s (some o) = both (le_refl n)

-- ---- the rounds of a WHILE

after_same : {A B : Type 0} {n k : ℕ} {o p : Outcome A} {f g : A → Act B} → Later n k o p → ((a : A) (m : ℕ) (s : Store) → m ≤ n → f a m s ≡ g a m s) → after o f ≡ after o g
unfolding after
after_same (both {a} {m} {s} h) e = e a m s h
after_same (end w h) e = refl
after_same (late_done h) e = refl
after_same (late_end w h) e = refl
after_same never e = refl

-- two acts that do the same with less than N units
record Agree {A : Type 0} (N : ℕ) (f g : Act A) : Type 0 where
  agree : (n : ℕ) (s : Store) → n < N → f n s ≡ g n s

module _ {N : ℕ} where
  agree_bind : {A B : Type 0} {m : Act A} {f g : A → Act B} → Good N m → ((a : A) → Agree N (f a) (g a)) → Agree N (m >>= f) (m >>= g)
  unfolding ◌>>=◌
  agree_bind p q = record { agree = λ n s l. after_same (p.good n 0 s (rw add-zero l)) (λ a i t h. (q a).agree i t (omega arith)) }

  agree_seq : {A B : Type 0} {m : Act A} {f g : Act B} → Good N m → Agree N f g → Agree N (m >> f) (m >> g)
  unfolding ◌>>◌
  agree_seq p q = record { agree = λ n s l. after_same (p.good n 0 s (rw add-zero l)) (λ a i t h. q.agree i t (omega arith)) }

  agree_first_unit : {A : Type 0} {f g : Act A} → Agree N f g → Agree (suc N) (unit >> f) (unit >> g)
  unfolding unit ◌>>◌ after end_with
  agree_first_unit {A} {f} {g} p = record { agree = by }
    where
      by : (n : ℕ) (s : Store) → n < suc N → (unit >> f) n s ≡ (unit >> g) n s
      by zero s l = refl
      by (suc n) s l = p.agree n s (omega arith)

  agree_unit : {A : Type 0} {f g : Act A} → Agree N f g → Agree N (unit >> f) (unit >> g)
  agree_unit p = record { agree = λ n s l. (agree_first_unit p).agree n s (omega arith) }

  agree_choice : {A : Type 0} (b : Bool) (x : Act A) {y z : Act A} → Agree N y z → Agree {A = A} N (elim b [ true ↦ x | false ↦ y ]) (elim b [ true ↦ x | false ↦ z ])
  agree_choice true x p = record { agree = λ n s l. refl }
  agree_choice false x p = p

module _ {c : Act ℤ} {m : Act (Unit {0})} (gc : (N : ℕ) → Good N c) (gm : (N : ℕ) → Good N m) where
  -- fuel that is more than the units left does not matter
  rounds_agree : (N M : ℕ) → N ≤ M → Agree N (rounds c m N) (rounds c m M)
  unfolding rounds
  rounds_agree zero M h = record { agree = λ n s l. absurd (omega arith) }
  rounds_agree (suc N) zero h = absurd (omega arith)
  rounds_agree (suc N) (suc M) h =
      agree_bind (gc (suc N)) (λ v. agree_first_unit (agree_choice (is_false v) (give tt) (agree_seq (gm N) (agree_unit (rounds_agree N M (omega arith))))))

  good_rounds : (N : ℕ) → Good N (rounds c m N)
  unfolding rounds
  good_rounds zero = record { good = λ n k s l. absurd (omega arith) }
  good_rounds (suc N) = good_bind (gc (suc N)) (λ v. first_unit (good_choice (is_false v) (good_give tt) (good_seq (gm N) (good_unit (good_rounds N)))))

  good_while : (N : ℕ) → Good N (λ n s. rounds c m (suc n) n s)
  good_while N = record { good = λ n k s l. rw ((rounds_agree (suc n) (suc (n + k)) (omega arith)).agree n s (le_refl (suc n))) ((good_rounds (suc (n + k))).good n k s (le_refl (suc (n + k)))) }

-- ---- the sentences

module _ (readings : List ℤ) (room : ℕ) where
  good_two : {N : ℕ} {a b : Act ℤ} (t : TwoSidedOperation) → Good N a → Good N b → Good N (a >>= λ v. b >>= λ w. unit >> result (calculate t v w))
  good_two t p q = good_bind p (λ v. good_bind q (λ w. good_unit (good_result _ (own_calculate t v w))))

  good_mean : {k : Kind} (x : Sen ℕ k) (N : ℕ) → Good N (mean readings room x)
  unfolding mean
  good_mean (literal n) N = good_unit (good_give (pos n))
  good_mean (variable c) N = good_unit (good_value_of c)
  good_mean (bracket e) N = good_mean e N
  good_mean (first f) N = good_mean f N
  good_mean (multiply t o f) N = good_two (of_mul o) (good_mean t N) (good_mean f N)
  good_mean (unsigned t) N = good_mean t N
  good_mean (signed g t) N = good_bind (good_mean t N) (good_signed g)
  good_mean (add e g t) N = good_two (of_sign g) (good_mean e N) (good_mean t N)
  good_mean (negated c) N = good_bind (good_mean c N) (λ v. good_unit (good_give (negation v)))
  good_mean (compare d r e) N = good_two (of_rel r) (good_mean d N) (good_mean e N)
  good_mean (print e) N = good_bind (good_mean e N) (λ v. good_unit (good_write readings room (decimal v)))
  good_mean (print_line q) N = good_unit (good_write readings room _)
  good_mean (print_string q) N = good_unit (good_write readings room _)
  good_mean (declare c) N = good_unit (good_unit (good_assigned c (pos 0)))
  good_mean (input c) N = good_unit (good_bind (good_next_reading readings room) (λ v. good_unit (good_assigned c v)))
  good_mean (assign c e) N = good_bind (good_mean e N) (λ v. good_unit (good_assigned c v))
  good_mean error N = good_unit (good_end (omega arith))
  good_mean (while c m) N = good_while (good_mean c) (good_mean m) N
  good_mean (when c m) N = good_bind (good_mean c N) (λ v. good_unit (good_choice (is_false v) (good_give tt) (good_mean m N)))
  good_mean (block ms) N = good_mean ms N
  good_mean (single m) N = good_mean m N
  good_mean (then ms m) N = good_seq (good_mean ms N) (good_mean m N)

  good_declarations : (d N : ℕ) → Good N (declarations readings room d)
  unfolding declarations
  good_declarations zero N = good_give tt
  good_declarations (suc d) N = good_unit (good_declarations d N)

  good_program : (d : ℕ) (m : Sen ℕ command) (N : ℕ) → Good N (program readings room d m)
  unfolding program
  good_program d m N = good_seq (good_declarations d N) (good_seq (good_mean m N) good_last_unit)

  -- the meaning with a budget, and with k units more
  pub later : (d : ℕ) (m : Sen ℕ command) (n k : ℕ) → Later {A = Unit {0}} n k (ended (meaning readings room d m n)) (ended (meaning readings room d m (n + k)))
  unfolding ◌>>◌
  later d m n k = rw (← closes n, ← closes (n + k)) ((good_seq (good_program d m (suc (n + k))) (good_end {e = normal} (omega arith))).good n k start (le_refl (suc (n + k))))
    where
      closes : (n : ℕ) → after {B = Unit {0}} (program readings room d m n start) (λ _. end_with normal) ≡ ended (meaning readings room d m n)
      closes n = unfold meaning in by (program readings room d m n start)
        where
          by : (o : Outcome (Unit {0})) → after {B = Unit {0}} o (λ _. end_with normal) ≡ ended (elim o [ done a l s ↦ record { ending = normal; left = l; outside = s.outside } | ended e ↦ e ])
          by (done a l s) = unfold after end_with in refl
          by (ended e) = unfold after in refl
