-- What acts run instructions to: a step for each instruction, and how acts follow on each other.
use mathlib.Core.Path.{◌≡◌, refl, sym, ap, ◌∙◌}
use mathlib.Core.List.{List, [], ◌∷◌, ◌++◌}
use mathlib.Core.Bool.{Bool, true, false, cond}
use mathlib.Core.Option.{Option, none, some}
use Prim.Native.Nat.{ℕ, zero, suc, ◌+◌, ◌-◌, ◌≤◌, ◌<◌}
use native.Mathlib.Nat.{le_refl}
use native.Mathlib.Omega.{arith}
use lib.IntN.{ℤ, pos, neg_ℤ}
use lib.ListN.{length, get_or, drop}
use borrow.Author.Tests.{lt-ltb}
use Rattle.endings.specs.Endings.{no_reading_left, print_does_not_fit}
use Rattle.numbers.specs.Numbers.{Result, value, ends, TwoSidedOperation, in_range, calculate, is_false, negation, decimal}
use Rattle.instruction.specs.Instructions.{Instruction, halt, push_int, load_stack, store_stack, jump, jump_if_false, two_sided, negate, not, read, print_int, print_str, print_str_ln, takes, gives, effect}
use Rattle.rules.specs.Machine.{Lent, Outside, Machine, string, closed, reading, one_used, printed, Step, go, stop, pushed, left_with, jumped, resulting, taken, written, pairs, names_well, prints, does, tried, decoded, fetched, step, run, End, end_of}
use Rattle.rules.proofs.Tried.{works}
use Rattle.meaning.specs.Meaning.{Store, Outcome, done, ended, Act, after, ◌>>=◌, ◌>>◌, give, end_with, unit, result, value_of, assigned, next_reading, write}
use Rattle.meaning.proofs.Cells.{cells, deep, peek_below, poke_below}

-- what comes after an outcome
unfoldable pub finish : {A : Type 0} → Outcome A → (A → ℕ → Store → End) → End
finish (done a n s) k = k a n s
finish (ended e) k = e

pub finish_after : {A B : Type 0} (o : Outcome A) (f : A → Act B) (k : B → ℕ → Store → End) → finish (after o f) k ≡ finish o (λ a n s. finish (f a n s) k)
unfolding finish after
finish_after (done a n s) f k = refl
finish_after (ended e) f k = refl

-- the machine at a place, with a stack
abbrev pub at : ℕ → List ℤ → Outside → Machine
at a st o = record { place = a; stack = st; outside = o }

module _ (lent : Lent) where
  -- the rest of a run after a step
  unfoldable pub continue : Step → ℕ → Outside → End
  continue (go m) n p = end_of (run lent n m)
  continue (stop e) n p = record { ending = e; left = n; outside = p }

  -- an instruction whose tests it passes, with k values on the stack once it has taken its own
  passes : (i : Instruction) (m : Machine) (k : ℕ) → takes i ≤ length m.stack → length m.stack - takes i ≡ k → names_well lent i k ≡ true → gives i - takes i ≤ lent.cells - length m.stack →
      tried lent i m ≡ does lent i (get_or m.stack 1 (pos 0)) (get_or m.stack 0 (pos 0)) (at m.place (drop (takes i) m.stack) m.outside)
  passes i m k h l w f = sym (works lent i m k h l w f)

  pub halted : (h a : ℕ) (st : List ℤ) (o : Outside) → tried lent (halt h) (at a st o) ≡ stop h
  unfolding effect names_well does
  halted h a st o = passes (halt h) (at a st o) (length st) (omega arith) (omega arith) refl (omega arith)

  run_suc : (i : Instruction) (n a : ℕ) (st : List ℤ) (o : Outside) → fetched lent a ≡ some i → end_of (run lent (suc n) (at a st o)) ≡ continue (tried lent i (at (suc a) st o)) n o
  unfolding run step decoded
  run_suc i n a st o e = by (step lent (at a st o)) ∙ ap (λ q. continue (decoded lent q (at (suc a) st o)) n o) e
    where
      by : (x : Step) → ◌≡◌ {A = End} (end_of (elim x [ go m ↦ run lent n m | stop q ↦ record { ending = q; left = n; machine = at a st o } ])) (continue x n o)
      by (go m) = unfold continue in refl
      by (stop q) = unfold continue in refl

  pub unit_step : {A : Type 0} (i : Instruction) (a n : ℕ) (st : List ℤ) (s : Store) (f : Act A) (K : A → ℕ → Store → End) → fetched lent a ≡ some i →
      ((m : ℕ) → m < n → continue (tried lent i (at (suc a) st s.outside)) m s.outside ≡ finish (f m s) K) → end_of (run lent n (at a st s.outside)) ≡ finish ((unit >> f) n s) K
  unfolding ◌>>◌ unit after end_with finish
  unit_step i a zero st s f K e h = unfold run in refl
  unit_step i a (suc n) st s f K e h = run_suc i n a st s.outside e ∙ h n (le_refl (suc n))

  module _ (d : ℕ) where
    -- the run from a place on, with some values above the variables
    abbrev pub from : ℕ → ℕ → List ℤ → Store → End
    from n a ts s = end_of (run lent n (at a (ts ++ cells d s.variables) s.outside))

    -- With less than N units left, the run from place a on with the values ts is the act, and then what the run is from place b on with the values `out v`.
    -- The units left only fall, which the rounds of a WHILE need.
    pub record Leads {A : Type 0} (N a : ℕ) (ts : List ℤ) (m : Act A) (b : ℕ) (out : A → List ℤ) : Type 0 where
      pub leads : (n : ℕ) (s : Store) (K : A → ℕ → Store → End) → n < N → ((v : A) (l : ℕ) (t : Store) → l ≤ n → from l b (out v) t ≡ K v l t) → from n a ts s ≡ finish (m n s) K

    -- what an instruction does with less than N units left is the act
    pub record Does {A : Type 0} (N : ℕ) (i : Instruction) (a : ℕ) (ts : List ℤ) (f : Act A) (b : ℕ) (out : A → List ℤ) : Type 0 where
      pub goes : (m : ℕ) (s : Store) (K : A → ℕ → Store → End) → m < N → ((v : A) (l : ℕ) (t : Store) → l ≤ m → from l b (out v) t ≡ K v l t) →
          continue (tried lent i (at (suc a) (ts ++ cells d s.variables) s.outside)) m s.outside ≡ finish (f m s) K

module _ {lent : Lent} {d : ℕ} where
  pub here : {A : Type 0} {N a : ℕ} (v : A) (out : A → List ℤ) → Leads lent d N a (out v) (give v) a out
  unfolding give finish
  here v out = record { leads = λ n s K l k. k v n s (le_refl n) }

  pub bind : {A B : Type 0} {N a b c : ℕ} {ts : List ℤ} {m : Act A} {f : A → Act B} {out : A → List ℤ} {out' : B → List ℤ} → Leads lent d N a ts m b out → ((v : A) → Leads lent d N b (out v) (f v) c out') → Leads lent d N a ts (m >>= f) c out'
  unfolding ◌>>=◌
  bind p q = record { leads = λ n s K l k. rw finish_after (p.leads n s _ l (λ v j t h. (q v).leads j t K (omega arith) (λ w i u h'. k w i u (omega arith)))) }

  pub seq : {A B : Type 0} {N a b c : ℕ} {ts : List ℤ} {m : Act A} {f : Act B} {out : A → List ℤ} {out' : B → List ℤ} → Leads lent d N a ts m b out → ((v : A) → Leads lent d N b (out v) f c out') → Leads lent d N a ts (m >> f) c out'
  unfolding ◌>>=◌ ◌>>◌
  seq {f} p q = bind {f = λ _. f} p q

  pub moved : {A : Type 0} {N a b c : ℕ} {ts : List ℤ} {m : Act A} {out : A → List ℤ} → b ≡ c → Leads lent d N a ts m b out → Leads lent d N a ts m c out
  moved e p = rw (← e) p

  -- as much fuel as the units left, and one more
  pub fuelled : {A : Type 0} {N a b : ℕ} {ts : List ℤ} {f : ℕ → Act A} {out : A → List ℤ} → ((M : ℕ) → Leads lent d M a ts (f M) b out) → Leads lent d N a ts (λ n s. f (suc n) n s) b out
  fuelled p = record { leads = λ n s K l k. (p (suc n)).leads n s K (le_refl (suc n)) k }

  pub first_step : {A : Type 0} {N : ℕ} {i : Instruction} {a : ℕ} {ts : List ℤ} {f : Act A} {b : ℕ} {out : A → List ℤ} → fetched lent a ≡ some i → Does lent d N i a ts f b out → Leads lent d (suc N) a ts (unit >> f) b out
  first_step {i} {a} {f} e p = record { leads = λ n s K l k. unit_step lent i a n _ s f K e (λ m h. p.goes m s K (omega arith) (λ v j t q. k v j t (omega arith))) }

  pub step_on : {A : Type 0} {N : ℕ} {i : Instruction} {a : ℕ} {ts : List ℤ} {f : Act A} {b : ℕ} {out : A → List ℤ} → fetched lent a ≡ some i → Does lent d N i a ts f b out → Leads lent d N a ts (unit >> f) b out
  step_on e p = record { leads = λ n s K l k. (first_step e p).leads n s K (omega arith) k }

  -- ---- the instructions

  goes_on : {A : Type 0} {N : ℕ} {i : Instruction} {a : ℕ} {ts us : List ℤ} {f : Act A} {b c : ℕ} {out : A → List ℤ} → Leads lent d N b us f c out →
      ((g : ℕ → ℤ) (o : Outside) → tried lent i (at (suc a) (ts ++ cells d g) o) ≡ go (at b (us ++ cells d g) o)) → Does lent d N i a ts f c out
  goes_on p e = record { goes = λ m s K l k. rw (e s.variables s.outside) (unfold continue in p.leads m s K l k) }

  pub pushes : {A : Type 0} {N a c : ℕ} {ts : List ℤ} {f : Act A} {out : A → List ℤ} (v : ℤ) → length ts + d < lent.cells → Leads lent d N (suc a) (v ∷ ts) f c out → Does lent d N (push_int v) a ts f c out
  unfolding effect names_well does pushed
  pushes {a = a} {ts = ts} v r p = goes_on p (λ g o. passes lent (push_int v) (at (suc a) (ts ++ cells d g) o) (length ts + d) (omega arith) (omega (arith, deep d ts g)) refl (omega (arith, deep d ts g)))

  pub loads : {N a : ℕ} {ts : List ℤ} (k : ℕ) → k < d → length ts + d < lent.cells → Does lent d N (load_stack k) a ts (value_of k) (suc a) (λ v. v ∷ ts)
  unfolding effect names_well does pushed continue value_of finish
  loads {a = a} {ts = ts} j h r = record { goes = λ m s K l k. rw (passes lent (load_stack j) (at (suc a) (ts ++ cells d s.variables) s.outside) (length ts + d) (omega arith) (omega (arith, deep d ts s.variables)) (lt-ltb j (length ts + d) (omega arith)) (omega (arith, deep d ts s.variables)), peek_below j s.variables d ts h) (k _ m s (le_refl m)) }

  pub stores : {N a : ℕ} {ts : List ℤ} (k : ℕ) (v : ℤ) → k < d → Does lent d N (store_stack k) a (v ∷ ts) (assigned k v) (suc a) (λ _. ts)
  unfolding effect names_well does left_with continue assigned finish
  stores {a = a} {ts = ts} j v h = record { goes = λ m s K l k. rw (passes lent (store_stack j) (at (suc a) (v ∷ (ts ++ cells d s.variables)) s.outside) (length ts + d) (omega arith) (omega (arith, deep d ts s.variables)) (lt-ltb j (length ts + d) (omega arith)) (omega arith), poke_below j s.variables v d ts h) (k tt m _ (le_refl m)) }

  pub results : {N : ℕ} {i : Instruction} {a : ℕ} {us : List ℤ} (ts : List ℤ) (r : Result) → ((g : ℕ → ℤ) (o : Outside) → tried lent i (at (suc a) (us ++ cells d g) o) ≡ resulting r (at (suc a) (ts ++ cells d g) o)) → Does lent d N i a us (result r) (suc a) (λ v. v ∷ ts)
  unfolding resulting pushed continue result give end_with finish
  results ts (value v) e = record { goes = λ m s K l k. rw (e s.variables s.outside) (k v m s (le_refl m)) }
  results ts (ends x) e = record { goes = λ m s K l k. rw (e s.variables s.outside) }

  -- an operator or relation takes both sides, and a minus its value
  pub calculates : {N a : ℕ} {ts : List ℤ} (t : TwoSidedOperation) (v w : ℤ) → Does lent d N (two_sided t) a (w ∷ v ∷ ts) (result (calculate t v w)) (suc a) (λ x. x ∷ ts)
  unfolding effect names_well does
  calculates {a = a} {ts = ts} t v w = results ts (calculate t v w) (λ g o. passes lent (two_sided t) (at (suc a) (w ∷ (v ∷ (ts ++ cells d g))) o) (length (ts ++ cells d g)) (omega arith) (omega arith) refl (omega arith))

  pub minuses : {N a : ℕ} {ts : List ℤ} (v : ℤ) → Does lent d N negate a (v ∷ ts) (result (in_range (neg_ℤ v))) (suc a) (λ x. x ∷ ts)
  unfolding effect names_well does
  minuses {a = a} {ts = ts} v = results ts (in_range (neg_ℤ v)) (λ g o. passes lent negate (at (suc a) (v ∷ (ts ++ cells d g)) o) (length (ts ++ cells d g)) (omega arith) (omega arith) refl (omega arith))

  pub negates : {N a : ℕ} {ts : List ℤ} (v : ℤ) → Does lent d N not a (v ∷ ts) (give (negation v)) (suc a) (λ w. w ∷ ts)
  unfolding effect names_well does pushed
  negates {a = a} {ts = ts} v = goes_on (here (negation v) (λ w. w ∷ ts)) (λ g o. passes lent not (at (suc a) (v ∷ (ts ++ cells d g)) o) (length (ts ++ cells d g)) (omega arith) (omega arith) refl (omega arith))

  pub halts : {A : Type 0} {N a b : ℕ} {ts : List ℤ} {out : A → List ℤ} (h : ℕ) → Does lent d {A = A} N (halt h) a ts (end_with h) b out
  unfolding continue end_with finish
  halts {a = a} {ts = ts} h = record { goes = λ m s K l k. rw (halted lent h (suc a) (ts ++ cells d s.variables) s.outside) }

  -- the prints
  writes : {N : ℕ} {i : Instruction} {a : ℕ} {us : List ℤ} (ts : List ℤ) (bs : List ℕ) → ((g : ℕ → ℤ) (o : Outside) → tried lent i (at (suc a) (us ++ cells d g) o) ≡ prints lent bs (at (suc a) (ts ++ cells d g) o)) → Does lent d N i a us (write lent.readings lent.room bs) (suc a) (λ _. ts)
  unfolding prints written continue write end_with finish
  writes {a = a} ts bs e = record { goes = λ m s K l k. rw (e s.variables s.outside) (by m s K k (printed lent.room bs s.outside)) }
    where
      by : (m : ℕ) (s : Store) (K : Unit {0} → ℕ → Store → End) → ((v : Unit {0}) (l : ℕ) (t : Store) → l ≤ m → from lent d l (suc a) ts t ≡ K v l t) → (p : Option Outside) →
          continue lent (written p (at (suc a) (ts ++ cells d s.variables) s.outside)) m s.outside ≡ finish (elim p as (λ _. Outcome (Unit {0})) [ none ↦ end_with print_does_not_fit m s | some o ↦ done tt m (record { variables = s.variables; outside = o }) ]) K
      by m s K k none = refl
      by m s K k (some o) = k tt m (record { variables = s.variables; outside = o }) (le_refl m)

  pub prints_number : {N a : ℕ} {ts : List ℤ} (v : ℤ) → Does lent d N print_int a (v ∷ ts) (write lent.readings lent.room (decimal v)) (suc a) (λ _. ts)
  unfolding effect names_well does
  prints_number {a = a} {ts = ts} v = writes ts (decimal v) (λ g o. passes lent print_int (at (suc a) (v ∷ (ts ++ cells d g)) o) (length (ts ++ cells d g)) (omega arith) (omega arith) refl (omega arith))

  pub prints_string : {N a : ℕ} {ts : List ℤ} (p : ℕ) (bs : List ℕ) → (closed lent.text p ≡ true) × (string lent.text p ≡ bs) → Does lent d N (print_str p) a ts (write lent.readings lent.room bs) (suc a) (λ _. ts)
  unfolding effect names_well does
  prints_string {a = a} {ts = ts} p bs e = writes ts bs (λ g o.
      rw (← e.1) (passes lent (print_str p) (at (suc a) (ts ++ cells d g) o) (length (ts ++ cells d g)) (omega arith) (omega arith) e.0 (omega arith)))

  pub prints_line : {N a : ℕ} {ts : List ℤ} (p : ℕ) (bs : List ℕ) → (closed lent.text p ≡ true) × (string lent.text p ≡ bs) → Does lent d N (print_str_ln p) a ts (write lent.readings lent.room (bs ++ 10 ∷ [])) (suc a) (λ _. ts)
  unfolding effect names_well does
  prints_line {a = a} {ts = ts} p bs e = writes ts (bs ++ 10 ∷ []) (λ g o.
      rw (← e.1) (passes lent (print_str_ln p) (at (suc a) (ts ++ cells d g) o) (length (ts ++ cells d g)) (omega arith) (omega arith) e.0 (omega arith)))

  pub reads : {B : Type 0} {N a c : ℕ} {ts : List ℤ} {f : ℤ → Act B} {out : B → List ℤ} → length ts + d < lent.cells → ((v : ℤ) → Leads lent d N (suc a) (v ∷ ts) (f v) c out) → Does lent d N read a ts (next_reading lent.readings lent.room >>= f) c out
  unfolding effect names_well does taken continue next_reading end_with finish ◌>>=◌ after
  reads {B} {N} {a} {c} {ts} {f} {out} r p = record { goes = λ m s K l k. rw (passes lent read (at (suc a) (ts ++ cells d s.variables) s.outside) (length ts + d) (omega arith) (omega (arith, deep d ts s.variables)) refl (omega (arith, deep d ts s.variables))) (by m s K l k (reading lent.readings s.outside)) }
    where
      by : (m : ℕ) (s : Store) (K : B → ℕ → Store → End) → m < N → ((v : B) (l : ℕ) (t : Store) → l ≤ m → from lent d l c (out v) t ≡ K v l t) → (q : Option ℤ) →
          continue lent (taken q (at (suc a) (ts ++ cells d s.variables) s.outside)) m s.outside ≡
          finish (after (elim q as (λ _. Outcome ℤ) [ none ↦ end_with no_reading_left m s | some v ↦ done v m (record { variables = s.variables; outside = one_used s.outside }) ]) f) K
      by m s K l k none = refl
      by m s K l k (some v) = (p v).leads m (record { variables = s.variables; outside = one_used s.outside }) K l k

  -- the jumps
  pub jumps : {A : Type 0} {N a c : ℕ} {ts : List ℤ} {f : Act A} {out : A → List ℤ} (b : ℕ) → b < pairs lent → Leads lent d N b ts f c out → Does lent d N (jump b) a ts f c out
  unfolding effect names_well does jumped
  jumps {a = a} {ts = ts} b h p = goes_on p (λ g o. passes lent (jump b) (at (suc a) (ts ++ cells d g) o) (length (ts ++ cells d g)) (omega arith) (omega arith) (lt-ltb b (pairs lent) h) (omega arith))

  pub chooses : {A : Type 0} {N a c : ℕ} {ts : List ℤ} {y z : Act A} {out : A → List ℤ} (v : ℤ) (b : ℕ) → b < pairs lent → Leads lent d N b ts y c out → Leads lent d N (suc a) ts z c out →
      Does lent d N (jump_if_false b) a (v ∷ ts) (elim (is_false v) as (λ _. Act A) [ true ↦ y | false ↦ z ]) c out
  unfolding effect names_well does jumped
  chooses {A} {N} {a} {c} {ts} {y} {z} {out} v b h p q = record {
    goes = λ m s K l k.
        rw (passes lent (jump_if_false b) (at (suc a) (v ∷ (ts ++ cells d s.variables)) s.outside) (length (ts ++ cells d s.variables)) (omega arith) (omega arith) (lt-ltb b (pairs lent) h) (omega arith)) (by m s K l k (is_false v));
  }
    where
      by : (m : ℕ) (s : Store) (K : A → ℕ → Store → End) → m < N → ((w : A) (l : ℕ) (t : Store) → l ≤ m → from lent d l c (out w) t ≡ K w l t) → (x : Bool) →
          continue lent (cond x (jumped b (at (suc a) (ts ++ cells d s.variables) s.outside)) (go (at (suc a) (ts ++ cells d s.variables) s.outside))) m s.outside ≡ finish ((elim x as (λ _. Act A) [ true ↦ y | false ↦ z ]) m s) K
      by m s K l k true = unfold continue jumped in p.leads m s K l k
      by m s K l k false = unfold continue in q.leads m s K l k
