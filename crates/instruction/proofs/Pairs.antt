-- An instruction and its pair: `pair` encodes it, `decode` leads back, and each undoes the other. Assumes nothing.
use mathlib.Core.Path.{◌≡◌, refl}
use mathlib.Core.List.{List, [], ◌∷◌}
use mathlib.Core.Bool.{Bool, true, false, cond}
use mathlib.Core.Option.{Option, none, some}
use Prim.Native.Nat.{ℕ, zero, suc, ◌+◌, ◌*◌, ◌<◌}
use native.Mathlib.Omega.{arith}
use lib.Dec.{ltb, eqb}
use lib.IntN.{ℤ, pos, negsuc}
use lib.ListN.{length, get_or, get_elem?}
use borrow.Author.Tests.{lt-ltb, eqb-true}
use Rattle.numbers.specs.Numbers.{plus, minus, times, divide, equals, smaller, greater, is_false}
use Rattle.instruction.specs.Instructions.{Instruction, halt, push_int, load_stack, store_stack, jump, jump_if_false, two_sided, negate, not, read, print_int, print_str, print_str_ln, alone, natural, halting, opcode, operation, decode, number, encode, numbers}

-- an instruction that a pair can stand for: a Halt's operand is 0 or 1
unfoldable pub Sound : Instruction → Type 0
Sound (halt h) = h < 2
Sound (push_int v) = Unit {0}
Sound (load_stack k) = Unit {0}
Sound (store_stack k) = Unit {0}
Sound (jump a) = Unit {0}
Sound (jump_if_false a) = Unit {0}
Sound (two_sided o) = Unit {0}
Sound negate = Unit {0}
Sound not = Unit {0}
Sound read = Unit {0}
Sound print_int = Unit {0}
Sound (print_str s) = Unit {0}
Sound (print_str_ln s) = Unit {0}

unfoldable pub AllSound : List Instruction → Type 0
AllSound [] = Unit {0}
AllSound (i ∷ is) = Sound i × AllSound is

-- the two numbers of an instruction, and that a sound one's decode to it
unfoldable pub Written : Instruction → Type 0
Written i = (x y : ℤ) × ((t : List ℤ) → encode i t ≡ x ∷ y ∷ t) × (Sound i → decode x y ≡ some i)

-- an instruction's pair is decoded to that instruction
pub written : (i : Instruction) → Written i
unfolding Written Sound decode operation opcode encode number alone natural halting is_false
written (halt h) = (_, _, λ t. refl, λ s. rw (lt-ltb h 2 s))
written (push_int v) = (_, _, λ t. refl, λ s. refl)
written (load_stack k) = (_, _, λ t. refl, λ s. refl)
written (store_stack k) = (_, _, λ t. refl, λ s. refl)
written (jump a) = (_, _, λ t. refl, λ s. refl)
written (jump_if_false a) = (_, _, λ t. refl, λ s. refl)
written (two_sided plus) = (_, _, λ t. refl, λ s. refl)
written (two_sided minus) = (_, _, λ t. refl, λ s. refl)
written (two_sided times) = (_, _, λ t. refl, λ s. refl)
written (two_sided divide) = (_, _, λ t. refl, λ s. refl)
written (two_sided equals) = (_, _, λ t. refl, λ s. refl)
written (two_sided smaller) = (_, _, λ t. refl, λ s. refl)
written (two_sided greater) = (_, _, λ t. refl, λ s. refl)
written negate = (_, _, λ t. refl, λ s. refl)
written not = (_, _, λ t. refl, λ s. refl)
written read = (_, _, λ t. refl, λ s. refl)
written print_int = (_, _, λ t. refl, λ s. refl)
written (print_str q) = (_, _, λ t. refl, λ s. refl)
written (print_str_ln q) = (_, _, λ t. refl, λ s. refl)

pub length_pair : (i : Instruction) (t : List ℤ) → length (encode i t) ≡ 2 + length t
unfolding Written
length_pair i t = rw ((written i).2 t) (omega arith)

pub length_numbers : (is : List Instruction) → length (numbers is) ≡ 2 * length is
unfolding numbers
length_numbers [] = refl
length_numbers (i ∷ is) = rw (length_pair i (numbers is)) (omega (arith, length_numbers is))

-- past the end both numbers are read as 0, which is no operation
pub decoded_at : (is : List Instruction) → AllSound is → (a : ℕ) → decode (get_or (numbers is) (a * 2) (pos 0)) (get_or (numbers is) (a * 2 + 1) (pos 0)) ≡ get_elem? is a
unfolding numbers AllSound Written
decoded_at [] s a = unfold decode operation opcode encode number in refl
decoded_at (i ∷ is) s zero = let w = written i in rw (w.2 (numbers is)) (w.3 s.0)
decoded_at (i ∷ is) s (suc a) = let w = written i in rw (w.2 (numbers is), twice, twice_and_one) (decoded_at is s.1 a)
  where
    twice : suc a * 2 ≡ suc (suc (a * 2))
    twice = omega arith

    twice_and_one : suc (suc (a * 2)) + 1 ≡ suc (suc (a * 2 + 1))
    twice_and_one = omega arith

-- ---- and decoded and then encoded it is the same

nothing : (i : Instruction) → none ≡ some i → ⊥
nothing i e = let z : ◌≡◌ {A = ℕ} 0 1 = cc in omega arith

-- what stands at a number that was found, or what comes after it
on : {P : Type 0} (n k : ℕ) (here rest : Option Instruction) (i : Instruction) → (n ≡ k → here ≡ some i → P) → (rest ≡ some i → P) → cond (eqb n k) here rest ≡ some i → P
on {P} n k here rest i f g e = by (eqb n k) refl e
  where
    by : (b : Bool) → eqb n k ≡ b → cond b here rest ≡ some i → P
    by true h p = f (eqb-true n k h) p
    by false h p = g p

natural_back : (f : ℕ → Instruction) (k : ℕ) → ((m : ℕ) (t : List ℤ) → encode (f m) t ≡ pos k ∷ pos m ∷ t) → (y : ℤ) (i : Instruction) → natural f y ≡ some i → (t : List ℤ) → encode i t ≡ pos k ∷ y ∷ t
unfolding natural
natural_back f k w (pos m) i e t = let q : i ≡ f m = cc in rw q (w m t)
natural_back f k w (negsuc m) i e t = absurd (nothing i e)

alone_back : (j : Instruction) (k : ℕ) → ((t : List ℤ) → encode j t ≡ pos k ∷ pos 0 ∷ t) → (y : ℤ) (i : Instruction) → alone j y ≡ some i → (t : List ℤ) → encode i t ≡ pos k ∷ y ∷ t
unfolding alone is_false
alone_back j k w (pos n) i e t = on n 0 (some j) none i (λ q h. let r : i ≡ j = cc in rw (q, r) (w t)) (λ h. absurd (nothing i h)) e
alone_back j k w (negsuc m) i e t = absurd (nothing i e)

halting_back : (y : ℤ) (i : Instruction) → halting y ≡ some i → (t : List ℤ) → encode i t ≡ pos 1 ∷ y ∷ t
unfolding halting encode
halting_back (pos n) i e t = by (ltb n 2) e
  where
    by : (b : Bool) → cond b (some (halt n)) none ≡ some i → encode i t ≡ pos 1 ∷ pos n ∷ t
    by true p = let q : i ≡ halt n = cc in rw q
    by false p = absurd (nothing i p)
halting_back (negsuc n) i e t = absurd (nothing i e)

push_back : (y : ℤ) (i : Instruction) → some (push_int y) ≡ some i → (t : List ℤ) → encode i t ≡ pos 2 ∷ y ∷ t
unfolding encode
push_back y i e t = let q : i ≡ push_int y = cc in rw q

-- two numbers that are decoded are the pair of what they are decoded to
pub encoded : (x y : ℤ) (i : Instruction) → decode x y ≡ some i → (t : List ℤ) → encode i t ≡ x ∷ y ∷ t
unfolding decode operation opcode encode number
encoded (negsuc n) y i = λ e. absurd (nothing i e)
encoded (pos n) y i =
    on n _ _ _ i (λ q h. rw q (halting_back y i h))
    (on n _ _ _ i (λ q h. rw q (push_back y i h))
    (on n _ _ _ i (λ q h. rw q (natural_back load_stack _ (λ m t. refl) y i h))
    (on n _ _ _ i (λ q h. rw q (natural_back store_stack _ (λ m t. refl) y i h))
    (on n _ _ _ i (λ q h. rw q (natural_back jump _ (λ m t. refl) y i h))
    (on n _ _ _ i (λ q h. rw q (natural_back jump_if_false _ (λ m t. refl) y i h))
    (on n _ _ _ i (λ q h. rw q (alone_back (two_sided plus) _ (λ t. refl) y i h))
    (on n _ _ _ i (λ q h. rw q (alone_back (two_sided minus) _ (λ t. refl) y i h))
    (on n _ _ _ i (λ q h. rw q (alone_back (two_sided times) _ (λ t. refl) y i h))
    (on n _ _ _ i (λ q h. rw q (alone_back (two_sided divide) _ (λ t. refl) y i h))
    (on n _ _ _ i (λ q h. rw q (alone_back (two_sided equals) _ (λ t. refl) y i h))
    (on n _ _ _ i (λ q h. rw q (alone_back (two_sided smaller) _ (λ t. refl) y i h))
    (on n _ _ _ i (λ q h. rw q (alone_back (two_sided greater) _ (λ t. refl) y i h))
    (on n _ _ _ i (λ q h. rw q (alone_back negate _ (λ t. refl) y i h))
    (on n _ _ _ i (λ q h. rw q (alone_back not _ (λ t. refl) y i h))
    (on n _ _ _ i (λ q h. rw q (alone_back read _ (λ t. refl) y i h))
    (on n _ _ _ i (λ q h. rw q (alone_back print_int _ (λ t. refl) y i h))
    (on n _ _ _ i (λ q h. rw q (natural_back print_str _ (λ m t. refl) y i h))
    (on n _ _ _ i (λ q h. rw q (natural_back print_str_ln _ (λ m t. refl) y i h))
    (λ e. absurd (nothing i e))))))))))))))))))))
