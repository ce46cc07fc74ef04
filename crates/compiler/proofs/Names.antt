-- Laws of naming and writing for names and scopes: uses, declarations, and what vanishes at the end of a block or a body. Assumes nothing.
use mathlib.Core.Path.{◌≡◌, refl, sym, ap, ◌∙◌}
use mathlib.Core.List.{List, [], ◌∷◌}
use mathlib.Core.Bool.{Bool, true, false, cond}
use Prim.Native.Nat.{ℕ, suc, ◌+◌, ◌-◌, ◌/◌, ◌≤◌, ◌<◌, max}
use native.Mathlib.Numerals.{add-one}
use native.Mathlib.Omega.{arith}
use lib.Dec.{ltb}
use lib.IntN.{ℤ, pos}
use borrow.Author.Tests.{lt-ltb, ltb-true, ltb-false}
use Rattle.base.specs.declared.Refusal.TheVariants.{Undeclared, TooManyDeclared}
use Rattle.base.specs.Answers.{Answer, given, pass}
use Rattle.base.specs.inner.Parts.{part}
use Rattle.lexeme.specs.Lexemes.{Name}
use Rattle.lexeme.specs.declared.Lexeme.{Lexeme}
use Rattle.sentence.specs.Sentences.{Kind, Sen, expression, condition, command, commands, variable, declare, input, assign, while, when, block}
use Rattle.names.specs.Names as N
use Rattle.names.specs.Names.{Known, Naming, used, declared_here, opened, closed, scoped, resolve}
use Rattle.names.specs.declared.Scope as held
use Rattle.std.specs.Prelude.{Option, Some, None}
use Rattle.base.specs.declared.Refused.{Refused}
use Rattle.names.specs.inner.Held.{counts, room, scope_in, declared_in, opened_in, closed_in, Sound}
use Rattle.names.proofs.Held.{used_at, used_nowhere, found_low, kept_all, declared_kept, declared_sound, declared_given, declared_too_many, opened_counts, opened_long, opened_scope_in, opened_sound, closed_kept, closed_sound, closed_scope_in}
use Rattle.instruction.specs.Instructions.{Instruction, push_int, load_stack, store_stack, read, encode}
use Rattle.meaning.specs.Layout.{code, need}
use Rattle.meaning.proofs.Sizes.{size}
use Rattle.compiler.specs.declared.walk.Walk.{Walk}
use Rattle.compiler.specs.inner.Steps.{moved_to, one_instruction, first_fault, faulted_walk, cell_of, noted_walk, cell_number, declared_walk, ended_walk, ended_table}
use Rattle.tables.specs.inner.Tables.{put, operand_of, emit}
use Rattle.compiler.specs.inner.Walks.{standing, stand, Laid, spare, Small, Lays, Ready, name_of}
use Rattle.tables.proofs.Emits.{emit_one}
use Rattle.compiler.proofs.Lays.{Agrees, gives, refuses, never, agrees_one, agrees_two, Led, agrees, lays, laid_more, guarded, laid_guarded}

-- ---- a use

-- the walk after it has the same place and code
pub noted_is : (c : Option ℕ) (w : Walk) (p : ℕ) → noted_walk c w p ≡ record { next = w.next; code = w.code; fault = (noted_walk c w p).fault }
unfolding noted_walk faulted_walk
noted_is (Some k) w p = refl
noted_is None w p = refl

-- a number that an operand can hold
pub operand_is : (n : ℕ) → n < 2147483648 → operand_of n ≡ n
unfolding operand_of
operand_is n h = rw (lt-ltb n 2147483648 h)

module _ (text names : List ℕ) (sound : Sound names) (l : Lexeme) where
  cell_fits : (k : ℕ) → cell_of text names l ≡ Some k → cell_number (Some k) ≡ k
  unfolding cell_of cell_number
  cell_fits k e = operand_is k (omega (arith, sound.size, sound.declared, found_low text names (part text l.place l.end) k sound e))

  -- a use gives its cell, or its refusal unless there was one before
  agrees_used : (w : Walk) → Agrees (λ k. cell_number (cell_of text names l) ≡ k) (standing (noted_walk (cell_of text names l) w l.place).fault (scope_in text names)) (pass (stand text names w) (used (name_of text l)))
  unfolding stand
  agrees_used w = by (cell_of text names l) refl w.fault
    where
      by : (c : Option ℕ) → cell_of text names l ≡ c → (f : Option Refused) →
          Agrees (λ k. cell_number c ≡ k) (standing (noted_walk c (record { next = w.next; code = w.code; fault = f }) l.place).fault (scope_in text names)) (pass (standing f (scope_in text names)) (used (name_of text l)))
      by (Some k) e None = unfold noted_walk standing pass cell_of name_of in gives (record { what = k; scope = scope_in text names }) (used_at text names (name_of text l) k e) refl (cell_fits k e)
      by None e None = unfold noted_walk faulted_walk first_fault standing pass cell_of name_of in refuses Undeclared l.place (used_nowhere text names (name_of text l) e) refl
      by (Some k) h (Some e) = unfold noted_walk standing pass in refuses e.why e.place refl refl
      by None h (Some e) = unfold noted_walk faulted_walk first_fault standing pass in refuses e.why e.place refl refl

-- two instructions and no part
laid_pair : {l : Kind} {table : List ℤ} {w v : Walk} {g : ℕ} (z : Sen ℕ l) (i j : Instruction) → v.code ≡ w.code + 2 → g ≡ need z → size z ≡ 2 → code w.code z ≡ i ∷ j ∷ [] → Laid table (put (put table w.code (encode i [])) (w.code + 1) (encode j [])) w v g z
unfolding emit
laid_pair z i j a d s c = record { code = rw s a; need = d; numbers = rw (c, add-one) }

module _ {text names : List ℕ} {table : List ℤ} {w : Walk} where
  pub lays_variable : (m : Lexeme) → w.next.place < m.place → Sound names → let c = cell_of text names w.next in
      Lays text names table w (variable (name_of text w.next)) names (put table w.code (pos 3 ∷ pos (cell_number c) ∷ [])) (moved_to (one_instruction (noted_walk c w w.next.place)) m) 1
  unfolding moved_to one_instruction stand resolve size need code encode spare
  lays_variable m h f =
      let c = cell_of text names w.next in
      rw (noted_is c w w.next.place)
      (lays (agrees_one variable (λ k e. record { code = refl; need = refl; numbers = sym (emit_one table w.code (load_stack k) ∙ rw e) }) (used (name_of text w.next)) (stand text names w) (agrees_used text names f w.next w))
      (omega arith) f (kept_all names))

  pub lays_input : (m : Lexeme) → w.next.place < m.place → Sound names → let c = cell_of text names w.next in
      Lays text names table w (input (name_of text w.next)) names (put (put table w.code (pos 16 ∷ pos 0 ∷ [])) (w.code + 1) (pos 4 ∷ pos (cell_number c) ∷ [])) (moved_to (one_instruction (noted_walk c (one_instruction w) w.next.place)) m) 1
  unfolding moved_to one_instruction stand resolve size need code encode spare
  lays_input m h f =
      let c = cell_of text names w.next in
      rw (noted_is c (one_instruction w) w.next.place)
      (lays (agrees_one input (λ k e. rw e (laid_pair (input k) read (store_stack k) (omega arith) refl refl refl)) (used (name_of text w.next)) (stand text names w) (agrees_used text names f w.next (one_instruction w)))
      (omega arith) f (kept_all names))

  pub lays_assign : {table' : List ℤ} {v : Walk} {g : ℕ} {x : Sen Name expression} (l m : Lexeme) → w.next.place ≤ m.place → Sound names → let c = cell_of text names l in
      Lays text names table (moved_to (noted_walk c w l.place) m) x names table' v g → Lays text names table w (assign (name_of text l) x) names (put table' v.code (pos 4 ∷ pos (cell_number c) ∷ [])) (one_instruction v) g
  unfolding moved_to one_instruction stand resolve size need code encode spare
  lays_assign {x} l m h f p =
      let c = cell_of text names l in
      let q = rw (noted_is c w l.place) at p in
      lays (agrees_two assign (λ k y e r. rw e (laid_more (assign k y) (store_stack k) refl refl refl refl r)) (used (name_of text l)) (resolve (room names) x) (stand text names w) (agrees_used text names f l w) (agrees q))
      (omega (arith, q.small)) f (kept_all names)

-- ---- a declaration

-- the walk after it has the same place and code
pub declared_is : (names : List ℕ) (w : Walk) → declared_walk names w ≡ record { next = w.next; code = w.code; fault = (declared_walk names w).fault }
unfolding declared_walk
declared_is names w = by (ltb (counts names).declared (room names))
  where
    by : (b : Bool) → cond b w (faulted_walk w (record { why = TooManyDeclared; place = w.next.place })) ≡ record { next = w.next; code = w.code; fault = (cond b w (faulted_walk w (record { why = TooManyDeclared; place = w.next.place }))).fault }
    by true = refl
    by false = unfold faulted_walk in refl

module _ (names : List ℕ) (sound : Sound names) (w : Walk) (text : List ℕ) where
  abbrev names_after : List ℕ
  names_after = declared_in names w.next.place w.next.end

  abbrev as_found : Option Refused → Walk
  as_found f = record { next = w.next; code = w.code; fault = f }

  agrees_declared : Agrees (λ k. (counts names).next_cell ≡ k) (stand text names_after (declared_walk names w)) (pass (stand text names w) (declared_here (room names) (name_of text w.next)))
  unfolding stand declared_walk
  agrees_declared = by (ltb (counts names).declared (room names)) refl w.fault
    where
      by : (b : Bool) → ltb (counts names).declared (room names) ≡ b → (f : Option Refused) →
          Agrees (λ k. (counts names).next_cell ≡ k) (standing (cond b (as_found f) (faulted_walk (as_found f) (record { why = TooManyDeclared; place = w.next.place }))).fault (scope_in text names_after)) (pass (standing f (scope_in text names)) (declared_here (room names) (name_of text w.next)))
      by true h None = unfold standing pass name_of in
          gives (record { what = (counts names).next_cell; scope = scope_in text names_after }) (declared_given names w.next.place w.next.end sound (ltb-true (counts names).declared (room names) h) text (name_of text w.next) refl) refl refl
      by false h None = unfold faulted_walk first_fault standing pass name_of in
          refuses TooManyDeclared w.next.place (declared_too_many names w.next.place w.next.end sound (ltb-false (counts names).declared (room names) h) text (name_of text w.next)) refl
      by true h (Some e) = unfold standing pass in refuses e.why e.place refl refl
      by false h (Some e) = unfold faulted_walk first_fault standing pass in refuses e.why e.place refl refl

module _ {text names : List ℕ} {table : List ℤ} {w : Walk} where
  pub lays_declare : (m : Lexeme) → w.next.place < m.place → Sound names →
      Lays text names table w (declare (name_of text w.next)) (declared_in names w.next.place w.next.end) (put (put table w.code (pos 2 ∷ pos 0 ∷ [])) (w.code + 1) (pos 4 ∷ pos (counts names).next_cell ∷ [])) (moved_to (declared_walk names (one_instruction (one_instruction w))) m) 1
  unfolding moved_to one_instruction stand resolve size need code encode spare
  lays_declare m h f =
      let y = one_instruction (one_instruction w) in
      let c = ap (λ (v : Walk). v.code) (declared_is names y) in
      lays (agrees_one declare (λ k e. rw (← e) (laid_pair (declare (counts names).next_cell) (push_int (pos 0)) (store_stack (counts names).next_cell) (omega (arith, c)) refl refl refl))
      (declared_here (room names) (name_of text w.next)) (stand text names w) (agrees_declared names f y text))
      (omega (arith, c)) (declared_sound names w.next.place w.next.end f) (declared_kept names w.next.place w.next.end f)

-- ---- a scope

-- what is known inside a scope, once it is closed, in the scope s around it
abbrev outside : {A : Type 0} → N.Scope → Known A → Answer (Known A)
outside s a = given (record { what = a.what; scope = closed s a.scope })

module _ {A : Type 0} {P : A → Type 0} (m : Naming A) (s t : N.Scope) where
  agrees_scoped : (f h : Option Refused) → Agrees P (standing h t) (pass (standing f (opened s)) m) → Agrees P (standing h (closed s t)) (pass (standing f s) (scoped m))
  unfolding standing pass scoped
  agrees_scoped None None (gives r e d p) = let j : t ≡ r.scope = cc in gives (record { what = r.what; scope = closed s r.scope }) (ap (λ o. pass o (outside s)) e) (ap (λ u. given (closed s u)) j) p
  agrees_scoped None None (refuses why i e d) = never d
  agrees_scoped None (Some _) (gives r e d p) = never (sym d)
  agrees_scoped None (Some _) (refuses why i e d) = refuses why i (ap (λ o. pass o (outside s)) e) d
  agrees_scoped (Some _) h (gives r e d p) = never (sym e)
  agrees_scoped (Some _) None (refuses why i e d) = never d
  agrees_scoped (Some _) (Some _) (refuses why i e d) = refuses why i e d

-- what was read inside it, once it is closed: what it declared has vanished, and all else is as it was read
module _ {k : Kind} {text names names' : List ℕ} {table table' : List ℤ} {w v : Walk} {g : ℕ} {x : Sen Name k} (f : Sound names) (few : (counts names).blocks < 1000000) (p : Lays text (opened_in names) table w x names' table' v g) where
  agrees_closed : Agrees (Laid table table' w v g) (stand text (closed_in names' (counts names)) v) (pass (stand text names w) (scoped (resolve (room names) x)))
  unfolding stand
  agrees_closed =
      let long : room (opened_in names) ≡ room names = ap (λ (n : ℕ). (n - 5) / 4) (opened_long names f few) in
      rw (closed_scope_in names f few names' p.kept p.sound text)
      (agrees_scoped (resolve (room names) x) (scope_in text names) (scope_in text names') w.fault v.fault (rw (opened_scope_in names f few text, long) at (agrees p)))

  lays_closed : {l : Kind} {z : Sen Name l} {u y : Walk} {d : ℕ} {before after : List ℤ} → Led text names before u z (closed_in names' (counts names)) after y d → Small l u y d → Lays text names before u z (closed_in names' (counts names)) after y d
  lays_closed a s = lays a s (closed_sound names f few names' p.kept p.sound) (closed_kept names f few names' p.kept p.sound)

module _ {text names names' : List ℕ} {table table' : List ℤ} {w v : Walk} {g : ℕ} {x : Sen Name commands} where
  pub lays_block : Sound names → (counts names).blocks < 1000000 → Lays text (opened_in names) table w x names' table' v g → (m : Lexeme) → v.next.place ≤ m.place → Lays text names table w (block x) (closed_in names' (counts names)) table' (moved_to v m) g
  unfolding moved_to stand resolve size need code spare
  lays_block f few p m h =
      lays_closed f few p
      (agrees_one block (λ y q. record { code = q.code; need = q.need; numbers = q.numbers }) (scoped (resolve (room names) x)) (stand text names w) (agrees_closed f few p))
      (omega (arith, p.small))

-- the body of an IF or a WHILE, after the condition
module _ {text names names' : List ℕ} {table table₁ table₂ : List ℤ} {w c v : Walk} {g h : ℕ} {x : Sen Name condition} {y : Sen Name command} where
  pub lays_guarded : (again : Bool) → (counts names).blocks < 1000000 → (m : Lexeme) → c.next.place < m.place → Lays text names table w x names table₁ c g → Lays text (opened_in names) table₁ (one_instruction (moved_to c m)) y names' table₂ v h →
      Lays text names table w (guarded again x y) (closed_in names' (counts names)) (put (ended_table again table₂ v.code w.code) c.code (pos 6 ∷ pos (ended_walk again v).code ∷ [])) (ended_walk again v) (max g h)
  unfolding moved_to one_instruction ended_walk ended_table guarded stand resolve spare
  lays_guarded true few m i p q =
      lays_closed p.sound few q
      (agrees_two while (λ a b s t. laid_guarded {x = a} {y = b} m s t true) (resolve (room names) x) (scoped (resolve (room names) y)) (stand text names w) (agrees p) (agrees_closed p.sound few q))
      (omega (arith, p.small, q.small))
  lays_guarded false few m i p q =
      lays_closed p.sound few q
      (agrees_two when (λ a b s t. laid_guarded {x = a} {y = b} m s t false) (resolve (room names) x) (scoped (resolve (room names) y)) (stand text names w) (agrees p) (agrees_closed p.sound few q))
      (omega (arith, p.small, q.small))

-- ---- what the next reader may be called with

module _ {text names : List ℕ} {w : Walk} {allow : ℕ} where
  -- after a use of a name
  pub ready_noted : Ready text names w allow → (cell : Option ℕ) (place : ℕ) → Ready text names (noted_walk cell w place) allow
  ready_noted r cell place = rw (noted_is cell w place) (record { stands = r.stands; short = r.short; code = r.code; sound = r.sound; allowed = r.allowed })

  -- where a scope opens
  pub ready_opened : Ready text names w (suc allow) → Ready text (opened_in names) w allow
  ready_opened r =
      let few : (counts names).blocks < 1000000 = omega (arith, r.allowed) in
      record {
        stands = r.stands;
        short = r.short;
        code = r.code;
        sound = opened_sound names r.sound few;
        allowed = omega (arith, r.allowed, ap (λ (c : held.Scope). c.blocks) (opened_counts names r.sound few));
      }
