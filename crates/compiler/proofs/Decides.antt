-- What the bytes and the sentences of a text decide: a law for each answer of `judge` and `compile`, and for the table that is left. Assumes nothing.
use mathlib.Core.Path.{◌≡◌, refl, sym, ap, ◌∙◌}
use mathlib.Core.List.{List, [], ◌∷◌, ◌++◌}
use mathlib.Core.Bool.{Bool, true, false, cond}
use Prim.Native.Nat.{ℕ, ◌+◌, ◌*◌, ◌/◌, ◌≤◌, ◌<◌}
use native.Mathlib.Nat.{sub-zero, zero-add}
use native.Mathlib.Omega.{arith}
use borrow.Author.Tests.{ltb-true, ltb-false}
use lib.Dec.{ltb}
use lib.IntN.{ℤ, pos}
use lib.ListN.{length, replicate, length-replicate}
use Rattle.limits.specs.Limits.{Limits}
use Rattle.base.specs.declared.Refusal.{Refusal}
use Rattle.base.specs.declared.Refusal.TheVariants.{TooLong, TooMuchCode}
use Rattle.base.specs.declared.Refused.{Refused}
use Rattle.std.specs.Prelude.{Option, Some, None, Result, Ok, Err}
use Rattle.base.specs.Answers as A
use Rattle.base.specs.Answers.{given, refused, pass}
use Rattle.lexeme.specs.Lexemes.{Name, Placed, Sizes, lexemes}
use Rattle.lexeme.specs.inner.Coded.{scanned}
use Rattle.lexeme.specs.declared.Lexeme.{Lexeme}
use Rattle.lexeme.proofs.Ahead.{lexemes_ahead}
use Rattle.sentence.specs.Sentences.{Sen, command}
use Rattle.sentence.proofs.Reader.{read}
use Rattle.sentence.proofs.Refusals.{accepts}
use Rattle.names.specs.Names.{Scope, Known, resolved}
use Rattle.names.specs.inner.Held.{counts, no_counts, with_counts, room, scope_in}
use Rattle.names.proofs.Held.{nothing_scope, with_long, with_is}
use Rattle.instruction.specs.Instructions.{halt, push_int, encode}
use Rattle.meaning.specs.Layout.{need, code, program_code, program_need}
use Rattle.meaning.proofs.Sizes.{size}
use Rattle.meaning.proofs.Laid.{laid_program}
use Rattle.compiler.specs.declared.walk.Walk.{Walk}
use Rattle.tables.specs.declared.Counts.{Counts}
use Rattle.compiler.specs.Answers.{answered, Compiles}
use Rattle.compiler.specs.Compiled as C
use Rattle.compiler.specs.Compiled.{code_of_text, need_of, over_cells, Lexed, Judged, too_long, no_lexemes, accepted, Compiled, no_code, no_room, fits, WithAnswer, table_after}
use Rattle.compiler.specs.inner.Measured.{at_most, measured, Measured, Written}
use Rattle.compiler.specs.inner.Steps.{start_at}
use Rattle.tables.specs.inner.Settled.{settled_by}
use Rattle.tables.specs.inner.Tables.{put, emit, opening}
use Rattle.tables.specs.Filled.{filled}
use Rattle.compiler.specs.inner.Walks.{standing, stand, named, scope_of, Laid, spare, SetOut, Counted, FromStart, Ran}
use Rattle.tables.proofs.Emits.{emit_append, emit_one}
use Rattle.compiler.proofs.Emits.{emit_code}
use Rattle.tables.proofs.Filled.{filled_by_code}
use Rattle.compiler.proofs.Lays.{never}
use Rattle.compiler.proofs.Judging.{measured_so}

-- ---- the list, where nothing is declared yet

module _ (names : List ℕ) {names' : List ℕ} (begins : names' ≡ with_counts names no_counts) where
  as_long : length names' ≡ length names
  as_long = rw begins (with_long names no_counts)

  pub set_out : {text : List ℕ} {place : ℕ} → length text ≤ 1000000 → place ≤ 1000000 → 5 ≤ length names → length names ≤ 1000000 → SetOut text names' place
  set_out short low head size = record { short = short; code = low; head = omega (arith, as_long); size = omega (arith, as_long); none = rw begins (with_is names no_counts head) }

  -- what it has room for is the limit
  module _ (limit : ℕ) (long : length names ≡ 5 + limit * 4) where
    room_is : room names' ≡ limit
    room_is = omega (arith, as_long)

    pub measured_within : (nesting instructions : ℕ) (text : List ℕ) (a : Result Counts Refused) → Measured nesting (room names') instructions text a → Measured nesting limit instructions text a
    measured_within nesting instructions text a m = rw room_is at m

    pub written_within : (nesting : ℕ) (text : List ℕ) (cells : ℕ) (table table' : List ℤ) → Written nesting (room names') text cells table table' → Written nesting limit text cells table table'
    written_within nesting text cells table table' w = rw room_is at w

-- ---- the Program

from_start : (text : List ℕ) (sizes : Sizes) (ls : List Placed) → sizes.literal ≤ 2147483647 → lexemes sizes text ≡ given ls → FromStart text ls
unfolding FromStart
from_start text sizes ls small lx = lexemes_ahead sizes text ls small lx

-- its counts are in the range of the code's numbers
pub counted : {limit place : ℕ} {text names names' : List ℕ} {table table' : List ℤ} {v : Walk} {n : ℕ} → SetOut text names place → Ran limit text names table place names' table' v n → Counted (counts names').cells v n
unfolding spare
counted o q =
    let s = q.lays.sound in
    record { few = omega (arith, s.cells, s.declared, s.size); code = omega (arith, q.lays.small.code, q.within, o.short, o.code); need = omega (arith, q.lays.small.need, q.within, o.short) }

-- a tree that was named with no fault, and the walk's counts of its code
record Settled (limit : ℕ) (tree : Sen Name command) (place cells : ℕ) (v : Walk) (g : ℕ) : Type 0 where
  known : Known (Sen ℕ command)
  are_known : resolved limit tree ≡ given known
  cells_are : known.scope.cells ≡ cells
  size_is : v.code ≡ place + size known.what
  need_is : g ≡ need known.what

-- nothing is declared where a Program begins, so that its names are those of the definition
module _ {limit : ℕ} {text names names' : List ℕ} {table table' : List ℤ} {place : ℕ} {v : Walk} {g : ℕ} (o : SetOut text names place) (q : Ran limit text names table place names' table' v g) where
  naming : stand text names' v ≡ pass (resolved (room names) q.tree) scope_of
  unfolding named pass stand standing resolved
  naming = rw (nothing_scope names o.none text) at q.lays.naming

  laying : (k : Known (Sen ℕ command)) → resolved (room names) q.tree ≡ given k → Laid table table' (start_at place) v g k.what
  unfolding named pass stand standing resolved
  laying = rw (nothing_scope names o.none text) at q.lays.laying

  unnamed : {e : Refused} → v.fault ≡ Some e → resolved (room names) q.tree ≡ refused e.why e.place
  unfolding pass scope_of stand standing
  unnamed {e} f = by (resolved (room names) q.tree) (rw f at naming)
    where
      by : (a : A.Answer (Known (Sen ℕ command))) → refused e.why e.place ≡ pass a scope_of → a ≡ refused e.why e.place
      by (given k) h = never (sym h)
      by (refused k p) h = cc

  settled : v.fault ≡ None → Settled (room names) q.tree place (counts names').cells v g
  unfolding pass scope_of stand standing scope_in
  settled f = by (resolved (room names) q.tree) refl (rw f at naming)
    where
      by : (a : A.Answer (Known (Sen ℕ command))) → resolved (room names) q.tree ≡ a → given (scope_in text names') ≡ pass a scope_of → Settled (room names) q.tree place (counts names').cells v g
      by (given k) e h =
          let l = laying k e in
          let s : scope_in text names' ≡ k.scope = cc in
          record { known = k; are_known = e; cells_are = ap (λ (t : Scope). t.cells) (sym s); size_is = l.code; need_is = l.need }
      by (refused k p) e h = never h

-- ---- the table

-- the cells, the Command and the end, as the code writes them
whole_written : (table : List ℤ) (cells : ℕ) (y : Sen ℕ command) → put (emit (opening cells table) cells (code cells y)) (cells + size y) (encode (halt 0) []) ≡ emit table 0 (program_code cells y)
unfolding program_code opening encode
whole_written table cells y =
    let o = replicate cells (push_int (pos 0)) in
    sym (emit_append table 0 o (code cells y ++ halt 0 ∷ []) ∙ rw (length-replicate, zero-add) (emit_code (emit table 0 o) cells y (halt 0 ∷ []) ∙ emit_one (emit (emit table 0 o) cells (code cells y)) (cells + size y) (halt 0)))

module _ (limit : ℕ) (text names : List ℕ) (table : List ℤ) (cells : ℕ) (table' : List ℤ) where
  pub not_written : {e : Refused} → ((ls : List Placed) → FromStart text ls → read limit ls ≡ refused e.why e.place) → Written limit (room names) text cells table table'
  unfolding Written
  not_written d sizes ls m k small lx rd rs c = never (sym rd ∙ d ls (from_start text sizes ls small lx))

  pub written : {names' : List ℕ} {v : Walk} {n : ℕ} → SetOut text names cells → Ran limit text names (opening cells table) cells names' table' v n → Written limit (room names) text cells table (put table' v.code (encode (halt 0) []))
  unfolding Written
  written o q sizes ls m k small lx rd rs c =
      let t : given q.tree ≡ given m = sym (q.reads ls (from_start text sizes ls small lx)) ∙ rd in
      let same : q.tree ≡ m = cc in
      let l = laying o q k (rw same rs) in
      rw (l.code, l.numbers) (whole_written table cells k.what)

-- ---- what the sentences decide

-- by 8, or by none: the walk's counts are those of the code
sized : (limit cells : ℕ) (v : Walk) (g : ℕ) (y : Sen ℕ command) → v.code ≡ size y → g ≡ need y → settled_by limit cells v.code (cells + g) None ≡ answered (at_most limit (record { command = y; cells = cells }))
unfolding settled_by at_most code_of_text need_of answered program_need
sized limit cells v g y s n = rw long (by (ltb limit m))
  where
    m : ℕ
    m = cells + v.code + 1

    long : length (program_code cells y) ≡ m
    long = (laid_program cells y).long ∙ omega arith

    by : (b : Bool) → cond b (Err (record { why = TooMuchCode; place = 0 })) (Ok (record { instructions = m; cells = cells; need = cells + g })) ≡ answered (cond b (refused TooMuchCode 0) (given (record { command = y; cells = cells })))
    by true = refl
    by false = rw (long, n)

module _ (nesting instructions : ℕ) (text names : List ℕ) where
  -- by 4 or 5
  pub by_reading : {e : Refused} → ((ls : List Placed) → FromStart text ls → read nesting ls ≡ refused e.why e.place) → Measured nesting (room names) instructions text (Err e)
  unfolding Measured measured pass answered
  by_reading d sizes ls small lx = rw (d ls (from_start text sizes ls small lx))

  -- by 6 or 7, by 8, or by none of them
  pub by_naming : {none : List ℤ} {names' : List ℕ} {none' : List ℤ} {v : Walk} {n : ℕ} → SetOut text names 0 → Ran nesting text names none 0 names' none' v n → (a : Result Counts Refused) → a ≡ settled_by instructions (counts names').cells v.code ((counts names').cells + n) v.fault → Measured nesting (room names) instructions text a
  unfolding Measured measured pass
  by_naming {names'} {v} {n} o q a e sizes ls small lx = rw (q.reads ls (from_start text sizes ls small lx)) (e ∙ by v.fault refl)
    where
      by : (f : Option Refused) → v.fault ≡ f → settled_by instructions (counts names').cells v.code ((counts names').cells + n) f ≡ answered (pass (over_cells (room names) q.tree) (at_most instructions))
      by (Some e) f = unfold settled_by answered over_cells in rw (unnamed o q f)
      by None f = let k = settled o q f in unfold over_cells in rw (k.are_known, k.cells_are) (sized instructions (counts names').cells v n k.known.what (omega (arith, k.size_is)) k.need_is)

-- ---- what the bytes decide

module _ (limits : Limits) (text : List ℕ) where
  abbrev Judges : Result Counts Refused → Type 0
  Judges r = WithAnswer (Judged limits text) (λ a. r ≡ answered a)

  -- by 1
  pub by_length : ltb limits.text (length text) ≡ true → Judges (Err (record { why = TooLong; place = 0 }))
  unfolding answered
  by_length h = record { answer = refused TooLong 0; is_given = too_long (ltb-true _ _ h); so = refl }

  module _ (short : ltb limits.text (length text) ≡ false) where
    -- by 2 or 3
    pub by_bytes : {e : Refused} → Err e ≡ scanned text (lexemes limits.sizes text) → Judges (Err e)
    unfolding scanned answered
    by_bytes {e} scans = record { answer = refused e.why e.place; is_given = no_lexemes (ltb-false _ _ short) (by (lexemes limits.sizes text) scans); so = refl }
      where
        by : (l : A.Answer (List Placed)) → Err e ≡ scanned text l → l ≡ refused e.why e.place
        by (given ls) h = let z : ◌≡◌ {A = ℕ} 0 1 = cc in absurd (omega arith)
        by (refused i q) h = let same : e ≡ record { why = i; place = q } = cc in rw same

    -- by none of them
    pub by_sentences : {l : Lexeme} → Ok l ≡ scanned text (lexemes limits.sizes text) → limits.sizes.literal ≤ 2147483647 → (a : Result Counts Refused) → Measured limits.nesting limits.declarations limits.instructions text a → Judges a
    unfolding scanned Measured
    by_sentences {l} scans small a m = by (lexemes limits.sizes text) refl scans
      where
        by : (x : A.Answer (List Placed)) → lexemes limits.sizes text ≡ x → Ok l ≡ scanned text x → Judges a
        by (given ls) e h =
            let lexed : Lexed limits text ls = record { short = ltb-false _ _ short; are = e } in
            record { answer = measured limits.nesting limits.declarations limits.instructions ls; is_given = measured_so limits text ls lexed; so = m limits.sizes ls small e }
        by (refused i q) e h = let z : ◌≡◌ {A = ℕ} 0 1 = cc in absurd (omega arith)

-- ---- how a text is accepted

-- what was accepted with these counts, and what is so of it
pub record Took (Given So : A.Answer C.Accepted → Type 0) (c : Counts) : Type 0 where
  pub what : C.Accepted
  pub is_given : Given (given what)
  pub so : So (given what)
  pub long : length (code_of_text what) ≡ c.instructions
  pub cells : what.cells ≡ c.cells
  pub need : need_of what ≡ c.need

module _ {Given So : A.Answer C.Accepted → Type 0} (w : WithAnswer Given So) where
  pub took : {c : Counts} → ((a : A.Answer C.Accepted) → So a → Ok c ≡ answered a) → Took Given So c
  unfolding answered
  took {c} says = by w.answer w.is_given w.so (says w.answer w.so)
    where
      by : (a : A.Answer C.Accepted) → Given a → So a → Ok c ≡ answered a → Took Given So c
      by (given x) g s h =
          let same : record { instructions = length (code_of_text x); cells = x.cells; need = need_of x } ≡ c = cc in
          record { what = x; is_given = g; so = s; long = ap (λ (k : Counts). k.instructions) same; cells = ap (λ (k : Counts). k.cells) same; need = ap (λ (k : Counts). k.need) same }
      by (refused why p) g s h = let z : ◌≡◌ {A = ℕ} 0 1 = cc in absurd (omega arith)

  pub refusal : {e : Refused} → ((a : A.Answer C.Accepted) → So a → Err e ≡ answered a) → Given (refused e.why e.place) × So (refused e.why e.place)
  unfolding answered
  refusal {e} says = by w.answer w.is_given w.so (says w.answer w.so)
    where
      by : (a : A.Answer C.Accepted) → Given a → So a → Err e ≡ answered a → Given (refused e.why e.place) × So (refused e.why e.place)
      by (given x) g s h = let z : ◌≡◌ {A = ℕ} 0 1 = cc in absurd (omega arith)
      by (refused k q) g s h = let same : record { why = k; place = q } ≡ e = cc in rw (← same) (g, s)

-- its names were resolved
pub resolves : (limit : ℕ) (m : Sen Name command) {a : C.Accepted} → over_cells limit m ≡ given a → (k : Known (Sen ℕ command)) × (resolved limit m ≡ given k) × (record { command = k.what; cells = k.scope.cells } ≡ a)
unfolding over_cells pass
resolves limit m {a} h = by (resolved limit m) h
  where
    by : (r : A.Answer (Known (Sen ℕ command))) → pass r (λ k. given (record { command = k.what; cells = k.scope.cells })) ≡ given a → (k : Known (Sen ℕ command)) × (r ≡ given k) × (record { command = k.what; cells = k.scope.cells } ≡ a)
    by (given k) e = (k, refl, cc)
    by (refused why p) e = never (sym e)

-- the code may be written
pub may_write : (limits : Limits) (text : List ℕ) {c : Counts} → WithAnswer (Judged limits text) (λ a. Ok c ≡ answered a) → (length text ≤ limits.text) × (c.cells ≤ limits.instructions)
unfolding code_of_text
may_write limits text w = let t = took w (λ a s. s) in by t.is_given t.cells
  where
    by : {a : C.Accepted} {cells : ℕ} → Judged limits text (given a) → a.cells ≡ cells → (length text ≤ limits.text) × (cells ≤ limits.instructions)
    by (accepted {a} n h) e = (n.parsed.lexed.short, omega (arith, (laid_program a.cells a.command).long))

-- ---- what `compile` leaves

module _ (limits : Limits) (text : List ℕ) (n : ℕ) (table : List ℤ) (zeros : table ≡ replicate n (pos 0)) where
  abbrev Leaves : Result Counts Refused → List ℤ → Type 0
  Leaves r table' = WithAnswer (Compiled limits text n) (Compiles n r table')

  -- a refused text leaves the table as it was cleared
  says_refused : {why : Refusal} {p : ℕ} → Compiled limits text n (refused why p) → Leaves (Err (record { why = why; place = p })) table
  unfolding answered table_after filled
  says_refused {why} {p} g = record { answer = refused why p; is_given = g; so = record { answer = refl; numbers = rw (zeros, sub-zero n) } }

  written_so : limits.sizes.literal ≤ 2147483647 → {cells : ℕ} {table' : List ℤ} → Written limits.nesting limits.declarations text cells table table' → {a : C.Accepted} → Judged limits text (given a) → a.cells ≡ cells → length (code_of_text a) ≤ n / 2 → table' ≡ table_after n (given a)
  unfolding Written table_after code_of_text
  written_so small {cells} x (accepted {a} m _) e short =
      let k = resolves limits.declarations m.tree m.are in
      let rd = (accepts limits.nesting m.parsed.from m.tree).1 (m.parsed.whole, m.parsed.shallow) in
      let own : k.0.scope.cells ≡ cells = ap (λ (y : C.Accepted). y.cells) k.2 ∙ e in
      x limits.sizes m.parsed.from m.tree k.0 small m.parsed.lexed.are rd k.1 own ∙ rw (zeros, ← e, ap (λ (y : C.Accepted). y.command) k.2) (filled_by_code n (program_code a.cells a.command) short)

  -- by what `judge` decides
  pub by_judging : {e : Refused} → WithAnswer (Judged limits text) (λ a. Err e ≡ answered a) → Leaves (Err e) table
  by_judging w = says_refused (no_code (refusal w (λ a s. s)).0)

  module _ {c : Counts} (w : WithAnswer (Judged limits text) (λ a. Ok c ≡ answered a)) where
    -- by 8, for want of room
    pub by_room : n / 2 < c.instructions → Leaves (Err (record { why = TooMuchCode; place = 0 })) table
    by_room h = let t = took w (λ a s. s) in says_refused (no_room t.is_given (omega (arith, t.long)))

    pub by_none : c.instructions ≤ n / 2 → limits.sizes.literal ≤ 2147483647 → (table' : List ℤ) → Written limits.nesting limits.declarations text c.cells table table' → Leaves (Ok c) table'
    by_none h small table' x =
        let t = took w (λ a s. s) in
        record { answer = given t.what; is_given = fits t.is_given (omega (arith, t.long)); so = record { answer = t.so; numbers = written_so small x t.is_given t.cells (omega (arith, t.long)) } }
