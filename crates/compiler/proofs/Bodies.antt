-- How the readers of commands go on from what they called: the lexeme that ends a command, an assignment, the first lexeme of a command, the condition before a body, the commands of a block. Assumes nothing.
use mathlib.Core.Path.{◌≡◌, refl, sym, ap, subst}
use mathlib.Core.List.{List, [], ◌∷◌}
use mathlib.Core.Bool.{Bool, true, false}
use Prim.Native.Nat.{ℕ, suc, ◌+◌, ◌≤◌, ◌<◌, max}
use native.Mathlib.Nat.{le_refl}
use native.Mathlib.Omega.{arith}
use lib.IntN.{ℤ, pos}
use Rattle.std.specs.Prelude.{Result, Err}
use Rattle.base.specs.declared.Refused.{Refused}
use Rattle.lexeme.specs.Lexemes.{Name, becomes, ERROR, close_brace}
use Rattle.lexeme.specs.inner.Coded.{code_of, fixed_number, Stands}
use Rattle.lexeme.specs.declared.Kind.TheVariants as kind
use Rattle.lexeme.specs.declared.Lexeme as code
use Rattle.lexeme.proofs.Places.{refused_goes}
use Rattle.sentence.specs.Sentences.{Kind, Sen, expression, command, declare, input, assign, error, block}
use Rattle.sentence.proofs.Reader.{Around, State, want_becomes}
use Rattle.names.specs.inner.Held.{counts, declared_in, opened_in, closed_in}
use Rattle.compiler.specs.declared.walk.Walk.{Walk}
use Rattle.compiler.specs.declared.walk.Read.{Read}
use Rattle.compiler.specs.inner.Steps.{moved_to, one_instruction, Lost, Past, Crossed, Expects, printing_number, cell_of, noted_walk, cell_number, declared_walk, before_body, ended_walk, ended_table}
use Rattle.tables.specs.inner.Tables.{put}
use Rattle.compiler.specs.inner.Walks.{Way, Refuses, name_of, Lays, Ready, First, Got, Reads, ReadsCommand, expression_way, condition_way, command_from, command_way, string_way, declare_way, read_way, assign_way, guarded_way, block_way, block_so_far}
use Rattle.compiler.proofs.Commands.{quoted_printed, name_declared, name_read, assign_leads, no_becomes, guarded_leads, block_more, block_closed, error_read, Starts, begun_leads}
use Rattle.compiler.proofs.Lays.{quoted, guarded, lead, lays_error, lays_quoted, lays_then, ready_body}
use Rattle.compiler.proofs.Looked.{quoted_of, going}
use Rattle.compiler.proofs.Names.{noted_is, declared_is, lays_declare, lays_input, lays_assign, lays_block, lays_guarded, ready_noted, ready_opened}
use Rattle.compiler.proofs.Passes.{lost_first}
use Rattle.compiler.proofs.Reading.{Leads, met}
use Rattle.compiler.proofs.Replies.{led, handed_on, ready_past, counts_got}

-- ---- an advance that ends a construct

-- what follows the lexeme ahead is no lexeme, so that it is not the end
pub lost_ahead : {k : Kind} {start : Around k → State} {text : List ℕ} {l : code.Lexeme} {allow : ℕ} {e : Refused} → Stands text l → Lost text l e → Refuses start text l allow e.why e.place
lost_ahead s e = lost_first (refused_goes s e) e

-- the lexeme ahead of z ends what began at w
module _ {k : Kind} {way : Way k (Sen Name k)} {text names names' : List ℕ} {table table' : List ℤ} {w z v : Walk} {allow n : ℕ} where
  pub passing : Past text z v → Got way text names table w allow names' table' (moved_to z v.next) n → Got way text names table w allow names' table' v n
  passing p g = subst (λ (u : Walk). Got way text names table w allow names' table' u n) (sym p.moved) g

-- ---- a command that the lexeme ahead ends

module _ {text names : List ℕ} {table : List ℤ} {w v : Walk} {allow : ℕ} (ready : Ready text names w allow) where
  pub printed : (line : Bool) → w.next.kind ≡ kind.Str → Past text (one_instruction w) v → Got (string_way line) text names table w allow names (put table w.code (printing_number line ∷ pos (w.next.place + 1) ∷ [])) v 0
  unfolding moved_to one_instruction quoted_of
  printed line h p =
      let q = quoted_printed ready.stands allow line h p.follows in
      passing p (record { what = quoted line (quoted_of text w.next); passed = q; laid = lays_quoted line (quoted_of text w.next) v.next refl q.later ready.sound })

  module _ (h : w.next.kind ≡ kind.Name) where
    pub name_given : Past text (declared_walk names (one_instruction (one_instruction w))) v →
        Got declare_way text names table w allow (declared_in names w.next.place w.next.end) (put (put table w.code (pos 2 ∷ pos 0 ∷ [])) (w.code + 1) (pos 4 ∷ pos (counts names).next_cell ∷ [])) v 1
    unfolding moved_to one_instruction
    name_given p =
        let z = declared_walk names (one_instruction (one_instruction w)) in
        let same : z.next ≡ w.next = ap (λ (y : Walk). y.next) (declared_is names (one_instruction (one_instruction w))) in
        let q = name_declared ready.stands allow h (rw same at p.follows) in
        passing p (record { what = declare (name_of text w.next); passed = q; laid = lays_declare v.next q.later ready.sound })

    pub name_stored : let c = cell_of text names w.next in Past text (one_instruction (noted_walk c (one_instruction w) w.next.place)) v →
        Got read_way text names table w allow names (put (put table w.code (pos 16 ∷ pos 0 ∷ [])) (w.code + 1) (pos 4 ∷ pos (cell_number c) ∷ [])) v 1
    unfolding moved_to one_instruction
    name_stored p =
        let c = cell_of text names w.next in
        let z = one_instruction (noted_walk c (one_instruction w) w.next.place) in
        let same : z.next ≡ w.next = ap (λ (y : Walk). y.next) (noted_is c (one_instruction w) w.next.place) in
        let q = name_read ready.stands allow h (rw same at p.follows) in
        passing p (record { what = input (name_of text w.next); passed = q; laid = lays_input v.next q.later ready.sound })

-- ---- `:=` after the name l, and an Expression

module _ {text names : List ℕ} {w : Walk} {allow : ℕ} (ready : Ready text names w allow) (l : code.Lexeme) where
  -- the walk in which `:=` is expected
  abbrev pub named_walk : Walk
  named_walk = noted_walk (cell_of text names l) w l.place

  named_next : named_walk.next ≡ w.next
  named_next = ap (λ (v : Walk). v.next) (noted_is (cell_of text names l) w l.place)

  pub ready_named : Ready text names named_walk allow
  ready_named = ready_noted ready (cell_of text names l) l.place

  -- it is not met
  pub no_value : {e : Refused} → Expects text named_walk (code_of becomes) (Err e) → Refuses (want_becomes (name_of text l)) text w.next allow e.why e.place
  no_value x = rw named_next at (no_becomes allow (name_of text l) named_walk ready_named.stands x)

  -- the walk x is after it
  module _ {x : Walk} (becomes_met : Crossed text named_walk (code_of becomes) x) where
    pub ready_value : Ready text names x allow
    ready_value = ready_past ready_named allow (le_refl allow) becomes_met.past

    pub value_leads : Leads text w.next x.next allow (assign_way (name_of text l)) allow expression_way (assign (name_of text l))
    value_leads = assign_leads allow (name_of text l) ready.stands (rw named_next at (met becomes_met))

    pub assigned : {table table' : List ℤ} {v : Walk} {n : ℕ} (e : Sen Name expression) → Lays text names table x e names table' v n → Lays text names table w (assign (name_of text l) e) names (put table' v.code (pos 4 ∷ pos (cell_number (cell_of text names l)) ∷ [])) (one_instruction v) n
    unfolding one_instruction
    assigned {table} {table'} {v} {n} e laid =
        lays_assign l x.next (omega (arith, ap (λ (m : code.Lexeme). m.place) named_next, ready.stands.order, ap (λ (m : code.Lexeme). m.end) named_next, becomes_met.past.follows.later)) ready.sound (subst (λ (u : Walk). Lays text names table u e names table' v n) becomes_met.past.moved laid)

-- ---- the first lexeme of a command

module _ {text names : List ℕ} {w x : Walk} {allow : ℕ} (f : First text names w allow x) where
  pub ready_first : {fewer : ℕ} → fewer ≤ allow → Ready text names x fewer
  ready_first {fewer} h = ready_past f.ready fewer h f.past

  -- what is read after it is the command
  pub reads_begun : {deeper : ℕ} {start : Around command → State} → Starts f.ready.stands deeper start → {allow' : ℕ} (table : List ℤ) (q : Result Read Refused) (names' : List ℕ) (table' : List ℤ) → deeper ≤ allow → allow' ≡ allow →
      Reads (command_from start) text names table x allow' q names' table' → ReadsCommand text names table w allow q names' table'
  reads_begun b table q names' table' d e h =
      handed_on (begun_leads f.ready.stands b d e f.past.follows)
      (λ m v g p. lead x.next (omega (arith, f.ready.stands.order, f.past.follows.later)) (subst (λ (u : Walk). Lays text names table u m names' table' v g) f.past.moved p)) q h

  pub error_done : {table : List ℤ} → fixed_number w.next.kind ≡ code_of ERROR → Got command_way text names table w allow names (put table x.code (pos 1 ∷ pos 1 ∷ [])) (one_instruction x) 0
  unfolding moved_to one_instruction
  error_done {table} h =
      let p = error_read f.ready.stands allow h f.past.follows in
      subst (λ (u : Walk). Got command_way text names table w allow names (put table u.code (pos 1 ∷ pos 1 ∷ [])) (one_instruction u) 0) (sym f.past.moved)
      (record { what = error; passed = p; laid = lays_error x.next p.later f.ready.sound })

-- ---- a condition, and the lexeme before the body

-- with fewer nestings allowed
pub ready_inside : {text names : List ℕ} {w : Walk} {allow : ℕ} → Ready text names w (suc allow) → Ready text names w allow
ready_inside r = record { stands = r.stands; short = r.short; code = r.code; sound = r.sound; allowed = omega (arith, r.allowed) }

before_some : (again : Bool) → code_of (before_body again) ≡ 0 → ⊥
unfolding before_body code_of
before_some true z = omega arith
before_some false z = omega arith

-- by the walk from w to c, and after the lexeme to x
pub record Headed (again : Bool) (text names : List ℕ) (table : List ℤ) (w : Walk) (allow : ℕ) (table₁ : List ℤ) (c : Walk) (g : ℕ) (x : Walk) : Type 0 where
  pub ready : Ready text names w (suc allow)
  pub test : Got condition_way text names table w allow names table₁ c g
  pub then : Crossed text c (code_of (before_body again)) x

module _ {again : Bool} {text names : List ℕ} {table table₁ : List ℤ} {w c x : Walk} {g : ℕ} {allow : ℕ} (b : Headed again text names table w allow table₁ c g x) where
  past_head : c.next.place < x.next.place
  past_head = omega (arith, b.test.passed.stands.some (going c.next b.then.number (before_some again)), b.then.past.follows.later)

  pub head_small : x.code < 10000000
  unfolding moved_to
  head_small = omega (arith, ap (λ (u : Walk). u.code) b.then.past.moved, (counts_got b.ready b.test).0)

  -- what the body's reader may be called with
  pub ready_headed : Ready text names (one_instruction x) (suc allow)
  ready_headed = subst (λ (u : Walk). Ready text names (one_instruction u) (suc allow)) (sym b.then.past.moved) (ready_body b.ready b.test.laid x.next past_head b.then.past.follows.stands)

  pub body_leads : Leads text w.next x.next (suc allow) (guarded_way again) allow command_way (guarded again b.test.what)
  body_leads = guarded_leads allow b.test.what b.test.passed again (met b.then)

-- how far the end of the body goes beyond it
ended_code : (again : Bool) (w : Walk) → (ended_walk again w).code ≤ w.code + 1
unfolding ended_walk one_instruction
ended_code true w = le_refl (w.code + 1)
ended_code false w = omega arith

ended_next : (again : Bool) (w : Walk) → (ended_walk again w).next ≡ w.next
unfolding ended_walk one_instruction
ended_next true w = refl
ended_next false w = refl

-- and a body after them, by the walk to y, with the names inside its scope
pub record Bodied (again : Bool) (text names : List ℕ) (table : List ℤ) (w : Walk) (allow : ℕ) (c : Walk) (g : ℕ) (inside : List ℕ) (table₂ : List ℤ) (y : Walk) (h : ℕ) : Type 0 where
  pub table₁ : List ℤ
  pub x : Walk
  pub head : Headed again text names table w allow table₁ c g x
  pub body : Got command_way text (opened_in names) table₁ (one_instruction x) allow inside table₂ y h

module _ {again : Bool} {text names inside : List ℕ} {table table₂ : List ℤ} {w c y : Walk} {g h : ℕ} {allow : ℕ} (b : Bodied again text names table w allow c g inside table₂ y h) where
  pub body_small : y.code < 10000000
  body_small = (counts_got (ready_opened (ready_headed b.head)) b.body).0

  pub end_small : (ended_walk again y).code < 2147483648
  end_small = omega (arith, body_small, ended_code again y)

  pub guarded_read : let u = ended_walk again y in Got (guarded_way again) text names table w (suc allow) (closed_in inside (counts names)) (put (ended_table again table₂ y.code w.code) c.code (pos 6 ∷ pos u.code ∷ [])) u (max g h)
  unfolding one_instruction
  guarded_read =
      let a = b.head in
      record {
        what = guarded again a.test.what b.body.what;
        passed = rw (ended_next again y) ((body_leads a).passes b.body.passed);
        laid = lays_guarded again (omega (arith, a.ready.allowed)) b.x.next (past_head a) a.test.laid (subst (λ (u : Walk). Lays text (opened_in names) b.table₁ (one_instruction u) b.body.what inside table₂ y h) a.then.past.moved b.body.laid);
      }

-- ---- the commands of a block

module _ {text names names' : List ℕ} {table table' : List ℤ} {w v : Walk} {allow n : ℕ} where
  pub so_far_more : (b : Got block_so_far text names table w (suc allow) names' table' v n) → (fixed_number v.next.kind ≡ code_of close_brace → ⊥) → {names₂ : List ℕ} {table₂ : List ℤ} {y : Walk} {m : ℕ} → Got command_way text names' table' v allow names₂ table₂ y m →
      Got block_so_far text names table w (suc allow) names₂ table₂ y (max n m)
  so_far_more b e q = led (block_more _ b.what b.passed e) q (lays_then b.laid q.laid)

  -- the block around them, with its declarations and theirs
  pub so_far_closed : {u : Walk} → Ready text names w (suc allow) → Got block_so_far text (opened_in names) table w (suc allow) names' table' v n → fixed_number v.next.kind ≡ code_of close_brace → Past text v u → Got block_way text names table w (suc allow) (closed_in names' (counts names)) table' u n
  unfolding moved_to
  so_far_closed {u} ready b e p =
      passing p
      (record {
        what = block b.what;
        passed = block_closed allow b.what b.passed e p.follows;
        laid = lays_block ready.sound (omega (arith, ready.allowed)) b.laid u.next (omega (arith, b.passed.stands.order, p.follows.later));
      })
