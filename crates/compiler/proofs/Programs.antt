-- How a whole Program is read: a law for each way that its reader comes to an answer. Assumes nothing.
use mathlib.Core.Path.{◌≡◌, subst}
use mathlib.Core.List.{List}
use Prim.Native.Nat.{ℕ, ◌≤◌}
use native.Mathlib.Nat.{le_refl}
use native.Mathlib.Omega.{arith}
use lib.IntN.{ℤ}
use Rattle.std.specs.Prelude.{Err}
use Rattle.base.specs.declared.Refused.{Refused}
use Rattle.base.specs.declared.Refusal.TheVariants.{NoProgram}
use Rattle.base.specs.Answers.{refused}
use Rattle.lexeme.specs.Lexemes.{Placed, DO, end}
use Rattle.lexeme.specs.inner.Coded.{code_of, fixed_number, Ahead}
use Rattle.lexeme.specs.declared.Lexeme.{Lexeme}
use Rattle.lexeme.proofs.Decoded.{number_fixed}
use Rattle.sentence.proofs.Reader.{want_command, read}
use Rattle.names.proofs.Held.{nothing_sound, count_none}
use Rattle.compiler.specs.declared.walk.Walk.{Walk}
use Rattle.compiler.specs.inner.Steps.{start_at, moved_to, Lost, Past, Crossed, Expects}
use Rattle.compiler.specs.inner.Walks.{Refuses, Lays, Ready, Got, SetOut, FromStart, Ran, command_way}
use Rattle.compiler.proofs.Reading.{met}
use Rattle.compiler.proofs.Commands.{program_read, program_unended, program_refused, no_program}
use Rattle.compiler.proofs.Replies.{ready_past}
use Rattle.compiler.proofs.Lays.{lead}

-- ---- the first lexemes

-- no lexeme stands first, so that the text has no lexemes
pub not_lexed : (text : List ℕ) (place limit : ℕ) {e : Refused} → Lost text (start_at place).next e → (ls : List Placed) → FromStart text ls → read limit ls ≡ refused e.why e.place
unfolding FromStart
not_lexed text place limit x ls f = let h = f.1 in let z : ◌≡◌ {A = ℕ} 0 1 = cc in absurd (omega arith)

-- the walk w stands before the first lexeme
ahead : {text : List ℕ} {place : ℕ} {w : Walk} → Past text (start_at place) w → (ls : List Placed) → FromStart text ls → Ahead text w.next ls
unfolding FromStart
ahead {text} {w} first ls f = let h = f.1 in let e : f.0 ≡ w.next = cc first.follows.read in subst (λ (l : Lexeme). Ahead text l ls) e f.2

-- no DO
pub not_begun : {text : List ℕ} {place : ℕ} (limit : ℕ) {w : Walk} {e : Refused} → Past text (start_at place) w → Expects text w (code_of DO) (Err e) → (ls : List Placed) → FromStart text ls → read limit ls ≡ refused e.why e.place
not_begun limit {w} first x ls f = no_program limit w first.follows.stands x ls (ahead first ls f)

-- the walk x stands after DO, the first lexeme
pub record Begun (text names : List ℕ) (place : ℕ) (x : Walk) : Type 0 where
  pub set_out : SetOut text names place
  pub start : Walk
  pub first : Past text (start_at place) start
  pub its_DO : Crossed text start (code_of DO) x

pub begun : {text names : List ℕ} {place : ℕ} {w x : Walk} → SetOut text names place → Past text (start_at place) w → Crossed text w (code_of DO) x → Begun text names place x
begun o first d = record { set_out = o; start = _; first = first; its_DO = d }

module _ {text names : List ℕ} {place : ℕ} {x : Walk} (b : Begun text names place x) (limit : ℕ) where
  -- the Command may be read
  pub begun_ready : limit ≤ 1000000 → Ready text names x limit
  unfolding moved_to
  begun_ready most = ready_past started limit (le_refl limit) b.its_DO.past
    where
      started : Ready text names b.start limit
      started =
          rw b.first.moved
          (record { stands = b.first.follows.stands; short = b.set_out.short; code = omega (arith, b.set_out.code); sound = nothing_sound names b.set_out.none b.set_out.head b.set_out.size; allowed = omega (arith, count_none names b.set_out.none (λ s. s.blocks)) })

  pub command_refused : {e : Refused} → Refuses want_command text x.next limit e.why e.place → (ls : List Placed) → FromStart text ls → read limit ls ≡ refused e.why e.place
  command_refused q ls f = program_refused limit b.first.follows.stands (met b.its_DO) q ls (ahead b.first ls f)

  module _ {names' : List ℕ} {table table' : List ℤ} {v : Walk} {n : ℕ} (its_command : Got command_way text names table x limit names' table' v n) where
    -- no end after the Command
    pub not_ended : (fixed_number v.next.kind ≡ code_of end → ⊥) → (ls : List Placed) → FromStart text ls → read limit ls ≡ refused NoProgram v.next.place
    not_ended h ls f = program_unended limit b.first.follows.stands (met b.its_DO) its_command.what its_command.passed h ls (ahead b.first ls f)

    -- the walk from the start of the text
    laid : Lays text names table (start_at place) its_command.what names' table' v n
    laid =
        lead b.start.next (omega arith)
        (subst from b.first.moved (lead x.next (omega (arith, b.first.follows.stands.order, b.its_DO.past.follows.later)) (subst from b.its_DO.past.moved its_command.laid)))
      where
        from : Walk → Type 0
        from u = Lays text names table u its_command.what names' table' v n

    pub whole_read : fixed_number v.next.kind ≡ code_of end → Ran limit text names table place names' table' v n
    whole_read h = record {
      tree = its_command.what;
      reads = λ ls f. program_read limit b.first.follows.stands (met b.its_DO) its_command.what its_command.passed (number_fixed v.next.kind end h) h ls (ahead b.first ls f);
      lays = laid;
      within = omega (arith, its_command.passed.stands.order, its_command.passed.stands.within);
    }
