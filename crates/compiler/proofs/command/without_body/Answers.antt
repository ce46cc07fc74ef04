-- `compiler::command::without_body` meets its contract. Assumes nothing.
use borrow.Author.Rules.{rules}
use mathlib.Core.Path.{◌≡◌, refl}
use native.Mathlib.Nat.{le_refl}
use native.Mathlib.Omega.{arith}
use Rattle.lexeme.specs.inner.Coded.{code_of}
use Rattle.lexeme.specs.declared.Fixed.TheVariants as variant
use Rattle.lexeme.specs.declared.Kind.TheVariants as kind
use Rattle.compiler.specs.inner.Steps.{moved_to}
use Rattle.compiler.proofs.Bodies.{ready_first, reads_begun, error_done}
use Rattle.compiler.proofs.Commands.{begins_assign, begins_declare, begins_print, begins_line, begins_string, begins_read, no_command}
use Rattle.compiler.proofs.Looked.{is_the, is_not_the}
use Rattle.compiler.proofs.Replies.{code_fits}
use Rattle.compiler.proofs.command.without_body.Goals as goal

pub assign-requires : goal.assign-requires
assign-requires c = ready_first c.requires.first (le_refl _)

pub returns-in-Name : goal.returns-in-Name
unfolding moved_to
returns-in-Name c = reads_begun c.requires.first (begins_assign _ c.in-Name.is) _ _ _ _ (omega arith) refl c.assign.ensures

pub emitted-requires : goal.emitted-requires
emitted-requires c = code_fits (ready_first c.requires.first (le_refl _))

pub declare-requires : goal.declare-requires
declare-requires c = ready_first c.requires.first (le_refl _)

pub print_int-requires : goal.print_int-requires
print_int-requires c = ready_first c.requires.first (le_refl _)

pub print_string-requires : goal.print_string-requires
print_string-requires c = ready_first c.requires.first (le_refl _)

pub print_string-requires-in-Fixed-Prints : goal.print_string-requires-in-Fixed-Prints
print_string-requires-in-Fixed-Prints c = ready_first c.requires.first (le_refl _)

pub read-requires : goal.read-requires
read-requires c = ready_first c.requires.first (le_refl _)

pub returns-in-Fixed-Error : goal.returns-in-Fixed-Error
unfolding moved_to code_of
returns-in-Fixed-Error c = rw (c.emitted.ensures.0, c.emitted.ensures.1) (error_done c.requires.first (is_the (let e : c.args.l.kind ≡ kind.Fixed variant.Error = search rules in e)))

pub returns-in-Fixed-Int : goal.returns-in-Fixed-Int
unfolding moved_to code_of
returns-in-Fixed-Int c = reads_begun c.requires.first (begins_declare _ (is_the (let e : c.args.l.kind ≡ kind.Fixed variant.Int = search rules in e))) _ _ _ _ (omega arith) refl c.declare.ensures

pub returns-in-Fixed-Printi : goal.returns-in-Fixed-Printi
unfolding moved_to code_of
returns-in-Fixed-Printi c = reads_begun c.requires.first (begins_print _ (is_the (let e : c.args.l.kind ≡ kind.Fixed variant.Printi = search rules in e))) _ _ _ _ (omega arith) refl c.print_int.ensures

pub returns-in-Fixed-Printlns : goal.returns-in-Fixed-Printlns
unfolding moved_to code_of
returns-in-Fixed-Printlns c = reads_begun c.requires.first (begins_line _ (is_the (let e : c.args.l.kind ≡ kind.Fixed variant.Printlns = search rules in e))) _ _ _ _ (omega arith) refl c.print_string.ensures

pub returns-in-Fixed-Prints : goal.returns-in-Fixed-Prints
unfolding moved_to code_of
returns-in-Fixed-Prints c = reads_begun c.requires.first (begins_string _ (is_the (let e : c.args.l.kind ≡ kind.Fixed variant.Prints = search rules in e))) _ _ _ _ (omega arith) refl c.print_string-in-Fixed-Prints.ensures

pub returns-in-Fixed-Read : goal.returns-in-Fixed-Read
unfolding moved_to code_of
returns-in-Fixed-Read c = reads_begun c.requires.first (begins_read _ (is_the (let e : c.args.l.kind ≡ kind.Fixed variant.Read = search rules in e))) _ _ _ _ (omega arith) refl c.read.ensures

pub returns-in_default : goal.returns-in_default
unfolding moved_to code_of
returns-in_default c = no_command c.requires.first.ready.stands _ c.in_default.not-Name (is_not_the variant.Error (λ e. search rules)) (is_not_the variant.Int (λ e. search rules)) (is_not_the variant.Printi (λ e. search rules)) (is_not_the variant.Printlns (λ e. search rules)) (is_not_the variant.Prints (λ e. search rules)) (is_not_the variant.Read (λ e. search rules)) c.requires.kind_value

pub returns-in_default-2 : goal.returns-in_default-2
unfolding moved_to code_of
returns-in_default-2 c = no_command c.requires.first.ready.stands _ c.in_default.not-Name (is_not_the variant.Error (λ e. search rules)) (is_not_the variant.Int (λ e. search rules)) (is_not_the variant.Printi (λ e. search rules)) (is_not_the variant.Printlns (λ e. search rules)) (is_not_the variant.Prints (λ e. search rules)) (is_not_the variant.Read (λ e. search rules)) c.requires.kind_value
