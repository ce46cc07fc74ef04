-- The definitions compute: once the limits are the constants, both sides are the same.
use mathlib.Core.Path.{refl}
use Rattle.base.specs.Answers as Answers
use Rattle.base.specs.Bytes as Bytes
use Rattle.lexeme.specs.inner.Coded as Coded
use Rattle.lexeme.specs.Lexemes as Lexemes
use Rattle.sentence.specs.Sentences as Sentences
use Rattle.sentence.proofs.Reader as Reader
use Rattle.names.specs.Names as Names
use Rattle.numbers.specs.Numbers as Numbers
use Rattle.instruction.specs.Instructions as Instructions
use Rattle.rules.specs.Machine as Machine
use Rattle.meaning.specs.Layout as Layout
use Rattle.meaning.specs.Meaning as Meaning
use Rattle.compiler.specs.Compiled as Compiled
use Rattle.compiler.specs.inner.Measured as Measured
use Rattle.compiler.proofs.Judging as Judging
use Rattle.kit.specs.Kit as Kit
use Rattle.bench.proofs.Rows as Rows
use Rattle.bench.proofs.Rows.{rows}
use Rattle.bench.specs.Examples as Examples
use Rattle.bench.proofs.yield_as_expected.Goals as goal

pub returns : goal.returns
returns c =
    unfold
    Answers.number Answers.pass
    Bytes.bytes_from Bytes.bytes Bytes.separator Bytes.small Bytes.capital Bytes.letter Bytes.digit Bytes.letter_or_digit Bytes.no_quote Bytes.run Bytes.begins Bytes.all Bytes.same Bytes.value
    Coded.code_of
    Lexemes.found Lexemes.keywords Lexemes.capital_word Lexemes.word Lexemes.string_at Lexemes.symbols Lexemes.symbol Lexemes.colon Lexemes.here Lexemes.next Lexemes.too_large Lexemes.sized Lexemes.lexemes_from Lexemes.lexemes
    Sentences.program Sentences.program_nestings
    Reader.depth Reader.is Reader.on Reader.on_lit Reader.on_name Reader.on_string Reader.on_sign Reader.on_mul Reader.on_rel Reader.got_factor Reader.at_factor Reader.at_expression Reader.at_condition Reader.at_command Reader.at_command_or_brace Reader.after_command Reader.after_condition Reader.whole_expression Reader.after_expression Reader.whole_term Reader.after_term Reader.step Reader.verdict Reader.read_from Reader.read
    Names.◌>>=◌ Names.give Names.look_up Names.used Names.one_more Names.declared_here Names.opened Names.closed Names.scoped Names.resolve Names.resolved
    Numbers.in_range Numbers.is_false Numbers.truth Numbers.calculate Numbers.negation Numbers.digits Numbers.decimal
    Instructions.alone Instructions.natural Instructions.halting Instructions.opcode Instructions.operation Instructions.decode Instructions.number Instructions.encode Instructions.numbers Instructions.effect
    Machine.string Machine.closed Machine.reading Machine.one_used Machine.printed Machine.peek Machine.poke Machine.pushed Machine.left_with Machine.jumped Machine.resulting Machine.taken Machine.written Machine.pairs Machine.names_well Machine.prints Machine.does Machine.tried Machine.decoded Machine.fetched Machine.step Machine.run Machine.report Machine.whole_run Machine.stack_after Machine.room_after
    Meaning.after Meaning.◌>>=◌ Meaning.◌>>◌ Meaning.give Meaning.end_with Meaning.unit Meaning.result Meaning.value_of Meaning.assigned Meaning.signed_value Meaning.rounds Meaning.next_reading Meaning.write Meaning.mean Meaning.declarations Meaning.program Meaning.meaning
    Layout.code Layout.program_code Layout.need Layout.program_need
    Compiled.code_of_text Compiled.need_of Compiled.over_cells Measured.at_most Measured.measured Judging.short_enough Judging.judged Kit.worked_out
    Examples.yield Examples.by_machine Examples.by_sentences Rows.machine_row Rows.sentences_row
    in rows _ _ refl refl
