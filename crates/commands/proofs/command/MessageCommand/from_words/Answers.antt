use Rattle.std.proofs.Common.{ap, ◌∙◌}
use Rattle.std.specs.Option.{option_map}
use Rattle.commands.proofs.WordLemmas.{compared, header_word, limit_named, one_word, two_words, no_word, many_words}
use Rattle.commands.specs.Limit.{limit_of}
use Rattle.commands.specs.declared.command.MessageCommand.TheVariants as commands
use Rattle.commands.proofs.command.MessageCommand.from_words.Goals as goal

pub returns-in-len1 : goal.returns-in-len1
returns-in-len1 c =
    header_word c.args.words.now c.in-len1.len_at_least c.in-len1.len_below
    (compared c.word-item.is c.as_str.ensures.value c.eq.ensures c.if-eq.true)

pub returns-in-len1-2 : goal.returns-in-len1-2
returns-in-len1-2 c =
    one_word c.args.words.now c.in-len1.len_at_least c.in-len1.len_below
    (compared c.word-item.is c.as_str.ensures.value c.eq.ensures c.if-eq.false)
    (compared c.word-item-then-words-lt2.is c.as_str-then-words-lt2.ensures.value c.eq-then-words-lt2.ensures
    c.if-eq-2.true)

pub returns-in_default-2 : goal.returns-in_default-2
returns-in_default-2 c =
    one_word c.args.words.now c.in-len1.len_at_least c.in-len1.len_below
    (compared c.word-item.is c.as_str.ensures.value c.eq.ensures c.if-eq.false)
    (compared c.word-item-then-words-lt2.is c.as_str-then-words-lt2.ensures.value c.eq-then-words-lt2.ensures
    c.if-eq-2.false)

pub returns-in_default-3 : goal.returns-in_default-3
returns-in_default-3 c =
    two_words c.args.words.now c.in-len2.len_at_least c.in-len2.len_below
    (compared c.word-item-then-words-lt3.is c.as_str-then-words-lt3.ensures.value c.eq-then-words-lt3.ensures
    c.if-eq-3.false) c.number-item.is

pub returns-in_default : goal.returns-in_default
returns-in_default c = no_word c.args.words.now c.in_default.len_below

pub returns-in-len2 : goal.returns-in-len2
returns-in-len2 c =
    limit_named c.limit.result c.map.result c.map.ensures.cases
    ∙ ap (option_map commands.Cut) (c.limit.ensures ∙ ap limit_of c.as_str-in-len2.ensures.value)
    ∙ two_words c.args.words.now c.in-len2.len_at_least c.in-len2.len_below
    (compared c.word-item-then-words-lt3.is c.as_str-then-words-lt3.ensures.value c.eq-then-words-lt3.ensures
    c.if-eq-3.true) c.number-item.is

pub returns-in_default-4 : goal.returns-in_default-4
returns-in_default-4 c = many_words c.args.words.now c.in_default.len_at_least
