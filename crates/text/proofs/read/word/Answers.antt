-- The answers to the goals of `text::read::word`. Assumes nothing.
use Rattle.std.proofs.Common.{rules}
use Rattle.text.specs.Texts.{word_by, word_of}
use Rattle.text.proofs.read.word.Goals as goal

pub returns-in_err-digit : goal.returns-in_err-digit
unfolding word_by word_of
returns-in_err-digit c = search rules

pub returns-in_err-digit-2 : goal.returns-in_err-digit-2
unfolding word_by word_of
returns-in_err-digit-2 c = search rules

pub returns-in_err-digit-3 : goal.returns-in_err-digit-3
unfolding word_by word_of
returns-in_err-digit-3 c = search rules

pub returns-in_err-digit-4 : goal.returns-in_err-digit-4
unfolding word_by word_of
returns-in_err-digit-4 c = search rules

pub returns : goal.returns
unfolding word_by word_of
returns c = search rules
