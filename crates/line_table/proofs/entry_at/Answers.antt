-- The answers to the goals of `line_table::entry_at`. Assumes nothing.
use Rattle.text.specs.Texts.{bytes_of}
use Rattle.decode.specs.Pages.{pages}
use Rattle.line_table.specs.Boxes.{box_of}
use Rattle.line_table.specs.Entries.{filled, three, entry, entry_in, entry_of, word_at}
use Rattle.line_table.proofs.TableLaws.{entries_from, table-entry}
use Rattle.line_table.proofs.entry_at.Goals as goal

pub returns : goal.returns
unfolding entries_from entry_of box_of word_at pages entry_in entry filled three bytes_of
returns c = table-entry c.args.i c.requires
