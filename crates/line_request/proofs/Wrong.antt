-- Two wrong answers of each contract that other crates call, beside the right one, which the checker computes. Assumes nothing.
use Rattle.std.proofs.Common.{T, List, [], ◌∷◌}
use Rattle.choice.proofs.Rows.{Row, some, hold}
use Rattle.text.specs.Texts.{bytes_of, numbered_line}
use Rattle.line.proofs.Known.{lines}
use Rattle.line_request.specs.Requests.{printing, words_asked, request_of, refused, print_text, words_text, answer_by, answer_to}
use Rattle.line_request.specs.Session.{session, begun, number_of, on_end, with_byte, on_byte, on_last}

pub rows : List Row
unfolding lines numbered_line printing words_asked request_of refused print_text words_text answer_by answer_to begun number_of on_end with_byte on_byte on_last
rows =
    -- input::begin: a line stands before the input; a byte
    some (begun.lines ∷ begun.at ∷ begun.line) (0 ∷ 0 ∷ []) (1 ∷ 0 ∷ []) (0 ∷ 1 ∷ 10 ∷ [])
    -- input::take: lines are counted from 0; a line of another form is refused by 14
    ∷ some (on_byte (session (bytes_of "w 823F 0000") 11 4) 10).text (bytes_of "malformed line 5\n") (bytes_of "malformed line 4\n") (bytes_of "refused 14\n")
    -- input::take: the words in the other order; no newline behind the answer
    ∷ some (on_byte (session (bytes_of "L STC 0,0200") 12 0) 10).text (bytes_of "9100 0200\n") (bytes_of "0200 9100\n") (bytes_of "9100 0200")
    -- input::take: the second word is malformed; the second word of an instruction of one word is printed
    ∷ some (on_byte (session (bytes_of "W 823F 0001") 11 0) 10).text (bytes_of "LISP R3,16\n") (bytes_of "malformed line 1\n") (bytes_of "LISP R3,16,0001\n")
    -- input::take: the letter and the blank are not kept; the byte is not kept
    ∷ some (on_byte (session (bytes_of "L NO") 4 0) 80).session.line (bytes_of "L NOP") (bytes_of "NOP") (bytes_of "L NO")
    -- input::finish: a last line without its newline is not answered; it is malformed
    ∷ some (on_last (session (bytes_of "L NOP") 5 0)).text (bytes_of "FF00\n") [] (bytes_of "malformed line 1\n")
    -- input::finish: nothing behind the last newline is a malformed line; it is an unknown mnemonic
    ∷ some (on_last (session [] 0 7)).text [] (bytes_of "malformed line 8\n") (bytes_of "refused 14\n")
    ∷ []

pub rows-hold : T (hold rows)
unfolding rows lines numbered_line printing words_asked request_of refused print_text words_text answer_by answer_to begun number_of on_end with_byte on_byte on_last
rows-hold = tt
