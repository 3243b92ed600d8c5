-- Known lines, computed (docs/TEST-CASES.md). Assumes nothing.
use Rattle.std.proofs.Common.{◌≡◌, [], ◌∷◌, Ok, Err, Some, None, refl}
use Rattle.text.specs.Texts.{digit_of, word_by, word_of}
use Rattle.test_case_line.specs.declared.kind.Kind.TheVariants.{Memory, Duration}
use Rattle.test_case_line.specs.Kinds.{malformed, kind_of}
use Rattle.test_case_line.specs.Lines.{entry, entry_of, entry_by, line_of}

-- "M 0100 82FA"
memory-line : line_of (77 ∷ 32 ∷ 48 ∷ 49 ∷ 48 ∷ 48 ∷ 32 ∷ 56 ∷ 50 ∷ 70 ∷ 65 ∷ []) ≡ Ok (Some (entry Memory 256 33530))
unfolding digit_of word_by word_of kind_of entry_of entry_by line_of
memory-line = refl

-- the same with one byte more
too_long : line_of (77 ∷ 32 ∷ 48 ∷ 49 ∷ 48 ∷ 48 ∷ 32 ∷ 56 ∷ 50 ∷ 70 ∷ 65 ∷ 32 ∷ []) ≡ Err malformed
unfolding digit_of word_by word_of kind_of entry_of entry_by line_of
too_long = refl

-- "M 4000 0000": there is no such word
outside : line_of (77 ∷ 32 ∷ 52 ∷ 48 ∷ 48 ∷ 48 ∷ 32 ∷ 48 ∷ 48 ∷ 48 ∷ 48 ∷ []) ≡ Err malformed
unfolding digit_of word_by word_of kind_of entry_of entry_by line_of
outside = refl

-- "L 0001 0201": there are not so many page registers
too_many : line_of (76 ∷ 32 ∷ 48 ∷ 48 ∷ 48 ∷ 49 ∷ 32 ∷ 48 ∷ 50 ∷ 48 ∷ 49 ∷ []) ≡ Err malformed
unfolding digit_of word_by word_of kind_of entry_of entry_by line_of
too_many = refl

-- "D 0101 0064": all durations; "D 0102 0064": there is no such number
durations-line : line_of (68 ∷ 32 ∷ 48 ∷ 49 ∷ 48 ∷ 49 ∷ 32 ∷ 48 ∷ 48 ∷ 54 ∷ 52 ∷ []) ≡ Ok (Some (entry Duration 257 100))
unfolding digit_of word_by word_of kind_of entry_of entry_by line_of
durations-line = refl

no-duration : line_of (68 ∷ 32 ∷ 48 ∷ 49 ∷ 48 ∷ 50 ∷ 32 ∷ 48 ∷ 48 ∷ 54 ∷ 52 ∷ []) ≡ Err malformed
unfolding digit_of word_by word_of kind_of entry_of entry_by line_of
no-duration = refl

-- "L 0003 0102": there are not so many durations
too-many-durations : line_of (76 ∷ 32 ∷ 48 ∷ 48 ∷ 48 ∷ 51 ∷ 32 ∷ 48 ∷ 49 ∷ 48 ∷ 50 ∷ []) ≡ Err malformed
unfolding digit_of word_by word_of kind_of entry_of entry_by line_of
too-many-durations = refl

-- "# a remark"
remark : line_of (35 ∷ 32 ∷ 97 ∷ 32 ∷ 114 ∷ 101 ∷ 109 ∷ 97 ∷ 114 ∷ 107 ∷ []) ≡ Ok None
unfolding line_of
remark = refl
