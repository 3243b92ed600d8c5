-- Opens every definition of reset and of images at once: `unfolding images`. Written by tools/open.py. Assumes nothing.
use Rattle.reset.specs.Reset.{cycle, reset_pages, reset_machine}
use Rattle.image.specs.Image.{word_at, long_at, is_empty, count_of, entry_at, words_before, table_end, body_at, words_from, unless_refused, target_size, end_of, share, shares_earlier, entry_answer, entries_answer, table_answer, image_answer, admission, answer_of, control_of, with_control, with_words, with_body, with_bodies, loaded, after_loading}

unfoldable pub images : Unit {0}
unfolding cycle reset_pages reset_machine word_at long_at is_empty count_of entry_at words_before table_end body_at words_from unless_refused target_size end_of share shares_earlier entry_answer entries_answer table_answer image_answer admission answer_of control_of with_control with_words with_body with_bodies loaded after_loading
images = tt
