-- Opens every definition of decoding at once: `unfolding decoder`. Written by tools/open.py. Assumes nothing.
use Rattle.decode.specs.Decode.{decode_of, form_of}
use Rattle.decode.specs.Forms.{privileged_operations}
use Rattle.decode.specs.Pages.{pages}

unfoldable pub decoder : Unit {0}
unfolding decode_of form_of privileged_operations pages
decoder = tt
