-- The answers to the goals of `line_request::answer::put_printed`. Assumes nothing.
use Rattle.std.proofs.Common.{rules, refl, append_assoc}
use Rattle.line.specs.Lines.{line_of}
use Rattle.line_request.proofs.RequestLaws.{print-some, print-none}
use Rattle.line_request.proofs.answer.put_printed.Goals as goal

pub returns-in-Some-clause-text : goal.returns-in-Some-clause-text
returns-in-Some-clause-text g c =
    rw (c.push.ensures.items, c.put_bytes.ensures.text, c.as_slice.ensures.value, append_assoc, print-some (line_of c.args.w c.args.v) c.in-Some.text.items (search rules)) refl

pub returns-in-None-clause-text : goal.returns-in-None-clause-text
returns-in-None-clause-text g c = rw (c.put_refused.ensures.text, print-none (line_of c.args.w c.args.v) (search rules)) refl
