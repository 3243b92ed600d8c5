-- Opens every definition of the machine at once: `unfolding machinery`. Written by tools/open.py. Assumes nothing.
use Rattle.page.specs.Pages.{lock_of, protect_of, frame_of, set_of, register_at, ioi_of, mfs_at, admits, barred, physical, placed, through, present, lookup}
use Rattle.page.specs.Spans.{wrapped, got_at, word_of, put_at, and_then, passed, checked_from, checked, read_from, words_of, written_from, written}
use Rattle.bits.specs.Bits.{bit, set_bit, reset_bit, test_bit}
use Rattle.bits.specs.Bytes.{bytes, upper_byte, lower_byte, load_upper, load_lower, store_masked, store_upper, store_lower, exchange}
use Rattle.machine.specs.Entries.{takeable, lowest, chosen, read_after, got_zero, vector_at, vector_of, call_of, old_words, linked, link_stored, stored_after, machine_error, arrived}
use Rattle.machine.specs.Faults.{followed, recorded}
use Rattle.machine.specs.Instructions.{permitted, ready_at, redirected, derived, extended, granted, decoded, fetched, prepared, both, supervised, operated, accessed, carried, instructed}
use Rattle.machine.specs.Machine.{next_of}
use Rattle.machine.specs.OldTimers.{rises_b, old_elapsed, old_ticked, performed, old_step, old_steps, LeaveB}
use Rattle.machine.specs.Runs.{size_number, number_of, whole_pages, asked, asked_all, sizes_answer, admission, answer_of, steps_of, made, items, cons_unless, steps, left, answers, after_runs, timeline, first_entry, before_entry}
use Rattle.machine.specs.State.{cs_of, key_of, group_of, with_cs, with_ic, with_sw, with_mk, with_pi, with_faults, with_ft, with_mfs, with_enabled, with_hold, with_ta, with_tb, with_rem_a, with_rem_b, with_ta_on, with_tb_on, with_count, reset_state, advanced}
use Rattle.machine.specs.Step.{released, begun_from, faulted, affected, stored, entered, perform, counted, rises, remaining, risen, passing, elapsed, expired, ticked, tick, timed_by, timing, duration, is_entry, begun, action, step}
use Rattle.machine.specs.Timelines.{steps_later, play, entry_in}

unfoldable pub machinery : Unit {0}
unfolding lock_of protect_of frame_of set_of register_at ioi_of mfs_at admits barred physical placed through present lookup wrapped got_at word_of put_at and_then passed checked_from checked read_from words_of written_from written bit set_bit reset_bit test_bit bytes upper_byte lower_byte load_upper load_lower store_masked store_upper store_lower exchange takeable lowest chosen read_after got_zero vector_at vector_of call_of old_words linked link_stored stored_after machine_error arrived followed recorded permitted ready_at redirected derived extended granted decoded fetched prepared both supervised operated accessed carried instructed next_of rises_b old_elapsed old_ticked performed old_step old_steps LeaveB size_number number_of whole_pages asked asked_all sizes_answer admission answer_of steps_of made items cons_unless steps left answers after_runs timeline first_entry before_entry cs_of key_of group_of with_cs with_ic with_sw with_mk with_pi with_faults with_ft with_mfs with_enabled with_hold with_ta with_tb with_rem_a with_rem_b with_ta_on with_tb_on with_count reset_state advanced released begun_from faulted affected stored entered perform counted rises remaining risen passing elapsed expired ticked tick timed_by timing duration is_entry begun action step steps_later play entry_in
machinery = tt
