-- `writer::file::write` meets its contract.
use mathlib.Core.Path.{sym, ◌∙◌}
use native.Mathlib.Omega.{arith}
use borrow.Author.Rules.{rules}
use lib.ListN.{length-take}
use Rattle.scan.proofs.Exits.{exits}
use Rattle.text.proofs.Buffers.{fits, short, of_equal}
use Rattle.append.proofs.Appending.{front_is, within_front}
use Rattle.writer.proofs.CheckLaws.{frame_passes, length_passes, sized, size_refused, length_made, refuses_with, failed_written, made}
use Rattle.writer.proofs.file.write.Goals as goal

pub returns-in_err-size-clause-result_value : goal.returns-in_err-size-clause-result_value
returns-in_err-size-clause-result_value c =
    exits _ c.from_residual.ensures.1 ∙ (refuses_with c.args.out.now (size_refused _ _ _ (sym c.data_size.ensures ∙ c.in_err-size.was))).0

pub returns-in_err-size-clause-out_after : goal.returns-in_err-size-clause-out_after
returns-in_err-size-clause-out_after c =
    (refuses_with c.args.out.now (size_refused _ _ _ (sym c.data_size.ensures ∙ c.in_err-size.was))).1

pub put_front-requires-clause-f_value : goal.put_front-requires-clause-f_value
put_front-requires-clause-f_value c =
    let says = sized _ _ _ (sym c.data_size.ensures ∙ c.in_ok-size.was) in
    (frame_passes _ _ _ says.allowed, says.small)

pub file_length-requires : goal.file_length-requires
file_length-requires c =
    let says = sized _ _ _ (sym c.data_size.ensures ∙ c.in_ok-size.was) in
    (simp length-take (omega (arith, c.put_front.ensures.upper_bound, c.new-front.ensures.value.1)), says.title_small, says.small)

pub returns-in_err-length-clause-result_value : goal.returns-in_err-length-clause-result_value
returns-in_err-length-clause-result_value c =
    let says = sized _ _ _ (sym c.data_size.ensures ∙ c.in_ok-size.was) in
    let is = front_is (within_front c.new-front.ensures.value.0 c.new-front.ensures.value.1 (search rules) c.put_front.ensures) in
    let long = c.file_length.ensures _ says.is ∙ length_made says is in
    exits _ c.from_residual-in_err-length.ensures.1 ∙ (failed_written _ c.args.out.now (sym long ∙ c.in_err-length.was)).0

pub returns-in_err-length-clause-out_after : goal.returns-in_err-length-clause-out_after
returns-in_err-length-clause-out_after c =
    let says = sized _ _ _ (sym c.data_size.ensures ∙ c.in_ok-size.was) in
    let is = front_is (within_front c.new-front.ensures.value.0 c.new-front.ensures.value.1 (search rules) c.put_front.ensures) in
    let long = c.file_length.ensures _ says.is ∙ length_made says is in
    (failed_written _ c.args.out.now (sym long ∙ c.in_err-length.was)).1

pub returns-then-length-out-clause-result_value : goal.returns-then-length-out-clause-result_value
returns-then-length-out-clause-result_value c =
    let says = sized _ _ _ (sym c.data_size.ensures ∙ c.in_ok-size.was) in
    let is = front_is (within_front c.new-front.ensures.value.0 c.new-front.ensures.value.1 (search rules) c.put_front.ensures) in
    let file = made says is (sym (c.file_length.ensures _ says.is) ∙ c.in_ok-length.was) in
    c.failure.ensures ∙ (of_equal _ _ _ (sym file.is) (short _ _ file.length_is c.if-length-out.true)).0

pub returns-then-length-out-clause-out_after : goal.returns-then-length-out-clause-out_after
returns-then-length-out-clause-out_after c =
    let says = sized _ _ _ (sym c.data_size.ensures ∙ c.in_ok-size.was) in
    let is = front_is (within_front c.new-front.ensures.value.0 c.new-front.ensures.value.1 (search rules) c.put_front.ensures) in
    let file = made says is (sym (c.file_length.ensures _ says.is) ∙ c.in_ok-length.was) in
    (of_equal _ _ _ (sym file.is) (short _ _ file.length_is c.if-length-out.true)).1

pub put_file-requires-clause-f_value : goal.put_file-requires-clause-f_value
put_file-requires-clause-f_value c =
    let says = sized _ _ _ (sym c.data_size.ensures ∙ c.in_ok-size.was) in
    (frame_passes _ _ _ says.allowed, length_passes _ _ _ says.allowed)

pub put_file-requires-clause-short : goal.put_file-requires-clause-short
put_file-requires-clause-short c =
    let says = sized _ _ _ (sym c.data_size.ensures ∙ c.in_ok-size.was) in
    let is = front_is (within_front c.new-front.ensures.value.0 c.new-front.ensures.value.1 (search rules) c.put_front.ensures) in
    let file = made says is (sym (c.file_length.ensures _ says.is) ∙ c.in_ok-length.was) in
    file.short

pub put_file-requires-clause-room : goal.put_file-requires-clause-room
put_file-requires-clause-room c =
    let says = sized _ _ _ (sym c.data_size.ensures ∙ c.in_ok-size.was) in
    let is = front_is (within_front c.new-front.ensures.value.0 c.new-front.ensures.value.1 (search rules) c.put_front.ensures) in
    let file = made says is (sym (c.file_length.ensures _ says.is) ∙ c.in_ok-length.was) in
    rw file.length_is at c.if-length-out.false

pub returns-clause-result_value : goal.returns-clause-result_value
returns-clause-result_value c =
    let says = sized _ _ _ (sym c.data_size.ensures ∙ c.in_ok-size.was) in
    let is = front_is (within_front c.new-front.ensures.value.0 c.new-front.ensures.value.1 (search rules) c.put_front.ensures) in
    let file = made says is (sym (c.file_length.ensures _ says.is) ∙ c.in_ok-length.was) in
    (of_equal _ _ _ (sym file.is) (fits _ _ file.length_is c.if-length-out.false c.put_file.ensures)).0

pub returns-clause-out_after : goal.returns-clause-out_after
returns-clause-out_after c =
    let says = sized _ _ _ (sym c.data_size.ensures ∙ c.in_ok-size.was) in
    let is = front_is (within_front c.new-front.ensures.value.0 c.new-front.ensures.value.1 (search rules) c.put_front.ensures) in
    let file = made says is (sym (c.file_length.ensures _ says.is) ∙ c.in_ok-length.was) in
    (of_equal _ _ _ (sym file.is) (fits _ _ file.length_is c.if-length-out.false c.put_file.ensures)).1
