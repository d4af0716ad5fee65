-- `write_ext::gen_at` meets its contract: there is no text, or no room, or it is put in. Assumes
-- nothing.
use mathlib.Core.Path.{◌≡◌, sym, ◌∙◌}
use Rattle.refusal.specs.Answers.{accepted, as_answer}
use Rattle.refusal.proofs.Told.{case, hands_on}
use Rattle.wire.specs.Puts.{room_at}
use Rattle.write_ext.proofs.OneText.{Made, made, data_list, data_plain, list_fits, data_fits}
use Rattle.write_ext.proofs.OneText.{ext_none, ext_out, ext_in}
use Rattle.write_ext.proofs.gen_at.Goals as goal

pub returns-in_err-n : goal.returns-in_err-n
returns-in_err-n c =
    let o = ext_none c.args.ext_type c.args.content.now _ _
    (case as_answer c.extension_length.ensures c.in_err-n.was) in
    record {
      result_value = hands_on _ c.from_residual.ensures (sym o.says);
      out_after = sym o.leaves;
    }

pub put_list-requires : goal.put_list-requires
put_list-requires c =
    let text : Made c.args.ext_type c.args.content.now c.in_ok-n.n = made c.args.ext_type c.args.content.now (case as_answer c.extension_length.ensures c.in_ok-n.was) in
    let room : room_at c.args.out.now c.args.at c.in_ok-n.n ≡ accepted c.in_ok-p.p = case as_answer c.room_for.ensures c.in_ok-p.was in
    list_fits (text) _ _ (room)
    (sym (c.inner_length.ensures _) ∙ c.if-inner_length-eq2.true)

pub put_data-requires : goal.put_data-requires
put_data-requires c =
    let text : Made c.args.ext_type c.args.content.now c.in_ok-n.n = made c.args.ext_type c.args.content.now (case as_answer c.extension_length.ensures c.in_ok-n.was) in
    let room : room_at c.args.out.now c.args.at c.in_ok-n.n ≡ accepted c.in_ok-p.p = case as_answer c.room_for.ensures c.in_ok-p.was in
    data_fits (text) _ _ (room)

pub returns-in_err-p : goal.returns-in_err-p
returns-in_err-p c =
    let text : Made c.args.ext_type c.args.content.now c.in_ok-n.n = made c.args.ext_type c.args.content.now (case as_answer c.extension_length.ensures c.in_ok-n.was) in
    let o = ext_out (text) _ _
    (case as_answer c.room_for.ensures c.in_err-p.was) in
    record {
      result_value = hands_on _ c.from_residual-in_err-p.ensures (sym o.says);
      out_after = sym o.leaves;
    }

pub returns-then-inner_length-eq2 : goal.returns-then-inner_length-eq2
returns-then-inner_length-eq2 c =
    let text : Made c.args.ext_type c.args.content.now c.in_ok-n.n = made c.args.ext_type c.args.content.now (case as_answer c.extension_length.ensures c.in_ok-n.was) in
    let room : room_at c.args.out.now c.args.at c.in_ok-n.n ≡ accepted c.in_ok-p.p = case as_answer c.room_for.ensures c.in_ok-p.was in
    let o = ext_in (text) _ _ _ _ (room)
    (data_list c.args.ext_type c.args.content.now (sym (c.inner_length.ensures _) ∙ c.if-inner_length-eq2.true))
    c.put_list.ensures in
    record {
      result_value = sym o.says;
      out_after = sym o.leaves;
    }

pub returns-else-inner_length-eq2 : goal.returns-else-inner_length-eq2
returns-else-inner_length-eq2 c =
    let text : Made c.args.ext_type c.args.content.now c.in_ok-n.n = made c.args.ext_type c.args.content.now (case as_answer c.extension_length.ensures c.in_ok-n.was) in
    let room : room_at c.args.out.now c.args.at c.in_ok-n.n ≡ accepted c.in_ok-p.p = case as_answer c.room_for.ensures c.in_ok-p.was in
    let o = ext_in (text) _ _ _ _ (room)
    (data_plain c.args.ext_type c.args.content.now (λ e. c.if-inner_length-eq2.false (c.inner_length.ensures _ ∙ e)))
    c.put_data.ensures in
    record {
      result_value = sym o.says;
      out_after = sym o.leaves;
    }
