-- `write_message::gen_tls_messagehandshake` meets its contract, by that of the writer of each kind.
-- Assumes nothing.
use mathlib.Core.Path.{ap, sym, ◌∙◌}
use Rattle.refusal.specs.Answers.{refused}
use Rattle.wire.proofs.Puts.{text_refused}
use Rattle.write_message.proofs.Unwritten.{others}
use borrow.Enum.Refused.{opened}
use Rattle.write_message.proofs.gen_tls_messagehandshake.Goals as goal

pub returns-in_default : goal.returns-in_default
returns-in_default c =
    let o = text_refused 0 c.args.out.now (others c.args.i.now c.args.m (opened c.in_default.in_default-own.keys7)) in
    record {
      result_value = ap refused c.unplaced.ensures ∙ sym o.says;
      out_after = sym o.leaves;
    }
